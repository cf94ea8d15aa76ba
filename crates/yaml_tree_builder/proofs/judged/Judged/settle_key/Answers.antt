use Rattle.std.proofs.Common.{◌∷◌, refl}
use Rattle.std.specs.Prelude.{false, Some}
use Rattle.yaml_definitions.specs.model.Event.{mapping_start, untagged}
use Rattle.yaml_sink.specs.PropertyRules.{props_of}
use Rattle.yaml_store.specs.declared.nodes.Collection.TheVariants as kinds
use Rattle.yaml_tree_builder.specs.BuilderModel.{start_of}
use Rattle.yaml_tree_builder.proofs.JudgedLaws.{over-refused, stops-there, settles-key-followed, settles-key-refused}
use Rattle.yaml_tree_builder.proofs.RefusalLaws.{begin-stops}
use Rattle.yaml_tree_builder.proofs.judged.Judged.settle_key.Goals as goal

pub returns-then-is_refused_before : goal.returns-then-is_refused_before
returns-then-is_refused_before c =
    let p = props_of c.args.properties.now in
    record {
      is = λ front es n k flow own l w h.
          let behind = start_of k flow own.anchor own.tag ∷ es in
          over-refused c.args.self.now c.args.start front (mapping_start false p.anchor untagged ∷ behind) (mapping_start false p.anchor p.tag ∷ behind) c.if-is_refused_before.ensures.yes l h;
    }

pub returns-in-Err : goal.returns-in-Err
returns-in-Err c =
    let p = props_of c.args.properties.now in
    record {
      is = λ front es n k flow own l w h.
          let behind = start_of k flow own.anchor own.tag ∷ es in
          stops-there c.args.self.now (record c.args.self.now { refusal = Some c.in_ok-refusal-in-Err.field-0 }) c.args.start front (mapping_start false p.anchor untagged ∷ behind) behind (mapping_start false p.anchor p.tag) c.in-Err.stop c.in_ok-refusal-in-Err.field-0 refl c.in_ok-refusal-in-Err.ensures (λ s. begin-stops kinds.Mapping false p.anchor p.tag s c.in-Err.stop c.in-Err.ensures) l c.if-is_refused_before.ensures.no h;
    }

pub returns-in-Some : goal.returns-in-Some
returns-in-Some c = settles-key-refused c.args.self.now c.args.start (props_of c.args.properties.now) c.in-Ok.tag.now c.in-Some.field-0 c.in-Some.is c.if-is_refused_before.ensures.no c.in-Ok.ensures

pub returns : goal.returns
returns c = settles-key-followed c.args.self.now _ c.args.start (props_of c.args.properties.now) c.in_default.is c.in_default.is (c.in_ok-settle_key.ensures c.args.start (props_of c.args.properties.now) c.in-Ok.ensures)
