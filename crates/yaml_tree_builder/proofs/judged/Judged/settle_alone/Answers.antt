use Rattle.std.proofs.Common.{◌∷◌, refl}
use Rattle.std.specs.Prelude.{false, Some}
use Rattle.yaml_definitions.specs.model.Event.{mapping_start, untagged}
use Rattle.yaml_sink.specs.PropertyRules.{props_of}
use Rattle.yaml_tree_builder.specs.BuilderModel.{start_of}
use Rattle.yaml_tree_builder.specs.declared.stop.Refusal.{Refusal}
use Rattle.yaml_tree_builder.proofs.JudgedLaws.{over-refused, stops-there, settles-alone-followed, settles-alone-refused}
use Rattle.yaml_tree_builder.proofs.RefusalLaws.{begin-stops}
use Rattle.yaml_tree_builder.proofs.judged.Judged.settle_alone.Goals as goal

pub returns-then-is_refused_before : goal.returns-then-is_refused_before
returns-then-is_refused_before c =
    let k = c.args.collection in
    let p = props_of c.args.properties.now in
    record {
      is = λ front es n flow outer own l w one g h.
          over-refused c.args.self.now c.args.start front (mapping_start false outer untagged ∷ (start_of k flow own.anchor own.tag ∷ es)) (start_of k flow p.anchor p.tag ∷ es) c.if-is_refused_before.ensures.yes l h;
    }

pub returns-in-Err : goal.returns-in-Err
returns-in-Err c =
    let k = c.args.collection in
    let p = props_of c.args.properties.now in
    record {
      is = λ front es n flow outer own l w one g h.
          stops-there c.args.self.now (record c.args.self.now { refusal = Some c.in_ok-refusal-in-Err.field-0 }) c.args.start front (mapping_start false outer untagged ∷ (start_of k flow own.anchor own.tag ∷ es)) es (start_of k flow p.anchor p.tag) c.in-Err.stop c.in_ok-refusal-in-Err.field-0 refl c.in_ok-refusal-in-Err.ensures (λ s. begin-stops k flow p.anchor p.tag s c.in-Err.stop c.in-Err.ensures) l c.if-is_refused_before.ensures.no h;
    }

pub returns-in_default : goal.returns-in_default
returns-in_default c = settles-alone-followed c.args.self.now _ c.args.start c.args.collection (props_of c.args.properties.now) c.in_default.is c.in_default.is (c.in_ok-settle_alone.ensures c.args.start c.args.collection (props_of c.args.properties.now) c.in-Ok.ensures)

pub returns : goal.returns
returns c =
    let r = c.in-Some.refusal in
    let s : Refusal = record { cause = r.cause; at = c.saturating_sub-at.result } in
    settles-alone-refused c.args.self.now (record c.args.self.now { refusal = Some s }) c.args.start c.args.collection (props_of c.args.properties.now) c.in-Ok.tag.now r s c.in-Some.is refl refl c.saturating_sub-at.ensures c.if-is_refused_before.ensures.no c.in-Ok.ensures
