use Rattle.std.proofs.Common.{refl}
use Rattle.yaml_sink.specs.PropertyRules.{props_of}
use Rattle.yaml_tree_builder.specs.BuilderModel.{start_of}
use Rattle.yaml_tree_builder.proofs.JudgedLaws.{takes-refused, takes-stopped, takes-stepped}
use Rattle.yaml_tree_builder.proofs.judged.Judged.begin.Goals as goal

pub returns-in-Some : goal.returns-in-Some
returns-in-Some c = λ flow.
    let p = props_of c.args.properties.now in
    takes-refused c.args.self.now c.in-Some.field-0 c.args.at (start_of c.args.collection flow p.anchor p.tag) c.in-Some.is

pub returns-in_ok-refusal : goal.returns-in_ok-refusal
returns-in_ok-refusal c = λ flow.
    let p = props_of c.args.properties.now in
    takes-stopped c.args.self.now _ c.args.at (start_of c.args.collection flow p.anchor p.tag) c.in-Err.stop c.in_ok-refusal.field-0 c.in_default.is refl c.in_ok-refusal.ensures (λ s h. c.in-Err.ensures s h flow)

pub returns-in_default-begin : goal.returns-in_default-begin
returns-in_default-begin c = λ flow.
    let p = props_of c.args.properties.now in
    takes-stepped c.args.self.now _ c.args.at (start_of c.args.collection flow p.anchor p.tag) c.in_default.is refl (λ s h. c.in_default-begin.ensures s h flow)
