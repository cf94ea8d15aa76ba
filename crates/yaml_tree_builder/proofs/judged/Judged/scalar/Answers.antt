use Rattle.std.proofs.Common.{refl}
use Rattle.std.specs.Cow.{cow_str_bytes}
use Rattle.yaml_definitions.specs.model.Event.{scalar_event}
use Rattle.yaml_text.specs.EventModel.{style_of}
use Rattle.yaml_sink.specs.PropertyRules.{props_of}
use Rattle.yaml_tree_builder.proofs.JudgedLaws.{takes-refused, takes-stopped, takes-stepped}
use Rattle.yaml_tree_builder.proofs.judged.Judged.scalar.Goals as goal

pub returns-in-Some : goal.returns-in-Some
returns-in-Some c =
    let p = props_of c.args.properties.now in
    takes-refused c.args.self.now c.in-Some.field-0 c.args.at (scalar_event p.anchor p.tag (style_of c.args.style) (cow_str_bytes c.args.text.now)) c.in-Some.is

pub returns-in_ok-refusal : goal.returns-in_ok-refusal
returns-in_ok-refusal c =
    let p = props_of c.args.properties.now in
    takes-stopped c.args.self.now _ c.args.at (scalar_event p.anchor p.tag (style_of c.args.style) (cow_str_bytes c.args.text.now)) c.in-Err.stop c.in_ok-refusal.field-0 c.in_default.is refl c.in_ok-refusal.ensures c.in-Err.ensures

pub returns-in_default-scalar : goal.returns-in_default-scalar
returns-in_default-scalar c =
    let p = props_of c.args.properties.now in
    takes-stepped c.args.self.now _ c.args.at (scalar_event p.anchor p.tag (style_of c.args.style) (cow_str_bytes c.args.text.now)) c.in_default.is refl c.in_default-scalar.ensures
