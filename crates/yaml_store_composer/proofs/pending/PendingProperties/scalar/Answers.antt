use Rattle.std.proofs.Common.{reverse}
use Rattle.std.specs.Cow.{cow_str_bytes}
use Rattle.yaml_definitions.specs.model.Event.{scalar_event}
use Rattle.yaml_text.specs.EventModel.{style_of}
use Rattle.yaml_sink.specs.PropertyRules.{props_of}
use Rattle.yaml_tree_builder.proofs.NodeLaws.{scalar-node}
use Rattle.yaml_store_composer.proofs.DueLaws.{tells-node}
use Rattle.yaml_store_composer.proofs.pending.PendingProperties.scalar.Goals as goal

pub returns : goal.returns
returns c =
    let mid = c.go_on.new.self in
    let p = props_of c.args.properties.now in
    let y = style_of c.args.style in
    let x = (cow_str_bytes c.args.text.now) in
    λ log l t. tells-node mid.judged c.scalar.new.self mid.ended (reverse mid.opens.items) mid.early c.args.at c.in_ok-number.number (scalar_event p.anchor p.tag y x) c.in_ok-go_on.ensures.none (scalar-node p.anchor p.tag y x) c.in_ok-number.ensures c.in_ok-scalar.ensures log l (c.in_ok-go_on.ensures.tells log t)
