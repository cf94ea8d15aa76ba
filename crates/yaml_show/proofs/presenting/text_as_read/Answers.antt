use Rattle.std.proofs.Common.{map, refl, sym, ◌∙◌, ap, subst}
use Rattle.yaml_tree.specs.declared.node.NodeId.{NodeId}
use Rattle.yaml_store_rank.specs.Forests.{tree}
use Rattle.yaml_show.specs.Layout.{shown_text}
use Rattle.yaml_show.specs.Refused.{RefusesBy}
use Rattle.yaml_show.proofs.ShownLaws.{stop_shown}
use Rattle.yaml_show.proofs.StreamLaws.{source_means, source_is, source_rooted}
use Rattle.yaml_show.proofs.presenting.text_as_read.Goals as goal

pub block_text-requires : goal.block_text-requires
block_text-requires c = source_rooted c.args.bytes.now c.in_ok-forests.forests c.in_ok-forests.ensures.shows c.documents.result.now c.documents.ensures c.laws.ensures _ refl

pub returns-in-Ok-clause-text : goal.returns-in-Ok-clause-text
returns-in-Ok-clause-text c = λ f m. c.in-Ok.ensures.ok ∙ ap shown_text (source_is c.args.bytes.now c.in_ok-forests.forests c.in_ok-forests.ensures.shows c.documents.result.now c.documents.ensures f m)

pub returns-clause-refused : goal.returns-clause-refused
returns-clause-refused c =
    let f = c.in_ok-forests.forests in
    let roots = c.documents.result.now in
    subst (RefusesBy shown_text c.args.bytes.now) (sym c.stopped.ensures) (stop_shown shown_text c.args.bytes.now (map (λ (i : NodeId). tree f i.0) roots) c.in-Err.stop (source_means c.args.bytes.now f c.in_ok-forests.ensures.shows roots c.documents.ensures) c.in-Err.ensures.err)
