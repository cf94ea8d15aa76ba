use Rattle.std.proofs.Common.{◌∙◌}
use Rattle.yaml_spell.proofs.ShownLaws.{scalar-shown, sequence-shown, mapping-shown}
use Rattle.yaml_show.proofs.LayoutLaws.{short_scalar, long_sequence, long_mapping}
use Rattle.yaml_show.proofs.flow.is_short.Goals as goal

pub returns-in-Scalar : goal.returns-in-Scalar
returns-in-Scalar g c =
    let N = g.V.RankedNodes.number in
    let T = g.V.RankedNodes.tree c.args.view.now in
    c.is_short_scalar.ensures ∙ short_scalar (T (N c.args.id)) c.node-node.result.tag.now c.in-Scalar.content.now (scalar-shown N T (T (N c.args.id)) _ _ _ c.node-node.ensures.tree c.in-Scalar.is)

pub returns-in-Sequence : goal.returns-in-Sequence
returns-in-Sequence g c =
    let N = g.V.RankedNodes.number in
    let T = g.V.RankedNodes.tree c.args.view.now in
    long_sequence (T (N c.args.id)) _ _ (sequence-shown N T (T (N c.args.id)) _ _ _ c.node-node.ensures.tree c.in-Sequence.is)

pub returns-in-Mapping : goal.returns-in-Mapping
returns-in-Mapping g c =
    let N = g.V.RankedNodes.number in
    let T = g.V.RankedNodes.tree c.args.view.now in
    long_mapping (T (N c.args.id)) _ _ (mapping-shown N T (T (N c.args.id)) _ _ _ c.node-node.ensures.tree c.in-Mapping.is)
