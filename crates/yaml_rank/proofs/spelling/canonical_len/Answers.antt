use Rattle.std.proofs.Common.{◌<◌, ◌∙◌, length, ap, subst, sym, rules}
use Rattle.std.specs.List.{All}
use Rattle.yaml_graph.specs.GraphView.{nodes_of, forest}
use Rattle.yaml_tree.specs.declared.node.NodeId.{NodeId}
use Rattle.yaml_spell.proofs.PieceLaws.{if_one, if_err}
use Rattle.yaml_spell.proofs.DocumentLaws.{arranged_refused}
use Rattle.yaml_rank.proofs.TextLaws.{graph_text}
use Rattle.yaml_rank.proofs.spelling.canonical_len.Goals as goal

pub ranked_len-requires : goal.ranked_len-requires
ranked_len-requires c =
    let G = c.args.graph.now in
    let within : All (λ (i : NodeId). i.0 < length (nodes_of G)) c.roots.result.now = subst (All (λ (i : NodeId). i.0 < length (nodes_of G))) (sym c.roots.ensures) G.rooted in
    search rules

pub returns-clause-ok : goal.returns-clause-ok
returns-clause-ok c =
    let e = graph_text c.args.graph.now c.roots.result.now c.roots.ensures in
    if_one c.ranked_len.result c.ranked_len.ensures.ok (λ len h. h ∙ ap length e)

pub returns-clause-err : goal.returns-clause-err
returns-clause-err c =
    let e = graph_text c.args.graph.now c.roots.result.now c.roots.ensures in
    if_err c.ranked_len.result c.ranked_len.ensures.err (λ fault h. arranged_refused _ (forest c.args.graph.now) fault e h)
