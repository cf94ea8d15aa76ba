use Rattle.std.proofs.Common.{◌<◌, map, slice_index, sym, ◌∙◌, ap, subst, rules}
use Rattle.std.specs.List.{All}
use Rattle.std.specs.Cow.{cow_str_bytes}
use Rattle.yaml_definitions.specs.model.Tree.{scalar, height}
use Rattle.yaml_graph.specs.GraphModel.{kind_tree, items_of, entries_of}
use Rattle.yaml_graph.specs.GraphView.{graph_trees}
use Rattle.yaml_graph.proofs.GraphLaws.{node-tree}
use Rattle.yaml_rank.specs.RankModel.{Arranges, RefusesKeys, RefusesEntries}
use Rattle.yaml_rank.proofs.KeyLaws.{scalar-made, sequence-made, mapping-made, refused}
use Rattle.yaml_rank.proofs.key_of.key_of.Goals as goal

pub returns-in_err-sorted-in-Mapping-clause-err : goal.returns-in_err-sorted-in-Mapping-clause-err
returns-in_err-sorted-in-Mapping-clause-err c =
    let g = c.args.graph.now in
    let k = c.args.number in
    let n = c.node.result.now in
    let there = c.node.ensures in
    let w = c.in-Mapping.is in
    let u = c.deref-in-Mapping.ensures.value in
    let es = c.in-Mapping.entries.items in
    let f : RefusesKeys g k c.in_err-sorted-in-Mapping.field-0.0 =
    refused g c.args.ranks.now k n there c.requires.within c.requires.settled es (ap entries_of w) (subst (λ kind. All (λ p. (p.0.0 < k) × (p.1.0 < k)) (entries_of kind)) w (g.grounded k n there).1)
    (sym (ap height (node-tree g.nodes.items k n g.grounded there ∙ ap (kind_tree (graph_trees g) _) w))) c.in_err-sorted-in-Mapping.field-0.0 (subst (λ z. RefusesEntries c.args.ranks.now z k c.in_err-sorted-in-Mapping.field-0.0) u c.in_err-sorted-in-Mapping.ensures.err) in
    search (rules, f)

pub returns-in-Scalar-clause-ok : goal.returns-in-Scalar-clause-ok
returns-in-Scalar-clause-ok c = λ tags at.
    let g = c.args.graph.now in
    let k = c.args.number in
    let n = c.node.result.now in
    let there = c.node.ensures in
    let tag = cow_str_bytes n.tag in
    let w = c.in-Scalar.is in
    scalar-made g c.args.ranks.now k n there c.requires.within c.requires.settled tags c.args.tag tag c.as_str-content.result.now c.prefix.result c.rest.result c.new.result.items (at n there) c.prefix.ensures c.rest.ensures
    (node-tree g.nodes.items k n g.grounded there ∙ (ap (kind_tree (graph_trees g) tag) w ∙ ap (scalar tag) (sym c.as_str-content.ensures.value))) c.new.ensures.items (ap entries_of w)

pub returns-in_ok-items-in-Sequence-clause-ok : goal.returns-in_ok-items-in-Sequence-clause-ok
returns-in_ok-items-in-Sequence-clause-ok c = λ tags at.
    let g = c.args.graph.now in
    let k = c.args.number in
    let n = c.node.result.now in
    let there = c.node.ensures in
    let tag = cow_str_bytes n.tag in
    let w = c.in-Sequence.is in
    let rs = c.args.ranks.now in
    sequence-made g rs k n there c.requires.within c.requires.settled tags c.args.tag tag c.in_ok-items-in-Sequence.items c.in-Sequence.items.items c.new-in-Sequence.result.items (at n there)
    (node-tree g.nodes.items k n g.grounded there ∙ ap (kind_tree (graph_trees g) tag) w) (subst (λ kind. All (λ i. i.0 < k) (items_of kind)) w (g.grounded k n there).0)
    (c.in_ok-items-in-Sequence.ensures.ok ∙ ap (map (λ i. slice_index rs i.0)) c.deref.ensures.value) c.new-in-Sequence.ensures.items (ap entries_of w)

pub returns-in_ok-sorted-in-Mapping-clause-ok : goal.returns-in_ok-sorted-in-Mapping-clause-ok
returns-in_ok-sorted-in-Mapping-clause-ok c = λ tags at.
    let g = c.args.graph.now in
    let k = c.args.number in
    let n = c.node.result.now in
    let there = c.node.ensures in
    let tag = cow_str_bytes n.tag in
    let w = c.in-Mapping.is in
    let rs = c.args.ranks.now in
    let made = c.in_ok-sorted-in-Mapping in
    mapping-made g rs k n there c.requires.within c.requires.settled tags c.args.tag tag made.pairs c.in-Mapping.entries.items made.sorted.items (at n there)
    (node-tree g.nodes.items k n g.grounded there ∙ ap (kind_tree (graph_trees g) tag) w) (subst (λ kind. All (λ p. (p.0.0 < k) × (p.1.0 < k)) (entries_of kind)) w (g.grounded k n there).1)
    (ap entries_of w) (subst (λ es. Arranges rs es made.sorted.items made.pairs.items) c.deref-in-Mapping.ensures.value made.ensures.ok)
