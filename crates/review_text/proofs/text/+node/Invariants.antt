use Rattle.std.proofs.Common.{ℕ, List, ◌+◌, ◌*◌, ◌++◌}
use Rattle.std.specs.String.{string_bytes}
use Rattle.yaml_definitions.specs.model.Order.{arranged}
use Rattle.yaml_tree.specs.declared.node.NodeId.{NodeId}
use Rattle.yaml_store_rank.specs.Forests.{tree, rank, entries_at, InKeyOrder}
use Rattle.yaml_store_rank.specs.ArrangedForests.{two_arranged}
use Rattle.review_text.proofs.NodeLaws.{Alike, items_left, items_whole, entries_left, entries_whole}
use Rattle.review_text.proofs.text.+node.Given as goal

abbrev pub decreases-put_node : goal.decreases-put_node
decreases-put_node l = 2 * l.id.0 + 1

abbrev pub decreases-put_items : goal.decreases-put_items
decreases-put_items l = 2 * l.owner.0

abbrev pub decreases-put_entries : goal.decreases-put_entries
decreases-put_entries l = 2 * l.mapping.0

abbrev pub invariant-put_items-loop-place : goal.invariant-put_items-loop-place
invariant-put_items-loop-place l =
    let f = λ (i : NodeId). arranged (tree l.forests i.0) in
    Alike l.room (string_bytes l.out ++ items_left f l.items l.place) (string_bytes l.fn.out ++ items_whole f l.items)

abbrev pub invariant-put_entries-loop-place : goal.invariant-put_entries-loop-place
invariant-put_entries-loop-place l =
    (sorted : List (ℕ × ℕ)) → InKeyOrder (rank l.forests) (entries_at l.forests l.mapping.0) sorted →
    Alike l.room (string_bytes l.out ++ entries_left (two_arranged l.forests) sorted l.place) (string_bytes l.fn.out ++ entries_whole (two_arranged l.forests) sorted)
