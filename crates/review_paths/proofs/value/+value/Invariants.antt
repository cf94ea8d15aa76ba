use Rattle.std.proofs.Common.{◌≡◌, ℕ, List, ◌+◌, ◌*◌}
use Rattle.yaml_definitions.specs.model.Order.{arranged}
use Rattle.yaml_store_rank.specs.Forests.{tree, rank, entries_at, InKeyOrder}
use Rattle.yaml_tree.specs.declared.node.NodeId.{NodeId}
use Rattle.yaml_store_rank.specs.ArrangedForests.{two_arranged}
use Rattle.yaml_show_scalar.specs.Stops.{limit_of}
use Rattle.yaml_show_scalar.specs.Texts.{written}
use Rattle.review_paths.proofs.ValueLaws.{ItemsAt, EntriesAt}
use Rattle.review_paths.proofs.value.+value.Given as goal

abbrev pub decreases-put_value : goal.decreases-put_value
decreases-put_value l = 2 * l.left

abbrev pub decreases-put_items : goal.decreases-put_items
decreases-put_items l = 2 * l.left + 1

abbrev pub decreases-put_entries : goal.decreases-put_entries
decreases-put_entries l = 2 * l.left + 1

abbrev pub invariant-put_items-loop-place : goal.invariant-put_items-loop-place
invariant-put_items-loop-place l = (limit_of l.out ≡ limit_of l.fn.out) × ItemsAt (λ (i : NodeId). arranged (tree l.forests i.0)) l.items l.place (written l.fn.out) (written l.out)

abbrev pub invariant-put_entries-loop-place : goal.invariant-put_entries-loop-place
invariant-put_entries-loop-place l = (limit_of l.out ≡ limit_of l.fn.out) × ((sorted : List (ℕ × ℕ)) → InKeyOrder (rank l.forests) (entries_at l.forests l.mapping.0) sorted → EntriesAt (two_arranged l.forests) sorted l.place (written l.fn.out) (written l.out))
