use Rattle.std.proofs.Common.{◌≡◌, ◌+◌, ◌*◌, drop}
use Rattle.yaml_definitions.specs.model.Tree.{height, heights, heights_of_pairs}
use Rattle.yaml_spell.specs.NamesView.{ranks_in, given_of}
use Rattle.yaml_spell.specs.RankedNodes.{tree_of, trees_of, pairs_of}
use Rattle.yaml_spell.specs.Walked.{given_all, given_pairs, written_all, written_pairs}
use Rattle.yaml_show.proofs.DraftLaws.{Left}
use Rattle.yaml_show.specs.Sharing.{sharing_item_lines, sharing_entry_lines}
use Rattle.yaml_show.proofs.sharing.+sharing.Given as goal

abbrev pub decreases-put_node : goal.decreases-put_node
decreases-put_node g l = 3 * height (tree_of g.V.RankedNodes.tree g.V.RankedNodes.number l.view.now l.id) + 2

abbrev pub decreases-put_inside : goal.decreases-put_inside
decreases-put_inside g l = 3 * height (tree_of g.V.RankedNodes.tree g.V.RankedNodes.number l.view.now l.id) + 1

abbrev pub decreases-put_items : goal.decreases-put_items
decreases-put_items g l = 3 * heights (trees_of g.V.RankedNodes.tree g.V.RankedNodes.number l.view.now l.items.now)

abbrev pub decreases-put_entries : goal.decreases-put_entries
decreases-put_entries g l = 3 * heights_of_pairs (pairs_of g.V.RankedNodes.tree g.V.RankedNodes.number l.view.now l.entries.now)

abbrev pub invariant-put_items-loop-item : goal.invariant-put_items-loop-item
invariant-put_items-loop-item g l =
    record {
      known : given_all (g.V.RankedNodes.rank l.view) (trees_of g.V.RankedNodes.tree g.V.RankedNodes.number l.view (drop l.item-index l.items)) (given_of l.names)
          ≡ given_all (g.V.RankedNodes.rank l.view) (trees_of g.V.RankedNodes.tree g.V.RankedNodes.number l.view l.items) (given_of l.initial.names);
      long : ranks_in l.names ≡ ranks_in l.initial.names;
      left : Left l.initial.draft l.draft
          (sharing_item_lines l.is_begun l.level (trees_of g.V.RankedNodes.tree g.V.RankedNodes.number l.view (drop l.item-index l.items)) (written_all (g.V.RankedNodes.rank l.view) (trees_of g.V.RankedNodes.tree g.V.RankedNodes.number l.view (drop l.item-index l.items)) (given_of l.names)))
          (sharing_item_lines l.begun l.level (trees_of g.V.RankedNodes.tree g.V.RankedNodes.number l.view l.items) (written_all (g.V.RankedNodes.rank l.view) (trees_of g.V.RankedNodes.tree g.V.RankedNodes.number l.view l.items) (given_of l.initial.names)));
    }

abbrev pub invariant-put_entries-loop-entry : goal.invariant-put_entries-loop-entry
invariant-put_entries-loop-entry g l =
    record {
      known : given_pairs (g.V.RankedNodes.rank l.view) (pairs_of g.V.RankedNodes.tree g.V.RankedNodes.number l.view (drop l.entry-index l.entries)) (given_of l.names)
          ≡ given_pairs (g.V.RankedNodes.rank l.view) (pairs_of g.V.RankedNodes.tree g.V.RankedNodes.number l.view l.entries) (given_of l.initial.names);
      long : ranks_in l.names ≡ ranks_in l.initial.names;
      left : Left l.initial.draft l.draft
          (sharing_entry_lines l.is_begun l.level (pairs_of g.V.RankedNodes.tree g.V.RankedNodes.number l.view (drop l.entry-index l.entries)) (written_pairs (g.V.RankedNodes.rank l.view) (pairs_of g.V.RankedNodes.tree g.V.RankedNodes.number l.view (drop l.entry-index l.entries)) (given_of l.names)))
          (sharing_entry_lines l.begun l.level (pairs_of g.V.RankedNodes.tree g.V.RankedNodes.number l.view l.entries) (written_pairs (g.V.RankedNodes.rank l.view) (pairs_of g.V.RankedNodes.tree g.V.RankedNodes.number l.view l.entries) (given_of l.initial.names)));
    }
