use Rattle.std.proofs.Common.{◌≡◌, ◌+◌, ◌*◌, drop}
use Rattle.yaml_definitions.specs.model.Tree.{height, heights, heights_of_pairs}
use Rattle.yaml_spell.specs.NamesView.{table_of, NamesNone}
use Rattle.yaml_spell.specs.RankedNodes.{tree_of, trees_of, pairs_of}
use Rattle.yaml_spell.specs.Walked.{noticed_all, noticed_pairs}
use Rattle.yaml_spell.proofs.walk.+notice.Given as goal

abbrev pub decreases-notice : goal.decreases-notice
decreases-notice g l = 2 * height (tree_of g.V.RankedNodes.tree g.V.RankedNodes.number l.view.now l.id) + 1

abbrev pub decreases-notice_items : goal.decreases-notice_items
decreases-notice_items g l = 2 * heights (trees_of g.V.RankedNodes.tree g.V.RankedNodes.number l.view.now l.items.now)

abbrev pub decreases-notice_entries : goal.decreases-notice_entries
decreases-notice_entries g l = 2 * heights_of_pairs (pairs_of g.V.RankedNodes.tree g.V.RankedNodes.number l.view.now l.entries.now)

abbrev pub invariant-notice_items-loop-item : goal.invariant-notice_items-loop-item
invariant-notice_items-loop-item g l =
    record {
      table : noticed_all (g.V.RankedNodes.rank l.view) (trees_of g.V.RankedNodes.tree g.V.RankedNodes.number l.view (drop l.item-index l.items)) (table_of l.names)
          ≡ noticed_all (g.V.RankedNodes.rank l.view) (trees_of g.V.RankedNodes.tree g.V.RankedNodes.number l.view l.items) (table_of l.initial.names);
      others : NamesNone l.initial.names l.names;
    }

abbrev pub invariant-notice_entries-loop-entry : goal.invariant-notice_entries-loop-entry
invariant-notice_entries-loop-entry g l =
    record {
      table : noticed_pairs (g.V.RankedNodes.rank l.view) (pairs_of g.V.RankedNodes.tree g.V.RankedNodes.number l.view (drop l.entry-index l.entries)) (table_of l.names)
          ≡ noticed_pairs (g.V.RankedNodes.rank l.view) (pairs_of g.V.RankedNodes.tree g.V.RankedNodes.number l.view l.entries) (table_of l.initial.names);
      others : NamesNone l.initial.names l.names;
    }
