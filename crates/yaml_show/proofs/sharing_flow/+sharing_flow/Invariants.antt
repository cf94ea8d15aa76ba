use Rattle.std.proofs.Common.{◌≡◌, ◌+◌, ◌*◌, ◌∷◌, [], drop}
use Rattle.yaml_definitions.specs.model.Tree.{height, heights, heights_of_pairs}
use Rattle.yaml_spell.specs.NamesView.{ranks_in, given_of}
use Rattle.yaml_spell.specs.RankedNodes.{tree_of, trees_of, pairs_of}
use Rattle.yaml_spell.specs.Walked.{separator, given_all, given_pairs, written_all, written_pairs}
use Rattle.yaml_show.proofs.DraftLaws.{Left}
use Rattle.yaml_show.specs.Sharing.{sharing_items, sharing_entries}
use Rattle.yaml_show.proofs.sharing_flow.+sharing_flow.Given as goal

abbrev pub decreases-put_shared_flow : goal.decreases-put_shared_flow
decreases-put_shared_flow g l = 3 * height (tree_of g.V.RankedNodes.tree g.V.RankedNodes.number l.view.now l.id) + 2

abbrev pub decreases-put_flow_inside : goal.decreases-put_flow_inside
decreases-put_flow_inside g l = 3 * height (tree_of g.V.RankedNodes.tree g.V.RankedNodes.number l.view.now l.id) + 1

abbrev pub decreases-put_items : goal.decreases-put_items
decreases-put_items g l = 3 * heights (trees_of g.V.RankedNodes.tree g.V.RankedNodes.number l.view.now l.items.now)

abbrev pub decreases-put_entries : goal.decreases-put_entries
decreases-put_entries g l = 3 * heights_of_pairs (pairs_of g.V.RankedNodes.tree g.V.RankedNodes.number l.view.now l.entries.now)

abbrev pub invariant-put_items-loop-place : goal.invariant-put_items-loop-place
invariant-put_items-loop-place g l =
    record {
      known : given_all (g.V.RankedNodes.rank l.view) (trees_of g.V.RankedNodes.tree g.V.RankedNodes.number l.view (drop l.place l.items)) (given_of l.names)
          ≡ given_all (g.V.RankedNodes.rank l.view) (trees_of g.V.RankedNodes.tree g.V.RankedNodes.number l.view l.items) (given_of l.fn.names);
      long : ranks_in l.names ≡ ranks_in l.fn.names;
      left : Left l.fn.draft l.draft
          (sharing_items l.in_key (separator l.place) (trees_of g.V.RankedNodes.tree g.V.RankedNodes.number l.view (drop l.place l.items)) (written_all (g.V.RankedNodes.rank l.view) (trees_of g.V.RankedNodes.tree g.V.RankedNodes.number l.view (drop l.place l.items)) (given_of l.names)))
          (91 ∷ sharing_items l.in_key [] (trees_of g.V.RankedNodes.tree g.V.RankedNodes.number l.view l.items) (written_all (g.V.RankedNodes.rank l.view) (trees_of g.V.RankedNodes.tree g.V.RankedNodes.number l.view l.items) (given_of l.fn.names)));
    }

abbrev pub invariant-put_entries-loop-place : goal.invariant-put_entries-loop-place
invariant-put_entries-loop-place g l =
    record {
      known : given_pairs (g.V.RankedNodes.rank l.view) (pairs_of g.V.RankedNodes.tree g.V.RankedNodes.number l.view (drop l.place l.entries)) (given_of l.names)
          ≡ given_pairs (g.V.RankedNodes.rank l.view) (pairs_of g.V.RankedNodes.tree g.V.RankedNodes.number l.view l.entries) (given_of l.fn.names);
      long : ranks_in l.names ≡ ranks_in l.fn.names;
      left : Left l.fn.draft l.draft
          (sharing_entries l.in_key (separator l.place) (pairs_of g.V.RankedNodes.tree g.V.RankedNodes.number l.view (drop l.place l.entries)) (written_pairs (g.V.RankedNodes.rank l.view) (pairs_of g.V.RankedNodes.tree g.V.RankedNodes.number l.view (drop l.place l.entries)) (given_of l.names)))
          (123 ∷ sharing_entries l.in_key [] (pairs_of g.V.RankedNodes.tree g.V.RankedNodes.number l.view l.entries) (written_pairs (g.V.RankedNodes.rank l.view) (pairs_of g.V.RankedNodes.tree g.V.RankedNodes.number l.view l.entries) (given_of l.fn.names)));
    }
