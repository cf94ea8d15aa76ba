use Rattle.std.proofs.Common.{◌≡◌, ◌+◌, ◌*◌, ◌∷◌, [], drop}
use Rattle.yaml_definitions.specs.model.Tree.{height, heights, heights_of_pairs}
use Rattle.yaml_definitions.specs.canonical.NodeText.{items_text, pairs_text}
use Rattle.yaml_spell.specs.NamesView.{ranks_in, given_of}
use Rattle.yaml_spell.specs.RankedNodes.{tree_of, trees_of, pairs_of}
use Rattle.yaml_spell.specs.Walked.{separator, given_all, given_pairs, written_all, written_pairs}
use Rattle.yaml_spell.proofs.PieceLaws.{Left}
use Rattle.yaml_spell.proofs.walk.+write.Given as goal

abbrev pub decreases-write_node : goal.decreases-write_node
decreases-write_node g l = 3 * height (tree_of g.V.RankedNodes.tree g.V.RankedNodes.number l.view.now l.id) + 2

abbrev pub decreases-write_inside : goal.decreases-write_inside
decreases-write_inside g l = 3 * height (tree_of g.V.RankedNodes.tree g.V.RankedNodes.number l.view.now l.id) + 1

abbrev pub decreases-write_items : goal.decreases-write_items
decreases-write_items g l = 3 * heights (trees_of g.V.RankedNodes.tree g.V.RankedNodes.number l.view.now l.items.now)

abbrev pub decreases-write_entries : goal.decreases-write_entries
decreases-write_entries g l = 3 * heights_of_pairs (pairs_of g.V.RankedNodes.tree g.V.RankedNodes.number l.view.now l.entries.now)

abbrev pub invariant-write_items-loop-place : goal.invariant-write_items-loop-place
invariant-write_items-loop-place g l =
    record {
      known : given_all (g.V.RankedNodes.rank l.view) (trees_of g.V.RankedNodes.tree g.V.RankedNodes.number l.view (drop l.place l.items)) (given_of l.names)
          ≡ given_all (g.V.RankedNodes.rank l.view) (trees_of g.V.RankedNodes.tree g.V.RankedNodes.number l.view l.items) (given_of l.fn.names);
      long : ranks_in l.names ≡ ranks_in l.fn.names;
      left : Left g.S.Sink.holds l.fn.sink l.fn.out l.sink l.out
          (λ more. items_text (separator l.place) (written_all (g.V.RankedNodes.rank l.view) (trees_of g.V.RankedNodes.tree g.V.RankedNodes.number l.view (drop l.place l.items)) (given_of l.names)) more)
          (λ more. 91 ∷ items_text [] (written_all (g.V.RankedNodes.rank l.view) (trees_of g.V.RankedNodes.tree g.V.RankedNodes.number l.view l.items) (given_of l.fn.names)) more);
    }

abbrev pub invariant-write_entries-loop-place : goal.invariant-write_entries-loop-place
invariant-write_entries-loop-place g l =
    record {
      known : given_pairs (g.V.RankedNodes.rank l.view) (pairs_of g.V.RankedNodes.tree g.V.RankedNodes.number l.view (drop l.place l.entries)) (given_of l.names)
          ≡ given_pairs (g.V.RankedNodes.rank l.view) (pairs_of g.V.RankedNodes.tree g.V.RankedNodes.number l.view l.entries) (given_of l.fn.names);
      long : ranks_in l.names ≡ ranks_in l.fn.names;
      left : Left g.S.Sink.holds l.fn.sink l.fn.out l.sink l.out
          (λ more. pairs_text (separator l.place) (written_pairs (g.V.RankedNodes.rank l.view) (pairs_of g.V.RankedNodes.tree g.V.RankedNodes.number l.view (drop l.place l.entries)) (given_of l.names)) more)
          (λ more. 123 ∷ pairs_text [] (written_pairs (g.V.RankedNodes.rank l.view) (pairs_of g.V.RankedNodes.tree g.V.RankedNodes.number l.view l.entries) (given_of l.fn.names)) more);
    }
