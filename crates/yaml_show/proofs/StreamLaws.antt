-- The roots of a stream whose nodes are ranked.
use Rattle.std.proofs.Common.{◌≡◌, ℕ, ◌<◌, List, [], map, sym, ◌∙◌, ap, subst}
use Rattle.std.specs.List.{All, slice_index_or}
use Rattle.yaml_definitions.specs.model.Tree.{Tree}
use Rattle.yaml_definitions.specs.model.Order.{arranged}
use Rattle.yaml_definitions.specs.model.Means.{Means}
use Rattle.law_one_reading.proofs.Documents.{one_meaning}
use Rattle.yaml_tree.specs.declared.node.NodeId.{NodeId}
use Rattle.yaml_spell.proofs.ShownLaws.{map-twice}
use Rattle.yaml_store_rank.specs.Forests.{Forests, count, tree, documents_of, IsRanked}
use Rattle.yaml_store_rank.specs.KeyOrder.{numbers}
use Rattle.yaml_store_rank.specs.Walked.{walked_tree}
use Rattle.yaml_store_rank.proofs.ForestTrees.{documents-within}
use Rattle.yaml_store_rank.proofs.KeyOrderLaws.{unmap}
use Rattle.yaml_canon.specs.Ranks.{HasRanks}
use Rattle.yaml_canon.specs.Written.{ShowsStream}
use Rattle.yaml_canon.specs.declared.ranks.RankedForest.{RankedForest}
use Rattle.yaml_canon.specs.declared.spelled_ranks.SpelledRanks.{SpelledRanks}
use Rattle.yaml_spell.specs.RankedNodes.{Rooted}
use Rattle.yaml_show.specs.declared.source.SourceForests.{SourceForests}

-- with entries as they are written
module _ (bytes : List ℕ) (f : Forests) (shows : ShowsStream bytes f) (roots : List NodeId) (is : numbers roots ≡ documents_of f 0) where
  roots-are : documents_of f 0 ≡ shows.roots
  roots-are = ap (λ z. slice_index_or z 0 []) shows.streams

  -- they stand for what the bytes mean
  pub source_means : Means bytes (map (λ (i : NodeId). tree f i.0) roots)
  source_means = subst (Means bytes) (ap (map (tree f)) (sym (is ∙ roots-are)) ∙ map-twice (λ (i : NodeId). i.0) (tree f) roots) shows.means

  pub source_is : (ts : List Tree) → Means bytes ts → map (λ (i : NodeId). tree f i.0) roots ≡ ts
  source_is ts m = one_meaning bytes (map (λ (i : NodeId). tree f i.0) roots) ts source_means m

  -- and are nodes
  pub source_rooted : IsRanked f → (view : SourceForests) → view.forests.now ≡ f → Rooted (λ _. Unit {0}) (λ (s : SourceForests). count s.forests.now) (λ (i : NodeId). i.0) view roots
  source_rooted are view same = record {
    ranked = tt;
    within = subst (λ z. All (λ (i : NodeId). i.0 < count z) roots) (sym same) (unmap (λ (i : NodeId). i.0) (λ i. i < count f) roots (subst (All (λ i. i < count f)) (sym is) (documents-within f are 0)));
  }

-- arranged
module _ (bytes : List ℕ) (f : RankedForest) (roots : List ℕ) (has : HasRanks bytes f) (is : roots ≡ f.roots.items) (c : SpelledRanks) (same : c.ranked.now ≡ f.ranked) where
  pub sorted_are : map (walked_tree c.ranked.now) roots ≡ map arranged has.trees
  sorted_are = ap (λ z. map (walked_tree z) roots) same ∙ ap (map (walked_tree f.ranked)) is ∙ has.arranged

  pub sorted_is : (ts : List Tree) → Means bytes ts → map (walked_tree c.ranked.now) roots ≡ map arranged ts
  sorted_is ts m = sorted_are ∙ ap (map arranged) (one_meaning bytes has.trees ts has.means m)
