-- The roots of a forest, and their ranks.
use Rattle.std.proofs.Common.{◌≡◌, ℕ, ◌<◌, List, [], ◌∷◌, length, map, slice_index, get_or, refl, sym, ◌∙◌, ap, subst, arith}
use Rattle.std.specs.Prelude.{◌↔◌}
use Rattle.std.specs.List.{All}
use Rattle.yaml_store.specs.TextModel.{text_of}
use Rattle.std.proofs.lemmas.Option.{slice_get_within}
use Rattle.std.proofs.lemmas.List.{length-map, get_or-map}
use Rattle.std.proofs.lemmas.List.Elements.{All-map, All-cons}
use Rattle.yaml_definitions.specs.model.Tree.{Tree, scalar}
use Rattle.yaml_definitions.specs.model.Order.{arranged}
use Rattle.yaml_definitions.specs.model.Same.{same, Same, Keyed}
use Rattle.yaml_tree.specs.TreeLists.{tree_at}
use Rattle.yaml_store_rank.specs.declared.ranking.Ranked.{Ranked}
use Rattle.yaml_store.specs.StoreModel.{parts_at}
use Rattle.yaml_store.specs.StoreGrows.{tags_of, trees_of}
use Rattle.yaml_store.specs.StoreView.{tree_of}
use Rattle.yaml_store_rank.specs.StoreRanks.{StoreRanked}
use Rattle.yaml_store_rank.specs.Walked.{ranks_of, RanksTaken}
use Rattle.yaml_store.proofs.Growing.{trees-count}
use Rattle.yaml_tree_builder.specs.BuilderModel.{AllAt}
use Rattle.yaml_tree_builder.specs.declared.builder.Forest.{Forest}
use Rattle.yaml_canon.specs.declared.ranks.RankedForest.{RankedForest}
use Rattle.yaml_definitions.specs.model.Means.{Means}
use Rattle.yaml_canon.specs.Read.{HasForest, HasRoots, root_trees}
use Rattle.yaml_canon.specs.Ranks.{RanksOf, HasRanks}
use Rattle.yaml_canon.proofs.ForestLaws.{roots-are}

-- roots that stand for trees are nodes
at-below : (ts : List Tree) (roots : List ℕ) (us : List Tree) → AllAt ts roots us → All (λ i. i < length ts) roots
at-below ts [] [] h = λ k d l. absurd (omega arith)
at-below ts (i ∷ roots) (u ∷ us) h = All-cons (λ i. i < length ts) i roots (slice_get_within ts i u h.0) (at-below ts roots us h.1)
at-below ts [] (u ∷ us) h = absurd h
at-below ts (i ∷ roots) [] h = absurd h

map-arranged : (ts : List Tree) (roots : List ℕ) → map (λ i. arranged (tree_at ts i)) roots ≡ map arranged (parts_at ts roots)
map-arranged ts [] = refl
map-arranged ts (i ∷ roots) = ap (λ us. arranged (tree_at ts i) ∷ us) (map-arranged ts roots)

module _ (ts : List Tree) (f : Forest) (is : HasRoots ts f) where
  pub roots-below : All (λ i. i < length f.store.nodes.items) f.roots.items
  roots-below = subst (λ n. All (λ i. i < n) f.roots.items) (trees-count f.store.nodes.items (text_of f.store.text) f.store.items.items f.store.entries.items (tags_of f.store)) (at-below (trees_of f.store) f.roots.items ts is.roots)

  -- each root has a rank
  pub roots-ranked : (c : Ranked) → StoreRanked f.store is.good c → All (λ i. i < length (ranks_of c)) f.roots.items
  roots-ranked c are = subst (λ n. All (λ i. i < n) f.roots.items) (sym are.listed.ranked.long) roots-below

  trees-are : map (tree_of f.store) f.roots.items ≡ ts
  trees-are = roots-are (trees_of f.store) f.roots.items ts is.roots

  -- the node of a root
  abbrev root : ℕ → ℕ
  root i = slice_index f.roots.items i

  root-within : (i : ℕ) → i < length ts → i < length f.roots.items
  root-within i l = let n = sym (length-map f.roots.items (tree_of f.store)) ∙ ap length trees-are in omega (arith, l, n)

  root-tree : (i : ℕ) → i < length ts → tree_at ts i ≡ tree_of f.store (root i)
  root-tree i l = ap (λ us. tree_at us i) (sym trees-are) ∙ get_or-map (tree_of f.store) f.roots.items i 0 (scalar [] []) (root-within i l)

  -- two roots have one rank exactly if their trees are the same
  roots-tell : (c : Ranked) → StoreRanked f.store is.good c → (ranks : List ℕ) → ranks ≡ map (slice_index (ranks_of c)) f.roots.items → (i j : ℕ) → i < length ts → j < length ts → (slice_index ranks i ≡ slice_index ranks j) ↔ Same (tree_at ts i) (tree_at ts j)
  roots-tell c are ranks e i j l m =
      let rank : (k : ℕ) → k < length ts → slice_index ranks k ≡ slice_index (ranks_of c) (root k) = λ k w. ap (λ xs. slice_index xs k) e ∙ get_or-map (slice_index (ranks_of c)) f.roots.items k 0 0 (root-within k w) in
      let tell = (are.listed.ranked.ranked (root i) (root j) (roots-below i 0 (root-within i l)) (roots-below j 0 (root-within j m))).0 in
      let a = root-tree i l in
      let b = root-tree j m in
      let q : same (tree_at ts i) (tree_at ts j) ≡ same (tree_of f.store (root i)) (tree_of f.store (root j)) = λ z. same (a z) (b z) in
      (λ h. q ∙ tell.0 (sym (rank i l) ∙ (h ∙ rank j m)), λ h. rank i l ∙ (tell.1 (sym q ∙ h) ∙ sym (rank j m)))

  -- the ranks of the roots
  pub ranks-of-roots : (g : RankedForest) → StoreRanked f.store is.good g.ranked → RanksTaken g.ranked f.roots.items g.roots.items → RanksOf ts g
  ranks-of-roots g are taken =
      let s = f.store in
      record {
        keyed = subst (All Keyed) trees-are (All-map Keyed (tree_of s) f.roots.items (λ k d l. are.listed.ranked.keyed (get_or f.roots.items k d) (roots-below k d l)));
        rooted = record { ranked = (s, is.good, are); within = taken.within s is.good are };
        arranged = taken.trees s is.good are ∙ (map-arranged (trees_of s) f.roots.items ∙ ap (map arranged) trees-are);
        tell = roots-tell g.ranked are g.roots.items taken.are;
      }

-- the ranks of what bytes mean
pub has-ranks : (bytes : List ℕ) (f : Forest) (h : HasForest bytes f) → Means bytes (root_trees f) → (g : RankedForest) → RanksOf h.forest.trees_are g → HasRanks bytes g
has-ranks bytes f h m g r = record {
  trees = h.forest.trees_are;
  means = subst (Means bytes) (roots-are (trees_of f.store) f.roots.items h.forest.trees_are h.forest.roots) m;
  low = h.forest.low;
  keyed = r.keyed;
  rooted = r.rooted;
  arranged = r.arranged;
}
