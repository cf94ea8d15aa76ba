-- Ranks of arranged trees.
use Rattle.std.proofs.Common.{◌≡◌, ℕ, zero, suc, ◌+◌, ◌<◌, Bool, true, false, not, cond, List, [], ◌∷◌, length, map, get_or, refl, sym, ◌∙◌, subst, arith}
use Rattle.std.specs.List.{position_or_len}
use Rattle.std.proofs.lemmas.List.{length-map}
use Rattle.yaml_definitions.specs.model.Tree.{Tree, scalar}
use Rattle.yaml_definitions.specs.model.Order.{arranged}
use Rattle.yaml_definitions.specs.model.Same.{same}
use Rattle.yaml_definitions.proofs.SameLaws.{same_to, same_from}
use Rattle.yaml_definitions.proofs.Arranged.{IsArranged, neat_same, arranged_neat}
use Rattle.yaml_definitions.proofs.Equivalence.{same_refl}
use Rattle.yaml_graph.specs.GraphView.{nodes_of, graph_trees, tree}
use Rattle.yaml_graph.proofs.GraphLaws.{trees-length}
use Rattle.yaml_graph.specs.declared.graph.Graph.{Graph}
use Rattle.yaml_rank.specs.RanksView.{RanksAre, rank_of}
use Rattle.yaml_rank.specs.declared.ranks.Ranks.{Ranks}
use Rattle.yaml_rank.specs.TreeRanks.{rank_in}

-- the first tree of a list that is the same as this one, which is among them
found : (t : Tree) (xs : List Tree) (i : ℕ) (d : Tree) → i < length xs → same t (get_or xs i d) ≡ true → (position_or_len (same t) xs < length xs) × (same t (get_or xs (position_or_len (same t) xs) d) ≡ true)
found t [] i d l h = absurd (omega arith)
found t (x ∷ xs) zero d l h = by (same t x) refl
  where
    by : (b : Bool) → same t x ≡ b → (cond (not b) (1 + position_or_len (same t) xs) 0 < suc (length xs)) × (same t (get_or (x ∷ xs) (cond (not b) (1 + position_or_len (same t) xs) 0) d) ≡ true)
    by true e = (omega arith, e)
    by false e = absurd (let z : false ≡ true = sym e ∙ h in cc)
found t (x ∷ xs) (suc i) d l h = by (same t x) refl (found t xs i d (omega arith) h)
  where
    by : (b : Bool) → same t x ≡ b → (position_or_len (same t) xs < length xs) × (same t (get_or xs (position_or_len (same t) xs) d) ≡ true)
        → (cond (not b) (1 + position_or_len (same t) xs) 0 < suc (length xs)) × (same t (get_or (x ∷ xs) (cond (not b) (1 + position_or_len (same t) xs) 0) d) ≡ true)
    by true e r = (omega arith, e)
    by false e r =
        let p = r.0 in
        let one : suc (position_or_len (same t) xs) ≡ 1 + position_or_len (same t) xs = omega arith in
        (omega arith, subst (λ n. same t (get_or (x ∷ xs) n d) ≡ true) one r.1)

map-at : (ts : List Tree) (i : ℕ) (d e : Tree) → i < length ts → get_or (map arranged ts) i d ≡ arranged (get_or ts i e)
map-at [] i d e h = absurd (omega arith)
map-at (t ∷ ts) zero d e h = refl
map-at (t ∷ ts) (suc i) d e h = map-at ts i d e (omega arith)

module _ (g : Graph) (r : Ranks) (are : RanksAre g r) where
  neat-there : (i : ℕ) → i < length (nodes_of g) → IsArranged (arranged (tree g i))
  neat-there i l = arranged_neat (tree g i) (are.keyed i l)

  -- two arranged trees are the same exactly if their ranks are
  pub same-rank : (i j : ℕ) → i < length (nodes_of g) → j < length (nodes_of g) → same (arranged (tree g i)) (arranged (tree g j)) ≡ true → rank_of r i ≡ rank_of r j
  same-rank i j a b h = (are.ranked i j a b).0.1 (same_from (tree g i) (tree g j) (neat_same (arranged (tree g i)) (arranged (tree g j)) (neat-there i a) (neat-there j b) h))

  pub rank-same : (i j : ℕ) → i < length (nodes_of g) → j < length (nodes_of g) → rank_of r i ≡ rank_of r j → arranged (tree g i) ≡ arranged (tree g j)
  rank-same i j a b h = same_to (tree g i) (tree g j) (are.keyed i a) (are.keyed j b) ((are.ranked i j a b).0.0 h)

  pub rank-there : (i : ℕ) → i < length (nodes_of g) → rank_in g r (arranged (tree g i)) ≡ rank_of r i
  unfolding rank_in
  rank-there i l =
      let ts : List Tree = graph_trees g in
      let t : Tree = arranged (tree g i) in
      let all : length ts ≡ length (nodes_of g) = trees-length g.nodes.items in
      let m : i < length ts = omega (arith, all) in
      let d : Tree = scalar [] [] in
      let f = found t (map arranged ts) i d (omega (arith, length-map ts arranged)) (subst (λ z. same t z ≡ true) (sym (map-at ts i d d m)) (same_refl t)) in
      let p : ℕ = position_or_len (same t) (map arranged ts) in
      let q : p < length ts = omega (arith, f.0, length-map ts arranged) in
      sym (same-rank i p l (omega (arith, all)) (subst (λ z. same t z ≡ true) (map-at ts p d d q) f.1))
