-- Ranked forests as ranked nodes.
use Rattle.std.proofs.Common.{◌≡◌, ℕ, zero, suc, ◌+◌, ◌<◌, Bool, true, false, not, cond, List, [], ◌∷◌, length, get_or, refl, sym, ◌∙◌, subst, arith}
use Rattle.std.specs.List.{position_or_len}
use Rattle.yaml_definitions.specs.model.Tree.{Tree, scalar}
use Rattle.yaml_definitions.specs.model.Same.{same}
use Rattle.yaml_definitions.proofs.Equivalence.{same_refl}
use Rattle.yaml_tree.specs.Insides.{trees_held}
use Rattle.yaml_tree.proofs.InsideLaws.{held-length}
use Rattle.yaml_tree.proofs.Lists.{get-some}
use Rattle.yaml_store_rank.specs.Forests.{Forests, count, tree, rank, IsRanked}
use Rattle.yaml_store_rank.proofs.ForestTrees.{tree-held, parts-within}
use Rattle.yaml_spell.specs.RankedNodes.{RanksTell}
use Rattle.yaml_show.specs.SourceRanks.{rank_in}

-- the first tree of a list that is the same as this one, which is among them
found : (t : Tree) (xs : List Tree) (i : ℕ) (d : Tree) → i < length xs → same t (get_or xs i d) ≡ true → (position_or_len (same t) xs < length xs) × (same t (get_or xs (position_or_len (same t) xs) d) ≡ true)
found t [] i d l h = absurd (omega arith)
found t (x ∷ xs) zero d l h = by (same t x) refl
  where
    by : (b : Bool) → same t x ≡ b → (cond (not b) (1 + position_or_len (same t) xs) 0 < suc (length xs)) × (same t (get_or (x ∷ xs) (cond (not b) (1 + position_or_len (same t) xs) 0) d) ≡ true)
    by true e = (omega arith, e)
    by false e = absurd (let z : false ≡ true = sym e ∙ h in cc)
found t (x ∷ xs) (suc i) d l h = by (same t x) refl (found t xs i d (omega arith) h)
  where
    by : (b : Bool) → same t x ≡ b → (position_or_len (same t) xs < length xs) × (same t (get_or xs (position_or_len (same t) xs) d) ≡ true)
        → (cond (not b) (1 + position_or_len (same t) xs) 0 < suc (length xs)) × (same t (get_or (x ∷ xs) (cond (not b) (1 + position_or_len (same t) xs) 0) d) ≡ true)
    by true e r = (omega arith, e)
    by false e r =
        let p = r.0 in
        let one : suc (position_or_len (same t) xs) ≡ 1 + position_or_len (same t) xs = omega arith in
        (omega arith, subst (λ n. same t (get_or (x ∷ xs) n d) ≡ true) one r.1)

module _ (f : Forests) (are : IsRanked f) where
  -- the rank of a tree is that of its nodes
  pub source_rank : (i : ℕ) → i < count f → rank_in f (tree f i) ≡ rank f i
  unfolding rank_in
  source_rank i l =
      let t : Tree = tree f i in
      let p = found t (trees_held f.nodes) i (scalar [] []) (omega (arith, l, held-length f.nodes)) (same_refl t) in
      let k = position_or_len (same t) (trees_held f.nodes) in
      let b = p.0 in
      sym ((are.ranked i k l (omega (arith, b, held-length f.nodes))).0.1 p.1)

  pub source_tells : RanksTell (count f) (tree f) (rank_in f)
  source_tells = record {
    made = λ i l. let n = get-some f.nodes i l in (n.0, parts-within f are i n.0 l n.1, tree-held f are i n.0 n.1);
    tell = λ i j a b. (
      λ e. (are.ranked i j a b).0.0 (sym (source_rank i a) ∙ (e ∙ source_rank j b)),
      λ e. source_rank i a ∙ ((are.ranked i j a b).0.1 e ∙ sym (source_rank j b)),
    );
  }
