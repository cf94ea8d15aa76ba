-- The parts of nodes.
use Rattle.std.proofs.Common.{◌≡◌, ℕ, zero, suc, ◌<◌, ◌≤◌, inl, inr, Bool, true, false, Bor, List, [], ◌∷◌, map, length, refl, sym, ◌∙◌, ap, arith}
use Rattle.std.specs.Prelude.{Option, Some, None, option_map}
use Rattle.std.specs.List.{slice_get}
use Rattle.std.proofs.lemmas.Bool.{cases_lt}
use Rattle.yaml_definitions.specs.model.Tree.{Tree}
use Rattle.yaml_tree.specs.TreeLists.{trees}
use Rattle.yaml_tree.specs.declared.node.NodeId.{NodeId}
use Rattle.yaml_tree.specs.declared.shown.Inside.TheVariants as shown
use Rattle.yaml_tree.specs.declared.shown.Shown.{Shown}
use Rattle.yaml_store_rank.specs.Forests as forests
use Rattle.yaml_store_rank.specs.Forests.{Forests, tree, rank, held_shown, entries_at, IsRanked}
use Rattle.yaml_store_rank.proofs.ForestTrees.{scalar-shown, sequence-shown, mapping-shown}
use Rattle.yaml_path.specs.Path.{Step, part, at_item, at_key, item_in}
use Rattle.yaml_path.specs.Ways.{count, count_in}
use Rattle.yaml_diff.specs.Lines.{trees_of}
use Rattle.yaml_diff.specs.Found.{IsValueOf, Within}
use Rattle.yaml_diff.proofs.Shapes.{entry-below, value-there, value-some}
use Rattle.review_text.proofs.ForestShapes.{none-there}
use Rattle.review_folds.specs.Labels.{is_scalar, IsRankOf}
use Rattle.review_folds.proofs.KeyLaws.{some-is, none-some}

-- ---- numbers that no node has

pub no_part : (f : Forests) (i : ℕ) → forests.count f ≤ i → (s : Step) → None ≡ part (tree f i) s
no_part f i l s = sym (ap (λ z. part z s) (none-there f i l))

pub no_count : (f : Forests) (i : ℕ) → forests.count f ≤ i → 0 ≡ count (Some (tree f i))
no_count f i l = sym (ap (λ z. count (Some z)) (none-there f i l))

-- ---- by what a node shows

pub item_at : {X : Type 0} (f : X → Tree) (xs : List X) (k : ℕ) → item_in (trees (map f xs)) k ≡ option_map f (slice_get xs k)
item_at f [] k = refl
item_at f (x ∷ xs) zero = refl
item_at f (x ∷ xs) (suc k) = item_at f xs k

pub counted : {X : Type 0} (f : X → Tree) (xs : List X) → count_in (trees (map f xs)) ≡ length xs
counted f [] = refl
counted f (x ∷ xs) = ap suc (counted f xs)

module _ (f : Forests) (are : IsRanked f) (i : ℕ) (n : Shown NodeId) (is : slice_get f.nodes i ≡ Some (held_shown n)) where
  pub scalar_part : (x : Bor (List ℕ)) → n.inside ≡ shown.Scalar x → (s : Step) → None ≡ part (tree f i) s
  scalar_part x e s = sym (ap (λ z. part z s) (scalar-shown f are i n is x e))

  pub mapping_item : (xs : Bor (List (NodeId × NodeId))) → n.inside ≡ shown.Mapping xs → (k : ℕ) → None ≡ part (tree f i) (at_item k)
  mapping_item xs e k = sym (ap (λ z. part z (at_item k)) (mapping-shown f are i n is xs e))

  pub sequence_item : (xs : Bor (List NodeId)) → n.inside ≡ shown.Sequence xs → (k : ℕ) (result : Option NodeId) → result ≡ slice_get xs.now k → trees_of f result ≡ part (tree f i) (at_item k)
  sequence_item xs e k result q = ap (trees_of f) q ∙ sym (ap (λ z. part z (at_item k)) (sequence-shown f are i n is xs e) ∙ item_at (λ j. tree f j.0) xs.now k)

  pub scalar_count : (x : Bor (List ℕ)) → n.inside ≡ shown.Scalar x → 0 ≡ count (Some (tree f i))
  scalar_count x e = sym (ap (λ z. count (Some z)) (scalar-shown f are i n is x e))

  pub mapping_count : (xs : Bor (List (NodeId × NodeId))) → n.inside ≡ shown.Mapping xs → 0 ≡ count (Some (tree f i))
  mapping_count xs e = sym (ap (λ z. count (Some z)) (mapping-shown f are i n is xs e))

  pub sequence_count : (xs : Bor (List NodeId)) → n.inside ≡ shown.Sequence xs → length xs.now ≡ count (Some (tree f i))
  sequence_count xs e = sym (ap (λ z. count (Some z)) (sequence-shown f are i n is xs e) ∙ counted (λ j. tree f j.0) xs.now)

  pub is_one : (x : Bor (List ℕ)) → n.inside ≡ shown.Scalar x → true ≡ is_scalar (tree f i)
  is_one x e = sym (ap is_scalar (scalar-shown f are i n is x e))

  pub is_sequence : (xs : Bor (List NodeId)) → n.inside ≡ shown.Sequence xs → false ≡ is_scalar (tree f i)
  is_sequence xs e = sym (ap is_scalar (sequence-shown f are i n is xs e))

  pub is_mapping : (xs : Bor (List (NodeId × NodeId))) → n.inside ≡ shown.Mapping xs → false ≡ is_scalar (tree f i)
  is_mapping xs e = sym (ap is_scalar (mapping-shown f are i n is xs e))

pub not_there : (f : Forests) (i : ℕ) → forests.count f ≤ i → i < forests.count f → (b : Bool) → b ≡ is_scalar (tree f i)
not_there f i m l b = absurd (omega (arith, m, l))

-- ---- the value of a key of this rank

module _ (f : Forests) (are : IsRanked f) (i : ℕ) (l : i < forests.count f) where
  module _ (x : Tree) (r : Option ℕ) (is : IsRankOf f x r) where
    no-entry : ((k : ℕ) (p : ℕ × ℕ) → slice_get (entries_at f i) k ≡ Some p → r ≡ Some (rank f p.0) → ⊥) → None ≡ part (tree f i) (at_key x)
    no-entry none = sym (by (part (tree f i) (at_key x)) refl)
      where
        by : (o : Option Tree) → part (tree f i) (at_key x) ≡ o → o ≡ None
        by None e = refl
        by (Some v) e =
            let q = value-some f are i l x v e in
            let b = entry-below f are i l q.0 q.1 q.2 in
            absurd (none q.0 q.1 q.2 ((is q.1.0 (omega (arith, b.0, l))).0 q.3))

    pub value_by : (n : ℕ) (result : Option NodeId) → r ≡ Some n → IsValueOf f (entries_at f i) n result → trees_of f result ≡ part (tree f i) (at_key x)
    value_by n (Some v) q w =
        let b = entry-below f are i l w.0 w.1 w.2 in
        let s = (is w.1.0 (omega (arith, b.0, l))).1 (q ∙ ap Some (sym w.3)) in
        sym (value-there f are i l x w.0 w.1 w.2 s ∙ ap (λ z. Some (tree f z)) w.4)
    value_by n None q w = no-entry (λ k p e s. w k p e (some-is (sym s ∙ q)))

    pub value_none : r ≡ None → None ≡ part (tree f i) (at_key x)
    value_none q = no-entry (λ k p e s. none-some (sym q ∙ s))

  -- a value stands below its mapping
  pub value_within : (n : ℕ) (result : Option NodeId) → IsValueOf f (entries_at f i) n result → Within f result
  value_within n None w = tt
  value_within n (Some v) w = let b = entry-below f are i l w.0 w.1 w.2 in omega (arith, b.1, l, w.4)

-- where no node is the key, whatever stands at the number
pub key_none : (f : Forests) (are : IsRanked f) (i : ℕ) (x : Tree) (r : Option ℕ) → r ≡ None → IsRankOf f x r → None ≡ part (tree f i) (at_key x)
key_none f are i x r q is = elim (cases_lt i (forests.count f)) [ inl low ↦ value_none f are i low x r is q | inr high ↦ no_part f i high (at_key x) ]
