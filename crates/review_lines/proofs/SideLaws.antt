-- The documents of a stream, as nodes and as trees.
use Rattle.std.proofs.Common.{◌≡◌, ℕ, ◌+◌, ◌<◌, ◌≤◌, ◌||◌, Bool, true, false, List, [], ◌∷◌, map, length, take, get_or, sym, subst, ◌∙◌, ap, refl, arith}
use Rattle.std.specs.Prelude.{Some}
use Rattle.std.specs.List.{All, list_any, slice_get}
use Rattle.std.proofs.lemmas.Bool.{lt-ltb, ltb-true, false_from_ne_true}
use Rattle.std.proofs.lemmas.List.{take_all}
use Rattle.std.proofs.lemmas.List.Folds.{list_any_at, list_any_more}
use Rattle.std.proofs.lemmas.Option.{slice_get_within, get_or_from_slice_get}
use Rattle.yaml_definitions.specs.model.Tree.{sequence, height}
use Rattle.yaml_tree.specs.TreeLists.{trees}
use Rattle.yaml_tree.specs.declared.node.NodeId.{NodeId}
use Rattle.yaml_store_rank.specs.KeyOrder.{numbers}
use Rattle.yaml_store_rank.specs.Forests.{Forests, count, tree, documents_of, IsRanked}
use Rattle.yaml_store_rank.proofs.KeyOrderLaws.{unmap}
use Rattle.yaml_store_rank.proofs.ForestTrees.{documents-within}
use Rattle.yaml_diff.specs.Found.{AllWithin, Finds, FindsItems}
use Rattle.yaml_diff.specs.Lines.{tree_of, sequence_of}
use Rattle.yaml_diff.specs.declared.difference.Found.{Found}
use Rattle.review_lines.specs.Searched.{is_high, has_high, stream_tree, FindsStreams}

all_sliced : {X : Type 0} (P : X → Type 0) (xs : List X) → All P xs → (k : ℕ) (x : X) → slice_get xs k ≡ Some x → P x
all_sliced P xs h k x e = subst P (get_or_from_slice_get xs k x x e) (h k x (slice_get_within xs k x e))

module _ (g : Forests) (stream : ℕ) (roots : List NodeId) (are : numbers roots ≡ documents_of g stream) where
  pub nodes_within : IsRanked g → All (λ i. i.0 < count g) roots
  nodes_within h = unmap (λ (i : NodeId). i.0) (λ i. i < count g) roots (subst (All (λ i. i < count g)) (sym are) (documents-within g h stream))

  pub roots_within : IsRanked g → AllWithin g roots
  roots_within h = all_sliced (λ i. i.0 < count g) roots (nodes_within h)

  -- ---- whether one is high

  abbrev high : NodeId → Bool
  high i = is_high g i.0

  any_high : list_any high roots ≡ has_high g stream
  any_high = by roots ∙ ap (list_any (is_high g)) are
    where
      by : (is : List NodeId) → list_any high is ≡ list_any (is_high g) (numbers is)
      by [] = refl
      by (i ∷ is) = ap (λ z. high i || z) (by is)

  pub one_high : (k : ℕ) (d : NodeId) → k < length roots → 100 < height (tree g (get_or roots k d).0) → true ≡ has_high g stream
  one_high k d l h = sym (list_any_at high roots k d l (lt-ltb 100 (height (tree g (get_or roots k d).0)) h)) ∙ any_high

  pub high_next : (k : ℕ) (d : NodeId) → k < length roots → list_any high (take k roots) ≡ false → height (tree g (get_or roots k d).0) ≤ 100 → list_any high (take (k + 1) roots) ≡ false
  high_next k d l none h =
      let low : high (get_or roots k d) ≡ false = false_from_ne_true (high (get_or roots k d)) (λ e. let t = ltb-true 100 (height (tree g (get_or roots k d).0)) e in absurd (omega (arith, t, h))) in
      list_any_more high roots k d l ∙ ap (λ z. z || high (get_or roots k d)) none ∙ low

  pub none_high : (k : ℕ) → length roots ≤ k → list_any high (take k roots) ≡ false → false ≡ has_high g stream
  none_high k l none = sym none ∙ ap (list_any high) (take_all k roots l) ∙ any_high

  -- ---- their trees

  stream_is : (tag : List ℕ) → sequence_of g tag roots ≡ stream_tree g tag stream
  stream_is tag = ap (λ z. Some (sequence tag (trees z))) (by roots ∙ ap (map (tree g)) are)
    where
      by : (is : List NodeId) → map (tree_of g) is ≡ map (tree g) (numbers is)
      by [] = refl
      by (i ∷ is) = ap (λ z. tree g i.0 ∷ z) (by is)

-- what is found of the nodes is found of the streams
pub streams_found : (g : Forests) (lefts rights : List NodeId) (room : ℕ) (f : Found) → numbers lefts ≡ documents_of g 0 → numbers rights ≡ documents_of g 1 → FindsItems g lefts rights room f → FindsStreams g room f
streams_found g lefts rights room f l r h = λ tag. subst (λ z. Finds g (stream_tree g tag 0) z room f) (stream_is g 1 rights r tag) (subst (λ z. Finds g z (sequence_of g tag rights) room f) (stream_is g 0 lefts l tag) (h tag))
