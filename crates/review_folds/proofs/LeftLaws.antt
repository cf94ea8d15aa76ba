-- Where a path leads on the left side.
use Rattle.std.proofs.Common.{◌≡◌, ℕ, ◌<◌, ◌≤◌, inl, inr, Bool, true, false, cond, nat_lt, List, [], ◌∷◌, length, refl, sym, ◌∙◌, ap, subst, arith}
use Rattle.std.specs.Prelude.{Option, Some, None, option_map}
use Rattle.std.specs.List.{slice_get}
use Rattle.std.proofs.lemmas.Bool.{cases_lt}
use Rattle.std.proofs.lemmas.List.{length-map}
use Rattle.std.proofs.lemmas.Option.{slice_get_past}
use Rattle.yaml_definitions.specs.model.Tree.{Tree}
use Rattle.yaml_tree.specs.declared.node.NodeId.{NodeId}
use Rattle.yaml_store_rank.specs.Forests as forests
use Rattle.yaml_store_rank.specs.Forests.{Forests, tree, documents_of, IsRanked}
use Rattle.yaml_store_rank.specs.KeyOrder.{numbers}
use Rattle.yaml_path.specs.Path.{part, at_key}
use Rattle.yaml_path.specs.Ways.{left_place, placed, count}
use Rattle.yaml_path.specs.declared.places.Places.{Places}
use Rattle.yaml_diff.specs.Lines.{trees_of}
use Rattle.yaml_diff.specs.declared.difference.Step.{Step}
use Rattle.yaml_diff.specs.declared.difference.Step.TheVariants.{Item, Value}
use Rattle.review_folds.specs.Labels.{left_below, left_documents, left_tree, IsRankOf}
use Rattle.review_folds.proofs.KeyLaws.{key_rank, number_there}
use Rattle.review_folds.proofs.ValueLaws.{item_at, counted}

either-none : {X : Type 0} (b : Bool) → ◌≡◌ {A = Option X} None (cond b None None)
either-none true = refl
either-none false = refl

-- ---- a step

module _ (f : Forests) (t : Option Tree) where
  pub placed_none : (p : Places) → None ≡ left_place p → None ≡ left_below f t (Item p)
  placed_none p e = ap (placed t) e

  pub placed_some : (p : Places) (k : ℕ) (x : Option Tree) → Some k ≡ left_place p → x ≡ placed t (Some k) → x ≡ left_below f t (Item p)
  placed_some p k x e h = h ∙ ap (placed t) e

trees-numbered : (f : Forests) (result : Option NodeId) → trees_of f result ≡ option_map (tree f) (option_map (λ i. i.0) result)
trees-numbered f None = refl
trees-numbered f (Some i) = refl

pub document_there : (f : Forests) (p : Places) (k : ℕ) (result : Option NodeId) → Some k ≡ left_place p → option_map (λ i. i.0) result ≡ slice_get (documents_of f 0) k → trees_of f result ≡ left_below f (Some (left_documents f)) (Item p)
document_there f p k result e h = placed_some f (Some (left_documents f)) p k (trees_of f result) e (trees-numbered f result ∙ ap (option_map (tree f)) h ∙ sym (item_at (tree f) (documents_of f 0) k))

pub documents_value : (f : Forests) (key : NodeId) → None ≡ left_below f (Some (left_documents f)) (Value key)
documents_value f key = either-none (nat_lt key.0 (forests.count f))

pub key_value : (f : Forests) → IsRanked f → (t : Tree) (key : NodeId) (r : Option ℕ) (result : Option NodeId) → r ≡ slice_get f.ranks key.0 → (r ≡ None → result ≡ None)
    → ((x : Tree) → IsRankOf f x r → trees_of f result ≡ part t (at_key x)) → trees_of f result ≡ left_below f (Some t) (Value key)
key_value f are t key r result e n g =
    elim (cases_lt key.0 (forests.count f)) [
      | inl low ↦
          let is = subst (IsRankOf f (tree f key.0)) (sym (e ∙ number_there f are key.0 low)) (key_rank f are key.0 low) in
          g (tree f key.0) is ∙ sym (ap (λ b. cond b (part t (at_key (tree f key.0))) None) (below low))
      | inr high ↦
          let past = slice_get_past f.ranks key.0 (omega (arith, high, are.long)) in
          ap (trees_of f) (n (e ∙ past)) ∙ sym (ap (λ b. cond b (part t (at_key (tree f key.0))) None) (above high))
    ]
  where
    below : key.0 < forests.count f → nat_lt key.0 (forests.count f) ≡ true
    below l = grind (arith, l)

    above : forests.count f ≤ key.0 → nat_lt key.0 (forests.count f) ≡ false
    above l = grind (arith, l)

below-none : (f : Forests) (s : Step) → None ≡ left_below f None s
below-none f (Item p) = by (left_place p)
  where
    by : (o : Option ℕ) → None ≡ placed None o
    by None = refl
    by (Some k) = refl
below-none f (Value key) = either-none (nat_lt key.0 (forests.count f))

-- ---- a path

module _ (f : Forests) (path list : List Step) (s : Step) (is : path ≡ s ∷ list) where
  pub first_step : (x : Option Tree) → list ≡ [] → x ≡ left_below f (Some (left_documents f)) s → x ≡ left_tree f path
  first_step x e h = h ∙ ap (λ z. left_below f (left_tree f z) s) (sym e) ∙ ap (left_tree f) (sym is)

  pub step_nowhere : None ≡ left_tree f list → None ≡ left_tree f path
  step_nowhere h = below-none f s ∙ ap (λ z. left_below f z s) h ∙ ap (left_tree f) (sym is)

  pub step_below : (t x : Option Tree) → t ≡ left_tree f list → x ≡ left_below f t s → x ≡ left_tree f path
  step_below t x h e = e ∙ ap (λ z. left_below f z s) h ∙ ap (left_tree f) (sym is)

-- ---- numbers of items

pub count_documents : (f : Forests) (list : List Step) (roots : List NodeId) → length list ≡ 0 → numbers roots ≡ documents_of f 0 → length roots ≡ count (left_tree f list)
count_documents f [] roots e h = sym (length-map roots (λ i. i.0)) ∙ ap length h ∙ sym (counted (tree f) (documents_of f 0))
count_documents f (s ∷ list) roots e h = absurd (omega (arith, e))

pub count_some : (f : Forests) (list : List Step) (t : Tree) (n : ℕ) → Some t ≡ left_tree f list → n ≡ count (Some t) → n ≡ count (left_tree f list)
count_some f list t n e h = h ∙ ap count e

pub count_none : (f : Forests) (list : List Step) (n : ℕ) → None ≡ left_tree f list → n ≡ 0 → n ≡ count (left_tree f list)
count_none f list n e h = h ∙ ap count e
