-- Names of items.
use Rattle.std.proofs.Common.{◌≡◌, ℕ, true, false, cond, List, [], ◌∷◌, length, refl, sym, ◌∙◌, ap, subst, arith}
use Rattle.std.specs.Prelude.{Option, Some, None, option_map}
use Rattle.yaml_definitions.specs.model.Tree.{Tree}
use Rattle.yaml_store_rank.specs.Forests.{Forests, tree}
use Rattle.yaml_tree.specs.declared.node.NodeId.{NodeId}
use Rattle.yaml_diff.specs.Lines.{trees_of}
use Rattle.review_folds.specs.declared.keys.Key.{Key}
use Rattle.review_folds.specs.Labels.{is_scalar, if_scalar, value_of, first_name, Name, named, or_name, IsKey, AreEach}

-- ---- the value of a key, if it is a scalar

pub scalar_none : (g : Forests) (value : Option NodeId) (t : Option Tree) → value ≡ None → trees_of g value ≡ t → None ≡ if_scalar t
scalar_none g value t n e = ap (λ z. if_scalar (trees_of g z)) (sym n) ∙ ap if_scalar e

pub scalar_then : (g : Forests) (value : Option NodeId) (v : NodeId) (t : Option Tree) → value ≡ Some v → trees_of g value ≡ t → is_scalar (tree g v.0) ≡ true → Some (tree g v.0) ≡ if_scalar t
scalar_then g value v t s e is = sym (ap (λ b. cond b (Some (tree g v.0)) None) is) ∙ ap (λ z. if_scalar (trees_of g z)) (sym s) ∙ ap if_scalar e

pub scalar_else : (g : Forests) (value : Option NodeId) (v : NodeId) (t : Option Tree) → value ≡ Some v → trees_of g value ≡ t → is_scalar (tree g v.0) ≡ false → None ≡ if_scalar t
scalar_else g value v t s e is = sym (ap (λ b. cond b (Some (tree g v.0)) None) is) ∙ ap (λ z. if_scalar (trees_of g z)) (sym s) ∙ ap if_scalar e

-- ---- names

pub or_first : (n : Name) (first other : Option Name) → Some n ≡ first → Some n ≡ or_name first other
or_first n first other e = ap (λ z. or_name z other) e

pub or_other : (first other : Option Name) → None ≡ first → other ≡ or_name first other
or_other first other e = ap (λ z. or_name z other) e

pub named_some : (g : Forests) (words : List ℕ) (v : NodeId) (value : Option NodeId) (t : Option Tree) (other : Option Name) → value ≡ Some v → trees_of g value ≡ if_scalar t → Some (words, tree g v.0) ≡ or_name (named words t) other
named_some g words v value t other s e = ap (λ z. or_name (option_map (λ y. (words, y)) z) other) (ap (trees_of g) (sym s) ∙ e)

pub named_none : (g : Forests) (words : List ℕ) (value : Option NodeId) (t : Option Tree) (other : Option Name) → value ≡ None → trees_of g value ≡ if_scalar t → other ≡ or_name (named words t) other
named_none g words value t other n e = ap (λ z. or_name (option_map (λ y. (words, y)) z) other) (ap (trees_of g) (sym n) ∙ e)

-- ---- the first of several keys

pub first_none : (f : Forests) (t : Option Tree) (texts : List (List ℕ)) (keys : List Key) → length keys ≡ 0 → AreEach f texts keys → None ≡ first_name t texts
first_none f t [] keys e h = refl
first_none f t (text ∷ texts) [] e h = absurd h
first_none f t (text ∷ texts) (key ∷ keys) e h = absurd (omega (arith, e))

module _ (f : Forests) (t : Option Tree) (texts : List (List ℕ)) (keys rest : List Key) (key : Key) (value : Option NodeId) (is : keys ≡ key ∷ rest) (each : AreEach f texts keys) (found : (text : List ℕ) → IsKey f text key → trees_of f value ≡ if_scalar (value_of t text)) where
  apart : (ts : List (List ℕ)) → AreEach f ts (key ∷ rest) → (text : List ℕ) × (others : List (List ℕ)) × (ts ≡ text ∷ others) × IsKey f text key × AreEach f others rest
  apart [] h = absurd h
  apart (text ∷ others) h = (text, others, refl, h.0, h.1)

  pub first_some : (v : NodeId) → value ≡ Some v → Some (key.text.now, tree f v.0) ≡ first_name t texts
  first_some v s =
      let a = apart texts (subst (AreEach f texts) is each) in
      ap (λ z. Some (z, tree f v.0)) a.3.text_is ∙ named_some f a.0 v value (value_of t a.0) (first_name t a.1) s (found a.0 a.3) ∙ ap (first_name t) (sym a.2)

  pub first_rest : (other : Option Name) → value ≡ None → ((ts : List (List ℕ)) → AreEach f ts rest → other ≡ first_name t ts) → other ≡ first_name t texts
  first_rest other n g =
      let a = apart texts (subst (AreEach f texts) is each) in
      g a.1 a.4 ∙ named_none f a.0 value (value_of t a.0) (first_name t a.1) n (found a.0 a.3) ∙ ap (first_name t) (sym a.2)
