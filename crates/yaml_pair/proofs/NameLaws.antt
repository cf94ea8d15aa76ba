-- Names as they are compared, and the trees that have them.
use Rattle.std.proofs.Common.{◌≡◌, ℕ, ◌<◌, Bool, true, false, ◌&&◌, ◌==◌, List, [], inl, inr, refl, sym, ◌∙◌, ap, eq-eqb}
use Rattle.std.specs.Prelude.{Option, Some, None, bytes_eq, codes}
use Rattle.std.specs.declared.cmp.Ordering.{Ordering}
use Rattle.std.specs.declared.cmp.Ordering.TheVariants.{Less, Equal, Greater}
use Rattle.std.specs.Ordering.{ordering_then, nat_cmp, is_eq}
use Rattle.std.specs.Cmp.{IsTotalOrder, IsEquivalence}
use Rattle.std.specs.Cmp.Lexicographic.{slice_cmp, options_total}
use Rattle.std.specs.Option.{option_cmp}
use Rattle.std.proofs.lemmas.Cmp.{nat_cmp_total, nat_list_cmp_total, on_total, then_total, tied_itself, eq_by_cmp_equiv}
use Rattle.std.proofs.lemmas.Map.Text.{is_eq-slice_cmp}
use Rattle.std.proofs.lemmas.Bool.{eqb-true}
use Rattle.yaml_definitions.specs.model.Tree.{Tree}
use Rattle.yaml_definitions.specs.model.Same.{same}
use Rattle.yaml_store_rank.specs.Forests.{Forests, count, tree, rank, IsRanked}
use Rattle.yaml_tree.proofs.Numbers.{equal-cmp}
use Rattle.yaml_pair.specs.Names.{Naming, by_object, by_path, scalar_at, group_of, both_same, same_if_any, both_equal, same_object, same_name}
use Rattle.yaml_pair.specs.Named.{Name, name_cmp, is_one, IsScalarRank, IsObjectName, IsPathName, IsName}
use Rattle.yaml_pair.proofs.Parts.{same-test}

-- ---- the order of names

pub name_total : IsTotalOrder name_cmp
name_total =
    then_total (then_total (then_total (on_total (λ (x : Name). x.0.now) nat_list_cmp_total) (on_total (λ (x : Name). x.1) nat_cmp_total)) (on_total (λ (x : Name). x.2) (options_total nat_cmp_total))) (on_total (λ (x : Name). x.3) nat_cmp_total)

pub name_laws : IsEquivalence is_one
name_laws = eq_by_cmp_equiv name_total

then-eq : (a b : Ordering) → is_eq (ordering_then a b) ≡ (is_eq a && is_eq b)
then-eq Less b = refl
then-eq Equal b = refl
then-eq Greater b = refl

and-moved : (a b c d : Bool) → (((a && b) && c) && d) ≡ (a && (b && (c && d)))
and-moved true true c d = refl
and-moved true false c d = refl
and-moved false b c d = refl

eq-equal : (a : Ordering) → is_eq a ≡ true → a ≡ Equal
eq-equal Less e = absurd (cc)
eq-equal Equal e = refl
eq-equal Greater e = absurd (cc)

pub nat-eq : (x y : ℕ) → is_eq (nat_cmp x y) ≡ (x == y)
nat-eq x y = same-test (is_eq (nat_cmp x y)) (x == y)
    (λ e. eq-eqb x y (equal-cmp x y (eq-equal (nat_cmp x y) e)))
    (λ e. let q = eqb-true x y e in ap (λ z. is_eq (nat_cmp x z)) (sym q) ∙ ap is_eq (tied_itself nat_cmp_total x))

-- whether both are there and equal, or neither is there
abbrev pub equal_if_any : Option ℕ → Option ℕ → Bool
equal_if_any (Some x) (Some y) = x == y
equal_if_any None None = true
equal_if_any _ _ = false

option-eq : (x y : Option ℕ) → is_eq (option_cmp nat_cmp x y) ≡ equal_if_any x y
option-eq None None = refl
option-eq None (Some y) = refl
option-eq (Some x) None = refl
option-eq (Some x) (Some y) = nat-eq x y

pub one-parts : (n m : Name) → is_one n m ≡ (bytes_eq n.0.now m.0.now && ((n.1 == m.1) && (equal_if_any n.2 m.2 && (n.3 == m.3))))
one-parts n m =
    let a = slice_cmp nat_cmp n.0.now m.0.now in
    let b = nat_cmp n.1 m.1 in
    let c = option_cmp nat_cmp n.2 m.2 in
    let d = nat_cmp n.3 m.3 in
    then-eq (ordering_then (ordering_then a b) c) d ∙ ap (λ z. z && is_eq d) (then-eq (ordering_then a b) c) ∙ ap (λ z. (z && is_eq c) && is_eq d) (then-eq a b)
    ∙ and-moved (is_eq a) (is_eq b) (is_eq c) (is_eq d)
    ∙ ap (λ z. z && (is_eq b && (is_eq c && is_eq d))) (is_eq-slice_cmp n.0.now m.0.now)
    ∙ ap (λ z. bytes_eq n.0.now m.0.now && (z && (is_eq c && is_eq d))) (nat-eq n.1 m.1)
    ∙ ap (λ z. bytes_eq n.0.now m.0.now && ((n.1 == m.1) && (z && is_eq d))) (option-eq n.2 m.2)
    ∙ ap (λ z. bytes_eq n.0.now m.0.now && ((n.1 == m.1) && (equal_if_any n.2 m.2 && z))) (nat-eq n.3 m.3)

-- ---- the trees that have names

and-false : (a : Bool) → (a && false) ≡ false
and-false true = refl
and-false false = refl

and-true : (a : Bool) → (a && true) ≡ a
and-true true = refl
and-true false = refl

not-right : (t : Option Tree) → both_same t None ≡ false
not-right None = refl
not-right (Some t) = refl

not-equal-right : (x : Option (List ℕ)) → both_equal x None ≡ false
not-equal-right None = refl
not-equal-right (Some x) = refl

-- whether both are names, and one
abbrev pub one_name : Option Name → Option Name → Bool
one_name (Some n) (Some m) = is_one n m
one_name _ _ = false

module _ (g : Forests) (ranked : IsRanked g) where
  pub ranks-same : (i j : ℕ) → i < count g → j < count g → (rank g i == rank g j) ≡ same (tree g i) (tree g j)
  ranks-same i j l m =
      let h = (ranked.ranked i j l m).0 in
      same-test (rank g i == rank g j) (same (tree g i) (tree g j)) (λ e. h.0 (eqb-true (rank g i) (rank g j) e)) (λ e. eq-eqb (rank g i) (rank g j) (h.1 e))

  rank-both : (t u : Option Tree) (x y : ℕ) → IsScalarRank g t (Some x) → IsScalarRank g u (Some y) → (x == y) ≡ both_same t u
  rank-both t u x y a b =
      ap (λ z. z == y) a.3 ∙ ap (λ z. rank g a.0 == z) b.3 ∙ ranks-same a.0 b.0 a.1 b.1 ∙ ap (λ z. both_same z (Some (tree g b.0))) (sym a.2) ∙ ap (both_same t) (sym b.2)

  rank-any : (t u : Option Tree) (x y : Option ℕ) → IsScalarRank g t x → IsScalarRank g u y → equal_if_any x y ≡ same_if_any t u
  rank-any t u None None a b = ap (λ z. same_if_any z None) (sym a) ∙ ap (same_if_any t) (sym b)
  rank-any t u None (Some y) a b = ap (λ z. same_if_any z (Some (tree g b.0))) (sym a) ∙ ap (same_if_any t) (sym b.2)
  rank-any t u (Some x) None a b = ap (λ z. same_if_any z None) (sym a.2) ∙ ap (same_if_any t) (sym b)
  rank-any t u (Some x) (Some y) a b =
      ap (λ z. z == y) a.3 ∙ ap (λ z. rank g a.0 == z) b.3 ∙ ranks-same a.0 b.0 a.1 b.1 ∙ ap (λ z. same_if_any z (Some (tree g b.0))) (sym a.2) ∙ ap (same_if_any t) (sym b.2)

  module _ (t u : Tree) where
    abbrev kinds : Bool
    kinds = both_same (scalar_at t (codes "kind")) (scalar_at u (codes "kind"))

    abbrev spaces : Bool
    spaces = same_if_any (scalar_at t (codes "metadata.namespace")) (scalar_at u (codes "metadata.namespace"))

    abbrev names : Bool
    names = both_same (scalar_at t (codes "metadata.name")) (scalar_at u (codes "metadata.name"))

    abbrev groups : Bool
    groups = both_equal (group_of t) (group_of u)

    no-group : groups ≡ false → same_object t u ≡ false
    no-group e = ap (λ z. z && (kinds && (spaces && names))) e

    no-kind : kinds ≡ false → same_object t u ≡ false
    no-kind e = ap (λ z. groups && (z && (spaces && names))) e ∙ and-false groups

    no-name : names ≡ false → same_object t u ≡ false
    no-name e = ap (λ z. groups && (kinds && (spaces && z))) e ∙ ap (λ z. groups && (kinds && z)) (and-false spaces) ∙ ap (λ z. groups && z) (and-false kinds) ∙ and-false groups

    object-none-left : IsObjectName g t None → same_object t u ≡ false
    object-none-left h = elim h [
      | inl e ↦ no-group (ap (λ z. both_equal z (group_of u)) e)
      | inr x ↦ elim x [
        | inl e ↦ no-kind (ap (λ z. both_same z (scalar_at u (codes "kind"))) e)
        | inr e ↦ no-name (ap (λ z. both_same z (scalar_at u (codes "metadata.name"))) e)
      ]
    ]

    object-none-right : IsObjectName g u None → same_object t u ≡ false
    object-none-right h = elim h [
      | inl e ↦ no-group (ap (both_equal (group_of t)) e ∙ not-equal-right (group_of t))
      | inr x ↦ elim x [
        | inl e ↦ no-kind (ap (both_same (scalar_at t (codes "kind"))) e ∙ not-right (scalar_at t (codes "kind")))
        | inr e ↦ no-name (ap (both_same (scalar_at t (codes "metadata.name"))) e ∙ not-right (scalar_at t (codes "metadata.name")))
      ]
    ]

    object-same : (n m : Name) → IsObjectName g t (Some n) → IsObjectName g u (Some m) → is_one n m ≡ same_object t u
    object-same n m a b =
        let gs : bytes_eq n.0.now m.0.now ≡ groups = ap (λ z. both_equal z (Some m.0.now)) (sym a.0) ∙ ap (both_equal (group_of t)) (sym b.0) in
        one-parts n m
        ∙ ap (λ z. z && ((n.1 == m.1) && (equal_if_any n.2 m.2 && (n.3 == m.3)))) gs
        ∙ ap (λ z. groups && (z && (equal_if_any n.2 m.2 && (n.3 == m.3)))) (rank-both (scalar_at t (codes "kind")) (scalar_at u (codes "kind")) n.1 m.1 a.1 b.1)
        ∙ ap (λ z. groups && (kinds && (z && (n.3 == m.3)))) (rank-any (scalar_at t (codes "metadata.namespace")) (scalar_at u (codes "metadata.namespace")) n.2 m.2 a.2 b.2)
        ∙ ap (λ z. groups && (kinds && (spaces && z))) (rank-both (scalar_at t (codes "metadata.name")) (scalar_at u (codes "metadata.name")) n.3 m.3 a.3 b.3)

  path-same : (t u : Option Tree) (n m : Name) → IsPathName g t (Some n) → IsPathName g u (Some m) → is_one n m ≡ both_same t u
  path-same t u n m a b =
      one-parts n m
      ∙ ap (λ z. bytes_eq z m.0.now && ((n.1 == m.1) && (equal_if_any n.2 m.2 && (n.3 == m.3)))) a.0
      ∙ ap (λ z. bytes_eq [] z && ((n.1 == m.1) && (equal_if_any n.2 m.2 && (n.3 == m.3)))) b.0
      ∙ ap (λ z. (n.1 == m.1) && (equal_if_any z m.2 && (n.3 == m.3))) a.2
      ∙ ap (λ z. (n.1 == m.1) && (equal_if_any None z && (n.3 == m.3))) b.2
      ∙ ap (λ z. (n.1 == m.1) && (z == m.3)) a.3
      ∙ ap (λ z. (n.1 == m.1) && (0 == z)) b.3
      ∙ and-true (n.1 == m.1)
      ∙ rank-both t u n.1 m.1 a.1 b.1

  -- names are one exactly where the trees have the same name
  pub name-same : (c : Naming) (t u : Tree) (o p : Option Name) → IsName g c t o → IsName g c u p → one_name o p ≡ same_name c t u
  name-same by_object t u None p a b = sym (object-none-left t u a)
  name-same by_object t u (Some n) None a b = sym (object-none-right t u b)
  name-same by_object t u (Some n) (Some m) a b = object-same t u n m a b
  name-same (by_path path) t u None p a b = sym (ap (λ z. both_same z (scalar_at u path)) a)
  name-same (by_path path) t u (Some n) None a b = sym (ap (both_same (scalar_at t path)) b ∙ not-right (scalar_at t path))
  name-same (by_path path) t u (Some n) (Some m) a b = path-same (scalar_at t path) (scalar_at u path) n m a b
