-- What a merge shows at each path.
use Rattle.std.proofs.Common.{◌≡◌, ◌≢◌, Bool, true, false, [], ◌∷◌, inl, inr, refl, sym, ◌∙◌, ap}
use Rattle.std.specs.Prelude.{Option, Some, None}
use lib.Pointwise.{bytes_decides}
use Rattle.yaml_definitions.specs.model.Tree.{Tree, scalar, sequence, mapping}
use Rattle.yaml_definitions.specs.model.Same.{Same, Keyed}
use Rattle.yaml_definitions.proofs.Equivalence.{same_refl}
use Rattle.yaml_path.specs.Path.{Path, Step, mapping_head, part_of, head_of, reach, see}
use Rattle.yaml_path.proofs.PathLaws.{Match, match-seen, match-part, seen_same}
use Rattle.yaml_conflicts.specs.Merge.{alike, follows, opens, one_shape, IsMerge, Shows, ShowsAt, IsKeyed}
use Rattle.yaml_conflicts.specs.Laws.{IsOfSide, is_sequence}
use Rattle.yaml_conflicts.proofs.RuleLaws.{by-rule, not-false, opens-three}

-- ---- one place

pub one-shown : {X : Type 0} (b o t m n : X) → Shows b o t m → Shows b o t n → m ≡ n
one-shown b o t m n (inl x) (inl y) = x.1 ∙ sym y.1
one-shown b o t m n (inl x) (inr (inl y)) = x.1 ∙ y.0 ∙ sym x.0 ∙ sym y.1
one-shown b o t m n (inl x) (inr (inr y)) = x.1 ∙ sym y.0 ∙ sym y.1
one-shown b o t m n (inr (inl x)) (inl y) = x.1 ∙ y.0 ∙ sym x.0 ∙ sym y.1
one-shown b o t m n (inr (inl x)) (inr (inl y)) = x.1 ∙ sym y.1
one-shown b o t m n (inr (inl x)) (inr (inr y)) = x.1 ∙ sym y.1
one-shown b o t m n (inr (inr x)) (inl y) = x.1 ∙ x.0 ∙ sym y.1
one-shown b o t m n (inr (inr x)) (inr (inl y)) = x.1 ∙ sym y.1
one-shown b o t m n (inr (inr x)) (inr (inr y)) = x.1 ∙ sym y.1

change-shown : {X : Type 0} (b o t m : X) → Shows b o t m → o ≢ b → m ≡ o
change-shown b o t m (inl x) n = absurd (n x.0)
change-shown b o t m (inr (inl x)) n = x.1
change-shown b o t m (inr (inr x)) n = x.1

else-shown : {X : Type 0} (b o t m : X) → Shows b o t m → o ≡ b → t ≡ b → m ≡ b
else-shown b o t m (inl x) e f = x.1 ∙ f
else-shown b o t m (inr (inl x)) e f = x.1 ∙ e
else-shown b o t m (inr (inr x)) e f = x.1 ∙ e

-- ---- trees with no equal keys

pub keyed-match : (t : Option Tree) → IsKeyed t → Match t t
keyed-match None k = tt
keyed-match (Some t) k = (same_refl t, k, k)

match-keyed : (t : Option Tree) → Match t t → IsKeyed t
match-keyed None m = tt
match-keyed (Some t) m = m.1

pub part-keyed : (t : Option Tree) (s : Step) → IsKeyed t → IsKeyed (part_of t s)
part-keyed t s k = match-keyed (part_of t s) (match-part t t s (keyed-match t k))

alike-match : (t u : Option Tree) → IsKeyed t → IsKeyed u → alike t u ≡ true → Match t u
alike-match None None k l e = tt
alike-match (Some t) (Some u) k l e = (e, k, l)
alike-match None (Some u) k l e = absurd (cc)
alike-match (Some t) None k l e = absurd (cc)

alike-seen : (t u : Option Tree) → IsKeyed t → IsKeyed u → alike t u ≡ true → (p : Path) → see t p ≡ see u p
alike-seen t u k l e p = match-seen p t u (alike-match t u k l e)

shape-head : (t u : Option Tree) → one_shape t u ≡ true → head_of u ≡ head_of t
shape-head (Some (mapping a ps)) (Some (mapping b qs)) e = ap (λ z. Some (mapping_head z)) (sym ((bytes_decides a b).0 e))
shape-head None u e = absurd (cc)
shape-head (Some (scalar a x)) u e = absurd (cc)
shape-head (Some (sequence a ts)) u e = absurd (cc)
shape-head (Some (mapping a ps)) None e = absurd (cc)
shape-head (Some (mapping a ps)) (Some (scalar b x)) e = absurd (cc)
shape-head (Some (mapping a ps)) (Some (sequence b us)) e = absurd (cc)

-- ---- merges

rule-shown : (p : Path) (b o t m : Option Tree) → IsKeyed b → IsKeyed o → IsKeyed t → IsKeyed m → follows b o t m ≡ true → ShowsAt p b o t m
rule-shown p b o t m kb ko kt km e = elim (by-rule b o t m e) [
  | inl x ↦ inl (alike-seen o b ko kb x.0 p, alike-seen m t km kt x.1 p)
  | inr (inl x) ↦ inr (inl (alike-seen t b kt kb x.0 p, alike-seen m o km ko x.1 p))
  | inr (inr x) ↦ inr (inr (alike-seen o t ko kt x.0 p, alike-seen m o km ko x.1 p))
]

head-shown : (b o t m : Option Tree) → opens b o t m ≡ true → ShowsAt [] b o t m
head-shown b o t m e = let x = opens-three b o t m e in inl (shape-head b o x.0, shape-head b m x.2 ∙ sym (shape-head b t x.1))

pub merge-shown : (p : Path) (b o t m : Option Tree) → IsKeyed b → IsKeyed o → IsKeyed t → IsKeyed m → IsMerge b o t m → ShowsAt p b o t m
merge-shown [] b o t m kb ko kt km h = by (follows b o t m) refl
  where
    by : (z : Bool) → follows b o t m ≡ z → ShowsAt [] b o t m
    by true e = rule-shown [] b o t m kb ko kt km e
    by false e = head-shown b o t m (not-false (opens b o t m) (λ f. h [] (e, f)))
merge-shown (s ∷ q) b o t m kb ko kt km h =
    by (follows b o t m) refl (λ f e. merge-shown q (part_of b s) (part_of o s) (part_of t s) (part_of m s) (part-keyed b s kb) (part-keyed o s ko) (part-keyed t s kt) (part-keyed m s km) (λ r y. h (s ∷ r) (f, e, y)))
  where
    by : (z : Bool) → follows b o t m ≡ z → (follows b o t m ≡ false → opens b o t m ≡ true → ShowsAt q (part_of b s) (part_of o s) (part_of t s) (part_of m s)) → ShowsAt (s ∷ q) b o t m
    by true e g = rule-shown (s ∷ q) b o t m kb ko kt km e
    by false e g = g e (not-false (opens b o t m) (λ f. h [] (e, f)))

pub merge-changes : (b o t m : Option Tree) → IsKeyed b → IsKeyed o → IsKeyed t → IsKeyed m → IsMerge b o t m → (p : Path) → (see o p ≢ see b p → see m p ≡ see o p) × (see o p ≡ see b p → see t p ≡ see b p → see m p ≡ see b p)
merge-changes b o t m kb ko kt km h p =
    let s = merge-shown p b o t m kb ko kt km h in
    (change-shown (see b p) (see o p) (see t p) (see m p) s, else-shown (see b p) (see o p) (see t p) (see m p) s)

pub merge-one : (b o t : Option Tree) (m n : Tree) → IsKeyed b → IsKeyed o → IsKeyed t → Keyed m → Keyed n → IsMerge b o t (Some m) → IsMerge b o t (Some n) → Same m n
merge-one b o t m n kb ko kt km kn h g =
    seen_same m n km kn (λ p. one-shown (see b p) (see o p) (see t p) (see (Some m) p) (see (Some n) p) (merge-shown p b o t (Some m) kb ko kt km h) (merge-shown p b o t (Some n) kb ko kt kn g))

-- ---- sequences

alike-reach : (p : Path) (t u : Option Tree) → Match t u → alike (reach t p) (reach u p) ≡ true
alike-reach [] None None m = refl
alike-reach [] (Some t) (Some u) m = m.0
alike-reach [] None (Some u) m = absurd m
alike-reach [] (Some t) None m = absurd m
alike-reach (s ∷ q) t u m = alike-reach q (part_of t s) (part_of u s) (match-part t u s m)

no-sequence : (b m : Option Tree) → one_shape b m ≡ true → is_sequence m ≡ true → ⊥
no-sequence (Some (mapping a ps)) (Some (mapping b qs)) e i = absurd (cc)
no-sequence None m e i = absurd (cc)
no-sequence (Some (scalar a x)) m e i = absurd (cc)
no-sequence (Some (sequence a ts)) m e i = absurd (cc)
no-sequence (Some (mapping a ps)) None e i = absurd (cc)
no-sequence (Some (mapping a ps)) (Some (scalar b x)) e i = absurd (cc)
no-sequence (Some (mapping a ps)) (Some (sequence b us)) e i = absurd (cc)

rule-side : (p : Path) (b o t m : Option Tree) → IsKeyed o → IsKeyed t → IsKeyed m → follows b o t m ≡ true → IsOfSide (reach o p) (reach t p) (reach m p)
rule-side p b o t m ko kt km e = elim (by-rule b o t m e) [
  | inl x ↦ inr (alike-reach p m t (alike-match m t km kt x.1))
  | inr (inl x) ↦ inl (alike-reach p m o (alike-match m o km ko x.1))
  | inr (inr x) ↦ inl (alike-reach p m o (alike-match m o km ko x.1))
]

pub whole-sequence : (p : Path) (b o t m : Option Tree) → IsKeyed b → IsKeyed o → IsKeyed t → IsKeyed m → IsMerge b o t m → is_sequence (reach m p) ≡ true → IsOfSide (reach o p) (reach t p) (reach m p)
whole-sequence [] b o t m kb ko kt km h i = by (follows b o t m) refl
  where
    by : (z : Bool) → follows b o t m ≡ z → IsOfSide o t m
    by true e = rule-side [] b o t m ko kt km e
    by false e = absurd (no-sequence b m (opens-three b o t m (not-false (opens b o t m) (λ f. h [] (e, f)))).2 i)
whole-sequence (s ∷ q) b o t m kb ko kt km h i =
    by (follows b o t m) refl (λ f e. whole-sequence q (part_of b s) (part_of o s) (part_of t s) (part_of m s) (part-keyed b s kb) (part-keyed o s ko) (part-keyed t s kt) (part-keyed m s km) (λ r y. h (s ∷ r) (f, e, y)) i)
  where
    by : (z : Bool) → follows b o t m ≡ z → (follows b o t m ≡ false → opens b o t m ≡ true → IsOfSide (reach o (s ∷ q)) (reach t (s ∷ q)) (reach m (s ∷ q))) → IsOfSide (reach o (s ∷ q)) (reach t (s ∷ q)) (reach m (s ∷ q))
    by true e g = rule-side (s ∷ q) b o t m ko kt km e
    by false e g = g e (not-false (opens b o t m) (λ f. h [] (e, f)))

pub merge-alike : (b o t m n : Option Tree) → IsKeyed b → IsKeyed o → IsKeyed t → IsKeyed m → IsKeyed n → IsMerge b o t m → IsMerge b o t n → alike m n ≡ true
merge-alike b o t None None kb ko kt km kn h g = refl
merge-alike b o t (Some m) (Some n) kb ko kt km kn h g = merge-one b o t m n kb ko kt km kn h g
merge-alike b o t None (Some n) kb ko kt km kn h g = absurd (none-head n (one-shown (see b []) (see o []) (see t []) None (see (Some n) []) (merge-shown [] b o t None kb ko kt km h) (merge-shown [] b o t (Some n) kb ko kt kn g)))
  where
    none-head : (n : Tree) → None ≡ head_of (Some n) → ⊥
    none-head n e = absurd (cc)
merge-alike b o t (Some m) None kb ko kt km kn h g = absurd (none-head m (one-shown (see b []) (see o []) (see t []) None (see (Some m) []) (merge-shown [] b o t None kb ko kt kn g) (merge-shown [] b o t (Some m) kb ko kt km h)))
  where
    none-head : (n : Tree) → None ≡ head_of (Some n) → ⊥
    none-head n e = absurd (cc)
