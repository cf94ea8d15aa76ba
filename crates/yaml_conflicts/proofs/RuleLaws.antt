-- What the rules say of one place.
use Rattle.std.proofs.Common.{◌≡◌, Bool, true, false, ◌&&◌, ◌||◌, ◌⊎◌, [], ◌∷◌, inl, inr, refl, ◌∙◌}
use Rattle.std.specs.Prelude.{Option, Some, None}
use lib.Pointwise.{bytes_decides}
use Rattle.yaml_definitions.specs.model.Tree.{Tree, scalar, sequence, mapping}
use Rattle.yaml_definitions.proofs.Members.{and_both, both_and, or_either, or_left, or_right}
use Rattle.yaml_definitions.proofs.Equivalence.{same_refl, same_sym, same_trans}
use Rattle.yaml_path.specs.Path.{Path, Step, part_of}
use Rattle.yaml_conflicts.specs.Merge.{alike, follows, is_ruled, opens, one_shape, Conflicts, Strays, IsMerge}

-- ---- equal values

pub alike-self : (t : Option Tree) → alike t t ≡ true
alike-self None = refl
alike-self (Some t) = same_refl t

pub alike-back : (t u : Option Tree) → alike t u ≡ true → alike u t ≡ true
alike-back None None e = refl
alike-back (Some t) (Some u) e = same_sym t u e
alike-back None (Some u) e = absurd (cc)
alike-back (Some t) None e = absurd (cc)

pub alike-trans : (t u z : Option Tree) → alike t u ≡ true → alike u z ≡ true → alike t z ≡ true
alike-trans None None z e f = f
alike-trans (Some t) (Some u) (Some z) e f = same_trans t u z e f
alike-trans None (Some u) z e f = absurd (cc)
alike-trans (Some t) None z e f = absurd (cc)
alike-trans (Some t) (Some u) None e f = absurd (cc)

-- ---- the rules

-- which rule the merge follows
abbrev pub ByRule : (b o t m : Option Tree) → Type 0
ByRule b o t m = ((alike o b ≡ true) × (alike m t ≡ true)) ⊎ (((alike t b ≡ true) × (alike m o ≡ true)) ⊎ ((alike o t ≡ true) × (alike m o ≡ true)))

pub by-rule : (b o t m : Option Tree) → follows b o t m ≡ true → ByRule b o t m
by-rule b o t m h = elim (or_either (alike o b && alike m t) ((alike t b && alike m o) || (alike o t && alike m o)) h) [
  | inl e ↦ inl (and_both (alike o b) (alike m t) e)
  | inr e ↦ elim (or_either (alike t b && alike m o) (alike o t && alike m o) e) [
    | inl f ↦ inr (inl (and_both (alike t b) (alike m o) f))
    | inr f ↦ inr (inr (and_both (alike o t) (alike m o) f))
  ]
]

pub rule-by : (b o t m : Option Tree) → ByRule b o t m → follows b o t m ≡ true
rule-by b o t m (inl e) = or_left (alike o b && alike m t) ((alike t b && alike m o) || (alike o t && alike m o)) (both_and (alike o b) (alike m t) e.0 e.1)
rule-by b o t m (inr (inl e)) = or_right (alike o b && alike m t) ((alike t b && alike m o) || (alike o t && alike m o)) (or_left (alike t b && alike m o) (alike o t && alike m o) (both_and (alike t b) (alike m o) e.0 e.1))
rule-by b o t m (inr (inr e)) = or_right (alike o b && alike m t) ((alike t b && alike m o) || (alike o t && alike m o)) (or_right (alike t b && alike m o) (alike o t && alike m o) (both_and (alike o t) (alike m o) e.0 e.1))

-- which rule decides
abbrev pub Ruled : (b o t : Option Tree) → Type 0
Ruled b o t = (alike o b ≡ true) ⊎ ((alike t b ≡ true) ⊎ (alike o t ≡ true))

pub ruled-by : (b o t : Option Tree) → is_ruled b o t ≡ true → Ruled b o t
ruled-by b o t h = elim (or_either (alike o b) (alike t b || alike o t) h) [ inl e ↦ inl e | inr e ↦ inr (or_either (alike t b) (alike o t) e) ]

pub by-ruled : (b o t : Option Tree) → Ruled b o t → is_ruled b o t ≡ true
by-ruled b o t (inl e) = or_left (alike o b) (alike t b || alike o t) e
by-ruled b o t (inr (inl e)) = or_right (alike o b) (alike t b || alike o t) (or_left (alike t b) (alike o t) e)
by-ruled b o t (inr (inr e)) = or_right (alike o b) (alike t b || alike o t) (or_right (alike t b) (alike o t) e)

pub true-false : {x : Bool} → x ≡ true → x ≡ false → ⊥
true-false e f = absurd (cc)

pub not-false : (x : Bool) → (x ≡ false → ⊥) → x ≡ true
not-false true n = refl
not-false false n = absurd (n refl)

pub not-true : (x : Bool) → (x ≡ true → ⊥) → x ≡ false
not-true true n = absurd (n refl)
not-true false n = refl

-- a merge that follows a rule is one that a rule decides
pub follows-ruled : (b o t m : Option Tree) → follows b o t m ≡ true → is_ruled b o t ≡ true
follows-ruled b o t m h = by-ruled b o t (elim (by-rule b o t m h) [ inl e ↦ inl e.0 | inr (inl e) ↦ inr (inl e.0) | inr (inr e) ↦ inr (inr e.0) ])

pub follows-either : (b o t m : Option Tree) → follows b o t m ≡ true → follows b t o m ≡ true
follows-either b o t m h = rule-by b t o m (elim (by-rule b o t m h) [
  | inl e ↦ inr (inl e)
  | inr (inl e) ↦ inl e
  | inr (inr e) ↦ inr (inr (alike-back o t e.0, alike-trans m o t e.1 e.0))
])

pub opens-either : (b o t m : Option Tree) → opens b o t m ≡ opens b t o m
opens-either b o t m = by (one_shape b o) (one_shape b t) (one_shape b m)
  where
    by : (x y z : Bool) → (x && (y && z)) ≡ (y && (x && z))
    by true true z = refl
    by true false z = refl
    by false true z = refl
    by false false z = refl

pub opens-three : (b o t m : Option Tree) → opens b o t m ≡ true → (one_shape b o ≡ true) × (one_shape b t ≡ true) × (one_shape b m ≡ true)
opens-three b o t m h = let x = and_both (one_shape b o) (one_shape b t && one_shape b m) h in let y = and_both (one_shape b t) (one_shape b m) x.1 in (x.0, y.0, y.1)

pub three-open : (b o t m : Option Tree) → one_shape b o ≡ true → one_shape b t ≡ true → one_shape b m ≡ true → opens b o t m ≡ true
three-open b o t m x y z = both_and (one_shape b o) (one_shape b t && one_shape b m) x (both_and (one_shape b t) (one_shape b m) y z)

-- ---- shapes

pub shape-self : (b o : Option Tree) → one_shape b o ≡ true → one_shape b b ≡ true
shape-self None o e = absurd (cc)
shape-self (Some (scalar a x)) o e = absurd (cc)
shape-self (Some (sequence a ts)) o e = absurd (cc)
shape-self (Some (mapping a ps)) o e = (bytes_decides a a).1 refl

-- ---- merges

pub follows-merge : (b o t m : Option Tree) → follows b o t m ≡ true → IsMerge b o t m
follows-merge b o t m f [] s = true-false f s.0
follows-merge b o t m f (x ∷ p) s = true-false f s.0

pub open-merge : (b o t m : Option Tree) → opens b o t m ≡ true → ((s : Step) → IsMerge (part_of b s) (part_of o s) (part_of t s) (part_of m s)) → IsMerge b o t m
open-merge b o t m f h [] s = true-false f s.1
open-merge b o t m f h (x ∷ p) s = h x p s.2

pub no-merge : IsMerge None None None None
no-merge = follows-merge None None None None refl

pub strays-either : (p : Path) (b o t m : Option Tree) → Strays p b t o m → Strays p b o t m
strays-either [] b o t m s = (not-true (follows b o t m) (λ e. true-false (follows-either b o t m e) s.0), opens-either b o t m ∙ s.1)
strays-either (x ∷ p) b o t m s = (not-true (follows b o t m) (λ e. true-false (follows-either b o t m e) s.0), opens-either b o t m ∙ s.1, strays-either p (part_of b x) (part_of o x) (part_of t x) (part_of m x) s.2)

pub merge-either : (b o t m : Option Tree) → IsMerge b o t m → IsMerge b t o m
merge-either b o t m h p s = h p (strays-either p b o t m s)

pub merge-sides : (b o : Option Tree) → IsMerge b b o o × IsMerge b o b o × IsMerge b o o o
merge-sides b o = (
  follows-merge b b o o (rule-by b b o o (inl (alike-self b, alike-self o))),
  follows-merge b o b o (rule-by b o b o (inr (inl (alike-self b, alike-self o)))),
  follows-merge b o o o (rule-by b o o o (inr (inr (alike-self o, alike-self o)))),
)

-- ---- conflicts

-- where there is a conflict, no merge exists
pub conflict-none : (p : Path) (b o t m : Option Tree) → Conflicts p b o t → IsMerge b o t m → ⊥
conflict-none [] b o t m c h = h [] (not-true (follows b o t m) (λ e. true-false (follows-ruled b o t m e) c.0), not-true (opens b o t m) (λ e. let x = opens-three b o t m e in true-false (three-open b o t b x.0 x.1 (shape-self b o x.0)) c.1))
conflict-none (x ∷ p) b o t m c h =
    let free : follows b o t m ≡ false = not-true (follows b o t m) (λ e. true-false (follows-ruled b o t m e) c.0) in
    by (opens b o t m) refl free (λ e. conflict-none p (part_of b x) (part_of o x) (part_of t x) (part_of m x) c.2 (λ q s. h (x ∷ q) (free, e, s)))
  where
    by : (z : Bool) → opens b o t m ≡ z → follows b o t m ≡ false → (opens b o t m ≡ true → ⊥) → ⊥
    by true e n f = f e
    by false e n f = h [] (n, e)
