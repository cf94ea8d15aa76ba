-- Lists, and ways of lines behind one more step.
use Rattle.std.proofs.Common.{◌≡◌, ℕ, zero, suc, ◌+◌, ◌⊎◌, List, [], ◌∷◌, ◌++◌, map, reverse, length, inl, inr, refl, ◌∙◌, ap, subst, arith}
use Rattle.std.specs.Prelude.{Some}
use Rattle.std.specs.List.{slice_get}
use Rattle.std.proofs.lemmas.List.{reverse-append}
use Rattle.yaml_store_rank.specs.Forests.{Forests}
use Rattle.yaml_path.specs.Ways.{Step, Way, AlikeStep, AlikeWay}
use Rattle.yaml_diff.specs.declared.difference.Step as code
use Rattle.yaml_diff.specs.Lines.{step_of, Line, way_of, under, Begins}
use Rattle.yaml_diff.proofs.WayLaws.{step-back}

-- ---- lists

pub get-nth : {X : Type 0} (xs ys : List X) (k : ℕ) → slice_get (xs ++ ys) (length xs + k) ≡ slice_get ys k
get-nth [] ys k = let e : 0 + k ≡ k = omega arith in ap (slice_get ys) e
get-nth (x ∷ xs) ys k = let e : suc (length xs) + k ≡ suc (length xs + k) = omega arith in ap (slice_get (x ∷ (xs ++ ys))) e ∙ get-nth xs ys k

-- what stands at a place of two lists is of the first or of the second
pub get-side : {X : Type 0} (xs ys : List X) (k : ℕ) (x : X) → slice_get (xs ++ ys) k ≡ Some x → (slice_get xs k ≡ Some x) ⊎ ((j : ℕ) × (k ≡ length xs + j) × (slice_get ys j ≡ Some x))
get-side [] ys k x e = inr (k, omega arith, e)
get-side (y ∷ xs) ys zero x e = inl e
get-side (y ∷ xs) ys (suc k) x e = elim (get-side xs ys k x e) [ inl a ↦ inl a | inr a ↦ inr (a.0, omega (arith, a.1), a.2) ]

pub get-behind : {X : Type 0} (xs ys : List X) (k : ℕ) (x : X) → slice_get ys k ≡ Some x → slice_get (xs ++ ys) (length xs + k) ≡ Some x
get-behind xs ys k x e = get-nth xs ys k ∙ e

pub get-map : {X Y : Type 0} (f : X → Y) (xs : List X) (k : ℕ) (y : Y) → slice_get (map f xs) k ≡ Some y → (x : X) × (slice_get xs k ≡ Some x) × (f x ≡ y)
get-map f [] k y e = absurd (cc)
get-map f (x ∷ xs) zero y e = (x, refl, cc)
get-map f (x ∷ xs) (suc k) y e = get-map f xs k y e

pub map-get : {X Y : Type 0} (f : X → Y) (xs : List X) (k : ℕ) (x : X) → slice_get xs k ≡ Some x → slice_get (map f xs) k ≡ Some (f x)
map-get f [] k x e = absurd (cc)
map-get f (y ∷ xs) zero x e = let q : y ≡ x = cc in ap (λ z. Some (f z)) q
map-get f (y ∷ xs) (suc k) x e = map-get f xs k x e

pub map-end : {X Y : Type 0} (f : X → Y) (xs : List X) (x : X) → map f (xs ++ (x ∷ [])) ≡ map f xs ++ (f x ∷ [])
map-end f [] x = refl
map-end f (y ∷ xs) x = ap (λ z. f y ∷ z) (map-end f xs x)

reverse-end : {X : Type 0} (xs : List X) (x : X) → reverse (xs ++ (x ∷ [])) ≡ x ∷ reverse xs
reverse-end xs x = reverse-append xs (x ∷ [])

pub some-is : {X : Type 0} {x y : X} → Some x ≡ Some y → x ≡ y
some-is e = cc

-- ---- one step more

pub way-under : (g : Forests) (s : code.Step) (d : Line) → way_of g (under s d).0 ≡ step_of g s ∷ way_of g d.0
way-under g s d = ap reverse (map-end (step_of g) d.0 s) ∙ reverse-end (map (step_of g) d.0) (step_of g s)

pub way-back : (p q : Way) → AlikeWay p q → AlikeWay q p
way-back [] [] a = tt
way-back (s ∷ p) (r ∷ q) a = (step-back s r a.0, way-back p q a.1)
way-back [] (r ∷ q) a = absurd a
way-back (s ∷ p) [] a = absurd a

-- an old line and one behind a new step have other first steps
pub cross : (g : Forests) (old : Step → Type 0) (s : code.Step) (d e : Line) → Begins old (way_of g d.0) → ((r : Step) → old r → AlikeStep r (step_of g s) → ⊥) → AlikeWay (way_of g d.0) (way_of g (under s e).0) → ⊥
cross g old s d e b f a =
    let h : AlikeWay (b.0 ∷ b.1) (step_of g s ∷ way_of g e.0) = subst (λ z. AlikeWay z (step_of g s ∷ way_of g e.0)) b.2 (subst (AlikeWay (way_of g d.0)) (way-under g s e) a) in
    f b.0 b.3 h.0
