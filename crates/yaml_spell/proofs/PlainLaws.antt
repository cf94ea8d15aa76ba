-- Bytes that are written as they are, told stretch by stretch.
use Rattle.std.proofs.Common.{◌≡◌, ◌⊎◌, inl, inr, ℕ, ◌+◌, ◌-◌, ◌<◌, ◌≤◌, Bool, true, false, List, length, take, drop, refl, ◌∙◌, ap, subst, arith}
use Rattle.std.specs.Prelude.{◌&&◌, slice_index}
use Rattle.std.proofs.lemmas.List.{get_or-drop, get_or-take, length-take, length-drop}
use Rattle.std.proofs.lemmas.Bool.{cases_lt}
use Rattle.yaml_spell.specs.Quoted.{Plain, Other, AllPlain, SomeOther}

stretch : (xs : List ℕ) (i n k : ℕ) → k < length (take n (drop i xs)) → (i + k < length xs) × (slice_index (take n (drop i xs)) k ≡ slice_index xs (i + k))
stretch xs i n k l =
    let a = length-take n (drop i xs) in
    let b = length-drop i xs in
    let within : k < n = omega (arith, l, a) in
    (omega (arith, l, a, b), get_or-take n (drop i xs) k 0 within ∙ get_or-drop i xs k 0)

-- one that is none
pub other_in : (xs : List ℕ) (i n : ℕ) → SomeOther (take n (drop i xs)) → SomeOther xs
other_in xs i n h = let s = stretch xs i n h.0 h.1 in (i + h.0, s.0, subst Other s.1 h.2)

pub other_first : (xs : List ℕ) (n : ℕ) → SomeOther (take n xs) → SomeOther xs
other_first xs n h = other_in xs 0 n h

-- all, from those before a place and a last stretch
pub plain_last : (xs : List ℕ) (at i : ℕ) → i ≤ at → ((k : ℕ) → k < at → Plain (slice_index xs k)) → AllPlain (take (length xs - i) (drop i xs)) → AllPlain xs
plain_last xs at i l h m k e = pick (cases_lt k at)
  where
    pick : (k < at) ⊎ (at ≤ k) → Plain (slice_index xs k)
    pick (inl f) = h k f
    pick (inr f) =
        let a = length-take (length xs - i) (drop i xs) in
        let b = length-drop i xs in
        let small : k - i < length (take (length xs - i) (drop i xs)) = omega (arith, a, b, e, f, l) in
        let whole : i + (k - i) ≡ k = omega (arith, f, l) in
        subst Plain ((stretch xs i (length xs - i) (k - i) small).1 ∙ ap (slice_index xs) whole) (m (k - i) small)

pub plain_first : (xs : List ℕ) (n : ℕ) → n ≤ length xs → AllPlain (take n xs) → (k : ℕ) → k < n → Plain (slice_index xs k)
plain_first xs n l h k e =
    let a = length-take n xs in
    subst Plain (get_or-take n xs k 0 e) (h k (omega (arith, a, e, l)))

-- ---- two answers in one

pub both_yes : (a b : Bool) → (a && b) ≡ true → (a ≡ true) × (b ≡ true)
both_yes true true e = (refl, refl)
both_yes true false e = absurd (cc)
both_yes false b e = absurd (cc)

pub either_no : {Q : Type 0} (a b : Bool) → (a && b) ≡ false → (a ≡ false → Q) → (b ≡ false → Q) → Q
either_no false b e f g = f refl
either_no true false e f g = g refl
either_no true true e f g = absurd (cc)
