-- The front of a list of which each member is of a class.
use Rattle.std.proofs.Common.{◌≡◌, ◌⊎◌, inl, inr, ℕ, ◌+◌, ◌-◌, ◌<◌, ◌≤◌, List, length, take, drop, get_or, ◌∙◌, ap, subst, arith}
use Rattle.std.proofs.lemmas.List.{get_or-drop, get_or-take, length-take, length-drop}
use Rattle.std.proofs.lemmas.Bool.{cases_lt}

-- a front of the rest, too
pub front_on : (P : ℕ → Type 0) (xs : List ℕ) (at n len : ℕ) → ((k : ℕ) → k < at → P (get_or xs k 0)) → ((k : ℕ) → k < len → P (get_or (take n (drop at xs)) k 0)) → len ≤ length (take n (drop at xs)) → (k : ℕ) → k < at + len → P (get_or xs k 0)
front_on P xs at n len h m l k f = pick (cases_lt k at) where
  pick : (k < at) ⊎ (at ≤ k) → P (get_or xs k 0)
  pick (inl e) = h k e
  pick (inr e) =
      let small : k - at < len = omega (arith, e, f) in
      let within : k - at < n = omega (arith, small, l, length-take n (drop at xs)) in
      let whole : at + (k - at) ≡ k = omega (arith, e) in
      subst P (get_or-take n (drop at xs) (k - at) 0 within ∙ get_or-drop at xs (k - at) 0 ∙ ap (λ i. get_or xs i 0) whole) (m (k - at) small)

-- a stretch of the rest has its length
pub stretch_len : (xs : List ℕ) (at n len : ℕ) → at + len ≤ length xs → n ≡ len → length (take n (drop at xs)) ≡ len
stretch_len xs at n len l e = omega (arith, l, e, length-take n (drop at xs), length-drop at xs)
