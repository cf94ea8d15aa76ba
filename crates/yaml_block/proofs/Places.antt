-- Places grow with borders.
use Rattle.std.proofs.Common.{◌≡◌, ℕ, ◌<◌, ◌≤◌, ◌⊎◌, inl, inr, ap, arith}
use Rattle.std.proofs.Math.Nat.{eq-or-lt_of_le}
use Rattle.std.proofs.lemmas.Str.{IsUtf8-had}
use Rattle.yaml_text.specs.declared.chars.Chars.{Chars}
use Rattle.yaml_text.specs.Source.{place_of, IsBorder}
use Rattle.yaml_text.proofs.PlaceLemmas.{place_less, place_same}

pub places_up : (s : Chars) (a b : ℕ) → IsBorder s a → IsBorder s b → a ≤ b → place_of s a ≤ place_of s b
places_up s a b p q l = pick (eq-or-lt_of_le l)
  where
    pick : (a ≡ b) ⊎ (a < b) → place_of s a ≤ place_of s b
    pick (inl e) = let x : place_of s a ≡ place_of s b = ap (place_of s) e in omega (arith, x)
    pick (inr h) = let x : place_of s a < place_of s b = place_less s.text.now a b (IsUtf8-had s.text.now s.utf8) p q h in omega (arith, x)

pub borders_same : (s : Chars) (a b : ℕ) → IsBorder s a → IsBorder s b → place_of s a ≡ place_of s b → a ≡ b
borders_same s a b p q e = place_same s.text.now a b (IsUtf8-had s.text.now s.utf8) p q e
