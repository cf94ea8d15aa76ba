-- A content as a part of the text of all contents.
use Rattle.std.proofs.Common.{◌≡◌, ℕ, zero, suc, ◌+◌, ◌-◌, ◌<◌, ◌≤◌, List, [], length, take, drop, get_or, Option, unwrap_or, Bor, sym, ◌∙◌, ap, subst, arith}
use Rattle.std.specs.Prelude.{Some, None}
use Rattle.std.specs.List.{slice_range}
use Rattle.std.specs.Str.{IsUtf8, IsCharBoundary}
use Rattle.std.proofs.lemmas.List.{get_or-take, get_or-drop, length-drop, length-take-le}
use Rattle.std.proofs.lemmas.Str.{IsUtf8-drop, IsCharBoundary-start, IsCharBoundary-from_take, IsCharBoundary-from_rest}
use Rattle.std.specs.Str.Pattern.{GetsRange}

module _ (text : List ℕ) (a b : ℕ) (whole : IsUtf8 text) (part : IsUtf8 (slice_range text a b)) (within : b ≤ length text) (some : a < b) where
  long : length (slice_range text a b) ≡ b - a
  long = length-take-le (b - a) (drop a text) (omega (arith, within, length-drop a text))

  -- it begins at a character
  pub begins : IsCharBoundary text a
  begins =
      let e : get_or (slice_range text a b) 0 0 ≡ get_or text a 0 = get_or-take (b - a) (drop a text) 0 0 (omega (arith, some)) ∙ get_or-drop a text 0 0 ∙ ap (λ n. get_or text n 0) (let z : a + 0 ≡ a = omega arith in z) in
      (omega (arith, some, within), λ l h. let k = (IsCharBoundary-start (slice_range text a b) part).1 (omega (arith, long, some)) (omega (arith, e, h)) in omega (arith, e, k))

  -- and ends behind one
  pub ends : IsCharBoundary text b
  ends =
      let r = IsCharBoundary-from_take (drop a text) (b - a) (IsUtf8-drop text a whole begins) (omega (arith, within, length-drop a text)) part in
      subst (IsCharBoundary text) (let z : a + (b - a) ≡ b = omega (arith, some) in z) (IsCharBoundary-from_rest text a (b - a) (omega (arith, some, within)) r)

-- what `get` gives of it, and no text where it is empty
pub content-got : (text : List ℕ) (a b : ℕ) (r : Option (Bor (List ℕ))) (d : Bor (List ℕ)) → d.now ≡ [] → IsUtf8 text → IsUtf8 (slice_range text a b) → a ≤ b → b ≤ length text → GetsRange text a b r → slice_range text a b ≡ (unwrap_or r d).now
content-got text a b (Some x) d n u v l m g = sym g.0
content-got text a b None d n u v l m g = by (b - a) (let z : b - a ≡ b - a = omega arith in z)
  where
    by : (k : ℕ) → b - a ≡ k → slice_range text a b ≡ d.now
    by zero e = ap (λ k. take k (drop a text)) e ∙ sym n
    by (suc k) e = let some : a < b = omega (arith, e) in absurd (g l (begins text a b u v m some) (ends text a b u v m some))
