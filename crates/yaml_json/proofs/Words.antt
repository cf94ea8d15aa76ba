-- What is left behind a word with which some bytes begin.
use Rattle.std.proofs.Common.{◌≡◌, ◌+◌, ℕ, true, false, List, ◌++◌, length, take, drop, Option, Some, None, sym, ◌∙◌, ap, Bor, nat_eq}
use Rattle.std.specs.Prelude.{IfSome, IfNone, MatchOption}
use Rattle.std.specs.Cmp.Lexicographic.{pointwise, same_text, other_text}
use Rattle.std.proofs.Math.Seq.{take-append_seam}
use Rattle.std.proofs.lemmas.List.{take-append-drop}
use Rattle.yaml_json.specs.Reading.{No}

-- what `strip_prefix` tells
abbrev pub Stripped : List ℕ → List ℕ → Option (Bor (List ℕ)) → Type 0
Stripped s w o = MatchOption o (pointwise nat_eq (take (length w) s) w ≡ false) (λ x. (pointwise nat_eq (take (length w) s) w ≡ true) × (x.now ≡ drop (length w) s) × (length x.now + length w ≡ length s))

pub word_found : (s w : List ℕ) (o : Option (Bor (List ℕ))) → Stripped s w o → IfSome o (λ rest. s ≡ w ++ rest.now)
word_found s w None h = tt
word_found s w (Some x) h = sym (take-append-drop (length w) s) ∙ ap (λ z. z ++ drop (length w) s) (same_text _ _ (sym h.0)) ∙ ap (λ z. w ++ z) (sym h.1)

word_first : (s w r : List ℕ) → s ≡ w ++ r → take (length w) s ≡ w
word_first s w r e = ap (take (length w)) e ∙ take-append_seam w r

pub word_lacks : (s w : List ℕ) (o : Option (Bor (List ℕ))) → Stripped s w o → IfNone o (No (λ rest. s ≡ w ++ rest))
word_lacks s w None h = λ r e. other_text _ _ (sym h) (word_first s w r e)
word_lacks s w (Some x) h = tt
