-- How long a text and a tag are with their escapes, byte by byte.
use Rattle.std.proofs.Common.{◌≡◌, ◌⊎◌, inl, inr, ◌<◌, ◌+◌, ℕ, Bool, true, false, ◌==◌, List, [], ◌∷◌, ◌++◌, length, take, drop, get_or, refl, sym, ap, ◌∙◌, cond, length-append, take-append-drop, arith}
use Rattle.std.proofs.lemmas.List.{take_more}
use Rattle.std.proofs.Math.Seq.{take-length}
use Rattle.yaml_definitions.specs.canonical.TagText.{spell_byte, encoded}
use Rattle.yaml_definitions.specs.model.EventText.{value_byte, value_text}
use Rattle.yaml_events.proofs.ValueText.{value_append, value_more}

either : (b : Bool) (xs ys one : List ℕ) → length xs ≡ 2 → (length ys ≡ 2) ⊎ (ys ≡ one) → (length (cond b xs ys) ≡ 2) ⊎ (cond b xs ys ≡ one)
either true xs ys one h k = inl h
either false xs ys one h k = k

valued : (b : ℕ) → (length (value_byte b) ≡ 2) ⊎ (value_byte b ≡ b ∷ [])
unfolding value_byte
valued b = either (b == 92) _ _ (b ∷ []) refl (either (b == 10) _ _ (b ∷ []) refl (either (b == 9) _ _ (b ∷ []) refl (either (b == 13) _ _ (b ∷ []) refl (either (b == 8) _ _ (b ∷ []) refl (inr refl)))))

-- what does not stand for itself takes two bytes
pub escaped_len : (b : ℕ) → (value_byte b ≡ b ∷ [] → ⊥) → length (value_byte b) ≡ 2
escaped_len b n = pick (valued b)
  where
    pick : (length (value_byte b) ≡ 2) ⊎ (value_byte b ≡ b ∷ []) → length (value_byte b) ≡ 2
    pick (inl h) = h
    pick (inr h) = absurd (n h)

pub value_one_more : (text : List ℕ) (i : ℕ) → i < length text → length (value_text (take (i + 1) text)) ≡ length (value_text (take i text)) + length (value_byte (get_or text i 0))
value_one_more text i h = ap length (value_more text i h) ∙ length-append (value_text (take i text)) (value_byte (get_or text i 0))

pub value_cut : (text : List ℕ) (n : ℕ) → length (value_text text) ≡ length (value_text (take n text)) + length (value_text (drop n text))
value_cut text n = ap (λ z. length (value_text z)) (sym (take-append-drop n text)) ∙ ap length (value_append (take n text) (drop n text)) ∙ length-append (value_text (take n text)) (value_text (drop n text))

pub length_cut : (text : List ℕ) (n : ℕ) → length text ≡ length (take n text) + length (drop n text)
length_cut text n = ap length (sym (take-append-drop n text)) ∙ length-append (take n text) (drop n text)

encoded_behind : (xs : List ℕ) (b : ℕ) → length (encoded (xs ++ (b ∷ [])) []) ≡ length (encoded xs []) + length (spell_byte b)
encoded_behind [] b = omega (arith, length-append (spell_byte b) [])
encoded_behind (x ∷ xs) b = omega (arith, length-append (spell_byte x) (encoded (xs ++ (b ∷ [])) []), length-append (spell_byte x) (encoded xs []), encoded_behind xs b)

pub encoded_one_more : (tag : List ℕ) (i : ℕ) → i < length tag → length (encoded (take (i + 1) tag) []) ≡ length (encoded (take i tag) []) + length (spell_byte (get_or tag i 0))
encoded_one_more tag i h = ap (λ z. length (encoded z [])) (take_more tag i 0 h) ∙ encoded_behind (take i tag) (get_or tag i 0)

pub whole : (xs : List ℕ) (n : ℕ) → n ≡ length xs → take n xs ≡ xs
whole xs n e = ap (λ m. take m xs) e ∙ take-length xs
