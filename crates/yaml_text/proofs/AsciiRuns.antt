-- ASCII characters of a class, which are one byte each.
use Rattle.std.proofs.Common.{◌≡◌, ℕ, zero, suc, Bool, ◌+◌, ◌-◌, ◌<◌, ◌≤◌, true, List, length, drop, get_or, refl, ap, subst, ◌∙◌, arith}
use Rattle.std.proofs.lemmas.List.{get_or-drop, length-drop}
use Rattle.std.proofs.lemmas.Str.{IsUtf8-had}
use Rattle.yaml_text.specs.declared.chars.Chars.{Chars}
use Rattle.yaml_text.specs.Place.{Steps}
use Rattle.yaml_text.specs.Source.{text_of, place_of, IsBorder}
use Rattle.yaml_definitions.specs.grammar.Rules.{run}
use Rattle.yaml_text.proofs.PlaceLemmas.{ascii_steps}
use Rattle.yaml_text.proofs.Runs.{run_none, run_more}

-- so many bytes from a border on are characters of a class, as many
abbrev pub CrossedOf : (ℕ → Bool) → Chars → ℕ → ℕ → ℕ → Type 0
CrossedOf p source at n to = IsBorder source to × run (text_of source) p (place_of source at) (place_of source to) × (place_of source to ≡ place_of source at + n)

crossed : (p : ℕ → Bool) (source : Chars) (at n to : ℕ) → to ≡ at + n → IsBorder source at → to ≤ length source.text.now → ((k : ℕ) → k < n → (get_or (drop at source.text.now) k 0 < 128) × (p (get_or (drop at source.text.now) k 0) ≡ true)) → CrossedOf p source at n to
crossed p source at zero to e b l h = let here : at ≡ to = omega (arith, e) in subst (CrossedOf p source at zero) here (b, run_none (text_of source) p (place_of source at), omega arith)
crossed p source at (suc n) to e b l h =
    let text = source.text.now in
    let before = crossed p source at n (at + n) refl b (omega (arith, l, e)) (λ k f. h k (omega (arith, f))) in
    let here = h n (omega arith) in
    let byte = get_or-drop at text n 0 in
    let next : at + n + 1 ≡ to = omega (arith, e) in
    let s = ascii_steps text (at + n) (get_or text (at + n) 0) (IsUtf8-had text source.utf8) before.0 (omega (arith, l, e)) refl (subst (λ z. z < 128) byte here.0) in
    let t = subst (Steps text (at + n) (get_or text (at + n) 0)) next s in
    (t.border, run_more (text_of source) p _ _ _ _ before.1 t.is (subst (λ z. p z ≡ true) byte here.1) t.next, omega (arith, t.next, before.2))

pub crossed_front_of : (p : ℕ → Bool) (source : Chars) (at n : ℕ) (bytes : List ℕ) → IsBorder source at → bytes ≡ drop at source.text.now → n ≤ length bytes → ((k : ℕ) → k < n → (get_or bytes k 0 < 128) × (p (get_or bytes k 0) ≡ true)) → CrossedOf p source at n (at + n)
crossed_front_of p source at n bytes b e l h =
    let len : length bytes ≡ length source.text.now - at = ap length e ∙ length-drop at source.text.now in
    crossed p source at n (at + n) refl b (omega (arith, l, len, b.0)) (subst (λ z. (k : ℕ) → k < n → (get_or z k 0 < 128) × (p (get_or z k 0) ≡ true)) e h)
