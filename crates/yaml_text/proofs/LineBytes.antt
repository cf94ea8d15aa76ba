-- The characters of a line by its bytes: a break is one byte, which stands in no longer character.
use Rattle.std.proofs.Common.{◌≡◌, ℕ, zero, suc, ◌+◌, ◌<◌, ◌≤◌, ◌⊎◌, inl, inr, Bool, true, false, List, Some, length, drop, get_or, refl, sym, ◌∙◌, ap, subst, arith}
use Rattle.std.specs.Prelude.{IsUtf8, slice_get}
use Rattle.std.specs.Str.{chars, IsCharBoundary}
use Rattle.std.specs.Char.{len_utf8}
use Rattle.std.proofs.Math.Nat.{eq-or-lt_of_le}
use Rattle.std.proofs.lemmas.List.{length-drop}
use Rattle.std.proofs.lemmas.Str.{IsUtf8-had, IsUtf8-drop, IsCharBoundary-end, IsCharBoundary-before_ascii}
use Rattle.yaml_definitions.specs.grammar.Characters.{is_nb, is_break}
use Rattle.yaml_definitions.specs.grammar.Rules.{run, Stands}
use Rattle.yaml_text.specs.declared.chars.Chars.{Chars}
use Rattle.yaml_text.specs.Place.{place, Steps}
use Rattle.yaml_text.specs.Source.{text_of, place_of, IsBorder}
use Rattle.yaml_text.proofs.PlaceLemmas.{front_char, steps, ends, ascii_steps, ascii_byte, place_less}
use Rattle.yaml_text.proofs.Runs.{no_stand, no_stand_end, run_none, run_more}
use Rattle.yaml_text.proofs.Breaks.{run_join}

break_small : (c : ℕ) → is_nb c ≡ false → c < 128
unfolding is_nb is_break
break_small c t = grind (arith, t)

-- the character at a border before another border, and the border after it
char_before : (text : List ℕ) (at to : ℕ) → IsUtf8 text → IsCharBoundary text at → IsCharBoundary text to → at < to → (c : ℕ) × (next : ℕ) × Steps text at c next × (next ≤ to)
char_before text at to u p q l =
    let f = front_char (drop at text) (IsUtf8-drop text at u p) (omega (arith, l, q.0, length-drop at text)) in
    let s = steps text f.1 at f.0 u p f.2 in
    let a : place text at < place text to = place_less text at to u p q l in
    let past : ¬ (to < at + len_utf8 f.0) = λ h. (let b : place text to < place text (at + len_utf8 f.0) = place_less text to (at + len_utf8 f.0) u q s.border h in omega (arith, a, b, s.next)) in
    (f.0, at + len_utf8 f.0, s, omega (arith, past))

-- where no byte between two borders is a break's, no character is one
bytes_nb : (n : ℕ) (text : List ℕ) (at to : ℕ) → IsUtf8 text → IsCharBoundary text at → IsCharBoundary text to → at ≤ to → to ≤ at + n → ((k : ℕ) → at ≤ k → k < to → is_nb (get_or text k 0) ≡ true) → run (chars text) is_nb (place text at) (place text to)
bytes_nb zero text at to u p q a b h =
    let e : at ≡ to = omega (arith, a, b) in
    subst (λ m. run (chars text) is_nb (place text at) (place text m)) e (run_none (chars text) is_nb (place text at))
bytes_nb (suc n) text at to u p q a b h = go (eq-or-lt_of_le a) (λ m r. bytes_nb n text m to u r q)
  where
    go : (at ≡ to) ⊎ (at < to) → ((m : ℕ) → IsCharBoundary text m → m ≤ to → to ≤ m + n → ((k : ℕ) → m ≤ k → k < to → is_nb (get_or text k 0) ≡ true) → run (chars text) is_nb (place text m) (place text to)) → run (chars text) is_nb (place text at) (place text to)
    go (inl e) on = subst (λ m. run (chars text) is_nb (place text at) (place text m)) e (run_none (chars text) is_nb (place text at))
    go (inr l) on =
        let f = char_before text at to u p q l in
        let s = f.2 in
        run_join (chars text) is_nb _ _ _
        (run_more (chars text) is_nb _ _ _ f.0 (run_none (chars text) is_nb (place text at)) s.is (pick f.0 s.is (is_nb f.0) refl) s.next)
        (on f.1 s.border f.3 (omega (arith, b, s.forward)) (λ k x y. h k (omega (arith, x, s.forward)) y))
      where
        pick : (c : ℕ) → slice_get (chars text) (place text at) ≡ Some c → (v : Bool) → is_nb c ≡ v → is_nb c ≡ true
        pick c i true e = e
        pick c i false e =
            let byte = ascii_byte text at c u p i (break_small c e) in
            sym (ap is_nb byte.1) ∙ h at (omega arith) l

-- from one border to another stand characters of a line, and none at the second
abbrev pub Passed : Chars → ℕ → ℕ → Type 0
Passed source at to = IsBorder source to × run (text_of source) is_nb (place_of source at) (place_of source to) × (Stands (text_of source) is_nb (place_of source to) → ⊥)

pub passed : (source : Chars) (at to : ℕ) → IsBorder source at → at ≤ to → to ≤ length source.text.now → ((k : ℕ) → at ≤ k → k < to → is_nb (get_or source.text.now k 0) ≡ true) → (to < length source.text.now → is_nb (get_or source.text.now to 0) ≡ false) → Passed source at to
passed source at to b a l h stop = go (eq-or-lt_of_le l)
  where
    text : List ℕ
    text = source.text.now

    u : IsUtf8 text
    u = IsUtf8-had text source.utf8

    before : IsBorder source to → run (text_of source) is_nb (place_of source at) (place_of source to)
    before q = bytes_nb to text at to u b q a (omega arith) h

    go : (to ≡ length text) ⊎ (to < length text) → Passed source at to
    go (inl e) =
        let q : IsBorder source to = subst (IsCharBoundary text) (sym e) (IsCharBoundary-end text) in
        (q, before q, no_stand_end (text_of source) is_nb (place_of source to) (ends text to u q (omega (arith, e, length-drop to text))))
    go (inr f) =
        let t = stop f in
        let small = break_small (get_or text to 0) t in
        let q : IsBorder source to = IsCharBoundary-before_ascii text to f small in
        (q, before q, no_stand (text_of source) is_nb (place_of source to) (get_or text to 0) (ascii_steps text to (get_or text to 0) u q f refl small).is t)
