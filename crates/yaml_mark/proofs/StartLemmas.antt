-- What stands at a border, by its byte, and what follows for the rest of a line.
use Rattle.std.proofs.Common.{◌≡◌, ℕ, Bool, ◌<◌, true, List, length, drop, get_or, refl, sym, arith}
use Rattle.std.specs.Int.{is_in_range}
use Rattle.std.proofs.lemmas.Str.{IsUtf8-had}
use Rattle.yaml_text.specs.declared.chars.Chars.{Chars}
use Rattle.yaml_text.specs.Source.{text_of, place_of, IsBorder}
use Rattle.yaml_text.specs.Lines.{blank_rest}
use Rattle.yaml_definitions.specs.grammar.Characters.{is_space, is_nb, is_break}
use Rattle.yaml_definitions.specs.grammar.Rules.{run, Stands}
use Rattle.yaml_text.proofs.PlaceLemmas.{ascii_steps, front_byte}
use Rattle.yaml_text.proofs.Runs.{no_stand}
use Rattle.yaml_text.proofs.RestLemmas.{no_blank}

-- a byte at a border is a character of a class
pub ascii_stands : (p : ℕ → Bool) (source : Chars) (at : ℕ) (bytes : List ℕ) → IsBorder source at → bytes ≡ drop at source.text.now → at < length source.text.now → get_or bytes 0 0 < 128 → p (get_or bytes 0 0) ≡ true → Stands (text_of source) p (place_of source at)
ascii_stands p source at bytes b e l small is =
    let s = ascii_steps source.text.now at (get_or bytes 0 0) (IsUtf8-had source.text.now source.utf8) b l (sym (front_byte source.text.now bytes at e)) small in
    (get_or bytes 0 0, s.is, is)

text_nb : (c : ℕ) → is_in_range 36 126 c ≡ true → is_nb c ≡ true
unfolding is_nb is_break
text_nb c t = grind (arith, t)

-- where text stands after the spaces
pub no_blank_text : (cs : List ℕ) (i m : ℕ) → run cs is_space i m → (Stands cs is_space m → ⊥) → Stands cs (is_in_range 36 126) m → (j : ℕ) → blank_rest cs i j → ⊥
no_blank_text cs i m r stop (c, h, t) = no_blank cs i m r stop (λ e. no_stand cs (is_in_range 36 126) m 35 e refl (c, h, t)) (c, h, text_nb c t)
