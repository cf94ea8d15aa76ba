-- Parts of the productions that a function of the code reads.
use Rattle.std.specs.Prelude.{◌≡◌, ℕ, ◌⊎◌, Bool, List}
use Rattle.std.specs.Char.{is_ascii_hexdigit}
use Rattle.yaml_definitions.specs.grammar.Rules.{Span, ◌◆◌, ◌⊔◌, chr, one, run}
use Rattle.yaml_definitions.specs.grammar.Characters.{is_word}

module _ (cs : List ℕ) where
  -- what an anchor or an alias begins with
  unfoldable pub sign : Span
  sign = chr cs 38 ⊔ chr cs 42

  -- `%` and two hexadecimal digits
  unfoldable pub percent_escape : Span
  percent_escape = chr cs 37 ◆ one cs is_ascii_hexdigit ◆ one cs is_ascii_hexdigit

  -- a character that passes the test, or an escape: `uri_char` and `tag_char` are of this form
  unfoldable pub char_or_escape : (ℕ → Bool) → Span
  char_or_escape p = one cs p ⊔ percent_escape

  -- the rest of a handle after its `!`: a word and `!`, wherever these stand
  unfoldable pub handle_rest : Span
  handle_rest i j = (run cs is_word ◆ chr cs 33) i j ⊎ ((j ≡ i) × ((k : ℕ) → (run cs is_word ◆ chr cs 33) i k → ⊥))
