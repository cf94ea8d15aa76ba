-- What the parts of a block scalar's reader say of a place.
use Rattle.std.specs.Prelude.{◌≡◌, ℕ, ◌⊎◌, List, Bool, true, false, ◌==◌, ◌||◌}
use Rattle.std.specs.Int.{is_in_range}
use Rattle.yaml_definitions.specs.grammar.Rules.{Span, Rule, ◌◆◌, ◌◂◌, ◌∪◌, maybe, ahead, seen, with_value, Stands}
use Rattle.yaml_definitions.specs.grammar.BlockScalars.{Line, Header, is_given, content, c-indentation-indicator as indentation_indicator, c-chomping-indicator as chomping_indicator, blank_line, text_line, lines, last_spaces, LinesEnd}

abbrev pub is_sign : ℕ → Bool
is_sign c = c == 45 || c == 43

module _ (cs : List ℕ) where
  -- the indicators of a header, in either order
  unfoldable pub indicators : Rule Header
  indicators =
      with_value (indentation_indicator cs) (λ d. seen (λ s. record { digit = d; chomp = s }) (chomping_indicator cs))
      ∪ with_value (chomping_indicator cs) (λ s. seen (λ d. record { digit = d; chomp = s }) (indentation_indicator cs))

  -- each reading of the indicators ends at j, or before one more
  abbrev pub EndIndicators : ℕ → ℕ → Type 0
  EndIndicators i j = (k : ℕ) (h : Header) → indicators i k h → (Stands cs (is_in_range 49 57) k → ⊥) → (Stands cs is_sign k → ⊥) → k ≡ j

  -- an empty line or one of content
  abbrev pub any_line : ℕ → Rule (List Line)
  any_line k = blank_line cs k ∪ text_line cs true k

  -- no line of spaces alone stands here
  abbrev pub NoSpaceLine : ℕ → ℕ → Type 0
  NoSpaceLine k i =
      ((j : ℕ) (v : List Line) → blank_line cs k i j v → ⊥)
      × ((j : ℕ) (v : List Line) → text_line cs true k i j v → text_line cs false k i j v)

  -- where the first line of content may not be of spaces alone, none such stands here
  abbrev pub Ready : Bool → ℕ → ℕ → Type 0
  Ready spaces_too k i = (spaces_too ≡ true) ⊎ NoSpaceLine k i

  -- no further line, but perhaps spaces up to the text's end
  abbrev pub lines_over : ℕ → Span
  lines_over k = maybe (last_spaces cs k) ◆ ahead (LinesEnd cs k)

  -- a block scalar's content, without its comment lines
  abbrev pub block_lines : Bool → Header → ℕ → Rule (List ℕ)
  block_lines is_folded h k = seen (content is_folded h.chomp) (lines cs (is_given h.digit) k) ◂ ahead (LinesEnd cs k)
