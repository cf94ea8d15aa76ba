-- What stands on a line, as the calls on lines say it.
use Rattle.std.specs.Prelude.{◌≡◌, ◌≢◌, ℕ, ◌+◌, ◌⊎◌, List, Bool, true, false, ◌==◌, Some, slice_get}
use Rattle.yaml_definitions.specs.grammar.Rules.{Span, ◌◆◌, run, maybe, Stands, Behind}
use Rattle.yaml_definitions.specs.grammar.Characters.{is_space, is_ns, is_nb}
use Rattle.yaml_definitions.specs.grammar.Separation.{Ctx, block_out, block_in, flow_out, flow_in, block_key, flow_key, StartsLine, AtEnd, c-nb-comment-text as comment, b-comment as line_end}

-- a key's context, which has one line
abbrev pub is_key : Ctx → Bool
is_key block_key = true
is_key flow_key = true
is_key block_out = false
is_key block_in = false
is_key flow_out = false
is_key flow_in = false

module _ (cs : List ℕ) where
  -- a break; an LF is one here also just after a CR, where the chains never ask
  abbrev pub line_brk : Span
  line_brk i j =
      ((slice_get cs i ≡ Some 10) × (j ≡ i + 1))
      ⊎ ((slice_get cs i ≡ Some 13) × (slice_get cs (i + 1) ≡ Some 10) × (j ≡ i + 2))
      ⊎ ((slice_get cs i ≡ Some 13) × (slice_get cs (i + 1) ≢ Some 10) × (j ≡ i + 1))

  -- three of a character, and then no character of a line but a white
  abbrev pub DashesOf : ℕ → ℕ → Type 0
  DashesOf c i = (slice_get cs i ≡ Some c) × (slice_get cs (i + 1) ≡ Some c) × (slice_get cs (i + 2) ≡ Some c)
      × (Stands cs is_ns (i + 3) → ⊥)

  abbrev pub LooksLikeMarker : ℕ → Type 0
  LooksLikeMarker i = DashesOf 45 i ⊎ DashesOf 46 i

  -- a line starts here, or the text ends
  abbrev pub AfterLine : ℕ → Type 0
  AfterLine i = StartsLine cs i ⊎ AtEnd cs i

  -- just after a character that is no break
  abbrev pub Inside : ℕ → Type 0
  Inside i = (k : ℕ) × (i ≡ k + 1) × Stands cs is_nb k

  -- no CR LF is cut here
  unfoldable pub Uncut : ℕ → Type 0
  Uncut i = Behind cs (λ c. c == 13) i → Stands cs (λ c. c == 10) i → ⊥

  -- the rest of a line that has no content
  unfoldable pub blank_rest : Span
  blank_rest = run cs is_space ◆ maybe (comment cs) ◆ line_end cs
