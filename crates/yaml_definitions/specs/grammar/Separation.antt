-- Indentation, separation and comments (YAML 1.2.2, chapter 6), document marks and contexts.
use Rattle.std.specs.Prelude.{◌≡◌, ℕ, ◌+◌, ◌<◌, ◌⊎◌, List, [], ◌∷◌, length}
use Rattle.yaml_definitions.specs.grammar.Rules.{Span, ◌◆◌, ◌⊔◌, maybe, any_span, chr, run, some_run, exactly, word, Stands, ahead, limited, Throughout, Begins, Ends}
use Rattle.yaml_definitions.specs.grammar.Characters.{is_space, is_white, is_break, is_nb, b-break, c-comment}

-- no production: the contexts, the standard's parameter c
pub data Ctx : Type 0 where
  block_out block_in flow_out flow_in block_key flow_key : Ctx

-- [136] in-flow(c) (7.4); the standard gives none for block-out and block-in, and no production asks for it
unfoldable pub inner : Ctx → Ctx
inner block_out = flow_in
inner block_in = flow_in
inner flow_out = flow_in
inner flow_in = flow_in
inner block_key = flow_key
inner flow_key = flow_key

module _ (cs : List ℕ) where
  -- no production: the standard's start of a line
  unfoldable pub StartsLine : ℕ → Type 0
  StartsLine i = (i ≡ 0) ⊎ Ends (b-break cs) i

  -- no production: the standard's end of input
  abbrev pub AtEnd : ℕ → Type 0
  AtEnd i = i ≡ length cs

  -- no production: no break stands between the places
  abbrev pub OneLine : ℕ → ℕ → Type 0
  OneLine = Throughout (λ k. Stands cs is_break k → ⊥)

  -- [63] s-indent(n) (6.1)
  unfoldable pub s-indent : ℕ → Span
  s-indent n = exactly cs n is_space

  -- [64] s-indent-less-than(n) (6.1)
  unfoldable pub s-indent-less-than : ℕ → Span
  s-indent-less-than n = limited (λ i j. j < i + n) (run cs is_space)

  -- [66] s-separate-in-line (6.2); in the profile spaces alone, no tab
  unfoldable pub s-separate-in-line : Span
  s-separate-in-line = some_run cs is_space ⊔ ahead StartsLine

  -- [75] c-nb-comment-text (6.6)
  unfoldable pub c-nb-comment-text : Span
  c-nb-comment-text = chr cs c-comment ◆ run cs is_nb

  -- [76] b-comment (6.6)
  unfoldable pub b-comment : Span
  b-comment = b-break cs ⊔ ahead AtEnd

  -- [77] s-b-comment (6.6)
  unfoldable pub s-b-comment : Span
  s-b-comment = maybe (s-separate-in-line ◆ maybe c-nb-comment-text) ◆ b-comment

  -- [78] l-comment (6.6); it takes at least one character, so that no text has any number of them at its end
  unfoldable pub l-comment : Span
  l-comment = limited (λ i j. i < j) (s-separate-in-line ◆ maybe c-nb-comment-text ◆ b-comment)

  -- [79] s-l-comments (6.6)
  unfoldable pub s-l-comments : Span
  s-l-comments = (s-b-comment ⊔ ahead StartsLine) ◆ any_span l-comment

  -- [81] s-separate-lines(n) (6.7)
  unfoldable pub s-separate-lines : ℕ → Span
  s-separate-lines n = (s-l-comments ◆ s-indent n ◆ run cs is_space) ⊔ s-separate-in-line

  -- [80] s-separate(n,c) (6.7)
  unfoldable pub s-separate : ℕ → Ctx → Span
  s-separate n block_key = s-separate-in-line
  s-separate n flow_key = s-separate-in-line
  s-separate n block_out = s-separate-lines n
  s-separate n block_in = s-separate-lines n
  s-separate n flow_out = s-separate-lines n
  s-separate n flow_in = s-separate-lines n

  -- [206] c-forbidden (9.1.2), of one of the two marks: three of these characters at column 0 before a white, a break or the end
  unfoldable pub DocumentMarkOf : ℕ → ℕ → Type 0
  DocumentMarkOf c i = StartsLine i × Begins (word cs (c ∷ c ∷ c ∷ [])) i
      × (Stands cs is_white (i + 3) ⊎ Stands cs is_break (i + 3) ⊎ AtEnd (i + 3))

  -- [206] c-forbidden (9.1.2)
  unfoldable pub DocumentMark : ℕ → Type 0
  DocumentMark i = DocumentMarkOf 45 i ⊎ DocumentMarkOf 46 i

  -- no production: no line between the places begins with a document mark, as l-bare-document asks (9.1.3)
  abbrev pub Unmarked : ℕ → ℕ → Type 0
  Unmarked = Throughout (λ k. DocumentMark k → ⊥)
