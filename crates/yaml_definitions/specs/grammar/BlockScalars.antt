-- Block scalars (YAML 1.2.2, 8.1), by lines. A parent's indentation n is written col = n + 1 throughout, so that a root has col = 0.
use Rattle.std.specs.Prelude.{◌≡◌, ℕ, suc, ◌+◌, ◌-◌, ◌<◌, ◌≤◌, ◌⊎◌, List, [], ◌∷◌, ◌++◌, Bool, true, false, if◌then◌else◌, not, ◌&&◌, ◌||◌, ◌==◌, max, Some, None, Option}
use Rattle.std.specs.Int.{is_in_range}
use Rattle.yaml_definitions.specs.grammar.Rules.{Span, Rule, ◌◆◌, ◌▸◌, ◌◂◌, ◌⨾◌, ◌∪◌, gives, maybe, optional, any, any_span, chr, letter, run, some_run, how_many, copied, Stands, ahead, limited, looking, with_value, where_value, seen, Begins}
use Rattle.yaml_definitions.specs.grammar.Characters.{is_space, is_white, is_nb, b-break, c-literal, c-folded}
use Rattle.yaml_definitions.specs.grammar.Separation.{s-indent, s-indent-less-than, DocumentMark, AtEnd, s-b-comment, l-comment, c-nb-comment-text, b-comment}
use Rattle.yaml_definitions.specs.grammar.FlowScalars.{line_feeds}

-- no production: the standard's parameter t
pub data Chomp : Type 0 where
  strip clip keep : Chomp

-- no production: what a header says
pub record Header : Type 0 where
  pub digit : Option ℕ
  pub chomp : Chomp

-- no production: an empty line with its break, or a content line and whether its break is there
pub data Line : Type 0 where
  blank : Line
  content_line : Bool → List ℕ → Line

-- ---- content

-- no production: whether the line is one of [177] s-nb-spaced-text(n), which begins with a white (8.1.3)
unfoldable pub is_spaced : List ℕ → Bool
is_spaced [] = false
is_spaced (c ∷ xs) = is_white c

-- no production: what stands between two content lines with j empty lines between them (8.1.2, 8.1.3)
unfoldable pub joint : Bool → List ℕ → ℕ → List ℕ → List ℕ
joint false a j b = line_feeds (suc j)
joint true a j b = if is_spaced a || is_spaced b then line_feeds (suc j) else (if j == 0 then 32 ∷ [] else line_feeds j)

-- [165] b-chomped-last(t), [166] l-chomped-empty(n,t) (8.1.1.2) as content: after the last content line, of which `ended` says
-- whether its break stands there, and j empty lines
unfoldable pub chomped : Chomp → Bool → ℕ → List ℕ
chomped strip ended j = []
chomped clip ended j = if ended then line_feeds 1 else []
chomped keep ended j = if ended then line_feeds (suc j) else []

-- no production: the content of the lines after the content line a and j empty lines
unfoldable pub after_line : Bool → Chomp → Bool → List ℕ → ℕ → List Line → List ℕ
after_line is_folded chomp ended a j [] = chomped chomp ended j
after_line is_folded chomp ended a j (blank ∷ ls) = after_line is_folded chomp ended a (suc j) ls
after_line is_folded chomp ended a j (content_line more b ∷ ls) = joint is_folded a j b ++ (b ++ after_line is_folded chomp more b 0 ls)

-- [166] l-chomped-empty(n,t) (8.1.1.2) as content, where no content line stands: j empty lines alone
unfoldable pub kept_breaks : Chomp → ℕ → List ℕ
kept_breaks strip j = []
kept_breaks clip j = []
kept_breaks keep j = line_feeds j

-- no production: the content of the lines after j empty lines at the beginning
unfoldable pub content_after : Bool → Chomp → ℕ → List Line → List ℕ
content_after is_folded chomp j [] = kept_breaks chomp j
content_after is_folded chomp j (blank ∷ ls) = content_after is_folded chomp (suc j) ls
content_after is_folded chomp j (content_line ended b ∷ ls) = line_feeds j ++ (b ++ after_line is_folded chomp ended b 0 ls)

-- no production: the content of the lines
unfoldable pub content : Bool → Chomp → List Line → List ℕ
content is_folded chomp ls = content_after is_folded chomp 0 ls

-- no production: the greatest of the numbers, 0 of none
abbrev pub greatest : List ℕ → ℕ
greatest [] = 0
greatest (m ∷ ms) = max m (greatest ms)

-- no production: whether the digit stands there
abbrev pub is_given : Option ℕ → Bool
is_given None = false
is_given (Some d) = true

module _ (cs : List ℕ) where
  -- ---- the header

  -- [163] c-indentation-indicator (8.1.1.1), or none
  unfoldable pub c-indentation-indicator : Rule (Option ℕ)
  c-indentation-indicator = gives None ∪ seen (λ c. Some (c - 48)) (letter cs (is_in_range 49 57))

  -- [164] c-chomping-indicator(t) (8.1.1.2)
  unfoldable pub c-chomping-indicator : Rule Chomp
  c-chomping-indicator = gives clip ∪ (chr cs 45 ▸ gives strip) ∪ (chr cs 43 ▸ gives keep)

  -- [162] c-b-block-header(t) (8.1.1)
  unfoldable pub c-b-block-header : Rule Header
  c-b-block-header = (with_value c-indentation-indicator (λ d. seen (λ s. record { digit = d; chomp = s }) c-chomping-indicator)
      ∪ with_value c-chomping-indicator (λ s. seen (λ d. record { digit = d; chomp = s }) c-indentation-indicator)) ◂ s-b-comment cs

  -- ---- the content's indentation (8.1.1.1)

  -- no production: any lines of spaces, with the numbers of their spaces
  abbrev pub space_lines : Rule (List ℕ)
  space_lines = any (seen (λ m. m ∷ []) (how_many cs is_space) ◂ b-break cs)

  -- no production: the same, and perhaps a last one that the end of the stream ends
  abbrev pub last_space_lines : Rule (List ℕ)
  last_space_lines = space_lines ⨾ optional (seen (λ m. m ∷ []) (how_many cs is_space) ◂ ahead (AtEnd cs))

  -- no production: a character that is no space, in a line
  abbrev pub NoSpace : ℕ → Type 0
  NoSpace = Stands cs (λ c. is_nb c && not (is_space c))

  -- no production: a nonempty line of so many spaces; a document mark is none
  abbrev pub nonempty : Rule ℕ
  nonempty = ahead (λ i. DocumentMark cs i → ⊥) ▸ how_many cs is_space ◂ ahead NoSpace

  -- no production: a nonempty line of fewer spaces stands here
  abbrev pub LessIndented : ℕ → ℕ → Type 0
  LessIndented k = Begins (ahead (λ i. DocumentMark cs i → ⊥) ◆ s-indent-less-than cs k ◆ ahead NoSpace)

  -- no production: no further line of a content with k spaces stands here
  abbrev pub LinesEnd : ℕ → ℕ → Type 0
  LinesEnd k i = LessIndented k i ⊎ DocumentMark cs i ⊎ AtEnd cs i

  -- no production: the first nonempty line has more than n spaces, and no line before it has more than that one (8.1.1.1)
  unfoldable pub found_indentation : ℕ → Rule ℕ
  found_indentation col = with_value space_lines (λ ms. where_value (λ k. (col ≤ k) × (greatest ms ≤ k)) nonempty)

  -- no production: that line has fewer, or there is none
  unfoldable pub longest_indentation : ℕ → Rule ℕ
  longest_indentation col = with_value last_space_lines (λ ms.
      ahead (LinesEnd col) ▸ gives (max col (greatest ms)))

  -- no production: the content's indentation, the standard's n+m, by the lines or by the digit (8.1.1.1)
  unfoldable pub indentation : ℕ → Option ℕ → Rule ℕ
  indentation col None = looking (found_indentation col ∪ longest_indentation col)
  indentation col (Some d) = ahead (λ i. 0 < col) ▸ gives (col - 1 + d)

  -- ---- the lines

  -- [65] s-indent-less-or-equal(n) (6.1)
  abbrev pub s-indent-less-or-equal : ℕ → Span
  s-indent-less-or-equal k = limited (λ i j. j ≤ i + k) (run cs is_space)

  -- [70] l-empty(n,c) (6.4) in a block scalar
  unfoldable pub blank_line : ℕ → Rule (List Line)
  blank_line k = (s-indent-less-or-equal k ◆ b-break cs) ▸ gives (blank ∷ [])

  -- [171] l-nb-literal-text(n) (8.1.2), [175] s-nb-folded-text(n) and [177] s-nb-spaced-text(n) (8.1.3), each one line with its
  -- break: k spaces and a text; one of spaces alone only where this is allowed
  unfoldable pub text_line : Bool → ℕ → Rule (List Line)
  text_line spaces_too k = (ahead (λ i. DocumentMark cs i → ⊥) ◆ s-indent cs k)
      ▸ with_value (copied cs (limited (λ i j. (spaces_too ≡ true) ⊎ (run cs is_space i j → ⊥)) (some_run cs is_nb)))
      (λ xs. (b-break cs ▸ gives (content_line true xs ∷ [])) ∪ (ahead (AtEnd cs) ▸ gives (content_line false xs ∷ [])))

  -- no production: the end of the stream ends the last line
  abbrev pub last_spaces : ℕ → Span
  last_spaces k = s-indent-less-or-equal k ◆ ahead (AtEnd cs)

  -- [173] l-literal-content(n,t) (8.1.2), [182] l-folded-content(n,t) (8.1.3), by their lines
  unfoldable pub lines : Bool → ℕ → Rule (List Line)
  lines spaces_too k = any (blank_line k) ⨾ optional (text_line spaces_too k ⨾ any (blank_line k ∪ text_line true k)) ◂ maybe (last_spaces k)

  -- [169] l-trail-comments(n) (8.1.1.2): comment lines, of which the first has fewer than k spaces
  unfoldable pub l-trail-comments : ℕ → Span
  l-trail-comments k = s-indent-less-than cs k ◆ c-nb-comment-text cs ◆ b-comment cs ◆ any_span (l-comment cs)

  -- no production: the lines to their end, and the comments after them
  unfoldable pub block_content : Bool → Header → ℕ → Rule (List ℕ)
  block_content is_folded h k = seen (content is_folded h.chomp) (lines (is_given h.digit) k) ◂ (ahead (LinesEnd k) ◆ maybe (l-trail-comments k))

  -- no production: what follows `|` or `>`
  abbrev pub block_scalar : Bool → ℕ → Rule (List ℕ)
  block_scalar is_folded col = with_value c-b-block-header (λ h. with_value (indentation col h.digit) (λ k. block_content is_folded h k))

  -- [170] c-l+literal(n) (8.1.2)
  unfoldable pub c-l+literal : ℕ → Rule (List ℕ)
  c-l+literal col = chr cs c-literal ▸ block_scalar false col

  -- [174] c-l+folded(n) (8.1.3)
  unfoldable pub c-l+folded : ℕ → Rule (List ℕ)
  c-l+folded col = chr cs c-folded ▸ block_scalar true col
