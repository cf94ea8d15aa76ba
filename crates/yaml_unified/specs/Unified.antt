-- Unified diffs.
use Rattle.std.specs.Prelude.{◌≡◌, ◌<◌, ◌≤◌, ◌+◌, ◌-◌, ◌*◌, ◌==◌, ◌++◌, ℕ, Bool, true, false, cond, List, [], length, take, drop, codes, decimal}
use Rattle.std.specs.List.{list_any, filter, flat_map}
use Rattle.yaml_unified.specs.Script.{is_change}
use Rattle.yaml_unified.specs.declared.lines.Piece.{Piece}
use Rattle.yaml_unified.specs.declared.script.Edit.{Edit}
use Rattle.yaml_unified.specs.declared.script.Edit.TheVariants.{Kept, Removed, Added}

-- the left text has the line, and the right one
abbrev pub is_left : Edit → Bool
is_left (Added p) = false
is_left _ = true

abbrev pub is_right : Edit → Bool
is_right (Removed p) = false
is_right _ = true

-- how many lines of a text there are among edits
abbrev pub lefts : List Edit → ℕ
lefts es = length (filter is_left es)

abbrev pub rights : List Edit → ℕ
rights es = length (filter is_right es)

-- A range of lines: the first one and how many. Without lines it is named by the line before.
abbrev pub start : ℕ → ℕ → ℕ
start line count = cond (count == 0) (line - 1) line

abbrev pub range_text : ℕ → ℕ → List ℕ
range_text line count = decimal (start line count) ++ codes "," ++ decimal count

abbrev pub head_text : ℕ → ℕ → List Edit → List ℕ
head_text l r es = codes "@@ -" ++ range_text l (lefts es) ++ codes " +" ++ range_text r (rights es) ++ codes " @@\n"

-- a line behind its sign
abbrev pub end_text : Piece → List ℕ
end_text p = cond p.has_end (codes "\n") (codes "\n\\ No newline at end of file\n")

abbrev pub piece_text : Piece → List ℕ
piece_text p = p.line.now ++ (p.spaces.now ++ end_text p)

abbrev pub line_text : Edit → List ℕ
line_text (Kept p) = codes " " ++ piece_text p
line_text (Removed p) = codes "-" ++ piece_text p
line_text (Added p) = codes "+" ++ piece_text p

-- edits that begin at these lines of both texts, as a hunk
abbrev pub hunk_text : ℕ → ℕ → List Edit → List ℕ
hunk_text l r es = head_text l r es ++ flat_map line_text es

-- There is a change at the place, and none before.
pub record IsFirstChange (edits : List Edit) (place : ℕ) : Type 0 where
  pub within : place < length edits
  pub before : list_any is_change (take place edits) ≡ false
  pub change : list_any is_change (take (place + 1) edits) ≡ true

-- There is a change at the place, and none behind.
pub record IsLastChange (edits : List Edit) (place : ℕ) : Type 0 where
  pub within : place < length edits
  pub change : list_any is_change (drop place edits) ≡ true
  pub behind : list_any is_change (drop (place + 1) edits) ≡ false

-- Before the first change of a hunk stand `context` kept lines. They are fewer only if nothing is skipped before the hunk.
pub record BeginsHunk (context : ℕ) (skipped shown : List Edit) : Type 0 where
  pub first : ℕ
  pub is_first : IsFirstChange shown first
  pub most : first ≤ context
  pub full : first < context → skipped ≡ []

-- Behind the last change of a hunk stand `context` kept lines. They are fewer only if nothing is left behind the hunk.
-- Its changes are near one another: of 2 * context + 1 lines in a row before the last change, one is a change.
-- The next change is farther away: more than `context` kept lines are left before it.
pub record EndsHunk (context : ℕ) (shown rest : List Edit) : Type 0 where
  pub last : ℕ
  pub is_last : IsLastChange shown last
  pub most : length shown ≤ last + 1 + context
  pub full : length shown < last + 1 + context → rest ≡ []
  pub near : (k : ℕ) → k + 2 * context < last → list_any is_change (take (2 * context + 1) (drop k shown)) ≡ true
  pub apart : list_any is_change (take (context + 1) rest) ≡ false

-- A hunk shows changes that are near one another, and the kept lines around them.
pub record Framed (context : ℕ) (skipped shown rest : List Edit) : Type 0 where
  pub begins : BeginsHunk context skipped shown
  pub ends : EndsHunk context shown rest

-- From these lines of both texts on, the text shows the edits in hunks, each with `context` kept lines around its changes.
-- What is left out before, between and behind them is kept.
pub data AreHunks (context : ℕ) : ℕ → ℕ → List Edit → List ℕ → Type 0 where
  no_hunk : {l r : ℕ} {es : List Edit} → list_any is_change es ≡ false → AreHunks context l r es []
  hunk : {l r : ℕ} (skipped shown : List Edit) {rest : List Edit} {text : List ℕ} → list_any is_change skipped ≡ false → Framed context skipped shown rest
      → AreHunks context (l + length skipped + lefts shown) (r + length skipped + rights shown) rest text
      → AreHunks context l r (skipped ++ (shown ++ rest)) (hunk_text (l + length skipped) (r + length skipped) shown ++ text)

-- Behind a text come the hunks of edits, from the first line of both texts on.
pub record PutsHunks (context : ℕ) (edits : List Edit) (old new : List ℕ) : Type 0 where
  pub hunks : List ℕ
  pub text : new ≡ old ++ hunks
  pub are : AreHunks context 1 1 edits hunks

-- From edits that begin at these lines of both texts a hunk is written, behind lines that are kept. Others are left, which begin at their lines.
pub record PutsHunk (context : ℕ) (edits : List Edit) (l r : ℕ) (rest : List Edit) (l_next r_next : ℕ) (old new : List ℕ) : Type 0 where
  pub skipped : List Edit
  pub shown : List Edit
  pub whole : edits ≡ skipped ++ (shown ++ rest)
  pub kept : list_any is_change skipped ≡ false
  pub framed : Framed context skipped shown rest
  pub text : new ≡ old ++ hunk_text (l + length skipped) (r + length skipped) shown
  pub left : l_next ≡ l + length skipped + lefts shown
  pub right : r_next ≡ r + length skipped + rights shown
  pub shorter : length rest < length edits
