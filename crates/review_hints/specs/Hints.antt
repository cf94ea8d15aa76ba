-- Hints that are not written out yet.
use Rattle.std.specs.Prelude.{◌≡◌, ◌≤◌, ◌<◌, ◌⊎◌, ℕ, true, slice_get, List, Option, Some, None, codes}
use Rattle.std.specs.List.{All}
use Rattle.review_hints.specs.Hinted.{is_line, is_plain, is_mark}
use Rattle.review_hints.specs.declared.hints.Hint.{Hint}
use Rattle.review_hints.specs.declared.hints.Hint.TheVariants as hints
use Rattle.review_hints.specs.declared.scan.Mode.{Mode}
use Rattle.review_hints.specs.declared.scan.Mode.TheVariants as modes
use Rattle.review_hints.specs.declared.scan.Opened.{Opened}
use Rattle.review_hints.specs.declared.scan.Scan.{Scan}

-- before the fault the text has this quote, bracket or brace
pub record IsOpened (text : List ℕ) (at : ℕ) (opened : Opened) : Type 0 where
  pub before : opened.at < at
  pub stands : slice_get text opened.at ≡ Some opened.mark
  pub opens : is_mark opened.mark ≡ true

-- what has to be indented more
abbrev pub IsIndented : List ℕ → Type 0
IsIndented what = (what ≡ codes "a line inside quotes") ⊎ ((what ≡ codes "the closing bracket") ⊎ (what ≡ codes "the closing brace"))

-- Words of a hint for a fault at this offset of a text are a line, and tell no place but that of the hint.
abbrev pub IsTrue : List ℕ → ℕ → Hint → Type 0
IsTrue text at (hints.Text words) = is_plain words.now ≡ true
IsTrue text at (hints.Line offset words) = (offset ≤ at) × (is_line words.now ≡ true)
IsTrue text at (hints.Opened opened words) = IsOpened text at opened × (is_line words.now ≡ true)
IsTrue text at (hints.Indent what count) = IsIndented what.now

-- the offset whose line or place they tell, if they tell one
abbrev pub cause_of : Hint → Option ℕ
cause_of (hints.Text words) = None
cause_of (hints.Line offset words) = Some offset
cause_of (hints.Opened opened words) = Some opened.at
cause_of (hints.Indent what count) = None

-- ---- what a text is scanned to

-- where it is read inside a quote, the text has that quote
abbrev pub IsMode : List ℕ → ℕ → Mode → Type 0
IsMode text at (modes.Double opened) = IsOpened text at opened
IsMode text at (modes.Escape opened) = IsOpened text at opened
IsMode text at (modes.Single opened) = IsOpened text at opened
IsMode text at (modes.SingleEnd opened) = IsOpened text at opened
IsMode text at _ = Unit {0}

-- so it has each bracket and brace that is open
pub record IsScanned (text : List ℕ) (at : ℕ) (scan : Scan) : Type 0 where
  pub flow : All (IsOpened text at) scan.flow.items
  pub mode : IsMode text at scan.mode
