-- Which lines of a file are shown, and to which finding each leads.
use Rattle.std.specs.Prelude.{◌≡◌, ◌==◌, ◌&&◌, ◌||◌, ◌<◌, ℕ, ◌+◌, ◌-◌, Bool, false, cond, nat_lt, nat_le, List, [], ◌∷◌, length, get_or, slice_range, Option, Some, None}
use Rattle.std.specs.List.{list_any}
use Rattle.yaml_path.specs.declared.place.Place.{Place}
use Rattle.review_formats.specs.declared.finding.Finding.{Finding}
use Rattle.review_formats.specs.declared.finding.Sides.{Sides}
use Rattle.review_html.specs.Texts.{number_after}
use Rattle.review_html.specs.declared.side.Side.{Side}

-- ---- the place of a finding

-- the place on a side of a difference; nothing else has one
abbrev pub place_by : Side → Option Sides → Option Place
place_by side None = None
place_by side (Some sides) = cond side.is_left sides.left_place sides.right_place

abbrev pub place_on : Side → Finding → Option Place
place_on side one = place_by side one.sides

-- The place is on the line of this number. Lines count from 0 here, and in a place from 1.
abbrev pub is_at : Option Place → ℕ → Bool
is_at None at = false
is_at (Some place) at = (place.line - 1) == at

-- ---- the marks of lines

-- the number of a finding at a place of a list, before which there are so many: the number of its section
abbrev pub finding_number : ℕ → ℕ → ℕ
finding_number before place = number_after (before + place)

-- The mark of a line is the number of the first finding that is at it, or 0. The first finding that is given has this place in the list.
abbrev pub mark_from : Side → ℕ → ℕ → List Finding → ℕ → ℕ
mark_from side before place [] at = 0
mark_from side before place (one ∷ list) at = cond (is_at (place_on side one) at) (finding_number before place) (mark_from side before (place + 1) list at)

-- the marks of so many lines, by a list before which there are so many findings
abbrev pub AreMarks : Side → ℕ → List Finding → ℕ → List ℕ → Type 0
AreMarks side before list lines marks = (length marks ≡ lines) × ((at : ℕ) → at < lines → get_or marks at 0 ≡ mark_from side before 0 list at)

-- the marks after one more: the line that the place is on has this mark, if it had none
abbrev pub SetsMark : List ℕ → Option Place → ℕ → List ℕ → Type 0
SetsMark old place mark new =
    (length new ≡ length old) × ((at : ℕ) → at < length old → get_or new at 0 ≡ cond ((get_or old at 0 == 0) && is_at place at) mark (get_or old at 0))

-- ---- the lines that are shown

abbrev pub is_marked : ℕ → Bool
is_marked mark = nat_lt 0 mark

-- a line with a mark is within three lines
abbrev pub is_near : List ℕ → ℕ → Bool
is_near marks at = list_any is_marked (slice_range marks (at - 3) (at + 4))

-- all lines of a file of 400 lines at most, and of a longer one those near a line with a mark
abbrev pub is_shown : List ℕ → ℕ → Bool
is_shown marks at = nat_le (length marks) 400 || is_near marks at
