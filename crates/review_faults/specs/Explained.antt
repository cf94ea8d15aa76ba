-- What is said of a fault after its number, its name and its offset.
use Rattle.std.specs.Prelude.{◌≡◌, ◌≤◌, ℕ, true, List, [], ◌++◌, length, Option, Some, None, MatchOption, String, option_map, codes, string_bytes}
use Rattle.std.specs.declared.alloc.Global.{Global}
use Rattle.std.specs.Str.{IsUtf8}
use Rattle.yaml_text.specs.declared.fault.Fault.{Fault}
use Rattle.yaml_path.specs.declared.place.Place.{Place}
use Rattle.review_hints.specs.Hinted.{is_line, limit_of, HoldsLimit, IsHint}
use Rattle.review_text.specs.Hidden.{visible}
use Rattle.review_text.specs.Window.{ShowsLine}
use Rattle.review_faults.specs.Heads.{head}
use Rattle.review_faults.specs.declared.spots.Point.{Point}
use Rattle.review_faults.specs.declared.spots.Told.{Told}

-- ---- the words

-- The words for a fault at an offset of a text are one line, hold the limit that is passed, and tell no place or that of the cause.
pub record TellsCause (text : List ℕ) (fault : Fault) (at : ℕ) (cause : Option ℕ) (words : List ℕ) : Type 0 where
  pub line : is_line words ≡ true
  pub limit : HoldsLimit (limit_of fault) words
  pub hint : IsUtf8 text → at ≤ length text → IsHint text at cause words

-- what is said of the node, and where nothing is, of the fault and its cause
abbrev pub AreWords : List ℕ → Fault → ℕ → Option (String Global) → Option ℕ → List ℕ → Type 0
AreWords text fault at own cause words = MatchOption own (TellsCause text fault at cause words) (λ own. (words ≡ string_bytes own) × (cause ≡ None))

-- ---- which place is printed first

-- the one at which the reader stopped
abbrev pub stop_point : Told → Option Point
stop_point told = option_map (λ place. record { at = told.at; place = place }) told.place

-- of the cause, or where the reader stopped
abbrev pub first_of : Option Point → Option Point → Option Point
first_of None stop = stop
first_of (Some cause) stop = Some cause

abbrev pub shown_point : Told → Option Point
shown_point told = first_of told.cause (stop_point told)

abbrev pub shown_place : Told → Option Place
shown_place told = option_map (λ (p : Point). p.place) (shown_point told)

-- where the reader stopped, if the cause is printed first
abbrev pub after_cause : Option Point → Option Place → Option Place
after_cause None stop = None
after_cause (Some cause) stop = stop

abbrev pub second_place : Told → Option Place
second_place told = after_cause told.cause told.place

-- ---- what is before and after the words

-- the path, in which a terminal shows each character
abbrev pub path_part : Option (List ℕ) → List ℕ
path_part None = []
path_part (Some path) = visible path ++ codes ": "

-- the source line and the caret, if there is a place
abbrev pub IsSource : List ℕ → Option Point → List ℕ → Type 0
IsSource text None shown = shown ≡ []
IsSource text (Some point) shown = ShowsLine text point.at shown

-- the line of another place, if there is one
abbrev pub place_line : List ℕ → List ℕ → Option Place → List ℕ
place_line name words None = []
place_line name words (Some place) = head name (Some place) ++ words

abbrev pub other_lines : List ℕ → Told → List ℕ
other_lines name told = place_line name (codes "reading stopped here\n") (second_place told) ++ place_line name (codes "the first of the two\n") told.first

-- The path and the words are on the line of the fault. Then come the source line and the caret, and the lines of other places.
pub record IsExplained (name text : List ℕ) (told : Told) (more : List ℕ) : Type 0 where
  pub shown : List ℕ
  pub source : IsSource text (shown_point told) shown
  pub is : more ≡ path_part (option_map string_bytes told.path) ++ (string_bytes told.words ++ (codes "\n" ++ (shown ++ other_lines name told)))
