-- Where a fault of a file is, and what is said of it.
use Rattle.std.specs.Prelude.{◌≡◌, ℕ, List, [], ◌++◌, Option, Some, None, IsSomeAnd, option_map, codes, string_bytes}
use Rattle.std.specs.Fmt.{decimal}
use Rattle.yaml_text.specs.declared.fault.Fault.{Fault}
use Rattle.yaml_path.specs.declared.place.Place.{Place}
use Rattle.review_text.specs.Hidden.{visible}
use Rattle.review_text.specs.Window.{ShowsLine}
use Rattle.review_faults.specs.Explained.{second_place, shown_place, shown_point}
use Rattle.review_faults.specs.FaultLines.{text_in, IsTold}
use Rattle.review_faults.specs.declared.spots.Point.{Point}
use Rattle.review_faults.specs.declared.spots.Told.{Told}
use Rattle.review_faults.specs.declared.spotted.Spotted.{Spotted}

-- The place is the one that is printed first.
abbrev pub IsSpotted : List ℕ → Fault → Option Place → Type 0
IsSpotted bytes fault place = (told : Told) × IsTold bytes fault told × (place ≡ shown_place told)

-- the path, in which a terminal shows each character, if there is one
abbrev pub shown_path : Told → Option (List ℕ)
shown_path told = option_map (λ path. visible (string_bytes path)) told.path

-- where the reader stopped, if the cause is printed first
abbrev pub stop_note : Option Place → List ℕ
stop_note None = []
stop_note (Some p) = codes " (reading stopped at line " ++ (decimal p.line ++ (codes ", column " ++ (decimal p.column ++ codes ")")))

-- the source line and the caret, if there is a place
abbrev pub IsLineOf : List ℕ → Option Point → Option (List ℕ) → Type 0
IsLineOf text None line = line ≡ None
IsLineOf text (Some point) line = IsSomeAnd line (λ shown. ShowsLine text point.at shown)

-- All that is told of the fault but the place of the first of two equal keys.
pub record SpotsFault (bytes : List ℕ) (fault : Fault) (spotted : Spotted) : Type 0 where
  pub told : Told
  pub is_told : IsTold bytes fault told
  pub place : spotted.place ≡ shown_place told
  pub path : option_map string_bytes spotted.path ≡ shown_path told
  pub words : string_bytes spotted.words ≡ string_bytes told.words ++ stop_note (second_place told)
  pub line : IsLineOf (text_in bytes) (shown_point told) (option_map string_bytes spotted.line)
