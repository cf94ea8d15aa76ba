-- The input offsets that the faults 4 to 11 name.
use Rattle.std.specs.Prelude.{◌≡◌, ◌+◌, ℕ, List, Option, Some, None, IfSome, drop, slice_get}
use Rattle.std.specs.Str.{chars, IsCharBoundary}
use Rattle.yaml_definitions.specs.grammar.Characters.{s-tab, c-directive, c-escape, c-tag}
use Rattle.yaml_definitions.specs.model.Limits.{text_limit}
use Rattle.yaml_definitions.specs.model.Text.{mark_len}
use Rattle.yaml_text.specs.Place.{place}
use Rattle.yaml_text.specs.Placed.{BeginsLongKey}
use Rattle.yaml_text.specs.declared.fault.Fault.{Fault}
use Rattle.yaml_text.specs.declared.fault.Fault.TheVariants.{Syntax, Tab, KeyTooLong, TooDeep, BadEscape, BadDirective, UnknownHandle, BadTag}
use Rattle.yaml_text.specs.declared.counted.Counted.{Counted}
use Rattle.yaml_text.specs.Gathering.{Gathers}
use Rattle.yaml_text.specs.declared.side.Side.{Side}
use Rattle.yaml_text.specs.declared.side.Side.TheVariants.{Left, Right}

-- what stands at a place of a text: any character or the end, this character, or a key that is too long
pub data Standing : Type 0 where
  anything : Standing
  character : ℕ → Standing
  long_key : Standing

abbrev pub StandsAt : Standing → List ℕ → ℕ → Type 0
StandsAt anything cs i = Unit {0}
StandsAt (character c) cs i = slice_get cs i ≡ Some c
StandsAt long_key cs i = BeginsLongKey cs i

-- the offset that a fault of reading names, and what stands there: a tab, a key that is too long, a `\`, a `%` or a `!` where it is one of these
abbrev pub told_place : Fault → Option (ℕ × Standing)
told_place (Syntax at) = Some (at, anything)
told_place (Tab at) = Some (at, character s-tab)
told_place (KeyTooLong at) = Some (at, long_key)
told_place (TooDeep at) = Some (at, anything)
told_place (BadEscape at) = Some (at, character c-escape)
told_place (BadDirective at) = Some (at, character c-directive)
told_place (UnknownHandle at) = Some (at, character c-tag)
told_place (BadTag at) = Some (at, character c-tag)
told_place _ = None

-- The offset is that of a border between characters behind the byte order mark, or the text's end, and this stands there.
pub record IsPlaceIn (bytes : List ℕ) (told : ℕ × Standing) : Type 0 where
  pub border : ℕ
  pub is_border : IsCharBoundary (drop (mark_len bytes) bytes) border
  pub offset : told.0 ≡ mark_len bytes + border
  pub stands : StandsAt told.1 (chars (drop (mark_len bytes) bytes)) (place (drop (mark_len bytes) bytes) border)

-- a fault of 4 to 11 names such a place of the bytes
abbrev pub TellsPlace : List ℕ → Fault → Type 0
TellsPlace bytes fault = IfSome (told_place fault) (IsPlaceIn bytes)

-- and of the side that is named with it
abbrev pub TellsSidesPlace : List ℕ → List ℕ → Side → Fault → Type 0
TellsSidesPlace left right Left fault = TellsPlace left fault
TellsSidesPlace left right Right fault = TellsPlace right fault

-- and of the bytes that a reader gave
abbrev pub TellsReadPlace : {R : Type 0} → (R → Option (List ℕ)) → Counted R → Counted R → Fault → Type 0
TellsReadPlace remaining input end fault = IfSome (told_place fault) (λ told. (bytes : List ℕ) × Gathers remaining input end text_limit bytes × IsPlaceIn bytes told)
