-- Line and column of a fault, and of a node that JSON cannot express.
use Rattle.std.specs.Prelude.{◌≡◌, ◌≤◌, ◌⊎◌, ℕ, List, Option, Some, None, true, length, drop}
use Rattle.yaml_definitions.specs.model.Text.{mark_len}
use Rattle.yaml_text.specs.declared.fault.Fault.{Fault}
use Rattle.yaml_path.specs.LineModel.{IsPlace}
use Rattle.yaml_path.specs.declared.place.Place.{Place}
use Rattle.review_faults.specs.Again.{HasNoEvents}
use Rattle.review_faults.specs.FaultLines.{names_event, IsStop}
use Rattle.yaml_c.specs.Numbers.{fault_in}
use Rattle.yaml_c.specs.declared.fault.YamlcanonFault.{YamlcanonFault}

-- The fault names an event, and the bytes have no events, so that there is no place.
pub record HasNoEvent (bytes : List ℕ) (fault : Fault) (place : Option Place) : Type 0 where
  pub names : names_event fault ≡ true
  pub unread : HasNoEvents bytes
  pub none : place ≡ None

-- the place where the reader stopped at a fault of the bytes, if it has one there
abbrev pub IsPlaceOf : List ℕ → Fault → Option Place → Type 0
IsPlaceOf bytes fault place = IsStop bytes fault place ⊎ HasNoEvent bytes fault place

-- nothing is written
pub record WritesNoPosition (line_before line_after column_before column_after : ℕ) : Type 0 where
  pub line : line_after ≡ line_before
  pub column : column_after ≡ column_before

-- These are the line and the column of the place of the fault that the numbers stand for.
pub record IsPosition (bytes : List ℕ) (fault : YamlcanonFault) (line column : ℕ) : Type 0 where
  pub known : Fault
  pub named : fault_in fault ≡ Some known
  pub place : Place
  pub placed : IsPlaceOf bytes known (Some place)
  pub in_line : line ≡ place.line
  pub in_column : column ≡ place.column

-- the fault that the numbers stand for has no place in the bytes
pub record HasNoPlace (bytes : List ℕ) (fault : YamlcanonFault) : Type 0 where
  pub known : Fault
  pub named : fault_in fault ≡ Some known
  pub placed : IsPlaceOf bytes known None

-- The numbers stand for no fault, or the fault has no place; nothing is written.
pub record HasNoPosition (bytes : List ℕ) (fault : YamlcanonFault) (line_before line_after column_before column_after : ℕ) : Type 0 where
  pub why : (fault_in fault ≡ None) ⊎ HasNoPlace bytes fault
  pub nothing : WritesNoPosition line_before line_after column_before column_after

-- The fault names an event, for which the bytes are read again; nothing is written.
pub record LacksMemory (fault : YamlcanonFault) (line_before line_after column_before column_after : ℕ) : Type 0 where
  pub known : Fault
  pub named : fault_in fault ≡ Some known
  pub names : names_event known ≡ true
  pub nothing : WritesNoPosition line_before line_after column_before column_after

-- These are the line and the column of an offset of the text behind the byte order mark.
pub record IsJsonPosition (bytes : List ℕ) (line column : ℕ) : Type 0 where
  pub at : ℕ
  pub within : at ≤ length (drop (mark_len bytes) bytes)
  pub place : IsPlace (drop (mark_len bytes) bytes) at line column
