-- The places that are told of offsets.
use Rattle.std.specs.Prelude.{◌≡◌, ◌≤◌, ℕ, List, length}
use Rattle.std.specs.List.{Contains}
use Rattle.yaml_path.specs.LineModel.{IsPlace}
use Rattle.yaml_path.specs.declared.place.Place.{Place}

-- The number is that of one of these offsets, and the place is that offset's, where the text has it.
pub record IsTold (text : List ℕ) (offsets : List (ℕ × ℕ)) (told : ℕ × Place) : Type 0 where
  pub offset : ℕ
  pub given : Contains offsets (offset, told.0)
  pub at : ℕ
  pub is : offset ≤ length text → at ≡ offset
  pub placed : IsPlace text at told.1.line told.1.column
