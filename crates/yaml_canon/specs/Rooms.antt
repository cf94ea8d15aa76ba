-- What is in the room that a caller gives for a canonical text.
use Rattle.std.specs.Prelude.{◌≡◌, ℕ, List}
use Rattle.yaml_text.specs.Rooms.{Places}
use Rattle.yaml_canon.specs.Claims.{IsCanonicalText}
use Rattle.yaml_canon.specs.declared.placing.Buffer.{Buffer}

-- the canonical text of these bytes is placed in a room
pub record PlacesCanonical (bytes old new : List ℕ) (len : ℕ) : Type 0 where
  pub text : List ℕ
  pub canonical : IsCanonicalText bytes text
  pub placed : Places text old new len

-- two buffers are one room
abbrev pub IsSameRoom : Buffer → Buffer → Type 0
IsSameRoom old new = new.room.ghost_name ≡ old.room.ghost_name

-- a text is placed in a buffer's room
abbrev pub Fills : Buffer → List ℕ → Buffer → ℕ → Type 0
Fills old text new len = Places text old.room.now new.room.now len
