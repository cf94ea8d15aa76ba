-- What the room that a caller gives holds of a text.
use Rattle.std.specs.Prelude.{◌≡◌, ◌<◌, ◌≤◌, ◌++◌, ℕ, List, Some, length, drop}
use Rattle.yaml_text.specs.declared.fault.Fault.{Fault}
use Rattle.yaml_spell.specs.Pieces.{Began, TakesPiece, Misses}
use Rattle.yaml_spell.specs.declared.room.Room.{Room}

abbrev pub room_len : Room → ℕ
room_len r = r.len

abbrev pub room_bytes : Room → List ℕ
room_bytes r = r.bytes.now

-- the reference to the room
abbrev pub room_name : Room → ℕ
room_name r = r.bytes.ghost_name

-- The room begins with the text, and behind it is as it was when writing began.
pub record RoomHolds (r : Room) (b : Began) (xs : List ℕ) : Type 0 where
  pub original : List ℕ
  pub held : b.held ≡ Some original
  pub name : room_name r ≡ b.number
  pub fits : length xs ≤ length original
  pub len : room_len r ≡ length xs
  pub is : room_bytes r ≡ xs ++ drop (length xs) original

-- the text is longer than the room
pub record RoomStops (b : Began) (xs : List ℕ) : Type 0 where
  pub original : List ℕ
  pub held : b.held ≡ Some original
  pub longer : length original < length xs

-- the same before an output that holds nothing
abbrev pub Holds : Room → Unit {0} → Began → List ℕ → Type 0
Holds r o b xs = RoomHolds r b xs

abbrev pub Stops : Unit {0} → Began → Fault → List ℕ → Type 0
Stops o b fault xs = RoomStops b xs

abbrev pub RoomTakes : Room → Room → List ℕ → Type 0
RoomTakes r s piece = TakesPiece Holds r tt s tt piece

abbrev pub RoomMisses : Room → Fault → List ℕ → Type 0
RoomMisses r fault piece = Misses Holds Stops r tt tt fault piece
