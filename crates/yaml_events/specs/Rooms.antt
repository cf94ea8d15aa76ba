-- What is in the room that a caller gives for a text.
use Rattle.std.specs.Prelude.{ℕ, List, length, take}
use Rattle.yaml_events.specs.declared.fill.Room.{Room}

abbrev pub room_bytes : Room → List ℕ
room_bytes r = r.bytes.now

-- the text so far
abbrev pub room_text : Room → List ℕ
room_text r = take r.len r.bytes.now

-- the reference to the room
abbrev pub room_name : Room → ℕ
room_name r = r.bytes.ghost_name

-- the same, and the room's length
abbrev pub room_lent : Room → ℕ × ℕ
room_lent r = (room_name r, length (room_bytes r))
