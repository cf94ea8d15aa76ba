-- How many bytes of values may still be written in a comparison.
use Rattle.std.specs.Prelude.{ℕ}
use Rattle.review_paths.specs.declared.room.Room.{Room}

abbrev pub room_left : Room → ℕ
room_left room = room.bytes

-- at most for one value, as for a text that is shown whole
abbrev pub one_value : ℕ
one_value = 65536

-- for all values, 64 MiB: aliases may multiply, and so a node may stand in many differences
abbrev pub all_values : ℕ
all_values = 67108864
