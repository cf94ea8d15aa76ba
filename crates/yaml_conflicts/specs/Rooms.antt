-- How much may be looked at and told.
use Rattle.std.specs.Prelude.{Bool, ◌||◌, ◌==◌}
use Rattle.yaml_conflicts.specs.declared.sides.Room.{Room}

-- there is no room for another place or line
abbrev pub is_spent : Room → Bool
is_spent room = (room.places == 0) || (room.lines == 0)
