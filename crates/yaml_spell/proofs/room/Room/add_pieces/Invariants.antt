use Rattle.std.proofs.Common.{length}
use denote.Shadow.{shadow}
use denote.Text.{Utf8}
use Rattle.yaml_spell.specs.Rooms.{Holds}
use Rattle.yaml_spell.proofs.SpelledLaws.{Spelled}
use Rattle.yaml_spell.proofs.room.Room.add_pieces.Given as goal

abbrev pub invariant-spell : goal.invariant-spell
invariant-spell l = Spelled Holds l.fn.self tt l.self tt l.content l.rest × shadow (Utf8 l.rest)

abbrev pub decreases-spell : goal.decreases-spell
decreases-spell l = length l.rest
