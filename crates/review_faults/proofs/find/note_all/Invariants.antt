use Rattle.std.proofs.Common.{◌++◌, List, flat_map, take}
use Rattle.yaml_text.specs.EventModel.{event_of}
use Rattle.review_faults.specs.Warned.{Keeps, noted}
use Rattle.review_faults.proofs.find.note_all.Given as goal

abbrev pub invariant-loop-cause : goal.invariant-loop-cause
invariant-loop-cause l = (all : List _) → Keeps l.room all l.fn.found → Keeps l.room (all ++ flat_map (noted l.allowed (event_of l.event) l.at) (take l.cause-index l.causes)) l.found
