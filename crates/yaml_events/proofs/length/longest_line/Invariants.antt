use Rattle.std.proofs.Common.{◌≤◌, ◌++◌, ◌∷◌, [], All, length, map, take}
use Rattle.yaml_text.specs.EventModel.{event_of}
use Rattle.yaml_definitions.specs.model.EventText.{event_line}
use Rattle.yaml_events.proofs.length.longest_line.Given as goal

abbrev pub invariant-lines : goal.invariant-lines
invariant-lines l = All (λ e. length (event_line e ++ (10 ∷ [])) ≤ l.most) (map event_of (take l.event-index l.events))
