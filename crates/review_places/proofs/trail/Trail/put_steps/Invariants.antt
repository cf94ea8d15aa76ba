use Rattle.std.proofs.Common.{◌≡◌, ◌++◌, drop, map, flat_map}
use Rattle.std.specs.String.{string_bytes}
use Rattle.yaml_text.specs.EventModel.{event_of}
use Rattle.review_places.specs.Trails.{frame_step}
use Rattle.review_places.proofs.trail.Trail.put_steps.Given as goal

abbrev pub invariant-frames : goal.invariant-frames
invariant-frames l = string_bytes l.out ++ flat_map (frame_step (map event_of l.events)) (drop l.frame-index l.frame-items) ≡ string_bytes l.fn.out ++ flat_map (frame_step (map event_of l.events)) l.frame-items
