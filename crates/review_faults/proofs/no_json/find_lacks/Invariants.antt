use Rattle.std.proofs.Common.{◌≡◌, map, take}
use Rattle.std.specs.List.{All, count_by}
use Rattle.yaml_text.specs.EventModel.{event_of}
use Rattle.review_places.specs.Trails.{documents_before, open_frames, frames_of}
use Rattle.review_faults.specs.EventSpots.{ends_document}
use Rattle.review_faults.specs.NoJson.{HasPath}
use Rattle.review_faults.proofs.no_json.find_lacks.Given as goal

abbrev pub invariant-events : goal.invariant-events
invariant-events l = record {
  document : documents_before l.trail ≡ count_by ends_document (map event_of (take l.at l.events));
  frames : open_frames l.trail ≡ frames_of (map event_of (take l.at l.events));
  paths : All (HasPath (map event_of l.events)) l.lacks.list.items;
}
