use Rattle.std.proofs.Common.{◌≡◌, map, take, sym, ◌+◌, ◌∙◌, ap}
use Rattle.std.specs.List.{count_by}
use Rattle.std.proofs.lemmas.List.{take-map}
use Rattle.yaml_text.specs.EventModel.{event_of}
use Rattle.review_places.specs.Trails.{frames_of, path_text}
use Rattle.review_faults.specs.EventSpots.{ends_document}
use Rattle.review_faults.proofs.SpotLaws.{if_ok}
use Rattle.review_faults.proofs.spots.path_at.Goals as goal

pub returns : goal.returns
returns c = record {
  ok = (
      let events = map event_of c.args.events.now in
      let taken : map event_of c.events_to.result.now ≡ take (c.args.number + 1) events = ap (map event_of) c.events_to.ensures ∙ sym (take-map event_of (c.args.number + 1) c.args.events.now) in
      let document = c.in_ok-trail.ensures.ok ∙ ap (count_by ends_document) taken in
      let frames = c.in_ok-trail.ensures.frames ∙ ap frames_of taken in
      if_ok c.path.result c.path.ensures.ok (λ path is. is ∙ ap (λ z. path_text events z c.in_ok-trail.trail.frames.items) document ∙ ap (path_text events (count_by ends_document (take (c.args.number + 1) events))) frames));
}
