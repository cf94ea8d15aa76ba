use Rattle.std.proofs.Common.{◌≡◌, ◌+◌, map, take, sym, ◌∙◌, ap, arith}
use Rattle.std.specs.List.{count_by}
use Rattle.std.proofs.lemmas.Grind.{common_steps}
use Rattle.std.proofs.lemmas.List.{take-map}
use Rattle.yaml_text.specs.EventModel.{event_of}
use Rattle.review_places.specs.Trails.{documents_before, frames_of, path_of, path_text}
use Rattle.review_places.proofs.TrailLaws.{frames_next}
use Rattle.review_faults.specs.EventSpots.{ends_document, path_at}
use Rattle.review_faults.proofs.no_json.find_lacks.Goals as goal

pub events-preserved : goal.events-preserved
events-preserved c =
    let events = map event_of c.args.events.now in
    let i = c.events.at in
    let taken : map event_of (take (i + 1) c.args.events.now) ≡ take (i + 1) events = sym (take-map event_of (i + 1) c.args.events.now) in
    let document : documents_before c.take.new.self ≡ count_by ends_document (map event_of (take (i + 1) c.args.events.now)) = grind (arith, common_steps) in
    let frames = frames_next c.args.events.now i c.index-events-at.result _ _ c.events-test.true c.index-events-at.is c.events.invariant.frames c.in_ok-take.ensures.frames in
    let path : path_of c.take.new.self events ≡ path_at events i =
    ap (λ z. path_text events z c.take.new.self.frames.items) (document ∙ ap (count_by ends_document) taken) ∙ ap (path_text events (count_by ends_document (take (i + 1) events))) (frames ∙ ap frames_of taken) in
    record { document = document; frames = frames; paths = c.in_ok-note.ensures.ok path c.events.invariant.paths }
