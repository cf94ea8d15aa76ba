use Rattle.std.proofs.Common.{◌∷◌, [], ◌++◌, ◌∙◌, ap}
use Rattle.yaml_text.specs.EventModel.{event_of}
use Rattle.review_places.proofs.TraceLaws.{traced_put}
use Rattle.review_places.proofs.trace.TraceKeeper.push.Goals as goal

pub returns-clause-ok : goal.returns-clause-ok
returns-clause-ok c =
    let e = event_of c.args.event.now in
    (traced_put c.args.self.now c.note_event.new.self c.args.at e
    (ap (λ v. v.items) c.in_ok-note_event.ensures.events ∙ c.in_ok-put.ensures.ok ∙ ap (λ z. c.args.self.now.events.items ++ ((z, c.args.at) ∷ [])) c.shape_of.ensures))
