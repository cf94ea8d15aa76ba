use Rattle.std.proofs.Common.{[], ◌∷◌, ap, sym, subst}
use Rattle.yaml_definitions.specs.model.Event.{Event}
use Rattle.yaml_text.specs.EventModel.{event_of}
use Rattle.yaml_sink.specs.Held.{Puts}
use Rattle.yaml_store_composer.specs.KeeperModel.{Composes}
use Rattle.yaml_store_composer.proofs.KeeperLaws.{puts-stream-start, puts-stream-end, puts-document-end}
use Rattle.yaml_store_composer.proofs.keeper.Composing.put.Goals as goal

pub returns-in_ok-pass-in-DocumentEnd : goal.returns-in_ok-pass-in-DocumentEnd
returns-in_ok-pass-in-DocumentEnd c =
    let room = c.pass.new.self in
    subst (λ (e : Event). Puts Composes c.args.self.now (e ∷ []) room) (sym (ap event_of c.in-DocumentEnd.is)) (puts-document-end c.args.self.now room c.in-DocumentEnd.explicit c.in_ok-pass-in-DocumentEnd.ensures.room c.in_ok-pass-in-DocumentEnd.ensures.none)

pub returns-in_ok-pass-in-StreamStart : goal.returns-in_ok-pass-in-StreamStart
returns-in_ok-pass-in-StreamStart c =
    let room = c.pass-in-StreamStart.new.self in
    subst (λ (e : Event). Puts Composes c.args.self.now (e ∷ []) room) (sym (ap event_of c.in-StreamStart.is)) (puts-stream-start c.args.self.now room c.in_ok-pass-in-StreamStart.ensures.room c.in_ok-pass-in-StreamStart.ensures.none)

pub returns-in_ok-pass-in-StreamEnd : goal.returns-in_ok-pass-in-StreamEnd
returns-in_ok-pass-in-StreamEnd c =
    let room = c.pass-in-StreamEnd.new.self in
    subst (λ (e : Event). Puts Composes c.args.self.now (e ∷ []) room) (sym (ap event_of c.in-StreamEnd.is)) (puts-stream-end c.args.self.now room c.in_ok-pass-in-StreamEnd.ensures.room c.in_ok-pass-in-StreamEnd.ensures.none)
