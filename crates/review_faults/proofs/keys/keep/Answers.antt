use Rattle.std.proofs.Common.{sym, ◌∙◌, ap}
use Rattle.std.specs.Prelude.{option_map}
use Rattle.yaml_text.specs.EventModel.{event_of}
use Rattle.review_faults.proofs.KeyLaws.{bare_taken, named_taken}
use Rattle.review_faults.proofs.keys.keep.Goals as goal

pub returns-in_ok-insert : goal.returns-in_ok-insert
returns-in_ok-insert c = record {
  ok = (λ events n at are holds.
      named_taken events n (event_of c.args.event.now) at c.args.named.now c.insert.new.self c.in-Some.name c.args.forms (sym c.anchor_of.ensures ∙ ap (option_map (λ name. name.now)) c.in-Some.is) are
      c.in_ok-insert.ensures.updates.0 holds);
}

pub returns-in_default : goal.returns-in_default
returns-in_default c = record { ok = (λ events n at are holds. bare_taken events n (event_of c.args.event.now) at c.args.named.now (sym c.anchor_of.ensures ∙ ap (option_map (λ name. name.now)) c.in_default.is) holds) }
