use Rattle.std.proofs.Common.{map, sym, ◌∙◌, ap, arith}
use Rattle.std.specs.Prelude.{option_map}
use Rattle.yaml_text.specs.EventModel.{event_of}
use Rattle.review_faults.specs.Labels.{label_of}
use Rattle.review_faults.proofs.WarnLaws.{told_next}
use Rattle.review_faults.proofs.warn.told.Goals as goal

pub numbers-preserved : goal.numbers-preserved
numbers-preserved c =
    let warning = c.in_ok-warning_of.ensures in
    record {
      told = told_next (map event_of c.args.events.now) c.args.source.now c.args.found.now c.numbers.number-index _ c.numbers.list.items c.push.new.self.items c.in_ok-warning_of.field-0 (label_of c.in-Some-Some.label)
          c.min-to.result c.go_on-place.result (omega (arith, c.numbers-test.true)) warning.rule (sym c.label_at-label.ensures ∙ ap (option_map label_of) c.in-Some-Some.is-0) warning.text warning.words warning.place
          (omega (arith, c.min-to.ensures)) c.go_on-place.ensures c.in_ok-push.ensures.items c.numbers.invariant.told;
      here = c.go_on-place.ensures;
      within = omega (arith, c.min-to.ensures);
    }
