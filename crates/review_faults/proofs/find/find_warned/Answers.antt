use Rattle.std.proofs.Common.{◌≡◌, suc, [], ◌++◌, flat_map, map, refl, sym, ◌∙◌, ap, subst, arith}
use Rattle.std.specs.Prelude.{Some, option_map, slice_get}
use Rattle.std.proofs.Math.Numerals.{suc-eq-add-one}
use Rattle.std.proofs.lemmas.Bool.{le-leb}
use Rattle.std.proofs.lemmas.List.{take_all}
use Rattle.std.proofs.lemmas.Option.{slice_get-get_or, slice_get-map}
use Rattle.yaml_text.specs.EventModel.{event_of}
use Rattle.review_faults.specs.Warned.{AllWarned, noted, source_at}
use Rattle.review_faults.proofs.find.find_warned.Goals as goal

pub events-init : goal.events-init
events-init c = record {
  all = [];
  warned = refl;
  keeps = record { first = c.new.ensures.items ∙ sym (take_all c.args.room [] (omega arith)); are_all = sym (le-leb 0 c.args.room (omega arith)) };
  knows = record { frames = c.new-2.ensures.none; keys = c.new-3.ensures (map event_of c.args.events.now) };
}

pub events-preserved : goal.events-preserved
events-preserved c =
    let events = c.args.events.now in
    let es = map event_of events in
    let n = c.events.at in
    let e = c.index-events-at.result in
    let at : slice_get events n ≡ Some e = slice_get-get_or events n e c.events-test.true ∙ ap (λ z. Some z) (sym c.index-events-at.is) in
    let before = c.events.invariant in
    let causes = c.in_ok-causes.causes in
    let all = before.all ++ flat_map (noted c.args.allowed.now (event_of e) n) causes in
    let source = source_at c.args.text.now c.args.trace.now in
    let warned : AllWarned source c.args.allowed.now es (suc n) all =
    (before.all, event_of e, causes, before.warned, slice_get-map event_of events n ∙ ap (option_map event_of) at, c.in_ok-causes.ensures.causes at before.knows source (sym c.source_at-source.ensures), refl) in
    record {
      all = all;
      warned = subst (λ z. AllWarned source c.args.allowed.now es z all) (suc-eq-add-one n) warned;
      keeps = c.in_ok-note_all.ensures.ok before.all before.keeps;
      knows = c.in_ok-causes.ensures.knows at before.knows;
    }
