use Rattle.std.proofs.Common.{◌≡◌, ◌+◌, ◌-◌, sym, subst, arith}
use Rattle.yaml_sink.specs.ListModel.{Lifted}
use Rattle.yaml_sink.proofs.SettleLemmas.{lifts_more}
use Rattle.yaml_sink.proofs.list.lift.Goals as goal

pub places-preserved : goal.places-preserved
places-preserved c =
    let old = c.args.events.now.items in
    let now = c.places.events.items in
    let i = c.places.at - 1 in
    let high = c.places.invariant.high in
    let next : c.places.at ≡ i + 1 = omega (arith, c.places-test.true) in
    let lifted : Lifted old (i + 1) c.args.to c.args.by now = subst (λ k. Lifted old k c.args.to c.args.by now) next c.places.invariant.lifted in
    record {
      low = omega (arith, c.places-test.true);
      high = omega (arith, high);
      lifted = subst (Lifted old i c.args.to c.args.by) (sym c.swap.ensures.items) (lifts_more old now i c.args.to c.args.by (omega (arith, next, high)) c.requires.room lifted);
    }
