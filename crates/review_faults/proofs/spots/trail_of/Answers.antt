use Rattle.std.proofs.Common.{arith}
use Rattle.std.proofs.lemmas.Grind.{common_steps}
use Rattle.review_places.proofs.TrailLaws.{frames_next}
use Rattle.review_faults.proofs.spots.trail_of.Goals as goal

pub loop-at-preserved : goal.loop-at-preserved
loop-at-preserved c = record {
  document = grind (arith, common_steps);
  frames = frames_next c.args.events.now c.loop-at.at c.index-events-at.result _ _ c.loop-at-test.true c.index-events-at.is c.loop-at.invariant.frames c.in_ok-take.ensures.frames;
}
