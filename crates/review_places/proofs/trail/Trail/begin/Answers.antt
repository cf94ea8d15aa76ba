use Rattle.std.proofs.Common.{arith}
use Rattle.review_places.proofs.TrailLaws.{innermost_begun}
use Rattle.review_places.proofs.trail.Trail.begin.Goals as goal

pub returns-in-Some-clause-frames : goal.returns-in-Some-clause-frames
returns-in-Some-clause-frames c = innermost_begun c.args.at c.args.self.now.frames.len c.saturating_add-frame.result c.args.self.now.frames.items c.in-Some.frame.now c.args.self.now.frames.ok.0 (omega (arith, c.args.self.now.frames.ok.0, c.in-Some.ensures.item.3.0)) c.in-Some.ensures.value c.saturating_add-frame.ensures
