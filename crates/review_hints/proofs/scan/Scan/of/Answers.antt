use Rattle.std.proofs.Common.{length, drop, ◌∙◌, ap}
use Rattle.std.proofs.lemmas.Option.{slice_get_within}
use Rattle.review_hints.proofs.ScanLaws.{first_left, others_left}
use Rattle.review_hints.proofs.scan.Scan.of.Goals as goal

pub loop-at-preserved-then-byte-eq10 : goal.loop-at-preserved-then-byte-eq10
loop-at-preserved-then-byte-eq10 c =
    let before = c.args.before.now in
    let step = c.in-Some.ensures.steps in
    let old = c.loop-at.invariant in
    let ended = c.end_line.ensures before (length before) old.scanned in
    record {
      rest = ap (λ k. drop k before) step.2 ∙ others_left before _ c.in-Some.byte _ (old.rest ∙ step.0);
      scanned = record { flow = ended.flow; mode = ended.mode };
    }

pub loop-at-preserved : goal.loop-at-preserved
loop-at-preserved c =
    let before = c.args.before.now in
    let step = c.in-Some.ensures.steps in
    let old = c.loop-at.invariant in
    let stands = first_left before c.in-Some.at c.in-Some.byte _ (ap (λ k. drop k before) step.1 ∙ old.rest ∙ step.0) in
    let taken = c.in_ok-take.ensures.ok before (length before) (slice_get_within before _ _ stands) stands old.scanned in
    record {
      rest = ap (λ k. drop k before) step.2 ∙ others_left before _ c.in-Some.byte _ (old.rest ∙ step.0);
      scanned = record { flow = taken.flow; mode = taken.mode };
    }
