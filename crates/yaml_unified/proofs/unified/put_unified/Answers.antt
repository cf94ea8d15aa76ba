use Rattle.std.proofs.Common.{arith, refl}
use Rattle.yaml_unified.proofs.UnifiedLaws.{hunk_more, hunks_end}
use Rattle.yaml_unified.proofs.unified.put_unified.Goals as goal

pub hunks-preserved : goal.hunks-preserved
hunks-preserved c =
    let v = c.hunks.invariant in
    let next = c.in_ok-rest in
    record {
      text = hunk_more c.args.context c.hunks.rest.edits.now next.rest.edits.now c.args.edits.now c.hunks.rest.left c.hunks.rest.right next.rest.left next.rest.right _ _ _ next.ensures.hunk v.text;
      lefts = omega (arith, v.lefts, next.ensures.lefts);
      rights = omega (arith, v.rights, next.ensures.rights);
    }

pub returns : goal.returns
returns c = record { hunks = (hunks_end c.args.context c.hunks.rest.edits.now c.args.edits.now c.hunks.rest.left c.hunks.rest.right _ _ (c.in_default.ensures.none refl) c.hunks.invariant.text) }
