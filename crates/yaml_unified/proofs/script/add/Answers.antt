use Rattle.std.proofs.Common.{arith, refl, ◌∙◌}
use Rattle.yaml_unified.specs.Script.{left_part, right_part}
use Rattle.yaml_unified.proofs.PieceLaws.{put_next, put_none, put_all}
use Rattle.yaml_unified.proofs.script.add.Goals as goal

pub loop-line-preserved : goal.loop-line-preserved
loop-line-preserved c =
    let v = c.loop-line.invariant in
    record {
      put = put_next right_part _ c.loop-line.line-index _ _ _ _ _ (omega arith) c.in_ok-push.ensures.items refl v.put;
      kept = put_none left_part _ _ _ refl c.in_ok-push.ensures.items ∙ v.kept;
    }

pub returns-clause-right : goal.returns-clause-right
returns-clause-right c = put_all _ c.loop-line.line-index _ _ (omega arith) c.loop-line.invariant.put

pub returns-clause-left : goal.returns-clause-left
returns-clause-left c = c.loop-line.invariant.kept
