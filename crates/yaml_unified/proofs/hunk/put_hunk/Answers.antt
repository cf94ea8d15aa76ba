use Rattle.std.proofs.Common.{arith}
use Rattle.yaml_unified.specs.Unified.{line_text}
use Rattle.yaml_unified.proofs.UnifiedLaws.{flat_next, flat_all}
use Rattle.yaml_unified.proofs.hunk.put_hunk.Goals as goal

pub loop-edit-preserved : goal.loop-edit-preserved
loop-edit-preserved c = flat_next line_text c.args.shown.now c.loop-edit.edit-index _ _ _ _ (omega arith) c.loop-edit.invariant c.in_ok-put_line.ensures.ok

pub returns : goal.returns
returns c = record { ok = (flat_all line_text c.args.shown.now c.loop-edit.edit-index _ _ (omega arith) c.loop-edit.invariant) }
