use Rattle.std.proofs.Common.{arith, sym, ◌∙◌}
use Rattle.yaml_unified.proofs.UnifiedLaws.{kept_next, kept_all}
use Rattle.yaml_unified.proofs.places.first_change.Goals as goal

pub loop-place-preserved : goal.loop-place-preserved
loop-place-preserved c = kept_next c.args.edits.now c.loop-place.place _ (omega arith) c.loop-place.invariant (sym c.is_change.ensures ∙ c.if-is_change.false)

pub returns-clause-none : goal.returns-clause-none
returns-clause-none c = λ e. kept_all c.args.edits.now c.loop-place.place c.loop-place-test.false c.loop-place.invariant
