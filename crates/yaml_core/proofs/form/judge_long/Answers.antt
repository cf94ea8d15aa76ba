use Rattle.std.proofs.Common.{◌+◌, drop, refl, sym, ◌∙◌, ap, arith}
use Rattle.yaml_core.specs.State.{meaning}
use Rattle.yaml_core.proofs.CutLemmas.{next}
use Rattle.yaml_core.proofs.form.judge_long.Goals as goal

pub loop-at-init : goal.loop-at-init
unfolding meaning
loop-at-init c = (omega arith, refl)

pub returns-in-Other : goal.returns-in-Other
unfolding meaning
returns-in-Other c =
    let xs = c.args.bytes.now in
    let i = c.loop-at.at in
    sym (ap (λ s. meaning s (drop (i + 1) xs)) c.in-Other.is) ∙ (sym (c.step-state.ensures (drop (i + 1) xs)) ∙ (sym (ap (meaning c.loop-at.state) (next xs i c.loop-at-test.true)) ∙ c.loop-at.invariant.1))
