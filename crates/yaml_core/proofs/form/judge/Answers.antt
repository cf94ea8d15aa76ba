use Rattle.std.proofs.Common.{◌+◌, drop, refl, sym, ◌∙◌, ap}
use Rattle.std.proofs.lemmas.List.{drop_all}
use Rattle.yaml_core.specs.Form.{form_of}
use Rattle.yaml_core.specs.State.{meaning}
use Rattle.yaml_core.proofs.CutLemmas.{next}
use Rattle.yaml_core.proofs.form.judge.Goals as goal

pub loop-byte-init : goal.loop-byte-init
unfolding meaning
loop-byte-init c = refl

pub loop-byte-preserved : goal.loop-byte-preserved
loop-byte-preserved c =
    let xs = c.as_bytes-bytes.result.now in
    let i = c.loop-byte.byte-index in
    sym (c.step-state.ensures (drop (i + 1) xs)) ∙ (sym (ap (meaning c.loop-byte.state) (next xs i c.loop-byte-test.true)) ∙ c.loop-byte.invariant)

pub returns-in-Other : goal.returns-in-Other
unfolding meaning
returns-in-Other c =
    let xs = c.as_bytes-bytes.result.now in
    let i = c.loop-byte.byte-index in
    sym (ap (λ s. meaning s (drop (i + 1) xs)) c.in-Other.is)
    ∙ (sym (c.step-state.ensures (drop (i + 1) xs))
    ∙ (sym (ap (meaning c.loop-byte.state) (next xs i c.loop-byte-test.true)) ∙ (c.loop-byte.invariant ∙ ap form_of c.as_bytes-bytes.ensures.value)))

pub returns : goal.returns
returns c =
    let xs = c.as_bytes-bytes.result.now in
    c.end.ensures
    ∙ (sym (ap (meaning c.loop-byte.state) (drop_all c.loop-byte.byte-index xs c.loop-byte-test.false)) ∙ (c.loop-byte.invariant ∙ ap form_of c.as_bytes-bytes.ensures.value))
