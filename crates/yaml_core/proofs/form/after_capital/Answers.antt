use Rattle.std.proofs.Common.{◌∙◌, ap, ◌||◌}
use Rattle.std.specs.Prelude.{bytes_eq}
use Rattle.yaml_core.specs.State.{meaning, by_test}
use Rattle.yaml_core.proofs.StateLemmas.{or_false}
use Rattle.yaml_core.proofs.form.after_capital.Goals as goal

pub returns-in-Some-Some : goal.returns-in-Some-Some
unfolding meaning
returns-in-Some-Some c = λ rest. λ i. by_test (c.in-Some-Some.ensures rest i || c.in-Some-Some.ensures' rest i) c.args.form

pub returns-in-None-None : goal.returns-in-None-None
unfolding meaning
returns-in-None-None c = λ rest. λ i. by_test (c.in-None-None.ensures rest i || c.in-None-None.ensures' rest i) c.args.form

pub returns-in-Some-None : goal.returns-in-Some-None
unfolding meaning
returns-in-Some-None c = λ rest.
    (λ i. by_test (c.in-Some-None.ensures rest i || c.in-Some-None.ensures' rest i) c.args.form)
    ∙ ap (λ b. by_test b c.args.form) (or_false (bytes_eq rest c.in-Some-None.lower.now))

pub returns-in-None-Some : goal.returns-in-None-Some
unfolding meaning
returns-in-None-Some c = λ rest. λ i. by_test (c.in-None-Some.ensures rest i || c.in-None-Some.ensures' rest i) c.args.form
