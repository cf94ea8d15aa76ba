use Rattle.std.proofs.Common.{◌∷◌, ◌++◌, arith, refl}
use Rattle.std.specs.Prelude.{None, Some}
use Rattle.yaml_definitions.specs.model.Event.{mapping_start, untagged}
use Rattle.yaml_tree_builder.specs.declared.stop.Refusal.{Refusal}
use Rattle.yaml_tree_builder.proofs.JudgedLaws.{followed, following, before-refused, precedes-refused}
use Rattle.yaml_tree_builder.proofs.judged.Judged.precede.Goals as goal

pub returns-in_default : goal.returns-in_default
returns-in_default c = λ front es n p h flow.
    let self = c.args.self.now in
    following _ (front ++ (mapping_start flow None untagged ∷ es)) c.in_default.is (c.in_ok-precede.ensures front es p (followed self (front ++ es) c.in_default.is h) flow)

pub returns-then-refusal-start : goal.returns-then-refusal-start
returns-then-refusal-start c = λ front es n p h flow. before-refused c.args.self.now c.in-Some.refusal front es (mapping_start flow None untagged ∷ es) c.in-Some.is (omega (arith, n, c.if-refusal-start.true)) h

pub returns : goal.returns
returns c = λ front es n p h flow.
    let r = c.in-Some.refusal in
    let s : Refusal = record { cause = r.cause; at = c.in-Some-checked_add.at } in
    precedes-refused c.args.self.now (record c.args.self.now { refusal = Some s }) r s front es flow c.in-Some.is refl refl c.in-Some-checked_add.ensures.1 (omega (arith, n, c.if-refusal-start.false)) p h
