use Rattle.std.proofs.Common.{not, sym, ◌∙◌, ap}
use Rattle.std.specs.Prelude.{is_some}
use Rattle.review_faults.proofs.KeyLaws.{known_taken, new_taken}
use Rattle.review_faults.proofs.keys.Seen.take.Goals as goal

pub returns-in_ok-insert-clause-holds : goal.returns-in_ok-insert-clause-holds
returns-in_ok-insert-clause-holds c = λ reader events holds is.
    new_taken reader events c.args.at c.args.self.now (record { firsts = c.insert.new.self }) c.in-Some.key (sym is ∙ c.in-Some.is)
    (ap is_some (sym c.get.ensures.value ∙ sym c.copied-first.ensures) ∙ c.is_none.ensures ∙ ap not c.if-is_none.true) c.in_ok-insert.ensures.updates.0 holds

pub returns-else-is_none-clause-holds : goal.returns-else-is_none-clause-holds
returns-else-is_none-clause-holds c = λ reader events holds is.
    known_taken reader events c.args.at c.args.self.now c.in-Some.key (sym is ∙ c.in-Some.is) (ap is_some (sym c.get.ensures.value ∙ sym c.copied-first.ensures) ∙ c.if-is_none.ensures) holds
