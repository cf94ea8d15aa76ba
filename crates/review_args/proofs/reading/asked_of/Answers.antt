use Rattle.std.proofs.Common.{subst, sym}
use Rattle.clap.specs.Words.{Text, found_of, rows_of}
use Rattle.clap.specs.Walk.{texts}
use Rattle.review_args.specs.Words.{AsksIn}
use Rattle.review_args.proofs.reading.asked_of.Goals as goal

pub returns-in_ok-faults_asked-in-faults-clause-ok : goal.returns-in_ok-faults_asked-in-faults-clause-ok
returns-in_ok-faults_asked-in-faults-clause-ok c =
    subst (λ (n : Text). AsksIn n (rows_of (found_of c.args.inner.now)) (texts c.args.by.now) c.args.is_terminal c.in_ok-faults_asked-in-faults.field-0) (sym c.in-faults.is)
    (c.in_ok-faults_asked-in-faults.ensures (texts c.args.by.now) c.args.is_terminal)

pub returns-in_ok-warn_asked-in-warn-clause-ok : goal.returns-in_ok-warn_asked-in-warn-clause-ok
returns-in_ok-warn_asked-in-warn-clause-ok c =
    subst (λ (n : Text). AsksIn n (rows_of (found_of c.args.inner.now)) (texts c.args.by.now) c.args.is_terminal c.in_ok-warn_asked-in-warn.field-0) (sym c.in-warn.is)
    (c.in_ok-warn_asked-in-warn.ensures (texts c.args.by.now) c.args.is_terminal)
