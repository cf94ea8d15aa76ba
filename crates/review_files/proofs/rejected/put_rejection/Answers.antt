use Rattle.std.proofs.Common.{sym, subst}
use Rattle.review_files.specs.Told.{TellsAnswer}
use Rattle.review_files.proofs.ToldLaws.{refused_bytes}
use Rattle.review_files.proofs.rejected.put_rejection.Goals as goal

pub returns-in_ok-put_fault-in-Some-clause-ok : goal.returns-in_ok-put_fault-in-Some-clause-ok
returns-in_ok-put_fault-in-Some-clause-ok c =
    let told = c.in_ok-put_fault-in-Some.ensures.ok in
    let all = refused_bytes c.args.form c.args.file.name.now c.in-Ok.bytes.items c.in-Some.fault told.0 (rw c.deref.ensures.value at c.in-Some.ensures.rejected) (rw c.deref.ensures.value at c.in-Some.ensures.placed) (rw c.deref-in-Some.ensures.value at told.2) in
    (told.0, told.1, subst (λ a. TellsAnswer c.args.form c.args.file.name.now a told.0 2) (sym c.in-Ok.is) all)
