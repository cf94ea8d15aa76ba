use Rattle.std.proofs.Common.{◌≡◌, ◌++◌, inl, inr, ◌∙◌, ap, subst, string_bytes}
use Rattle.review_files.specs.Lines.{TakesLine, bare_line}
use Rattle.review_files.specs.Statuses.{fault_status}
use Rattle.review_git.proofs.show.tell_no_bytes.Goals as goal

pub returns-in-Ok : goal.returns-in-Ok
returns-in-Ok g c =
    let told = c.in-Ok.ensures.ok in
    let is : string_bytes c.put_no_bytes.new.out ≡ told.0 = told.1 ∙ ap (λ z. z ++ told.0) c.new-line.ensures.bytes in
    inl (told.0, told.2, subst (λ z. TakesLine g.E.Write.contents c.args.err.now c.put_line.new.err z) (c.deref.ensures ∙ is) c.put_line.ensures)

pub returns : goal.returns
returns g c =
    let is = c.in-Err.ensures.err in
    inr (subst (λ z. TakesLine g.E.Write.contents c.args.err.now c.tell_bare.new.err (bare_line z)) is c.tell_bare.ensures.told, c.tell_bare.ensures.status ∙ ap fault_status is)
