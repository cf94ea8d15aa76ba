use Rattle.std.proofs.Common.{inl, inr, refl, ◌∙◌, ap, subst, string_bytes}
use Rattle.review_files.specs.Lines.{TakesLine, bare_line}
use Rattle.review_files.specs.Statuses.{fault_status}
use Rattle.review_git.proofs.MemoryLaws.{none_memory}
use Rattle.review_git.specs.Unshown.{PutsUnshown}
use Rattle.review_git.proofs.show.tell_unshown.Goals as goal

pub returns-in-Ok : goal.returns-in-Ok
returns-in-Ok g c =
    let line = string_bytes c.put_unshown.new.out in
    let put = subst (λ z. PutsUnshown c.args.name.now c.args.bytes.now c.args.why z line) c.new-line.ensures.bytes c.in-Ok.ensures.ok in
    inl (line, put, subst (λ z. TakesLine g.E.Write.contents c.args.err.now c.put_line.new.err z) c.deref.ensures c.put_line.ensures, refl)

pub returns : goal.returns
returns g c =
    let is = none_memory c.requires.0 c.args.bytes.now c.args.why c.in-Err.fault c.requires.1 c.in-Err.ensures.err in
    inr (subst (λ z. TakesLine g.E.Write.contents c.args.err.now c.tell_bare.new.err (bare_line z)) is c.tell_bare.ensures.told, c.tell_bare.ensures.status ∙ ap fault_status is)
