use Rattle.std.proofs.Common.{inl, sym, string_bytes, ◌∙◌, subst}
use Rattle.review_files.specs.Lines.{TakesLine}
use Rattle.review_git.proofs.show.tell_warnings.Goals as goal

pub returns-clause-ok : goal.returns-clause-ok
returns-clause-ok g c =
    inl (
      sym c.reports_warnings.ensures ∙ c.if-not-reports_warnings.false,
      (string_bytes c.in_ok-lines.lines, c.in_ok-lines.ensures.ok, subst (λ z. TakesLine g.E.Write.contents c.args.err.now c.put_line.new.err z) c.deref.ensures c.put_line.ensures),
    )
