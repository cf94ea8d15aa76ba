use Rattle.std.proofs.Common.{refl, sym, subst}
use Rattle.review_command.specs.Runs.{Does}
use Rattle.review_command.proofs.RunLaws.{warns, warns_page}
use Rattle.review_command.proofs.command.run.Goals as goal

pub returns-in-Diff : goal.returns-in-Diff
returns-in-Diff g c =
    subst (λ z. Does (g.S.Shelf.holds c.args.shelf.now) g.R.Read.remaining g.W.Write.contents g.E.Write.contents z c.args.input c.args.out c.args.err c.compare.result) (sym c.in-Diff.is)
    (rw c.deref.ensures.value at c.compare.ensures)

pub returns-in-DiffPage : goal.returns-in-DiffPage
returns-in-DiffPage g c =
    subst (λ z. Does (g.S.Shelf.holds c.args.shelf.now) g.R.Read.remaining g.W.Write.contents g.E.Write.contents z c.args.input c.args.out c.args.err c.compare_as.result) (sym c.in-DiffPage.is)
    (rw c.deref-in-DiffPage.ensures.value at c.compare_as.ensures)

pub returns-in-Faults : goal.returns-in-Faults
returns-in-Faults g c =
    subst (λ z. Does (g.S.Shelf.holds c.args.shelf.now) g.R.Read.remaining g.W.Write.contents g.E.Write.contents z c.args.input c.args.out c.args.err c.report.result) (sym c.in-Faults.is)
    c.report.ensures

pub returns-in-FaultsPage : goal.returns-in-FaultsPage
returns-in-FaultsPage g c =
    subst (λ z. Does (g.S.Shelf.holds c.args.shelf.now) g.R.Read.remaining g.W.Write.contents g.E.Write.contents z c.args.input c.args.out c.args.err c.report_as.result) (sym c.in-FaultsPage.is)
    c.report_as.ensures

pub returns-in-Warn : goal.returns-in-Warn
returns-in-Warn g c =
    subst (λ z. Does (g.S.Shelf.holds c.args.shelf.now) g.R.Read.remaining g.W.Write.contents g.E.Write.contents z c.args.input c.args.out c.args.err c.report-in-Warn.result) (sym c.in-Warn.is)
    (warns (g.S.Shelf.holds c.args.shelf.now) g.R.Read.remaining g.W.Write.contents g.E.Write.contents c.in-Warn.asked c.in-Warn.warn _ c.args.input c.args.out c.report-in-Warn.result refl c.report-in-Warn.ensures)

pub returns-in-WarnPage : goal.returns-in-WarnPage
returns-in-WarnPage g c =
    subst (λ z. Does (g.S.Shelf.holds c.args.shelf.now) g.R.Read.remaining g.W.Write.contents g.E.Write.contents z c.args.input c.args.out c.args.err c.report_as-in-WarnPage.result) (sym c.in-WarnPage.is)
    (warns_page (g.S.Shelf.holds c.args.shelf.now) g.R.Read.remaining g.W.Write.contents g.E.Write.contents c.in-WarnPage.page c.in-WarnPage.asked c.in-WarnPage.warn _ c.args.input c.args.out c.report_as-in-WarnPage.result refl c.report_as-in-WarnPage.ensures)

pub returns-in-Show : goal.returns-in-Show
returns-in-Show g c =
    subst (λ z. Does (g.S.Shelf.holds c.args.shelf.now) g.R.Read.remaining g.W.Write.contents g.E.Write.contents z c.args.input c.args.out c.args.err c.show_files.result) (sym c.in-Show.is)
    (record {
      end = c.show_files.new.input;
      old = c.new-out.result;
      new = c.show_files.new.out;
      after = c.show_files.new.err;
      writer = c.new-out.ensures.inner;
      no_write = c.new-out.ensures.faults;
      shows = c.show_files.ensures.shows;
    })

pub returns-in-Git : goal.returns-in-Git
returns-in-Git g c =
    subst (λ z. Does (g.S.Shelf.holds c.args.shelf.now) g.R.Read.remaining g.W.Write.contents g.E.Write.contents z c.args.input c.args.out c.args.err c.git.result) (sym c.in-Git.is)
    (record {
      old = c.new-out-in-Git.result;
      new = c.git.new.out;
      writer = c.new-out-in-Git.ensures.inner;
      no_write = c.new-out-in-Git.ensures.faults;
      ends = rw c.deref-in-Git.ensures.value at c.git.ensures;
    })
