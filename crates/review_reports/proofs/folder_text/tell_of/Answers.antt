use Rattle.review_reports.proofs.LineLaws.{entry_printed, entry_cut}
use Rattle.review_reports.proofs.folder_text.tell_of.Goals as goal

pub returns-in-Ok-clause-ok : goal.returns-in-Ok-clause-ok
returns-in-Ok-clause-ok g c =
    entry_printed (g.S.Shelf.holds c.args.shelf.now) g.W.Write.contents g.E.Write.contents c.args.asked.now c.args.ignored.now c.args.entry c.args.out.now c.put_told.new.out c.args.err.now c.put_told.new.err _ _ _ c.put_told.result c.in-Ok.ensures.ok c.put_told.ensures.line c.put_told.ensures.printed c.put_told.ensures.status

pub returns-in-Ok-clause-cut : goal.returns-in-Ok-clause-cut
returns-in-Ok-clause-cut g c =
    entry_cut (g.S.Shelf.holds c.args.shelf.now) g.W.Write.contents g.E.Write.contents c.args.asked.now c.args.ignored.now c.args.entry c.args.out.now c.put_told.new.out c.args.err.now c.put_told.new.err _ _ _ c.put_told.result c.in-Ok.ensures.ok c.put_told.ensures.line c.put_told.ensures.cut
