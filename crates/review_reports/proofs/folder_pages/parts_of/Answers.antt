use Rattle.std.proofs.Common.{arith}
use Rattle.review_reports.proofs.PartLaws.{begins, one_more_at, all_found}
use Rattle.review_reports.proofs.folder_pages.parts_of.Goals as goal

pub entries-init : goal.entries-init
entries-init g c = begins (g.S.Shelf.holds c.args.shelf.now) g.E.Write.contents c.args.asked.now c.args.ignored.now c.args.page c.args.entries.now c.args.err.now _ c.new-parts.ensures.items

pub entries-preserved : goal.entries-preserved
entries-preserved g c =
    let added = c.in_ok-add_part.ensures.ok in
    one_more_at (g.S.Shelf.holds c.args.shelf.now) g.E.Write.contents c.args.asked.now c.args.ignored.now c.args.page c.args.entries.now c.args.err.now c.entries.entry-index _ (omega (arith, c.entries-test.true))
    c.entries.parts.items added.0 _ c.in_ok-found.found.part _ c.entries.err c.put_line.new.err c.entries.status _ _ c.entries.invariant c.in_ok-found.ensures.ok (rw c.deref.ensures at c.put_line.ensures) added.1 added.2 c.greater-status.ensures

pub returns-clause-ok : goal.returns-clause-ok
returns-clause-ok g c = all_found (g.S.Shelf.holds c.args.shelf.now) g.E.Write.contents c.args.asked.now c.args.ignored.now c.args.page c.args.entries.now c.args.err.now c.entries.entry-index (omega (arith, c.entries-test.false)) c.entries.parts.items c.entries.err c.entries.status c.entries.invariant
