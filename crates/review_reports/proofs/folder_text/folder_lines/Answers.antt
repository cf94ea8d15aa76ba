use Rattle.std.proofs.Common.{get_or, arith}
use Rattle.review_reports.proofs.LineLaws.{begins, entry_kept, one_more_at, stops_at, all_printed}
use Rattle.review_reports.proofs.folder_text.folder_lines.Goals as goal

pub entries-init : goal.entries-init
entries-init g c = record {
  few = c.requires;
  on = begins (g.S.Shelf.holds c.args.shelf.now) g.W.Write.contents g.E.Write.contents c.args.asked.now c.args.ignored.now c.args.entries.now c.args.out.now c.args.err.now;
}

pub returns-in-Err : goal.returns-in-Err
returns-in-Err g c =
    stops_at (g.S.Shelf.holds c.args.shelf.now) g.W.Write.contents g.E.Write.contents c.args.asked.now c.args.ignored.now c.args.entries.now c.args.out.now c.args.err.now c.entries.entry-index _ (omega (arith, c.entries-test.true))
    c.entries.out c.tell_of.new.out c.entries.err c.tell_of.new.err c.tell_bare.new.err c.entries.status _ _ _ c.entries.invariant.on c.in-Err.ensures.cut c.tell_bare.ensures.told c.tell_bare.ensures.status c.greater.ensures

pub entries-preserved : goal.entries-preserved
entries-preserved g c =
    let kept = entry_kept (g.S.Shelf.holds c.args.shelf.now) g.W.Write.contents g.E.Write.contents c.args.asked.now c.args.ignored.now (get_or c.args.entries.now c.entries.entry-index _) c.entries.out c.tell_of.new.out c.entries.err c.tell_of.new.err _ c.in-Ok.ensures.ok in
    let few = c.entries.invariant.few in
    record {
      few = omega (arith, kept, few);
      on = one_more_at (g.S.Shelf.holds c.args.shelf.now) g.W.Write.contents g.E.Write.contents c.args.asked.now c.args.ignored.now c.args.entries.now c.args.out.now c.args.err.now c.entries.entry-index _ (omega (arith, c.entries-test.true))
          c.entries.out c.tell_of.new.out c.entries.err c.tell_of.new.err c.entries.status _ _ c.entries.invariant.on c.in-Ok.ensures.ok c.greater-status.ensures;
    }

pub returns : goal.returns
returns g c =
    all_printed (g.S.Shelf.holds c.args.shelf.now) g.W.Write.contents g.E.Write.contents c.args.asked.now c.args.ignored.now c.args.entries.now c.args.out.now c.args.err.now c.entries.entry-index (omega (arith, c.entries-test.false)) c.entries.out c.entries.err c.entries.status c.entries.invariant.on
