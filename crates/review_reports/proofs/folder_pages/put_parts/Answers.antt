use Rattle.std.proofs.Common.{◌<◌, inl, inr, refl, arith, string_bytes}
use Rattle.review_reports.proofs.PartLaws.{parts_cut}
use Rattle.review_reports.proofs.folder_pages.put_parts.Goals as goal

pub returns-in-Ok-write_out : goal.returns-in-Ok-write_out
returns-in-Ok-write_out g c =
    let some : 0 < c.args.told.0.now.lines = omega (arith, c.if-asked-eq0.false) in
    inr (inl (string_bytes c.in-Ok.text, some, c.in-Ok.ensures.ok, rw c.as_bytes.ensures.value at c.in-Ok-write_out.ensures.ok, refl))

pub returns-in-Ok : goal.returns-in-Ok
returns-in-Ok g c =
    parts_cut g.W.Write.contents c.args.told.0.now c.args.told.1 c.args.found.0.items c.args.out.now c.write_out.new.out (string_bytes c.in-Ok.text) c.args.found.1 _ _ c.in-Err-write_out.fault c.in-Ok.ensures.ok (rw c.as_bytes.ensures.value at c.in-Err-write_out.ensures.err) c.tell_bare.ensures.status c.greater.ensures
