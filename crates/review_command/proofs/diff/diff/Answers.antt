use Rattle.std.proofs.Common.{refl, inl, inr, string_bytes}
use Rattle.review_compare.specs.Compared.{DiffLines}
use Rattle.review_command.specs.Rejections.{CutsLines}
use Rattle.review_command.proofs.RejectionLaws.{or_faulted}
use Rattle.review_command.proofs.diff.diff.Goals as goal

pub returns-in-Err-clause-refuses : goal.returns-in-Err-clause-refuses
returns-in-Err-clause-refuses g c =
    let holds = g.S.Shelf.holds c.args.shelf.now in
    let rest = g.R.Read.remaining c.args.input.now in
    inl (or_faulted holds rest c.args.asked.now c.not_read.result c.or_fault.result (c.not_read.ensures.ok holds rest c.in-Err.ensures.err) c.or_fault.ensures.ok c.or_fault.ensures.err, refl)

pub returns-clause-refuses : goal.returns-clause-refuses
returns-clause-refuses g c =
    let lines : DiffLines c.in-Ok.both.0.items c.in-Ok.both.1.items c.args.asked.now c.args.ignored.now c.in-Ok-compare_sides.told.same (string_bytes c.in-Ok-compare_sides.told.text) =
    rw c.deref-2.ensures.value at (rw c.deref.ensures.value at c.in-Ok-compare_sides.ensures.lines) in
    let cut : CutsLines (g.S.Shelf.holds c.args.shelf.now) (g.R.Read.remaining c.args.input.now) g.W.Write.contents c.args.asked.now c.args.ignored.now c.args.out.now c.write_out.new.out c.in-Err-write_out.fault =
    record {
      first = c.in-Ok.both.0.items;
      second = c.in-Ok.both.1.items;
      named = c.in-Ok.ensures.ok;
      none = c.in-Ok-compare_sides.told.same;
      text = string_bytes c.in-Ok-compare_sides.told.text;
      lines = lines;
      fails = rw c.as_bytes.ensures.value at c.in-Err-write_out.ensures.err;
    } in
    inr (c.in-Err-write_out.fault, refl, cut)
