use Rattle.std.proofs.Common.{refl, inl, inr, string_bytes}
use Rattle.review_compare.specs.Compared.{DiffLists}
use Rattle.review_command.specs.Rejections.{CutsPage}
use Rattle.review_command.proofs.RejectionLaws.{or_faulted}
use Rattle.review_command.proofs.diff.diff_page.Goals as goal

pub returns-in-Ok-write_out-clause-shows : goal.returns-in-Ok-write_out-clause-shows
returns-in-Ok-write_out-clause-shows g c = record {
  first = c.in-Ok.both.0.items;
  second = c.in-Ok.both.1.items;
  named = c.in-Ok.ensures.ok;
  listed = c.in-Ok-list_sides.listed;
  lists = rw c.deref-2.ensures.value at (rw c.deref.ensures.value at c.in-Ok-list_sides.ensures.lists);
  compares = rw c.deref-2.ensures.value at (rw c.deref.ensures.value at c.in-Ok-list_sides.ensures.same);
  told = c.status_of.ensures;
  text = string_bytes c.in-Ok-listed_text.text;
  is = rw c.deref-4.ensures.value at (rw c.deref-3.ensures.value at c.in-Ok-listed_text.ensures.ok);
  printed = rw c.as_bytes.ensures.value at c.in-Ok-write_out.ensures.ok;
}

pub returns-in-Err-clause-refuses : goal.returns-in-Err-clause-refuses
returns-in-Err-clause-refuses g c =
    let holds = g.S.Shelf.holds c.args.shelf.now in
    let rest = g.R.Read.remaining c.args.input.now in
    inl (or_faulted holds rest c.args.told.0.now c.not_read.result c.or_fault.result (c.not_read.ensures.ok holds rest c.in-Err.ensures.err) c.or_fault.ensures.ok c.or_fault.ensures.err, refl)

pub returns-clause-refuses : goal.returns-clause-refuses
returns-clause-refuses g c =
    let lists : DiffLists c.in-Ok.both.0.items c.in-Ok.both.1.items c.args.told.0.now c.args.ignored.now c.in-Ok-list_sides.listed =
    rw c.deref-2.ensures.value at (rw c.deref.ensures.value at c.in-Ok-list_sides.ensures.lists) in
    let cut : CutsPage (g.S.Shelf.holds c.args.shelf.now) (g.R.Read.remaining c.args.input.now) g.W.Write.contents c.args.told.0.now c.args.told.1 c.args.ignored.now c.args.out.now c.write_out.new.out c.in-Err-write_out.fault =
    record {
      first = c.in-Ok.both.0.items;
      second = c.in-Ok.both.1.items;
      named = c.in-Ok.ensures.ok;
      listed = c.in-Ok-list_sides.listed;
      lists = lists;
      text = string_bytes c.in-Ok-listed_text.text;
      is = rw c.deref-4.ensures.value at (rw c.deref-3.ensures.value at c.in-Ok-listed_text.ensures.ok);
      fails = rw c.as_bytes.ensures.value at c.in-Err-write_out.ensures.err;
    } in
    inr (c.in-Err-write_out.fault, refl, cut)
