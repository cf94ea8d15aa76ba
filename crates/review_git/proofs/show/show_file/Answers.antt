use Rattle.std.proofs.Common.{inr, refl}
use Rattle.review_git.proofs.ShowLaws.{file_shown, file_cut}
use Rattle.review_git.proofs.show.show_file.Goals as goal

pub returns-in-Ok-clause-ok : goal.returns-in-Ok-clause-ok
returns-in-Ok-clause-ok g c =
    file_shown (g.S.Shelf.holds c.args.shelf.now) g.R.Read.remaining g.W.Write.contents g.E.Write.contents c.args.named.1.now c.args.named.0.now c.in-Ok.bytes.items c.args.input.now c.read_named.new.input c.args.out.now c.show_bytes.new.out c.args.err.now c.show_bytes.new.err
    c.in-Ok.ensures.ok c.show_bytes.result (rw c.deref.ensures.value at c.show_bytes.ensures.ok)

pub returns-in-Ok-clause-cut : goal.returns-in-Ok-clause-cut
returns-in-Ok-clause-cut g c =
    file_cut (g.S.Shelf.holds c.args.shelf.now) g.R.Read.remaining g.W.Write.contents g.E.Write.contents c.args.named.1.now c.args.named.0.now c.in-Ok.bytes.items c.args.input.now c.read_named.new.input c.args.out.now c.show_bytes.new.out c.args.err.now c.show_bytes.new.err
    c.in-Ok.ensures.ok c.show_bytes.result (rw c.deref.ensures.value at c.show_bytes.ensures.cut)

pub returns-in-Err : goal.returns-in-Err
returns-in-Err g c = record {
  ok = inr (_, c.in-Err.ensures.err, c.tell_no_bytes.ensures, refl);
  cut = tt;
}
