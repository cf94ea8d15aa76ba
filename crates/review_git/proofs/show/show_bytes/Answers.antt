use Rattle.review_git.proofs.ShowLaws.{text_shown, text_cut, none_shown, none_cut}
use Rattle.review_git.proofs.show.show_bytes.Goals as goal

pub returns-in-Ok-clause-ok : goal.returns-in-Ok-clause-ok
returns-in-Ok-clause-ok g c =
    text_shown g.W.Write.contents g.E.Write.contents c.args.named.1.now c.args.named.0.now c.args.bytes.now c.args.out.now c.show_text.new.out c.args.err.now c.show_text.new.err _ c.show_text.result c.in-Ok.ensures.ok c.show_text.ensures.ok

pub returns-in-Ok-clause-cut : goal.returns-in-Ok-clause-cut
returns-in-Ok-clause-cut g c =
    text_cut g.W.Write.contents g.E.Write.contents c.args.named.1.now c.args.named.0.now c.args.bytes.now c.args.out.now c.show_text.new.out c.args.err.now c.show_text.new.err _ c.show_text.result c.in-Ok.ensures.ok c.show_text.ensures.cut

pub returns-in-Err-clause-ok : goal.returns-in-Err-clause-ok
returns-in-Err-clause-ok g c =
    none_shown g.W.Write.contents g.E.Write.contents c.args.named.1.now c.args.named.0.now c.args.bytes.now c.args.out.now c.put_source.new.out c.args.err.now c.tell_unshown-status.new.err _ _ c.put_source.result c.in-Err.ensures.err c.tell_unshown-status.ensures c.put_source.ensures.ok

pub returns-in-Err-clause-cut : goal.returns-in-Err-clause-cut
returns-in-Err-clause-cut g c =
    none_cut g.W.Write.contents g.E.Write.contents c.args.named.1.now c.args.named.0.now c.args.bytes.now c.args.out.now c.put_source.new.out c.args.err.now c.tell_unshown-status.new.err _ _ c.put_source.result c.in-Err.ensures.err c.tell_unshown-status.ensures c.put_source.ensures.asked c.put_source.ensures.cut
