use Rattle.review_git.proofs.PageLaws.{unflushed}
use Rattle.review_git.proofs.page.send_out.Goals as goal

pub returns-in-Err-clause-err : goal.returns-in-Err-clause-err
returns-in-Err-clause-err g c =
    unflushed g.W.Write.contents c.args.out.now c.send.new.out c.flush.new.self c.args.text.now c.requires c.in_ok-send.ensures.ok c.in-Err.ensures.bytes c.in-Err.ensures.faults
