use Rattle.std.proofs.Common.{◌++◌, string_bytes, ◌∙◌, ap, subst}
use Rattle.review_files.specs.Named.{AreNotBoth}
use Rattle.review_command.proofs.RejectionLaws.{not_both}
use Rattle.review_command.proofs.diff.not_read.Goals as goal

pub returns-clause-ok : goal.returns-clause-ok
returns-clause-ok c holds rest h =
    let k = subst (AreNotBoth holds rest c.args.asked.now.left.now c.args.asked.now.right.now) c.in-Unread.is h in
    let told = c.in_ok-status.ensures.ok in
    not_both holds rest c.args.asked.now c.named-first.result c.named-second.result c.named-first.ensures.0 c.named-second.ensures.0 c.in-Unread.left c.in-Unread.right told.0 (string_bytes c.put_rejections.new.out) c.in_ok-status.status c.named-first.ensures.1 c.named-second.ensures.1 k.0 k.1 k.2
    (told.1 ∙ ap (λ z. z ++ told.0) c.new-text.ensures.bytes) told.2
