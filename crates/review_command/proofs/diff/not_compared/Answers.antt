use Rattle.std.proofs.Common.{◌++◌, string_bytes, ◌∙◌, ap}
use Rattle.review_command.proofs.RejectionLaws.{both_read}
use Rattle.review_command.proofs.diff.not_compared.Goals as goal

pub returns-clause-ok : goal.returns-clause-ok
returns-clause-ok c holds rest named =
    let told = c.in_ok-status.ensures.ok in
    both_read holds rest c.args.asked.now c.named-first.result c.named-second.result c.named-first.ensures.0 c.named-second.ensures.0 c.args.left c.args.right c.args.side told.0 (string_bytes c.put_not_compared.new.out) c.in_ok-status.status c.named-first.ensures.1 c.named-second.ensures.1 named
    (told.1 ∙ ap (λ z. z ++ told.0) c.new-text.ensures.bytes) told.2
