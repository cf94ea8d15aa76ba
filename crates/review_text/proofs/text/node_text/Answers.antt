use Rattle.std.proofs.Common.{◌∙◌}
use Rattle.std.proofs.lemmas.Result.{IfOk-weaker}
use Rattle.review_text.proofs.ShownLaws.{shown_filled}
use Rattle.review_text.proofs.text.node_text.Goals as goal

pub returns : goal.returns
returns c = record { ok = (IfOk-weaker c.cut.result _ _ (λ s e. e ∙ shown_filled c.args.room _ _ _ c.new-text.ensures.bytes c.in_ok-put_node.ensures.ok) c.cut.ensures.ok) }
