use Rattle.std.proofs.Common.{sym, ◌∙◌}
use Rattle.yaml_text.specs.Source.{text_of}
use Rattle.yaml_text.proofs.Tests.{on_true, on_false, on_true_weaker, on_false_weaker}
use Rattle.yaml_scalar.proofs.PlainLemmas.{first_sign, first_head, no_first_sign, no_first_head}
use Rattle.yaml_scalar.proofs.plain.is_first.Goals as goal

pub returns-then-is_plain_sign-clause-yes : goal.returns-then-is_plain_sign-clause-yes
returns-then-is_plain_sign-clause-yes c =
    on_true_weaker c.is_safe_at.result (λ s. first_sign (text_of c.args.source.now) _ _ _ _ c.requires.is (sym c.is_plain_sign.ensures ∙ c.if-is_plain_sign.true) c.requires.next s) c.is_safe_at.ensures.yes

pub returns-then-is_plain_sign-clause-no : goal.returns-then-is_plain_sign-clause-no
returns-then-is_plain_sign-clause-no c =
    on_false_weaker c.is_safe_at.result (λ n. no_first_sign (text_of c.args.source.now) _ _ _ _ c.requires.is (sym c.is_plain_sign.ensures ∙ c.if-is_plain_sign.true) c.requires.next n) c.is_safe_at.ensures.no

pub returns-else-is_plain_sign-clause-yes : goal.returns-else-is_plain_sign-clause-yes
returns-else-is_plain_sign-clause-yes c =
    on_true c.is_plain_head.result (λ t. first_head (text_of c.args.source.now) _ _ _ c.requires.is (sym c.is_plain_head.ensures ∙ t))

pub returns-else-is_plain_sign-clause-no : goal.returns-else-is_plain_sign-clause-no
returns-else-is_plain_sign-clause-no c =
    on_false c.is_plain_head.result (λ t. no_first_head (text_of c.args.source.now) _ _ _ c.requires.is (sym c.is_plain_sign.ensures ∙ c.if-is_plain_sign.false) (sym c.is_plain_head.ensures ∙ t))
