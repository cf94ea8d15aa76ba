use Rattle.std.proofs.Common.{sym, ◌∙◌, ap, Some}
use Rattle.yaml_text.specs.Source.{text_of}
use Rattle.yaml_text.proofs.Tests.{on_true, on_false, on_true_weaker, on_false_weaker}
use Rattle.yaml_scalar.proofs.PlainLemmas.{later_colon, later_inner, no_later_colon, no_later_inner}
use Rattle.yaml_scalar.proofs.plain.is_later.Goals as goal

pub returns-then-c-eq58-clause-yes : goal.returns-then-c-eq58-clause-yes
returns-then-c-eq58-clause-yes c =
    on_true_weaker c.is_safe_at.result (λ s. later_colon (text_of c.args.source.now) _ _ _ (c.requires.is ∙ ap Some c.if-c-eq58.true) c.requires.next s) c.is_safe_at.ensures.yes

pub returns-then-c-eq58-clause-no : goal.returns-then-c-eq58-clause-no
returns-then-c-eq58-clause-no c =
    on_false_weaker c.is_safe_at.result (λ n. no_later_colon (text_of c.args.source.now) _ _ _ (c.requires.is ∙ ap Some c.if-c-eq58.true) c.requires.next n) c.is_safe_at.ensures.no

pub returns-else-c-eq58-clause-yes : goal.returns-else-c-eq58-clause-yes
returns-else-c-eq58-clause-yes c =
    on_true c.is_plain_inner.result (λ t. later_inner (text_of c.args.source.now) _ _ _ c.requires.is (sym c.is_plain_inner.ensures ∙ t))

pub returns-else-c-eq58-clause-no : goal.returns-else-c-eq58-clause-no
returns-else-c-eq58-clause-no c =
    on_false c.is_plain_inner.result (λ t. no_later_inner (text_of c.args.source.now) _ _ _ c.requires.is c.if-c-eq58.false (sym c.is_plain_inner.ensures ∙ t))
