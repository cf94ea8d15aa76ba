use Rattle.std.proofs.lemmas.Result.{IfOk-weaker}
use Rattle.std.specs.Char.{encode_utf8}
use Rattle.yaml_scalar.proofs.OutcomeLemmas.{if_ok}
use Rattle.yaml_scalar.proofs.SpellingLemmas.{spelled_pushed}
use Rattle.yaml_scalar.proofs.spell.push_quoted.Goals as goal

pub returns-clause-ok : goal.returns-clause-ok
unfolding encode_utf8
returns-clause-ok c =
    IfOk-weaker c.push-2.result _ _
    (λ _ e. spelled_pushed c.args.text.now _ _ _ _ c.in_ok-push.ensures.bytes c.in_ok-push_chars.ensures.ok e)
    (if_ok c.push-2.result _ _ _ c.push-2.ensures.bytes)
