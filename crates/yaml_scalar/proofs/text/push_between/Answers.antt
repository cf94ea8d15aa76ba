use Rattle.std.proofs.Common.{◌++◌, ◌∙◌, ap}
use Rattle.std.specs.Str.{chars}
use Rattle.std.specs.String.{string_bytes}
use Rattle.std.proofs.lemmas.Str.{IsUtf8-string_bytes, chars-append}
use Rattle.std.proofs.lemmas.Result.{IfOk-weaker}
use Rattle.yaml_scalar.proofs.OutcomeLemmas.{if_ok}
use Rattle.yaml_scalar.proofs.text.push_between.Goals as goal

pub returns : goal.returns
returns c =
    IfOk-weaker c.push_str.result _ _
    (λ _ e. ap chars e ∙ chars-append _ _ (IsUtf8-string_bytes c.args.text.now) ∙ ap (λ v. chars (string_bytes c.args.text.now) ++ v) c.text_between.ensures)
    (if_ok c.push_str.result _ _ _ c.push_str.ensures.bytes)
