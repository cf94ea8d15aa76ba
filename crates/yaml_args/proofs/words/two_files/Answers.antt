use Rattle.std.proofs.Common.{◌∙◌, ap₂}
use Rattle.std.proofs.lemmas.Result.{IfOk-weaker}
use Rattle.clap.specs.Words.{with_rule}
use Rattle.yaml_args.proofs.words.two_files.Goals as goal

pub returns : goal.returns
returns c =
    let first_is = c.in_ok-arg.ensures.shape c.file.ensures.local ∙ ap₂ with_rule c.new.ensures.app c.file.ensures.rule in
    IfOk-weaker c.arg-2.result _ _ (λ r h. h.shape c.file-2.ensures.local ∙ ap₂ with_rule first_is c.file-2.ensures.rule) c.arg-2.ensures
