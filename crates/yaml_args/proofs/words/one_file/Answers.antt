use Rattle.std.proofs.Common.{◌∙◌, ap₂}
use Rattle.std.proofs.lemmas.Result.{IfOk-weaker}
use Rattle.clap.specs.Words.{with_rule}
use Rattle.yaml_args.proofs.words.one_file.Goals as goal

pub returns : goal.returns
returns c = IfOk-weaker c.arg.result _ _ (λ r h. h.shape c.file.ensures.local ∙ ap₂ with_rule c.new.ensures.app c.file.ensures.rule) c.arg.ensures
