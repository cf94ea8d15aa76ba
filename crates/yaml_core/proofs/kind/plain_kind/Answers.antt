use Rattle.std.proofs.Common.{◌∙◌, ap}
use Rattle.yaml_core.specs.Form.{form_kind}
use Rattle.yaml_core.proofs.FormLemmas.{kind_is}
use Rattle.yaml_core.proofs.kind.plain_kind.Goals as goal

pub returns : goal.returns
returns c = c.kind.ensures ∙ (ap form_kind c.judge.ensures ∙ kind_is c.args.text.now)
