use Rattle.yaml_show_scalar.proofs.TextLaws.{behind_is}
use Rattle.yaml_show_scalar.proofs.texts.behind.Goals as goal

pub returns : goal.returns
returns c = behind_is c.args.front.now c.args.text.now c.strip_prefix.result c.strip_prefix.ensures.cases
