use Rattle.std.proofs.lemmas.Str.Pattern.{ends_char}
use Rattle.yaml_show_scalar.proofs.TextLaws.{ends_is}
use Rattle.yaml_show_scalar.proofs.texts.ends_in.Goals as goal

pub returns : goal.returns
returns c = ends_is c.args.mark c.args.text.now c.ends_with.result (ends_char c.args.mark c.args.text.now c.ends_with.result c.ends_with.ensures.cases c.requires)
