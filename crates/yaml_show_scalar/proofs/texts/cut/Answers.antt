use Rattle.std.specs.Prelude.{Some, None}
use Rattle.std.proofs.lemmas.Str.Pattern.{split_once_first}
use Rattle.yaml_show_scalar.proofs.TextLaws.{all_before, none_after}
use Rattle.yaml_show_scalar.proofs.texts.cut.Goals as goal

pub returns-in-Some-clause-front : goal.returns-in-Some-clause-front
returns-in-Some-clause-front c = (split_once_first c.args.mark c.args.text.now (Some c.in-Some.parts) c.in-Some.ensures.cases c.requires).1

pub returns-in-Some-clause-rest : goal.returns-in-Some-clause-rest
returns-in-Some-clause-rest c = (split_once_first c.args.mark c.args.text.now (Some c.in-Some.parts) c.in-Some.ensures.cases c.requires).2

pub returns-in-None-clause-front : goal.returns-in-None-clause-front
returns-in-None-clause-front c = all_before c.args.mark c.args.text.now (split_once_first c.args.mark c.args.text.now None c.in-None.ensures.cases c.requires)

pub returns-in-None-clause-rest : goal.returns-in-None-clause-rest
returns-in-None-clause-rest c = none_after c.args.mark c.args.text.now (split_once_first c.args.mark c.args.text.now None c.in-None.ensures.cases c.requires)
