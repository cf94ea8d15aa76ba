use Rattle.std.proofs.Common.{sym, subst}
use Rattle.yaml_tree.specs.Refused.{RefusesStream}
use Rattle.yaml_tree_builder.proofs.JudgedLaws.{refuses}
use Rattle.yaml_tree_builder.proofs.judged.Judged.finish.Goals as goal

pub returns-in-Some-clause-refused : goal.returns-in-Some-clause-refused
returns-in-Some-clause-refused c = λ ds h. subst (RefusesStream ds) (sym c.fault.ensures) (refuses c.args.self c.in-Some.refusal ds c.in-Some.is h)
