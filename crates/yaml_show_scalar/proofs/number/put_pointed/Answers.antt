use Rattle.std.proofs.Common.{arith}
use Rattle.yaml_show_scalar.proofs.NumberLaws.{border}
use Rattle.yaml_show_scalar.proofs.number.put_pointed.Goals as goal

pub range-requires-clause-end_boundary : goal.range-requires-clause-end_boundary
range-requires-clause-end_boundary c = border c.args.rest.now c.args.before c.requires (omega arith)

pub range_from-requires : goal.range_from-requires
range_from-requires c = λ _. border c.args.rest.now c.args.before c.requires (omega arith)
