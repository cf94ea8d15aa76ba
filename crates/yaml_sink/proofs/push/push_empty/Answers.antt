use Rattle.std.specs.Str.{chars}
use Rattle.yaml_sink.proofs.push.push_empty.Goals as goal

pub returns-clause-ok : goal.returns-clause-ok
unfolding chars
returns-clause-ok g c = c.push_scalar.ensures.ok
