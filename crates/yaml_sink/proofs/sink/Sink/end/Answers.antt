use Rattle.std.proofs.Common.{[], ◌∷◌}
use Rattle.yaml_sink.specs.SinkModel.{end_of}
use Rattle.yaml_sink.proofs.SinkLemmas.{listed_put}
use Rattle.yaml_sink.proofs.sink.Sink.end.Goals as goal

pub returns-in-Listed-clause-ok : goal.returns-in-Listed-clause-ok
returns-in-Listed-clause-ok g c = listed_put g.K.Keeper.holds c.args.self.now c.in-Listed.list c.end.new.self (end_of c.args.collection ∷ []) c.end.result c.in-Listed.is c.end.ensures.ok
