use Rattle.std.proofs.Common.{[], ◌∷◌}
use Rattle.yaml_sink.specs.SinkModel.{start_of}
use Rattle.yaml_sink.proofs.SinkLemmas.{listed_put}
use Rattle.yaml_sink.proofs.sink.Sink.begin.Goals as goal

pub returns-in-Listed-clause-ok : goal.returns-in-Listed-clause-ok
returns-in-Listed-clause-ok g c = listed_put g.K.Keeper.holds c.args.self.now c.in-Listed.list c.begin.new.self (start_of c.args.collection c.args.flow ∷ []) c.begin.result c.in-Listed.is c.begin.ensures.ok
