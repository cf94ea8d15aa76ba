use Rattle.std.proofs.Common.{[], ◌∷◌}
use Rattle.yaml_text.specs.EventModel.{event_of}
use Rattle.yaml_sink.proofs.SinkLemmas.{listed_put}
use Rattle.yaml_sink.proofs.sink.Sink.push.Goals as goal

pub returns-in-Listed-clause-ok : goal.returns-in-Listed-clause-ok
returns-in-Listed-clause-ok g c = listed_put g.K.Keeper.holds c.args.self.now c.in-Listed.list c.push.new.self (event_of c.args.event ∷ []) c.push.result c.in-Listed.is c.push.ensures.ok
