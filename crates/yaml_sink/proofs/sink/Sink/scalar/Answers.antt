use Rattle.std.proofs.Common.{[], ◌∷◌, None}
use Rattle.std.specs.Cow.{cow_str_bytes}
use Rattle.yaml_definitions.specs.model.Event.{untagged, scalar_event}
use Rattle.yaml_text.specs.EventModel.{style_of}
use Rattle.yaml_sink.proofs.SinkLemmas.{listed_put}
use Rattle.yaml_sink.proofs.sink.Sink.scalar.Goals as goal

pub returns-in-Listed-clause-ok : goal.returns-in-Listed-clause-ok
returns-in-Listed-clause-ok g c = listed_put g.K.Keeper.holds c.args.self.now c.in-Listed.list c.scalar.new.self (scalar_event None untagged (style_of c.args.style) (cow_str_bytes c.args.text) ∷ []) c.scalar.result c.in-Listed.is c.scalar.ensures.ok
