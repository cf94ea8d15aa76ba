use Rattle.yaml_sink.specs.PropertyRules.{props_of}
use Rattle.review_places.proofs.TraceLaws.{traced_dressed}
use Rattle.review_places.proofs.trace.TraceKeeper.dress.Goals as goal

pub returns : goal.returns
returns c = traced_dressed c.args.self.now c.note_properties.new.self c.args.start (props_of c.args.properties.now) c.note_properties.ensures
