use Rattle.std.proofs.Common.{None}
use Rattle.std.specs.Cow.{cow_str_bytes}
use Rattle.yaml_definitions.specs.model.Event.{scalar_event, untagged}
use Rattle.yaml_text.specs.EventModel.{style_of}
use Rattle.review_places.proofs.TraceLaws.{traced_put}
use Rattle.review_places.proofs.trace.TraceKeeper.scalar.Goals as goal

pub returns-clause-ok : goal.returns-clause-ok
returns-clause-ok c = traced_put c.args.self.now c.put.new.self c.args.at (scalar_event None untagged (style_of c.args._style) (cow_str_bytes c.args._text.now)) c.in_ok-put.ensures.ok
