use Rattle.std.proofs.Common.{None}
use Rattle.yaml_definitions.specs.model.Event.{mapping_start, untagged}
use Rattle.review_places.proofs.TraceLaws.{traced_inserted}
use Rattle.review_places.proofs.trace.TraceKeeper.insert.Goals as goal

pub returns-clause-ok : goal.returns-clause-ok
returns-clause-ok c = traced_inserted c.args.self.now c.grow.new.self c.args.start c.args.at (mapping_start c.args._flow None untagged) c.in_ok-grow.ensures.ok
