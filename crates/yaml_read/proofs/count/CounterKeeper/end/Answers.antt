use Rattle.yaml_sink.specs.SinkModel.{end_of}
use Rattle.yaml_read.proofs.CountLaws.{if_ok, counts_put, end_content}
use Rattle.yaml_read.proofs.count.CounterKeeper.end.Goals as goal

pub returns-clause-ok : goal.returns-clause-ok
returns-clause-ok c = if_ok c.grow.result c.grow.ensures.ok (λ x g. counts_put c.args.self.now c.grow.new.self 0 (end_of c.args._collection) (end_content c.args._collection) g)
