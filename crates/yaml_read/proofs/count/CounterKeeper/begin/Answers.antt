use Rattle.yaml_sink.specs.SinkModel.{start_of}
use Rattle.yaml_read.proofs.CountLaws.{if_ok, counts_put, start_content}
use Rattle.yaml_read.proofs.count.CounterKeeper.begin.Goals as goal

pub returns-clause-ok : goal.returns-clause-ok
returns-clause-ok c = if_ok c.grow.result c.grow.ensures.ok (λ x g. counts_put c.args.self.now c.grow.new.self 0 (start_of c.args._collection c.args._flow) (start_content c.args._collection c.args._flow) g)
