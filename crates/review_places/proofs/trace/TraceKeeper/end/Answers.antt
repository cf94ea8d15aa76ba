use Rattle.std.proofs.Common.{◌++◌, ◌∷◌, [], ◌∙◌, ap}
use Rattle.yaml_sink.specs.SinkModel.{end_of}
use Rattle.review_places.proofs.TraceLaws.{traced_put, end_closes}
use Rattle.review_places.proofs.trace.TraceKeeper.end.Goals as goal

pub returns-clause-ok : goal.returns-clause-ok
returns-clause-ok c =
    traced_put c.args.self.now c.put.new.self c.args.at (end_of c.args._collection) (c.in_ok-put.ensures.ok ∙ ap (λ z. c.args.self.now.events.items ++ ((z, c.args.at) ∷ [])) (end_closes c.args._collection))
