use Rattle.std.proofs.Common.{◌++◌, ◌∷◌, [], ◌∙◌, ap}
use Rattle.yaml_sink.specs.SinkModel.{start_of}
use Rattle.review_places.proofs.TraceLaws.{traced_put, start_opens}
use Rattle.review_places.proofs.trace.TraceKeeper.begin.Goals as goal

pub returns-clause-ok : goal.returns-clause-ok
returns-clause-ok c =
    traced_put c.args.self.now c.put.new.self c.args.at (start_of c.args._collection c.args._flow) (c.in_ok-put.ensures.ok ∙ ap (λ z. c.args.self.now.events.items ++ ((z, c.args.at) ∷ [])) (start_opens c.args._collection c.args._flow))
