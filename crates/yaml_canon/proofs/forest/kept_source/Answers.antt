use Rattle.yaml_canon.proofs.ForestLaws.{if_takes}
use Rattle.yaml_canon.proofs.RefusedLaws.{if_not_read}
use Rattle.yaml_canon.proofs.forest.kept_source.Goals as goal

pub returns-clause-takes : goal.returns-clause-takes
returns-clause-takes g c = λ bytes s. if_takes g.K.Keeper.holds bytes _ c.args.keeper s.read c.kept.result c.kept.ensures.ok

pub returns-clause-why : goal.returns-clause-why
returns-clause-why g c = λ bytes s. if_not_read bytes c.args.source.now s c.kept.result c.kept.ensures.err c.kept.ensures.decides c.kept.ensures.placed
