use Rattle.yaml_store_composer.proofs.KeeperLaws.{all-composed}
use Rattle.yaml_store_composer.proofs.keeper.Composing.finish.Goals as goal

pub returns-clause-forest : goal.returns-clause-forest
returns-clause-forest c = λ ds h. c.finish.ensures.forest ds (all-composed c.args.self _ c.compose.new.pending h c.if-is_void.false c.in_ok-compose.ensures.composes)

pub returns-clause-both : goal.returns-clause-both
returns-clause-both c = λ ds es h. c.finish.ensures.both ds es (all-composed c.args.self _ c.compose.new.pending h c.if-is_void.false c.in_ok-compose.ensures.composes)

pub returns-clause-streams : goal.returns-clause-streams
returns-clause-streams c = λ dss h. c.finish.ensures.streams dss (all-composed c.args.self _ c.compose.new.pending h c.if-is_void.false c.in_ok-compose.ensures.composes)
