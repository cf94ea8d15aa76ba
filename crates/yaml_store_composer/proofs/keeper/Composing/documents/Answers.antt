use Rattle.std.proofs.Common.{refl}
use Rattle.yaml_definitions.specs.model.Serial.{stream_events}
use Rattle.yaml_tree_builder.specs.Reached.{all_events}
use Rattle.yaml_store_composer.proofs.KeeperLaws.{all-composed, goes-on, settles}
use Rattle.yaml_store_composer.proofs.keeper.Composing.documents.Goals as goal

pub returns-clause-count : goal.returns-clause-count
returns-clause-count c = λ ds h. c.in_ok-documents.ensures.count ds (all-composed c.args.self.now (stream_events ds) c.compose.new.pending h c.if-self.false c.in_ok-compose.ensures.composes)

pub returns-clause-streams : goal.returns-clause-streams
returns-clause-streams c = λ dss h. c.in_ok-documents.ensures.streams dss (all-composed c.args.self.now (all_events dss) c.compose.new.pending h c.if-self.false c.in_ok-compose.ensures.composes)

pub returns-clause-keeps : goal.returns-clause-keeps
returns-clause-keeps c =
    let w = goes-on _ _ _ _ c.documents.new.self c.in_ok-compose.ensures.composes c.in_ok-documents.ensures.keeps in
    settles c.args.self.now _ c.if-self.false w c.in_ok-compose.ensures.none refl
