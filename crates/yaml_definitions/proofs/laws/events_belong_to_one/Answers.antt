use Rattle.yaml_definitions.proofs.FlatLaws as laws
use Rattle.yaml_definitions.proofs.laws.events_belong_to_one.Goals as goal

pub returns-clause-node : goal.returns-clause-node
returns-clause-node c = laws.flat_once

pub returns-clause-stream : goal.returns-clause-stream
returns-clause-stream c = laws.stream_once
