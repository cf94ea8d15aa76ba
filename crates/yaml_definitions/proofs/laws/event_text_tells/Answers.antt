use Rattle.yaml_definitions.proofs.EventTextLaws as laws
use Rattle.yaml_definitions.proofs.laws.event_text_tells.Goals as goal

pub returns-clause-events : goal.returns-clause-events
returns-clause-events c = laws.event_text_tells

pub returns-clause-text : goal.returns-clause-text
returns-clause-text c = laws.events_have_one_text

pub returns-clause-sound : goal.returns-clause-sound
returns-clause-sound c = laws.sound_events_have_text
