use Rattle.yaml_definitions.proofs.ContentLaws as laws
use Rattle.yaml_definitions.proofs.laws.contents_tell.Goals as goal

pub returns-clause-content : goal.returns-clause-content
returns-clause-content c = laws.contents_tell

pub returns-clause-one : goal.returns-clause-one
returns-clause-one c = laws.one_canonical_text
