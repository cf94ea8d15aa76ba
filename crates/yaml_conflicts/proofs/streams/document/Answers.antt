use Rattle.yaml_conflicts.proofs.StreamLaws.{get-within}
use Rattle.yaml_conflicts.proofs.streams.document.Goals as goal

pub returns-clause-within : goal.returns-clause-within
returns-clause-within c = get-within c.args.forests.now c.args.roots.now c.args.place c.root_at.result c.requires.within c.root_at.ensures
