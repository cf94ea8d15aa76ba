use Rattle.yaml_store_composer.proofs.DueLaws.{goes-on}
use Rattle.yaml_store_composer.proofs.pending.PendingProperties.go_on.Goals as goal

pub returns : goal.returns
returns c = goes-on c.args.self.now c.in-Some.begun c.in-Some.is c.if-owes.ensures.due c.if-owes.ensures.above
