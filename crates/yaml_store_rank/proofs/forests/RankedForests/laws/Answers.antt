use Rattle.std.proofs.Common.{subst}
use Rattle.yaml_store_rank.specs.Forests.{IsRanked}
use Rattle.yaml_store_rank.proofs.forests.RankedForests.laws.Goals as goal

pub returns : goal.returns
returns c = subst IsRanked c.self.view_is c.self.invariant.ranked
