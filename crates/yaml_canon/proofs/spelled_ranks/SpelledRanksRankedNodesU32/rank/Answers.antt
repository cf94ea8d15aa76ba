use Rattle.std.proofs.Common.{sym}
use Rattle.yaml_store_rank.proofs.WalkedLaws.{rank-is}
use Rattle.yaml_canon.proofs.spelled_ranks.SpelledRanksRankedNodesU32.rank.Goals as goal

pub returns-clause-is : goal.returns-clause-is
returns-clause-is c = let w = c.requires.stands.stands in sym (rank-is w.0 w.1 c.args.self.now.ranked.now w.2.listed c.args.id c.requires.within)
