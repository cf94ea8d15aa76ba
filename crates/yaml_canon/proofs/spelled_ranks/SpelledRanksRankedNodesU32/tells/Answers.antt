use Rattle.yaml_canon.proofs.SpelledLaws.{walked-tells}
use Rattle.yaml_canon.proofs.spelled_ranks.SpelledRanksRankedNodesU32.tells.Goals as goal

pub returns : goal.returns
returns c = let w = c.requires.stands in walked-tells w.0 w.1 c.args.self.now.ranked.now w.2.listed
