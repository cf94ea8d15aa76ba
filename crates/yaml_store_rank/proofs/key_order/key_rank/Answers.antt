use Rattle.std.proofs.Common.{sym}
use Rattle.yaml_store_rank.proofs.KeyOrderLaws.{entry-rank}
use Rattle.yaml_store_rank.proofs.key_order.key_rank.Goals as goal

pub returns : goal.returns
returns c = sym (entry-rank c.args.ranks.now c.args.entries.now c.args.place _ c.requires.within)
