use Rattle.std.proofs.Common.{◌∙◌, ap}
use Rattle.std.specs.Prelude.{unwrap_or}
use Rattle.std.specs.BTreeMap.{get}
use Rattle.std.specs.Ordering.{nat_cmp}
use Rattle.yaml_pair.proofs.ListLaws.{tally-more}
use Rattle.yaml_pair.proofs.equal.counts.Goals as goal

pub loop-rank-preserved : goal.loop-rank-preserved
loop-rank-preserved c =
    tally-more c.args.ranks.now c.loop-rank.rank-index 0 (get nat_cmp c.loop-rank.counts) (get nat_cmp c.insert.new.self) c.unwrap_or-count.result c.loop-rank-test.true c.loop-rank.invariant c.in_ok-insert.ensures.updates.0
    (c.unwrap_or-count.ensures ∙ ap (λ z. unwrap_or z 0) (c.copied.ensures ∙ c.get.ensures.value))
