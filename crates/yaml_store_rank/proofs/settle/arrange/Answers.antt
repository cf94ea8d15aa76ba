use Rattle.std.proofs.Common.{◌∙◌}
use Rattle.yaml_store_rank.proofs.EqualLaws.{arranged-or-equal}
use Rattle.yaml_store_rank.proofs.settle.arrange.Goals as goal

pub returns : goal.returns
returns c =
    arranged-or-equal c.args.entries.now c.sort_unstable.new.self c.deref.result.now (c.deref.ensures.value ∙ c.in_ok-copy_keys.ensures) c.sort_unstable.ensures.permutation c.sort_unstable.ensures.sorted c.first_equal.result c.first_equal.ensures
