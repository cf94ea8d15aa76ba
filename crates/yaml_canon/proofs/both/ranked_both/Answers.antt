use Rattle.std.proofs.Common.{◌++◌}
use Rattle.yaml_canon.proofs.SideLaws.{both-unranked}
use Rattle.yaml_canon.proofs.both.ranked_both.Goals as goal

pub ranked_roots-requires : goal.ranked_roots-requires
ranked_roots-requires c = let h = c.in_ok-forest.ensures.both in (h.mean.lefts ++ h.mean.rights, h.roots)

pub returns-in-Ok-clause-both : goal.returns-in-Ok-clause-both
returns-in-Ok-clause-both c =
    let h = c.in_ok-forest.ensures.both in
    record { mean = h.mean; ranks = c.in-Ok.ensures.ok (h.mean.lefts ++ h.mean.rights) h.roots }

pub returns-in-Err-clause-why : goal.returns-in-Err-clause-why
returns-in-Err-clause-why c =
    let h = c.in_ok-forest.ensures.both.read in
    both-unranked c.args.left.now c.args.right.now h.first h.second _ c.in-Err.fault c.with_side.result h.first_read h.second_read h.size (c.in-Err.ensures.err_both h.first h.second h.forests) c.with_side.ensures
