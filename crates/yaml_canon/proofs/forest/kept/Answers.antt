use Rattle.yaml_canon.proofs.ForestLaws.{puts-kept}
use Rattle.yaml_canon.proofs.forest.kept.Goals as goal

pub returns-in-Kept-clause-ok : goal.returns-in-Kept-clause-ok
returns-in-Kept-clause-ok g c =
    let n = c.in_ok-read_into.ensures.ok in
    (n.0, n.2, puts-kept g.K.Keeper.holds c.args.keeper c.in-Kept.keeper c.read_into.new.out n.0 c.in-Kept.is n.1)
