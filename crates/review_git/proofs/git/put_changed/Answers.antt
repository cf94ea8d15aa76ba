use Rattle.review_git.proofs.BothLaws.{both_equal}
use Rattle.review_git.proofs.git.put_changed.Goals as goal

pub returns-then-are_equal-clause-ok : goal.returns-then-are_equal-clause-ok
returns-then-are_equal-clause-ok g c = both_equal (g.S.Shelf.holds c.args.shelf.now) c.args.pair _ _ _ c.if-are_equal.ensures c.in_ok-put_modes.ensures.ok c.in_ok-put_renamed.ensures.ok
