use Rattle.std.proofs.Common.{sym, ◌∙◌, ap, arith}
use Rattle.std.specs.Prelude.{Some}
use Rattle.review_folds.proofs.KeyLaws.{found_rank}
use Rattle.review_folds.proofs.keys.rank_of.Goals as goal

pub returns-then-is_string : goal.returns-then-is_string
returns-then-is_string c =
    found_rank c.args.forests.now c.laws.ensures c.args.text.now c.loop-number.number (Some c.rank.result) (omega (arith, c.len-number-end.ensures, c.loop-number-test.true)) (sym c.is_string.ensures ∙ c.if-is_string.true) (ap Some c.rank.ensures)
