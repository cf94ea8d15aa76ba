use Rattle.std.proofs.Common.{refl}
use Rattle.review_git.proofs.AskedLaws.{seven, nine}
use Rattle.review_git.proofs.asked.asked_of.Goals as goal

pub returns-in-len7 : goal.returns-in-len7
returns-in-len7 c = (seven c.args.words.now _ c.side_of.result c.side_of-in-len7.result c.in-len7.len_at_least c.in-len7.len_below c.side_of.ensures c.side_of-in-len7.ensures, refl)

pub returns-in-len9 : goal.returns-in-len9
returns-in-len9 c = (nine c.args.words.now _ c.side_of-in-len9.result c.side_of-in-len9-2.result c.in-len9.len_at_least c.in-len9.len_below c.side_of-in-len9.ensures c.side_of-in-len9-2.ensures, refl)
