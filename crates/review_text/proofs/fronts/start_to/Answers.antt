use Rattle.std.proofs.Common.{length, sym, arith}
use Rattle.std.proofs.lemmas.List.{take_all}
use Rattle.review_text.proofs.fronts.start_to.Goals as goal

pub returns-in-Some : goal.returns-in-Some
returns-in-Some c = (c.args.at, c.in-Some.ensures.front)

pub returns-in-None : goal.returns-in-None
returns-in-None c = (length c.args.text.now, sym (take_all (length c.args.text.now) c.args.text.now (omega arith)))
