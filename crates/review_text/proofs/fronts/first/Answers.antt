use Rattle.std.proofs.Common.{length, refl, sym, arith}
use Rattle.std.proofs.lemmas.List.{take_all}
use Rattle.review_text.proofs.fronts.first.Goals as goal

pub returns-then-text-le-SIDE : goal.returns-then-text-le-SIDE
returns-then-text-le-SIDE c = ((length c.args.text.now, sym (take_all (length c.args.text.now) c.args.text.now (omega arith))), λ _. refl)

pub returns-in-None : goal.returns-in-None
returns-in-None c = ((length c.args.text.now, sym (take_all (length c.args.text.now) c.args.text.now (omega arith))), λ _. refl)
