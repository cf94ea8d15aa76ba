use Rattle.std.proofs.Common.{length, refl, sym, arith}
use Rattle.std.proofs.lemmas.List.{take_all}
use Rattle.review_html.proofs.lines.front.Goals as goal

pub returns-then-line-le-WIDE : goal.returns-then-line-le-WIDE
returns-then-line-le-WIDE c = ((length c.args.line.now, sym (take_all (length c.args.line.now) c.args.line.now (omega arith))), λ _. refl)

pub returns-in-None : goal.returns-in-None
returns-in-None c = ((length c.args.line.now, sym (take_all (length c.args.line.now) c.args.line.now (omega arith))), λ _. refl)
