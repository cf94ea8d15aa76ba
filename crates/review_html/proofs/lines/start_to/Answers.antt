use Rattle.std.proofs.Common.{length, sym, arith}
use Rattle.std.proofs.lemmas.List.{take_all}
use Rattle.review_html.proofs.lines.start_to.Goals as goal

pub returns-in-None : goal.returns-in-None
returns-in-None c = (length c.args.text.now, sym (take_all (length c.args.text.now) c.args.text.now (omega arith)))
