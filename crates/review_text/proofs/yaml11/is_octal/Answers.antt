use Rattle.std.proofs.Common.{rules}
use Rattle.review_text.proofs.OctalLaws.{octal_is}
use Rattle.review_text.proofs.yaml11.is_octal.Goals as goal

pub returns-then-all_of : goal.returns-then-all_of
returns-then-all_of c = rw c.behind_all.ensures (octal_is c.args.text.now c.in-Some.rest.now (search rules) (search rules))
