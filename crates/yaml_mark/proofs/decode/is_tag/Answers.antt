use Rattle.std.proofs.Common.{arith}
use Rattle.std.proofs.lemmas.Bool.Decides.{nat_tests}
use Rattle.yaml_mark.proofs.DecodeLemmas.{full_is}
use Rattle.yaml_mark.proofs.decode.is_tag.Goals as goal

pub returns : goal.returns
returns c = full_is c.args.text.now c.ne.result c.utf8.text (grind (arith, nat_tests, c.is_empty.ensures, c.if-is_empty.false)) (omega (arith, c.if-text-longest.false, c.tag_limit-longest.ensures)) c.ne.ensures
