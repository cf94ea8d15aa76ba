use Rattle.std.proofs.Common.{arith, refl}
use Rattle.yaml_text.specs.Source.{text_of}
use Rattle.yaml_scalar.proofs.HeaderLemmas.{digit_none, digit_some}
use Rattle.yaml_scalar.proofs.block.header.read_digit.Goals as goal

pub returns-in-None-clause-digit : goal.returns-in-None-clause-digit
returns-in-None-clause-digit c = digit_none (text_of c.args.source.now) _

pub returns-then-c-le57-clause-digit : goal.returns-then-c-le57-clause-digit
returns-then-c-le57-clause-digit c =
    let s = c.in-Some.ensures.some in
    digit_some (text_of c.args.source.now) _ _ _ _ s.is (grind arith) s.next refl

pub returns-else-c-ge49-clause-digit : goal.returns-else-c-ge49-clause-digit
returns-else-c-ge49-clause-digit c = digit_none (text_of c.args.source.now) _
