use Rattle.yaml_text.specs.Source.{text_of}
use Rattle.yaml_scalar.proofs.HeaderLemmas.{sign_none, sign_minus, sign_plus, no_sign}
use Rattle.yaml_scalar.proofs.block.header.read_sign.Goals as goal

pub returns-in-Some-clause-sign : goal.returns-in-Some-clause-sign
returns-in-Some-clause-sign c = let s = c.in-Some.ensures.some in sign_minus (text_of c.args.source.now) _ _ s.is s.next

pub returns-in-Some-accept-clause-sign : goal.returns-in-Some-accept-clause-sign
returns-in-Some-accept-clause-sign c = let s = c.in-Some-accept.ensures.some in sign_plus (text_of c.args.source.now) _ _ s.is s.next

pub returns-in-None-accept-clause-sign : goal.returns-in-None-accept-clause-sign
returns-in-None-accept-clause-sign c = sign_none (text_of c.args.source.now) _

pub returns-in-None-accept-clause-none : goal.returns-in-None-accept-clause-none
returns-in-None-accept-clause-none c = λ e. no_sign (text_of c.args.source.now) _ c.in-None.ensures.none c.in-None-accept.ensures.none
