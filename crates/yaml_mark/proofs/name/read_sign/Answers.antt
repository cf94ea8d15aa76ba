use Rattle.std.proofs.Common.{inl, inr, refl}
use Rattle.yaml_text.specs.Source.{text_of}
use Rattle.yaml_mark.proofs.NameLemmas.{sign_char, no_sign}
use Rattle.yaml_mark.proofs.name.read_sign.Goals as goal

pub returns-in-Some-clause-some : goal.returns-in-Some-clause-some
returns-in-Some-clause-some c = let s = c.in-Some.ensures.some in sign_char (text_of c.args.source.now) _ _ _ (inl refl) s.is s.next

pub returns-in-Some-accept-clause-some : goal.returns-in-Some-accept-clause-some
returns-in-Some-accept-clause-some c = let s = c.in-Some-accept.ensures.some in sign_char (text_of c.args.source.now) _ _ _ (inr refl) s.is s.next

pub returns-in-None-accept-clause-none : goal.returns-in-None-accept-clause-none
returns-in-None-accept-clause-none c = no_sign (text_of c.args.source.now) _ c.in-None.ensures.none c.in-None-accept.ensures.none
