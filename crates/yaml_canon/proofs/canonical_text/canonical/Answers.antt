use Rattle.std.specs.String.{string_bytes}
use Rattle.yaml_spell.proofs.PieceLaws.{if_err}
use Rattle.yaml_canon.specs.Claims.{IsCanonicalText}
use Rattle.std.proofs.Common.{sym, subst}
use Rattle.yaml_canon.proofs.AcceptLaws.{accepted-answer, accepted-spelling}
use Rattle.yaml_canon.proofs.TargetLaws.{if_is, never_broken}
use Rattle.yaml_canon.proofs.canonical_text.canonical.Goals as goal

pub returns-clause-text : goal.returns-clause-text
returns-clause-text c = if_is c.spell_stream.result c.spell_stream.ensures.ok (λ text p. subst (IsCanonicalText c.args.bytes.now) (sym p.put) p.canonical)

pub returns-clause-refused : goal.returns-clause-refused
returns-clause-refused c = if_err c.spell_stream.result c.spell_stream.ensures.err (λ fault h. never_broken c.args.bytes.now _ _ fault h)

-- ---- what is accepted

pub returns-clause-accepts : goal.returns-clause-accepts
returns-clause-accepts c =
    accepted-answer string_bytes c.args.bytes.now c.spell_stream.result (returns-clause-text c) (returns-clause-refused c)

pub returns-clause-spelling : goal.returns-clause-spelling
returns-clause-spelling c =
    accepted-spelling string_bytes c.args.bytes.now c.spell_stream.result (returns-clause-accepts c)
