use Rattle.std.proofs.Common.{arith}
use Rattle.std.specs.Char.{encode_utf8}
use Rattle.yaml_definitions.specs.canonical.CharText.{spell_char}
use Rattle.yaml_scalar.proofs.OutcomeLemmas.{if_ok}
use Rattle.yaml_scalar.proofs.SpellingLemmas.{code_low, code_spells}
use Rattle.yaml_scalar.proofs.spell.push_escape.Goals as goal

pub push_code-requires : goal.push_code-requires
push_code-requires c = rw c.from.ensures (code_low c.args.c c.ranges.c.0 c.requires (λ e. omega arith) (λ e. omega arith))

pub returns-in-34-clause-ok : goal.returns-in-34-clause-ok
unfolding spell_char encode_utf8
returns-in-34-clause-ok c = rw c.in-34.is (if_ok c.push_str.result _ _ _ c.push_str.ensures.bytes)

pub returns-in-92-clause-ok : goal.returns-in-92-clause-ok
unfolding spell_char encode_utf8
returns-in-92-clause-ok c = rw c.in-92.is (if_ok c.push_str-in-92.result _ _ _ c.push_str-in-92.ensures.bytes)

pub returns-in-10-clause-ok : goal.returns-in-10-clause-ok
unfolding spell_char encode_utf8
returns-in-10-clause-ok c = rw c.in-10.is (if_ok c.push_str-in-10.result _ _ _ c.push_str-in-10.ensures.bytes)

pub returns-in-9-clause-ok : goal.returns-in-9-clause-ok
unfolding spell_char encode_utf8
returns-in-9-clause-ok c = rw c.in-9.is (if_ok c.push_str-in-9.result _ _ _ c.push_str-in-9.ensures.bytes)

pub returns-in_default-clause-ok : goal.returns-in_default-clause-ok
returns-in_default-clause-ok c =
    let s = code_spells c.args.c c.requires (λ e. omega arith) (λ e. omega arith) (λ e. omega arith) (λ e. omega arith) in
    rw s (rw c.from.ensures at c.push_code.ensures.ok)
