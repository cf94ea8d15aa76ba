use Rattle.std.proofs.Common.{length, ◌∙◌, ap, sym, arith}
use Rattle.yaml_scalar.proofs.SpellingLemmas.{code_low, code_spells, verbatim_bytes}
use Rattle.yaml_scalar.proofs.spell.spelled_char.Goals as goal

pub returns-then-is_verbatim-clause-text : goal.returns-then-is_verbatim-clause-text
returns-then-is_verbatim-clause-text c = c.itself.ensures.text ∙ sym (verbatim_bytes c.args.c (sym c.if-is_verbatim.ensures))

pub returns-then-is_verbatim-clause-len : goal.returns-then-is_verbatim-clause-len
returns-then-is_verbatim-clause-len c = c.itself.ensures.len ∙ ap length (sym (verbatim_bytes c.args.c (sym c.if-is_verbatim.ensures)))

pub escape-requires : goal.escape-requires
escape-requires c = rw c.from.ensures (code_low c.args.c c.ranges.c.0 (sym c.if-is_verbatim.ensures) (λ e. omega arith) (λ e. omega arith))

pub returns-in_default-clause-text : goal.returns-in_default-clause-text
returns-in_default-clause-text c =
    let s = code_spells c.args.c (sym c.if-is_verbatim.ensures) (λ e. omega arith) (λ e. omega arith) (λ e. omega arith) (λ e. omega arith) in
    rw s (rw c.from.ensures at c.escape.ensures.text)

pub returns-in_default-clause-len : goal.returns-in_default-clause-len
returns-in_default-clause-len c =
    let s = code_spells c.args.c (sym c.if-is_verbatim.ensures) (λ e. omega arith) (λ e. omega arith) (λ e. omega arith) (λ e. omega arith) in
    rw s (rw c.from.ensures at c.escape.ensures.len)
