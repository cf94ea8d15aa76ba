use Rattle.std.proofs.Common.{◌++◌, sym, ◌∙◌, ap, subst, append-nil}
use Rattle.std.specs.Str.{IsAscii}
use Rattle.yaml_core.proofs.IntLemmas.{no_digits, some_digits}
use Rattle.yaml_core.proofs.DecimalLemmas.{last_none_front, last_some_front, ascii_last}
use Rattle.yaml_core.proofs.float.without_end.Goals as goal

pub invariant_of-result-clause-ascii : goal.invariant_of-result-clause-ascii
invariant_of-result-clause-ascii c =
    (subst IsAscii (sym c.without_last_zeros-whole.ensures) (ascii_last c.args.whole.now c.requires.whole), subst IsAscii (sym c.without_last_zeros-last.ensures) (ascii_last c.args.part.now c.requires.part))

pub returns-then-is_empty-clause-digits : goal.returns-then-is_empty-clause-digits
returns-then-is_empty-clause-digits c =
    let l = c.without_last_zeros-last.result.now in
    let n = no_digits l (sym c.is_empty.ensures ∙ c.if-is_empty.true) in
    ap (λ z. c.without_last_zeros-whole.result.now ++ z) n
    ∙ (append-nil c.without_last_zeros-whole.result.now ∙ (c.without_last_zeros-whole.ensures ∙ sym (last_none_front c.args.whole.now c.args.part.now (sym c.without_last_zeros-last.ensures ∙ n))))

pub invariant_of-result-2-clause-ascii : goal.invariant_of-result-2-clause-ascii
invariant_of-result-2-clause-ascii c = (c.requires.whole, subst IsAscii (sym c.without_last_zeros-last.ensures) (ascii_last c.args.part.now c.requires.part))

pub returns-clause-digits : goal.returns-clause-digits
returns-clause-digits c =
    let e = c.without_last_zeros-last.ensures in
    let s = some_digits c.without_last_zeros-last.result.now (sym c.is_empty.ensures ∙ c.if-is_empty.false) in
    ap (λ z. c.args.whole.now ++ z) e ∙ sym (last_some_front c.args.whole.now c.args.part.now (λ q. s (e ∙ q)))
