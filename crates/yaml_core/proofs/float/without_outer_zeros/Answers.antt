use Rattle.std.proofs.Common.{◌++◌, sym, ◌∙◌, ap, subst, length}
use Rattle.std.specs.Str.{IsAscii}
use Rattle.yaml_core.specs.Digits.{without_last_zeros}
use Rattle.yaml_core.proofs.IntLemmas.{no_digits, some_digits}
use Rattle.yaml_core.proofs.DecimalLemmas.{lead_none, lead_some_front, ascii_stripped}
use Rattle.yaml_core.proofs.float.without_outer_zeros.Goals as goal

pub without_end-requires-clause-part : goal.without_end-requires-clause-part
without_end-requires-clause-part c = subst IsAscii (sym c.without_zeros.ensures) (ascii_stripped c.args.part.now c.requires.part)

pub without_end-requires-else-is_empty-clause-whole :
    goal.without_end-requires-else-is_empty-clause-whole
without_end-requires-else-is_empty-clause-whole c = subst IsAscii (sym c.without_zeros-whole.ensures) (ascii_stripped c.args.whole.now c.requires.whole)

pub returns-then-is_empty-clause-digits : goal.returns-then-is_empty-clause-digits
returns-then-is_empty-clause-digits c =
    let n = sym c.without_zeros-whole.ensures ∙ no_digits c.without_zeros-whole.result.now (sym c.is_empty.ensures ∙ c.if-is_empty.true) in
    c.without_end.ensures.digits ∙ ap without_last_zeros (c.without_zeros.ensures ∙ sym (lead_none c.args.whole.now c.args.part.now n))

pub returns-then-is_empty-clause-len : goal.returns-then-is_empty-clause-len
returns-then-is_empty-clause-len c =
    let n = sym c.without_zeros-whole.ensures ∙ no_digits c.without_zeros-whole.result.now (sym c.is_empty.ensures ∙ c.if-is_empty.true) in
    c.without_end.ensures.len ∙ ap length (c.without_zeros.ensures ∙ sym (lead_none c.args.whole.now c.args.part.now n))

pub returns-else-is_empty-clause-digits : goal.returns-else-is_empty-clause-digits
returns-else-is_empty-clause-digits c =
    let e = c.without_zeros-whole.ensures in
    let s = some_digits c.without_zeros-whole.result.now (sym c.is_empty.ensures ∙ c.if-is_empty.false) in
    let f = lead_some_front c.args.whole.now c.args.part.now (λ q. s (e ∙ q)) in
    c.without_end-else-is_empty.ensures.digits ∙ ap without_last_zeros (ap (λ z. z ++ c.args.part.now) e ∙ sym f)

pub returns-else-is_empty-clause-len : goal.returns-else-is_empty-clause-len
returns-else-is_empty-clause-len c =
    let e = c.without_zeros-whole.ensures in
    let s = some_digits c.without_zeros-whole.result.now (sym c.is_empty.ensures ∙ c.if-is_empty.false) in
    let f = lead_some_front c.args.whole.now c.args.part.now (λ q. s (e ∙ q)) in
    c.without_end-else-is_empty.ensures.len ∙ ap length (ap (λ z. z ++ c.args.part.now) e ∙ sym f)
