use Rattle.std.proofs.Common.{refl, not, sym, ◌∙◌, ap, subst}
use Rattle.std.specs.Cow.{cow_str_bytes}
use Rattle.std.specs.Str.{IsAscii}
use Rattle.yaml_definitions.specs.model.Core.{unsigned, int_value}
use Rattle.yaml_core.specs.State.{all_digits}
use Rattle.yaml_core.specs.Digits.{without_zeros}
use Rattle.yaml_core.specs.Values.{decimal_int}
use Rattle.yaml_core.proofs.IntLemmas.{are_all, digits_ascii, stripped_digits, judged, no_digits, some_digits, decimal_none, decimal_zero, decimal_digits, decimal_minus, decimal_whole, content_result}
use Rattle.yaml_core.proofs.int.decimal.Goals as goal

pub without_zeros-digits-requires : goal.without_zeros-digits-requires
without_zeros-digits-requires c = subst IsAscii (sym c.unsigned.ensures) (digits_ascii (unsigned c.args.text.now) (are_all 10 (unsigned c.args.text.now) c.requires))

pub number-requires-clause-digits : goal.number-requires-clause-digits
number-requires-clause-digits c =
    let e = c.as_bytes.ensures.value ∙ (c.without_zeros-digits.ensures ∙ ap without_zeros c.unsigned.ensures) in
    ap (all_digits 10) e ∙ stripped_digits (unsigned c.args.text.now) (are_all 10 (unsigned c.args.text.now) c.requires)

pub returns-then-is_none : goal.returns-then-is_none
returns-then-is_none c =
    let x = c.args.text.now in
    let d = c.without_zeros-digits.result.now in
    decimal_none x d c.number.result (judged x _ d _ _ _ c.number.result c.requires c.unsigned.ensures c.without_zeros-digits.ensures c.as_bytes.ensures.value c.is_negative-negative.ensures c.most.ensures c.number.ensures) (let e = c.is_none.ensures in let f = c.if-is_none.true in e ∙ ap not f)

pub returns-then-is_empty : goal.returns-then-is_empty
returns-then-is_empty c =
    let x = c.args.text.now in
    let d = c.without_zeros-digits.result.now in
    decimal_zero x d c.number.result (judged x _ d _ _ _ c.number.result c.requires c.unsigned.ensures c.without_zeros-digits.ensures c.as_bytes.ensures.value c.is_negative-negative.ensures c.most.ensures c.number.ensures) (let e = c.is_none.ensures in let f = c.if-is_none.false in e ∙ ap not f) (no_digits d (sym c.is_empty.ensures ∙ c.if-is_empty.true))

pub returns-then-not-negative : goal.returns-then-not-negative
returns-then-not-negative c =
    let x = c.args.text.now in
    let d = c.without_zeros-digits.result.now in
    decimal_digits x d c.number.result (judged x _ d _ _ _ c.number.result c.requires c.unsigned.ensures c.without_zeros-digits.ensures c.as_bytes.ensures.value c.is_negative-negative.ensures c.most.ensures c.number.ensures) (let e = c.is_none.ensures in let f = c.if-is_none.false in e ∙ ap not f) (some_digits d (sym c.is_empty.ensures ∙ c.if-is_empty.false)) (sym c.is_negative-negative.ensures ∙ c.if-not-negative.true)

pub returns-then-digits-text : goal.returns-then-digits-text
returns-then-digits-text c =
    let x = c.args.text.now in
    let d = c.without_zeros-digits.result.now in
    let n = sym c.is_negative-negative.ensures ∙ c.if-not-negative.false in
    decimal_minus x d x c.number.result (judged x _ d _ _ _ c.number.result c.requires c.unsigned.ensures c.without_zeros-digits.ensures c.as_bytes.ensures.value c.is_negative-negative.ensures c.most.ensures c.number.ensures) (let e = c.is_none.ensures in let f = c.if-is_none.false in e ∙ ap not f) (some_digits d (sym c.is_empty.ensures ∙ c.if-is_empty.false)) n (decimal_whole x d (c.without_zeros-digits.ensures ∙ ap without_zeros c.unsigned.ensures) n c.if-digits-text.true)

pub returns-else-digits-text : goal.returns-else-digits-text
returns-else-digits-text c =
    let x = c.args.text.now in
    let d = c.without_zeros-digits.result.now in
    content_result cow_str_bytes (int_value (decimal_int x)) _ c.minus.result
    (decimal_minus x d _ c.number.result (judged x _ d _ _ _ c.number.result c.requires c.unsigned.ensures c.without_zeros-digits.ensures c.as_bytes.ensures.value c.is_negative-negative.ensures c.most.ensures c.number.ensures) (let e = c.is_none.ensures in let f = c.if-is_none.false in e ∙ ap not f) (some_digits d (sym c.is_empty.ensures ∙ c.if-is_empty.false)) (sym c.is_negative-negative.ensures ∙ c.if-not-negative.false) refl) c.minus.ensures
