use Rattle.std.proofs.Common.{ℕ, List, ◌++◌, Bor, refl, sym, subst, length}
use Rattle.std.specs.Option.{option_map}
use Rattle.std.specs.Cow.{cow_str_bytes}
use Rattle.yaml_definitions.specs.model.Core.{is_negative, exponent_of, decimal_of, signed}
use Rattle.yaml_core.specs.CoreAnswer.{IsDecimalContent}
use Rattle.yaml_core.specs.Decimal.{float_text}
use Rattle.yaml_core.proofs.IntLemmas.{digits_ascii}
use Rattle.yaml_core.proofs.DecimalLemmas.{decimal_reads, decimal_nothing, decimal_some, decimal_far, decimal_result}
use Rattle.yaml_core.proofs.float.decimal.Goals as goal

pub without_outer_zeros-digits-requires-clause-whole : goal.without_outer_zeros-digits-requires-clause-whole
without_outer_zeros-digits-requires-clause-whole c =
    let x = c.args.text.now in
    let parts = c.take_apart-parts.result in
    let y = option_map (λ (s : Bor (List ℕ)). s.now) parts.exponent in
    let r = decimal_reads x parts.whole.now parts.part.now y c.take_apart-parts.ensures c.requires in
    digits_ascii parts.whole.now r.whole

pub without_outer_zeros-digits-requires-clause-part : goal.without_outer_zeros-digits-requires-clause-part
without_outer_zeros-digits-requires-clause-part c =
    let x = c.args.text.now in
    let parts = c.take_apart-parts.result in
    let y = option_map (λ (s : Bor (List ℕ)). s.now) parts.exponent in
    let r = decimal_reads x parts.whole.now parts.part.now y c.take_apart-parts.ensures c.requires in
    digits_ascii parts.part.now r.part

pub returns-then-digits-eq0 : goal.returns-then-digits-eq0
returns-then-digits-eq0 c =
    let x = c.args.text.now in
    let parts = c.take_apart-parts.result in
    let y = option_map (λ (s : Bor (List ℕ)). s.now) parts.exponent in
    let r = decimal_reads x parts.whole.now parts.part.now y c.take_apart-parts.ensures c.requires in
    decimal_nothing (is_negative x) parts.whole.now parts.part.now (exponent_of y) (decimal_of x) c.without_outer_zeros-digits.result.len r c.without_outer_zeros-digits.ensures.len c.if-digits-eq0.true

pub scale-requires-clause-some : goal.scale-requires-clause-some
scale-requires-clause-some c =
    let x = c.args.text.now in
    let parts = c.take_apart-parts.result in
    let y = option_map (λ (s : Bor (List ℕ)). s.now) parts.exponent in
    let r = decimal_reads x parts.whole.now parts.part.now y c.take_apart-parts.ensures c.requires in
    r.some

pub returns-in-None : goal.returns-in-None
returns-in-None c =
    let x = c.args.text.now in
    let parts = c.take_apart-parts.result in
    let y = option_map (λ (s : Bor (List ℕ)). s.now) parts.exponent in
    let r = decimal_reads x parts.whole.now parts.part.now y c.take_apart-parts.ensures c.requires in
    let d = c.without_outer_zeros-digits in
    decimal_far (is_negative x) parts.whole.now parts.part.now (exponent_of y) (decimal_of x) d.result.len (length parts.part.now) r d.ensures.len refl c.if-digits-eq0.false c.in-None.ensures

pub returns-in-Some : goal.returns-in-Some
returns-in-Some c =
    let x = c.args.text.now in
    let parts = c.take_apart-parts.result in
    let y = option_map (λ (s : Bor (List ℕ)). s.now) parts.exponent in
    let r = decimal_reads x parts.whole.now parts.part.now y c.take_apart-parts.ensures c.requires in
    let d = c.without_outer_zeros-digits in
    let e = c.in-Some.exponent in
    let t = decimal_some (is_negative x) parts.whole.now parts.part.now (d.result.whole.now ++ d.result.part.now) (exponent_of y) (decimal_of x) d.result.len (length parts.part.now) e.negative e.size r d.ensures.len refl c.if-digits-eq0.false d.ensures.digits c.in-Some.ensures in
    decimal_result cow_str_bytes (decimal_of x) (float_text c.is_negative.result (d.result.whole.now ++ d.result.part.now) (signed e.negative e.size)) c.written.result
    (subst (λ b. IsDecimalContent (decimal_of x) (float_text b (d.result.whole.now ++ d.result.part.now) (signed e.negative e.size))) (sym c.is_negative.ensures) t) c.written.ensures
