use Rattle.std.proofs.Common.{◌+◌, ◌++◌, ◌∙◌, ap, drop, get_or, arith}
use Rattle.std.specs.Option.{option_map}
use Rattle.std.specs.List.{enumerate_from}
use Rattle.std.specs.String.{string_bytes}
use Rattle.review_merge.specs.Parts.{values_in}
use Rattle.review_merge.specs.Lines.{value_column}
use Rattle.review_merge.proofs.LineLaws.{flat_step, flat_done, values_next, values_end}
use Rattle.review_merge.proofs.lines.put_values.Goals as goal

pub texts-preserved : goal.texts-preserved
texts-preserved c =
    let texts = c.args.texts.now in
    let at = c.texts.number in
    let one = c.index-texts-number.result in
    flat_step value_column (enumerate_from at (values_in (drop at texts))) (enumerate_from (at + 1) (values_in (drop (at + 1) texts))) (at, option_map string_bytes (get_or texts at one)) (string_bytes c.texts.out) _ _ (values_next texts at one (omega (arith, c.texts-test.true))) c.texts.invariant
    (c.in_ok-put_column.ensures.ok ∙ ap (λ z. string_bytes c.texts.out ++ value_column (at, option_map string_bytes z)) c.index-texts-number.is)

pub returns : goal.returns
returns c = record { ok = (flat_done value_column _ _ _ (values_end c.args.texts.now c.texts.number (omega (arith, c.texts-test.false))) c.texts.invariant) }
