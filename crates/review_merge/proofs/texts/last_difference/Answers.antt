use Rattle.std.proofs.Common.{◌+◌, ◌∙◌, max, take, ap, arith}
use Rattle.std.specs.Prelude.{string_bytes}
use Rattle.std.specs.Option.{option_map}
use Rattle.review_merge.specs.Parts.{values_in}
use Rattle.review_merge.proofs.PartLaws.{last_next, values_to}
use Rattle.review_merge.proofs.texts.last_difference.Goals as goal

pub wholes-preserved : goal.wholes-preserved
wholes-preserved c =
    let xs = c.args.wholes.now in
    let i = c.wholes.whole-index in
    let whole = c.whole-item.result in
    last_next c.args.text.now (values_in (take i xs)) (values_in (take (i + 1) xs)) (option_map string_bytes whole) c.wholes.last c.later-last.result (values_to xs i _ whole (omega (arith, c.wholes-test.true)) c.whole-item.is) (c.later-last.ensures ∙ ap (max c.wholes.last) c.common_with.ensures) c.wholes.invariant
