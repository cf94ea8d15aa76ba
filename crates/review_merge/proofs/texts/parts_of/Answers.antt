use Rattle.std.proofs.Common.{◌+◌, ◌<◌, length, ◌∙◌, ap, take, drop, arith}
use Rattle.std.specs.Prelude.{string_bytes}
use Rattle.std.specs.Option.{option_map}
use Rattle.review_merge.specs.Parts.{values_in}
use Rattle.review_merge.proofs.PartLaws.{values_from, values_to, values_end, parts_next, parts_end}
use Rattle.review_merge.proofs.texts.parts_of.Goals as goal

pub wholes-preserved : goal.wholes-preserved
wholes-preserved c =
    let xs = c.args.wholes.now in
    let i = c.wholes.at in
    let l : i < length xs = omega (arith, c.wholes-test.true) in
    let whole = c.index-wholes-at.result in
    let part = c.in_ok-part_behind.field-0 in
    parts_next (values_in xs) (values_in (take i xs)) (values_in (drop i xs)) (values_in (take (i + 1) xs)) (values_in (drop (i + 1) xs)) (values_in c.wholes.parts.items) (values_in c.push.new.self.items) (option_map string_bytes whole) (option_map string_bytes part) (values_from xs i _ whole l c.index-wholes-at.is) (values_to xs i _ whole l c.index-wholes-at.is) c.in_ok-part_behind.ensures.ok (ap values_in c.in_ok-push.ensures.items ∙ values_end c.wholes.parts.items part) c.wholes.invariant

pub returns : goal.returns
returns c = record { ok = (parts_end (values_in c.args.wholes.now) (values_in (take c.wholes.at c.args.wholes.now)) (values_in c.wholes.parts.items) _ c.args.wholes.now c.wholes.at (omega (arith, c.wholes-test.false)) c.wholes.invariant) }
