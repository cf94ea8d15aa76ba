use Rattle.std.proofs.Common.{◌≡◌, arith}
use Rattle.yaml_path.specs.LineModel.{breaks}
use Rattle.yaml_path.proofs.StretchLaws.{breaks-few, chars-few, same-line}
use Rattle.yaml_path.proofs.place.place_after.Goals as goal

pub overflow_add-result : goal.overflow_add-result
overflow_add-result c =
    let p = c.requires.place in
    omega (arith, p.column, p.counted, chars-few c.args.text.now p.start p.count, c.chars_between.ensures.few)

pub returns-then-breaks-eq0 : goal.returns-then-breaks-eq0
returns-then-breaks-eq0 c =
    let e : breaks c.args.text.now c.args.to ≡ breaks c.args.text.now c.args.from = omega (arith, c.breaks_between-breaks.ensures.counted, c.if-breaks-eq0.true) in
    same-line c.args.text.now c.args.from c.args.to _ _ c.chars_between.result c.requires.ahead c.requires.place e c.chars_between.ensures.counted

pub overflow_add-result-2 : goal.overflow_add-result-2
overflow_add-result-2 c = omega (arith, c.requires.place.line, breaks-few c.args.text.now c.args.to, c.breaks_between-breaks.ensures.counted)
