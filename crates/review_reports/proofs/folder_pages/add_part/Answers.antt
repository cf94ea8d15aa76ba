use Rattle.std.proofs.Common.{◌<◌, length, Some, [], ◌∷◌, inr, refl, ap, arith}
use Rattle.review_formats.specs.declared.finding.Part.{Part}
use Rattle.review_reports.proofs.folder_pages.add_part.Goals as goal

pub returns : goal.returns
returns c = record {
  ok = (
      let found = c.args.part in
      let part : Part = record { name = Some c.in_ok-to_string.field-0; list = found.list; shown = found.shown; left_out = found.left_out } in
      let some : 0 < length found.list.items = omega (arith, c.len.ensures, found.list.ok.0, c.if-len-eq0.false) in
      (part ∷ [], inr (part, some, record { named = ap Some c.in_ok-to_string.ensures.ok; list = refl; shown = refl; left_out = refl }, refl), c.in_ok-push.ensures.items));
}
