use Rattle.std.proofs.Common.{◌≡◌, ◌<◌, [], ◌∷◌, ◌++◌, None, inr, refl, ◌∙◌, ap, subst, arith, string_bytes}
use Rattle.std.proofs.lemmas.Result.{IfOk-weaker}
use Rattle.review_reports.specs.Parts.{IsPartsText}
use Rattle.review_formats.specs.declared.finding.Part.{Part}
use Rattle.review_command.specs.Diffs.{IsFilePart, IsFilePage}
use Rattle.review_command.proofs.diff.listed_text.Goals as goal

pub returns : goal.returns
returns c = record {
  ok = (
      let asked = c.args.asked.now in
      let part : Part = record { name = None; list = c.in_ok-list_found.field-0; shown = c.in_ok-lines_shown.field-0; left_out = c.args.listed.now.left_out } in
      let parts : c.push.new.self.items ≡ part ∷ [] = c.in_ok-push.ensures.items ∙ ap (λ z. z ++ (part ∷ [])) c.new-parts.ensures.items in
      let some : 0 < asked.lines = omega (arith, c.if-asked-eq0.false) in
      let is : IsFilePart asked c.args.page c.args.left.now c.args.right.now c.args.listed.now part = record { unnamed = refl; list = c.in_ok-list_found.ensures.ok; shown = c.in_ok-lines_shown.ensures.ok; left_out = refl } in
      IfOk-weaker c.parts_text.result (λ text. IsPartsText asked.left.now asked.right.now c.args.page c.push.new.self.items (string_bytes text)) (λ text. IsFilePage asked c.args.page c.args.left.now c.args.right.now c.args.listed.now (string_bytes text))
      (λ text h. inr (some, (part, is, subst (λ z. IsPartsText asked.left.now asked.right.now c.args.page z (string_bytes text)) parts h))) c.parts_text.ensures.ok);
}
