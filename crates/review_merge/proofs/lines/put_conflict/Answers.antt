use Rattle.std.proofs.Common.{◌∙◌, ap, sym, subst}
use Rattle.yaml_diff.specs.Lines.{way_of}
use Rattle.review_text.specs.PathText.{path_text}
use Rattle.review_merge.specs.Parts.{values_in, ShowsValues}
use Rattle.review_merge.specs.Lines.{nodes_of}
use Rattle.review_merge.proofs.LineLaws.{styled_put}
use Rattle.review_merge.proofs.lines.put_conflict.Goals as goal

pub returns : goal.returns
returns c = record {
  ok = (
      let g = c.args.forests.now in
      let style = c.args.style.now in
      let one = c.args.one.1.now in
      styled_put g style c.args.one.0 one c.args.budget.now.bytes c.values_of.new.budget.bytes c.put_line.result _ _ _ _
      (c.deref.ensures ∙ c.in_ok-path.ensures.ok ∙ ap (λ z. path_text style.numbered (way_of g z)) c.requires.steps)
      (subst (λ z. ShowsValues g (nodes_of style.given one.sides) c.args.budget.now.bytes c.values_of.new.budget.bytes (values_in z) style.print.whole) (sym c.deref-2.ensures.value) c.in_ok-values.ensures.ok) c.put_line.ensures.ok);
}
