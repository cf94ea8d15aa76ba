use Rattle.std.proofs.Common.{◌∙◌, ap, lit<}
use Rattle.std.specs.List.{flat_map}
use Rattle.std.proofs.lemmas.Iterator.Splits.{YieldsList-from_str_split}
use Rattle.std.proofs.lemmas.Iterator.Consumers.{YieldsList-end}
use Rattle.review_formats.specs.Changes.{without_end}
use Rattle.review_html.specs.Lines.{line_parts}
use Rattle.review_html.proofs.TextLaws.{parts_step}
use Rattle.review_html.proofs.lines.split_lines.Goals as goal

pub lines-preserved : goal.lines-preserved
lines-preserved c = parts_step line_parts c.lines.yielded c.in-Some.line _ _ c.lines.invariant c.in_ok-add_parts.ensures.ok

pub returns : goal.returns
returns c = record {
  ok = (
      let t = YieldsList-end (YieldsList-from_str_split 10 (without_end c.args.content.now) (lit< tt) (cc) (cc) (cc)) c.lines.yielded _ c.lines.yielded_by _ _ c.in-None.is c.next.ensures.steps in
      c.lines.invariant ∙ ap (flat_map line_parts) t.0);
}
