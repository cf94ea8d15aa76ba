use Rattle.std.proofs.Common.{◌++◌, ◌∙◌, ap, lit<}
use Rattle.std.specs.List.{flat_map}
use Rattle.std.specs.String.{string_bytes}
use Rattle.std.proofs.lemmas.Iterator.Splits.{YieldsList-from_str_split}
use Rattle.std.proofs.lemmas.Iterator.Consumers.{YieldsList-end}
use Rattle.review_formats.specs.Changes.{without_end}
use Rattle.review_html.specs.Sides.{line_text}
use Rattle.review_formats.proofs.PieceLaws.{yield_next}
use Rattle.review_html.proofs.sides.put_lines.Goals as goal

pub lines-preserved : goal.lines-preserved
lines-preserved c = yield_next line_text (λ line. line.now) c.lines.yielded c.in-Some.line _ _ _ c.lines.invariant c.in_ok-put_line.ensures.ok

pub returns : goal.returns
returns c = record {
  ok = (
      let t = YieldsList-end (YieldsList-from_str_split 10 (without_end c.args.changes.now) (lit< tt) (cc) (cc) (cc)) c.lines.yielded _ c.lines.yielded_by _ _ c.in-None.is c.next.ensures.steps in
      c.lines.invariant ∙ ap (λ z. string_bytes c.args.out.now ++ flat_map line_text z) t.0);
}
