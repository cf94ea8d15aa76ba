use Rattle.std.proofs.Common.{◌++◌, ◌∙◌, ap, map, lit<}
use Rattle.std.proofs.lemmas.Iterator.Splits.{YieldsList-from_str_split}
use Rattle.std.proofs.lemmas.Iterator.Consumers.{YieldsList-end}
use Rattle.review_formats.specs.Changes.{without_last}
use Rattle.review_html.proofs.TextLaws.{push_step}
use Rattle.review_html.proofs.lines.add_parts.Goals as goal

pub parts-preserved : goal.parts-preserved
parts-preserved c = push_step c.parts.lines.items c.push.new.self.items c.args.lines.now.items c.parts.yielded c.in-Some.part c.parts.invariant c.in_ok-push.ensures.items

pub returns : goal.returns
returns c = record {
  ok = (
      let t = YieldsList-end (YieldsList-from_str_split 13 (without_last 13 c.args.line.now) (lit< tt) (cc) (cc) (cc)) c.parts.yielded _ c.parts.yielded_by _ _ c.in-None.is c.next.ensures.steps in
      c.parts.invariant ∙ ap (λ z. map (λ one. one.now) c.args.lines.now.items ++ z) t.0);
}
