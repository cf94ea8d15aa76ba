use Rattle.std.proofs.Common.{◌==◌, ◌++◌, ◌∙◌, ap, lit<}
use Rattle.std.specs.List.{flat_map, enumerate_from, slice_split}
use Rattle.std.specs.Prelude.{codes}
use Rattle.std.specs.String.{string_bytes}
use Rattle.std.proofs.lemmas.Iterator.Splits.{YieldsList-from_str_split}
use Rattle.std.proofs.lemmas.Iterator.Consumers.{YieldsList-end, YieldsList-from_enumerate}
use Rattle.review_formats.specs.Markdown.{code_part}
use Rattle.review_formats.proofs.PieceLaws.{two_put, yield_next}
use Rattle.review_formats.proofs.markdown.put_code.Goals as goal

pub parts-preserved : goal.parts-preserved
parts-preserved c = yield_next code_part (λ p. (p.0, p.1.now)) c.parts.yielded (c.in-Some.number, c.in-Some.part) _ _ _ c.parts.invariant c.in_ok-put_code_part.ensures.ok

pub returns : goal.returns
returns c = record {
  ok = (
      let t = YieldsList-end (YieldsList-from_enumerate (YieldsList-from_str_split 64 c.args.code.now (lit< tt) (cc) (cc) (cc)) (cc)) c.parts.yielded _ c.parts.yielded_by _ _ c.in-None.is c.next.ensures.steps in
      let start = string_bytes c.args.out.now in
      let begun = string_bytes c.push_str.new.self in
      let parts = flat_map code_part (enumerate_from 0 (slice_split (λ b. b == 64) c.args.code.now)) in
      two_put start begun (string_bytes c.push_str-2.new.self) (codes "<code>") (parts ++ codes "</code>") c.in_ok-push_str.ensures.bytes
      (two_put begun (string_bytes c.parts.out) (string_bytes c.push_str-2.new.self) parts (codes "</code>") (c.parts.invariant ∙ ap (λ z. begun ++ flat_map code_part z) t.0) c.in_ok-push_str-2.ensures.bytes));
}
