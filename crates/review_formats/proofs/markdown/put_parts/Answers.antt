use Rattle.std.proofs.Common.{◌++◌, ◌∙◌, ap, arith}
use Rattle.std.specs.String.{string_bytes}
use Rattle.review_formats.specs.Markdown.{part_text}
use Rattle.review_formats.proofs.PieceLaws.{flat_next, flat_all}
use Rattle.review_formats.proofs.markdown.put_parts.Goals as goal

pub parts-preserved : goal.parts-preserved
parts-preserved c = flat_next part_text c.args.parts.now c.parts.part-index _ _ _ _ (omega (arith, c.parts-test.true)) c.parts.invariant (c.in_ok-put_part.ensures.ok ∙ ap (λ z. string_bytes c.parts.out ++ part_text z) c.part-item.is)

pub returns : goal.returns
returns c = record { ok = (flat_all part_text c.args.parts.now c.parts.part-index _ _ (omega (arith, c.parts-test.false)) c.parts.invariant) }
