use Rattle.std.proofs.Common.{◌++◌, ◌∙◌, ap, arith}
use Rattle.std.specs.String.{string_bytes}
use Rattle.review_formats.specs.Markdown.{row_text}
use Rattle.review_formats.proofs.PieceLaws.{flat_next, flat_all}
use Rattle.review_formats.proofs.markdown.put_rows.Goals as goal

pub rows-preserved : goal.rows-preserved
rows-preserved c = flat_next (row_text c.args.sides) c.args.list.now c.rows.finding-index _ _ _ _ (omega (arith, c.rows-test.true)) c.rows.invariant (c.in_ok-put_row.ensures.ok ∙ ap (λ z. string_bytes c.rows.out ++ row_text c.args.sides z) c.finding-item.is)

pub returns : goal.returns
returns c = record { ok = (flat_all (row_text c.args.sides) c.args.list.now c.rows.finding-index _ _ (omega (arith, c.rows-test.false)) c.rows.invariant) }
