use Rattle.std.proofs.Common.{◌≡◌, ◌<◌, ℕ, zero, suc, ◌++◌, refl, arith}
use Rattle.std.specs.Fmt.{decimal}
use Rattle.std.specs.Prelude.{codes}
use Rattle.review_html.specs.Lines.{line_link}
use Rattle.review_html.proofs.lines.put_link.Goals as goal

link_known : (mark : ℕ) → 0 < mark → line_link mark ≡ codes "<a href=\"#d" ++ (decimal mark ++ codes "\" title=\"to what differs here\">")
link_known zero l = absurd (omega (arith, l))
link_known (suc n) l = refl

pub returns-then-mark-gt0 : goal.returns-then-mark-gt0
returns-then-mark-gt0 c = record { ok = (rw (link_known c.args.mark (omega (arith, c.if-mark-gt0.true))) c.put_pieces.ensures.ok) }
