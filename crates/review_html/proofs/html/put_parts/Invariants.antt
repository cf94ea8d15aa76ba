use Rattle.std.proofs.Common.{◌+◌, drop}
use Rattle.std.specs.String.{string_bytes}
use Rattle.review_html.specs.Html.{numbered, IsPartText}
use Rattle.review_html.proofs.TextLaws.{GoesOn}
use Rattle.review_html.proofs.html.put_parts.Given as goal

abbrev pub invariant-parts : goal.invariant-parts
invariant-parts l = GoesOn IsPartText (numbered 1 0 l.parts) (string_bytes l.fn.out) (numbered (l.at + 1) l.before (drop l.at l.parts)) (string_bytes l.out)
