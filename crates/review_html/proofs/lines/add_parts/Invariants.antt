use Rattle.std.proofs.Common.{◌≡◌, ◌++◌, map}
use Rattle.review_html.proofs.lines.add_parts.Given as goal

abbrev pub invariant-parts : goal.invariant-parts
invariant-parts l = map (λ one. one.now) l.lines.items ≡ map (λ one. one.now) l.fn.lines.items ++ map (λ one. one.now) l.yielded
