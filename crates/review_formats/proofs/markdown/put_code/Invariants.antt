use Rattle.std.proofs.Common.{◌≡◌, ◌++◌, map}
use Rattle.std.specs.List.{flat_map}
use Rattle.std.specs.String.{string_bytes}
use Rattle.review_formats.specs.Markdown.{code_part}
use Rattle.review_formats.proofs.markdown.put_code.Given as goal

abbrev pub invariant-parts : goal.invariant-parts
invariant-parts l = string_bytes l.out ≡ string_bytes l.initial.out ++ flat_map code_part (map (λ p. (p.0, p.1.now)) l.yielded)
