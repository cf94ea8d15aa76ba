use Rattle.std.proofs.Common.{◌≡◌, ◌++◌, drop}
use Rattle.std.specs.List.{flat_map}
use Rattle.std.specs.String.{string_bytes}
use Rattle.review_formats.specs.Markdown.{part_text}
use Rattle.review_formats.proofs.markdown.put_parts.Given as goal

abbrev pub invariant-parts : goal.invariant-parts
invariant-parts l = string_bytes l.out ++ flat_map part_text (drop l.part-index l.parts) ≡ string_bytes l.fn.out ++ flat_map part_text l.parts
