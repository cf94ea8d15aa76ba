use Rattle.std.proofs.Common.{◌≡◌, ◌++◌, drop}
use Rattle.std.specs.List.{flat_map}
use Rattle.std.specs.String.{string_bytes}
use Rattle.review_formats.specs.Markdown.{changes_text}
use Rattle.review_formats.proofs.markdown.put_all_changes.Given as goal

abbrev pub invariant-findings : goal.invariant-findings
invariant-findings l = string_bytes l.out ++ flat_map changes_text (drop l.finding-index l.list) ≡ string_bytes l.fn.out ++ flat_map changes_text l.list
