use Rattle.std.proofs.Common.{◌++◌}
use Rattle.std.specs.List.{flat_map}
use Rattle.std.specs.Prelude.{codes}
use Rattle.std.specs.String.{string_bytes}
use Rattle.review_formats.specs.Changes.{changed_lines}
use Rattle.review_formats.proofs.PieceLaws.{two_put}
use Rattle.review_html.specs.Sides.{line_text}
use Rattle.review_html.proofs.sides.put_changes.Goals as goal

pub returns : goal.returns
returns c = record {
  ok = (
      let begun = string_bytes c.push_str.new.self in
      let end = string_bytes c.push_str-2.new.self in
      let lines = flat_map line_text (changed_lines c.args.changes.now) in
      two_put (string_bytes c.args.out.now) begun end (codes "<pre class=\"changes\">") (lines ++ codes "</pre>\n") c.in_ok-push_str.ensures.bytes
      (two_put begun (string_bytes c.put_lines.new.out) end lines (codes "</pre>\n") c.in_ok-put_lines.ensures.ok c.in_ok-push_str-2.ensures.bytes));
}
