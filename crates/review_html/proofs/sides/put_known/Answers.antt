use Rattle.std.proofs.Common.{◌++◌}
use Rattle.std.specs.Fmt.{decimal}
use Rattle.std.specs.Prelude.{codes}
use Rattle.std.specs.String.{string_bytes}
use Rattle.review_formats.proofs.PieceLaws.{then_ok}
use Rattle.review_html.specs.Sides.{line_id}
use Rattle.review_html.proofs.sides.put_known.Goals as goal

pub returns : goal.returns
returns c = record {
  ok = (
      let place = c.args.place in
      let begun = string_bytes c.push_str.new.self in
      let end = string_bytes c.put_pieces.new.out in
      let shown = codes "\">" ++ (decimal place.line ++ (codes ":" ++ (decimal place.column ++ codes "</a>"))) in
      then_ok c.put_pieces.result (string_bytes c.args.out.now) begun end (codes " <a href=\"#") (line_id c.args.side place.line ++ shown) c.in_ok-push_str.ensures.bytes
      (then_ok c.put_pieces.result begun (string_bytes c.put_line_id.new.out) end (line_id c.args.side place.line) shown c.in_ok-put_line_id.ensures.ok c.put_pieces.ensures.ok));
}
