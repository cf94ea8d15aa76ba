use Rattle.std.specs.Prelude.{codes}
use Rattle.std.specs.String.{string_bytes}
use Rattle.review_formats.proofs.PieceLaws.{four_put}
use Rattle.review_html.specs.Sides.{side_text, left_of, right_of}
use Rattle.review_html.proofs.sides.put_both.Goals as goal

pub returns : goal.returns
returns c = record {
  ok = (
      let sides = c.args.sides.now in
      four_put (string_bytes c.args.out.now) (string_bytes c.push_str.new.self) (string_bytes c.put_side.new.out) (string_bytes c.put_side-2.new.out) (string_bytes c.push_str-2.new.self)
      (codes "<div class=\"both\">\n") (side_text (left_of c.args.part) sides.left_place sides.left) (side_text (right_of c.args.part) sides.right_place sides.right) (codes "</div>\n")
      c.in_ok-push_str.ensures.bytes (rw c.left_of.ensures at c.in_ok-put_side.ensures.ok) (rw c.right_of.ensures at c.in_ok-put_side-2.ensures.ok) c.in_ok-push_str-2.ensures.bytes);
}
