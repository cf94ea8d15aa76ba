use Rattle.std.specs.Prelude.{codes}
use Rattle.std.specs.String.{string_bytes}
use Rattle.review_formats.proofs.PieceLaws.{three_put}
use Rattle.review_html.specs.Headings.{class_text, heading_text, link_begin}
use Rattle.review_html.proofs.heading.put_link.Goals as goal

pub returns : goal.returns
returns c = record {
  ok = (
      let one = c.args.finding.now in
      three_put (string_bytes c.args.out.now) (string_bytes c.put_pieces.new.out) (string_bytes c.put_heading.new.out) (string_bytes c.push_str.new.self) (link_begin c.args.number (class_text one)) (heading_text one) (codes "</a></li>\n")
      (rw c.class_of.ensures at c.in_ok-put_pieces.ensures.ok) c.in_ok-put_heading.ensures.ok c.in_ok-push_str.ensures.bytes);
}
