use Rattle.std.proofs.Common.{◌++◌, ◌∙◌, ap}
use Rattle.std.specs.Prelude.{codes}
use Rattle.std.specs.String.{string_bytes}
use Rattle.review_formats.proofs.PieceLaws.{two_put}
use Rattle.review_html.specs.Sides.{title_text, side_begin, place_link, value_text}
use Rattle.review_html.proofs.sides.put_side.Goals as goal

pub returns : goal.returns
returns c = record {
  ok = (
      let side = c.args.side in
      let start = string_bytes c.args.out.now in
      let titled = string_bytes c.put_title.new.out in
      let placed = string_bytes c.put_place.new.out in
      let headed = string_bytes c.push_str.new.self in
      let valued = string_bytes c.put_value.new.out in
      let end = string_bytes c.push_str-2.new.self in
      let value = value_text c.args.value.now in
      let behind_head = value ++ codes "</div>\n" in
      let behind_place = codes "</h3>" ++ behind_head in
      two_put start titled end (side_begin (title_text side)) (place_link side c.args.place ++ behind_place) (c.in_ok-put_title.ensures.ok ∙ ap (λ z. start ++ side_begin z) c.title.ensures)
      (two_put titled placed end (place_link side c.args.place) behind_place c.in_ok-put_place.ensures.ok
      (two_put placed headed end (codes "</h3>") behind_head c.in_ok-push_str.ensures.bytes
      (two_put headed valued end value (codes "</div>\n") c.in_ok-put_value.ensures.ok c.in_ok-push_str-2.ensures.bytes))));
}
