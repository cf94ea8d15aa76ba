use Rattle.std.proofs.Common.{◌≡◌, ℕ, List, ◌++◌, codes, string_bytes, ◌∙◌, ap, append_assoc}
use Rattle.review_formats.specs.Findings.{sides_says}
use Rattle.review_formats.specs.Markdown.{cell_text, place_cell}
use Rattle.review_formats.proofs.markdown.put_difference.Goals as goal

then_more : (o x y p q : List ℕ) → x ≡ o ++ p → y ≡ x ++ q → y ≡ o ++ (p ++ q)
then_more o x y p q e h = h ∙ ap (λ z. z ++ q) e ∙ append_assoc o p q

-- nine pieces, one behind the other
nine_put : (o a b d e f g h i j x1 x2 x3 x4 x5 x6 x7 x8 x9 : List ℕ) → x1 ≡ o ++ a → x2 ≡ x1 ++ b → x3 ≡ x2 ++ d → x4 ≡ x3 ++ e → x5 ≡ x4 ++ f → x6 ≡ x5 ++ g → x7 ≡ x6 ++ h → x8 ≡ x7 ++ i → x9 ≡ x8 ++ j → x9 ≡ o ++ (a ++ (b ++ (d ++ (e ++ (f ++ (g ++ (h ++ (i ++ j))))))))
nine_put o a b d e f g h i j x1 x2 x3 x4 x5 x6 x7 x8 x9 p1 p2 p3 p4 p5 p6 p7 p8 p9 =
    then_more o x1 x9 a _ p1 (then_more x1 x2 x9 b _ p2 (then_more x2 x3 x9 d _ p3 (then_more x3 x4 x9 e _ p4 (then_more x4 x5 x9 f _ p5 (then_more x5 x6 x9 g _ p6 (then_more x6 x7 x9 h _ p7 (then_more x7 x8 x9 i j p8 p9)))))))

pub returns : goal.returns
returns c = record {
  ok = (
      let one = c.args.finding.now in
      let sides = c.args.sides.now in
      nine_put (string_bytes c.args.out.now) (codes "| ") (sides_says sides) (codes " |") (cell_text one.path) (cell_text sides.left) (cell_text sides.right) (place_cell sides.left_place) (place_cell sides.right_place) (codes "\n")
      (string_bytes c.push_str.new.self) (string_bytes c.put_says.new.out) (string_bytes c.push_str-2.new.self) (string_bytes c.put_cell.new.out) (string_bytes c.put_cell-2.new.out) (string_bytes c.put_cell-3.new.out) (string_bytes c.put_place.new.out) (string_bytes c.put_place-2.new.out) (string_bytes c.push_str-3.new.self)
      c.in_ok-push_str.ensures.bytes c.in_ok-put_says.ensures.ok c.in_ok-push_str-2.ensures.bytes c.in_ok-put_cell.ensures.ok c.in_ok-put_cell-2.ensures.ok c.in_ok-put_cell-3.ensures.ok c.in_ok-put_place.ensures.ok c.in_ok-put_place-2.ensures.ok c.in_ok-push_str-3.ensures.bytes);
}
