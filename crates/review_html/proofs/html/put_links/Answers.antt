use Rattle.std.proofs.Common.{◌+◌, ◌-◌, ◌^◌, ◌++◌, ◌∙◌, drop, get_or, length, ap, arith, refl}
use Rattle.std.specs.List.{flat_map}
use Rattle.std.specs.Prelude.{codes, min}
use Rattle.std.specs.String.{string_bytes}
use Rattle.review_formats.proofs.PieceLaws.{two_put}
use Rattle.review_html.specs.Html.{numbered, part_links}
use Rattle.review_html.proofs.TextLaws.{flat_step, flat_done, parts_next, parts_done}
use Rattle.review_html.proofs.html.put_links.Goals as goal

pub parts-preserved : goal.parts-preserved
parts-preserved c =
    let parts = c.args.parts.now in
    let at = c.parts.at in
    let one = c.index-parts-at.result in
    let before = c.parts.before in
    let out = string_bytes c.parts.out in
    flat_step part_links (numbered (at + 1) before (drop at parts)) (numbered (at + 1 + 1) c.saturating_add-before.result (drop (at + 1) parts)) (at + 1, before, get_or parts at one) out _ _
    (parts_next parts (at + 1) (at + 1 + 1) before c.saturating_add-before.result at one refl (c.saturating_add-before.ensures ∙ ap (λ z. min (before + z) (2 ^ 64 - 1)) c.count_in.ensures ∙ ap (λ z. min (before + length z.list.items) (2 ^ 64 - 1)) c.index-parts-at.is) (omega (arith, c.parts-test.true)))
    c.parts.invariant (c.in_ok-put_part_links.ensures.ok ∙ ap (λ z. out ++ part_links (at + 1, before, z)) c.index-parts-at.is)

pub returns : goal.returns
returns c = record {
  ok = (
      let links = flat_map part_links (numbered 1 0 c.args.parts.now) in
      let begun = string_bytes c.push_str.new.self in
      let end = string_bytes c.push_str-2.new.self in
      two_put (string_bytes c.args.out.now) begun end (codes "<nav aria-label=\"All that is found\">\n") (links ++ codes "</nav>\n") c.in_ok-push_str.ensures.bytes
      (two_put begun (string_bytes c.parts.out) end links (codes "</nav>\n") (flat_done part_links _ _ _ (parts_done c.args.parts.now (c.parts.at + 1) c.parts.before c.parts.at (omega (arith, c.parts-test.false))) c.parts.invariant) c.in_ok-push_str-2.ensures.bytes));
}
