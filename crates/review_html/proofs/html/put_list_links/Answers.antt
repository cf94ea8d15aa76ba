use Rattle.std.proofs.Common.{◌+◌, ◌++◌, ◌∙◌, drop, get_or, ap, arith}
use Rattle.std.specs.List.{enumerate_from}
use Rattle.std.specs.String.{string_bytes}
use Rattle.review_html.specs.Headings.{link_text}
use Rattle.review_html.specs.Html.{link_item}
use Rattle.review_html.specs.Texts.{number_after}
use Rattle.review_html.proofs.TextLaws.{flat_step, flat_done, enum_next, enum_done}
use Rattle.review_html.proofs.html.put_list_links.Goals as goal

pub links-preserved : goal.links-preserved
links-preserved c =
    let list = c.args.list.now in
    let at = c.links.at in
    let n = c.args.before + at in
    let m = c.args.before + (at + 1) in
    let one = c.index-list-at.result in
    let out = string_bytes c.links.out in
    flat_step link_item (enumerate_from n (drop at list)) (enumerate_from m (drop (at + 1) list)) (n, get_or list at one) out _ _ (enum_next list n m at one (omega arith) (omega (arith, c.links-test.true))) c.links.invariant
    (c.in_ok-put_link.ensures.ok ∙ ap (λ z. out ++ link_text z one) c.number_after.ensures ∙ ap (λ z. out ++ link_text (number_after n) z) c.index-list-at.is)

pub returns : goal.returns
returns c = record { ok = (flat_done link_item _ _ _ (enum_done c.args.list.now (c.args.before + c.links.at) c.links.at (omega (arith, c.links-test.false))) c.links.invariant) }
