use Rattle.std.proofs.Common.{◌+◌, ◌++◌, ◌∙◌, drop, get_or, ap, arith}
use Rattle.std.specs.List.{enumerate_from}
use Rattle.std.specs.Prelude.{codes}
use Rattle.std.specs.String.{string_bytes}
use Rattle.review_html.specs.Headings.{front_text}
use Rattle.review_html.specs.Html.{section_text}
use Rattle.review_html.specs.Sides.{body_text}
use Rattle.review_html.proofs.TextLaws.{flat_step, flat_done, enum_next, enum_done}
use Rattle.review_html.proofs.html.put_sections.Goals as goal

pub sections-preserved : goal.sections-preserved
sections-preserved c =
    let list = c.args.list.now in
    let at = c.sections.at in
    let n = c.args.before + at in
    let m = c.args.before + (at + 1) in
    let one = c.index-list-at.result in
    let out = string_bytes c.sections.out in
    flat_step (section_text c.args.number) (enumerate_from n (drop at list)) (enumerate_from m (drop (at + 1) list)) (n, get_or list at one) out _ _ (enum_next list n m at one (omega arith) (omega (arith, c.sections-test.true))) c.sections.invariant
    (c.in_ok-put_section.ensures.ok ∙ ap (λ z. out ++ (front_text z one ++ (body_text c.args.number one ++ codes "</section>\n"))) c.number_after.ensures ∙ ap (λ z. out ++ section_text c.args.number (n, z)) c.index-list-at.is)

pub returns : goal.returns
returns c = record { ok = (flat_done (section_text c.args.number) _ _ _ (enum_done c.args.list.now (c.args.before + c.sections.at) c.sections.at (omega (arith, c.sections-test.false))) c.sections.invariant) }
