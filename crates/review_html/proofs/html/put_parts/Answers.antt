use Rattle.std.proofs.Common.{◌+◌, ◌-◌, ◌^◌, ◌∙◌, drop, get_or, length, ap, subst, arith, refl}
use Rattle.std.specs.Prelude.{min}
use Rattle.std.specs.String.{string_bytes}
use Rattle.review_html.specs.Html.{numbered, IsPartText}
use Rattle.review_html.proofs.TextLaws.{on_start, on_step, on_done, parts_next, parts_done}
use Rattle.review_html.proofs.html.put_parts.Goals as goal

pub parts-init : goal.parts-init
parts-init c = on_start IsPartText (numbered 1 0 c.args.parts.now) (string_bytes c.args.out.now)

pub parts-preserved : goal.parts-preserved
parts-preserved c =
    let parts = c.args.parts.now in
    let at = c.parts.at in
    let one = c.index-parts-at.result in
    let before = c.parts.before in
    let w = c.in_ok-put_part.ensures.ok in
    on_step IsPartText (numbered 1 0 parts) (string_bytes c.args.out.now) (numbered (at + 1) before (drop at parts)) (numbered (at + 1 + 1) c.saturating_add-before.result (drop (at + 1) parts)) (at + 1, before, get_or parts at one) w.0 (string_bytes c.parts.out) (string_bytes c.put_part.new.out)
    (parts_next parts (at + 1) (at + 1 + 1) before c.saturating_add-before.result at one refl (c.saturating_add-before.ensures ∙ ap (λ z. min (before + z) (2 ^ 64 - 1)) c.count_in.ensures ∙ ap (λ z. min (before + length z.list.items) (2 ^ 64 - 1)) c.index-parts-at.is) (omega (arith, c.parts-test.true)))
    c.parts.invariant (subst (λ z. IsPartText (at + 1, before, z) w.0) c.index-parts-at.is w.1) w.2

pub returns : goal.returns
returns c = record { ok = (on_done IsPartText (numbered 1 0 c.args.parts.now) (string_bytes c.args.out.now) _ _ (parts_done c.args.parts.now (c.parts.at + 1) c.parts.before c.parts.at (omega (arith, c.parts-test.false))) c.parts.invariant) }
