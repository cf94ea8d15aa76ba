use Rattle.std.proofs.Common.{◌≡◌, sym, ◌∙◌, ap, ◌++◌, rules}
use Rattle.std.specs.Prelude.{nat_le}
use Rattle.yaml_show_scalar.specs.declared.stop.Stop.TheVariants.{TooLong}
use Rattle.yaml_show.specs.Flow.{key_text}
use Rattle.yaml_show.proofs.SharingLaws.{short_has_room, room_measured}
use Rattle.yaml_show.proofs.StopLaws.{too_long_room}
use Rattle.yaml_show.proofs.sharing_keys.has_room.Goals as goal

pub returns-then-is_short-clause-ok : goal.returns-then-is_short-clause-ok
returns-then-is_short-clause-ok g c = short_has_room (g.V.RankedNodes.tree c.args.view.now (g.V.RankedNodes.number c.args.id)) (sym c.if-is_short.ensures)

pub returns-in-Ok-clause-ok : goal.returns-in-Ok-clause-ok
returns-in-Ok-clause-ok g c =
    let t = g.V.RankedNodes.tree c.args.view.now (g.V.RankedNodes.number c.args.id) in
    ap (λ z. nat_le z c.key_room.result) c.char_count.ensures ∙ room_measured t _ _ (sym c.if-is_short.ensures) (c.as_str.ensures.value ∙ c.in-Ok.ensures.ok ∙ ap (λ z. z ++ key_text t) c.new-key.ensures.empty) c.key_room.ensures

pub returns-in-Err-TooLong-clause-ok : goal.returns-in-Err-TooLong-clause-ok
returns-in-Err-TooLong-clause-ok g c =
    let t = g.V.RankedNodes.tree c.args.view.now (g.V.RankedNodes.number c.args.id) in
    let h = λ (e : c.in-Err-TooLong.field-0 ≡ TooLong). too_long_room t _ _ c.new-key.ensures.limit c.new-key.ensures.empty (sym c.if-is_short.ensures) _ e c.in-Err-TooLong.ensures.err in
    search (rules, h)
