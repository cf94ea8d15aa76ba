use Rattle.std.proofs.Common.{◌++◌, ◌∷◌, [], refl, sym, ◌∙◌, ap, subst}
use Rattle.yaml_spell.specs.Stops.{fault_of}
use Rattle.yaml_spell.specs.Rooms.{RoomTakes, RoomMisses}
use Rattle.yaml_spell.proofs.PieceLaws.{on_ok, if_err}
use Rattle.yaml_spell.proofs.room.Room.add_spelled.Goals as goal

pub returns-then-is_unescaped-clause-ok : goal.returns-then-is_unescaped-clause-ok
returns-then-is_unescaped-clause-ok c =
    let e = ap (λ z. 34 ∷ (z ++ (34 ∷ []))) c.as_bytes.ensures.value ∙ sym (c.if-is_unescaped.ensures.yes refl) in
    on_ok c.add_quoted.result c.add_quoted.ensures.ok (λ h. subst (RoomTakes c.args.self.now c.add_quoted.new.self) e h)

pub returns-then-is_unescaped-clause-err : goal.returns-then-is_unescaped-clause-err
returns-then-is_unescaped-clause-err c =
    let e = ap (λ z. 34 ∷ (z ++ (34 ∷ []))) c.as_bytes.ensures.value ∙ sym (c.if-is_unescaped.ensures.yes refl) in
    if_err c.add_quoted.result c.add_quoted.ensures.err (λ stop h. subst (RoomMisses c.args.self.now (fault_of stop)) e h)
