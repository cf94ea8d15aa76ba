use Rattle.std.proofs.Common.{◌-◌, ◌++◌, length, refl, sym, ◌∙◌, ap, subst}
use Rattle.yaml_diff.specs.Found.{Aligns}
use Rattle.yaml_path.specs.Ways.{turns}
use Rattle.yaml_diff.proofs.AlignLaws.{aligned}
use Rattle.yaml_diff.proofs.align.in_turn.Goals as goal

pub returns-clause-ok : goal.returns-clause-ok
returns-clause-ok c =
    let xs = c.args.lefts.now in
    let ys = c.args.rights.now in
    let front = c.equal_front-front.result in
    let back = c.equal_back-back.result in
    subst (Aligns c.args.forests.now xs ys c.take_turns-2.new.list.items) (sym c.new.ensures.items) (aligned c.args.forests.now xs ys front back (length xs - back) (length ys - back) c.take_turns.new.list.items c.take_anchors.new.list.items c.take_turns-2.new.list.items c.equal_front-front.ensures c.equal_back-back.ensures refl refl
    (c.in_ok-take_turns.ensures.ok ∙ ap (λ z. z ++ turns 0 0 (front - 0) (front - 0)) c.new-list.ensures.items) c.in_ok-take_anchors.ensures.ok c.in_ok-take_turns-2.ensures.ok)
