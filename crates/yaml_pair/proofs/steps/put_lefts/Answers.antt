use Rattle.std.proofs.Common.{false, sym, subst}
use Rattle.yaml_pair.specs.Named.{GoesOn}
use Rattle.yaml_pair.proofs.StepLaws.{goes-left}
use Rattle.yaml_pair.proofs.steps.put_lefts.Goals as goal
use Rattle.yaml_pair.proofs.steps.put_lefts.Goals.{then-is_free+in_ok-push, else-is_free}

pub loop-left-preserved : goal.loop-left-preserved
loop-left-preserved c =
    let start = c.args.steps.now.items in
    let old = c.loop-left.steps.items in
    elim c.if-is_free.branch [
      | then-is_free+in_ok-push w ↦ subst (λ z. GoesOn start z.items) (sym w.steps-is) (goes-left start old w.push.new.self.items w.saturating_add.result false c.loop-left.invariant w.in_ok-push.ensures.items)
      | else-is_free w ↦ subst (λ z. GoesOn start z.items) (sym w.steps-is) c.loop-left.invariant
    ]
