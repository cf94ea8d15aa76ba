use Rattle.std.proofs.Common.{Bool, false, sym, ◌∙◌, ap}
use Rattle.yaml_path.specs.declared.places.Places.{Places}
use Rattle.yaml_path.specs.declared.places.Places.TheVariants.{Both}
use Rattle.yaml_diff.proofs.LookLaws.{moved_more, moved_skip}
use Rattle.yaml_diff.proofs.look.moved_of.Goals as goal
use Rattle.yaml_diff.proofs.look.moved_of.Goals.{then-has_moved+in_ok-push, else-has_moved}

pub loop-step-preserved : goal.loop-step-preserved
loop-step-preserved c =
    let d : Places × Bool = (Both 0 0, false) in
    let ss = c.args.steps.now in
    let at = c.loop-step.step-index in
    let old = c.loop-step.list.items in
    elim c.if-has_moved.branch [
      | then-has_moved+in_ok-push w ↦ ap (λ z. z.items) w.list-is ∙ moved_more ss at d old w.push.new.self.items c.loop-step-test.true c.loop-step.invariant (sym c.has_moved.ensures ∙ w.if-has_moved.true) w.in_ok-push.ensures.items
      | else-has_moved w ↦ ap (λ z. z.items) w.list-is ∙ moved_skip ss at d old c.loop-step-test.true c.loop-step.invariant (sym c.has_moved.ensures ∙ w.if-has_moved.false)
    ]
