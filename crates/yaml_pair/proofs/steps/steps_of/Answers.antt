use Rattle.std.proofs.Common.{◌≡◌, false, length, arith, sym, ◌∙◌, ap, subst}
use Rattle.std.specs.Prelude.{Some, None}
use Rattle.std.specs.List.{slice_get}
use Rattle.std.proofs.lemmas.Option.{slice_get-get_or}
use Rattle.yaml_pair.specs.Named.{GoesOn}
use Rattle.yaml_pair.proofs.StepLaws.{steps-pair, steps-right, steps-more, goes-same}
use Rattle.yaml_pair.proofs.steps.steps_of.Goals as goal
use Rattle.yaml_pair.proofs.steps.steps_of.Goals.{then-not-moved+in_ok-put_lefts, else-not-moved}

pub loop-right-preserved : goal.loop-right-preserved
loop-right-preserved c =
    let p = c.args.partners.now in
    let i = c.loop-right.right-counter in
    let old = c.loop-right.steps.items in
    let e = subst (λ z. slice_get z i ≡ Some (Some c.in-Some.left)) c.deref-partner-items.ensures.value (slice_get-get_or c.deref-partner-items.result.now i None c.loop-right-test.true ∙ ap Some c.in-Some.is) in
    let more : GoesOn old c.if-not-moved.steps.items = elim c.if-not-moved.branch [
      | then-not-moved+in_ok-put_lefts w ↦ subst (λ z. GoesOn old z.items) (sym w.steps-is) w.in_ok-put_lefts.ensures.ok
      | else-not-moved w ↦ subst (λ z. GoesOn old z.items) (sym w.steps-is) (goes-same old)
    ] in
    steps-pair c.args.first p i c.in-Some.left c.saturating_add.result c.saturating_add-there.result c.is_err-moved.result old c.if-not-moved.steps.items c.push-in-loop-right.new.self.items e c.loop-right.invariant more c.saturating_add.ensures c.saturating_add-there.ensures c.in_ok-push-2.ensures.items

pub loop-right-preserved-in_default : goal.loop-right-preserved-in_default
loop-right-preserved-in_default c =
    let i = c.loop-right.right-counter in
    let e = subst (λ z. slice_get z i ≡ Some None) c.deref-partner-items.ensures.value (slice_get-get_or c.deref-partner-items.result.now i None c.loop-right-test.true ∙ ap Some c.in_default.is) in
    steps-right c.args.first c.args.partners.now i c.saturating_add-there.result false c.loop-right.steps.items c.push.new.self.items e c.loop-right.invariant c.in_ok-push.ensures.items

pub returns : goal.returns
returns c = record {
  ok = (
      let p = c.args.partners.now in
      let whole = ap length c.deref-partner-items.ensures.value in
      steps-more c.args.first p (length p.rights.items) c.loop-right.steps.items c.put_lefts-2.new.steps.items (record { has = λ j k l. c.loop-right.invariant.has j k (omega (arith, l, whole, c.loop-right-test.false)); only = c.loop-right.invariant.only }) c.in_ok-put_lefts-2.ensures.ok);
}
