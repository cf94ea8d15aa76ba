use Rattle.std.proofs.Common.{◌+◌, drop, sym, ◌∙◌, ap, ap₂, arith}
use Rattle.review_merge.specs.Parts.{values_in, common, looks_like}
use Rattle.review_merge.proofs.PartLaws.{some_from, none_from, behind_like, behind_unlike, behind_none, behind_end}
use Rattle.review_merge.proofs.texts.place_behind.Goals.{in-Some+in_ok-looks_like+else-branch, in_default}
use Rattle.review_merge.proofs.texts.place_behind.Goals as goal

pub returns-then-branch : goal.returns-then-branch
returns-then-branch c = record {
  ok = (
      let xs = c.args.before.now in
      let i = c.others.other-index in
      behind_like (values_in c.args.wholes.now) (values_in (drop i xs)) (values_in (drop (i + 1) xs)) (values_in xs) c.args.text.now _ c.difference_of.result (some_from xs i _ c.other-item.result c.in-Some.other (omega (arith, c.others-test.true)) c.other-item.is c.in-Some.is) (sym (ap (looks_like (values_in c.args.wholes.now) c.args.text.now) c.deref.ensures) ∙ sym c.in_ok-looks_like.ensures.ok ∙ c.if-branch.true) (c.difference_of.ensures ∙ ap₂ common c.as_bytes.ensures.value c.as_bytes-then-branch.ensures.value) c.others.invariant);
}

pub others-preserved : goal.others-preserved
others-preserved c =
    let wholes = values_in c.args.wholes.now in
    let xs = c.args.before.now in
    let i = c.others.other-index in
    elim c.match-other.branch [
      | in-Some+in_ok-looks_like+else-branch w ↦ behind_unlike wholes (values_in (drop i xs)) (values_in (drop (i + 1) xs)) (values_in xs) c.args.text.now _ (some_from xs i _ c.other-item.result w.in-Some.other (omega (arith, c.others-test.true)) c.other-item.is w.in-Some.is) (sym (ap (looks_like wholes c.args.text.now) w.deref.ensures) ∙ sym w.in_ok-looks_like.ensures.ok ∙ w.if-branch.false) c.others.invariant
      | in_default w ↦ behind_none wholes (values_in (drop i xs)) (values_in (drop (i + 1) xs)) (values_in xs) c.args.text.now (none_from xs i _ c.other-item.result (omega (arith, c.others-test.true)) c.other-item.is w.in_default.not-Some) c.others.invariant
    ]

pub returns : goal.returns
returns c = record { ok = (behind_end (values_in c.args.wholes.now) c.args.before.now c.others.other-index c.args.text.now c.own_place.result (omega (arith, c.others-test.false)) c.own_place.ensures c.others.invariant) }
