use Rattle.std.proofs.Common.{◌-◌, ◌++◌, length, refl, ◌∙◌, ap}
use Rattle.yaml_path.specs.Ways.{turns}
use Rattle.yaml_diff.specs.Looks.{places_in}
use Rattle.yaml_diff.proofs.CrossLaws.{crossed-answer}
use Rattle.yaml_diff.proofs.align.crossing.Goals as goal

pub returns : goal.returns
returns c = record {
  ok = (
      let xs = c.args.lefts.now in
      let ys = c.args.rights.now in
      let front = c.equal_front-front.result in
      let back = c.equal_back-back.result in
      crossed-answer c.args.forests.now xs ys front back (length xs - back) (length ys - back) c.put_pairs.new.steps.items c.put_steps.new.steps.items c.put_pairs-2.new.steps.items _ c.checked.result c.equal_front-front.ensures c.equal_back-back.ensures refl refl
      (c.in_ok-put_pairs.ensures.ok ∙ ap (λ z. places_in z ++ turns 0 0 (front - 0) (front - 0)) c.new-steps.ensures.items) c.in_ok-put_steps.ensures.ok c.in_ok-put_pairs-2.ensures.ok (rw c.deref-2.ensures.value at c.checked.ensures.ok));
}
