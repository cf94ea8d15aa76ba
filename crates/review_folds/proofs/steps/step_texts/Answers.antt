use Rattle.std.proofs.Common.{◌≡◌, ◌++◌, ◌∷◌, [], rules, sym, map, append-nil}
use Rattle.std.specs.String.{string_bytes}
use Rattle.std.proofs.lemmas.Iterator.Adapters.{YieldsList-from_rev_slice}
use Rattle.std.proofs.lemmas.Iterator.Consumers.{YieldsList-end}
use Rattle.yaml_diff.specs.Lines.{step_of}
use Rattle.review_text.specs.Hidden.{visible}
use Rattle.review_text.specs.PathText.{first_text}
use Rattle.review_folds.proofs.StepLaws.{all_written}
use Rattle.review_folds.proofs.steps.step_texts.Goals as goal

pub steps-init : goal.steps-init
steps-init c = sym (append-nil _)

pub returns : goal.returns
returns c = record {
  ok = (
      let t = YieldsList-end (YieldsList-from_rev_slice c.in-Some.steps.now cc) c.steps.yielded _ c.steps.yielded_by _ _ c.in-None.is c.next.ensures.steps in
      let g = c.args.forests.now in
      let d = c.in-Some.document.now in
      let split : c.args.path.now ≡ c.in-Some.steps.now ++ (d ∷ []) = search rules in
      let first : map string_bytes c.push.new.self.items ≡ visible (first_text (step_of g d)) ∷ [] = search rules in
      all_written g c.args.path.now c.in-Some.steps.now (map (λ s. s.now) c.steps.yielded) d _ _ split t.0 first c.steps.invariant);
}
