use Rattle.std.proofs.Common.{List, ℕ, ◌≡◌, ◌∙◌, ◌++◌, ◌∷◌, [], rules, sym, ap, map, append-nil}
use Rattle.std.specs.String.{string_bytes}
use Rattle.std.specs.List.{flat_map}
use Rattle.std.proofs.lemmas.List.{map-append}
use Rattle.std.proofs.lemmas.Iterator.Adapters.{YieldsList-from_rev_slice}
use Rattle.std.proofs.lemmas.Iterator.Consumers.{YieldsList-end}
use Rattle.yaml_diff.specs.Lines.{step_of}
use Rattle.yaml_diff.specs.declared.difference.Step as code
use Rattle.review_paths.specs.Json.{next_json}
use Rattle.review_paths.proofs.StepLaws.{step_more, steps_written}
use Rattle.review_paths.proofs.steps.put_steps.Goals as goal

pub steps-init : goal.steps-init
steps-init c = sym (append-nil _)

pub steps-preserved : goal.steps-preserved
steps-preserved c =
    let f : code.Step → List ℕ = λ s. next_json (step_of c.args.forests.now s) in
    let o = string_bytes c.put_step.new.out in
    step_more f o _ _ (map (λ s. s.now) c.steps.yielded) c.in-Some-step.step.now c.steps.invariant c.in_ok-put_next.ensures.ok ∙ ap (λ z. o ++ flat_map f z) (sym (map-append (λ s. s.now) c.steps.yielded (c.in-Some-step.step ∷ [])))

pub returns : goal.returns
returns c = record {
  ok = (
      let t = YieldsList-end (YieldsList-from_rev_slice c.in-Some.steps.now cc) c.steps.yielded _ c.steps.yielded_by _ _ c.in-None.is c.next.ensures.steps in
      let g = c.args.forests.now in
      let d = c.in-Some.document.now in
      let split : c.args.path.now ≡ c.in-Some.steps.now ++ (d ∷ []) = search rules in
      steps_written g c.args.path.now c.in-Some.steps.now (map (λ s. s.now) c.steps.yielded) d _ _ _ split t.0 c.in_ok-put_step.ensures.ok c.steps.invariant);
}
