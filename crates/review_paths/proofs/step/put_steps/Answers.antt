use Rattle.std.proofs.Common.{List, ℕ, ◌++◌, ◌∷◌, [], map, sym, ◌∙◌, ap, append-nil}
use Rattle.std.specs.String.{string_bytes}
use Rattle.std.specs.List.{flat_map}
use Rattle.std.proofs.lemmas.List.{map-append}
use Rattle.std.proofs.lemmas.Iterator.Adapters.{YieldsList-from_rev_slice}
use Rattle.std.proofs.lemmas.Iterator.Consumers.{YieldsList-end}
use Rattle.yaml_diff.specs.Lines.{step_of}
use Rattle.yaml_diff.specs.declared.difference.Step as code
use Rattle.review_paths.specs.Pasted.{pasted_step}
use Rattle.review_paths.proofs.PasteLaws.{step_more}
use Rattle.review_paths.proofs.step.put_steps.Goals as goal

pub steps-init : goal.steps-init
steps-init c = sym (append-nil _)

pub steps-preserved : goal.steps-preserved
steps-preserved c =
    let f : code.Step → List ℕ = λ s. pasted_step c.args.is_filter c.args.is_left (step_of c.args.forests.now s) in
    let o = string_bytes c.args.out.now in
    step_more f o _ _ (map (λ s. s.now) c.steps.yielded) c.in-Some.step.now c.steps.invariant c.in_ok-put_step.ensures.ok ∙ ap (λ z. o ++ flat_map f z) (sym (map-append (λ s. s.now) c.steps.yielded (c.in-Some.step ∷ [])))

pub returns : goal.returns
returns c = record {
  ok = (
      let f : code.Step → List ℕ = λ s. pasted_step c.args.is_filter c.args.is_left (step_of c.args.forests.now s) in
      let t = YieldsList-end (YieldsList-from_rev_slice c.args.steps.now cc) c.steps.yielded _ c.steps.yielded_by _ _ c.in-None.is c.next.ensures.steps in
      c.steps.invariant ∙ ap (λ z. string_bytes c.args.out.now ++ flat_map f z) t.0);
}
