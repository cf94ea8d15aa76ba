use Rattle.std.proofs.Common.{Bool, ◌∷◌, [], map, sym, ◌∙◌, ap}
use Rattle.std.specs.List.{list_all}
use Rattle.std.proofs.lemmas.List.{map-append}
use Rattle.std.proofs.lemmas.Iterator.Adapters.{YieldsList-from_rev_slice}
use Rattle.std.proofs.lemmas.Iterator.Consumers.{YieldsList-end}
use Rattle.yaml_diff.specs.Lines.{step_of}
use Rattle.yaml_diff.specs.declared.difference.Step as code
use Rattle.review_paths.specs.Pasted.{fits_step}
use Rattle.review_paths.proofs.PasteLaws.{fits_more}
use Rattle.review_paths.proofs.fit.fits.Goals as goal

pub steps-preserved : goal.steps-preserved
steps-preserved c =
    let p : code.Step → Bool = λ s. fits_step (step_of c.args.forests.now s) in
    c.are-all.ensures ∙ fits_more p _ _ (map (λ s. s.now) c.steps.yielded) c.in-Some.step.now c.steps.invariant c.in_ok-fit.ensures.ok ∙ ap (list_all p) (sym (map-append (λ s. s.now) c.steps.yielded (c.in-Some.step ∷ [])))

pub returns : goal.returns
returns c = record {
  ok = (
      let p : code.Step → Bool = λ s. fits_step (step_of c.args.forests.now s) in
      let t = YieldsList-end (YieldsList-from_rev_slice c.args.steps.now cc) c.steps.yielded _ c.steps.yielded_by _ _ c.in-None.is c.next.ensures.steps in
      c.steps.invariant ∙ ap (list_all p) t.0);
}
