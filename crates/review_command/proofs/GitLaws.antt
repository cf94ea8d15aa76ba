-- How `git` ends, by what was asked, written and answered.
use Rattle.std.proofs.Common.{◌≡◌, ◌⊎◌, inl, inr, ℕ, Bool, List, Option, refl, ap, ◌∙◌}
use Rattle.yaml_text.specs.Writers.{Printed, Broken}
use Rattle.yaml_text.specs.declared.counted.Counted.{Counted}
use Rattle.yaml_text.specs.declared.fault.Fault.{Fault}
use Rattle.yaml_text.specs.declared.fault.Fault.TheVariants.{WriteFault}
use Rattle.review_files.specs.Statuses.{fault_status}
use Rattle.review_git.specs.Asked.{IsGitAsked}
use Rattle.review_git.specs.Texts.{GitWrites}
use Rattle.review_git.specs.declared.asked.GitAsked.{GitAsked}
use Rattle.review_command.specs.Gits.{GitEnds}

module _ {W : Type 0} (holds : List ℕ → Option (List ℕ)) (contents : W → Option (List ℕ)) (words : List (List ℕ)) (is_color : Bool) (asked : GitAsked) (text : List ℕ) (old new : Counted W) where
  pub git_written : IsGitAsked words is_color asked → GitWrites holds asked text → Printed contents old new text ⊎ Broken contents old new text → GitEnds holds contents words is_color old new 0
  git_written a w (inl p) = inr (asked, a, inr (text, w, inl (p, refl)))
  git_written a w (inr b) = inr (asked, a, inr (text, w, inr (b, inl refl)))

  pub git_cut : (fault : Fault) (status : ℕ) → IsGitAsked words is_color asked → GitWrites holds asked text → fault ≡ WriteFault → Broken contents old new text → status ≡ fault_status fault → GitEnds holds contents words is_color old new status
  git_cut fault status a w e b s = inr (asked, a, inr (text, w, inr (b, inr (s ∙ ap fault_status e))))
