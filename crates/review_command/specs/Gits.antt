-- What `git` does.
use Rattle.std.specs.Prelude.{◌≡◌, ◌⊎◌, ℕ, Bool, List, Option}
use Rattle.yaml_text.specs.Writers.{Printed, Broken}
use Rattle.yaml_text.specs.declared.counted.Counted.{Counted}
use Rattle.review_git.specs.Asked.{IsGitAsked}
use Rattle.review_git.specs.Texts.{GitWrites}
use Rattle.review_git.specs.declared.asked.GitAsked.{GitAsked}

module _ {W : Type 0} (holds : List ℕ → Option (List ℕ)) (contents : W → Option (List ℕ)) where
  -- The text was written. Or a call of the writer failed behind a beginning of it: the status is 3, and 0 if whoever reads the text has gone.
  abbrev pub GitPrints : List ℕ → Counted W → Counted W → ℕ → Type 0
  GitPrints text old new status = (Printed contents old new text × (status ≡ 0)) ⊎ (Broken contents old new text × ((status ≡ 0) ⊎ (status ≡ 3)))

  -- The text of what is asked for was made, or memory was refused for it and nothing was printed.
  abbrev pub GitTells : GitAsked → Counted W → Counted W → ℕ → Type 0
  GitTells asked old new status = ((new ≡ old) × (status ≡ 2)) ⊎ ((text : List ℕ) × GitWrites holds asked text × GitPrints text old new status)

  -- The words ask for something, or for nothing.
  abbrev pub GitEnds : List (List ℕ) → Bool → Counted W → Counted W → ℕ → Type 0
  GitEnds words is_color old new status = (((asked : GitAsked) → IsGitAsked words is_color asked → ⊥) × (new ≡ old) × (status ≡ 3)) ⊎ ((asked : GitAsked) × IsGitAsked words is_color asked × GitTells asked old new status)
