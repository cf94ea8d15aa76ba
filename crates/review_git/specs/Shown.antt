-- What is printed of two files if lines of what `show` writes are asked for.
use Rattle.std.specs.Prelude.{◌≡◌, ◌⊎◌, ℕ, List, [], ◌++◌, Option, Some, None, codes}
use Rattle.yaml_text.specs.declared.fault.Fault.{Fault}
use Rattle.yaml_unified.specs.Script.{IsScript}
use Rattle.yaml_unified.specs.declared.script.Edit.{Edit}
use Rattle.yaml_unified.specs.Unified.{AreHunks}
use Rattle.yaml_show.specs.Refused.{ShowRefuses}
use Rattle.yaml_show.specs.Shows.{Shows}
use Rattle.review_text.specs.Terminal.{terminal}
use Rattle.review_git.specs.Unshown.{TellsRejected}

-- What `show` writes of a file, of which nothing is printed yet; or it is rejected, and it is told why.
abbrev pub IsShownFile : List ℕ → List ℕ → Option (List ℕ) → List ℕ → Type 0
IsShownFile name bytes (Some shown) text = Shows bytes shown × (text ≡ [])
IsShownFile name bytes None text = (fault : Fault) × ShowRefuses bytes fault × TellsRejected name bytes fault text

-- the lines with the names of both sides
abbrev pub side_lines : List ℕ → List ℕ → List ℕ
side_lines left right = codes "--- " ++ (terminal left ++ (codes "\n+++ " ++ (terminal right ++ codes "\n")))

-- Of two texts that are different: both names, and a unified diff from one to the other, with three kept lines around its changes.
pub record TellsLines (left right : List ℕ) (old new : List ℕ) (text : List ℕ) : Type 0 where
  pub edits : List Edit
  pub script : IsScript old new edits
  pub hunks : List ℕ
  pub are : AreHunks 3 1 1 edits hunks
  pub is : text ≡ side_lines left right ++ hunks

abbrev pub TellsChanges : List ℕ → List ℕ → Option (List ℕ) → Option (List ℕ) → List ℕ → Type 0
TellsChanges left right (Some old) (Some new) text = ((old ≡ new) × (text ≡ [])) ⊎ ((old ≡ new → ⊥) × TellsLines left right old new text)
TellsChanges left right _ _ text = text ≡ []

-- Why each file is not shown, if one is not. Else the changed lines.
pub record TellsShown (left right : List ℕ) (first second text : List ℕ) : Type 0 where
  pub old : Option (List ℕ)
  pub new : Option (List ℕ)
  pub of_left : List ℕ
  pub of_right : List ℕ
  pub changes : List ℕ
  pub old_is : IsShownFile left first old of_left
  pub new_is : IsShownFile right second new of_right
  pub tells : TellsChanges left right old new changes
  pub is : text ≡ of_left ++ (of_right ++ changes)
