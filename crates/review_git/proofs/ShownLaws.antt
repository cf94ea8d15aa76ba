-- The changed lines of what `show` writes.
use Rattle.std.specs.Prelude.{bytes_eq}
use Rattle.std.proofs.Common.{◌≡◌, ◌++◌, ℕ, false, List, Option, Some, inr, refl, sym, ◌∙◌, ap, append_assoc}
use Rattle.std.proofs.lemmas.Bool.{true≢false}
use Rattle.std.proofs.lemmas.Slice.Eq.{bytes_eq-Decides}
use Rattle.yaml_unified.specs.Script.{IsScript}
use Rattle.yaml_unified.specs.declared.script.Edit.{Edit}
use Rattle.yaml_unified.specs.Unified.{PutsHunks}
use Rattle.review_git.specs.Shown.{IsShownFile, side_lines, TellsChanges, TellsShown}

-- a piece that stands behind a text, and tells something
abbrev pub Behind : List ℕ → List ℕ → (List ℕ → Type 0) → Type 0
Behind old new tells = (x : List ℕ) × (new ≡ old ++ x) × tells x

-- two texts that are different
pub changed_lines : (left right old new out a b : List ℕ) (edits : List Edit) → bytes_eq old new ≡ false → a ≡ out ++ side_lines left right → IsScript old new edits → PutsHunks 3 edits a b → Behind out b (TellsChanges left right (Some old) (Some new))
changed_lines left right old new out a b edits n e s h = (
  side_lines left right ++ h.hunks,
  h.text ∙ ap (λ z. z ++ h.hunks) e ∙ append_assoc out (side_lines left right) h.hunks,
  inr ((λ q. true≢false (sym ((bytes_eq-Decides old new).1 q) ∙ n)), record { edits = edits; script = s; hunks = h.hunks; are = h.are; is = refl }),
)

-- what is told of either file, and then the changes
pub shown_lines : (left right first second out a b d : List ℕ) (old new : Option (List ℕ)) → Behind out a (IsShownFile left first old) → Behind a b (IsShownFile right second new) → Behind b d (TellsChanges left right old new)
    → Behind out d (TellsShown left right first second)
shown_lines left right first second out a b d old new p q s = (
  p.0 ++ (q.0 ++ s.0),
  s.1 ∙ ap (λ z. z ++ s.0) (q.1 ∙ ap (λ z. z ++ q.0) p.1) ∙ append_assoc (out ++ p.0) q.0 s.0 ∙ append_assoc out p.0 (q.0 ++ s.0),
  record { old = old; new = new; of_left = p.0; of_right = q.0; changes = s.0; old_is = p.2; new_is = q.2; tells = s.2; is = refl },
)
