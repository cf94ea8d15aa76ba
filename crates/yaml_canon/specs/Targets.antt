-- What is put where a canonical text goes, whichever target that is.
use Rattle.std.specs.Prelude.{◌≡◌, ◌≤◌, ℕ, List, length}
use Rattle.yaml_definitions.specs.model.Limits.{text_limit}
use Rattle.yaml_definitions.specs.model.Tree.{Tree}
use Rattle.yaml_text.specs.declared.fault.Fault.{Fault}
use Rattle.yaml_text.specs.declared.fault.Fault.TheVariants.{WriteFault}
use Rattle.yaml_spell.specs.Documents.{arranged_bytes, RefusesArranged}
use Rattle.yaml_canon.specs.Claims.{IsCanonicalText, CanonicalRefuses}

-- the text of these trees was put there, which is not too long
pub record PutsArranged {T A : Type 0} (took : T → List ℕ → T → A → Type 0) (ts : List Tree) (old new : T) (answer : A) : Type 0 where
  pub fits : length (arranged_bytes ts) ≤ text_limit
  pub put : took old (arranged_bytes ts) new answer

-- a beginning of it was put there
pub record BreaksArranged {T : Type 0} (broke : T → List ℕ → T → Type 0) (ts : List Tree) (old new : T) : Type 0 where
  pub fits : length (arranged_bytes ts) ≤ text_limit
  pub broken : broke old (arranged_bytes ts) new

-- it is too long, or memory was refused, and the target is as it was
pub record LeavesArranged {T : Type 0} (ts : List Tree) (old new : T) (fault : Fault) : Type 0 where
  pub refused : RefusesArranged ts fault
  pub untouched : new ≡ old

-- why it was not put there
abbrev pub ArrangedFails : {T : Type 0} → (T → List ℕ → T → Type 0) → List Tree → T → T → Fault → Type 0
ArrangedFails broke ts old new WriteFault = BreaksArranged broke ts old new
ArrangedFails broke ts old new fault = LeavesArranged ts old new fault

-- the canonical text of the bytes was put there
pub record PutsCanonical {T A : Type 0} (took : T → List ℕ → T → A → Type 0) (bytes : List ℕ) (old new : T) (answer : A) : Type 0 where
  pub text : List ℕ
  pub canonical : IsCanonicalText bytes text
  pub put : took old text new answer

-- a beginning of the canonical text of the bytes was put there
pub record BreaksCanonical {T : Type 0} (broke : T → List ℕ → T → Type 0) (bytes : List ℕ) (old new : T) : Type 0 where
  pub text : List ℕ
  pub canonical : IsCanonicalText bytes text
  pub broken : broke old text new

-- The bytes have no canonical text, or memory was refused, and the target is as it was.
pub record LeavesCanonical {T : Type 0} (bytes : List ℕ) (old new : T) (fault : Fault) : Type 0 where
  pub refused : CanonicalRefuses bytes fault
  pub untouched : new ≡ old

-- why the canonical text of the bytes was not put there
abbrev pub PutFails : {T : Type 0} → (T → List ℕ → T → Type 0) → List ℕ → T → T → Fault → Type 0
PutFails broke bytes old new WriteFault = BreaksCanonical broke bytes old new
PutFails broke bytes old new fault = LeavesCanonical bytes old new fault
