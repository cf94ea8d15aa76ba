-- What `same` prints of two inputs, and what a refusal leaves.
use Rattle.std.specs.Prelude.{◌≡◌, ℕ, Bool, cond, List, Option, codes}
use Rattle.yaml_text.specs.declared.fault.Fault.TheVariants.{WriteFault}
use Rattle.yaml_text.specs.declared.counted.Counted.{Counted}
use Rattle.yaml_text.specs.Writers.{Printed, Broken}
use Rattle.yaml_canon.specs.Comparing.{Compares, ComparerRefuses}
use Rattle.yaml_command.specs.declared.refusal.Refusal.{Refusal}
use Rattle.yaml_command.specs.declared.refusal.Refusal.TheVariants.{Input, OneSide}

-- the line that `same` writes
abbrev pub same_line : Bool → List ℕ
same_line answer = cond answer (codes "same\n") (codes "different\n")

module _ {W : Type 0} (contents : W → Option (List ℕ)) where
  -- both sides are accepted, and the line that tells whether they are the same was written
  pub record PrintsSame (left right : List ℕ) (old new : Counted W) (answer : Bool) : Type 0 where
    pub compares : Compares left right answer
    pub printed : Printed contents old new (same_line answer)

  -- a beginning of that line was written
  pub record BreaksSame (left right : List ℕ) (old new : Counted W) : Type 0 where
    pub answer : Bool
    pub compares : Compares left right answer
    pub broken : Broken contents old new (same_line answer)

  -- the sides are not compared, or writing failed
  abbrev pub SameFails : List ℕ → List ℕ → Counted W → Counted W → Refusal → Type 0
  SameFails left right old new (OneSide side fault) = ComparerRefuses left right side fault × (new ≡ old)
  SameFails left right old new (Input WriteFault) = BreaksSame left right old new
  SameFails left right old new _ = ⊥

  -- what a refusal leaves on the output: nothing, but for a failed write, which leaves a beginning of a text
  abbrev pub Silent : Counted W → Counted W → Refusal → Type 0
  Silent old new (Input WriteFault) = (text : List ℕ) × Broken contents old new text
  Silent old new _ = new ≡ old
