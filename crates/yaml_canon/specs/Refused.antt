-- Why bytes are refused.
use Rattle.std.specs.Prelude.{◌≡◌, ◌⊎◌, ℕ, List}
use Rattle.yaml_definitions.specs.model.Text.{Text}
use Rattle.yaml_text.specs.Refused.{RefusesText}
use Rattle.yaml_text.specs.declared.fault.Fault.{Fault}
use Rattle.yaml_text.specs.declared.side.Side.{Side}
use Rattle.yaml_text.specs.declared.side.Side.TheVariants.{Left, Right}
use Rattle.yaml_canon.specs.Comparing.{ComparerRefuses}
use Rattle.yaml_canon.specs.FaultPlaces.{TellsPlace, TellsSidesPlace}

-- The fault is told of the bytes for this reason, and names a place of them. Where they are no text, it says why.
pub record Refuses (why : List ℕ → Fault → Type 0) (bytes : List ℕ) (fault : Fault) : Type 0 where
  pub refused : why bytes fault
  pub placed : TellsPlace bytes fault
  pub no_text : ((cs : List ℕ) → Text bytes cs → ⊥) → RefusesText bytes fault

-- The fault of a side is what `same` answers of it, and names a place of that side. Where a side is no text, it or an earlier one is named.
pub record RefusesSide (left right : List ℕ) (side : Side) (fault : Fault) : Type 0 where
  pub refused : ComparerRefuses left right side fault
  pub placed : TellsSidesPlace left right side fault
  pub no_left : ((cs : List ℕ) → Text left cs → ⊥) → (side ≡ Left) × RefusesText left fault
  pub no_right : ((cs : List ℕ) → Text right cs → ⊥) → (side ≡ Left) ⊎ ((side ≡ Right) × RefusesText right fault)
