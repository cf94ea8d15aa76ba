-- The lines of the differences of two streams, in the room that a caller gives for them.
use Rattle.std.specs.Prelude.{◌≡◌, ℕ, Bool, List}
use Rattle.yaml_text.specs.declared.fault.Fault.{Fault}
use Rattle.yaml_text.specs.declared.side.Side.{Side}
use Rattle.yaml_canon.specs.Comparing.{Compares, ComparerRefuses}
use Rattle.yaml_canon.specs.FaultPlaces.{TellsSidesPlace}
use Rattle.review_compare.specs.Json.{JsonLines}
use Rattle.yaml_c.specs.declared.fault.YamlcanonFault.{YamlcanonFault}
use Rattle.yaml_c.specs.Answers.{Gives, Lacks}
use Rattle.yaml_c.specs.Told.{told}

-- The two streams are accepted, the answer is whether they mean the same, and the text is the lines of JSON of their differences, of at most so many.
pub record AreDifferences (left right : List ℕ) (lines : ℕ) (answer : Bool) (text : List ℕ) : Type 0 where
  pub compares : Compares left right answer
  pub are : JsonLines left right lines answer text

abbrev pub GivesDiff : List ℕ → List ℕ → ℕ → Bool → List ℕ → List ℕ → ℕ → YamlcanonFault → YamlcanonFault → Type 0
GivesDiff left right lines answer = Gives (AreDifferences left right lines answer)

-- and where the room is too small, whether they mean the same or not
abbrev pub ShortDiff : List ℕ → List ℕ → ℕ → List ℕ → List ℕ → ℕ → YamlcanonFault → YamlcanonFault → Type 0
ShortDiff left right lines = Lacks (λ text. (answer : Bool) × AreDifferences left right lines answer text)

-- One of the streams is refused, for a fault of the side that is told, which names a place of that side. Neither the room nor the length is written.
pub record RefusesDiff (left right old new : List ℕ) (len_before len_after : ℕ) (after : YamlcanonFault) : Type 0 where
  pub side : Side
  pub fault : Fault
  pub refuses : ComparerRefuses left right side fault
  pub placed : TellsSidesPlace left right side fault
  pub numbers : after ≡ told side fault
  pub room : new ≡ old
  pub long : len_after ≡ len_before
