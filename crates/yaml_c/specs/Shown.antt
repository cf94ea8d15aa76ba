-- The readable texts of a stream, in the room that a caller gives for them.
use Rattle.std.specs.Prelude.{◌≡◌, ◌⊎◌, ℕ, List}
use Rattle.yaml_show.specs.Alike.{MeanAlike}
use Rattle.yaml_show.specs.Lines.{LinesOf}
use Rattle.yaml_show.specs.Refused.{ShowRefuses, LinesRefuse}
use Rattle.yaml_show.specs.Shows.{Shows}
use Rattle.yaml_c.specs.declared.fault.YamlcanonFault.{YamlcanonFault}
use Rattle.yaml_c.specs.Answers.{Gives, Lacks, Refuses}

-- the text that is shown of these bytes: a stream that means the same
abbrev pub IsShown : List ℕ → List ℕ → Type 0
IsShown bytes text = MeanAlike bytes text × Shows bytes text

abbrev pub GivesShown : List ℕ → List ℕ → List ℕ → ℕ → YamlcanonFault → YamlcanonFault → Type 0
GivesShown bytes = Gives (IsShown bytes)

abbrev pub ShortShown : List ℕ → List ℕ → List ℕ → ℕ → YamlcanonFault → YamlcanonFault → Type 0
ShortShown bytes = Lacks (IsShown bytes)

abbrev pub RefusesShown : List ℕ → List ℕ → List ℕ → ℕ → ℕ → YamlcanonFault → Type 0
RefusesShown bytes = Refuses (ShowRefuses bytes)

-- the number of TextTooLong or of OutOfMemory
abbrev pub IsLengthOrMemoryNumber : ℕ → Type 0
IsLengthOrMemoryNumber number = (number ≡ 20) ⊎ (number ≡ 21)

abbrev pub GivesJson : List ℕ → List ℕ → List ℕ → ℕ → YamlcanonFault → YamlcanonFault → Type 0
GivesJson bytes = Gives (LinesOf bytes)

abbrev pub ShortJson : List ℕ → List ℕ → List ℕ → ℕ → YamlcanonFault → YamlcanonFault → Type 0
ShortJson bytes = Lacks (LinesOf bytes)

abbrev pub RefusesJson : List ℕ → List ℕ → List ℕ → ℕ → ℕ → YamlcanonFault → Type 0
RefusesJson bytes = Refuses (LinesRefuse bytes)

-- Neither the room nor the length is written, and no fault is told.
pub record WritesNothing (old new : List ℕ) (len_before len_after : ℕ) (before after : YamlcanonFault) : Type 0 where
  pub room : new ≡ old
  pub long : len_after ≡ len_before
  pub silent : after ≡ before
