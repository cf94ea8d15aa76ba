-- What the sinks hold of a text, and why they stop.
use Rattle.std.specs.Prelude.{◌≡◌, ℕ, ◌<◌, List, length}
use Rattle.yaml_text.specs.declared.fault.Fault.{Fault}
use Rattle.yaml_text.specs.declared.fault.Fault.TheVariants.{TextTooLong}
use Rattle.yaml_spell.specs.Pieces.{Began}
use Rattle.yaml_spell.specs.declared.length.Length.{Length}

abbrev pub len_of : Length → ℕ
len_of s = s.len

abbrev pub limit_of : Length → ℕ
limit_of s = s.limit

-- A length begins with its limit.
pub record LengthHolds (s : Length) (b : Began) (xs : List ℕ) : Type 0 where
  pub limit : limit_of s ≡ b.number
  pub len : len_of s ≡ length xs

-- the text is longer than the limit
pub record LengthStops (b : Began) (fault : Fault) (xs : List ℕ) : Type 0 where
  pub too_long : fault ≡ TextTooLong
  pub longer : b.number < length xs
