-- What a reader that decides says of a production: no reading from here goes on, or what was read goes on wherever any reading does.
use Rattle.std.specs.Prelude.{◌≡◌, ℕ}
use Rattle.yaml_definitions.specs.grammar.Rules.{Rule}
use Rattle.law_one_reading.specs.Readings.{End}

-- no reading from i is followed by E: what a refusal says
pub record Refused {V : Type 0} (R : Rule V) (E : End) (i : ℕ) : Type 0 where
  pub none : (j m : ℕ) (v : V) → R i j v → E j m → ⊥

-- where a reading from i is followed by E, the text goes on from x by F, at the same place: what an answer says
pub record Goes {V : Type 0} (R : Rule V) (E : End) (i : ℕ) (F : End) (x : ℕ) : Type 0 where
  pub goes : (j m : ℕ) (v : V) → R i j v → E j m → F x m

-- where a reading of R from i is followed by E, a reading of S from x is followed by F: what stands between two calls
pub record Rest {V W : Type 0} (R : Rule V) (E : End) (i : ℕ) (S : Rule W) (F : End) (x : ℕ) : Type 0 where
  pub rest : (j m : ℕ) (v : V) → R i j v → E j m → (k : ℕ) × (w : W) × S x k w × F k m

-- the text goes on right there, whatever comes
abbrev pub Here : End
Here x m = m ≡ x
