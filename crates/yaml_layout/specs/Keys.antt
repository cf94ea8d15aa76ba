-- Implicit keys (YAML 1.2.2, 7.4.2).
use Rattle.std.specs.Prelude.{ℕ, ◌+◌, ◌≤◌, ◌<◌, List}
use Rattle.yaml_definitions.specs.model.Limits.{key_limit}
use Rattle.yaml_definitions.specs.grammar.Rules.{run, chr, Stands}
use Rattle.yaml_definitions.specs.grammar.Characters.{is_space}
use Rattle.yaml_definitions.specs.grammar.Separation.{OneLine}
use Rattle.yaml_layout.specs.declared.key.Fit.{Fit}
use Rattle.yaml_layout.specs.declared.key.Fit.TheVariants.{Fits, Long, Broken}

module _ (cs : List ℕ) where
  -- on one line and short enough
  abbrev pub IsKeySized : ℕ → ℕ → Type 0
  IsKeySized i j = OneLine cs i j × (j ≤ i + key_limit)

  -- or too long, or not on one line
  abbrev pub FitIs : ℕ → ℕ → Fit → Type 0
  FitIs i j Fits = IsKeySized i j
  FitIs i j Long = OneLine cs i j × (i + key_limit < j)
  FitIs i j Broken = OneLine cs i j → ⊥

  -- after a node from i to j spaces and a colon stand, which ends at k, and the node and the spaces fit a key
  abbrev pub ColonAfter : ℕ → ℕ → ℕ → Type 0
  ColonAfter i j k = (m : ℕ) × run cs is_space j m × chr cs 58 m k × IsKeySized i m

  -- so many spaces and no more
  abbrev pub Spaced : ℕ → ℕ → Type 0
  Spaced j q = run cs is_space j q × (Stands cs is_space q → ⊥)
