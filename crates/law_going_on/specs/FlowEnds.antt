-- How a text goes on between brackets, with separation as the productions have it there (YAML 1.2.2, 7.4).
use Rattle.std.specs.Prelude.{◌⊎◌, ℕ, List}
use Rattle.yaml_definitions.specs.grammar.Rules.{Span, maybe}
use Rattle.yaml_definitions.specs.grammar.Separation.{flow_in, s-separate as separate}
use Rattle.law_one_reading.specs.Readings.{End}
use Rattle.law_one_reading.specs.Follows.{Closes, Colon, EndsYamlKey}

module _ (cs : List ℕ) (n : ℕ) where
  abbrev pub OptionalSeparation : Span
  OptionalSeparation = maybe (separate cs n flow_in)

  -- after a part: separation, and a comma or a closing bracket
  abbrev pub InFlow : End
  InFlow j m = OptionalSeparation j m × Closes cs m

  -- after a node: the same, or the colon that makes it a key
  abbrev pub EndsYaml : ℕ → Type 0
  EndsYaml j = (q : ℕ) × OptionalSeparation j q × (Closes cs q ⊎ EndsYamlKey cs q)

  abbrev pub EndsJson : ℕ → Type 0
  EndsJson j = (q : ℕ) × OptionalSeparation j q × (Closes cs q ⊎ Colon cs q)
