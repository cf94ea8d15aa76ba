-- What the decoded prefixes of handles are.
use Rattle.std.specs.Prelude.{◌≡◌, ℕ, List, ◌++◌, Option}
use Rattle.std.specs.Option.{option_map}
use Rattle.yaml_definitions.specs.grammar.Tags.{percent_decode}

-- a prefix that is decoded alike whatever follows: none of its escapes ends behind it (5.6)
abbrev pub IsWhole : List ℕ → Type 0
IsWhole prefix = (suffix : List ℕ) → percent_decode (prefix ++ suffix) ≡ percent_decode prefix ++ percent_decode suffix

-- bytes that stand for a prefix: those of a suffix behind them are both decoded as one text. None stand for none
abbrev pub StandFor : Option (List ℕ) → Option (List ℕ) → Type 0
StandFor bytes prefix = (suffix : List ℕ) → option_map (λ b. b ++ percent_decode suffix) bytes ≡ option_map (λ p. percent_decode (p ++ suffix)) prefix
