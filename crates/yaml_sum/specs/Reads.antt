-- What reading a line of a list of sums answers.
use Rattle.std.specs.Prelude.{◌≡◌, ◌++◌, ℕ, Bool, true, false, List, Option, Some, None, option_map}
use Rattle.yaml_sum.specs.Listed.{Listing, name_as, name_of, both}
use Rattle.yaml_sum.specs.declared.listed.Listed.{Listed}

-- what a line says of which this was read
abbrev pub says : Listed → Option Listing
says l = both (Some l.digest) (name_as l.is_escaped l.name.now)

abbrev pub said : Option Listed → Option Listing
said (Some l) = says l
said None = None

-- the name is this one, or it is not written properly
abbrev pub IsNamed : Bool → Option (List ℕ) → List ℕ → Type 0
IsNamed true name plain = name ≡ Some plain
IsNamed false name plain = name ≡ None

-- a name is this beginning and what the rest of its spelling stands for
abbrev pub name_behind : List ℕ → List ℕ → Option (List ℕ)
name_behind plain rest = option_map (λ z. plain ++ z) (name_of rest)
