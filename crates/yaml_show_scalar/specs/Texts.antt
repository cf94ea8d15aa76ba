-- Texts, and what is written of one piece by piece.
use Rattle.std.specs.Prelude.{ℕ, zero, suc, Bool, false, ◌||◌, ◌&&◌, ◌==◌, cond, List, [], ◌∷◌, ◌++◌, string_bytes}
use Rattle.std.specs.declared.option.Option.{Option}
use Rattle.std.specs.declared.option.Option.TheVariants.{None, Some}
use Rattle.yaml_definitions.specs.model.Core.{is_empty}
use Rattle.yaml_show_scalar.specs.declared.output.Out.{Out}

-- what is written
abbrev pub written : Out → List ℕ
written out = string_bytes out.text

-- a text so many times
abbrev pub times : ℕ → List ℕ → List ℕ
times zero piece = []
times (suc n) piece = piece ++ times n piece

-- the text ends with this byte
abbrev pub ends_in : ℕ → List ℕ → Bool
ends_in mark [] = false
ends_in mark (b ∷ bs) = cond (is_empty bs) (b == mark) (ends_in mark bs)

-- the text begins with this byte
abbrev pub begins_with : ℕ → List ℕ → Bool
begins_with mark [] = false
begins_with mark (b ∷ bs) = b == mark

-- somewhere in the text, the first byte stands before the second
abbrev pub has_pair : ℕ → ℕ → List ℕ → Bool
has_pair first second [] = false
has_pair first second (b ∷ bs) = (b == first && begins_with second bs) || has_pair first second bs

-- the text behind this front, where it has it
abbrev pub behind : List ℕ → List ℕ → Option (List ℕ)
behind [] text = Some text
behind (a ∷ front) [] = None
behind (a ∷ front) (b ∷ bs) = cond (b == a) (behind front bs) None
