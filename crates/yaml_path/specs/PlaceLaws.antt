-- What lines and columns count.
use Rattle.std.specs.Prelude.{◌≡◌, ◌↔◌, ℕ, ◌+◌, true, List, ◌++◌, length}
use Rattle.std.specs.Str.{encode_utf8_all}
use Rattle.yaml_definitions.specs.grammar.Rules.{Ends}
use Rattle.yaml_definitions.specs.grammar.Characters.{b-break}
use Rattle.yaml_path.specs.LineModel.{ends_break, chars_from}

-- A break as lines are counted ends at the same places as one of the grammar: [28] b-break (5.4).
abbrev pub BreaksAreBreaks : Type 0
BreaksAreBreaks = (cs : List ℕ) (k : ℕ) → (ends_break cs k ≡ true) ↔ Ends (b-break cs) (k + 1)

-- Of the bytes of some characters in UTF-8, wherever they stand, as many begin a character as there are characters.
abbrev pub ColumnsCountCharacters : Type 0
ColumnsCountCharacters = (front back cs : List ℕ) → chars_from (front ++ (encode_utf8_all cs ++ back)) (length front) (length (encode_utf8_all cs)) ≡ length cs
