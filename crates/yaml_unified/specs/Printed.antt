-- How an edit script is printed.
use Rattle.std.specs.Prelude.{ℕ, Bool, true, false, not, cond, ◌+◌, ◌-◌, ◌/◌, ◌%◌, ◌&&◌, ◌||◌, ◌==◌, nat_le, nat_lt, List, [], ◌∷◌, ◌++◌, take, drop, codes}
use Rattle.std.specs.List.{flat_map, list_any}
use Rattle.std.specs.Str.{encode_utf8_all, chars}
use Rattle.yaml_definitions.specs.canonical.CharText.{hex_digit}
use Rattle.yaml_unified.specs.Script.{is_change}
use Rattle.yaml_unified.specs.declared.lines.Piece.{Piece}
use Rattle.yaml_unified.specs.declared.script.Edit.{Edit}
use Rattle.yaml_unified.specs.declared.script.Edit.TheVariants.{Kept, Removed, Added}

-- ---- a line

abbrev pub is_control : ℕ → Bool
is_control c = nat_lt c 32 || (nat_le 127 c && nat_lt c 160)

-- `\x` and two digits (YAML 1.2.2, 5.7)
abbrev pub byte_escape : ℕ → List ℕ
byte_escape c = 92 ∷ 120 ∷ hex_digit (c / 16) ∷ hex_digit (c % 16) ∷ []

-- A character of a line: a backslash, a tab and a control character as their escapes, and so a space at the end.
abbrev pub line_char : Bool → ℕ → List ℕ
line_char at_end c = cond (c == 92) (92 ∷ 92 ∷ []) (cond (c == 9) (92 ∷ 116 ∷ []) (cond (is_control c || (at_end && (c == 32))) (byte_escape c) (c ∷ [])))

abbrev pub line_text : Bool → List ℕ → List ℕ
line_text at_end text = encode_utf8_all (flat_map (line_char at_end) (chars text))

-- what turns a colour of a terminal off
abbrev pub plain : Bool → List ℕ
plain color = cond color (27 ∷ codes "[0m") []

-- the line, and in a line of its own that no line feed ends it
abbrev pub piece_text : Bool → Piece → List ℕ
piece_text color p = line_text false p.line.now ++ (line_text true p.spaces.now ++ (plain color ++ cond p.has_end (codes "\n") (codes "\n\t\\ no line feed at the end\n")))

-- ---- an edit

-- behind a tab; in red what is removed, and in green what is added
abbrev pub sign : Bool → Edit → List ℕ
sign color (Kept p) = codes "\t "
sign color (Removed p) = cond color (9 ∷ 27 ∷ codes "[31m-") (codes "\t-")
sign color (Added p) = cond color (9 ∷ 27 ∷ codes "[32m+") (codes "\t+")

abbrev pub piece : Edit → Piece
piece (Kept p) = p
piece (Removed p) = p
piece (Added p) = p

abbrev pub edit_text : Bool → Edit → List ℕ
edit_text color e = sign color e ++ piece_text color (piece e)

-- ---- a script

-- the edit at this place, or one of so many before it or behind it, is a change
abbrev pub is_near : ℕ → List Edit → ℕ → Bool
is_near context edits k = list_any is_change (take ((k - (k - context)) + (context + 1)) (drop (k - context) edits))

-- a line is printed behind lines that are left out, and there is a change before these
abbrev pub opens : ℕ → List Edit → ℕ → Bool
opens context edits k = not (is_near context edits (k - 1)) && list_any is_change (take k edits)

-- what is printed of the edit at this place: nothing, if no change is near
abbrev pub place_text : ℕ → Bool → List Edit → ℕ → Edit → List ℕ
place_text context color edits k e = cond (is_near context edits k) (cond (opens context edits k) (codes "\t...\n") [] ++ edit_text color e) []

abbrev pub texts_from : ℕ → Bool → List Edit → ℕ → List Edit → List ℕ
texts_from context color edits k [] = []
texts_from context color edits k (e ∷ rest) = place_text context color edits k e ++ texts_from context color edits (k + 1) rest

-- the changes with so many lines before and behind each
abbrev pub script_text : ℕ → Bool → List Edit → List ℕ
script_text context color edits = texts_from context color edits 0 edits
