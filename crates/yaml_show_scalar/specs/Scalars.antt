-- Scalars as they are shown.
use Rattle.std.specs.Prelude.{ℕ, Bool, false, not, ◌||◌, ◌&&◌, ◌==◌, ◌/◌, cond, nat_le, List, [], ◌∷◌, ◌++◌, length, slice_index, codes, bytes_eq, flat_map}
use Rattle.std.specs.List.{count_by, list_any, list_all, slice_split}
use Rattle.std.specs.Str.{chars}
use Rattle.yaml_definitions.specs.model.Core.{is_empty}
use Rattle.yaml_definitions.specs.model.Tag.{float_tag, str_tag}
use Rattle.yaml_show_scalar.specs.declared.escapes.Language.TheVariants.{Yaml}
use Rattle.yaml_show_scalar.specs.Escapes.{is_unseen, escaped, quoted}
use Rattle.yaml_show_scalar.specs.Folds.{width, folded_line, is_foldable}
use Rattle.yaml_show_scalar.specs.Numbers.{float_text}
use Rattle.yaml_show_scalar.specs.Plain.{is_plain}
use Rattle.yaml_show_scalar.specs.Tags.{is_resolved, tag_before}
use Rattle.yaml_show_scalar.specs.Texts.{times, ends_in, has_pair}
use Rattle.yaml_show_scalar.specs.declared.scalar.Quotes.{Quotes}
use Rattle.yaml_show_scalar.specs.declared.scalar.Quotes.TheVariants.{WhereNeeded, Always}

-- ---- on one line

-- the string may be plain here, and is
abbrev pub stands_plain : Quotes → List ℕ → Bool
stands_plain WhereNeeded x = is_plain x
stands_plain Always x = false

-- a string on one line: plain or in double quotes, behind its tag
unfoldable pub string_text : Quotes → List ℕ → List ℕ → List ℕ
string_text quotes g x = tag_before g str_tag ++ cond (stands_plain quotes x) x (quoted Yaml x)

-- A scalar on one line, by its tag and its content: a float as people write it, null, bool and int by their canonical content, any other as a string.
unfoldable pub scalar_text : Quotes → List ℕ → List ℕ → List ℕ
scalar_text quotes g x = cond (bytes_eq g float_tag) (float_text x) (cond (is_resolved g) x (string_text quotes g x))

-- ---- on several lines

-- a line feed
abbrev pub is_feed : ℕ → Bool
is_feed b = b == 10

-- a text without the line feed with which it may end
unfoldable pub body : List ℕ → List ℕ
body [] = []
body (b ∷ bs) = cond (is_empty bs && is_feed b) [] (b ∷ body bs)

-- its lines
abbrev pub lines : List ℕ → List (List ℕ)
lines x = slice_split is_feed (body x)

-- nothing but line feeds, spaces and tabs
unfoldable pub is_blank : List ℕ → Bool
is_blank x = list_all (λ b. is_feed b || ((b == 32) || (b == 9))) x

-- The string may be written on several lines: it has a line feed, and more than blanks.
unfoldable pub is_long : List ℕ → Bool
is_long x = list_any is_feed x && not (is_blank x)

-- each character may be in a literal scalar
unfoldable pub is_seen : List ℕ → Bool
is_seen x = list_all (λ c. (c == 10) || ((c == 9) || not (is_unseen c))) (chars x)

-- the first line that is not empty begins with a space or a tab
unfoldable pub leads_blank : List ℕ → Bool
leads_blank [] = false
leads_blank (b ∷ bs) = cond (is_feed b) (leads_blank bs) ((b == 32) || (b == 9))

-- the indentation of a level: two spaces for each
abbrev pub indentation : ℕ → List ℕ
indentation n = times n (32 ∷ 32 ∷ [])

-- the chomping indicator of a text (YAML 1.2.2, 8.1.1.2) and the end of its line: `+` if it ends with two line feeds, `-` if with none
unfoldable pub chomping : List ℕ → List ℕ
chomping x = cond (ends_in 10 x) (cond (ends_in 10 (body x)) (43 ∷ []) []) (45 ∷ []) ++ (10 ∷ [])

-- `|`, the indentation indicator `2` where the text leads with a blank, and the chomping indicator (YAML 1.2.2, 8.1.1)
abbrev pub literal_header : List ℕ → List ℕ
literal_header x = (124 ∷ cond (leads_blank x) (50 ∷ []) []) ++ chomping x

-- a line of a literal scalar: one that is empty has no indentation
abbrev pub literal_line : ℕ → List ℕ → List ℕ
literal_line n l = cond (length l == 0) [] (indentation n ++ l) ++ (10 ∷ [])

-- a literal scalar (YAML 1.2.2, 8.1.2) whose lines are at this level
unfoldable pub literal_text : ℕ → List ℕ → List ℕ
literal_text n x = literal_header x ++ flat_map (literal_line n) (lines x)

-- a line between double quotes: a space that begins it is escaped
abbrev pub broken_line : ℕ → List ℕ → List ℕ
broken_line n l = indentation n ++ (cond (slice_index l 0 == 32) (92 ∷ []) [] ++ escaped Yaml l)

-- lines, each as a text of its own, with a text between each two
abbrev pub joined : (List ℕ → List ℕ) → List ℕ → List (List ℕ) → List ℕ
joined f between [] = []
joined f between (l ∷ []) = f l
joined f between (l ∷ m ∷ ls) = f l ++ (between ++ joined f between (m ∷ ls))

-- an escaped line feed, and a break that is escaped
abbrev pub broken_feed : List ℕ
broken_feed = codes "\\n\\\n"

-- A double-quoted scalar with a line for each line of the text, and the end of its line. Each break is escaped (YAML 1.2.2, 7.3.1).
unfoldable pub broken_text : ℕ → List ℕ → List ℕ
broken_text n x = codes "\"\\\n" ++ (joined (broken_line n) broken_feed (lines x) ++ (cond (ends_in 10 x) (codes "\\n") [] ++ codes "\"\n"))

-- A literal scalar that is a document begins with no blank, since its indentation indicator could not say so.
unfoldable pub is_literal : Bool → List ℕ → Bool
is_literal is_root x = is_seen x && not (is_root && leads_blank x)

-- a string with line feeds and the end of its line
unfoldable pub long_text : ℕ → Bool → List ℕ → List ℕ → List ℕ
long_text n is_root g x =
    cond (is_literal is_root x) (tag_before g str_tag ++ literal_text n x) (cond (list_any is_feed (body x)) (tag_before g str_tag ++ broken_text n x) (scalar_text Always g x ++ (10 ∷ [])))

-- a line of the text, on as many lines as it needs; of one that is empty there is nothing but the line feed behind it
abbrev pub paragraph : ℕ → List ℕ → List ℕ
paragraph n l = cond (length l == 0) [] (folded_line n l)

-- A folded scalar (YAML 1.2.2, 8.1.3) whose lines are at this level. An empty line stands for each line feed between two lines of the text.
unfoldable pub folded_text : ℕ → List ℕ → List ℕ
folded_text n x = 62 ∷ (chomping x ++ joined (paragraph n) (10 ∷ []) (lines x))

-- a line that is not empty
abbrev pub is_full : List ℕ → Bool
is_full l = not (length l == 0)

-- Lines that are folded: one of them is foldable, and those that are not empty have 80 columns or more on average. None begins with a space, and no character but the line feeds is unseen.
unfoldable pub is_prose : List ℕ → Bool
is_prose b =
    nat_le (count_by is_full (slice_split is_feed b)) (width b / 80) && (not (slice_index b 0 == 32) && (not (has_pair 10 32 b)
    && (list_all (λ c. (c == 10) || not (is_unseen c)) (chars b) && list_any is_foldable (slice_split is_feed b))))

-- The string is folded, with or without the line feed at its end.
abbrev pub is_folded : List ℕ → Bool
is_folded x = is_prose (body x)

-- A scalar and the end of its line. Its further lines are at this level.
unfoldable pub scalar_lines : ℕ → Bool → List ℕ → List ℕ → List ℕ
scalar_lines n is_root g x =
    cond (not (is_resolved g) && is_folded x) (tag_before g str_tag ++ folded_text n x)
    (cond (is_resolved g || not (is_long x)) (scalar_text WhereNeeded g x ++ (10 ∷ [])) (long_text n is_root g x))
