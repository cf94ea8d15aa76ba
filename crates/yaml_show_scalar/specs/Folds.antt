-- A long line of a string on several lines, as in folded scalars (YAML 1.2.2, 8.1.3). A line ends where its own words say so, so a changed word changes few lines.
use Rattle.std.specs.Prelude.{ℕ, Bool, not, ◌||◌, ◌&&◌, ◌+◌, ◌==◌, cond, nat_le, nat_lt, List, [], ◌∷◌, ◌++◌, length, slice_index}
use Rattle.std.specs.List.{list_any, list_all, slice_split}
use Rattle.std.specs.Str.{chars}
use Rattle.yaml_show_scalar.specs.Escapes.{is_unseen}
use Rattle.yaml_show_scalar.specs.Texts.{times, ends_in}

abbrev pub is_space : ℕ → Bool
is_space b = b == 32

-- how many columns a text takes: one for each character
abbrev pub width : List ℕ → ℕ
width text = length (chars text)

-- so many columns further; 81 stands for each column past the 80th
abbrev pub column_after : ℕ → ℕ → ℕ
column_after column n = cond (nat_le (column + n) 80) (column + n) 81

-- the word ends with `.`, `,`, `;`, `:`, `!` or `?`
unfoldable pub ends_phrase : List ℕ → Bool
ends_phrase word = ends_in 46 word || (ends_in 44 word || (ends_in 59 word || (ends_in 58 word || (ends_in 33 word || ends_in 63 word))))

-- the column behind the next word, if that is on the same line
abbrev pub column_behind : ℕ → List ℕ → ℕ
column_behind column word = column_after (column_after column 1) (width word)

-- A line ends at this column, between two words with one space between them: the next word would pass the 80th column; or the line has 30 columns, and the word before ends with a mark.
unfoldable pub ends_line : ℕ → List ℕ → List ℕ → Bool
ends_line column before word =
    not (length before == 0) && (not (length word == 0) && (nat_lt 80 (column_behind column word) || (nat_le 30 column && ends_phrase before)))

abbrev pub next_column : Bool → ℕ → List ℕ → ℕ
next_column ends column word = cond ends (column_after 0 (width word)) (column_behind column word)

-- a word, and what stands before it: the end of a line with the indentation of the next, or a space
abbrev pub next_word : ℕ → Bool → List ℕ → List ℕ
next_word level ends word = cond ends (10 ∷ times level (32 ∷ 32 ∷ [])) (32 ∷ []) ++ word

-- the words behind one that ends at this column
abbrev pub further_words : ℕ → ℕ → List ℕ → List (List ℕ) → List ℕ
further_words level column before [] = []
further_words level column before (word ∷ words) =
    next_word level (ends_line column before word) word ++ further_words level (next_column (ends_line column before word) column word) word words

-- words, from the first column on
abbrev pub folded_words : ℕ → List (List ℕ) → List ℕ
folded_words level [] = []
folded_words level (word ∷ words) = word ++ further_words level (column_after 0 (width word)) word words

-- a line of words at this level
abbrev pub folded_line : ℕ → List ℕ → List ℕ
folded_line level line = times level (32 ∷ 32 ∷ []) ++ (folded_words level (slice_split is_space line) ++ (10 ∷ []))

-- It is longer than 100 columns, has a space, begins and ends with none, and has no unseen character.
unfoldable pub is_foldable : List ℕ → Bool
is_foldable line =
    nat_lt 100 (width line) && (list_any is_space line && (not (slice_index line 0 == 32) && (not (ends_in 32 line) && list_all (λ c. not (is_unseen c)) (chars line))))
