-- Which texts are patterns of paths, and of which steps.
use Rattle.std.specs.Prelude.{◌≡◌, ◌⊎◌, ℕ, suc, Bool, true, false, ◌&&◌, ◌||◌, ◌==◌, nat_le, nat_lt, bytes_eq, not, cond, ◌+◌, ◌-◌, List, [], ◌∷◌, ◌++◌, length, take, drop, codes}
use Rattle.std.specs.List.{list_all, prefix_len}
use Rattle.review_patterns.specs.Places.{is_place}

-- ---- names

-- `[A-Za-z_]`
abbrev pub is_name_start : ℕ → Bool
is_name_start c = (nat_le 65 c && nat_le c 90) || ((nat_le 97 c && nat_le c 122) || (c == 95))

-- `[A-Za-z0-9_-]`
abbrev pub is_name_byte : ℕ → Bool
is_name_byte c = is_name_start c || ((nat_le 48 c && nat_le c 57) || (c == 45))

-- `[A-Za-z_][A-Za-z0-9_-]*`
abbrev pub is_name : List ℕ → Bool
is_name [] = false
is_name (c ∷ x) = is_name_start c && list_all is_name_byte x

-- how many bytes go on a name with which a text begins
abbrev pub name_len : List ℕ → ℕ
name_len [] = 0
name_len (c ∷ x) = cond (is_name_start c) (prefix_len is_name_byte x + 1) 0

-- ---- texts in brackets

-- `[` and `{`
abbrev pub is_open : ℕ → Bool
is_open c = (c == 91) || (c == 123)

-- `]` and `}`
abbrev pub is_close : ℕ → Bool
is_close c = (c == 93) || (c == 125)

-- what is none of these, and no `"` and no `<`
abbrev pub is_other : ℕ → Bool
is_other c = (not (is_open c) && not (is_close c)) && (not (c == 34) && not (c == 60))

-- A text between double quotes, and the second quote. A `\` takes the byte behind it with it.
pub data InQuotes : List ℕ → Type 0 where
  quote_end : InQuotes (34 ∷ [])
  escape : {c : ℕ} {text : List ℕ} → InQuotes text → InQuotes (92 ∷ c ∷ text)
  quoted_byte : {c : ℕ} {text : List ℕ} → (c == 34) ≡ false → (c == 92) ≡ false → InQuotes text → InQuotes (c ∷ text)

-- A tag behind its `<`, up to its `>`.
pub data InTag : List ℕ → Type 0 where
  tag_end : InTag (62 ∷ [])
  tag_byte : {c : ℕ} {text : List ℕ} → (c == 62) ≡ false → InTag text → InTag (c ∷ text)

-- What stands behind so many open brackets, up to the one that closes the first of them. Brackets between quotes and in tags do not count.
pub data Closes : ℕ → List ℕ → Type 0 where
  closed : Closes 0 []
  opens : {depth c : ℕ} {text : List ℕ} → is_open c ≡ true → Closes (suc (suc depth)) text → Closes (suc depth) (c ∷ text)
  closes : {depth c : ℕ} {text : List ℕ} → is_close c ≡ true → Closes depth text → Closes (suc depth) (c ∷ text)
  quotes : {depth : ℕ} {quoted text : List ℕ} → InQuotes quoted → Closes (suc depth) text → Closes (suc depth) (34 ∷ (quoted ++ text))
  tags : {depth : ℕ} {tag text : List ℕ} → InTag tag → Closes (suc depth) text → Closes (suc depth) (60 ∷ (tag ++ text))
  other : {depth c : ℕ} {text : List ℕ} → is_other c ≡ true → Closes (suc depth) text → Closes (suc depth) (c ∷ text)

-- how the text of a key begins
abbrev pub begins_key : List ℕ → Bool
begins_key [] = false
begins_key (c ∷ x) = ((c == 34) || (c == 33)) || is_open c

-- a name between double quotes
abbrev pub is_quoted_name : List ℕ → Bool
is_quoted_name [] = false
is_quoted_name (c ∷ x) = (c == 34) && (nat_lt 0 (name_len x) && bytes_eq (drop (name_len x) x) (codes "\""))

-- What may stand between the brackets of a step: any place, places, or the text of a key that is no name. A key that is a name stands behind a `.`, without quotes and brackets.
abbrev pub is_inside : List ℕ → Bool
is_inside text = bytes_eq text (codes "*") || (is_place text || (begins_key text && not (is_quoted_name text)))

-- ---- steps

-- behind a `.`: any step, or the one to the value of a key that is a name
abbrev pub IsNamed : List ℕ → Type 0
IsNamed text = (text ≡ codes "*") ⊎ (is_name text ≡ true)

-- what may stand between the brackets of a step, and then a `]`
abbrev pub is_bracketed : List ℕ → Bool
is_bracketed text = bytes_eq (drop (length text - 1) text) (codes "]") && is_inside (take (length text - 1) text)

-- behind a `[`: such a text, of which the last bracket closes the first one
abbrev pub IsBracketed : List ℕ → Type 0
IsBracketed text = (is_bracketed text ≡ true) × Closes 1 text

-- `.*`, `.name`, or a text in brackets
abbrev pub IsStep : List ℕ → Type 0
IsStep text = ((rest : List ℕ) × IsNamed rest × (text ≡ 46 ∷ rest)) ⊎ ((rest : List ℕ) × IsBracketed rest × (text ≡ 91 ∷ rest))

abbrev pub AreSteps : List (List ℕ) → Type 0
AreSteps [] = Unit {0}
AreSteps (step ∷ steps) = IsStep step × AreSteps steps

-- its first byte is this one
abbrev pub begins_with : ℕ → List ℕ → Bool
begins_with first [] = false
begins_with first (c ∷ x) = c == first

-- `.` and `[`
abbrev pub begins_step : ℕ → Bool
begins_step c = (c == 46) || (c == 91)

-- where no step begins, the text is at its end
abbrev pub at_step : List ℕ → Bool
at_step [] = true
at_step (c ∷ x) = begins_step c

-- the step for the document: it may be left out
abbrev pub is_document : List ℕ → Bool
is_document [] = true
is_document (c ∷ x) = bytes_eq (c ∷ x) (codes "*") || is_place (c ∷ x)
