-- What a list of sums says, line by line.
use Rattle.std.specs.Prelude.{◌==◌, ◌+◌, ◌&&◌, ◌||◌, ◌++◌, not, ℕ, Bool, true, false, cond, nat_lt, codes, List, [], ◌∷◌, length, map, take, drop, slice_index, Option, Some, None, is_some, option_and_then, unwrap_or, Result, Ok, Err}
use Rattle.std.specs.List.{starts_with}
use Rattle.hex.specs.Hex.{decode_sized}
use Rattle.hex.specs.declared.error.FromHexError.{FromHexError}
use Rattle.yaml_sum.specs.Names.{pieces}
use Rattle.yaml_sum.specs.Parts.{line_text, is_white, skip_white, is_marked, unmarked, cut_last}

-- a digest, and the name of the file that is to have it
pub data Listing : Type 0 where
  listed : (digest name : List ℕ) → Listing

abbrev pub listed_name : Listing → List ℕ
listed_name (listed digest name) = name

-- ---- names

-- the byte of an escape, by what stands behind the backslash
abbrev pub escaped : ℕ → Option ℕ
escaped b = cond (b == 92) (Some 92) (cond (b == 110) (Some 10) (cond (b == 114) (Some 13) None))

abbrev pub with_front : Option ℕ → Option (List ℕ) → Option (List ℕ)
with_front (Some b) (Some bs) = Some (b ∷ bs)
with_front (Some b) None = None
with_front None bs = None

-- a name that is written with escapes, as it is; none where a backslash begins no escape
abbrev pub name_of : List ℕ → Option (List ℕ)
name_of [] = Some []
name_of (b ∷ []) = cond (b == 92) None (Some (b ∷ []))
name_of (b ∷ c ∷ bs) = cond (b == 92) (with_front (escaped c) (name_of bs)) (with_front (Some b) (name_of (c ∷ bs)))

-- a name by how it is written: with escapes, or as it is
abbrev pub name_as : Bool → List ℕ → Option (List ℕ)
name_as true written = name_of written
name_as false written = Some written

-- ---- the form of `sum`: a digest, and a name

-- the digest that 64 hex digits tell
abbrev pub told_digest : Result (List ℕ) FromHexError → Option (List ℕ)
told_digest (Ok digest) = Some digest
told_digest (Err e) = None

abbrev pub both : Option (List ℕ) → Option (List ℕ) → Option Listing
both (Some digest) (Some name) = Some (listed digest name)
both (Some digest) None = None
both None name = None

-- 64 bytes, a blank, and at least one byte more
abbrev pub has_digits : List ℕ → Bool
has_digits line = nat_lt 65 (length line) && is_white (slice_index line 64)

-- then a space or a `*`, and at least one byte more
abbrev pub is_apart : List ℕ → Bool
is_apart line = nat_lt 66 (length line) && ((slice_index line 65 == 32) || (slice_index line 65 == 42))

-- the name as it is written: behind one blank, or behind a blank and a space or a `*`
abbrev pub name_part : Bool → List ℕ → Option (List ℕ)
name_part true line = Some (drop 65 line)
name_part false line = cond (is_apart line) (Some (drop 66 line)) None

-- the name that is written so
abbrev pub name_read : Bool → Option (List ℕ) → Option (List ℕ)
name_read is_escaped (Some written) = name_as is_escaped written
name_read is_escaped None = None

-- what such a line says: a digest in hex, in either case, and the name
abbrev pub plain : Bool → Bool → List ℕ → Option Listing
plain one_space is_escaped line = cond (has_digits line) (both (told_digest (decode_sized (take 64 line) 32)) (name_read is_escaped (name_part one_space line))) None

-- whether it has one blank alone before the name
abbrev pub form_of : List ℕ → Option Bool
form_of line = cond (has_digits line) (cond (is_some (told_digest (decode_sized (take 64 line) 32))) (Some (not (is_apart line))) None) None

-- ---- the form with a tag: `SHA256 (name) = digest`

-- what is behind `SHA256 (` or `SHA256(`
abbrev pub tag_end : List ℕ → Option (List ℕ)
tag_end line = cond (starts_with (λ a b. a == b) line (codes "SHA256 (")) (Some (drop 8 line)) (cond (starts_with (λ a b. a == b) line (codes "SHA256(")) (Some (drop 7 line)) None)

-- the digest behind an equals sign, with blanks around that
abbrev pub after_equals : List ℕ → Option (List ℕ)
after_equals [] = None
after_equals (b ∷ bs) = cond (b == 61) (told_digest (decode_sized (skip_white bs) 32)) None

abbrev pub tagged_by : Bool → Option (List ℕ × List ℕ) → Option Listing
tagged_by is_escaped None = None
tagged_by is_escaped (Some cut) = both (after_equals (skip_white cut.1)) (name_as is_escaped cut.0)

-- the name goes up to the last closing bracket
abbrev pub tagged : Bool → List ℕ → Option Listing
tagged is_escaped text = tagged_by is_escaped (cut_last text)

-- ---- a line

abbrev pub listing_by : Bool → Bool → List ℕ → Option (List ℕ) → Option Listing
listing_by one_space is_escaped line (Some text) = tagged is_escaped text
listing_by one_space is_escaped line None = plain one_space is_escaped line

abbrev pub listing_as : Bool → Bool → List ℕ → Option Listing
listing_as one_space is_escaped line = listing_by one_space is_escaped line (tag_end line)

-- What a line says in a list with one blank or more before its names. Behind a backslash the name is written with escapes, else as it is. None is said by a line of another form.
abbrev pub listing_of : Bool → List ℕ → Option Listing
listing_of one_space line = listing_as one_space (is_marked (skip_white line)) (unmarked (skip_white line))

abbrev pub form_in : List ℕ → Option Bool
form_in line = form_of (unmarked (skip_white line))

-- ---- a list

-- the first line that begins with a digest tells whether names have one blank alone before them
abbrev pub has_one_space : List (List ℕ) → Bool
has_one_space [] = false
has_one_space (line ∷ lines) = unwrap_or (form_in line) (has_one_space lines)

-- an empty line, and one that begins with `#`
abbrev pub is_remark : List ℕ → Bool
is_remark [] = true
is_remark (b ∷ line) = b == 35

abbrev pub listing_in : Option Listing → List Listing
listing_in (Some l) = l ∷ []
listing_in None = []

-- a line of another form is none of a sum
abbrev pub improper_in : Option Listing → ℕ
improper_in (Some l) = 0
improper_in None = 1

-- what some lines say, in order, remarks left out
abbrev pub all_listings : Bool → List (List ℕ) → List Listing
all_listings m [] = []
all_listings m (line ∷ lines) = cond (is_remark line) [] (listing_in (listing_of m line)) ++ all_listings m lines

-- how many of them are none of a sum
abbrev pub improper_count : Bool → List (List ℕ) → ℕ
improper_count m [] = 0
improper_count m (line ∷ lines) = cond (is_remark line) 0 (improper_in (listing_of m line)) + improper_count m lines

-- the lines of a list, which end in line feeds, or in carriage returns and line feeds
abbrev pub lines_of : List ℕ → List (List ℕ)
lines_of list = map line_text (pieces 10 list)

-- what a list says
abbrev pub listings_in : List ℕ → List Listing
listings_in list = all_listings (has_one_space (lines_of list)) (lines_of list)

-- how many of its lines are none of a sum
abbrev pub impropers_in : List ℕ → ℕ
impropers_in list = improper_count (has_one_space (lines_of list)) (lines_of list)
