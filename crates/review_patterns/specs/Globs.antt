-- Names of files with a `*`: which texts are globs, and which names they stand for.
use Rattle.std.specs.Prelude.{ℕ, Bool, false, ◌&&◌, ◌||◌, ◌==◌, nat_le, nat_lt, not, cond, bytes_eq, eqb, count_by, List, [], ◌∷◌, length, drop}
use Rattle.std.specs.List.{list_any, starts_with, ends_with}
use Rattle.review_patterns.specs.Places.{first_part, last_part}

-- what parts folders, or has a meaning of its own in globs of other tools: `/`, `?`, brackets, braces and `\`
abbrev pub is_special : ℕ → Bool
is_special c = ((c == 47) || (c == 63)) || (((c == 91) || (c == 93)) || (((c == 123) || (c == 125)) || (c == 92)))

-- a text with one `*` at most
abbrev pub is_glob : List ℕ → Bool
is_glob text = nat_lt 0 (length text) && (nat_le (count_by (λ c. c == 42) text) 1 && not (list_any is_special text))

abbrev pub has_star : List ℕ → Bool
has_star glob = list_any (λ c. c == 42) glob

abbrev pub begins_with_dot : List ℕ → Bool
begins_with_dot [] = false
begins_with_dot (c ∷ text) = c == 46

-- the name begins with one text, and what follows ends with another one
abbrev pub ends_after : List ℕ → List ℕ → List ℕ → Bool
ends_after start end name = starts_with eqb name start && ends_with eqb (drop (length start) name) end

-- A `*` stands for any text, and every other byte for itself.
abbrev pub fits_bytes : List ℕ → List ℕ → Bool
fits_bytes glob name = cond (has_star glob) (ends_after (first_part 42 glob) (last_part 42 glob) name) (bytes_eq glob name)

-- A name that begins with `.` is one only of a glob that does.
abbrev pub fits_glob : List ℕ → List ℕ → Bool
fits_glob glob name = not (begins_with_dot name && not (begins_with_dot glob)) && fits_bytes glob name
