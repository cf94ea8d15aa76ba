-- What is told of a list as a whole.
use Rattle.std.specs.Prelude.{◌≡◌, ◌==◌, ◌++◌, ◌&&◌, ◌||◌, not, nat_lt, ℕ, Bool, true, false, cond, max, List, [], ◌∷◌, Option, codes}
use Rattle.std.specs.Fmt.{decimal}
use Rattle.yaml_text.specs.declared.counted.Counted.{Counted}
use Rattle.yaml_sum.specs.Complaints.{IsTold}
use Rattle.yaml_sum.specs.Lines.{name_text}
use Rattle.yaml_sum.specs.declared.asked.Rules.{Rules}
use Rattle.yaml_sum.specs.declared.told.Told.{Told}

-- how many there are, if there are any
abbrev pub count_line : List ℕ → ℕ → List ℕ
count_line what count = cond (count == 0) [] (codes "yamlreview: " ++ (what ++ (decimal count ++ codes "\n")))

-- this of the list of this name
abbrev pub list_line : List ℕ → List ℕ → List ℕ
list_line list what = codes "yamlreview: " ++ (name_text list ++ what)

-- how many lines are none of a sum, how many files have none, and how many have another
abbrev pub counts : Told → List ℕ
counts told = count_line (codes "lines that are no sums: ") told.improper ++ (count_line (codes "files without a sum: ") told.unread ++ count_line (codes "files with another sum: ") told.wrong)

-- that files which are not there are left out, and none has its sum
abbrev pub is_unverified : Rules → Told → Bool
is_unverified rules told = rules.skips_missing && not told.is_verified

abbrev pub unverified_line : Rules → List ℕ → Told → List ℕ
unverified_line rules list told = cond (is_unverified rules told) (list_line list (codes ": no file has its sum\n")) []

-- the lines that are told: of a list in which no line is one of a sum that alone
abbrev pub summary : Rules → List ℕ → Told → List ℕ
summary rules list told = cond rules.is_silent [] (cond told.has_sums (counts told ++ unverified_line rules list told) (list_line list (codes ": no line is one of a sum\n")))

-- a line that is none of a sum counts, where that is asked
abbrev pub is_failed : Rules → Told → Bool
is_failed rules told = (rules.is_strict && nat_lt 0 told.improper) || is_unverified rules told

-- the status: 3 of a list in which no line is one of a sum, else that of the worst file
abbrev pub list_status : Rules → Told → ℕ
list_status rules told = cond told.has_sums (max told.worst (cond (is_failed rules told) 1 0)) 3

module _ {E : Type 0} (told : E → Option (List ℕ)) where
  -- Standard error has a text, or a beginning of it where a call fails, and nothing where there is none.
  abbrev pub TellsText : List ℕ → Counted E → Counted E → Type 0
  TellsText [] before after = after ≡ before
  TellsText (b ∷ bs) before after = IsTold told before after (b ∷ bs)

  abbrev pub Closes : Rules → List ℕ → Told → Counted E → Counted E → ℕ → Type 0
  Closes rules list t before after status = TellsText (summary rules list t) before after × (status ≡ list_status rules t)
