-- What is found in files, and the words for it.
use Rattle.std.specs.Prelude.{ℕ, zero, suc, ◌-◌, ◌^◌, min, Bool, List, [], ◌++◌, length, codes}
use Rattle.std.specs.Fmt.{decimal}
use Rattle.std.specs.List.{list_all, sum_by}
use Rattle.review_formats.specs.declared.finding.Part.{Part}
use Rattle.review_formats.specs.declared.finding.Sides.{Sides}
use Rattle.review_formats.specs.declared.finding.Sign.{Sign}
use Rattle.review_formats.specs.declared.finding.Sign.TheVariants.{Changed, Left, Right, Moved}
use Rattle.review_formats.specs.declared.left_out.LeftOut.{LeftOut}

-- what a difference is called
abbrev pub sign_word : Sign → List ℕ
sign_word Changed = codes "changed"
sign_word Left = codes "left"
sign_word Right = codes "right"
sign_word Moved = codes "moved"

-- one character for it
abbrev pub sign_mark : Sign → List ℕ
sign_mark Changed = codes "~"
sign_mark Left = codes "-"
sign_mark Right = codes "+"
sign_mark Moved = codes ">"

-- what it says of the two sides
abbrev pub sign_says : Sign → List ℕ
sign_says Changed = codes "changed"
sign_says Left = codes "only on the left"
sign_says Right = codes "only on the right"
sign_says Moved = codes "moved"

-- how many other differences aliases show, if there are some
abbrev pub others_text : ℕ → List ℕ
others_text zero = []
others_text (suc n) = codes " (and " ++ (decimal (suc n) ++ codes " more through aliases)")

-- what a difference says of the two sides, and how many others it stands for
unfoldable pub sides_says : Sides → List ℕ
sides_says sides = sign_says sides.sign ++ others_text sides.others

-- how many differences and moves were found in these parts and are not listed, as far as a number of 64 bits counts, and whether all were looked for
abbrev pub differences_in : List Part → ℕ
differences_in parts = min (sum_by (λ part. part.left_out.differences) parts) (2 ^ 64 - 1)

abbrev pub moves_in : List Part → ℕ
moves_in parts = min (sum_by (λ part. part.left_out.moves) parts) (2 ^ 64 - 1)

abbrev pub are_whole : List Part → Bool
are_whole parts = list_all (λ part. part.left_out.whole) parts

abbrev pub left_out_of : List Part → LeftOut
left_out_of parts = record { differences = differences_in parts; moves = moves_in parts; whole = are_whole parts }

-- how many findings these parts have
abbrev pub findings_in : List Part → ℕ
findings_in parts = sum_by (λ part. length part.list.items) parts

-- how many places are listed, as far as a number of 64 bits counts
abbrev pub count_of : List Part → ℕ
count_of parts = min (findings_in parts) (2 ^ 64 - 1)
