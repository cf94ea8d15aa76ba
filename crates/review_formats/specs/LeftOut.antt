-- What a list leaves out.
use Rattle.std.specs.Prelude.{ℕ, ◌==◌, ◌&&◌, true, Bool, cond, List, [], ◌++◌, codes}
use Rattle.std.specs.Fmt.{decimal}
use Rattle.review_formats.specs.declared.left_out.LeftOut.{LeftOut}

-- of a list that has all
abbrev pub no_left_out : LeftOut
no_left_out = record { differences = 0; moves = 0; whole = true }

-- the list has all
abbrev pub is_none : LeftOut → Bool
is_none l = (l.whole && (l.differences == 0)) && (l.moves == 0)

-- a number and the noun for it
abbrev pub counted_text : ℕ → List ℕ → List ℕ → List ℕ
counted_text n one many = decimal n ++ cond (n == 1) one many

abbrev pub differences_text : ℕ → List ℕ
differences_text n = counted_text n (codes " difference") (codes " differences")

abbrev pub moves_text : ℕ → List ℕ
moves_text n = counted_text n (codes " move") (codes " moves")

abbrev pub front_text : ℕ → List ℕ
front_text d = cond (d == 0) [] (differences_text d ++ codes ", ")

-- both numbers, without those that are 0
abbrev pub numbers_text : ℕ → ℕ → List ℕ
numbers_text d m = cond (m == 0) (differences_text d) (front_text d ++ moves_text m)

-- the numbers may be greater where not all were looked for
abbrev pub least_text : Bool → List ℕ
least_text whole = cond whole [] (codes "at least ")

-- How many differences and moves are left out or, where none is known, that not all were looked for.
abbrev pub left_out_text : LeftOut → List ℕ
left_out_text l =
    cond ((l.differences == 0) && (l.moves == 0)) (codes "any differences or moves beyond the search limit")
    (least_text l.whole ++ numbers_text l.differences l.moves)

-- the same between two texts, if something is left out
abbrev pub between_text : List ℕ → List ℕ → LeftOut → List ℕ
between_text front end l = cond (is_none l) [] (front ++ (left_out_text l ++ end))
