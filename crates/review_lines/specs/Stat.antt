-- The numbers of differences and moves, in place of their lines.
use Rattle.std.specs.Prelude.{ℕ, Bool, cond, ◌==◌, ◌&&◌, ◌||◌, length, List, [], ◌++◌, codes}
use Rattle.std.specs.List.{filter}
use Rattle.std.specs.Option.{is_some, is_none}
use Rattle.std.specs.Fmt.{decimal}
use Rattle.yaml_diff.specs.declared.difference.Difference.{Difference}
use Rattle.yaml_diff.specs.declared.difference.Found.{Found}
use Rattle.review_text.specs.declared.options.Diff.{Diff}
use Rattle.review_text.specs.declared.options.Form.{Form}
use Rattle.review_text.specs.declared.options.Form.TheVariants as form
use Rattle.review_text.specs.Terminal.{terminal}

-- ---- kinds: of each difference just one is true

-- no left node
abbrev pub is_added : Difference → Bool
is_added d = is_none d.left

-- a left node and no right one
abbrev pub is_removed : Difference → Bool
is_removed d = is_some d.left && is_none d.right

-- both nodes
abbrev pub is_changed : Difference → Bool
is_changed d = is_some d.left && is_some d.right

-- ---- numbers

abbrev pub added : Found → ℕ
added f = length (filter is_added f.list.items)

abbrev pub removed : Found → ℕ
removed f = length (filter is_removed f.list.items)

abbrev pub changed : Found → ℕ
changed f = length (filter is_changed f.list.items)

abbrev pub moved : Found → ℕ
moved f = length f.moves.items

-- ---- texts

-- the number of moves, if there are some
abbrev pub moves_text : ℕ → List ℕ
moves_text n = cond (n == 0) [] (codes " >" ++ decimal n)

-- the numbers, `...` if they are not all, and the name of the right file
abbrev pub stat_line : Found → List ℕ → List ℕ
stat_line f right =
    (codes "+" ++ (decimal (added f) ++ (codes " -" ++ (decimal (removed f) ++ (codes " ~" ++ decimal (changed f))))))
    ++ (moves_text (moved f) ++ (cond f.whole (codes " ") (codes " ... ") ++ (terminal right ++ codes "\n")))

-- whether all were looked for, and the end of the object
abbrev pub whole_text : Bool → List ℕ
whole_text whole = cond whole (codes ",\"whole\":true}\n") (codes ",\"whole\":false}\n")

-- an object of JSON with the numbers, and whether they are all
abbrev pub stat_json : Found → List ℕ
stat_json f =
    (codes "{\"added\":" ++ decimal (added f)) ++ ((codes ",\"changed\":" ++ decimal (changed f)) ++ ((codes ",\"kind\":\"stat\",\"moved\":" ++ decimal (moved f))
    ++ ((codes ",\"removed\":" ++ decimal (removed f)) ++ whole_text f.whole)))

abbrev pub numbers_text : Form → Found → List ℕ → List ℕ
numbers_text form.Line f right = stat_line f right
numbers_text form.Json f right = stat_json f

-- no difference is listed, and no move
abbrev pub lists_nothing : Found → Bool
lists_nothing f = (length f.list.items == 0) && (length f.moves.items == 0)

-- no text where no line is asked for, or where nothing is listed
abbrev pub stat_text : Diff → Found → List ℕ
stat_text asked f = cond ((asked.lines == 0) || lists_nothing f) [] (numbers_text asked.form f asked.right.now)
