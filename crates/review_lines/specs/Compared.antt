-- What is told of two streams as text.
use Rattle.std.specs.Prelude.{◌≡◌, ◌⊎◌, ◌==◌, ◌&&◌, ℕ, zero, suc, ◌-◌, Bool, true, false, not, cond, nat_le, nat_lt, take, drop, length, List, [], ◌∷◌, ◌++◌, Option, Some, None, option_map, codes, string_bytes}
use Rattle.std.specs.List.{slice_get, flat_map, sum_by}
use Rattle.std.specs.Fmt.{decimal}
use Rattle.yaml_definitions.specs.model.Tree.{scalar}
use Rattle.yaml_scalar.specs.Spelling.{quoted_bytes}
use Rattle.yaml_tree.specs.declared.node.NodeId.{NodeId}
use Rattle.yaml_store_rank.specs.Forests.{Forests, tree, documents_of}
use Rattle.yaml_path.specs.Ways.{Way}
use Rattle.yaml_path.specs.declared.places.Places.{Places}
use Rattle.yaml_path.specs.declared.places.Places.TheVariants as places
use Rattle.yaml_diff.specs.Lines.{way_of, line_of}
use Rattle.yaml_diff.specs.Moves.{moved_line, move_line_of}
use Rattle.yaml_diff.specs.declared.difference.Step as code
use Rattle.yaml_diff.specs.declared.difference.Step.TheVariants.{Item}
use Rattle.yaml_diff.specs.declared.difference.Move.{Move}
use Rattle.yaml_diff.specs.declared.difference.Difference.{Difference}
use Rattle.yaml_diff.specs.declared.difference.Found.{Found}
use Rattle.yaml_unified.specs.Script.{IsScript}
use Rattle.yaml_unified.specs.Printed.{script_text}
use Rattle.yaml_unified.specs.declared.script.Edit.{Edit}
use Rattle.review_text.specs.declared.options.Diff.{Diff}
use Rattle.review_text.specs.declared.options.Form.{Form}
use Rattle.review_text.specs.declared.options.Form.TheVariants as form
use Rattle.review_patterns.specs.declared.pattern.Pattern.{Pattern}
use Rattle.review_folds.specs.Ignored.{Keeps}
use Rattle.review_folds.specs.Folds.{Folds}
use Rattle.review_formats.specs.declared.left_out.LeftOut.{LeftOut}
use Rattle.review_folds.specs.Moves.{Groups}
use Rattle.review_folds.specs.declared.moves.Group.{Group}
use Rattle.review_folds.specs.Labels.{label}
use Rattle.review_text.specs.Alike.{looks_alike}
use Rattle.review_text.specs.Hidden.{ascii}
use Rattle.review_text.specs.Shown.{front, shown}
use Rattle.review_text.specs.NodeText.{text_of}
use Rattle.review_text.specs.PathText.{bracketed, start_text, step_text, path_text}
use Rattle.review_paths.specs.Pasted.{pasted}
use Rattle.review_text.specs.declared.options.Paths.{Paths}
use Rattle.review_text.specs.declared.options.Paths.TheVariants.{Plain, Jq, JsonPointer}
use Rattle.review_paths.specs.Members.{SaysMembers}
use Rattle.review_paths.specs.declared.members.Members.{Members}
use Rattle.review_lines.specs.Lines.{Text, lines_text, rest_text}
use Rattle.review_lines.specs.Searched.{Searches}
use Rattle.review_lines.specs.Stat.{stat_text}
use Rattle.review_lines.specs.declared.lines.Changes.{Changes}
use Rattle.review_lines.specs.declared.lines.Line.{Line}

-- how many bytes of a node are shown
abbrev pub room_of : Bool → ℕ
room_of whole = cond whole 65536 60

-- paths tell the number of the document, unless each side has one document
abbrev pub is_numbered : Forests → Bool
is_numbered g = not ((length (documents_of g 0) == 1) && (length (documents_of g 1) == 1))

-- ---- the two nodes

-- what is shown of a node, where there is one
abbrev pub ShowsNode : Forests → ℕ → Option NodeId → Text → Type 0
ShowsNode g room None None = Unit {0}
ShowsNode g room (Some i) (Some t) = string_bytes t ≡ shown room (text_of (tree g i.0))
ShowsNode g room _ _ = ⊥

-- the node is a scalar of this tag and content
abbrev pub IsScalar : Forests → Option NodeId → List ℕ → List ℕ → Type 0
IsScalar g None tag content = ⊥
IsScalar g (Some i) tag content = tree g i.0 ≡ scalar tag content

-- a content from a byte on, as far as there is room, with `...` for what is left out
abbrev pub part_text : ℕ → ℕ → List ℕ → List ℕ
part_text room start content =
    cond (start == 0) [] (codes "...") ++ (quoted_bytes (front room (drop start content)) ++ cond (nat_le (length (drop start content)) room) [] (codes "..."))

abbrev pub IsText : List ℕ → Text → Type 0
IsText bytes None = ⊥
IsText bytes (Some t) = string_bytes t ≡ bytes

abbrev pub SameTexts : Text → Text → Type 0
SameTexts (Some left) (Some right) = string_bytes left ≡ string_bytes right
SameTexts _ _ = ⊥

-- Of two scalars of one tag, a part of either content, from one byte on. What is left out before it is the same on both sides.
pub record ShowsParts (g : Forests) (room : ℕ) (d : Difference) (left right : Text) : Type 0 where
  pub tag : List ℕ
  pub one : List ℕ
  pub other : List ℕ
  pub is_left : IsScalar g d.left tag one
  pub is_right : IsScalar g d.right tag other
  pub start : ℕ
  pub before : take start one ≡ take start other
  pub left_text : IsText (part_text room start one) left
  pub right_text : IsText (part_text room start other) right

-- the texts of two nodes are equal as far as there is room
abbrev pub SameFronts : Forests → ℕ → Option NodeId → Option NodeId → Type 0
SameFronts g room (Some i) (Some j) = shown room (text_of (tree g i.0)) ≡ shown room (text_of (tree g j.0))
SameFronts g room _ _ = ⊥

-- What is shown of the two nodes, of which parts may be shown only if their texts are equal as far as there is room.
abbrev pub ShowsBoth : Forests → ℕ → Difference → Text → Text → Type 0
ShowsBoth g room d left right = (ShowsNode g room d.left left × ShowsNode g room d.right right) ⊎ (SameFronts g room d.left d.right × ShowsParts g room d left right)

-- a text with an escape for each character outside ASCII, or none if there is none
abbrev pub IsAscii : Text → Text → Type 0
IsAscii one text = option_map string_bytes text ≡ option_map (λ t. ascii (string_bytes t)) one

-- both sides have a text, and these look the same
abbrev pub are_alike : Text → Text → Bool
are_alike (Some t) (Some u) = looks_alike (string_bytes t) (string_bytes u)
are_alike _ _ = false

-- Of texts that look the same, both have an escape for each character outside ASCII; others are as they are.
abbrev pub TellsApart : Bool → Text → Text → Text → Text → Type 0
TellsApart true one other left right = IsAscii one left × IsAscii other right
TellsApart false one other left right = (left ≡ one) × (right ≡ other)

-- what is shown of both nodes, told apart
abbrev pub ShowsApart : Forests → ℕ → Difference → Text → Text → Type 0
ShowsApart g room d left right = (one : Text) × (other : Text) × ShowsBoth g room d one other × TellsApart (are_alike one other) one other left right

-- Of two scalars of one tag, an edit script from the left content to the right one is printed, with so many lines before and behind each change.
pub record ShowsScript (g : Forests) (context : ℕ) (color : Bool) (d : Difference) (text : List ℕ) : Type 0 where
  pub tag : List ℕ
  pub one : List ℕ
  pub other : List ℕ
  pub is_left : IsScalar g d.left tag one
  pub is_right : IsScalar g d.right tag other
  pub edits : List Edit
  pub script : IsScript one other edits
  pub is : text ≡ script_text context color edits

-- such a script, if one is printed
abbrev pub ShowsChanges : Forests → ℕ → Bool → Difference → Option Changes → Type 0
ShowsChanges g context color d None = Unit {0}
ShowsChanges g context color d (Some c) = ShowsScript g context color d (string_bytes c.text)

-- ---- what a program reads beside the texts

-- differences and moves are in columns
abbrev pub is_line : Form → Bool
is_line form.Line = true
is_line form.Json = false

-- Where JSON is written, the path and the values of the nodes.
abbrev pub TellsMembers : Form → Forests → Difference → Option Members → Type 0
TellsMembers form.Line g d m = m ≡ None
TellsMembers form.Json g d None = ⊥
TellsMembers form.Json g d (Some m) = SaysMembers g d m

-- ---- lines

-- a side has a node: unless only the other one has; where a pair of items moved, both have
abbrev pub has_left : Option NodeId → Option NodeId → Bool
has_left None (Some j) = false
has_left _ _ = true

abbrev pub has_right : Option NodeId → Option NodeId → Bool
has_right (Some i) None = false
has_right _ _ = true

-- a path in the form that is asked for: one text for both sides, or one for each
abbrev pub path_as : Paths → Bool → Option NodeId → Option NodeId → Way → List ℕ
path_as Plain numbered left right w = path_text numbered w
path_as Jq numbered left right w = pasted true numbered (has_left left right) (has_right left right) w
path_as JsonPointer numbered left right w = pasted false numbered (has_left left right) (has_right left right) w

-- the line has the difference's path, what is shown of its nodes, and what a program reads of them, and no label
pub record TellsOne (g : Forests) (asked : Diff) (d : Difference) (l : Line) : Type 0 where
  pub path : string_bytes l.path ≡ path_as asked.paths (is_numbered g) d.left d.right (way_of g d.path.items)
  pub nodes : ShowsApart g (room_of asked.whole) d l.left l.right
  pub changes : ShowsChanges g asked.context asked.color d l.changes
  pub members : TellsMembers asked.form g d l.members
  pub no_label : l.label ≡ None

-- the differences that have a line, with how many each line tells: another line tells a difference of which the number is 0
abbrev pub with_lines : List Difference → List ℕ → List (Difference × ℕ)
with_lines (d ∷ ds) (zero ∷ counts) = with_lines ds counts
with_lines (d ∷ ds) (suc n ∷ counts) = (d, suc n) ∷ with_lines ds counts
with_lines _ _ = []

-- a line for each of these differences, in order
abbrev pub TellsEach : Forests → Diff → List (Difference × ℕ) → List Line → Type 0
TellsEach g asked [] [] = Unit {0}
TellsEach g asked (d ∷ ds) (l ∷ ls) = (TellsOne g asked d.0 l × (l.count ≡ d.1)) × TellsEach g asked ds ls
TellsEach g asked _ _ = ⊥

-- Each difference has a line, or the line of another one of the same nodes tells it; the latter not in JSON, and only if that is asked for. Of these lines the first ones, as many as are asked for.
pub record TellsDifferences (columns : Bool) (g : Forests) (asked : Diff) (list : List Difference) (lines : List Line) : Type 0 where
  pub counts : List ℕ
  pub folds : Folds (columns && asked.folds) list counts
  pub each : TellsEach g asked (take asked.lines (with_lines list counts)) lines

-- ---- paths of moves

-- paths have the places of both sides in one step
abbrev pub is_plain : Paths → Bool
is_plain Plain = true
is_plain Jq = false
is_plain JsonPointer = false

-- Where neighbours stand, by the step to the first of them and the places of the last one: on both sides alike, or on the left and on the right. Items that moved have both places.
abbrev pub range_of : code.Step → Places → List ℕ
range_of (Item (places.Both j k)) (places.Both m n) = decimal j ++ (codes "-" ++ (decimal m ++ cond (j == k) [] (codes ":" ++ (decimal k ++ (codes "-" ++ decimal n)))))
range_of _ _ = []

-- what the path to an item has before its last step
abbrev pub before_text : Bool → Way → List ℕ
before_text numbered [] = []
before_text numbered (s ∷ w) = start_text numbered false s ++ flat_map step_text w

-- documents stand without brackets
abbrev pub range_path : Bool → code.Step → Places → Way → List ℕ
range_path numbered first last [] = range_of first last
range_path numbered first last (s ∷ w) = before_text numbered (s ∷ w) ++ bracketed (range_of first last)

-- the path to a list on both sides; to that of all documents a dot, which as a pattern is that of all
abbrev pub list_path : Paths → Bool → Way → List ℕ
list_path Plain numbered [] = codes "."
list_path paths numbered w = path_as paths numbered None None w

-- The path of a group, by the steps to its first items, the last one first: that of the list of which only the order changed; that of neighbours, of which the last one has these places; or that of one pair of items.
abbrev pub group_text : Paths → Bool → Forests → Bool → Option Places → List code.Step → List ℕ
group_text paths numbered g whole last [] = []
group_text paths numbered g true last (s ∷ w) = list_path paths numbered (way_of g w)
group_text paths numbered g false (Some z) (s ∷ w) = range_path numbered s z (way_of g w)
group_text paths numbered g false None (s ∷ w) = path_as paths numbered None None (way_of g (s ∷ w))

-- ---- lines of moves

-- the places of the last move of a group, if it has several
abbrev pub last_of : List Move → Group → Option Places
last_of moves group = cond (nat_lt group.first (group.end - 1)) (option_map (λ m. m.places) (slice_get moves (group.end - 1))) None

-- the difference has the path of the first move of the group, and no nodes
pub record IsFirst (moves : List Move) (group : Group) (d : Difference) : Type 0 where
  pub is : (m : Move) → slice_get moves group.first ≡ Some m → line_of d ≡ moved_line (move_line_of m)

-- One line tells the moves of a group: with their path and no texts, and with their label, where labels are told.
pub record TellsGroup (labels : Bool) (g : Forests) (asked : Diff) (moves : List Move) (group : Group) (l : Line) : Type 0 where
  pub first : Difference
  pub is_first : IsFirst moves group first
  pub path : string_bytes l.path ≡ group_text asked.paths (is_numbered g) g group.whole (last_of moves group) first.path.items
  pub no_left : l.left ≡ None
  pub no_right : l.right ≡ None
  pub no_changes : l.changes ≡ None
  pub labelled : option_map string_bytes l.label ≡ cond labels (label g (room_of asked.whole) group first.path.items) None
  pub members : TellsMembers asked.form g first l.members
  pub one : l.count ≡ 1

-- a line for each group, in order
abbrev pub TellsGroups : Bool → Forests → Diff → List Move → List Group → List Line → Type 0
TellsGroups labels g asked moves [] [] = Unit {0}
TellsGroups labels g asked moves (group ∷ gs) (l ∷ ls) = TellsGroup labels g asked moves group l × TellsGroups labels g asked moves gs ls
TellsGroups labels g asked moves _ _ = ⊥

-- The moves are in groups, in order, of one move each if they are not folded. Of the groups the first ones have a line, as far as there is room. The moves of the others are not told.
pub record TellsMoves (columns : Bool) (g : Forests) (asked : Diff) (f : Found) (room : ℕ) (lines : List Line) (untold : ℕ) : Type 0 where
  pub groups : List Group
  pub grouped : Groups (columns && asked.folds) (is_plain asked.paths) f 0 (length f.moves.items) groups
  pub each : TellsGroups columns g asked f.moves.items (take room groups) lines
  pub others : untold ≡ length f.moves.items - sum_by (λ group. group.end - group.first) (take room groups)

-- how many differences and moves no line tells, and whether all were looked for
abbrev pub left_out_of : Found → List Line → ℕ → LeftOut
left_out_of f lines moves = record { differences = length f.list.items - sum_by (λ l. l.count) lines; moves = moves; whole = f.whole }

-- The text is the lines of differences and then those of moves, all together as many as are asked for, and says what no line tells.
pub record TellsFound (g : Forests) (asked : Diff) (f : Found) (text : List ℕ) : Type 0 where
  pub lines : List Line
  pub differences : TellsDifferences (is_line asked.form) g asked f.list.items lines
  pub move_lines : List Line
  pub untold : ℕ
  pub moves : TellsMoves (is_line asked.form) g asked f (asked.lines - length lines) move_lines untold
  pub is : text ≡ (lines_text asked lines ++ lines_text asked move_lines) ++ rest_text asked.form (left_out_of f lines untold)

-- No line is written where none is asked for, whether or not there are differences.
abbrev pub TellsAsked : ℕ → Forests → Diff → Found → List ℕ → Type 0
TellsAsked zero g asked f text = text ≡ []
TellsAsked (suc lines) g asked f text = TellsFound g asked f text

-- The text is the lines of the differences and moves of two streams, as many as are asked for, but for those that are at or below a path that one of the patterns matches; and whether there are none. If the numbers of differences and moves are asked for, they stand in place of the lines.
pub record TellsStreams (g : Forests) (asked : Diff) (ignored : List Pattern) (none : Bool) (text : List ℕ) : Type 0 where
  pub found : Found
  pub searches : Searches g ignored asked found
  pub kept : Found
  pub keeps : Keeps g ignored found kept
  pub is_none : none ≡ ((kept.whole && (length kept.list.items == 0)) && (length kept.moves.items == 0))
  pub tells : asked.stat ≡ false → TellsAsked asked.lines g asked kept text
  pub counts : asked.stat ≡ true → text ≡ stat_text asked kept
