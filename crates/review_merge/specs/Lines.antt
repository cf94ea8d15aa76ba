-- The lines of conflicts, and of places at which a result is not the merge.
use Rattle.std.specs.Prelude.{◌≡◌, ◌==◌, ◌&&◌, not, ℕ, Bool, true, false, cond, List, [], ◌∷◌, ◌++◌, length, map, codes, Option, Some, None, unwrap_or}
use Rattle.std.specs.Option.{option_map}
use Rattle.std.specs.List.{slice_get, flat_map, enumerate_from}
use Rattle.std.specs.Fmt.{decimal}
use Rattle.yaml_tree.specs.declared.node.NodeId.{NodeId}
use Rattle.yaml_path.specs.declared.place.Place.{Place}
use Rattle.yaml_path.specs.declared.places.Places.TheVariants.{Both as Twice}
use Rattle.yaml_diff.specs.Lines.{way_of}
use Rattle.yaml_diff.specs.declared.difference.Step.{Step}
use Rattle.yaml_diff.specs.declared.difference.Step.TheVariants as shown
use Rattle.yaml_conflicts.specs.declared.sides.Step as code
use Rattle.yaml_conflicts.specs.declared.sides.Step.TheVariants.{Document, Value}
use Rattle.yaml_conflicts.specs.declared.sides.Sides.{Sides}
use Rattle.yaml_conflicts.specs.declared.sides.Conflict.{Conflict}
use Rattle.yaml_conflicts.specs.declared.streams.Roots.{Roots}
use Rattle.yaml_conflicts.specs.declared.streams.Outcome.{Outcome}
use Rattle.yaml_conflicts.specs.declared.streams.Outcome.TheVariants.{Documents, Streams}
use Rattle.review_text.specs.Hidden.{visible}
use Rattle.review_text.specs.PathText.{path_text}
use Rattle.yaml_store_rank.specs.Forests.{Forests}
use Rattle.review_merge.specs.Parts.{Values, ShowsValues, budget}
use Rattle.review_merge.specs.Placed.{Each, Side, View, ViewsAre, IsPlaceOf, Tells}
use Rattle.review_merge.specs.declared.lines.Style.{Style}
use Rattle.review_merge.specs.declared.lines.Sources.{Sources}
use Rattle.review_merge.specs.declared.print.Print.{Print}

-- ---- columns

abbrev pub column : List ℕ → List ℕ
column text = codes "\t" ++ text

-- what a line begins with: a conflict, or a place at which the result is not the merge
abbrev pub sign : Bool → List ℕ
sign given = cond given (codes "~") (codes "!")

-- what turns the colour of a terminal on, red for a conflict, and yellow; and what turns it off
abbrev pub color_text : Bool → List ℕ
color_text given = 27 ∷ cond given (codes "[33m") (codes "[31m")

abbrev pub plain_text : List ℕ
plain_text = 27 ∷ codes "[0m"

-- what the sides are called, in their order
abbrev pub names : List (List ℕ)
names = codes "base" ∷ codes "ours" ∷ codes "theirs" ∷ codes "result" ∷ []

abbrev pub side_name : ℕ → List ℕ
side_name number = unwrap_or (slice_get names number) []

-- the text of a side's node, or that there is none
abbrev pub value_text : Option (List ℕ) → List ℕ
value_text None = codes "absent"
value_text (Some text) = visible text

-- a column for each side: its name, and what it has
abbrev pub value_column : ℕ × Option (List ℕ) → List ℕ
value_column value = column (side_name value.0 ++ (codes " " ++ value_text value.1))

abbrev pub values_text : Values → List ℕ
values_text values = flat_map value_column (enumerate_from 0 values)

-- a column for each side: line and column, or nothing
abbrev pub place_text : Option Place → List ℕ
place_text None = []
place_text (Some place) = decimal place.line ++ (codes ":" ++ decimal place.column)

abbrev pub places_text : List (Option Place) → List ℕ
places_text places = flat_map (λ place. column (place_text place)) places

-- Sign, path, what each side has, and where. A character that a terminal would not show is written as its escape.
abbrev pub line_text : Bool → Bool → List ℕ → Values → List (Option Place) → List ℕ
line_text given color path values places =
    cond color (color_text given) [] ++ (sign given ++ (column (visible path) ++ (values_text values ++ (places_text places ++ (cond color plain_text [] ++ codes "\n")))))

-- ---- streams of other lengths

abbrev pub count_text : List ℕ → ℕ → List ℕ
count_text whose count = column (whose ++ (codes " " ++ (decimal count ++ (codes " " ++ cond (count == 1) (codes "document") (codes "documents")))))

-- the same of the result, if there is one
abbrev pub result_count_text : Bool → ℕ → List ℕ
result_count_text given count = cond given (count_text (codes "result") count) []

-- A line without a path: how many documents each stream has.
abbrev pub streams_text : Bool → Bool → Roots → List ℕ
streams_text given color roots =
    cond color (color_text given) [] ++ (sign given ++ (column [] ++ (count_text (codes "base") (length roots.base.now) ++ (count_text (codes "ours") (length roots.ours.now)
    ++ (count_text (codes "theirs") (length roots.theirs.now) ++ (result_count_text given (length roots.merge.now) ++ (cond color plain_text [] ++ codes "\n")))))))

-- ---- lines

-- a document has one place on all sides
abbrev pub shown_step : code.Step → Step
shown_step (Document place) = shown.Item (Twice place place)
shown_step (Value key) = shown.Value key

abbrev pub steps_of : Conflict → List Step
steps_of conflict = map shown_step conflict.path.items

-- the node of each side
abbrev pub nodes_of : Bool → Sides → List (Option NodeId)
nodes_of given sides = sides.base ∷ sides.ours ∷ sides.theirs ∷ cond given (sides.merge ∷ []) []

-- the place of each side, where places are asked for
abbrev pub ShowsPlaces : Bool → List View → List Step → List (Option Place) → Type 0
ShowsPlaces false views path places = places ≡ []
ShowsPlaces true views path places = Each (IsPlaceOf path) views places

-- The line of a conflict. So many bytes of whole texts may be looked at before and after it.
pub record IsLine (g : Forests) (print : Print) (given numbered : Bool) (views : List View) (conflict : Conflict) (left after : ℕ) (text : List ℕ) : Type 0 where
  pub values : Values
  pub places : List (Option Place)
  pub shows : ShowsValues g (nodes_of given conflict.sides) left after values print.whole
  pub stand : ShowsPlaces print.places views (steps_of conflict) places
  pub is : text ≡ line_text given print.color (path_text numbered (way_of g (steps_of conflict))) values places

-- lines, each of which leaves so many bytes to those behind it
module _ {X : Type 0} (IsText : X → ℕ → ℕ → List ℕ → Type 0) where
  abbrev pub AreLines : List X → ℕ → List ℕ → Type 0
  AreLines [] left text = text ≡ []
  AreLines (x ∷ xs) left text = (after : ℕ) × (one : List ℕ) × (rest : List ℕ) × IsText x left after one × AreLines xs after rest × (text ≡ one ++ rest)

-- The same line as it is written in a style.
pub record IsStyled (g : Forests) (style : Style) (numbered : ℕ × Conflict) (left after : ℕ) (text : List ℕ) : Type 0 where
  pub values : Values
  pub places : List (Option Place)
  pub shows : ShowsValues g (nodes_of style.given numbered.1.sides) left after values style.print.whole
  pub tells : Tells numbered.0 style.seats.items places
  pub is : text ≡ line_text style.given style.print.color (path_text style.numbered (way_of g (steps_of numbered.1))) values places

-- what stands behind lines that are not all
abbrev pub more_text : Bool → List ℕ
more_text whole = cond whole [] (codes "...\n")

-- nothing where there is nothing to tell, and else a line for each conflict
module _ (g : Forests) (print : Print) (given numbered : Bool) (sides : List Side) where
  abbrev pub IsListText : List Conflict → Bool → List ℕ → Type 0
  IsListText [] whole text = text ≡ []
  IsListText (conflict ∷ conflicts) whole text =
      (views : List View) × (lines : List ℕ) × ViewsAre print.places g sides views × AreLines (IsLine g print given numbered views) (conflict ∷ conflicts) budget lines × (text ≡ lines ++ more_text whole)

-- paths have the number of the document, unless each stream has one
abbrev pub is_numbered : Roots → Bool
is_numbered roots = not ((length roots.base.now == 1) && ((length roots.ours.now == 1) && ((length roots.theirs.now == 1) && (length roots.merge.now == 1))))

-- the sides of a line: the base, ours, theirs and, if it is given, the result
abbrev pub result_side : List NodeId → Option (List ℕ) → List Side
result_side roots None = []
result_side roots (Some bytes) = (roots, bytes) ∷ []

abbrev pub sides_of : Roots → (base ours theirs : List ℕ) → Option (List ℕ) → List Side
sides_of roots base ours theirs result = (roots.base.now, base) ∷ (roots.ours.now, ours) ∷ (roots.theirs.now, theirs) ∷ result_side roots.merge.now result

-- the same of the bytes that are read once more
abbrev pub sides_in : Roots → Sources → List Side
sides_in roots sources = sides_of roots sources.base.now sources.ours.now sources.theirs.now (option_map (λ bytes. bytes.now) sources.result)

-- What is told of an outcome: a line for each path, or how many documents the streams have.
abbrev pub IsOutcomeText : Forests → Print → Bool → Roots → List Side → Outcome → List ℕ → Type 0
IsOutcomeText g print given roots sides Streams text = text ≡ streams_text given print.color roots
IsOutcomeText g print given roots sides (Documents found) text = IsListText g print given (is_numbered roots) sides found.list.items found.whole text
