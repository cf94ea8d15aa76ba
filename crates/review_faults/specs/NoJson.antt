-- What is told of a file that JSON cannot express.
use Rattle.std.specs.Prelude.{◌≡◌, ◌≤◌, ◌++◌, ℕ, Bool, cond, List, [], length, Option, None, IfSome, codes, string_bytes}
use Rattle.std.specs.List.{All, flat_map}
use Rattle.yaml_definitions.specs.model.Event.{Event}
use Rattle.yaml_path.specs.LineModel.{IsPlace}
use Rattle.yaml_path.specs.declared.place.Place.{Place}
use Rattle.review_faults.specs.EventSpots.{path_at}
use Rattle.review_faults.specs.Heads.{head}
use Rattle.review_faults.specs.declared.no_json.Lacking.{Lacking}

-- a node that JSON cannot express has the path of the node at its event
pub record HasPath (events : List Event) (lacking : Lacking) : Type 0 where
  pub path : string_bytes lacking.path ≡ path_at events lacking.event

-- the line and the column, if there are, are those of some offset of the text
abbrev pub IsOfText : List ℕ → Option Place → Type 0
IsOfText text place = IfSome place (λ p. (at : ℕ) × (at ≤ length text) × IsPlace text at p.line p.column)

-- The line begins with the file, and with a place of its text if there is one. What stands behind these is some text.
pub record BeginsSomewhere (name text line : List ℕ) : Type 0 where
  pub place : Option Place
  pub placed : IsOfText text place
  pub more : List ℕ
  pub is : line ≡ head name place ++ more

-- such lines are added
pub record AddsPieces (name text old new : List ℕ) : Type 0 where
  pub pieces : List (List ℕ)
  pub each : All (BeginsSomewhere name text) pieces
  pub are : new ≡ old ++ flat_map (λ piece. piece) pieces

-- that no node was found
abbrev pub unknown : List ℕ → List ℕ
unknown name = head name None ++ codes "JSON cannot express this file\n"

-- A first line, then others, each as said, and a line `...` or none.
pub record TellsLacks (name text old new : List ℕ) : Type 0 where
  pub first : List ℕ
  pub begins : BeginsSomewhere name text first
  pub middle : List ℕ
  pub others : AddsPieces name text (old ++ first) middle
  pub more : Bool
  pub are : new ≡ middle ++ cond more (codes "...\n") []
