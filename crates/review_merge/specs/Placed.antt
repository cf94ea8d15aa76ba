-- Where the nodes of a line stand.
use Rattle.std.specs.Prelude.{◌≡◌, ◌⊎◌, ◌≤◌, ℕ, Bool, true, false, List, [], ◌∷◌, ◌++◌, length, drop, Option, Some, None}
use Rattle.std.specs.List.{Contains, slice_get}
use Rattle.std.specs.Str.{chars}
use Rattle.yaml_definitions.specs.model.Text.{mark_len}
use Rattle.yaml_definitions.specs.model.Event.{Event}
use Rattle.yaml_definitions.specs.model.Limits.{open_limit}
use Rattle.yaml_definitions.specs.grammar.Nodes.{wide}
use Rattle.yaml_definitions.specs.grammar.Streams.{ReadsText}
use Rattle.yaml_tree.specs.declared.node.NodeId.{NodeId}
use Rattle.yaml_path.specs.LineModel.{IsPlace}
use Rattle.yaml_path.specs.declared.place.Place.{Place}
use Rattle.yaml_diff.specs.declared.difference.Step.{Step}
use Rattle.yaml_store_rank.specs.Forests.{Forests}
use Rattle.review_places.specs.Layout.{offsets_of, IsLayout}
use Rattle.review_places.specs.Seats.{layout_of, forests_of, IsSeat, HasNoSeat}
use Rattle.review_places.specs.Trace.{TraceHolds, shapes_in, offsets_in}
use Rattle.review_places.specs.declared.finder.Finder.{Finder}
use Rattle.review_places.specs.declared.finder.Side.TheVariants.{Left}
use Rattle.review_places.specs.declared.finder.Seat.{Seat}
use Rattle.review_places.specs.declared.layout.Layout.{Layout}
use Rattle.review_places.specs.declared.trace.Trace.{Trace}
use Rattle.review_merge.specs.declared.told.Seats.{Seats}

-- one thing for each of a list, in the same order
module _ {X Y : Type 0} (IsFor : X → Y → Type 0) where
  abbrev pub Each : List X → List Y → Type 0
  Each [] ys = ys ≡ []
  Each (x ∷ xs) ys = (y : Y) × (rest : List Y) × IsFor x y × Each xs rest × (ys ≡ y ∷ rest)

-- ---- one stream

-- the bytes of a stream behind its byte order mark
abbrev pub unmarked : List ℕ → List ℕ
unmarked bytes = drop (mark_len bytes) bytes

-- The layout is that of the events that the bytes are read as.
pub record IsLaid (bytes : List ℕ) (layout : Layout) : Type 0 where
  pub events : List Event
  pub trace : Trace
  pub reads : ReadsText (chars (unmarked bytes)) wide open_limit events
  pub traced : TraceHolds trace events
  pub offsets : offsets_of layout ≡ offsets_in trace.events.items
  pub nodes : IsLayout (shapes_in trace.events.items) layout

-- the roots of a stream's documents, and its bytes
abbrev pub Side : Type 0
Side = List NodeId × List ℕ

-- what finds the nodes of a stream, and the stream's bytes
abbrev pub View : Type 0
View = Finder × List ℕ

-- It finds the nodes of the documents with these roots, of which these are the bytes.
pub record Views (g : Forests) (side : Side) (view : View) : Type 0 where
  pub forests : forests_of view.0 ≡ g
  pub left : view.0.stream.side ≡ Left
  pub roots : view.0.stream.roots.now ≡ side.0
  pub bytes : view.1 ≡ side.1
  pub laid : IsLaid side.1 (layout_of view.0)

-- The line and the column of an offset; of one behind the end, those of some place.
pub record IsAt (text : List ℕ) (offset : ℕ) (place : Place) : Type 0 where
  pub at : ℕ
  pub is : offset ≤ length text → at ≡ offset
  pub placed : IsPlace text at place.line place.column

-- ---- the place at a path

-- where the node stands to which the path leads, or none, where it leads nowhere
abbrev pub IsPlaceOf : List Step → View → Option Place → Type 0
IsPlaceOf path view None = HasNoSeat view.0 path
IsPlaceOf path view (Some place) = (seat : Seat) × IsSeat view.0 path seat × IsAt (unmarked view.1) seat.offset place

-- ---- the places of all lines

-- the place with this number in a list, or that there is none
abbrev pub IsTold : List (ℕ × Place) → ℕ → Option Place → Type 0
IsTold places number None = (place : Place) → Contains places (number, place) → ⊥
IsTold places number (Some place) = Contains places (number, place)

-- what is told under the number of a path is its place
abbrev pub HasPlaces : List (List Step) → View → List (ℕ × Place) → Type 0
HasPlaces paths view places =
    (number : ℕ) (path : List Step) (place : Option Place) → slice_get paths number ≡ Some path → IsTold places number place → IsPlaceOf path view place

abbrev pub HasSeats : Forests → List (List Step) → Side → Seats → Type 0
HasSeats g paths side seats = (view : View) × Views g side view × HasPlaces paths view seats.places.items

-- the offset of the node to which a path leads is added with the path's number, or the path leads nowhere
abbrev pub AddsOffset : Finder → List Step → ℕ → List (ℕ × ℕ) → List (ℕ × ℕ) → Type 0
AddsOffset finder path number old new =
    ((seat : Seat) × IsSeat finder path seat × (new ≡ old ++ (seat.offset, number) ∷ [])) ⊎ (HasNoSeat finder path × (new ≡ old))

-- The offsets of the nodes to which paths lead, each with the number of its path.
pub record HasOffsets (finder : Finder) (paths : List (List Step)) (offsets : List (ℕ × ℕ)) : Type 0 where
  pub each : (number : ℕ) (path : List Step) (offset : ℕ) → slice_get paths number ≡ Some path → Contains offsets (offset, number) → (seat : Seat) × IsSeat finder path seat × (seat.offset ≡ offset)
  pub none : (number : ℕ) (path : List Step) → slice_get paths number ≡ Some path → ((offset : ℕ) → Contains offsets (offset, number) → ⊥) → HasNoSeat finder path

-- what each side tells under a number
abbrev pub Tells : ℕ → List Seats → List (Option Place) → Type 0
Tells number = Each (λ seats place. IsTold seats.places.items number place)

-- the seats of all sides, where places are asked for
abbrev pub HasAsked : Bool → Forests → List (List Step) → List Side → List Seats → Type 0
HasAsked false g paths sides seats = seats ≡ []
HasAsked true g paths sides seats = Each (HasSeats g paths) sides seats

-- a view of each side for all lines, where places are asked for
abbrev pub ViewsAre : Bool → Forests → List Side → List View → Type 0
ViewsAre false g sides views = views ≡ []
ViewsAre true g sides views = Each (Views g) sides views
