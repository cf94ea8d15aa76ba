-- Where the nodes of a stream stand.
use Rattle.std.specs.Prelude.{◌≡◌, ℕ, ◌+◌, ◌*◌, ◌&&◌, Bool, not, List, [], ◌∷◌, Option, Some, None, slice_get}
use Rattle.yaml_tree.specs.View.{items_in}
use Rattle.yaml_tree.specs.Insides.{Held}
use Rattle.yaml_tree.specs.declared.node.NodeId.{NodeId}
use Rattle.yaml_store_rank.specs.Forests.{Forests, entries_at}
use Rattle.yaml_path.specs.Ways.{left_place, right_place}
use Rattle.yaml_path.specs.declared.places.Places.{Places}
use Rattle.yaml_diff.specs.declared.difference.Step.{Step}
use Rattle.yaml_diff.specs.declared.difference.Step.TheVariants.{Item, Value}
use Rattle.review_places.specs.Layout.{offsets_of, root_events, node_numbers, node_told, event_below, is_alias_event, IsLayout}
use Rattle.review_places.specs.declared.finder.Finder.{Finder}
use Rattle.review_places.specs.declared.finder.Seat.{Seat}
use Rattle.review_places.specs.declared.finder.Side.{Side}
use Rattle.review_places.specs.declared.finder.Side.TheVariants.{Left, Right}
use Rattle.review_places.specs.declared.finder.Stream.{Stream}
use Rattle.review_places.specs.declared.layout.Layout.{Layout}
use Rattle.review_places.specs.declared.trace.Shape.{Shape}

-- the layout of a finder's stream
abbrev pub layout_of : Finder → Layout
layout_of finder = finder.layout

-- the forests in which a finder looks
abbrev pub forests_of : Finder → Forests
forests_of finder = finder.forests.now

-- the place of an item on one side
abbrev pub place_on : Side → Places → Option ℕ
place_on Left places = left_place places
place_on Right places = right_place places

abbrev pub items_held : Option Held → List ℕ
items_held (Some n) = items_in n.1
items_held None = []

-- the items of a sequence; none of another node
abbrev pub items_at : Forests → ℕ → List ℕ
items_at f i = items_held (slice_get f.nodes i)

module _ (f : Forests) where
  -- the item at a place of a sequence
  abbrev pub IsItem : NodeId → NodeId → ℕ → Type 0
  IsItem node part place = slice_get (items_at f node.0) place ≡ Some part.0

  -- The value of an entry of a mapping, by its number among the parts. The entry's key has the rank of this one.
  pub record IsValue (node key part : NodeId) (number : ℕ) : Type 0 where
    pub place : ℕ
    pub own : ℕ
    pub entry : slice_get (entries_at f node.0) place ≡ Some (own, part.0)
    pub equal : slice_get f.ranks own ≡ slice_get f.ranks key.0
    pub is : number ≡ place * 2 + 1

  -- A step leads from a node to one of its parts, which has this number among them.
  abbrev pub LeadsDown : Side → Step → NodeId → NodeId → ℕ → Type 0
  LeadsDown side (Item places) node part number = (place_on side places ≡ Some number) × IsItem node part number
  LeadsDown side (Value key) node part number = IsValue node key part number

module _ (f : Forests) (stream : Stream) (layout : Layout) where
  -- A step leads to the root of a document of the stream, and to its event.
  abbrev pub IsRoot : Step → NodeId → ℕ → Type 0
  IsRoot (Item places) node event = (k : ℕ) × (place_on stream.side places ≡ Some k) × (slice_get stream.roots.now k ≡ Some node) × (slice_get (root_events layout) k ≡ Some event)
  IsRoot (Value key) node event = ⊥

  -- A step leads from a node and its event to a part, and to the event that begins the part or stands for it.
  abbrev pub IsPart : Step → NodeId → ℕ → NodeId → ℕ → Type 0
  IsPart step node event part below = (number : ℕ) × LeadsDown f stream.side step node part number × (event_below layout event number ≡ Some below)

  -- A path, the last step first, leads to a node, and to the event that begins it, or to an alias that stands for it; and whether none of the events on the way is an alias, this one included.
  pub data Leads : List Step → NodeId → ℕ → Bool → Type 0 where
    document : {step : Step} {node : NodeId} {event : ℕ} → IsRoot step node event → Leads (step ∷ []) node event (not (is_alias_event layout event))
    further : {path : List Step} {step : Step} {node part : NodeId} {event below : ℕ} {own : Bool} → Leads path node event own → IsPart step node event part below → Leads (step ∷ path) part below (own && not (is_alias_event layout below))

  -- the same, and whether no alias is on the way is told of each layout of events
  pub record IsEnd (path : List Step) (node : NodeId) (event : ℕ) (told : Bool) : Type 0 where
    pub own : Bool
    pub leads : Leads path node event own
    pub tells : (s : List Shape) → IsLayout s layout → told ≡ own

  -- the path leads nowhere
  abbrev pub EndsNowhere : List Step → Type 0
  EndsNowhere path = (node : NodeId) (event : ℕ) (own : Bool) → Leads path node event own → ⊥

-- the same of a finder's stream
abbrev pub LeadsIn : Finder → List Step → NodeId → ℕ → Bool → Type 0
LeadsIn finder = Leads (forests_of finder) finder.stream finder.layout

-- The path leads to the node that begins at the seat's event. The offset and the node's number are those of that event.
pub record IsSeat (finder : Finder) (path : List Step) (seat : Seat) : Type 0 where
  pub node : NodeId
  pub end : IsEnd (forests_of finder) finder.stream finder.layout path node seat.event seat.is_own
  pub offset : slice_get (offsets_of finder.layout) seat.event ≡ Some seat.offset
  pub number : seat.node ≡ node_told (slice_get (node_numbers finder.layout) seat.event)

-- the path leads to no event with an offset
abbrev pub HasNoSeat : Finder → List Step → Type 0
HasNoSeat finder path = (node : NodeId) (event : ℕ) (own : Bool) → LeadsIn finder path node event own → slice_get (offsets_of finder.layout) event ≡ None
