-- The events that a list holds, of which starts of mappings may stand apart.
use Rattle.std.specs.Prelude.{◌≡◌, ◌≤◌, ◌<◌, ◌+◌, ◌-◌, ◌++◌, ℕ, List, [], ◌∷◌, length, map, insert, slice_index_or, take, drop}
use Rattle.yaml_definitions.specs.model.Event.{Event}
use Rattle.yaml_definitions.specs.grammar.Events.{map_start}
use Rattle.yaml_text.specs.EventModel.{event_of}
use Rattle.yaml_text.specs.declared.event.Event as code
use Rattle.yaml_sink.specs.PropertyRules.{props_of}
use Rattle.yaml_sink.specs.declared.list.Start.{Start}
use Rattle.yaml_sink.specs.declared.list.EventList.{EventList}

-- the event that a start is
abbrev pub opening : Start → Event
opening s = map_start s.flow (props_of s.properties)

-- the events and the starts as one list, each start before the event at its place: the last is put there first, so that
-- the places of those before it stay
abbrev pub woven : List Event → List Start → List Event
woven es [] = es
woven es (s ∷ ss) = insert (woven es ss) s.place (opening s)

-- the place of the first start, or else the end
abbrev pub first_place : List Start → ℕ → ℕ
first_place [] n = n
first_place (s ∷ ss) n = s.place

-- no start stands behind the next one, and none behind the end
abbrev pub Rises : List Start → ℕ → Type 0
Rises [] n = Unit {0}
Rises (s ∷ ss) n = (s.place ≤ first_place ss n) × Rises ss n

-- the events that a list holds
pub record HeldList (list : EventList) (log : List Event) : Type 0 where
  pub rises : Rises list.starts.items (length list.events.items)
  pub is : woven (map event_of list.events.items) list.starts.items ≡ log

-- whether the start of this number stands before a mark: before it stand as many events as its place says, and the other starts
abbrev pub IsBefore : List Start → ℕ → ℕ → Type 0
IsBefore ss k mark = (d : Start) → (slice_index_or ss k d).place + k < mark

abbrev pub IsBehind : List Start → ℕ → ℕ → Type 0
IsBehind ss k mark = (d : Start) → mark ≤ (slice_index_or ss k d).place + k

-- the start of this number is there, and stands at this place
abbrev pub IsAt : List Start → ℕ → ℕ → Type 0
IsAt ss k place = (k < length ss) × ((d : Start) → (slice_index_or ss k d).place ≡ place)

-- so many starts, the first ones, stand before a mark
pub record Splits (ss : List Start) (mark count : ℕ) : Type 0 where
  pub within : count ≤ length ss
  pub counted : count ≤ mark
  pub before : (k : ℕ) → k + 1 ≡ count → IsBefore ss k mark
  pub behind : count < length ss → IsBehind ss count mark

-- the items from a place on up to another moved so many places towards the end, and those before them not
pub record Lifted {A : Type 0} (old : List A) (from to by : ℕ) (now : List A) : Type 0 where
  pub front : take from now ≡ take from old
  pub back : drop (from + by) now ≡ take (to - from) (drop from old) ++ drop (to + by) old
  pub count : length now ≡ length old

-- an event was put at a place, where so many are left to come before it, and the events from there on up to another moved behind it
pub record IsPut (old : List code.Event) (v : Event) (from to left : ℕ) (now : List code.Event) : Type 0 where
  pub front : take from now ≡ take from old
  pub back : map event_of (drop (from + left) now) ≡ v ∷ map event_of (take (to - from) (drop from old) ++ drop (to + (left + 1)) old)
  pub count : length now ≡ length old
