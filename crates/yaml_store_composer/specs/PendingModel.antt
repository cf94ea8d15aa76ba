-- What a builder was told in place of a log, in which properties of collections are still due.
use Rattle.std.specs.Prelude.{◌≡◌, ℕ, ◌+◌, Bool, false, List, [], ◌∷◌, ◌++◌, length, reverse, Option, Some, None}
use Rattle.yaml_definitions.specs.model.Event.{Event, Anchor, WrittenTag, untagged, mapping_start}
use Rattle.yaml_definitions.specs.grammar.Events.{Props}
use Rattle.yaml_sink.specs.PropertyRules.{props_of, with_props, dressed}
use Rattle.yaml_sink.specs.declared.properties.Properties.{Properties}
use Rattle.yaml_store.specs.declared.nodes.Collection.{Collection}
use Rattle.yaml_tree_builder.specs.Nodes.{AreNodes}
use Rattle.yaml_tree_builder.specs.BuilderModel.{start_of, end_of}
use Rattle.yaml_tree_builder.specs.JudgedModel.{Judges}
use Rattle.yaml_tree_builder.specs.declared.judged.Judged.{Judged}
use Rattle.yaml_store_composer.specs.declared.pending.Above.{Above}
use Rattle.yaml_store_composer.specs.declared.pending.Begun.{Begun}
use Rattle.yaml_store_composer.specs.declared.pending.PendingProperties.{PendingProperties}

-- an event with the properties that are due to it
abbrev pub settled : Option Properties → Event → Event
settled None e = e
settled (Some given) e = with_props (props_of given) e

-- the start of the mapping around a collection which may be its first key: its anchor is that of the lines above
abbrev pub start_above : Option Above → List Event
start_above None = []
start_above (Some above) = mapping_start false (props_of above.outer).anchor untagged ∷ []

-- The event begins a collection of this kind.
pub record IsStart (k : Collection) (e : Event) : Type 0 where
  pub flow : Bool
  pub anchor : Anchor
  pub tag : WrittenTag
  pub is : e ≡ start_of k flow anchor tag

abbrev pub IsStartIn : Option Above → Event → Type 0
IsStartIn None e = Unit {0}
IsStartIn (Some above) e = IsStart above.kind e

-- A collection's start, and whole nodes behind it.
pub record IsOpen (e : Event) (es : List Event) : Type 0 where
  pub kind : Collection
  pub flow : Bool
  pub anchor : Anchor
  pub tag : WrittenTag
  pub is : e ≡ start_of kind flow anchor tag
  pub count : ℕ
  pub nodes : AreNodes count es

-- a whole node, by its first event and the others
abbrev pub IsWhole : Event → List Event → Type 0
IsWhole e es = AreNodes 1 (e ∷ es)

-- The log ends with the events of a collection. The builder was told the same with what is due to it, behind the start of a
-- mapping where it may be the first key of one, and what `outside` says in place of the events before.
pub record Since (inside : Event → List Event → Type 0) (outside : List Event → List Event → Type 0) (b : Begun) (log told : List Event) : Type 0 where
  pub front : List Event
  pub before : List Event
  pub first : Event
  pub rest : List Event
  pub log_is : log ≡ front ++ (first ∷ rest)
  pub told_is : told ≡ before ++ (start_above b.above ++ (settled b.due first ∷ rest))
  pub at : b.at ≡ length front
  pub start : IsStartIn b.above first
  pub inside_is : inside (settled b.due first) rest
  pub outside_is : outside front before

-- these collections are open at the end of the log, the innermost first
abbrev pub OpensTold : List Begun → List Event → List Event → Type 0
OpensTold [] log told = told ≡ log
OpensTold (b ∷ bs) log told = Since IsOpen (OpensTold bs) b log told

-- The log ends with the end of a collection, of which the builder is not told before it is known whether it is a key.
pub record Held (outside : List Event → List Event → Type 0) (b : Begun) (above : Above) (log told : List Event) : Type 0 where
  pub inner : List Event
  pub log_is : log ≡ inner ++ (end_of above.kind ∷ [])
  pub since : Since IsOpen outside b inner told

abbrev pub OverTold : Option Above → (List Event → List Event → Type 0) → Begun → List Event → List Event → Type 0
OverTold None outside b log told = Since IsWhole outside b log told
OverTold (Some above) outside b log told = Held outside b above log told

-- and one may just have ended
abbrev pub EndedTold : Option Begun → List Begun → List Event → List Event → Type 0
EndedTold None bs log told = OpensTold bs log told
EndedTold (Some b) bs log told = OverTold b.above (OpensTold bs) b log told

-- The builder was told of these events in place of the log, which has so many less.
pub record TellsOf (j : Judged) (ended : Option Begun) (opens : List Begun) (early : ℕ) (log : List Event) : Type 0 where
  pub told : List Event
  pub is : EndedTold ended opens log told
  pub judges : Judges j told
  pub size : length told ≡ length log + early

-- the builder was told of these events, and knows what is due
abbrev pub Tells : PendingProperties → List Event → Type 0
Tells a log = TellsOf a.judged a.ended (reverse a.opens.items) a.early log

-- ---- what calls do

-- The first event of a collection got these properties, which were due.
pub record IsPaid (before : Begun) (start : ℕ) (p : Props) (after : Begun) : Type 0 where
  pub given : Properties
  pub due : before.due ≡ Some given
  pub same : props_of given ≡ p
  pub mark : before.at ≡ start
  pub at : after.at ≡ start
  pub none : after.due ≡ None
  pub above : after.above ≡ before.above

-- Nothing is known of a collection that ended, and the builder is the same.
pub record GoesOn (before after : PendingProperties) : Type 0 where
  pub none : after.ended ≡ None
  pub tells : (log : List Event) → Tells before log → Tells after log

-- A collection that ended, at whose first event the mark stands, gets properties there.
pub record Settles (b : Begun) (start : ℕ) (p : Props) (before after : PendingProperties) (c : Begun) : Type 0 where
  pub early : after.early ≡ before.early
  pub opens : after.opens ≡ before.opens
  pub ended : after.ended ≡ before.ended
  pub is : (log es : List Event) → start ≡ length log → TellsOf before.judged (Some b) (reverse before.opens.items) before.early (log ++ es) → TellsOf after.judged (Some c) (reverse after.opens.items) after.early (log ++ dressed p es)
