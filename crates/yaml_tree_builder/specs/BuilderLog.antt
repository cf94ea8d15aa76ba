-- The builder over a log of events.
use Rattle.std.specs.Prelude.{◌≡◌, ◌⊎◌, ℕ, List, [], ◌∷◌, ◌++◌, length, Bool, false, None}
use Rattle.yaml_definitions.specs.model.Event.{Event, Anchor, WrittenTag, untagged, stream_start, stream_end, document_end, mapping_start}
use Rattle.yaml_definitions.specs.grammar.Events.{Props}
use Rattle.yaml_store.specs.declared.nodes.Collection.{Collection}
use Rattle.yaml_tree.specs.ComposerSteps.{State, initial_state}
use Rattle.yaml_tree_builder.specs.Reached.{Reaches}
use Rattle.yaml_tree_builder.specs.Nodes.{AreNodes}
use Rattle.yaml_tree_builder.specs.BuilderModel.{Holds, Stepped, start_of}
use Rattle.yaml_tree_builder.specs.declared.builder.TreeBuilder.{TreeBuilder}

-- The builder holds the state that the log comes to.
pub record Follows (c : TreeBuilder) (log : List Event) : Type 0 where
  pub state : State
  pub is : Reaches log initial_state state
  pub holds : Holds c state

-- nothing is put down yet
abbrev pub FollowsNone : Type 0
FollowsNone = (c : TreeBuilder) → Holds c initial_state → Follows c []

-- one event more, by a call that says what it is
abbrev pub FollowsStep : Type 0
FollowsStep = (old new : TreeBuilder) (log : List Event) (e : Event) → Follows old log → ((s : State) → Holds old s → Stepped e s new) → Follows new (log ++ (e ∷ []))

-- the stream's start and end and a document's end change nothing
abbrev pub FollowsRest : Type 0
FollowsRest = (c : TreeBuilder) (log : List Event) → Follows c log → Follows c (log ++ (stream_start ∷ [])) × Follows c (log ++ (stream_end ∷ [])) × ((explicit : Bool) → Follows c (log ++ (document_end explicit ∷ [])))

-- ---- a collection that may be the first key of a mapping

-- not two anchors, and the one that there is
abbrev pub IsOneAnchor : Anchor → Anchor → Anchor → Type 0
IsOneAnchor outer own both = ((outer ≡ None) × (both ≡ own)) ⊎ ((own ≡ None) × (both ≡ outer))

-- the node's own tag, if it has one
abbrev pub HasOwnTag : WrittenTag → WrittenTag → Type 0
HasOwnTag own both = (own ≡ untagged) ⊎ (both ≡ own)

-- events that end with the start of a mapping, of which the anchor is known, and with a collection that is its first key
abbrev pub keyed : List Event → Anchor → WrittenTag → Collection → (flow : Bool) → Props → List Event → List Event
keyed front outer tag k flow own es = front ++ (mapping_start false outer tag ∷ (start_of k flow own.anchor own.tag ∷ es))

module _ {S : Type 0} (holds : S → List Event → Type 0) (start : ℕ) where
  -- There is no mapping: the collection has these properties.
  pub record SettlesAlone (k : Collection) (p : Props) (before after : S) : Type 0 where
    pub is : (front es : List Event) (n : ℕ) (flow : Bool) (outer : Anchor) (own : Props) → start ≡ length front → AreNodes n es → IsOneAnchor outer own.anchor p.anchor → HasOwnTag own.tag p.tag
        → holds before (keyed front outer untagged k flow own es) → holds after (front ++ (start_of k flow p.anchor p.tag ∷ es))

  -- There is one, and it has these properties.
  pub record SettlesKey (p : Props) (before after : S) : Type 0 where
    pub is : (front es : List Event) (n : ℕ) (k : Collection) (flow : Bool) (own : Props) → start ≡ length front → AreNodes n es → holds before (keyed front p.anchor untagged k flow own es) → holds after (keyed front p.anchor p.tag k flow own es)
