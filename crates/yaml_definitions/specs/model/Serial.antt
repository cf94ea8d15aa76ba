-- A document as its events tell it: nodes with anchors, tags as written, styles, and aliases.
use Rattle.std.specs.Prelude.{ℕ, Bool, List, [], ◌∷◌}
use Rattle.yaml_definitions.specs.model.Event.{Style, WrittenTag, Anchor, Event, stream_start, stream_end, document_start, document_end, sequence_start, sequence_end, mapping_start, mapping_end, scalar_event, alias_event}

mutual
  pub data SerialNode : Type 0 where
    alias_at : (name : List ℕ) → SerialNode
    scalar_at : Anchor → WrittenTag → Style → (text : List ℕ) → SerialNode
    sequence_at : Anchor → WrittenTag → (flow : Bool) → SerialNodes → SerialNode
    mapping_at : Anchor → WrittenTag → (flow : Bool) → SerialPairs → SerialNode

  pub data SerialNodes : Type 0 where
    end_serial : SerialNodes
    item_serial : SerialNode → SerialNodes → SerialNodes

  pub data SerialPairs : Type 0 where
    done_serial : SerialPairs
    entry_serial : (key value : SerialNode) → SerialPairs → SerialPairs

-- its events, before more events: a key before its value
unfoldable mutual
  pub flat : SerialNode → List Event → List Event
  flat (alias_at name) more = alias_event name ∷ more
  flat (scalar_at a g y x) more = scalar_event a g y x ∷ more
  flat (sequence_at a g b ts) more = sequence_start b a g ∷ flat_all ts (sequence_end ∷ more)
  flat (mapping_at a g b ps) more = mapping_start b a g ∷ flat_pairs ps (mapping_end ∷ more)

  pub flat_all : SerialNodes → List Event → List Event
  flat_all end_serial more = more
  flat_all (item_serial t ts) more = flat t (flat_all ts more)

  pub flat_pairs : SerialPairs → List Event → List Event
  flat_pairs done_serial more = more
  flat_pairs (entry_serial k v ps) more = flat k (flat v (flat_pairs ps more))

-- A document: whether its start and its end are explicit, and its root.
pub record Document : Type 0 where
  pub starts : Bool
  pub root : SerialNode
  pub ends : Bool

abbrev pub documents_events : List Document → List Event → List Event
documents_events [] more = more
documents_events (d ∷ ds) more = document_start d.starts ∷ flat d.root (document_end d.ends ∷ documents_events ds more)

unfoldable pub stream_events : List Document → List Event
stream_events ds = stream_start ∷ documents_events ds (stream_end ∷ [])
