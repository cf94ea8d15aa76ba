-- Where a line has room for a node's properties.
use Rattle.std.specs.Prelude.{◌≡◌, ◌⊎◌, ◌+◌, ℕ, List, ◌∷◌, ◌++◌, drop, get_or}
use Rattle.std.specs.List.{insert_slice}
use Rattle.yaml_definitions.specs.model.Event.{Event}
use Rattle.yaml_definitions.specs.model.EventText.{event_line, anchor_part, tag_part}
use Rattle.yaml_definitions.specs.grammar.Events.{Props, no_props}
use Rattle.yaml_sink.specs.PropertyRules.{with_props}
use Rattle.yaml_event_text.specs.declared.slot.Slot.{Slot}
use Rattle.yaml_event_text.specs.declared.slot.Slot.TheVariants.{Closed, Behind, Taken}

-- an anchor and then a tag, as a line has them
abbrev pub props_text : Props → List ℕ
props_text p = anchor_part p.anchor ++ tag_part p.tag

-- the byte of a place, or else 0, which no line has
abbrev pub byte : List ℕ → ℕ → ℕ
byte text at = get_or text at 0

-- a line of a scalar begins so, and one of a collection's start
abbrev pub IsScalarLine : List ℕ → Type 0
IsScalarLine text = (byte text 0 ≡ 61) × (byte text 1 ≡ 86)

abbrev pub IsStartLine : List ℕ → Type 0
IsStartLine text = (byte text 0 ≡ 43) × ((byte text 1 ≡ 77) ⊎ ((byte text 1 ≡ 83) × (byte text 2 ≡ 69)))

-- whatever event's line a text begins with, that takes no properties
pub record IsClosed (text : List ℕ) : Type 0 where
  pub is : (e : Event) (more : List ℕ) → text ≡ event_line e ++ (10 ∷ more) → (p : Props) → with_props p e ≡ e

-- or it has none, and they go in behind so many bytes
pub record HasRoom (text : List ℕ) (len : ℕ) : Type 0 where
  pub bare : (e : Event) (more : List ℕ) → text ≡ event_line e ++ (10 ∷ more) → with_props no_props e ≡ e
  pub dressed : (e : Event) (more : List ℕ) → text ≡ event_line e ++ (10 ∷ more) → (p : Props) → insert_slice text len (props_text p) ≡ event_line (with_props p e) ++ (10 ∷ more)

abbrev pub IsSlot : List ℕ → Slot → Type 0
IsSlot text Closed = IsClosed text
IsSlot text (Behind len) = HasRoom text len
IsSlot text Taken = Unit {0}

-- the line begins at an offset, and so does the place in it
pub record HasRoomIn (text : List ℕ) (at place : ℕ) : Type 0 where
  pub len : ℕ
  pub is : place ≡ at + len
  pub room : HasRoom (drop at text) len

abbrev pub IsSlotIn : List ℕ → ℕ → Slot → Type 0
IsSlotIn text at Closed = IsClosed (drop at text)
IsSlotIn text at (Behind place) = HasRoomIn text at place
IsSlotIn text at Taken = Unit {0}
