-- Node properties (YAML 1.2.2, 6.9), and how they are put on the first event of a node.
use Rattle.std.specs.Prelude.{◌≡◌, ◌⊎◌, ℕ, List, [], ◌∷◌, Option, Some, None, encode_utf8_all, length}
use Rattle.std.specs.Option.{option_map}
use Rattle.std.specs.Cow.{cow_str_bytes}
use Rattle.yaml_definitions.specs.model.Event.{Event, WrittenTag, untagged, non_specific, full, Anchor, stream_start, stream_end, document_start, document_end, sequence_start, sequence_end, mapping_start, mapping_end, scalar_event, alias_event}
use Rattle.yaml_text.specs.EventModel.{written_of, Adds}
use Rattle.yaml_text.specs.declared.event.Event as code
use Rattle.yaml_definitions.specs.grammar.Separation.{Ctx}
use Rattle.yaml_definitions.specs.grammar.Tags.{Handles, c-ns-tag-property as tag, c-ns-anchor-property as anchor, c-ns-properties as properties}
use Rattle.yaml_definitions.specs.grammar.Events.{Props, no_props}
use Rattle.std.specs.Box.{box_value}
use Rattle.std.specs.Global.{Box}
use Rattle.yaml_sink.specs.declared.properties.Given.{Given}
use Rattle.yaml_sink.specs.declared.properties.Properties.{Properties}

abbrev pub props_in : Given → Props
props_in g = record { anchor = option_map cow_str_bytes g.anchor; tag = written_of g.tag }

abbrev pub props_given : Option (Box Given) → Props
props_given None = no_props
props_given (Some given) = props_in (box_value given)

abbrev pub props_of : Properties → Props
props_of p = props_given p.given

-- a tag, an anchor
abbrev pub HasTag : WrittenTag → Type 0
HasTag untagged = ⊥
HasTag non_specific = Unit {0}
HasTag (full t) = Unit {0}

abbrev pub HasAnchor : Anchor → Type 0
HasAnchor None = ⊥
HasAnchor (Some a) = Unit {0}

-- not two tags and not two anchors
abbrev pub Disjoint : Props → Props → Type 0
Disjoint p q = ((p.anchor ≡ None) ⊎ (q.anchor ≡ None)) × ((p.tag ≡ untagged) ⊎ (q.tag ≡ untagged))

-- both together
abbrev pub either_anchor : Anchor → Anchor → Anchor
either_anchor None a = a
either_anchor (Some b) a = Some b

abbrev pub either_tag : WrittenTag → WrittenTag → WrittenTag
either_tag untagged t = t
either_tag non_specific t = non_specific
either_tag (full u) t = full u

abbrev pub both_props : Props → Props → Props
both_props outer own = record { anchor = either_anchor own.anchor outer.anchor; tag = either_tag own.tag outer.tag }

-- a node's first event with these properties; an alias has none
abbrev pub with_props : Props → Event → Event
with_props p (scalar_event a t style text) = scalar_event p.anchor p.tag style text
with_props p (sequence_start flow a t) = sequence_start flow p.anchor p.tag
with_props p (mapping_start flow a t) = mapping_start flow p.anchor p.tag
with_props p (alias_event name) = alias_event name
with_props p stream_start = stream_start
with_props p stream_end = stream_end
with_props p (document_start explicit) = document_start explicit
with_props p (document_end explicit) = document_end explicit
with_props p sequence_end = sequence_end
with_props p mapping_end = mapping_end

abbrev pub dressed : Props → List Event → List Event
dressed p [] = []
dressed p (e ∷ es) = with_props p e ∷ es

-- the events that were added to a list, which begin at `start`, get the properties
abbrev pub Dresses : Props → ℕ → List code.Event → List code.Event → Type 0
Dresses p start mid new = (old : List code.Event) (es : List Event) → start ≡ length old → Adds old es mid → Adds old (dressed p es) new

abbrev pub tag_props : WrittenTag → Props
tag_props t = record { anchor = None; tag = t }

abbrev pub anchor_props : List ℕ → Props
anchor_props a = record { anchor = Some (encode_utf8_all a); tag = untagged }

module _ (cs : List ℕ) (handles : Handles) (n : ℕ) (c : Ctx) where
  -- a tag, an anchor, or both
  pub data SomeProperties (i j : ℕ) (p : Props) : Type 0 where
    tag_alone : (t : WrittenTag) → tag cs handles i j t → HasTag t → p ≡ tag_props t → SomeProperties i j p
    anchor_alone : (a : List ℕ) → anchor cs i j a → p ≡ anchor_props a → SomeProperties i j p
    both : properties cs handles n c i j p → HasTag p.tag → HasAnchor p.anchor → SomeProperties i j p

  -- or neither
  abbrev pub Own : ℕ → ℕ → Props → Type 0
  Own i j p = ((j ≡ i) × (p ≡ no_props)) ⊎ SomeProperties i j p
