-- Events that wait to be composed.
use Rattle.std.specs.Prelude.{◌≡◌, ℕ, Bool, List, [], ◌∷◌, ◌++◌, length, Option, Some, None}
use Rattle.std.specs.Cow.{cow_str_bytes}
use Rattle.yaml_definitions.specs.model.Event.{Event, mapping_start, scalar_event, alias_event, untagged}
use Rattle.yaml_definitions.specs.grammar.Events.{Props}
use Rattle.yaml_text.specs.EventModel.{style_of}
use Rattle.yaml_sink.specs.PropertyRules.{props_of, with_props, dressed}
use Rattle.yaml_sink.specs.SinkModel.{start_of}
use Rattle.yaml_store_composer.specs.PendingModel.{Tells}
use Rattle.yaml_store_composer.specs.declared.pending.PendingProperties.{PendingProperties}
use Rattle.yaml_store_composer.specs.declared.event_buffer.Buffered.{Buffered}
use Rattle.yaml_store_composer.specs.declared.event_buffer.Buffered.TheVariants.{Nothing, Scalar, Alias, Start}
use Rattle.yaml_store_composer.specs.declared.event_buffer.EventBuffer.{EventBuffer}

-- the event that waits, if one does, with these properties and this text
abbrev pub buffered_event : Buffered → Props → List ℕ → List Event
buffered_event Nothing p text = []
buffered_event (Scalar style) p text = scalar_event p.anchor p.tag (style_of style) text ∷ []
buffered_event Alias p text = alias_event text ∷ []
buffered_event (Start collection flow) p text = with_props p (start_of collection flow) ∷ []

-- a mapping's start, if there is one
abbrev pub start_before : Option Bool → Props → List Event
start_before None p = []
start_before (Some flow) p = mapping_start flow p.anchor p.tag ∷ []

-- before an event
abbrev pub behind_start : Option Bool → Props → List Event → List Event
behind_start mapping p [] = []
behind_start mapping p (e ∷ es) = start_before mapping p ++ (e ∷ es)

abbrev pub waits : EventBuffer → List Event
waits w = behind_start w.mapping (props_of w.outer) (buffered_event w.buffered (props_of w.own) (cow_str_bytes w.text))

-- something waits
abbrev pub IsThere : EventBuffer → Type 0
IsThere w = waits w ≡ [] → ⊥

-- There is one event.
pub record IsOne (es : List Event) : Type 0 where
  pub event : Event
  pub is : es ≡ event ∷ []

-- The builder is told of these events, the first of which has this number.
pub record PutsBuffered (number : ℕ) (es : List Event) (before after : PendingProperties) : Type 0 where
  pub is : (log : List Event) → number ≡ length log → Tells before log → Tells after (log ++ es)

-- The builder is told of these events, the last of so many.
pub record ComposesWaits (count : ℕ) (es : List Event) (before after : PendingProperties) : Type 0 where
  pub is : (log : List Event) → count ≡ length (log ++ es) → Tells before log → Tells after (log ++ es)

-- One event waits, and then a mapping's start before it.
pub record Precedes (flow : Bool) (before after : List Event) : Type 0 where
  pub one : length before ≡ 1
  pub is : after ≡ mapping_start flow None untagged ∷ before

-- The first of the last so many events of a log, at whose end some wait, gets properties.
pub record DressesWaits (count : ℕ) (p : Props) (before after : List Event) : Type 0 where
  pub is : (front log es : List Event) → log ++ es ≡ front ++ before → count ≡ length es → log ++ dressed p es ≡ front ++ after
