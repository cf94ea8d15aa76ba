-- What a keeper that composes holds.
use Rattle.std.specs.Prelude.{◌≡◌, ℕ, ◌+◌, true, false, List, [], ◌++◌, length}
use Rattle.yaml_definitions.specs.model.Event.{Event}
use Rattle.yaml_definitions.specs.grammar.Events.{Props}
use Rattle.yaml_sink.specs.PropertyRules.{dressed}
use Rattle.yaml_store_composer.specs.PendingModel.{Tells}
use Rattle.yaml_store_composer.specs.BufferModel.{waits}
use Rattle.yaml_store_composer.specs.declared.pending.PendingProperties.{PendingProperties}
use Rattle.yaml_store_composer.specs.declared.keeper.Composing.{Composing}

-- The builder was told of all events of a log but those at its end, which wait.
pub record ComposesBut (pending : PendingProperties) (waiting : List Event) (log : List Event) : Type 0 where
  pub front : List Event
  pub split : log ≡ front ++ waiting
  pub tells : Tells pending front

-- These events are composed, or wait; nothing but how many they are, where what is composed no longer counts.
pub record Composes (k : Composing) (log : List Event) : Type 0 where
  pub count : k.count ≡ length log
  pub is : k.is_void ≡ false → ComposesBut k.pending (waits k.buffer) log

-- ---- what calls do

-- One event more is counted, and nothing waits. What is composed counts as before.
pub record MakesRoom (before after : Composing) : Type 0 where
  pub count : after.count ≡ before.count + 1
  pub is_void : after.is_void ≡ before.is_void
  pub none : waits after.buffer ≡ []
  pub tells : (log : List Event) → Composes before log → after.is_void ≡ false → Tells after.pending log

-- One event more is counted, and not composed.
pub record CountsOn (before after : Composing) : Type 0 where
  pub count : after.count ≡ before.count + 1
  pub is_void : after.is_void ≡ true

-- An event gets properties.
pub record DressesOne (before : Composing) (start : ℕ) (p : Props) (after : Composing) : Type 0 where
  pub is : (log es : List Event) → start ≡ length log → Composes before (log ++ es) → after.is_void ≡ false → ComposesBut after.pending (waits after.buffer) (log ++ dressed p es)
