-- What a counter of events has counted.
use Rattle.std.specs.Prelude.{◌≡◌, ◌+◌, ℕ, List, [], ◌∷◌, length, MatchOption}
use Rattle.yaml_definitions.specs.model.Event.{Event, stream_start, stream_end, document_start, document_end, sequence_start, sequence_end, mapping_start, mapping_end, scalar_event, alias_event}
use Rattle.yaml_read.specs.declared.count.Counter.{Counter}

-- how many bytes an event's content has
abbrev pub content_of : Event → ℕ
content_of (scalar_event a t style text) = length text
content_of (sequence_start flow a t) = 0
content_of (mapping_start flow a t) = 0
content_of (alias_event name) = 0
content_of stream_start = 0
content_of stream_end = 0
content_of (document_start explicit) = 0
content_of (document_end explicit) = 0
content_of sequence_end = 0
content_of mapping_end = 0

unfoldable pub contents_of : List Event → ℕ
contents_of [] = 0
contents_of (e ∷ es) = content_of e + contents_of es

-- the events that were put down and not taken back, and their contents, where nothing was taken back
pub record CountHolds (c : Counter) (log : List Event) : Type 0 where
  pub events : c.events ≡ length log
  pub bytes : MatchOption c.bytes (Unit {0}) (λ n. n ≡ contents_of log)

-- one event more, with a content of so many bytes
pub record Grows (before : Counter) (len : ℕ) (after : Counter) : Type 0 where
  pub events : after.events ≡ before.events + 1
  pub bytes : MatchOption after.bytes (Unit {0}) (λ n. MatchOption before.bytes ⊥ (λ m. n ≡ m + len))
