-- From a refusal to read a file again to what it says of the file.
use Rattle.std.proofs.Common.{◌≡◌, ◌⊎◌, inl, inr, ℕ, true, List}
use Rattle.std.specs.Prelude.{Option, Some, None}
use Rattle.yaml_definitions.specs.model.Text.{Text}
use Rattle.yaml_definitions.specs.grammar.Reading.{Reads}
use Rattle.yaml_text.proofs.RefusedText.{refused_is_no_text}
use Rattle.yaml_text.proofs.UnreadLaws.{no_stream}
use Rattle.yaml_text.specs.Refused.{RefusesText}
use Rattle.yaml_text.specs.declared.fault.Fault.{Fault}
use Rattle.yaml_text.specs.declared.fault.Fault.TheVariants as faults
use Rattle.yaml_path.specs.declared.place.Place.{Place}
use Rattle.yaml_read.specs.Decided.{HasNoReading}
use Rattle.review_faults.specs.Again.{CannotRead, CannotTell}
use Rattle.review_faults.specs.EventPlaces.{IsPlaceAt}
use Rattle.review_faults.specs.FaultLines.{names_event}
use Rattle.review_faults.specs.NoJson.{IsOfText}

-- bytes that are no text
pub text_refused : (bytes : List ℕ) (fault : Fault) → RefusesText bytes fault → CannotRead bytes fault
unfolding Reads
text_refused bytes fault h = inr (λ es (cs, t, r). refused_is_no_text bytes cs fault h t)

-- a text without a reading
pub reading_refused : (bytes text : List ℕ) (fault : Fault) → Text bytes text → (fault ≡ faults.OutOfMemory) ⊎ HasNoReading text → CannotRead bytes fault
reading_refused bytes text fault t (inl e) = inl e
reading_refused bytes text fault t (inr h) = inr (no_stream bytes text (faults.Syntax 0) t (inr h) (λ e. absurd (cc))).unread

-- want of memory is one of the errors where a file is read again, or a fault is told
pub memory_alone : (bytes : List ℕ) (error : Fault) → error ≡ faults.OutOfMemory → CannotRead bytes error
memory_alone bytes error e = inl e

pub memory_told : (bytes : List ℕ) (fault error : Fault) → error ≡ faults.OutOfMemory → CannotTell bytes fault error
memory_told bytes fault error e = inl e

-- a fault that names an event
pub event_told : (bytes : List ℕ) (fault error : Fault) → names_event fault ≡ true → CannotRead bytes error → CannotTell bytes fault error
event_told bytes fault error n (inl e) = inl e
event_told bytes fault error n (inr h) = inr (n, h)

pub some_place : (text : List ℕ) (at : ℕ) (place : Option Place) → IsPlaceAt text at place → IsOfText text place
some_place text at None h = tt
some_place text at (Some p) h = (at, h.0, h.1)
