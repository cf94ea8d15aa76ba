-- What a reading, and a refusal to read, say of the bytes.
use Rattle.std.proofs.Common.{◌≡◌, ◌⊎◌, ℕ, List, subst}
use Rattle.std.specs.Prelude.{Option, Some, IfSome}
use Rattle.yaml_text.specs.LeafAnswer.{IsRefusal}
use Rattle.yaml_definitions.specs.model.Limits.{open_limit}
use Rattle.yaml_definitions.specs.model.Event.{Event}
use Rattle.yaml_definitions.specs.model.EventText.{events_text}
use Rattle.yaml_definitions.specs.model.Text.{Text}
use Rattle.yaml_text.specs.Refused.{RefusesText}
use Rattle.yaml_definitions.specs.grammar.Reading.{Reads}
use Rattle.yaml_definitions.specs.grammar.Streams.{ReadsText}
use Rattle.yaml_text.specs.declared.fault.Fault.{Fault}
use Rattle.yaml_text.specs.declared.fault.Fault.TheVariants as faults
use Rattle.yaml_definitions.proofs.MeaningLaws.{readings_have_text}
use Rattle.yaml_read.specs.Decided.{HasNoReading as NoReading}
use Rattle.yaml_text.proofs.UnreadLaws.{no_stream}
use Rattle.yaml_event_text.specs.EventTextAnswer.{IsEventText, IsUnread}

pub some_is : {A : Type 0} (P : A → Type 0) (o : Option A) (x : A) → o ≡ Some x → IfSome o P → P x
some_is P o x e h = subst (λ v. IfSome v P) e h

-- the lines of a reading are its event text
pub lines_text : (bytes cs text : List ℕ) (es : List Event) → Text bytes cs → ReadsText cs (Unit {0}) open_limit es → text ≡ events_text es → IsEventText bytes text
unfolding Reads
lines_text bytes cs text es t r e =
    let reads : Reads bytes es = (cs, t, r) in
    record { events = es; reads = reads; is = record { sound = (readings_have_text bytes es reads).sound; lines = e } }

pub no_text : (bytes : List ℕ) (fault : Fault) → RefusesText bytes fault → IsUnread bytes fault
no_text bytes faults.TooLong h = h
no_text bytes (faults.NotUtf8 at) h = h
no_text bytes (faults.NotPrintable at) h = h
no_text bytes _ h = absurd h

pub unread : (bytes text : List ℕ) (fault : Fault) → Text bytes text → IsRefusal fault → (fault ≡ faults.OutOfMemory) ⊎ NoReading text → IsUnread bytes fault
unread bytes text (faults.Syntax at) t h d = no_stream bytes text (faults.Syntax at) t d (λ e. absurd (cc))
unread bytes text (faults.Tab at) t h d = no_stream bytes text (faults.Tab at) t d (λ e. absurd (cc))
unread bytes text (faults.KeyTooLong at) t h d = no_stream bytes text (faults.KeyTooLong at) t d (λ e. absurd (cc))
unread bytes text (faults.TooDeep at) t h d = no_stream bytes text (faults.TooDeep at) t d (λ e. absurd (cc))
unread bytes text (faults.BadEscape at) t h d = no_stream bytes text (faults.BadEscape at) t d (λ e. absurd (cc))
unread bytes text (faults.BadDirective at) t h d = no_stream bytes text (faults.BadDirective at) t d (λ e. absurd (cc))
unread bytes text (faults.UnknownHandle at) t h d = no_stream bytes text (faults.UnknownHandle at) t d (λ e. absurd (cc))
unread bytes text (faults.BadTag at) t h d = no_stream bytes text (faults.BadTag at) t d (λ e. absurd (cc))
unread bytes text faults.OutOfMemory t h d = tt
unread bytes text _ t h d = absurd h
