-- From an event text that was printed, or not, to what `events` promises.
use Rattle.std.proofs.Common.{ℕ, List, Option, refl, arith}
use Rattle.yaml_definitions.specs.model.Limits.{text_limit}
use Rattle.yaml_definitions.specs.model.Event.{Event}
use Rattle.yaml_definitions.specs.model.EventText.{events_text}
use Rattle.yaml_definitions.specs.grammar.Reading.{Reads}
use Rattle.yaml_text.specs.declared.fault.Fault.{Fault}
use Rattle.yaml_text.specs.declared.fault.Fault.TheVariants.{TooLong, OutOfMemory, ReadFault, WriteFault}
use Rattle.yaml_text.specs.declared.counted.Counted.{Counted}
use Rattle.yaml_definitions.proofs.MeaningLaws.{readings_have_text}
use Rattle.yaml_text.specs.Gathering.{Gathers}
use Rattle.yaml_text.specs.Writers.{Printed}
use Rattle.yaml_event_text.specs.EventTextAnswer.{IsEventText, IsUnread}
use Rattle.yaml_command.specs.Pages.{PagesFail}
use Rattle.yaml_command.specs.Printing.{PrintFails}
use Rattle.yaml_command.specs.EventRuns.{TextPrinted, TextFails, EventsPrinted, EventsFail}

text_of : (bytes : List ℕ) (es : List Event) → Reads bytes es → IsEventText bytes (events_text es)
text_of bytes es r = record { events = es; reads = r; is = readings_have_text bytes es r }

module _ {W : Type 0} (contents : W → Option (List ℕ)) where
  pub unread_untouched : (bytes : List ℕ) (o : Counted W) (fault : Fault) → IsUnread bytes fault → TextFails contents bytes o o fault
  unread_untouched bytes o WriteFault h = absurd h
  unread_untouched bytes o _ h = (h, refl)

  pub whole_printed : (bytes text : List ℕ) (o u : Counted W) → IsEventText bytes text → Printed contents o u text → TextPrinted contents bytes o u
  whole_printed bytes text o u t p = record { text = text; is_text = t; printed = p }

  pub whole_failed : (bytes text : List ℕ) (o u : Counted W) (fault : Fault) → IsEventText bytes text → PrintFails contents o u text fault → TextFails contents bytes o u fault
  whole_failed bytes text o u WriteFault t h = (text, t, h)
  whole_failed bytes text o u _ t h = absurd h

  pub text_printed : (bytes : List ℕ) (es : List Event) (o u : Counted W) → Reads bytes es → Printed contents o u (events_text es) → TextPrinted contents bytes o u
  text_printed bytes es o u r p = record { text = events_text es; is_text = text_of bytes es r; printed = p }

  pub text_failed : (bytes : List ℕ) (es : List Event) (o u : Counted W) (fault : Fault) → Reads bytes es → PagesFail contents o u (events_text es) fault → TextFails contents bytes o u fault
  text_failed bytes es o u OutOfMemory r h = (tt, h)
  text_failed bytes es o u WriteFault r h = (events_text es, text_of bytes es r, h)
  text_failed bytes es o u _ r h = absurd h

  module _ {R : Type 0} (remaining : R → Option (List ℕ)) where
    pub events_failed : (bytes : List ℕ) (i e : Counted R) (o u : Counted W) (fault : Fault) → Gathers remaining i e text_limit bytes → TextFails contents bytes o u fault → EventsFail remaining contents i e o u fault
    events_failed bytes i e o u TooLong g h = let s = g.short in let l = h.0 in absurd (omega (arith, s, l))
    events_failed bytes i e o u OutOfMemory g h = record { fails = g.counted; untouched = h.1 }
    events_failed bytes i e o u ReadFault g h = absurd h.0
    events_failed bytes i e o u WriteFault g h = record { bytes = bytes; text = h.0; gathers = g; is_text = h.1; broken = h.2 }
    events_failed bytes i e o u fault g h = record { bytes = bytes; gathers = g; unread = h.0; untouched = h.1 }

    pub events_printed : (bytes : List ℕ) (i e : Counted R) (o u : Counted W) → Gathers remaining i e text_limit bytes → TextPrinted contents bytes o u → EventsPrinted remaining contents i e o u
    events_printed bytes i e o u g h = record { bytes = bytes; text = h.text; gathers = g; is_text = h.is_text; printed = h.printed }
