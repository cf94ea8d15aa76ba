-- A text that is read line by line, up to the first line that is no event line.
use Rattle.std.proofs.Common.{◌≡◌, ◌==◌, ◌<◌, ◌≤◌, ◌+◌, ℕ, suc, false, List, [], ◌∷◌, ◌++◌, length, map, refl, sym, ap, ◌∙◌, subst, arith, append_assoc}
use Rattle.std.specs.List.{All}
use Rattle.std.specs.Str.{IsUtf8}
use Rattle.std.proofs.lemmas.Bool.Decides.{nat_tests}
use Rattle.std.proofs.lemmas.List.{append-nil, length-append, map-append}
use Rattle.std.proofs.lemmas.List.Elements.{All-nil, All-cons, All-head, All-tail, All-append}
use Rattle.yaml_definitions.specs.model.Event.{Event}
use Rattle.yaml_definitions.specs.model.EventText.{IsSound, event_line, events_text}
use Rattle.yaml_events.specs.Lines.{IsEventLine, IsOneLine, lines_text, IsBadBefore, IsFirstBadLine}
use Rattle.yaml_events.specs.Parts.{IsLineOf}
use Rattle.yaml_events.specs.LineAnswer.{RefusesEventText, RefusesPart, fault_of}
use Rattle.yaml_events.specs.declared.fault.LineFault.{LineFault}
use Rattle.yaml_events.specs.declared.fault.LineFault.TheVariants.{NoEvent, OutOfMemory}
use Rattle.yaml_events.proofs.LineText.{events_none, events_one_more}

-- the text is the lines of these events, and then the rest
pub record IsRead (text : List ℕ) (events : List Event) (rest : List ℕ) (count : ℕ) : Type 0 where
  pub split : text ≡ events_text events ++ rest
  pub sound : All IsSound events
  pub whole : All IsOneLine (map event_line events)
  pub number : count ≡ length events
  pub room : count + length rest ≤ length text
  pub utf8 : IsUtf8 rest

pub read_none : (text : List ℕ) (events : List Event) (count : ℕ) → events ≡ [] → count ≡ 0 → IsUtf8 text → IsRead text events text count
read_none text events count e n u = subst (λ z. IsRead text z text count) (sym e) (record {
  split = ap (λ z. z ++ text) (sym events_none);
  sound = All-nil IsSound;
  whole = All-nil IsOneLine;
  number = n;
  room = omega arith;
  utf8 = u;
})

one_more : (line rest after : List ℕ) → rest ≡ line ++ (10 ∷ after) → length rest ≡ length line + 1 + length after
one_more line rest after e = ap length e ∙ length-append line (10 ∷ after) ∙ omega arith

pub read_more : (text rest line after : List ℕ) (events more : List Event) (e : Event) (count next : ℕ) → IsRead text events rest count → rest ≡ line ++ (10 ∷ after) → IsOneLine line → IsLineOf line e
    → more ≡ events ++ (e ∷ []) → next ≡ count + 1 → IsUtf8 after → IsRead text more after next
read_more text rest line after events more e count next h s o k m n u = subst (λ z. IsRead text z after next) (sym m) (record {
  split = h.split ∙ ap (λ z. events_text events ++ z) (s ∙ ap (λ z. z ++ (10 ∷ after)) k.1) ∙ sym (append_assoc (events_text events) (event_line e) (10 ∷ after))
      ∙ sym (append_assoc (events_text events ++ event_line e) (10 ∷ []) after) ∙ ap (λ z. z ++ after) (sym (events_one_more events e));
  sound = All-append IsSound events (e ∷ []) h.sound (All-cons IsSound e [] k.0 (All-nil IsSound));
  whole = subst (All IsOneLine) (sym (map-append event_line events (e ∷ [])))
      (All-append IsOneLine (map event_line events) (event_line e ∷ []) h.whole (All-cons IsOneLine (event_line e) [] (subst IsOneLine k.1 o) (All-nil IsOneLine)));
  number = n ∙ ap (λ z. z + 1) h.number ∙ sym (length-append events (e ∷ []));
  room = omega (arith, h.room, n, one_more line rest after s);
  utf8 = u;
})

-- ---- the first bad line

lines_are : (es : List Event) → lines_text (map event_line es) ≡ events_text es
unfolding events_text
lines_are [] = refl
lines_are (e ∷ es) = ap (λ z. event_line e ++ (10 ∷ z)) (lines_are es)

event_lines : (es : List Event) → All IsSound es → All IsEventLine (map event_line es)
event_lines [] h = All-nil IsEventLine
event_lines (e ∷ es) h = All-cons IsEventLine (event_line e) (map event_line es) (e, All-head IsSound e es h, refl) (event_lines es (All-tail IsSound e es h))

count_lines : (es : List Event) → length (map event_line es) ≡ length es
count_lines [] = refl
count_lines (e ∷ es) = ap suc (count_lines es)

first_bad : (text rest line after : List ℕ) (events : List Event) (count number : ℕ) → IsRead text events rest count → number ≡ count + 1 → rest ≡ line ++ after → IsOneLine line → IsBadBefore line after → IsFirstBadLine text number
first_bad text rest line after events count number h n s o b = record {
  before = map event_line events;
  line = line;
  after = after;
  split = h.split ∙ ap (λ z. events_text events ++ z) s ∙ ap (λ z. z ++ (line ++ after)) (sym (lines_are events));
  place = n ∙ ap (λ z. z + 1) (h.number ∙ sym (count_lines events));
  whole = All-cons IsOneLine line (map event_line events) o h.whole;
  good = event_lines events h.sound;
  bad = b;
}

some_left : (rest : List ℕ) → false ≡ (length rest == 0) → 0 < length rest
some_left rest e = grind (arith, nat_tests)

pub no_feed_left : (text rest : List ℕ) (events : List Event) (count number : ℕ) → IsRead text events rest count → number ≡ count + 1 → false ≡ (length rest == 0) → IsOneLine rest → IsFirstBadLine text number
no_feed_left text rest events count number h n e o = first_bad text rest rest [] events count number h n (sym (append-nil rest)) o (some_left rest e)

pub bad_line : (text rest line after : List ℕ) (events : List Event) (count number : ℕ) (e : LineFault) → IsRead text events rest count → number ≡ count + 1 → rest ≡ line ++ (10 ∷ after) → IsOneLine line
    → RefusesPart e (IsLineOf line) → RefusesEventText text (fault_of e number)
bad_line text rest line after events count number NoEvent h n s o r = first_bad text rest line (10 ∷ after) events count number h n s o (refl, λ k. r k.0 (k.1, k.2))
bad_line text rest line after events count number OutOfMemory h n s o r = tt
