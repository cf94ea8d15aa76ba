-- Events that are held against the lines of a text, one after the other.
use Rattle.std.proofs.Common.{◌≡◌, ◌≢◌, ◌+◌, ◌==◌, Bool, true, false, ℕ, List, [], ◌∷◌, ◌++◌, Option, Some, None, length, refl, sym, ap, ◌∙◌, subst, append_assoc, arith}
use Rattle.std.specs.Str.{IsUtf8}
use Rattle.std.proofs.lemmas.List.{append-nil, length-append, append_cancel_left}
use Rattle.std.proofs.lemmas.Bool.Decides.{nat_tests}
use Rattle.yaml_definitions.specs.model.Event.{Event}
use Rattle.yaml_definitions.specs.model.EventText.{EventText, events_text}
use Rattle.yaml_events.specs.LineAnswer.{TellsEventText, StillBehind}
use Rattle.yaml_events.specs.Lines.{IsOneLine}
use Rattle.yaml_events.specs.Parts.{IsLineOf}
use Rattle.yaml_text.specs.EventModel.{event_of}
use Rattle.yaml_text.specs.declared.event.Event as code
use Rattle.yaml_text.specs.contracts.event.EventPartialEq.TheImpl.{eq-value}
use Rattle.yaml_events.proofs.SameEvents.{one_same}
use Rattle.yaml_events.proofs.FirstBad.{IsRead, read_none, read_more}

-- The events begin with those that were read, and go on with these; or they do not begin with them.
abbrev pub GoesOn : List Event → List Event → Option (List Event) → Type 0
GoesOn all read (Some left) = all ≡ read ++ left
GoesOn all read None = (more : List Event) → all ≢ read ++ more

-- The text is the lines of some events and then the rest, and these are held against all.
pub record IsHeld (text : List ℕ) (all : List Event) (left : Option (List Event)) (rest : List ℕ) (count : ℕ) : Type 0 where
  pub read : List Event
  pub is_read : IsRead text read rest count
  pub goes_on : GoesOn all read left

pub held_first : (text : List ℕ) (all : List Event) (left : Option (List Event)) (count : ℕ) → left ≡ Some all → count ≡ 0 → IsUtf8 text → IsHeld text all left text count
held_first text all left count e n u = record {
  read = [];
  is_read = read_none text [] count refl n u;
  goes_on = subst (GoesOn all []) (sym e) refl;
}

-- ---- one more line

goes_on_more : (all read : List Event) (e : Event) (left next : Option (List Event)) → GoesOn all read left → StillBehind e left next → GoesOn all (read ++ (e ∷ [])) next
goes_on_more all read e (Some left) (Some rest) h b = h ∙ ap (λ z. read ++ z) b ∙ sym (append_assoc read (e ∷ []) rest)
goes_on_more all read e (Some left) None h b = λ more k. b more (append_cancel_left read left (e ∷ more) (sym h ∙ k ∙ append_assoc read (e ∷ []) more))
goes_on_more all read e None (Some rest) h b = absurd (cc)
goes_on_more all read e None None h b = λ more k. h (e ∷ more) (k ∙ append_assoc read (e ∷ []) more)

pub held_more : (text rest line after : List ℕ) (all : List Event) (e : Event) (left next : Option (List Event)) (count more : ℕ) → IsHeld text all left rest count → rest ≡ line ++ (10 ∷ after) → IsOneLine line → IsLineOf line e
    → more ≡ count + 1 → IsUtf8 after → StillBehind e left next → IsHeld text all next after more
held_more text rest line after all e left next count more h s o k n u b = record {
  read = h.read ++ (e ∷ []);
  is_read = read_more text rest line after h.read (h.read ++ (e ∷ [])) e count more h.is_read s o k refl n u;
  goes_on = goes_on_more all h.read e left next h.goes_on b;
}

-- ---- the end

pub empty_length : (rest : List ℕ) → true ≡ (length rest == 0) → length rest ≡ 0
empty_length rest e = grind (arith, nat_tests)

text_is : (text rest : List ℕ) (read : List Event) (count : ℕ) → IsRead text read rest count → rest ≡ [] → EventText text read
text_is text rest read count h e = record { sound = h.sound; lines = h.split ∙ ap (λ z. events_text read ++ z) e ∙ append-nil (events_text read) }

longer : (read more : List Event) (x : Event) → read ≢ read ++ (x ∷ more)
longer read more x e = omega (arith, ap length e, length-append read (x ∷ more))

some_left : (x : Event) (xs : List Event) → (length (x ∷ xs) == 0) ≡ false
some_left x xs = grind (arith, nat_tests)

-- whether nothing is left
abbrev pub NoneLeft : Option (List Event) → Bool → Type 0
NoneLeft (Some left) answer = answer ≡ (length left == 0)
NoneLeft None answer = answer ≡ false

pub held_last : (text rest : List ℕ) (all : List Event) (left : Option (List Event)) (count : ℕ) (answer : Bool) → IsHeld text all left rest count → rest ≡ [] → NoneLeft left answer → TellsEventText text all answer
held_last text rest all (Some []) count answer h e a =
    let is : all ≡ h.read = h.goes_on ∙ append-nil h.read in
    record { wanted = h.read; is = text_is text rest h.read count h.is_read e; tells = (λ _. is, λ _. a) }
held_last text rest all (Some (x ∷ xs)) count answer h e a = record {
  wanted = h.read;
  is = text_is text rest h.read count h.is_read e;
  tells = (λ q. let f = a ∙ some_left x xs in absurd (cc), λ q. absurd (longer h.read xs x (sym q ∙ h.goes_on)));
}
held_last text rest all None count answer h e a = record {
  wanted = h.read;
  is = text_is text rest h.read count h.is_read e;
  tells = (λ q. absurd (cc), λ q. absurd (h.goes_on [] (q ∙ sym (append-nil h.read))));
}

-- ---- the code's comparison

pub differs : (first event : code.Event) (others : List Event) → eq-value.it first event ≡ false → (rest : List Event) → event_of first ∷ others ≢ event_of event ∷ rest
differs first event others h rest k =
    let e : event_of first ≡ event_of event = cc in
    let t = one_same first event e in
    absurd (cc)
