-- From the answers of calls to what a command promises.
use Rattle.std.specs.Prelude.{Result, Ok, Err, IfOk, IfErr}
use Rattle.std.proofs.Common.{◌≡◌, ◌⊎◌, ◌≤◌, ◌<◌, ℕ, Bool, List, Option, Some, None, IfSome, subst, refl, inl, inr, arith}
use Rattle.yaml_definitions.specs.model.Limits.{text_limit}
use Rattle.yaml_text.specs.declared.fault.Fault.{Fault}
use Rattle.yaml_text.specs.declared.fault.Fault.TheVariants.{TooLong, OutOfMemory, ReadFault, WriteFault}
use Rattle.yaml_text.specs.declared.counted.Counted.{Counted}
use Rattle.yaml_text.specs.CountedModel.{inner_of}
use Rattle.yaml_text.specs.declared.side.Side.{Side}
use Rattle.yaml_canon.specs.Comparing.{Compares}
use Rattle.yaml_canon.specs.Runs.{RunFails}
use Rattle.yaml_text.specs.Writers.{Broken}
use Rattle.yaml_command.specs.declared.refusal.Refusal.{Refusal}
use Rattle.yaml_command.specs.declared.refusal.Refusal.TheVariants.{Words, CannotOpen, Input, OneSide, EventText, EventLines}
use Rattle.yaml_args.specs.declared.words.Asked.{Asked}
use Rattle.yaml_args.specs.declared.words.Asked.TheVariants.{Canon, Same, Events, Check}
use Rattle.yaml_args.specs.declared.words.WordsFault.{WordsFault}
use Rattle.yaml_command.specs.EventRuns.{EventsFail}
use Rattle.yaml_command.specs.Printing.{PrintFails}
use Rattle.yaml_command.specs.Matched.{MatchFails}
use Rattle.yaml_command.specs.Judged.{same_line, SameFails, Silent}
use Rattle.yaml_command.specs.Shelves.{IsOf, InputUnread, SideUnread, LinesUnread}
use Rattle.yaml_command.specs.Statuses.{answer_status, fault_status, refusal_status}
use Rattle.yaml_args.specs.Words.{Asks}
use Rattle.yaml_command.specs.Commands.{judged_status, BytesFail, EventsOfFail, DoesNot, WordsNotDone}
use Rattle.yaml_command.proofs.FileLaws.{gathered, file_fails}

-- the status of an answer keeps its refusal
pub judged_unmatched : (Q : Refusal → Type 0) (r : Result Bool Refusal) → IfErr r Q → IfErr (judged_status r) Q
judged_unmatched Q (Ok answer) h = tt
judged_unmatched Q (Err refusal) h = h

module _ {W : Type 0} (contents : W → Option (List ℕ)) where
  -- a line is not written whole
  pub same_broken : (left right : List ℕ) (o u : Counted W) (alike : Bool) (text : List ℕ) (fault : Fault) → Compares left right alike → text ≡ same_line alike → PrintFails contents o u text fault → SameFails contents left right o u (Input fault)
  same_broken left right o u alike text WriteFault a e h = record { answer = alike; compares = a; broken = subst (Broken contents o u) e h }
  same_broken left right o u alike text _ a e h = absurd h

  -- a refusal before a word was written
  pub side_silent : (held : Option (List ℕ)) (name : List ℕ) (side : Side) (o : Counted W) (refusal : Refusal) → SideUnread held name side refusal → Silent contents o o refusal
  side_silent held name side o (Input fault) h = absurd h
  side_silent held name side o (Words fault) h = refl
  side_silent held name side o (CannotOpen told) h = refl
  side_silent held name side o (OneSide told fault) h = refl
  side_silent held name side o (EventText fault) h = refl
  side_silent held name side o (EventLines fault) h = refl

  pub lines_silent : (held : Option (List ℕ)) (name : List ℕ) (o : Counted W) (refusal : Refusal) → LinesUnread held name refusal → Silent contents o o refusal
  lines_silent held name o (Input fault) h = absurd h
  lines_silent held name o (Words fault) h = refl
  lines_silent held name o (CannotOpen told) h = refl
  lines_silent held name o (OneSide told fault) h = refl
  lines_silent held name o (EventText fault) h = refl
  lines_silent held name o (EventLines fault) h = refl

  pub input_silent : (held : Option (List ℕ)) (name : List ℕ) (o : Counted W) (refusal : Refusal) → InputUnread held name refusal → Silent contents o o refusal
  input_silent held name o (Input WriteFault) h = absurd h
  input_silent held name o (Input fault) h = refl
  input_silent held name o (Words fault) h = refl
  input_silent held name o (CannotOpen told) h = refl
  input_silent held name o (OneSide told fault) h = refl
  input_silent held name o (EventText fault) h = refl
  input_silent held name o (EventLines fault) h = refl

  pub same_silent : (left right : List ℕ) (o u : Counted W) (refusal : Refusal) → SameFails contents left right o u refusal → Silent contents o u refusal
  same_silent left right o u (OneSide side fault) h = h.1
  same_silent left right o u (Input WriteFault) h = (_, h.broken)
  same_silent left right o u _ h = absurd h

  pub match_silent : (input lines : List ℕ) (o u : Counted W) (refusal : Refusal) → MatchFails contents input lines o u refusal → Silent contents o u refusal
  match_silent input lines o u (Input WriteFault) h = (_, h.broken)
  match_silent input lines o u (Input fault) h = h.1
  match_silent input lines o u (Words fault) h = h.1
  match_silent input lines o u (CannotOpen told) h = h.1
  match_silent input lines o u (OneSide told fault) h = h.1
  match_silent input lines o u (EventText fault) h = h.1
  match_silent input lines o u (EventLines fault) h = h.1

  module _ {F : Type 0} (remaining : F → Option (List ℕ)) where
    -- a file that is not read whole, or of which the text is not written
    pub canon_unread : (held : Option (List ℕ)) (name : List ℕ) (i e : Counted F) (o u : Counted W) (fault : Fault) → IfSome held (λ bytes. remaining (inner_of i) ≡ Some bytes) → RunFails contents remaining i e o u fault
        → (InputUnread held name (Input fault) × (u ≡ o)) ⊎ ((bytes : List ℕ) × IsOf held bytes × BytesFail contents bytes o u (Input fault))
    canon_unread held name i e o u TooLong k h = inl (file_fails remaining held i e text_limit TooLong k h.fails, h.untouched)
    canon_unread held name i e o u OutOfMemory k h = inl (tt, h.untouched)
    canon_unread held name i e o u ReadFault k h = inl (tt, h.untouched)
    canon_unread held name i e o u fault k h = inr (h.bytes, gathered remaining held i e text_limit h.bytes k h.gathers, h.refuses)

    pub events_unread : (held : Option (List ℕ)) (name : List ℕ) (i e : Counted F) (o u : Counted W) (fault : Fault) → IfSome held (λ bytes. remaining (inner_of i) ≡ Some bytes) → EventsFail remaining contents i e o u fault
        → (InputUnread held name (Input fault) × (u ≡ o)) ⊎ ((bytes : List ℕ) × IsOf held bytes × EventsOfFail contents bytes o u (Input fault))
    events_unread held name i e o u TooLong k h = inl (file_fails remaining held i e text_limit TooLong k h.fails, h.untouched)
    events_unread held name i e o u OutOfMemory k h = inl (tt, h.untouched)
    events_unread held name i e o u ReadFault k h = inl (tt, h.untouched)
    events_unread held name i e o u WriteFault k h = inr (h.bytes, gathered remaining held i e text_limit h.bytes k h.gathers, (h.text, h.is_text, h.broken))
    events_unread held name i e o u fault k h = inr (h.bytes, gathered remaining held i e text_limit h.bytes k h.gathers, (h.unread, h.untouched))

    -- ---- what words ask for

    module _ (holds : List ℕ → Option (List ℕ)) where
      no_words : (i e : Counted F) (o u : Counted W) (fault : WordsFault) (asked : Asked) → DoesNot holds contents remaining i e o u (Words fault) asked → ⊥
      no_words i e o u fault (Canon None) h = h
      no_words i e o u fault (Canon (Some name)) (inl a, b) = a.0
      no_words i e o u fault (Canon (Some name)) (inr a, b) = a.2
      no_words i e o u fault (Same left right) (inl (inl a, c), b) = a
      no_words i e o u fault (Same left right) (inl (inr a, c), b) = a
      no_words i e o u fault (Same left right) (inr a, b) = a.4
      no_words i e o u fault (Events None) h = h
      no_words i e o u fault (Events (Some name)) (inl a, b) = a.0
      no_words i e o u fault (Events (Some name)) (inr a, b) = a.2
      no_words i e o u fault (Check file lines) (inl (inl a, c), b) = a
      no_words i e o u fault (Check file lines) (inl (inr a, c), b) = a
      no_words i e o u fault (Check file lines) (inr a, b) = a.4.0

      pub not_done : (words : List (List ℕ)) (i e : Counted F) (o u : Counted W) (asked : Asked) → Asks words asked → (refusal : Refusal) → DoesNot holds contents remaining i e o u refusal asked → WordsNotDone holds contents remaining words i e o u refusal
      not_done words i e o u asked asks (Words fault) h = absurd (no_words i e o u fault asked h)
      not_done words i e o u asked asks refusal h = (asked, asks, h)

-- what an answer's status tells
pub status_tells : (P : ℕ → Type 0) (Q : Refusal → Type 0) (r : Result ℕ Refusal) → IfOk r P → IfErr r Q → P (answer_status r) ⊎ ((refusal : Refusal) × Q refusal × (answer_status r ≡ refusal_status refusal))
status_tells P Q (Ok status) p q = inl p
status_tells P Q (Err refusal) p q = inr (refusal, q, refl)

-- what it tells, and what is told of a refusal
pub status_told : {X : Type 0} (P : ℕ → Type 0) (Q T : Refusal → Type 0) (r : Result ℕ Refusal) → IfOk r P → IfErr r Q → IfOk r (λ _. X) → IfErr r T
    → (P (answer_status r) × X) ⊎ ((refusal : Refusal) × (Q refusal × T refusal) × (answer_status r ≡ refusal_status refusal))
status_told P Q T (Ok status) p q x t = inl (p, x)
status_told P Q T (Err refusal) p q x t = inr (refusal, (q, t), refl)

fault_above : (fault : Fault) → 2 ≤ fault_status fault
fault_above ReadFault = omega arith
fault_above WriteFault = omega arith
fault_above _ = omega arith

refusal_above : (refusal : Refusal) → 2 ≤ refusal_status refusal
refusal_above (Words fault) = omega arith
refusal_above (CannotOpen name) = omega arith
refusal_above (Input fault) = fault_above fault
refusal_above (OneSide side fault) = fault_above fault
refusal_above (EventText fault) = fault_above fault
refusal_above (EventLines fault) = omega arith

-- a status of at most 1 is that of an answer
pub answered : (P : ℕ → Type 0) (Q : Refusal → Type 0) (status : ℕ) → status ≤ 1 → P status ⊎ ((refusal : Refusal) × Q refusal × (status ≡ refusal_status refusal)) → P status
answered P Q status low (inl p) = p
answered P Q status low (inr (refusal, q, e)) =
    let two = refusal_above refusal in
    absurd (omega (arith, e, two))

pub quiet_below : {X : Type 0} (r : Result ℕ Refusal) → IfOk r (λ _. X) → answer_status r ≤ 1 → X
quiet_below (Ok status) x low = x
quiet_below (Err refusal) x low =
    let two = refusal_above refusal in
    absurd (omega (arith, two))
