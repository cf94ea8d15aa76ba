-- What each command does where it answers, and why it does not.
use Rattle.std.specs.Prelude.{◌≡◌, ◌⊎◌, ℕ, Bool, cond, List, Option, None, Some, Result, Ok, Err}
use Rattle.yaml_text.specs.declared.fault.Fault.{Fault}
use Rattle.yaml_text.specs.declared.fault.Fault.TheVariants.{WriteFault}
use Rattle.yaml_text.specs.declared.counted.Counted.{Counted}
use Rattle.yaml_text.specs.CountedModel.{inner_of, faults_of}
use Rattle.yaml_text.specs.declared.side.Side.TheVariants.{Left, Right}
use Rattle.yaml_canon.specs.Runs.{WritesCanonical, WriteRefuses, RunsWhole, RunFails}
use Rattle.yaml_text.specs.Writers.{Printed, Broken}
use Rattle.yaml_command.specs.EventRuns.{EventsPrinted, EventsFail}
use Rattle.yaml_event_text.specs.EventTextAnswer.{IsEventText, IsUnread}
use Rattle.yaml_command.specs.Matched.{PrintsMatch, MatchFails}
use Rattle.yaml_command.specs.Judged.{PrintsSame, SameFails}
use Rattle.yaml_command.specs.Refusals.{Told}
use Rattle.yaml_command.specs.Shelves.{IsOf, InputUnread, SideUnread, LinesUnread}
use Rattle.yaml_command.specs.Statuses.{refusal_status}
use Rattle.yaml_args.specs.Words.{Asks, RefusesWords}
use Rattle.yaml_args.specs.declared.words.Asked.{Asked}
use Rattle.yaml_args.specs.declared.words.Asked.TheVariants.{Canon, Same, Events, Check}
use Rattle.yaml_command.specs.declared.refusal.Refusal.{Refusal}
use Rattle.yaml_command.specs.declared.refusal.Refusal.TheVariants.{Words, Input}

-- the status of a command that writes a text
abbrev pub written_status : {T : Type 0} → Result T Fault → Result ℕ Refusal
written_status (Ok nothing) = Ok 0
written_status (Err fault) = Err (Input fault)

-- the status of a command that answers whether two files are alike
abbrev pub judged_status : Result Bool Refusal → Result ℕ Refusal
judged_status (Ok alike) = Ok (cond alike 0 1)
judged_status (Err refusal) = Err refusal

module _ {W : Type 0} (contents : W → Option (List ℕ)) where
  -- why the canonical text of some bytes was not written, or not whole
  abbrev pub BytesFail : List ℕ → Counted W → Counted W → Refusal → Type 0
  BytesFail bytes old new (Input fault) = WriteRefuses contents bytes old new fault
  BytesFail bytes old new _ = ⊥

  -- and the text of their events
  abbrev pub EventsOfFail : List ℕ → Counted W → Counted W → Refusal → Type 0
  EventsOfFail bytes old new (Input WriteFault) = (text : List ℕ) × IsEventText bytes text × Broken contents old new text
  EventsOfFail bytes old new (Input fault) = IsUnread bytes fault × (new ≡ old)
  EventsOfFail bytes old new _ = ⊥

module _ {W : Type 0} (holds : List ℕ → Option (List ℕ)) (contents : W → Option (List ℕ)) where
  -- Where it is known what a named file holds, what is printed is of those bytes.
  abbrev pub FileCanonical : List ℕ → Counted W → Counted W → Type 0
  FileCanonical name old new = (bytes : List ℕ) × IsOf (holds name) bytes × WritesCanonical contents bytes old new

  abbrev pub FileEvents : List ℕ → Counted W → Counted W → Type 0
  FileEvents name old new = (bytes : List ℕ) × IsOf (holds name) bytes × ((text : List ℕ) × IsEventText bytes text × Printed contents old new text)

  abbrev pub FilesCompared : List ℕ → List ℕ → Counted W → Counted W → Bool → Type 0
  FilesCompared first second old new answer =
      (left : List ℕ) × (right : List ℕ) × IsOf (holds first) left × IsOf (holds second) right × PrintsSame contents left right old new answer

  abbrev pub FilesMatched : List ℕ → List ℕ → Counted W → Counted W → Bool → Type 0
  FilesMatched first second old new answer =
      (input : List ℕ) × (lines : List ℕ) × IsOf (holds first) input × IsOf (holds second) lines × PrintsMatch contents input lines old new answer

  -- Why a file's text was not written: the file is not read, or what it holds is refused, or the text was cut off.
  abbrev pub FileNotCanonical : List ℕ → Counted W → Counted W → Refusal → Type 0
  FileNotCanonical name old new refusal =
      (InputUnread (holds name) name refusal × (new ≡ old)) ⊎ ((bytes : List ℕ) × IsOf (holds name) bytes × BytesFail contents bytes old new refusal)

  abbrev pub FileHasNoEvents : List ℕ → Counted W → Counted W → Refusal → Type 0
  FileHasNoEvents name old new refusal =
      (InputUnread (holds name) name refusal × (new ≡ old)) ⊎ ((bytes : List ℕ) × IsOf (holds name) bytes × EventsOfFail contents bytes old new refusal)

  -- why two files are not compared, or not held against each other
  abbrev pub FilesNotCompared : List ℕ → List ℕ → Counted W → Counted W → Refusal → Type 0
  FilesNotCompared first second old new refusal =
      ((SideUnread (holds first) first Left refusal ⊎ SideUnread (holds second) second Right refusal) × (new ≡ old))
      ⊎ ((left : List ℕ) × (right : List ℕ) × IsOf (holds first) left × IsOf (holds second) right × SameFails contents left right old new refusal)

  abbrev pub FilesNotMatched : List ℕ → List ℕ → Counted W → Counted W → Refusal → Type 0
  FilesNotMatched first second old new refusal =
      ((InputUnread (holds first) first refusal ⊎ LinesUnread (holds second) second refusal) × (new ≡ old))
      ⊎ ((input : List ℕ) × (lines : List ℕ) × IsOf (holds first) input × IsOf (holds second) lines × MatchFails contents input lines old new refusal)

  module _ {R : Type 0} (remaining : R → Option (List ℕ)) where
    -- The text or the word was written, and the status tells the answer. Standard input is not read where a file is named.
    abbrev pub Does : Asked → Counted R → Counted R → Counted W → Counted W → ℕ → Type 0
    Does (Canon None) input end old new status = RunsWhole contents remaining input end old new × (status ≡ 0)
    Does (Canon (Some name)) input end old new status = FileCanonical name.now old new × (end ≡ input) × (status ≡ 0)
    Does (Same left right) input end old new status = (answer : Bool) × FilesCompared left.now right.now old new answer × (end ≡ input) × (status ≡ cond answer 0 1)
    Does (Events None) input end old new status = EventsPrinted remaining contents input end old new × (status ≡ 0)
    Does (Events (Some name)) input end old new status = FileEvents name.now old new × (end ≡ input) × (status ≡ 0)
    Does (Check file lines) input end old new status = (answer : Bool) × FilesMatched file.now lines.now old new answer × (end ≡ input) × (status ≡ cond answer 0 1)

    -- why it does not
    abbrev pub InputNotCanonical : Counted R → Counted R → Counted W → Counted W → Refusal → Type 0
    InputNotCanonical input end old new (Input fault) = RunFails contents remaining input end old new fault
    InputNotCanonical input end old new _ = ⊥

    abbrev pub InputHasNoEvents : Counted R → Counted R → Counted W → Counted W → Refusal → Type 0
    InputHasNoEvents input end old new (Input fault) = EventsFail remaining contents input end old new fault
    InputHasNoEvents input end old new _ = ⊥

    abbrev pub DoesNot : Counted R → Counted R → Counted W → Counted W → Refusal → Asked → Type 0
    DoesNot input end old new refusal (Canon None) = InputNotCanonical input end old new refusal
    DoesNot input end old new refusal (Canon (Some name)) = FileNotCanonical name.now old new refusal × (end ≡ input)
    DoesNot input end old new refusal (Same left right) = FilesNotCompared left.now right.now old new refusal × (end ≡ input)
    DoesNot input end old new refusal (Events None) = InputHasNoEvents input end old new refusal
    DoesNot input end old new refusal (Events (Some name)) = FileHasNoEvents name.now old new refusal × (end ≡ input)
    DoesNot input end old new refusal (Check file lines) = FilesNotMatched file.now lines.now old new refusal × (end ≡ input)

    -- what the words ask for is done, with this status
    abbrev pub WordsDone : List (List ℕ) → Counted R → Counted R → Counted W → Counted W → ℕ → Type 0
    WordsDone words input end old new status = (asked : Asked) × Asks words asked × Does asked input end old new status

    -- why it is not: the words are refused, and no stream is used, or what they ask for is not done
    abbrev pub WordsNotDone : List (List ℕ) → Counted R → Counted R → Counted W → Counted W → Refusal → Type 0
    WordsNotDone words input end old new (Words fault) = RefusesWords words fault × (end ≡ input) × (new ≡ old)
    WordsNotDone words input end old new refusal = (asked : Asked) × Asks words asked × DoesNot input end old new refusal asked

    module _ {E : Type 0} (lines : E → Option (List ℕ)) where
      -- what a status tells of words, and standard error of a refusal
      abbrev pub Tells : List (List ℕ) → Counted R → Counted R → Counted W → Counted W → Counted E → Counted E → ℕ → Type 0
      Tells words input end old new before after status =
          (WordsDone words input end old new status × (after ≡ before))
          ⊎ ((refusal : Refusal) × (WordsNotDone words input end old new refusal × Told lines before after refusal) × (status ≡ refusal_status refusal))

      -- the same of a reader and of writers that were given away, where no call of theirs had failed
      pub record RunTells (words : List (List ℕ)) (input : R) (out : W) (err : E) (status : ℕ) : Type 0 where
        pub start : Counted R
        pub end : Counted R
        pub old : Counted W
        pub new : Counted W
        pub before : Counted E
        pub after : Counted E
        pub reader : inner_of start ≡ input
        pub no_read : faults_of start ≡ 0
        pub writer : inner_of old ≡ out
        pub no_write : faults_of old ≡ 0
        pub teller : inner_of before ≡ err
        pub no_line : faults_of before ≡ 0
        pub tells : Tells words start end old new before after status
