-- What is told of files that are not read or are rejected.
use Rattle.std.specs.Prelude.{◌≡◌, ◌⊎◌, ◌≤◌, ℕ, max, List, [], ◌++◌, Result, Ok, Err, Vec}
use Rattle.std.specs.declared.alloc.Global.{Global}
use Rattle.yaml_text.specs.declared.fault.Fault.{Fault}
use Rattle.yaml_text.specs.declared.fault.Fault.TheVariants.{TooLong, OutOfMemory}
use Rattle.yaml_text.specs.declared.side.Side.{Side}
use Rattle.yaml_text.specs.declared.side.Side.TheVariants.{Left, Right}
use Rattle.yaml_canon.specs.Claims.{IsCanonicalText, CanonicalRefuses}
use Rattle.yaml_canon.specs.FaultPlaces.{TellsPlace}
use Rattle.review_text.specs.declared.options.Form.{Form}
use Rattle.review_faults.specs.FaultLines.{TellsFault}
use Rattle.review_files.specs.Lines.{fault_line, unread_line}
use Rattle.review_files.specs.Statuses.{unread_status}
use Rattle.review_files.specs.declared.rejected.Named.{Named}
use Rattle.review_files.specs.declared.unread.Unread.{Unread}
use Rattle.review_files.specs.declared.unread.Unread.TheVariants as unread

-- ---- bytes

-- `canonical` answers a text
abbrev pub IsAccepted : List ℕ → Type 0
IsAccepted bytes = (text : List ℕ) × IsCanonicalText bytes text

-- it refuses the bytes, and its fault is told
abbrev pub TellsRefusal : Form → List ℕ → List ℕ → List ℕ → Type 0
TellsRefusal form name bytes text = (fault : Fault) × CanonicalRefuses bytes fault × TellsPlace bytes fault × TellsFault form name bytes fault text

-- What `faults` tells of bytes: nothing of those that are accepted, with the status 0. The status is 2 for others.
abbrev pub TellsFaults : Form → List ℕ → List ℕ → List ℕ → ℕ → Type 0
TellsFaults form name bytes text status = (IsAccepted bytes × ((text ≡ []) × (status ≡ 0))) ⊎ (TellsRefusal form name bytes text × (status ≡ 2))

-- ---- one file

-- of a file that is not read: one with more bytes than a text may have is rejected, as others are for their bytes
abbrev pub TellsUnread : Form → List ℕ → Unread → List ℕ → ℕ → Type 0
TellsUnread form name why text status = ((why ≡ unread.Fault TooLong) × TellsFault form name [] TooLong text × (status ≡ 2)) ⊎ ((text ≡ unread_line name why) × (status ≡ unread_status why))

-- What reading a file gave. Of its bytes the same is told as `faults` tells.
abbrev pub TellsAnswer : Form → List ℕ → Result (Vec ℕ Global) Unread → List ℕ → ℕ → Type 0
TellsAnswer form name (Ok bytes) text status = TellsFaults form name bytes.items text status
TellsAnswer form name (Err why) text status = TellsUnread form name why text status

abbrev pub TellsFile : Form → Named → List ℕ → ℕ → Type 0
TellsFile form file text status = TellsAnswer form file.name.now file.answer.now text status

-- Of two files: what is told of the first, and then of the second. The status is the greater one.
pub record TellsBoth (form : Form) (left right : Named) (text : List ℕ) (status : ℕ) : Type 0 where
  pub first : List ℕ
  pub second : List ℕ
  pub one : ℕ
  pub other : ℕ
  pub of_left : TellsFile form left first one
  pub of_right : TellsFile form right second other
  pub is : text ≡ first ++ second
  pub status_is : status ≡ max one other

abbrev pub side_name : Side → Named → Named → List ℕ
side_name Left left right = left.name.now
side_name Right left right = right.name.now

-- the line of a file for which memory is refused
abbrev pub no_memory : List ℕ → List ℕ
no_memory name = fault_line name OutOfMemory

-- Of two files that are read and not compared: what is told of both or, if neither is rejected, that memory is refused for one of them.
abbrev pub TellsNotCompared : Form → Named → Named → Side → List ℕ → ℕ → Type 0
TellsNotCompared form left right side text status =
    (TellsBoth form left right text status × (1 ≤ status))
    ⊎ ((before : List ℕ) × TellsBoth form left right before 0 × (text ≡ before ++ no_memory (side_name side left right)) × (status ≡ 2))
