-- What is asked of `sum`, and what it tells.
use Rattle.std.specs.Prelude.{◌≡◌, ◌⊎◌, ℕ, List, map, Option, Some, None}
use Rattle.std.specs.Borrow.{Bor}
use Rattle.yaml_text.specs.declared.counted.Counted.{Counted}
use Rattle.yaml_text.specs.CountedModel.{inner_of, faults_of}
use Rattle.yaml_text.specs.Writers.{Printed, Broken}
use Rattle.yaml_sum.specs.Checks.{ChecksAll, ChecksCut, IsTally}
use Rattle.yaml_sum.specs.Listed.{Listing, listings_in, impropers_in}
use Rattle.yaml_sum.specs.Names.{names_in}
use Rattle.yaml_sum.specs.Summaries.{Closes}
use Rattle.yaml_sum.specs.Sums.{IsRead, IsNotRead, SumsAll, SumsCut}
use Rattle.yaml_sum.specs.declared.asked.Rules.{Rules}
use Rattle.yaml_sum.specs.declared.finding.Finding.{Finding}
use Rattle.yaml_sum.specs.declared.told.Told.{Told}
use Rattle.yaml_sum.specs.declared.asked.Asked.{Asked}
use Rattle.yaml_sum.specs.declared.asked.Asked.TheVariants.{Files, FilesFrom, Check}
use Rattle.yaml_sum.specs.Stops.{halt_status, halt_line}
use Rattle.yaml_sum.specs.declared.stop.Halt.{Halt}
use Rattle.yaml_sum.specs.declared.stop.Halt.TheVariants.{NoList, Unread, Fault}
use Rattle.yaml_sum.specs.declared.stop.Stop.TheVariants.{CannotOpen, Unread as NotRead, Refused}

-- the greatest length of a list, in bytes
abbrev pub list_limit : ℕ
list_limit = 1073741824

-- the list that names the files, if there is one
abbrev pub list_in : Asked → Option (Bor (List ℕ))
list_in (Files files) = None
list_in (FilesFrom list) = Some list
list_in (Check list rules) = Some list

module _ {R : Type 0} (holds : List ℕ → Option (List ℕ)) (remaining : R → Option (List ℕ)) where
  -- why a list is not read
  abbrev pub ListUnread : List ℕ → R → R → Halt → Type 0
  ListUnread list old new (NoList name why) = (name.now ≡ list) × IsNotRead holds remaining list list_limit old new (CannotOpen why)
  ListUnread list old new (Unread name fault) = (name.now ≡ list) × (IsNotRead holds remaining list list_limit old new (NotRead fault) ⊎ IsNotRead holds remaining list list_limit old new (Refused fault))
  ListUnread list old new (Fault fault) = ⊥

module _ {R W E : Type 0} (holds : List ℕ → Option (List ℕ)) (remaining : R → Option (List ℕ)) (contents : W → Option (List ℕ)) (told : E → Option (List ℕ)) where
  -- what summing these files leaves where it does not go on to the last
  abbrev pub CutAt : List (List ℕ) → R → Counted W → Counted W → Counted E → Counted E → Halt → Type 0
  CutAt names old out end before after (Fault fault) = SumsCut holds remaining contents told names old out end before after fault
  CutAt names old out end before after _ = ⊥

  -- the files that a list names are summed
  abbrev pub ListSummed : List ℕ → R → R → Counted W → Counted W → Counted E → Counted E → ℕ → Type 0
  ListSummed list old new out end before after status =
      (bytes : List ℕ) × (behind : R) × IsRead holds remaining list list_limit old behind bytes × SumsAll holds remaining contents told (names_in bytes) behind new out end before after status

  -- or not: the list is not read, or it is cut off
  abbrev pub ListNotSummed : List ℕ → R → R → Counted W → Counted W → Counted E → Counted E → Halt → Type 0
  ListNotSummed list old new out end before after halt =
      (ListUnread holds remaining list old new halt × (end ≡ out) × (after ≡ before))
      ⊎ ((bytes : List ℕ) × (behind : R) × IsRead holds remaining list list_limit old behind bytes × CutAt (names_in bytes) behind out end before after halt)

  -- the files that a list of sums names are looked at, and what is told of all lines stands behind that
  pub record ListChecked (list : List ℕ) (rules : Rules) (old new : R) (out end : Counted W) (before after : Counted E) (status : ℕ) : Type 0 where
    pub bytes : List ℕ
    pub behind : R
    pub read : IsRead holds remaining list list_limit old behind bytes
    pub findings : List Finding
    pub middle : Counted E
    pub checks : ChecksAll holds remaining contents told rules (listings_in bytes) findings behind new out end before middle
    pub told_of : Told
    pub tally : IsTally findings told_of
    pub improper : told_of.improper ≡ impropers_in bytes
    pub closes : Closes told rules list told_of middle after status

  -- what checking these leaves where it does not go on to the last
  abbrev pub CheckCutAt : Rules → List Listing → R → Counted W → Counted W → Counted E → Counted E → Halt → Type 0
  CheckCutAt rules ls old out end before after (Fault fault) = ChecksCut holds remaining contents told rules ls old out end before after fault
  CheckCutAt rules ls old out end before after _ = ⊥

  -- or the list is not read, or it is cut off
  abbrev pub ListNotChecked : List ℕ → Rules → R → R → Counted W → Counted W → Counted E → Counted E → Halt → Type 0
  ListNotChecked list rules old new out end before after halt =
      (ListUnread holds remaining list old new halt × (end ≡ out) × (after ≡ before))
      ⊎ ((bytes : List ℕ) × (behind : R) × IsRead holds remaining list list_limit old behind bytes × CheckCutAt rules (listings_in bytes) behind out end before after halt)

  -- what is asked is done, or why it is not
  abbrev pub Done : Asked → R → R → Counted W → Counted W → Counted E → Counted E → ℕ → Type 0
  Done (Files words) old new out end before after status = SumsAll holds remaining contents told (map (λ w. w.now) words.now) old new out end before after status
  Done (FilesFrom list) old new out end before after status = ListSummed list.now old new out end before after status
  Done (Check list rules) old new out end before after status = ListChecked list.now rules old new out end before after status

  abbrev pub NotDone : Asked → R → R → Counted W → Counted W → Counted E → Counted E → Halt → Type 0
  NotDone (Files words) old new out end before after halt = CutAt (map (λ w. w.now) words.now) old out end before after halt
  NotDone (FilesFrom list) old new out end before after halt = ListNotSummed list.now old new out end before after halt
  NotDone (Check list rules) old new out end before after halt = ListNotChecked list.now rules old new out end before after halt

  -- It is reported behind what standard error has, or a beginning of that line where a call fails, and the status is its own.
  pub record TellsHalt (asked : Asked) (old new : R) (out end : Counted W) (before after : Counted E) (status : ℕ) : Type 0 where
    pub halt : Halt
    pub not_done : NotDone asked old new out end before after halt
    pub start : Counted E
    pub last : Counted E
    pub same : inner_of start ≡ inner_of after
    pub no_line : faults_of start ≡ 0
    pub told_is : Printed told start last (halt_line halt) ⊎ Broken told start last (halt_line halt)
    pub status_is : status ≡ halt_status halt

  -- the same of a reader and of writers that were given away, where no call of theirs had failed
  pub record SumTells (asked : Asked) (input : R) (out : W) (err : E) (status : ℕ) : Type 0 where
    pub end : R
    pub old : Counted W
    pub new : Counted W
    pub before : Counted E
    pub after : Counted E
    pub writer : inner_of old ≡ out
    pub no_write : faults_of old ≡ 0
    pub teller : inner_of before ≡ err
    pub no_line : faults_of before ≡ 0
    pub tells : Done asked input end old new before after status ⊎ TellsHalt asked input end old new before after status
