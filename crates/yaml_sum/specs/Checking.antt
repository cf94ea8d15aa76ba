-- What stands while a list of sums is checked.
use Rattle.std.specs.Prelude.{◌≡◌, ◌⊎◌, ◌++◌, ◌||◌, ℕ, ◌+◌, ◌≤◌, Bool, true, false, max, List, length, Option, Some, None}
use Rattle.yaml_text.specs.declared.fault.Fault.{Fault}
use Rattle.yaml_text.specs.declared.fault.Fault.TheVariants.{OutOfMemory}
use Rattle.yaml_text.specs.declared.counted.Counted.{Counted}
use Rattle.yaml_spell.specs.Writers.{Sent, CutOff}
use Rattle.yaml_sum.specs.Listed.{Listing, listed_name, is_remark, listing_of, all_listings, improper_count, lines_of}
use Rattle.yaml_sum.specs.Checks.{verdict_line, verdicts, finding_status, is_right, one_unread, one_wrong, TellsFound, TellAllFound, Finds, FindAll, ChecksAll, IsTally}
use Rattle.yaml_sum.specs.declared.asked.Rules.{Rules}
use Rattle.yaml_sum.specs.declared.check.Manner.{Manner}
use Rattle.yaml_sum.specs.declared.finding.Finding.{Finding}
use Rattle.yaml_sum.specs.declared.told.Seen.{Seen}
use Rattle.yaml_sum.specs.declared.told.Seen.TheVariants.{Remark, Improper, File}
use Rattle.yaml_sum.specs.declared.told.Told.{Told}

-- a file more is counted
pub record CountsFile (old : Told) (finding : Finding) (new : Told) : Type 0 where
  pub worst : new.worst ≡ max old.worst (finding_status finding)
  pub has : new.has_sums ≡ true
  pub verified : new.is_verified ≡ (is_right finding || old.is_verified)
  pub improper : new.improper ≡ old.improper
  pub unread : new.unread ≡ old.unread + one_unread finding
  pub wrong : new.wrong ≡ old.wrong + one_wrong finding

-- a line that is none of a sum is
pub record CountsImproper (old new : Told) : Type 0 where
  pub worst : new.worst ≡ old.worst
  pub has : new.has_sums ≡ old.has_sums
  pub verified : new.is_verified ≡ old.is_verified
  pub improper : new.improper ≡ old.improper + 1
  pub unread : new.unread ≡ old.unread
  pub wrong : new.wrong ≡ old.wrong

-- a line more is counted
abbrev pub Counts : Told → Seen → Told → Type 0
Counts old Remark new = new ≡ old
Counts old Improper new = CountsImproper old new
Counts old (File finding) new = CountsFile old finding new

-- so many of these lines are none of a sum
abbrev pub IsCounted : Bool → List (List ℕ) → Told → Type 0
IsCounted m lines told = told.improper ≡ improper_count m lines

module _ {W E : Type 0} (contents : W → Option (List ℕ)) (told : E → Option (List ℕ)) where
  -- a file's line was written, and standard error tells why it has no digest
  pub record Puts (rules : Rules) (name : List ℕ) (finding : Finding) (out end : Counted W) (before after : Counted E) : Type 0 where
    pub sent : Sent contents out end (verdict_line rules name finding)
    pub tells : TellsFound told rules name finding before after

  -- or a beginning of it, or memory was refused before any
  abbrev pub PutsNot : Rules → List ℕ → Finding → Counted W → Counted W → Counted E → Counted E → Fault → Type 0
  PutsNot rules name finding out end before after fault =
      (CutOff contents out end (verdict_line rules name finding) fault × TellsFound told rules name finding before after) ⊎ ((fault ≡ OutOfMemory) × (end ≡ out) × (after ≡ before))

module _ {R W E : Type 0} (holds : List ℕ → Option (List ℕ)) (remaining : R → Option (List ℕ)) (contents : W → Option (List ℕ)) (told : E → Option (List ℕ)) where
  -- the lines of these files were written, and this is told of them
  pub record ChecksSome (rules : Rules) (ls : List Listing) (old new : R) (out end : Counted W) (before after : Counted E) (told_of : Told) : Type 0 where
    pub findings : List Finding
    pub find : FindAll holds remaining rules ls old new findings
    pub sent : Sent contents out end (verdicts rules ls findings)
    pub tells : TellAllFound told rules ls findings before after
    pub tally : IsTally findings told_of

  -- and the writer was flushed
  pub record ChecksOnes (rules : Rules) (ls : List Listing) (old new : R) (out end : Counted W) (before after : Counted E) (told_of : Told) : Type 0 where
    pub findings : List Finding
    pub all : ChecksAll holds remaining contents told rules ls findings old new out end before after
    pub tally : IsTally findings told_of

  -- the line of one file was
  pub record ChecksOne (rules : Rules) (l : Listing) (old new : R) (out end : Counted W) (before after : Counted E) (finding : Finding) : Type 0 where
    pub finds : Finds holds remaining rules l old new finding
    pub puts : Puts contents told rules (listed_name l) finding out end before after

  -- what was done at a line of the list
  abbrev pub Sees : Manner → List ℕ → R → R → Counted W → Counted W → Counted E → Counted E → Seen → Type 0
  Sees manner line old new out end before after Remark = (is_remark line ≡ true) × (new ≡ old) × (end ≡ out) × (after ≡ before)
  Sees manner line old new out end before after Improper = (is_remark line ≡ false) × (listing_of manner.one_space line ≡ None) × (new ≡ old) × (end ≡ out) × (after ≡ before)
  Sees manner line old new out end before after (File finding) = (is_remark line ≡ false) × (l : Listing) × (listing_of manner.one_space line ≡ Some l) × ChecksOne manner.rules l old new out end before after finding

  -- its file's line is cut off
  pub record CutsFile (manner : Manner) (line : List ℕ) (old : R) (out end : Counted W) (before after : Counted E) (fault : Fault) : Type 0 where
    pub l : Listing
    pub remark : is_remark line ≡ false
    pub is : listing_of manner.one_space line ≡ Some l
    pub new : R
    pub finding : Finding
    pub finds : Finds holds remaining manner.rules l old new finding
    pub cut : CutOff contents out end (verdict_line manner.rules (listed_name l) finding) fault
    pub tells : TellsFound told manner.rules (listed_name l) finding before after

  -- or memory is refused before any of it
  abbrev pub CutsLine : Manner → List ℕ → R → Counted W → Counted W → Counted E → Counted E → Fault → Type 0
  CutsLine manner line old out end before after fault = CutsFile manner line old out end before after fault ⊎ ((fault ≡ OutOfMemory) × (end ≡ out) × (after ≡ before))

  -- the lines before the rest of a list were gone over
  pub record Checking (manner : Manner) (list rest : List ℕ) (told_of : Told) (old new : R) (out end : Counted W) (before after : Counted E) : Type 0 where
    pub seen : List (List ℕ)
    pub whole : lines_of list ≡ seen ++ lines_of rest
    pub some : ChecksSome manner.rules (all_listings manner.one_space seen) old new out end before after told_of
    pub counted : IsCounted manner.one_space seen told_of
    pub few : told_of.improper + told_of.unread + told_of.wrong + length rest ≤ length list
