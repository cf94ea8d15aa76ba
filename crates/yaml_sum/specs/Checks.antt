-- What becomes of the files that a list of sums names, and what is written of them.
use Rattle.std.specs.Prelude.{◌≡◌, ◌==◌, ◌++◌, ◌+◌, ◌&&◌, ◌||◌, not, ℕ, Bool, true, false, cond, max, List, [], ◌∷◌, Option, codes}
use Rattle.std.specs.List.{list_any}
use Rattle.yaml_text.specs.declared.fault.Fault.{Fault}
use Rattle.yaml_text.specs.declared.counted.Counted.{Counted}
use Rattle.yaml_text.specs.Writers.{Printed}
use Rattle.yaml_sum.specs.declared.asked.Rules.{Rules}
use Rattle.yaml_sum.specs.declared.reason.Reason.TheVariants.{NotFound}
use Rattle.yaml_sum.specs.declared.stop.Stop.{Stop}
use Rattle.yaml_sum.specs.declared.stop.Stop.TheVariants.{CannotOpen}
use Rattle.yaml_sum.specs.declared.told.Told.{Told}
use Rattle.yaml_sum.specs.Complaints.{TellsStop}
use Rattle.yaml_sum.specs.Lines.{name_text}
use Rattle.yaml_sum.specs.Listed.{Listing, listed, listed_name}
use Rattle.yaml_sum.specs.Stops.{stop_status}
use Rattle.yaml_sum.specs.Sums.{HasDigest, HasNone, Halts}
use Rattle.yaml_sum.specs.declared.finding.Finding.{Finding}
use Rattle.yaml_sum.specs.declared.finding.Finding.TheVariants.{Right, Wrong, Missing, Without}

-- a name as it is written before a verdict: with a backslash and escapes where it has a line feed, else as it is
abbrev pub verdict_name : List ℕ → List ℕ
verdict_name name = cond (list_any (λ b. b == 10) name) (92 ∷ name_text name) name

-- that the file has the digest of its line, that it has another, nothing of a file that is left out, and that it has none
abbrev pub verdict : Finding → List ℕ
verdict Right = codes ": OK\n"
verdict Wrong = codes ": FAILED\n"
verdict Missing = []
verdict (Without stop) = codes ": FAILED open or read\n"

-- whether a file of which this is found has a line
abbrev pub shows : Rules → Finding → Bool
shows rules Right = not rules.is_quiet && not rules.is_silent
shows rules Wrong = not rules.is_silent
shows rules Missing = false
shows rules (Without stop) = not rules.is_silent

-- whether a file without a digest is left out: one that is not there, where that is asked
abbrev pub skips : Rules → Stop → Bool
skips rules (CannotOpen NotFound) = rules.skips_missing
skips rules _ = false

-- the line of a file, if it has one
abbrev pub verdict_line : Rules → List ℕ → Finding → List ℕ
verdict_line rules name finding = cond (shows rules finding) (verdict_name name ++ verdict finding) []

abbrev pub finding_status : Finding → ℕ
finding_status Right = 0
finding_status Wrong = 1
finding_status Missing = 0
finding_status (Without stop) = stop_status stop

-- the lines of files in turn
abbrev pub verdicts : Rules → List Listing → List Finding → List ℕ
verdicts rules (l ∷ ls) (finding ∷ findings) = verdict_line rules (listed_name l) finding ++ verdicts rules ls findings
verdicts rules _ _ = []

-- ---- what files have in common

-- the greatest status
abbrev pub worst_found : List Finding → ℕ
worst_found [] = 0
worst_found (finding ∷ findings) = max (finding_status finding) (worst_found findings)

abbrev pub any_found : List Finding → Bool
any_found [] = false
any_found (finding ∷ findings) = true

abbrev pub is_right : Finding → Bool
is_right Right = true
is_right _ = false

-- one has its digest
abbrev pub any_right : List Finding → Bool
any_right [] = false
any_right (finding ∷ findings) = is_right finding || any_right findings

abbrev pub one_unread : Finding → ℕ
one_unread (Without stop) = 1
one_unread _ = 0

-- how many have none
abbrev pub unread_in : List Finding → ℕ
unread_in [] = 0
unread_in (finding ∷ findings) = one_unread finding + unread_in findings

abbrev pub one_wrong : Finding → ℕ
one_wrong Wrong = 1
one_wrong _ = 0

-- how many have another
abbrev pub wrong_in : List Finding → ℕ
wrong_in [] = 0
wrong_in (finding ∷ findings) = one_wrong finding + wrong_in findings

-- what is told of files of which this is found
pub record IsTally (findings : List Finding) (told : Told) : Type 0 where
  pub worst : told.worst ≡ worst_found findings
  pub has : told.has_sums ≡ any_found findings
  pub verified : told.is_verified ≡ any_right findings
  pub unread : told.unread ≡ unread_in findings
  pub wrong : told.wrong ≡ wrong_in findings

-- of no line anything is told
pub record IsNothing (told : Told) : Type 0 where
  pub tally : IsTally [] told
  pub improper : told.improper ≡ 0

-- ---- standard error

-- It has the line of a file that has no digest and is not left out, or a beginning of it where a call fails, and nothing of another.
module _ {E : Type 0} (told : E → Option (List ℕ)) where
  abbrev pub TellsLoud : Bool → List ℕ → Stop → Counted E → Counted E → Type 0
  TellsLoud true name stop before after = after ≡ before
  TellsLoud false name stop before after = TellsStop told name stop before after

  abbrev pub TellsFound : Rules → List ℕ → Finding → Counted E → Counted E → Type 0
  TellsFound rules name Right before after = after ≡ before
  TellsFound rules name Wrong before after = after ≡ before
  TellsFound rules name Missing before after = after ≡ before
  TellsFound rules name (Without stop) before after = TellsLoud rules.is_silent name stop before after

  -- the same of files in turn
  abbrev pub TellAllFound : Rules → List Listing → List Finding → Counted E → Counted E → Type 0
  TellAllFound rules [] [] before after = after ≡ before
  TellAllFound rules [] (finding ∷ findings) before after = ⊥
  TellAllFound rules (l ∷ ls) [] before after = ⊥
  TellAllFound rules (l ∷ ls) (finding ∷ findings) before after = (next : Counted E) × TellsFound rules (listed_name l) finding before next × TellAllFound rules ls findings next after

module _ {R : Type 0} (holds : List ℕ → Option (List ℕ)) (remaining : R → Option (List ℕ)) where
  -- the file has the digest of its line, or another, or none at all
  abbrev pub Finds : Rules → Listing → R → R → Finding → Type 0
  Finds rules (listed digest name) old new Right = HasDigest holds remaining name old new digest
  Finds rules (listed digest name) old new Wrong = (other : List ℕ) × HasDigest holds remaining name old new other × (¬ (other ≡ digest))
  Finds rules (listed digest name) old new Missing = (stop : Stop) × HasNone holds remaining name old new stop × (skips rules stop ≡ true)
  Finds rules (listed digest name) old new (Without stop) = HasNone holds remaining name old new stop × (skips rules stop ≡ false)

  -- the same of files in turn
  abbrev pub FindAll : Rules → List Listing → R → R → List Finding → Type 0
  FindAll rules [] old new findings = (new ≡ old) × (findings ≡ [])
  FindAll rules (l ∷ ls) old new findings = (next : R) × (finding : Finding) × (more : List Finding) × Finds rules l old next finding × FindAll rules ls next new more × (findings ≡ finding ∷ more)

  module _ {W E : Type 0} (contents : W → Option (List ℕ)) (told : E → Option (List ℕ)) where
    -- the lines of these files were written, and the writer was flushed behind them
    pub record ChecksAll (rules : Rules) (ls : List Listing) (findings : List Finding) (old new : R) (out end : Counted W) (before after : Counted E) : Type 0 where
      pub find : FindAll rules ls old new findings
      pub printed : Printed contents out end (verdicts rules ls findings)
      pub tells : TellAllFound told rules ls findings before after

    -- of the first of them the lines were written, the last one's perhaps not whole
    pub record ChecksCut (rules : Rules) (ls : List Listing) (old : R) (out end : Counted W) (before after : Counted E) (fault : Fault) : Type 0 where
      pub first : List Listing
      pub others : List Listing
      pub split : ls ≡ first ++ others
      pub findings : List Finding
      pub next : R
      pub find : FindAll rules first old next findings
      pub halts : Halts holds remaining contents told out end (verdicts rules first findings) fault
      pub tells : TellAllFound told rules first findings before after
