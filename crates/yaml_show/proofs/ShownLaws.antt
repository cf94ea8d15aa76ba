-- Canonical texts mean what their streams mean, and what a rejection leaves open.
use Rattle.std.proofs.Common.{◌≡◌, ◌⊎◌, inl, inr, ℕ, ◌≤◌, List, [], ◌∷◌, refl, sym, ◌∙◌, subst}
use Rattle.yaml_definitions.specs.model.Limits.{height_limit, text_limit}
use Rattle.yaml_definitions.specs.model.Tree.{Tree, height}
use Rattle.yaml_definitions.specs.model.Same.{Keyed}
use Rattle.yaml_definitions.specs.model.Proper.{AreAdmitted, Admitted}
use Rattle.yaml_definitions.specs.model.Means.{Means}
use Rattle.yaml_text.specs.declared.fault.Fault.{Fault}
use Rattle.yaml_text.specs.declared.fault.Fault.TheVariants as faults
use Rattle.law_read_back.proofs.Meanings.{spellings_mean}
use Rattle.yaml_canon.specs.Claims.{AllOf, IsCanonicalText, CanonicalRefuses}
use Rattle.yaml_canon.specs.Accepting.{IsMemory, MeaningsAreAccepted}
use Rattle.yaml_canon.proofs.ClaimLaws.{means_alone}
use Rattle.yaml_show_scalar.specs.Stops.{Stops}
use Rattle.yaml_show_scalar.specs.declared.stop.Stop.{Stop}
use Rattle.yaml_show_scalar.specs.declared.stop.Stop.TheVariants as stops
use Rattle.yaml_show.specs.Alike.{MeanAlike}
use Rattle.yaml_show.specs.Refused.{RefusesBy, LinesRefuse, IsLengthOrMemory, lines_text, fault_of}

all-low : (f : List Tree) → AreAdmitted f → AllOf (λ t. height t ≤ height_limit) f
all-low [] a = tt
all-low (t ∷ f) a = (a.0.low, all-low f a.1)

all-keyed : (f : List Tree) → AreAdmitted f → AllOf Keyed f
all-keyed [] a = tt
all-keyed (t ∷ f) a = (a.0.keyed, all-keyed f a.1)

-- the canonical text of a stream means what that means
pub canonical_alike : (bytes text : List ℕ) → IsCanonicalText bytes text → MeanAlike bytes text
canonical_alike bytes text c =
    let u = spellings_mean c.forest c.admitted in
    let m : Means text u.forest = subst (λ z. Means z u.forest) (sym c.spelled) u.means in
    record {
      meant = c.forest;
      shown = u.forest;
      bytes_mean = c.accepted;
      text_means = means_alone text u.forest m (all-low u.forest u.admitted.trees) (all-keyed u.forest u.admitted.trees);
      alike = (c.tells u.forest u.admitted).0 (u.text ∙ sym c.spelled);
    }

-- what `canonical` rejects
pub refused_shown : (write : List Tree → List ℕ) (bytes : List ℕ) (fault : Fault) → CanonicalRefuses bytes fault → RefusesBy write bytes fault
refused_shown write bytes faults.TextTooLong h = (h.0, h.1.means, inr h.2)
refused_shown write bytes _ h = h

pub memory_shown : (write : List Tree → List ℕ) (bytes : List ℕ) (fault : Fault) → IsMemory fault → RefusesBy write bytes fault
memory_shown write bytes fault e = subst (RefusesBy write bytes) (sym e) tt

-- the same of lines
pub refused_lines : (bytes : List ℕ) (fault : Fault) → CanonicalRefuses bytes fault → LinesRefuse bytes fault
refused_lines = refused_shown lines_text

pub memory_lines : (bytes : List ℕ) (fault : Fault) → IsMemory fault → LinesRefuse bytes fault
memory_lines = memory_shown lines_text

-- a text that is not finished
pub stop_shown : (write : List Tree → List ℕ) (bytes : List ℕ) (f : List Tree) (stop : Stop) → Means bytes f → Stops text_limit (write f) stop → RefusesBy write bytes (fault_of stop)
stop_shown write bytes f stops.TooLong m h = (f, m, inl h)
stop_shown write bytes f stops.OutOfMemory m h = tt

pub stop_lines : (bytes : List ℕ) (f : List Tree) (stop : Stop) → Means bytes f → Stops text_limit (lines_text f) stop → LinesRefuse bytes (fault_of stop)
stop_lines = stop_shown lines_text

length-or-refused : (write : List Tree → List ℕ) (bytes : List ℕ) (fault : Fault) → RefusesBy write bytes fault → (fault ≡ faults.TextTooLong) ⊎ CanonicalRefuses bytes fault
length-or-refused write bytes faults.TextTooLong h = inl refl
length-or-refused write bytes _ h = inr h

-- bytes that mean admitted documents
pub admitted_shown : MeaningsAreAccepted → (write : List Tree → List ℕ) (bytes : List ℕ) (f : List Tree) (fault : Fault) → Admitted f → Means bytes f → RefusesBy write bytes fault → IsLengthOrMemory fault
admitted_shown law write bytes f fault a m h = by (length-or-refused write bytes fault h)
  where
    by : (fault ≡ faults.TextTooLong) ⊎ CanonicalRefuses bytes fault → IsLengthOrMemory fault
    by (inl e) = inl e
    by (inr r) = inr (law bytes f fault a m r)
