-- That the one error of telling a rejected file is want of memory.
use Rattle.std.proofs.Common.{◌≡◌, inl, inr, ℕ, true, false, List}
use Rattle.yaml_definitions.specs.model.Serial.{stream_events}
use Rattle.yaml_text.specs.declared.fault.Fault.{Fault}
use Rattle.yaml_text.specs.declared.fault.Fault.TheVariants as faults
use Rattle.yaml_canon.specs.Claims.{IsCanonicalText, CanonicalRefuses}
use Rattle.review_faults.specs.Again.{HasNoEvents, CannotRead, CannotTell}
use Rattle.review_faults.specs.FaultLines.{names_event}

-- bytes whose fault names an event have a reading
pub named_events : (bytes : List ℕ) (fault : Fault) → CanonicalRefuses bytes fault → names_event fault ≡ true → HasNoEvents bytes → ⊥
named_events bytes (faults.UndefinedAlias e) c n h = h (stream_events c.0) c.1.reads
named_events bytes (faults.CyclicAlias e) c n h = h (stream_events c.0) c.1.reads
named_events bytes (faults.WrongKind e) c n h = h (stream_events c.0) c.1.reads
named_events bytes (faults.BadContent e) c n h = h (stream_events c.0) c.1.reads
named_events bytes (faults.IntRange e) c n h = h (stream_events c.0) c.1.reads
named_events bytes (faults.FloatRange e) c n h = h (stream_events c.0) c.1.reads
named_events bytes (faults.TooHigh d) c n h = h (stream_events c.0) c.1.reads
named_events bytes (faults.EqualKeys node first second) c n h = h (stream_events c.0) c.2.reads
named_events bytes _ c n h = absurd (cc)

pub rejected_memory : (bytes : List ℕ) (fault error : Fault) → CanonicalRefuses bytes fault → CannotTell bytes fault error → error ≡ faults.OutOfMemory
rejected_memory bytes fault error c (inl e) = e
rejected_memory bytes fault error c (inr (n, h)) = absurd (named_events bytes fault c n h)

-- a fault that names no event
pub unnamed_memory : (bytes : List ℕ) (fault error : Fault) → names_event fault ≡ false → CannotTell bytes fault error → error ≡ faults.OutOfMemory
unnamed_memory bytes fault error f (inl e) = e
unnamed_memory bytes fault error f (inr (n, h)) = absurd (cc)

pub accepted_memory : (bytes text : List ℕ) (error : Fault) → IsCanonicalText bytes text → CannotRead bytes error → error ≡ faults.OutOfMemory
accepted_memory bytes text error a (inl e) = e
accepted_memory bytes text error a (inr h) = absurd (h a.accepted.means.events a.accepted.means.reads)
