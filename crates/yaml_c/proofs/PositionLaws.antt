-- A fault that names an event has no place where the bytes have no events.
use Rattle.std.proofs.Common.{◌≡◌, inl, inr, refl, ℕ, List}
use Rattle.std.specs.Prelude.{None}
use Rattle.yaml_text.specs.declared.fault.Fault.{Fault}
use Rattle.yaml_text.specs.declared.fault.Fault.TheVariants.{OutOfMemory}
use Rattle.review_faults.specs.Again.{CannotTell}
use Rattle.yaml_c.specs.Positions.{IsPlaceOf}

-- another error than for want of memory
pub unplaced : (bytes : List ℕ) (fault error : Fault) → CannotTell bytes fault error → (error ≡ OutOfMemory → ⊥) → IsPlaceOf bytes fault None
unplaced bytes fault error (inl e) other = absurd (other e)
unplaced bytes fault error (inr h) other = inr (record { names = h.0; unread = h.1; none = refl })
