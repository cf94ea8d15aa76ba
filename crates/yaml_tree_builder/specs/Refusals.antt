-- Why an event is not taken.
use Rattle.std.specs.Prelude.{◌≡◌, ℕ, Result, Some, Err}
use Rattle.yaml_definitions.specs.model.Event.{Event}
use Rattle.yaml_definitions.specs.model.Core as core
use Rattle.yaml_text.specs.declared.fault.Fault.{Fault}
use Rattle.yaml_text.specs.declared.fault.Fault.TheVariants as faults
use Rattle.yaml_tree.specs.ComposerSteps.{State, step}
use Rattle.yaml_tree_builder.specs.declared.stop.Cause.{Cause}
use Rattle.yaml_tree_builder.specs.declared.stop.Cause.TheVariants as causes
use Rattle.yaml_tree_builder.specs.declared.stop.Stop.{Stop}
use Rattle.yaml_tree_builder.specs.declared.stop.Stop.TheVariants as stops
use Rattle.yaml_tree_builder.specs.declared.stop.Refusal.{Refusal}

-- the same cause, as plain value
abbrev pub cause_of : Cause → core.Cause
cause_of causes.UndefinedAlias = core.undefined_alias
cause_of causes.CyclicAlias = core.cyclic_alias
cause_of causes.WrongKind = core.wrong_kind
cause_of causes.BadContent = core.bad_content
cause_of causes.IntRange = core.int_range
cause_of causes.FloatRange = core.float_range

-- the fault that tells this of an event
abbrev pub fault_of : Cause → ℕ → Fault
fault_of causes.UndefinedAlias at = faults.UndefinedAlias at
fault_of causes.CyclicAlias at = faults.CyclicAlias at
fault_of causes.WrongKind at = faults.WrongKind at
fault_of causes.BadContent at = faults.BadContent at
fault_of causes.IntRange at = faults.IntRange at
fault_of causes.FloatRange at = faults.FloatRange at

-- this was found, for which the builder stops; nothing is said where memory is refused
abbrev pub Blames : {X : Type 0} → Result X core.Cause → Stop → Type 0
Blames found (stops.Refused cause) = found ≡ Err (cause_of cause)
Blames found stops.NoMemory = Unit {0}

-- from this state the event is refused, whatever its number is; nothing is said where memory is refused
abbrev pub Stops : Event → State → Stop → Type 0
Stops e s (stops.Refused cause) = (at : ℕ) → step at e s ≡ Some (Err (cause_of cause, at))
Stops e s stops.NoMemory = Unit {0}

-- Memory was not refused, and the event of this number is.
pub record IsRefusal (stop : Stop) (number : ℕ) (r : Refusal) : Type 0 where
  pub cause : stop ≡ stops.Refused r.cause
  pub at : r.at ≡ number
