-- The exit status of each refusal.
use Rattle.std.specs.Prelude.{ℕ, Result, Ok, Err}
use Rattle.yaml_text.specs.declared.fault.Fault.{Fault}
use Rattle.yaml_text.specs.declared.fault.Fault.TheVariants.{ReadFault, WriteFault}
use Rattle.yaml_command.specs.declared.refusal.Refusal.{Refusal}
use Rattle.yaml_command.specs.declared.refusal.Refusal.TheVariants.{Words, CannotOpen, Input, OneSide, EventText, EventLines}

-- a stream that fails, or an input that is refused
abbrev pub fault_status : Fault → ℕ
fault_status ReadFault = 3
fault_status WriteFault = 3
fault_status _ = 2

abbrev pub refusal_status : Refusal → ℕ
refusal_status (Words fault) = 3
refusal_status (CannotOpen name) = 3
refusal_status (Input fault) = fault_status fault
refusal_status (OneSide side fault) = fault_status fault
refusal_status (EventText fault) = fault_status fault
refusal_status (EventLines fault) = 2

-- the status of an answer
abbrev pub answer_status : Result ℕ Refusal → ℕ
answer_status (Ok status) = status
answer_status (Err refusal) = refusal_status refusal
