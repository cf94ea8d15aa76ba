-- The statuses of files that are not read or are rejected.
use Rattle.std.specs.Prelude.{ℕ}
use Rattle.yaml_text.specs.declared.fault.Fault.{Fault}
use Rattle.yaml_text.specs.declared.fault.Fault.TheVariants.{ReadFault, WriteFault}
use Rattle.review_files.specs.declared.unread.Unread.{Unread}
use Rattle.review_files.specs.declared.unread.Unread.TheVariants as unread

-- 3 where a stream fails, else 2
abbrev pub fault_status : Fault → ℕ
fault_status ReadFault = 3
fault_status WriteFault = 3
fault_status _ = 2

-- and where a file cannot be opened
abbrev pub unread_status : Unread → ℕ
unread_status (unread.CannotOpen why) = 3
unread_status (unread.Fault fault) = fault_status fault
