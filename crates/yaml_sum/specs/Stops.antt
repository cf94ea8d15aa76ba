-- Why a file has no sum, and why sums are not made to the end.
use Rattle.std.specs.Prelude.{ℕ, List, ◌++◌, codes}
use Rattle.yaml_command.specs.Refusals.{fault_line}
use Rattle.yaml_command.specs.Statuses.{fault_status}
use Rattle.yaml_message.specs.Words.{fault_message}
use Rattle.yaml_sum.specs.Complaints.{reason_words}
use Rattle.yaml_sum.specs.declared.stop.Halt.{Halt}
use Rattle.yaml_sum.specs.declared.stop.Halt.TheVariants.{NoList, Unread, Fault}
use Rattle.yaml_sum.specs.declared.stop.Stop.{Stop}
use Rattle.yaml_sum.specs.declared.stop.Stop.TheVariants.{CannotOpen, NotRegular, Unread as NotRead, Refused}

-- the exit status: 3 where a file can't be opened or read, 2 where what it holds is refused
abbrev pub stop_status : Stop → ℕ
stop_status (CannotOpen why) = 3
stop_status NotRegular = 3
stop_status (NotRead fault) = fault_status fault
stop_status (Refused fault) = fault_status fault

abbrev pub halt_status : Halt → ℕ
halt_status (NoList name why) = 3
halt_status (Unread name fault) = fault_status fault
halt_status (Fault fault) = fault_status fault

-- the line that reports it; a list's name is written as it is
abbrev pub halt_line : Halt → List ℕ
halt_line (NoList name why) = codes "yamlreview: " ++ name.now ++ codes ": cannot open: " ++ reason_words why ++ codes "\n"
halt_line (Unread name fault) = codes "yamlreview: " ++ name.now ++ codes ": " ++ fault_message fault ++ codes "\n"
halt_line (Fault fault) = fault_line (codes "yamlreview: ") fault
