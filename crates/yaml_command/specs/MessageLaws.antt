-- What the messages of faults have to do with the lines of the programs.
use Rattle.std.specs.Prelude.{◌≡◌, ◌++◌, ℕ, List, codes}
use Rattle.yaml_text.specs.declared.fault.Fault.{Fault}
use Rattle.yaml_message.specs.Words.{fault_message}
use Rattle.yaml_command.specs.Refusals.{fault_line}

-- The line of a fault is its message, between what the line begins with and the line feed.
abbrev pub MessagesAreLines : Type 0
MessagesAreLines = (front : List ℕ) (fault : Fault) → fault_line front fault ≡ front ++ (fault_message fault ++ codes "\n")
