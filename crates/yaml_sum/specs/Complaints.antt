-- The lines that tell why a file has no sum.
use Rattle.std.specs.Prelude.{◌≡◌, ◌⊎◌, ◌++◌, ◌==◌, ℕ, Bool, true, false, cond, List, Option, codes}
use Rattle.std.specs.List.{list_any}
use Rattle.std.specs.Str.{IsUtf8}
use Rattle.std.specs.declared.io.ErrorKind.{ErrorKind}
use Rattle.std.specs.declared.io.ErrorKind.TheVariants as kind
use Rattle.yaml_text.specs.declared.fault.Fault.{Fault}
use Rattle.yaml_text.specs.declared.counted.Counted.{Counted}
use Rattle.yaml_spell.specs.Writers.{Sent, CutOff}
use Rattle.yaml_message.specs.Words.{fault_message}
use Rattle.review_text.specs.declared.options.Form.TheVariants as form
use Rattle.review_faults.specs.FaultLines.{TellsFault}
use Rattle.yaml_sum.specs.Lines.{told_name}
use Rattle.yaml_sum.specs.declared.reason.Reason.{Reason}
use Rattle.yaml_sum.specs.declared.reason.Reason.TheVariants.{NotFound, Denied, Folder, NoFolder, NotUtf8, Other}
use Rattle.yaml_sum.specs.declared.stop.Stop.{Stop}
use Rattle.yaml_sum.specs.declared.stop.Stop.TheVariants.{CannotOpen, NotRegular, Unread, Refused}

-- why a file cannot be opened, by the kind of the error
abbrev pub reason_by : ErrorKind → Reason
reason_by kind.NotFound = NotFound
reason_by kind.PermissionDenied = Denied
reason_by kind.IsADirectory = Folder
reason_by kind.NotADirectory = NoFolder
reason_by _ = Other

-- A name that is not UTF-8 is given with a NUL, which no name of a file has.
abbrev pub reason_for : List ℕ → ErrorKind → Reason
reason_for name kind = cond (list_any (λ b. b == 0) name) NotUtf8 (reason_by kind)

-- why a file cannot be opened, in words
abbrev pub reason_words : Reason → List ℕ
reason_words NotFound = codes "not found"
reason_words Denied = codes "permission denied"
reason_words Folder = codes "it is a folder"
reason_words NoFolder = codes "a part of its path is not a folder"
reason_words NotUtf8 = codes "its name is not UTF-8"
reason_words Other = codes "the system refused"

-- what stands behind the file's name: that it cannot be opened and why, or that it is no regular file, or the fault's number and name
abbrev pub reason : Stop → List ℕ
reason (CannotOpen why) = codes "cannot open: " ++ (reason_words why ++ codes "\n")
reason NotRegular = codes "is no regular file\n"
reason (Unread fault) = fault_message fault ++ codes "\n"
reason (Refused fault) = fault_message fault ++ codes "\n"

-- the name of the file is text, as far as it is known
abbrev pub is_text : Stop → Bool
is_text (CannotOpen NotUtf8) = false
is_text _ = true

-- the line of a file, whose name is written as in a line of sums, but that `?` stands for what a terminal would not print
abbrev pub complaint : List ℕ → Stop → List ℕ
complaint name stop = codes "yamlreview: " ++ (told_name (is_text stop) name ++ (codes ": " ++ reason stop))

-- the writer took a line whole, or a beginning of it and then a call failed
abbrev pub IsTold : {E : Type 0} → (E → Option (List ℕ)) → Counted E → Counted E → List ℕ → Type 0
IsTold told old new line = Sent told old new line ⊎ ((fault : Fault) × CutOff told old new line fault)

-- What tells why a file has no sum. Of a file that is refused it is what `faults` tells of its fault, by some bytes.
abbrev pub Complains : List ℕ → Stop → List ℕ → Type 0
Complains name (CannotOpen why) text = text ≡ complaint name (CannotOpen why)
Complains name NotRegular text = text ≡ complaint name NotRegular
Complains name (Unread fault) text = text ≡ complaint name (Unread fault)
Complains name (Refused fault) text = (bytes : List ℕ) × (shown : List ℕ) × (IsUtf8 name → shown ≡ name) × TellsFault form.Line shown bytes fault text

abbrev pub TellsStop : {E : Type 0} → (E → Option (List ℕ)) → List ℕ → Stop → Counted E → Counted E → Type 0
TellsStop told name stop old new = (text : List ℕ) × Complains name stop text × IsTold told old new text
