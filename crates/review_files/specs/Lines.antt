-- What standard error takes of a line.
use Rattle.std.specs.Prelude.{◌≡◌, ℕ, List, ◌++◌, Option, codes}
use Rattle.std.specs.Io.KnownBytes.{Appends}
use Rattle.yaml_text.specs.declared.fault.Fault.{Fault}
use Rattle.yaml_text.specs.declared.fault.Fault.TheVariants.{OutOfMemory}
use Rattle.yaml_args.specs.declared.words.WordsFault.{WordsFault}
use Rattle.yaml_args.specs.declared.words.WordsFault.TheVariants as words
use Rattle.yaml_message.specs.Words.{fault_message}
use Rattle.yaml_sum.specs.Complaints.{reason_words}
use Rattle.review_text.specs.Terminal.{terminal}
use Rattle.review_files.specs.declared.unread.Unread.{Unread}
use Rattle.review_files.specs.declared.unread.Unread.TheVariants as unread

-- The writer took a beginning of the line and nothing else: all of it, unless a call failed.
abbrev pub TakesLine : {E : Type 0} → (E → Option (List ℕ)) → E → E → List ℕ → Type 0
TakesLine told old new line = (part : List ℕ) × (rest : List ℕ) × (line ≡ part ++ rest) × Appends (told old) (told new) part

-- what a line of a file begins with: the program's name and the file's, with `?` for what a terminal would not print
abbrev pub line_front : List ℕ → List ℕ
line_front name = codes "yamlreview: " ++ (terminal name ++ codes ": ")

-- the line of a fault of a file that has no place in it: its number and its name
abbrev pub fault_line : List ℕ → Fault → List ℕ
fault_line name fault = line_front name ++ (fault_message fault ++ codes "\n")

-- the line of a file that is not read
abbrev pub unread_line : List ℕ → Unread → List ℕ
unread_line name (unread.CannotOpen why) = line_front name ++ (codes "cannot open: " ++ (reason_words why ++ codes "\n"))
unread_line name (unread.Fault fault) = fault_line name fault

-- the line of a fault of no file: its number, its name and its place
abbrev pub bare_line : Fault → List ℕ
bare_line fault = codes "yamlreview: " ++ (fault_message fault ++ codes "\n")

-- the line of the program's own words that cannot be read
abbrev pub words_line : WordsFault → List ℕ
words_line words.Usage = codes "yamlreview: usage: the words cannot be read\n"
words_line words.OutOfMemory = bare_line OutOfMemory

-- The status is 3, and the line was written by a writer that was given away.
abbrev pub TellsNoWords : {E : Type 0} → (E → Option (List ℕ)) → WordsFault → E → ℕ → Type 0
TellsNoWords {E} told fault old status = (status ≡ 3) × (new : E) × TakesLine told old new (words_line fault)
