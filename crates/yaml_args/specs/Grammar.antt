-- The commands and their files, as plain values of `clap`, and what is asked by the values that it found.
use Rattle.std.specs.Prelude.{ℕ, Bool, true, false, List, [], ◌∷◌, Option, Some, None, if◌then◌else◌, codes}
use Rattle.std.specs.Str.{bytes_eq}
use Rattle.clap.specs.Words.{App, Row, Rule, first_of, new_app, new_rule, with_rule, with_subcommand}
use Rattle.clap.specs.declared.error.kind.ErrorKind.{ErrorKind}
use Rattle.clap.specs.declared.error.kind.ErrorKind.TheVariants as kind
use Rattle.std.specs.declared.io.ErrorKind.{ErrorKind as IoKind}
use Rattle.std.specs.declared.io.ErrorKind.TheVariants as io
use Rattle.yaml_args.specs.declared.words.WordsFault.{WordsFault}
use Rattle.yaml_args.specs.declared.words.WordsFault.TheVariants.{Usage, OutOfMemory}

-- a file's name, that has to be given or may be left out
abbrev pub file_rule : List ℕ → Bool → Rule
file_rule name required = record (new_rule name) { required = required }

-- each command with its files
abbrev pub canon_app : App
canon_app = with_rule (new_app (codes "canon")) (file_rule (codes "FILE") false)

abbrev pub same_app : App
same_app = with_rule (with_rule (new_app (codes "same")) (file_rule (codes "A") true)) (file_rule (codes "B") true)

abbrev pub events_app : App
events_app = with_rule (new_app (codes "events")) (file_rule (codes "FILE") false)

abbrev pub check_app : App
check_app = with_rule (with_rule (new_app (codes "check")) (file_rule (codes "FILE") true)) (file_rule (codes "EVENTS") true)

-- no help and no version, and a command is wanted
abbrev pub top_app : App
top_app = record {
  top = record (new_app (codes "yamlcanon")).top {
    no_binary_name = true;
    subcommand_required = true;
    disable_help_flag = true;
    disable_version_flag = true;
    disable_help_subcommand = true;
  };
  subs = [];
}

abbrev pub whole_app : App
whole_app = with_subcommand (with_subcommand (with_subcommand (with_subcommand top_app canon_app.top) same_app.top) events_app.top) check_app.top

-- the call of a command, by the values that were found for its files
abbrev pub with_one : List ℕ → Option (List ℕ) → List ℕ × List (List ℕ)
with_one name None = (name, [])
with_one name (Some file) = (name, file ∷ [])

abbrev pub with_two : List ℕ → Option (List ℕ) → Option (List ℕ) → Option (List ℕ × List (List ℕ))
with_two name (Some first) (Some second) = Some (name, first ∷ second ∷ [])
with_two name _ _ = None

abbrev pub call_in : List ℕ → List Row → Option (List ℕ × List (List ℕ))
call_in name rows =
    if bytes_eq name (codes "canon") then Some (with_one (codes "canon") (first_of (codes "FILE") rows))
    else (if bytes_eq name (codes "same") then with_two (codes "same") (first_of (codes "A") rows) (first_of (codes "B") rows)
    else (if bytes_eq name (codes "events") then Some (with_one (codes "events") (first_of (codes "FILE") rows))
    else (if bytes_eq name (codes "check") then with_two (codes "check") (first_of (codes "FILE") rows) (first_of (codes "EVENTS") rows)
    else None)))

-- an error of `clap` as one of this program's
abbrev pub fault_for : ErrorKind → WordsFault
fault_for kind.OutOfMemory = OutOfMemory
fault_for _ = Usage

-- and one of gathering the words
abbrev pub fault_for_io : IoKind → WordsFault
fault_for_io io.OutOfMemory = OutOfMemory
fault_for_io _ = Usage
