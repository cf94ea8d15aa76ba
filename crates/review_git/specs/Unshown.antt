-- What is told of a file that is not shown.
use Rattle.std.specs.Prelude.{◌≡◌, ℕ, List, ◌++◌, codes}
use Rattle.yaml_text.specs.declared.fault.Fault.{Fault}
use Rattle.yaml_text.specs.declared.fault.Fault.TheVariants.{TextTooLong, OutOfMemory}
use Rattle.yaml_show.specs.declared.unshown.Unshown.{Unshown}
use Rattle.yaml_show.specs.declared.unshown.Unshown.TheVariants.{Rejected, NoJson, Unlike}
use Rattle.review_text.specs.declared.options.Form.TheVariants.{Line}
use Rattle.review_text.specs.Terminal.{terminal}
use Rattle.review_faults.specs.Again.{CannotRead, CannotTell}
use Rattle.review_faults.specs.FaultLines.{TellsFault, text_in}
use Rattle.review_faults.specs.NoJson.{TellsLacks}
use Rattle.review_files.specs.Lines.{fault_line}

-- The text that `show` would write has another length than the canonical one, so fault 20 has words of its own.
abbrev pub too_long : List ℕ → List ℕ
too_long name = terminal name ++ codes ": 20 TextTooLong: the text with aliases in place would have more than 67,108,864 bytes\n"

abbrev pub unlike : List ℕ → List ℕ
unlike name = terminal name ++ codes ": the JSON would mean something else; this is a bug of yamlreview\n"

-- of a rejected file what `faults` prints, but for its length and for want of memory
abbrev pub TellsRejected : List ℕ → List ℕ → Fault → List ℕ → Type 0
TellsRejected name bytes TextTooLong text = text ≡ too_long name
TellsRejected name bytes OutOfMemory text = text ≡ fault_line name OutOfMemory
TellsRejected name bytes fault text = TellsFault Line name bytes fault text

-- The text is written behind another one. Of a file that JSON cannot express nodes are told, each with the file's name and with some place of it.
abbrev pub PutsUnshown : List ℕ → List ℕ → Unshown → List ℕ → List ℕ → Type 0
PutsUnshown name bytes (Rejected fault) old new = (text : List ℕ) × (new ≡ old ++ text) × TellsRejected name bytes fault text
PutsUnshown name bytes NoJson old new = TellsLacks name (text_in bytes) old new
PutsUnshown name bytes Unlike old new = new ≡ old ++ unlike name

-- what an error says: memory is refused, or the bytes, which are read again, have no reading
abbrev pub CannotTellNone : List ℕ → Unshown → Fault → Type 0
CannotTellNone bytes (Rejected fault) error = CannotTell bytes fault error
CannotTellNone bytes NoJson error = CannotRead bytes error
CannotTellNone bytes Unlike error = error ≡ OutOfMemory
