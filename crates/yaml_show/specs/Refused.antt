-- Why a stream is not shown.
use Rattle.std.specs.Prelude.{◌≡◌, ◌⊎◌, ◌<◌, ℕ, List, length, map, true, false}
use Rattle.yaml_definitions.specs.canonical.Spell.{spell_bytes}
use Rattle.yaml_definitions.specs.model.Limits.{text_limit}
use Rattle.yaml_definitions.specs.model.Order.{arranged}
use Rattle.yaml_definitions.specs.model.Tree.{Tree}
use Rattle.yaml_definitions.specs.model.Means.{Means}
use Rattle.yaml_text.specs.declared.fault.Fault.{Fault}
use Rattle.yaml_text.specs.declared.fault.Fault.TheVariants.{TextTooLong, OutOfMemory}
use Rattle.yaml_canon.specs.Claims.{CanonicalRefuses}
use Rattle.yaml_show_scalar.specs.declared.stop.Stop.{Stop}
use Rattle.yaml_show_scalar.specs.declared.stop.Stop.TheVariants as stops
use Rattle.yaml_show.specs.JsonText.{line_stream}
use Rattle.yaml_show.specs.Layout.{shown_text}
use Rattle.yaml_show.specs.Lines.{all_have_json}
use Rattle.yaml_show.specs.Shows.{readable, readable_sharing}
use Rattle.yaml_show.specs.declared.unshown.Unshown.{Unshown}
use Rattle.yaml_show.specs.declared.unshown.Unshown.TheVariants.{Rejected, NoJson, Unlike}

-- The bytes mean documents of which this text, or the canonical text, has more bytes than a text may have.
abbrev pub HasLongText : (List Tree → List ℕ) → List ℕ → Type 0
HasLongText text bytes = (f : List Tree) × Means bytes f × ((text_limit < length (text f)) ⊎ (text_limit < length (spell_bytes f)))

-- What a rejection says of the bytes: what one by `canonical` says, but for the length of the text: that of what is written counts too.
abbrev pub RefusesBy : (List Tree → List ℕ) → List ℕ → Fault → Type 0
RefusesBy write bytes TextTooLong = HasLongText write bytes
RefusesBy write bytes fault = CanonicalRefuses bytes fault

-- by `show`
abbrev pub ShowRefuses : List ℕ → Fault → Type 0
ShowRefuses = RefusesBy readable

-- by `show_as_read`
abbrev pub AsReadRefuses : List ℕ → Fault → Type 0
AsReadRefuses = RefusesBy shown_text

-- by `show_sharing`
abbrev pub SharingRefuses : List ℕ → Fault → Type 0
SharingRefuses = RefusesBy readable_sharing

-- the length of the text or want of memory is all that is wrong
abbrev pub IsLengthOrMemory : Fault → Type 0
IsLengthOrMemory fault = (fault ≡ TextTooLong) ⊎ (fault ≡ OutOfMemory)

-- the stream of the lines of JSON of documents
abbrev pub lines_text : List Tree → List ℕ
lines_text f = line_stream (map arranged f)

-- the same by `show_json`: the lines count, each as a document of a stream
abbrev pub LinesRefuse : List ℕ → Fault → Type 0
LinesRefuse = RefusesBy lines_text

-- the fault of a text that is not finished
abbrev pub fault_of : Stop → Fault
fault_of stops.TooLong = TextTooLong
fault_of stops.OutOfMemory = OutOfMemory

-- what an error of `show_json` says of the bytes: `NoJson`, that they mean documents not all of which JSON has; `Unlike`, that it has them
abbrev pub JsonRefuses : List ℕ → Unshown → Type 0
JsonRefuses bytes (Rejected fault) = LinesRefuse bytes fault
JsonRefuses bytes NoJson = (f : List Tree) × Means bytes f × (all_have_json f ≡ false)
JsonRefuses bytes Unlike = (f : List Tree) × Means bytes f × (all_have_json f ≡ true)
