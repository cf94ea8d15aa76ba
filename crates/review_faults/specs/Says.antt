-- What is said of an event that is warned of.
use Rattle.std.specs.Prelude.{◌≡◌, ℕ, List, [], ◌++◌, Option, Some, None, codes, slice_get}
use Rattle.yaml_definitions.specs.model.Event.{Event}
use Rattle.review_text.specs.Shown.{front}
use Rattle.review_text.specs.Terminal.{terminal}
use Rattle.review_text.specs.Yaml11.{SaysOlder}
use Rattle.review_faults.specs.Labels.{Label, node_of, whole}
use Rattle.review_faults.specs.Slips.{slip_words}
use Rattle.review_faults.specs.declared.cause.Cause.{Cause}
use Rattle.review_faults.specs.declared.cause.Cause.TheVariants as causes
use Rattle.review_faults.specs.declared.keys.Reader.{Reader}
use Rattle.review_faults.specs.declared.keys.Reader.TheVariants as readers

abbrev pub reader_name : Reader → List ℕ
reader_name readers.Python = codes "Python"
reader_name readers.JavaScript = codes "JavaScript"

abbrev pub label_text : Option Label → List ℕ
label_text None = []
label_text (Some label) = terminal (front 60 (whole label))

abbrev pub key_text : Option Event → List ℕ
key_text None = []
key_text (Some e) = label_text (node_of e)

-- the reader, and 60 bytes at most of the key to which another is equal
abbrev pub equal_words : Reader → Option Event → List ℕ
equal_words reader first = codes "in " ++ (reader_name reader ++ (codes " the same key as " ++ key_text first))

-- what is said of a text that one of these events has
abbrev pub Says : List Event → Cause → List ℕ → List ℕ → Type 0
Says events causes.Name text words = words ≡ codes "a name here; in PyYAML, libyaml and yaml.v3 it ends earlier, or is rejected"
Says events causes.Indicator text words = words ≡ codes "its first character is text here, and an indicator in PyYAML, libyaml and yaml.v3"
Says events (causes.Equal reader first) text words = words ≡ equal_words reader (slice_get events first)
Says events (causes.Older older) text words = SaysOlder older text words
Says events (causes.Slip slip) text words = words ≡ slip_words slip
