-- Laws of readings, in both profiles.
use Rattle.std.specs.Prelude.{◌≡◌, ℕ, ◌≤◌, Bool, true, false, List}
use Rattle.yaml_definitions.specs.model.Event.{Event}
use Rattle.yaml_definitions.specs.model.Serial.{Document, stream_events}
use Rattle.yaml_definitions.specs.model.Sound.{DocumentsSound}
use Rattle.yaml_definitions.specs.model.Text.{Text}
use Rattle.yaml_definitions.specs.grammar.Rules.{Span, Rule}
use Rattle.yaml_definitions.specs.grammar.Separation.{Ctx, s-l-comments, s-separate, Unmarked}
use Rattle.yaml_definitions.specs.grammar.Tags as tags
use Rattle.yaml_definitions.specs.grammar.FlowScalars as flow
use Rattle.yaml_definitions.specs.grammar.BlockScalars as block
use Rattle.yaml_definitions.specs.grammar.Directives as directives
use Rattle.yaml_definitions.specs.grammar.Nodes.{Part, reads, wide}
use Rattle.yaml_definitions.specs.grammar.Streams.{l-bare-document, l-yaml-stream, ReadsText}
use Rattle.yaml_definitions.specs.grammar.Reading.{Reads}

-- whether `?` keys and empty keys are read in flow collections
abbrev pub Profile : Bool → Type 0
Profile false = ⊥
Profile true = wide

-- each reading ends at or after its start
abbrev pub Onward : Span → Type 0
Onward R = (i j : ℕ) → R i j → i ≤ j

abbrev pub Forward : {V : Type 0} → Rule V → Type 0
Forward {V} R = (i j : ℕ) (v : V) → R i j v → i ≤ j

-- No reading goes back, of whatever production.
pub record GoesOn (cs : List ℕ) : Type 0 where
  pub comments : Onward (s-l-comments cs)
  pub separation : (n : ℕ) (c : Ctx) → Onward (s-separate cs n c)
  pub tag : (handles : tags.Handles) → Forward (tags.c-ns-tag-property cs handles)
  pub anchor : Forward (tags.c-ns-anchor-property cs)
  pub alias : Forward (tags.c-ns-alias-node cs)
  pub properties : (handles : tags.Handles) (n : ℕ) (c : Ctx) → Forward (tags.c-ns-properties cs handles n c)
  pub plain : (n : ℕ) (c : Ctx) → Forward (flow.ns-plain cs n c)
  pub single : (n : ℕ) (c : Ctx) → Forward (flow.c-single-quoted cs n c)
  pub double : (n : ℕ) (c : Ctx) → Forward (flow.c-double-quoted cs n c)
  pub literal : (col : ℕ) → Forward (block.c-l+literal cs col)
  pub folded : (col : ℕ) → Forward (block.c-l+folded cs col)
  pub directives : Forward (directives.directives cs)
  pub node : (is_wide : Bool) (handles : tags.Handles) (room : ℕ) (p : Part) → Forward (reads cs (Profile is_wide) handles room p)
  pub stream : (is_wide : Bool) (room : ℕ) → Forward (l-yaml-stream cs (Profile is_wide) room)

abbrev pub ReadingsGoOn : Type 0
ReadingsGoOn = (cs : List ℕ) → GoesOn cs

-- No line of a bare document begins with a document mark.
abbrev pub DocumentsUnmarked : Type 0
DocumentsUnmarked = (cs : List ℕ) (is_wide : Bool) (room : ℕ) (handles : tags.Handles) (i j : ℕ) (es : List Event)
    → l-bare-document cs (Profile is_wide) room handles i j es → Unmarked cs i j

-- Bytes are one text at most.
abbrev pub OneText : Type 0
OneText = (bytes cs ds : List ℕ) → Text bytes cs → Text bytes ds → cs ≡ ds

-- the events are those of documents whose tags are tags, names are of anchor characters, and texts are UTF-8
abbrev pub FromDocuments : List Event → Type 0
FromDocuments es = (ds : List Document) × (es ≡ stream_events ds) × DocumentsSound ds

-- What bytes are read as is a list of documents.
abbrev pub ReadingsAreDocuments : Type 0
ReadingsAreDocuments = (bytes : List ℕ) (es : List Event) → Reads bytes es → FromDocuments es

-- A reading stays one where more collections may be open, and in a wider profile.
abbrev pub ReadingsStay : Type 0
ReadingsStay = (cs : List ℕ) (less more : Bool) → (Profile less → Profile more) → (room most : ℕ) → room ≤ most
    → (es : List Event) → ReadsText cs (Profile less) room es → ReadsText cs (Profile more) most es
