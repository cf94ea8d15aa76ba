-- What `canonical` promises.
use Rattle.std.specs.Prelude.{◌≡◌, ◌↔◌, ◌<◌, ◌≤◌, ◌+◌, ◌*◌, ℕ, List, [], ◌∷◌, length, Ok}
use Rattle.yaml_definitions.specs.model.Event.{Event}
use Rattle.yaml_definitions.specs.model.Limits.{text_limit, height_limit}
use Rattle.yaml_definitions.specs.model.Tree.{Tree, height}
use Rattle.yaml_definitions.specs.model.Event.{Event}
use Rattle.yaml_definitions.specs.model.Same.{Keyed, Alike}
use Rattle.yaml_definitions.specs.canonical.Spell.{spell_bytes}
use Rattle.yaml_definitions.specs.model.Proper.{Admitted}
use Rattle.yaml_definitions.specs.model.Means.{Means}
use Rattle.yaml_definitions.specs.model.Serial.{Document, stream_events}
use Rattle.yaml_definitions.specs.model.Unfold.{trees_of}
use Rattle.yaml_definitions.specs.grammar.Reading.{Reads}
use Rattle.yaml_text.specs.Refused.{RefusesText}
use Rattle.yaml_text.specs.declared.fault.Fault.{Fault}
use Rattle.yaml_text.specs.declared.fault.Fault.TheVariants.{TooLong, NotUtf8, NotPrintable, Syntax, Tab, KeyTooLong, TooDeep, BadEscape, BadDirective, UnknownHandle, BadTag, UndefinedAlias, CyclicAlias, WrongKind, BadContent, IntRange, FloatRange, TooHigh, EqualKeys, TextTooLong, OutOfMemory}
use Rattle.law_length.specs.Sizes.{texts_bytes}
use Rattle.yaml_text.specs.Unread.{IsNoStream}
use Rattle.yaml_tree.specs.Refused.{RefusesStream}
use Rattle.yaml_tree.specs.TreeLists.{AreLow}
use Rattle.yaml_tree.specs.Closing.{stream_trees}
use Rattle.yaml_tree.specs.FirstRepeat.{IsFirstRepeat}
use Rattle.yaml_spell.specs.Documents.{arranged_bytes}

-- each of these trees
abbrev pub AllOf : (Tree → Type 0) → List Tree → Type 0
AllOf P [] = Unit {0}
AllOf P (t ∷ f) = P t × AllOf P f

-- The bytes mean these trees, and no others: none is too high, and no mapping has two keys that are the same.
pub record MeansAlone (bytes : List ℕ) (f : List Tree) : Type 0 where
  pub means : Means bytes f
  pub only : (g : List Tree) → Means bytes g → g ≡ f
  pub low : AllOf (λ t. height t ≤ height_limit) f
  pub keyed : AllOf Keyed f

-- The bytes mean a forest alone, and the text of these trees, which are arranged, is its text.
pub record IsArranged (bytes : List ℕ) (ts : List Tree) : Type 0 where
  pub forest : List Tree
  pub accepted : MeansAlone bytes forest
  pub text : arranged_bytes ts ≡ spell_bytes forest

-- The text is the canonical one of what the bytes mean: its spelling, which tells that forest from every other. It has at most 4 bytes for each byte of the scalars' texts and 4,096 for each event of the events that the bytes are read to.
pub record IsCanonicalText (bytes text : List ℕ) : Type 0 where
  pub forest : List Tree
  pub accepted : MeansAlone bytes forest
  pub admitted : Admitted forest
  pub spelled : text ≡ spell_bytes forest
  pub tells : (g : List Tree) → Admitted g → (spell_bytes g ≡ text) ↔ Alike forest g
  pub bounded : (events : List Event) → Reads bytes events → length text ≤ 4 * texts_bytes events + 4096 * length events

-- the bytes are read as these documents
pub record IsRead (bytes : List ℕ) (ds : List Document) : Type 0 where
  pub reads : Reads bytes (stream_events ds)

-- the bytes are read as documents whose composer refuses them with this fault
abbrev pub RefusedComposing : List ℕ → Fault → Type 0
RefusedComposing bytes fault = (ds : List Document) × IsRead bytes ds × RefusesStream ds fault

-- The bytes are read as documents that unfold, with no tree too high, and of their nodes' trees, in the order in which they close, this is the first mapping with two equal keys, at these two entries first.
abbrev pub RefusedKeys : List ℕ → ℕ → ℕ → ℕ → Type 0
RefusedKeys bytes node first second = (ds : List Document) × (ts : List Tree) × IsRead bytes ds × (trees_of ds ≡ Ok ts) × AreLow ts × IsFirstRepeat (stream_trees ds ts) node first second

-- What a refusal by `canonical` says of the bytes. Eight faults mean that it is no stream; which of them is told, and where, is not claimed.
abbrev pub CanonicalRefuses : List ℕ → Fault → Type 0
CanonicalRefuses bytes TooLong = RefusesText bytes TooLong
CanonicalRefuses bytes (NotUtf8 at) = RefusesText bytes (NotUtf8 at)
CanonicalRefuses bytes (NotPrintable at) = RefusesText bytes (NotPrintable at)
CanonicalRefuses bytes (Syntax at) = IsNoStream bytes
CanonicalRefuses bytes (Tab at) = IsNoStream bytes
CanonicalRefuses bytes (KeyTooLong at) = IsNoStream bytes
CanonicalRefuses bytes (TooDeep at) = IsNoStream bytes
CanonicalRefuses bytes (BadEscape at) = IsNoStream bytes
CanonicalRefuses bytes (BadDirective at) = IsNoStream bytes
CanonicalRefuses bytes (UnknownHandle at) = IsNoStream bytes
CanonicalRefuses bytes (BadTag at) = IsNoStream bytes
CanonicalRefuses bytes (UndefinedAlias event) = RefusedComposing bytes (UndefinedAlias event)
CanonicalRefuses bytes (CyclicAlias event) = RefusedComposing bytes (CyclicAlias event)
CanonicalRefuses bytes (WrongKind event) = RefusedComposing bytes (WrongKind event)
CanonicalRefuses bytes (BadContent event) = RefusedComposing bytes (BadContent event)
CanonicalRefuses bytes (IntRange event) = RefusedComposing bytes (IntRange event)
CanonicalRefuses bytes (FloatRange event) = RefusedComposing bytes (FloatRange event)
CanonicalRefuses bytes (TooHigh document) = RefusedComposing bytes (TooHigh document)
CanonicalRefuses bytes (EqualKeys node first second) = RefusedKeys bytes node first second
CanonicalRefuses bytes TextTooLong = (f : List Tree) × MeansAlone bytes f × (text_limit < length (spell_bytes f))
CanonicalRefuses bytes OutOfMemory = Unit {0}
CanonicalRefuses bytes _ = ⊥

-- why the bytes have no graph: of what `canonical` refuses, all that is judged before ranks are
abbrev pub GraphRefuses : List ℕ → Fault → Type 0
GraphRefuses bytes (EqualKeys node first second) = ⊥
GraphRefuses bytes TextTooLong = ⊥
GraphRefuses bytes fault = CanonicalRefuses bytes fault
