-- The laws of trees, their texts and their meaning.
use Rattle.std.specs.Prelude.{◌≡◌, ◌↔◌, ◌⊎◌, ◌≤◌, ℕ, length, List, Some, Ok}
use Rattle.std.specs.declared.cmp.Ordering.TheVariants.{Equal}
use Rattle.std.specs.Cmp.{IsTotalOrder}
use Rattle.yaml_definitions.specs.model.Limits.{text_limit}
use Rattle.yaml_definitions.specs.model.Tree.{Tree}
use Rattle.yaml_definitions.specs.model.Order.{tree_cmp, arranged, Before}
use Rattle.yaml_definitions.specs.model.Event.{Event, Style, double, WrittenTag, full}
use Rattle.yaml_definitions.specs.model.Core.{Value, value_of, content_of, resolve}
use Rattle.yaml_definitions.specs.model.Number.{AreEqual}
use Rattle.yaml_definitions.specs.model.EventText.{events_text, EventText}
use Rattle.yaml_definitions.specs.canonical.Spell.{spell, spell_bytes, spelled}
use Rattle.yaml_definitions.specs.canonical.Block.{block, block_bytes, blocked}
use Rattle.yaml_definitions.specs.model.Text.{Text}
use Rattle.yaml_definitions.specs.model.Serial.{SerialNode, flat, Document, stream_events}
use Rattle.yaml_definitions.specs.model.Unfold.{trees_of}
use Rattle.yaml_definitions.specs.model.Sound.{DocumentsSound, AllProper}
use Rattle.yaml_definitions.specs.model.Means.{StandsFor, Means, Understood}
use Rattle.yaml_definitions.specs.grammar.Reading.{Reads}
use Rattle.yaml_definitions.specs.model.Proper.{Admitted}
use Rattle.yaml_definitions.specs.model.Same.{Same, Keyed, Alike}

-- ---- the order

-- The comparison of trees obeys the laws of a total order.
abbrev pub OrderIsTotal : Type 0
OrderIsTotal = IsTotalOrder tree_cmp

-- The comparison tells any two trees apart.
abbrev pub OrderTells : Type 0
OrderTells = (t u : Tree) → (tree_cmp t u ≡ Equal) ↔ (t ≡ u)

-- exactly one of the three holds
abbrev pub ExactlyOne : Type 0 → Type 0 → Type 0 → Type 0
ExactlyOne P Q R = (P × (¬ Q) × (¬ R)) ⊎ ((¬ P) × Q × (¬ R)) ⊎ ((¬ P) × (¬ Q) × R)

-- Of two trees one is before the other, or they are the same, and only one of these holds.
abbrev pub BeforeOrSame : Type 0
BeforeOrSame = (t u : Tree) → Keyed t → Keyed u → ExactlyOne (Before t u) (Same t u) (Before u t)

-- A tree before one that is before a third is before that.
abbrev pub BeforeGoesOn : Type 0
BeforeGoesOn = (t u v : Tree) → Before t u → Before u v → Before t v

-- ---- trees that are the same

-- Each tree is the same as itself.
abbrev pub SameToItself : Type 0
SameToItself = (t : Tree) → Same t t

-- What is the same as a tree, that tree is the same as it.
abbrev pub SameEitherWay : Type 0
SameEitherWay = (t u : Tree) → Same t u → Same u t

-- A tree that is the same as one that is the same as a third is the same as that.
abbrev pub SameGoesOn : Type 0
SameGoesOn = (t u v : Tree) → Same t u → Same u v → Same t v

-- Trees are the same exactly if they are one tree once their pairs stand in order.
abbrev pub SameIsArranged : Type 0
SameIsArranged = (t u : Tree) → Keyed t → Keyed u → Same t u ↔ (arranged t ≡ arranged u)

-- ---- events

-- The events of a node, whatever follows them, are those of one serialization tree, and end at one place.
abbrev pub NodeEventsTell : Type 0
NodeEventsTell = (m n : SerialNode) (more others : List Event) → flat m more ≡ flat n others → (m ≡ n) × (more ≡ others)

-- The events of a stream are those of one list of documents.
abbrev pub StreamEventsTell : Type 0
StreamEventsTell = (ds es : List Document) → stream_events ds ≡ stream_events es → ds ≡ es

-- A text is that of one list of events.
abbrev pub EventTextTells : Type 0
EventTextTells = (text : List ℕ) (es fs : List Event) → EventText text es → EventText text fs → es ≡ fs

-- Events have one text.
abbrev pub EventsHaveOneText : Type 0
EventsHaveOneText = (text other : List ℕ) (es : List Event) → EventText text es → EventText other es → text ≡ other

-- The events of sound documents have a text.
abbrev pub SoundEventsHaveText : Type 0
SoundEventsHaveText = (ds : List Document) → DocumentsSound ds → EventText (events_text (stream_events ds)) (stream_events ds)

-- ---- texts

-- The texts of admitted forests tell whether they are the same, tree by tree.
abbrev pub TextsTell : Type 0
TextsTell = (f g : List Tree) → Admitted f → Admitted g → (spell_bytes f ≡ spell_bytes g) ↔ Alike f g

-- What the events of a forest's two spellings mean: the same forest.
abbrev pub SpellingsUnderstood : Type 0
SpellingsUnderstood = (f : List Tree) → Admitted f → Understood (spelled f) f × Understood (blocked f) f

-- A canonical text is one that is read.
abbrev pub SpellingsAreText : Type 0
SpellingsAreText = (f : List Tree) → Admitted f → Text (spell_bytes f) (spell f)

-- So is a block spelling that is not too long.
abbrev pub BlocksAreText : Type 0
BlocksAreText = (f : List Tree) → Admitted f → length (block_bytes f) ≤ text_limit → Text (block_bytes f) (block f)

-- Events stand for one forest at most.
abbrev pub EventsTell : Type 0
EventsTell = (events : List Event) (f g : List Tree) → StandsFor events f → StandsFor events g → f ≡ g

-- The content that resolving gives is canonical: under the tag given it gives itself.
abbrev pub ResolvedAgain : Type 0
ResolvedAgain = (written : WrittenTag) (style : Style) (x g content : List ℕ) → resolve written style x ≡ Ok (g, content) → resolve (full g) double content ≡ Ok (g, content)

-- Two texts have one canonical content under a tag exactly if they denote equal values: decimals are equal as numbers.
abbrev pub ContentsTell : Type 0
ContentsTell = (g x y : List ℕ) (v w : Value) → value_of g x ≡ Some v → value_of g y ≡ Some w → AreEqual v w ↔ (content_of v ≡ content_of w)

-- Of the texts that denote equal values under a tag, one at most is its own canonical content.
abbrev pub OneCanonicalText : Type 0
OneCanonicalText = (g x y : List ℕ) (v w : Value) → value_of g x ≡ Some v → value_of g y ≡ Some w → AreEqual v w
    → resolve (full g) double x ≡ Ok (g, x) → resolve (full g) double y ≡ Ok (g, y) → x ≡ y

-- Trees that are read are proper.
abbrev pub ReadIsProper : Type 0
ReadIsProper = (ds : List Document) (f : List Tree) → DocumentsSound ds → trees_of ds ≡ Ok f → AllProper f

-- ---- bytes

-- What bytes are read as has an event text.
abbrev pub ReadingsHaveText : Type 0
ReadingsHaveText = (bytes : List ℕ) (es : List Event) → Reads bytes es → EventText (events_text es) es

-- The trees that it stands for are proper.
abbrev pub ReadingsAreProper : Type 0
ReadingsAreProper = (bytes : List ℕ) (es : List Event) (f : List Tree) → Reads bytes es → StandsFor es f → AllProper f

-- What bytes mean is proper.
abbrev pub MeaningIsProper : Type 0
MeaningIsProper = (bytes : List ℕ) (f : List Tree) → Means bytes f → AllProper f
