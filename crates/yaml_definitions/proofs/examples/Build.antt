-- Trees and marks of the worked examples, written short.
use Rattle.std.specs.Prelude.{true, false, codes, List, [], ◌∷◌}
use Rattle.std.specs.declared.option.Option.TheVariants.{Some}
use Rattle.yaml_definitions.specs.model.Tag.{null_tag, bool_tag, int_tag, float_tag, str_tag, seq_tag, map_tag}
use Rattle.yaml_definitions.specs.model.Tree.{Tree, Trees, Pairs, scalar, sequence, mapping, end, item, done, entry}
use Rattle.yaml_definitions.specs.model.Event.{Anchor, plain, untagged}
use Rattle.yaml_definitions.specs.model.Serial.{SerialNode, SerialNodes, SerialPairs, alias_at, scalar_at, sequence_at, mapping_at, end_serial, item_serial, done_serial, entry_serial, Document}

abbrev pub Text : Type 0
Text = Prim.Native.String.String

abbrev pub str : Text → Tree
str x = scalar str_tag (codes x)

abbrev pub int : Text → Tree
int x = scalar int_tag (codes x)

abbrev pub float : Text → Tree
float x = scalar float_tag (codes x)

abbrev pub bool : Text → Tree
bool x = scalar bool_tag (codes x)

abbrev pub null : Tree
null = scalar null_tag (codes "null")

abbrev pub trees : List Tree → Trees
trees [] = end
trees (t ∷ ts) = item t (trees ts)

abbrev pub pairs : List (Tree × Tree) → Pairs
pairs [] = done
pairs (p ∷ ps) = entry p.0 p.1 (pairs ps)

abbrev pub seq : List Tree → Tree
seq ts = sequence seq_tag (trees ts)

abbrev pub map_of : List (Tree × Tree) → Tree
map_of ps = mapping map_tag (pairs ps)

-- ---- marks: untagged plain scalars, and flow collections

abbrev pub named : Text → Anchor
named x = Some (codes x)

abbrev pub leaf : Anchor → Text → SerialNode
leaf a x = scalar_at a untagged plain (codes x)

abbrev pub again : Text → SerialNode
again name = alias_at (codes name)

abbrev pub marks : List SerialNode → SerialNodes
marks [] = end_serial
marks (m ∷ ms) = item_serial m (marks ms)

abbrev pub entries : List (SerialNode × SerialNode) → SerialPairs
entries [] = done_serial
entries (p ∷ ps) = entry_serial p.0 p.1 (entries ps)

abbrev pub flow_seq : Anchor → List SerialNode → SerialNode
flow_seq a ms = sequence_at a untagged true (marks ms)

abbrev pub flow_map : Anchor → List (SerialNode × SerialNode) → SerialNode
flow_map a ps = mapping_at a untagged true (entries ps)

abbrev pub bare : SerialNode → Document
bare m = record { starts = false; root = m; ends = false }
