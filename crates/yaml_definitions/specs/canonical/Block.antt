-- The block spelling: canonical text in which collections outside keys stand in block style.
use Rattle.std.specs.Prelude.{ℕ, suc, ◌+◌, ◌≤◌, ◌++◌, true, false, List, [], ◌∷◌, map, replicate, length, encode_utf8_all}
use Rattle.yaml_definitions.specs.model.Limits.{key_limit}
use Rattle.yaml_definitions.specs.model.Tree.{Tree}
use Rattle.yaml_definitions.specs.model.Event.{Event}
use Rattle.yaml_definitions.specs.model.Serial.{SerialNode, SerialNodes, SerialPairs, alias_at, scalar_at, sequence_at, mapping_at, end_serial, item_serial, done_serial, entry_serial, stream_events}
use Rattle.yaml_definitions.specs.canonical.TagText.{tag_text}
use Rattle.yaml_definitions.specs.canonical.NodeText.{anchor_text, node_text}
use Rattle.yaml_definitions.specs.canonical.Spell.{serial_of, document_of}

-- the same with each nonempty collection not flow, but for keys and what stands inside them
unfoldable mutual
  pub in_block : SerialNode → SerialNode
  in_block (alias_at name) = alias_at name
  in_block (scalar_at a g y x) = scalar_at a g y x
  in_block (sequence_at a g b end_serial) = sequence_at a g b end_serial
  in_block (sequence_at a g b (item_serial t ts)) = sequence_at a g false (item_serial (in_block t) (items_in_block ts))
  in_block (mapping_at a g b done_serial) = mapping_at a g b done_serial
  in_block (mapping_at a g b (entry_serial k v ps)) = mapping_at a g false (entry_serial k (in_block v) (pairs_in_block ps))

  pub items_in_block : SerialNodes → SerialNodes
  items_in_block end_serial = end_serial
  items_in_block (item_serial t ts) = item_serial (in_block t) (items_in_block ts)

  pub pairs_in_block : SerialPairs → SerialPairs
  pairs_in_block done_serial = done_serial
  pairs_in_block (entry_serial k v ps) = entry_serial k (in_block v) (pairs_in_block ps)

abbrev pub spaces : ℕ → List ℕ → List ℕ
spaces n more = replicate n 32 ++ more

-- A node and the end of its line, and the lines of a block collection, which so many collections stand round.
unfoldable mutual
  pub line : ℕ → SerialNode → List ℕ → List ℕ
  line n (alias_at name) more = node_text (alias_at name) (10 ∷ more)
  line n (scalar_at a g y x) more = node_text (scalar_at a g y x) (10 ∷ more)
  line n (sequence_at a g true ts) more = node_text (sequence_at a g true ts) (10 ∷ more)
  line n (sequence_at a g false ts) more = anchor_text a (tag_text g ++ (10 ∷ item_lines n ts more))
  line n (mapping_at a g true ps) more = node_text (mapping_at a g true ps) (10 ∷ more)
  line n (mapping_at a g false ps) more = anchor_text a (tag_text g ++ (10 ∷ pair_lines n ps more))

  pub item_lines : ℕ → SerialNodes → List ℕ → List ℕ
  item_lines n end_serial more = more
  item_lines n (item_serial t ts) more = spaces n (45 ∷ 32 ∷ line (suc n) t (item_lines n ts more))

  pub pair_lines : ℕ → SerialPairs → List ℕ → List ℕ
  pair_lines n done_serial more = more
  pair_lines n (entry_serial k v ps) more = spaces n (node_text k (32 ∷ 58 ∷ 32 ∷ line (suc n) v (pair_lines n ps more)))

abbrev pub blocked_serial : Tree → SerialNode
blocked_serial t = in_block (serial_of t)

unfoldable pub block : List Tree → List ℕ
block [] = []
block (t ∷ f) = 45 ∷ 45 ∷ 45 ∷ 32 ∷ line 0 (blocked_serial t) (block f)

unfoldable pub block_bytes : List Tree → List ℕ
block_bytes f = encode_utf8_all (block f)

unfoldable pub blocked : List Tree → List Event
blocked f = stream_events (map (λ t. document_of (blocked_serial t)) f)

-- at most `key_limit` characters stand before the `:` of each key of a block mapping, the space before it among them
unfoldable mutual
  pub KeysFit : SerialNode → Type 0
  KeysFit (alias_at name) = Unit {0}
  KeysFit (scalar_at a g y x) = Unit {0}
  KeysFit (sequence_at a g true ts) = Unit {0}
  KeysFit (sequence_at a g false ts) = ItemsKeysFit ts
  KeysFit (mapping_at a g true ps) = Unit {0}
  KeysFit (mapping_at a g false ps) = PairsKeysFit ps

  pub ItemsKeysFit : SerialNodes → Type 0
  ItemsKeysFit end_serial = Unit {0}
  ItemsKeysFit (item_serial t ts) = KeysFit t × ItemsKeysFit ts

  pub PairsKeysFit : SerialPairs → Type 0
  PairsKeysFit done_serial = Unit {0}
  PairsKeysFit (entry_serial k v ps) = (length (node_text k []) + 1 ≤ key_limit) × KeysFit v × PairsKeysFit ps

abbrev pub AllKeysFit : List Tree → Type 0
AllKeysFit [] = Unit {0}
AllKeysFit (t ∷ f) = KeysFit (blocked_serial t) × AllKeysFit f
