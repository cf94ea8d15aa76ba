-- The serialization of an arranged tree, from the anchored nodes that were written before it.
use Rattle.std.specs.Prelude.{suc, Bool, true, cond, List, [], ◌∷◌, ◌++◌, length}
use Rattle.std.specs.declared.option.Option.TheVariants.{None, Some}
use Rattle.std.specs.List.{list_any, position_or_len}
use Rattle.yaml_definitions.specs.model.Tree.{Trees, Pairs, scalar, sequence, mapping, end, item, done, entry}
use Rattle.yaml_definitions.specs.model.Tree as plain
use Rattle.yaml_definitions.specs.model.Same.{same}
use Rattle.yaml_definitions.specs.model.Event.{Anchor, double}
use Rattle.yaml_definitions.specs.model.Serial.{SerialNode, SerialNodes, SerialPairs, alias_at, scalar_at, sequence_at, mapping_at, end_serial, item_serial, done_serial, entry_serial}
use Rattle.yaml_definitions.specs.canonical.TagText.{written_tag}
use Rattle.yaml_definitions.specs.canonical.Serialize.{anchor_name}

-- one of the list is the same as this tree
abbrev pub has : List plain.Tree → plain.Tree → Bool
has ts t = list_any (same t) ts

abbrev pub alias_to : plain.Tree → List plain.Tree → SerialNode
alias_to t written = alias_at (anchor_name (suc (position_or_len (same t) written)))

-- `repeated` are the nodes that a later one repeats
module _ (repeated : List plain.Tree) where
  abbrev pub anchor_at : plain.Tree → List plain.Tree → Anchor
  anchor_at t written = cond (has repeated t) (Some (anchor_name (suc (length written)))) None

  -- the anchored nodes once this one stands among them, if it is anchored
  abbrev pub enrolled : plain.Tree → List plain.Tree → List plain.Tree
  enrolled t written = cond (has repeated t) (written ++ (t ∷ [])) written

  -- the anchored nodes once the tree is written
  unfoldable mutual
    pub noted : plain.Tree → List plain.Tree → List plain.Tree
    noted (scalar a x) written = cond (has written (scalar a x)) written (enrolled (scalar a x) written)
    noted (sequence a ts) written = cond (has written (sequence a ts)) written (noted_all ts (enrolled (sequence a ts) written))
    noted (mapping a ps) written = cond (has written (mapping a ps)) written (noted_pairs ps (enrolled (mapping a ps) written))

    pub noted_all : Trees → List plain.Tree → List plain.Tree
    noted_all end written = written
    noted_all (item t ts) written = noted_all ts (noted t written)

    pub noted_pairs : Pairs → List plain.Tree → List plain.Tree
    noted_pairs done written = written
    noted_pairs (entry k v ps) written = noted_pairs ps (noted v (noted k written))

  -- its serialization tree
  unfoldable mutual
    pub serialized : plain.Tree → List plain.Tree → SerialNode
    serialized (scalar a x) written = cond (has written (scalar a x)) (alias_to (scalar a x) written) (scalar_at (anchor_at (scalar a x) written) (written_tag 0 a) double x)
    serialized (sequence a ts) written =
        cond (has written (sequence a ts)) (alias_to (sequence a ts) written)
        (sequence_at (anchor_at (sequence a ts) written) (written_tag 1 a) true (serialized_all ts (enrolled (sequence a ts) written)))
    serialized (mapping a ps) written =
        cond (has written (mapping a ps)) (alias_to (mapping a ps) written)
        (mapping_at (anchor_at (mapping a ps) written) (written_tag 2 a) true (serialized_pairs ps (enrolled (mapping a ps) written)))

    pub serialized_all : Trees → List plain.Tree → SerialNodes
    serialized_all end written = end_serial
    serialized_all (item t ts) written = item_serial (serialized t written) (serialized_all ts (noted t written))

    pub serialized_pairs : Pairs → List plain.Tree → SerialPairs
    serialized_pairs done written = done_serial
    serialized_pairs (entry k v ps) written = entry_serial (serialized k written) (serialized v (noted k written)) (serialized_pairs ps (noted v (noted k written)))
