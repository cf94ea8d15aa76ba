-- How a tree is serialized (YAML 1.2.2, 3.1.1): anchors on the nodes that come again, and aliases in their place.
use Rattle.std.specs.Prelude.{ℕ, suc, Bool, true, cond, ◌+◌, ◌++◌, List, [], ◌∷◌, length, map}
use Rattle.std.specs.declared.option.Option.TheVariants.{None, Some}
use Rattle.std.specs.List.{filter, list_any, position_or_len}
use Rattle.std.specs.Int.Digits.{digits_of}
use Rattle.yaml_definitions.specs.model.Tree.{Tree, Trees, Pairs, scalar, sequence, mapping, end, item, done, entry, a_scalar, a_sequence, a_mapping}
use Rattle.yaml_definitions.specs.model.Same.{same}
use Rattle.yaml_definitions.specs.model.Event.{Anchor, double}
use Rattle.yaml_definitions.specs.model.Serial.{SerialNode, SerialNodes, SerialPairs, alias_at, scalar_at, sequence_at, mapping_at, end_serial, item_serial, done_serial, entry_serial}
use Rattle.yaml_definitions.specs.canonical.TagText.{written_tag}
use Rattle.yaml_definitions.specs.canonical.Walk.{walk, firsts, is_again}

-- `aN`, with N in decimal
unfoldable pub anchor_name : ℕ → List ℕ
anchor_name n = 97 ∷ map (λ d. 48 + d) (digits_of 10 n)

module _ (repeated : List Tree) where
  -- some node repeats it
  abbrev pub is_anchored : Tree → Bool
  is_anchored t = list_any (same t) repeated

  -- the anchored ones among nodes written out
  abbrev pub anchored : List Tree → List Tree
  anchored = filter is_anchored

  -- where it is anchored, named by its place among the anchored ones, from 1
  abbrev pub anchor_of : Tree → List Tree → Anchor
  anchor_of t before = cond (is_anchored t) (Some (anchor_name (suc (length (anchored before))))) None

  -- the name of the one that it repeats
  abbrev pub alias_of : Tree → List Tree → List ℕ
  alias_of t before = anchor_name (suc (position_or_len (same t) (anchored before)))

module _ (short : Tree → Bool) (repeated : List Tree) where
  -- a tree whose pairs stand in order, with the nodes written out before it
  unfoldable mutual
    pub serialize : Tree → List Tree → SerialNode
    serialize (scalar a x) before = cond (is_again short (scalar a x) before) (alias_at (alias_of repeated (scalar a x) before)) (scalar_at (anchor_of repeated (scalar a x) before) (written_tag a_scalar a) double x)
    serialize (sequence a ts) before =
        cond (is_again short (sequence a ts) before) (alias_at (alias_of repeated (sequence a ts) before))
        (sequence_at (anchor_of repeated (sequence a ts) before) (written_tag a_sequence a) true (serialize_all ts (before ++ (sequence a ts ∷ []))))
    serialize (mapping a ps) before =
        cond (is_again short (mapping a ps) before) (alias_at (alias_of repeated (mapping a ps) before))
        (mapping_at (anchor_of repeated (mapping a ps) before) (written_tag a_mapping a) true (serialize_pairs ps (before ++ (mapping a ps ∷ []))))

    pub serialize_all : Trees → List Tree → SerialNodes
    serialize_all end before = end_serial
    serialize_all (item t ts) before = item_serial (serialize t before) (serialize_all ts (before ++ firsts (walk short t before)))

    pub serialize_pairs : Pairs → List Tree → SerialPairs
    serialize_pairs done before = done_serial
    serialize_pairs (entry k v ps) before =
        let after_key = before ++ firsts (walk short k before) in
        entry_serial (serialize k before) (serialize v after_key) (serialize_pairs ps (after_key ++ firsts (walk short v after_key)))
