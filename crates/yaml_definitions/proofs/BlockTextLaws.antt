-- The block spelling of an admitted forest, where it is not too long, is a text that is read.
use Rattle.std.proofs.Common.{◌≡◌, ℕ, zero, suc, true, false, List, [], ◌∷◌, ◌++◌, replicate, drop, refl, ap, arith}
use Rattle.std.specs.Char.{encode_utf8}
use Rattle.yaml_definitions.specs.model.Tree.{Tree}
use Rattle.yaml_definitions.specs.model.Order.{arranged}
use Rattle.yaml_definitions.specs.canonical.Walk.{walk, agains}
use Rattle.yaml_definitions.specs.model.Event.{Anchor, WrittenTag}
use Rattle.yaml_definitions.specs.model.Serial.{SerialNode, SerialNodes, SerialPairs, alias_at, scalar_at, sequence_at, mapping_at, end_serial, item_serial, done_serial, entry_serial}
use Rattle.yaml_definitions.specs.canonical.TagText.{tag_text}
use Rattle.yaml_definitions.specs.canonical.NodeText.{anchor_text, node_text}
use Rattle.yaml_definitions.specs.canonical.Spell.{short, serial_of}
use Rattle.yaml_definitions.specs.canonical.Block.{in_block, items_in_block, pairs_in_block, spaces, line, item_lines, pair_lines, block, block_bytes}
use Rattle.yaml_definitions.specs.model.Text.{mark_len}
use Rattle.yaml_definitions.specs.model.Proper.{AreAdmitted}
use Rattle.yaml_definitions.specs.Laws.{BlocksAreText}
use Rattle.yaml_definitions.proofs.TagLaws.{IsWritten}
use Rattle.yaml_definitions.proofs.TextLaws.{IsAnchor, IsFine, AreFine, ArePairsFine}
use Rattle.yaml_definitions.proofs.ProperLaws.{proper_arranged, fine_mark}
use Rattle.yaml_definitions.proofs.PrintLaws.{good, Good, join, a_good, anchor_good, tag_good, text_good, break_good, all_good, all_scalar}

space_good : good 32 ≡ true
space_good = a_good 32 (omega arith) (omega arith)

spaces_good : (n : ℕ) (r : List ℕ) → Good r → Good (spaces n r)
spaces_good n r h = join (replicate n 32) r (some n) h
  where
    some : (n : ℕ) → Good (replicate n 32)
    some zero = tt
    some (suc n) = (space_good, some n)

start_good : (a : Anchor) (g : WrittenTag) (r : List ℕ) → IsAnchor a → IsWritten g → Good r → Good (anchor_text a (tag_text g ++ (10 ∷ r)))
start_good a g r p m h = anchor_good a (tag_text g ++ (10 ∷ r)) p (join (tag_text g) (10 ∷ r) (tag_good g m) (break_good, h))

item_good : (n : ℕ) (r : List ℕ) → Good r → Good (spaces n (45 ∷ 32 ∷ r))
item_good n r h = spaces_good n (45 ∷ 32 ∷ r) (a_good 45 (omega arith) (omega arith), (space_good, h))

pair_good : (n : ℕ) (k : SerialNode) (r : List ℕ) → IsFine k → Good r → Good (spaces n (node_text k (32 ∷ 58 ∷ 32 ∷ r)))
pair_good n k r f h = spaces_good n (node_text k (32 ∷ 58 ∷ 32 ∷ r)) (text_good k (32 ∷ 58 ∷ 32 ∷ r) f (space_good, (a_good 58 (omega arith) (omega arith), (space_good, h))))

mutual
  unfolding line in_block

  line_good : (n : ℕ) (m : SerialNode) (r : List ℕ) → IsFine m → Good r → Good (line n (in_block m) r)
  line_good n (alias_at name) r f h = text_good (alias_at name) (10 ∷ r) f (break_good, h)
  line_good n (scalar_at a g y x) r f h = text_good (scalar_at a g y x) (10 ∷ r) f (break_good, h)
  line_good n (sequence_at a g true end_serial) r f h = text_good (sequence_at a g true end_serial) (10 ∷ r) f (break_good, h)
  line_good n (sequence_at a g false end_serial) r f h = absurd (cc f.2)
  line_good n (sequence_at a g b (item_serial t ts)) r f h = start_good a g _ f.0 f.1 (item_good n _ (line_good (suc n) t _ f.3.0 (items_good n ts r f.3.1 h)))
  line_good n (mapping_at a g true done_serial) r f h = text_good (mapping_at a g true done_serial) (10 ∷ r) f (break_good, h)
  line_good n (mapping_at a g false done_serial) r f h = absurd (cc f.2)
  line_good n (mapping_at a g b (entry_serial k v ps)) r f h = start_good a g _ f.0 f.1 (pair_good n k _ f.3.0 (line_good (suc n) v _ f.3.1 (pairs_good n ps r f.3.2 h)))

  items_good : (n : ℕ) (ts : SerialNodes) (r : List ℕ) → AreFine ts → Good r → Good (item_lines n (items_in_block ts) r)
  items_good n end_serial r f h = h
  items_good n (item_serial t ts) r f h = item_good n _ (line_good (suc n) t _ f.0 (items_good n ts r f.1 h))

  pairs_good : (n : ℕ) (ps : SerialPairs) (r : List ℕ) → ArePairsFine ps → Good r → Good (pair_lines n (pairs_in_block ps) r)
  pairs_good n done_serial r f h = h
  pairs_good n (entry_serial k v ps) r f h = pair_good n k _ f.0 (line_good (suc n) v _ f.1 (pairs_good n ps r f.2 h))

forest_good : (f : List Tree) → AreAdmitted f → Good (block f)
unfolding block serial_of
forest_good [] a = tt
forest_good (t ∷ f) a =
    let d : good 45 ≡ true = a_good 45 (omega arith) (omega arith) in
    let m = fine_mark short (agains (walk short (arranged t) [])) (arranged t) [] (proper_arranged t a.0.proper) in
    (d, (d, (d, (space_good, line_good 0 (serial_of t) (block f) m (forest_good f a.1)))))

unmarked : (f : List Tree) → mark_len (block_bytes f) ≡ 0
unfolding block_bytes block encode_utf8
unmarked [] = refl
unmarked (t ∷ f) = refl

pub blocks_are_text : BlocksAreText
unfolding block_bytes good
blocks_are_text f a h =
    let g = forest_good f a.trees in
    record { short = h; decodes = ap (λ n. drop n (block_bytes f)) (unmarked f); scalars = all_scalar (block f) g; permitted = all_good (block f) g }
