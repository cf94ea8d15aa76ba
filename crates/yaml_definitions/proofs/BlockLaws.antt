-- A block spelling's documents unfold as those of the spelling.
use Rattle.std.proofs.Common.{◌≡◌, ℕ, suc, ◌+◌, Bool, List, [], ◌∷◌, length, refl, ◌∙◌, ap, Ok}
use Rattle.yaml_definitions.specs.model.Tree.{Tree, Trees, Pairs, sequence, mapping, item, entry}
use Rattle.yaml_definitions.specs.model.Event.{Event, Anchor, WrittenTag, sequence_end, mapping_end}
use Rattle.yaml_definitions.specs.model.Serial.{SerialNode, SerialNodes, SerialPairs, alias_at, scalar_at, sequence_at, mapping_at, end_serial, item_serial, done_serial, entry_serial, flat, flat_all, flat_pairs}
use Rattle.yaml_definitions.specs.canonical.Block.{in_block, items_in_block, pairs_in_block}
use Rattle.yaml_definitions.specs.model.Core.{collection_tag}
use Rattle.yaml_definitions.specs.model.Unfold.{Table, opened, closed, placed, and_then, event_count, unfold_node, unfold_all, unfold_pairs}

-- ---- as many events

mutual
  unfolding flat in_block

  count : (m : SerialNode) (r s : List Event) → length r ≡ length s → length (flat (in_block m) r) ≡ length (flat m s)
  count (alias_at n) r s h = ap suc h
  count (scalar_at a g y x) r s h = ap suc h
  count (sequence_at a g b ts) r s h = sequence_count a g b ts r s (counts ts (sequence_end ∷ r) (sequence_end ∷ s) (ap suc h))
  count (mapping_at a g b ps) r s h = mapping_count a g b ps r s (pairs_count ps (mapping_end ∷ r) (mapping_end ∷ s) (ap suc h))

  counts : (ts : SerialNodes) (r s : List Event) → length r ≡ length s → length (flat_all (items_in_block ts) r) ≡ length (flat_all ts s)
  counts end_serial r s h = h
  counts (item_serial t ts) r s h = count t (flat_all (items_in_block ts) r) (flat_all ts s) (counts ts r s h)

  pairs_count : (ps : SerialPairs) (r s : List Event) → length r ≡ length s → length (flat_pairs (pairs_in_block ps) r) ≡ length (flat_pairs ps s)
  pairs_count done_serial r s h = h
  pairs_count (entry_serial k v ps) r s h =
      key_count k (flat (in_block v) (flat_pairs (pairs_in_block ps) r)) (flat v (flat_pairs ps s)) (count v (flat_pairs (pairs_in_block ps) r) (flat_pairs ps s) (pairs_count ps r s h))

  key_count : (m : SerialNode) (r s : List Event) → length r ≡ length s → length (flat m r) ≡ length (flat m s)
  key_count (alias_at n) r s h = ap suc h
  key_count (scalar_at a g y x) r s h = ap suc h
  key_count (sequence_at a g b ts) r s h = ap suc (key_counts ts (sequence_end ∷ r) (sequence_end ∷ s) (ap suc h))
  key_count (mapping_at a g b ps) r s h = ap suc (key_pairs_count ps (mapping_end ∷ r) (mapping_end ∷ s) (ap suc h))

  key_counts : (ts : SerialNodes) (r s : List Event) → length r ≡ length s → length (flat_all ts r) ≡ length (flat_all ts s)
  key_counts end_serial r s h = h
  key_counts (item_serial t ts) r s h = key_count t (flat_all ts r) (flat_all ts s) (key_counts ts r s h)

  key_pairs_count : (ps : SerialPairs) (r s : List Event) → length r ≡ length s → length (flat_pairs ps r) ≡ length (flat_pairs ps s)
  key_pairs_count done_serial r s h = h
  key_pairs_count (entry_serial k v ps) r s h = key_count k (flat v (flat_pairs ps r)) (flat v (flat_pairs ps s)) (key_count v (flat_pairs ps r) (flat_pairs ps s) (key_pairs_count ps r s h))

  sequence_count : (a : Anchor) (g : WrittenTag) (b : Bool) (ts : SerialNodes) (r s : List Event)
      → length (flat_all (items_in_block ts) (sequence_end ∷ r)) ≡ length (flat_all ts (sequence_end ∷ s)) → length (flat (in_block (sequence_at a g b ts)) r) ≡ length (flat (sequence_at a g b ts) s)
  sequence_count a g b end_serial r s h = ap suc h
  sequence_count a g b (item_serial t ts) r s h = ap suc h

  mapping_count : (a : Anchor) (g : WrittenTag) (b : Bool) (ps : SerialPairs) (r s : List Event)
      → length (flat_pairs (pairs_in_block ps) (mapping_end ∷ r)) ≡ length (flat_pairs ps (mapping_end ∷ s)) → length (flat (in_block (mapping_at a g b ps)) r) ≡ length (flat (mapping_at a g b ps) s)
  mapping_count a g b done_serial r s h = ap suc h
  mapping_count a g b (entry_serial k v ps) r s h = ap suc h

pub block_count : (m : SerialNode) → event_count (in_block m) ≡ event_count m
block_count m = count m [] [] refl

-- ---- the same trees

sequence_block : (a : Anchor) (g : WrittenTag) (b : Bool) (ts : SerialNodes) (e : Table) (at : ℕ)
    → unfold_all (items_in_block ts) (opened a e) (suc at) ≡ unfold_all ts (opened a e) (suc at) → unfold_node (in_block (sequence_at a g b ts)) e at ≡ unfold_node (sequence_at a g b ts) e at
unfolding unfold_node in_block
sequence_block a g b end_serial e at h = refl
sequence_block a g b (item_serial t ts) e at h =
    ap (λ u. and_then {Y = Tree × Table} (placed at (collection_tag 1 g)) (λ h. and_then u (λ r. Ok (sequence h r.0, closed a (length e) (sequence h r.0) r.1)))) h

mapping_block : (a : Anchor) (g : WrittenTag) (b : Bool) (ps : SerialPairs) (e : Table) (at : ℕ)
    → unfold_pairs (pairs_in_block ps) (opened a e) (suc at) ≡ unfold_pairs ps (opened a e) (suc at) → unfold_node (in_block (mapping_at a g b ps)) e at ≡ unfold_node (mapping_at a g b ps) e at
unfolding unfold_node in_block
mapping_block a g b done_serial e at h = refl
mapping_block a g b (entry_serial k v ps) e at h =
    ap (λ u. and_then {Y = Tree × Table} (placed at (collection_tag 2 g)) (λ h. and_then u (λ r. Ok (mapping h r.0, closed a (length e) (mapping h r.0) r.1)))) h

mutual
  unfolding unfold_node in_block

  pub block_unfold : (m : SerialNode) (e : Table) (at : ℕ) → unfold_node (in_block m) e at ≡ unfold_node m e at
  block_unfold (alias_at n) e at = refl
  block_unfold (scalar_at a g y x) e at = refl
  block_unfold (sequence_at a g b ts) e at = sequence_block a g b ts e at (items_unfold ts (opened a e) (suc at))
  block_unfold (mapping_at a g b ps) e at = mapping_block a g b ps e at (pairs_unfold ps (opened a e) (suc at))

  items_unfold : (ts : SerialNodes) (e : Table) (at : ℕ) → unfold_all (items_in_block ts) e at ≡ unfold_all ts e at
  items_unfold end_serial e at = refl
  items_unfold (item_serial t ts) e at =
      let p = block_unfold t e at in
      let q : (f : Table) → unfold_all (items_in_block ts) f (at + event_count (in_block t)) ≡ unfold_all ts f (at + event_count t) =
      λ f. items_unfold ts f (at + event_count (in_block t)) ∙ ap (λ n. unfold_all ts f (at + n)) (block_count t) in
      λ z. and_then {Y = Trees × Table} (p z) (λ r. and_then (q r.1 z) (λ s. Ok (item r.0 s.0, s.1)))

  pairs_unfold : (ps : SerialPairs) (e : Table) (at : ℕ) → unfold_pairs (pairs_in_block ps) e at ≡ unfold_pairs ps e at
  pairs_unfold done_serial e at = refl
  pairs_unfold (entry_serial k v ps) e at =
      let b : ℕ = at + event_count k in
      let p : (f : Table) → unfold_node (in_block v) f b ≡ unfold_node v f b = λ f. block_unfold v f b in
      let q : (f : Table) → unfold_pairs (pairs_in_block ps) f (b + event_count (in_block v)) ≡ unfold_pairs ps f (b + event_count v) =
      λ f. pairs_unfold ps f (b + event_count (in_block v)) ∙ ap (λ n. unfold_pairs ps f (b + n)) (block_count v) in
      λ z. and_then {Y = Pairs × Table} (unfold_node k e at) (λ r. and_then (p r.1 z) (λ s. and_then (q s.1 z) (λ u. Ok (entry r.0 s.0 u.0, u.1))))
