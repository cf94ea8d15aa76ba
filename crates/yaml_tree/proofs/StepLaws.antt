-- The composer's steps over a stream's events come to the trees of its documents and of all their nodes.
use Rattle.std.proofs.Common.{◌≡◌, ℕ, suc, ◌+◌, List, [], ◌∷◌, ◌++◌, length, refl, sym, ◌∙◌, ap, arith, append_assoc, append-nil, Result, Ok, Err, add-zero, add-one}
use Rattle.std.specs.Prelude.{Bool, Option, None, Some}
use Rattle.yaml_definitions.specs.model.Tree.{Tree, Trees, Pairs, scalar, sequence, mapping, end, item, done, entry}
use Rattle.yaml_definitions.specs.model.Event.{Event, Anchor, WrittenTag, Style, document_end, stream_end, sequence_end, mapping_end}
use Rattle.yaml_definitions.specs.model.Serial.{SerialNode, SerialNodes, SerialPairs, alias_at, scalar_at, sequence_at, mapping_at, end_serial, item_serial, done_serial, entry_serial, flat, flat_all, flat_pairs, Document, documents_events, stream_events}
use Rattle.yaml_definitions.specs.model.Core.{Cause, Resolved, resolve, collection_tag}
use Rattle.yaml_definitions.specs.model.Unfold.{Outcome, Table, and_then, placed, opened, closed, last_named, tree_named, event_count, unfold_node, unfold_all, unfold_pairs, trees_from, trees_of}
use Rattle.yaml_tree.specs.TreeLists.{trees, pairs}
use Rattle.yaml_tree.specs.Closing.{trees_inside, trees_inside_all, trees_inside_pairs, stream_trees}
use Rattle.yaml_tree.specs.ComposerSteps.{State, initial_state, paired, scalar_added, collection_begun, added, step, on_outcome, steps}

-- ---- counts

abbrev pub count_all : SerialNodes → ℕ
count_all ts = length (flat_all ts [])

abbrev pub count_pairs : SerialPairs → ℕ
count_pairs ps = length (flat_pairs ps [])

mutual
  unfolding flat

  pub count_node : (t : SerialNode) (r : List Event) → length (flat t r) ≡ event_count t + length r
  count_node (alias_at n) r = omega arith
  count_node (scalar_at a g y x) r = omega arith
  count_node (sequence_at a g b ts) r = omega (arith, count_items ts (sequence_end ∷ r), count_items ts (sequence_end ∷ []))
  count_node (mapping_at a g b ps) r = omega (arith, count_entries ps (mapping_end ∷ r), count_entries ps (mapping_end ∷ []))

  pub count_items : (ts : SerialNodes) (r : List Event) → length (flat_all ts r) ≡ count_all ts + length r
  count_items end_serial r = omega arith
  count_items (item_serial t ts) r = omega (arith, count_node t (flat_all ts r), count_items ts r, count_node t (flat_all ts []))

  pub count_entries : (ps : SerialPairs) (r : List Event) → length (flat_pairs ps r) ≡ count_pairs ps + length r
  count_entries done_serial r = omega arith
  count_entries (entry_serial k v ps) r =
      omega (arith, count_node k (flat v (flat_pairs ps r)), count_node v (flat_pairs ps r), count_entries ps r, count_node k (flat v (flat_pairs ps [])), count_node v (flat_pairs ps []))

-- ---- outcomes

told-then : {X Y Z : Type 0} (o : Outcome X) (f : X → Outcome Y) (g : Y → Option (Outcome Z)) → on_outcome (and_then o f) g ≡ on_outcome o (λ x. on_outcome (f x) g)
told-then (Err e) f g = refl
told-then (Ok x) f g = refl

told-same : {X Y : Type 0} (o : Outcome X) (f g : X → Option (Outcome Y)) → ((x : X) → f x ≡ g x) → on_outcome o f ≡ on_outcome o g
told-same (Err e) f g h = refl
told-same (Ok x) f g h = h x

-- ---- lists of trees

abbrev listed : Trees → List Tree
listed end = []
listed (item t ts) = t ∷ listed ts

abbrev in_turn : Pairs → List Tree
in_turn done = []
in_turn (entry k v ps) = k ∷ (v ∷ in_turn ps)

trees-listed : (ts : Trees) → trees (listed ts) ≡ ts
trees-listed end = refl
trees-listed (item t ts) = ap (item t) (trees-listed ts)

pairs-in_turn : (ps : Pairs) → pairs (paired (in_turn ps)) ≡ ps
pairs-in_turn done = refl
pairs-in_turn (entry k v ps) = ap (entry k v) (pairs-in_turn ps)

-- ---- one node

-- more whole nodes, and the trees of those that closed
abbrev with_nodes : State → List Tree → List Tree → Table → State
with_nodes s ts us e = record { inner = s.inner ++ ts; outer = s.outer; table = e; done = s.done ++ us }

-- what stands after a node, some items, some entries
abbrev after_node : SerialNode → ℕ → List Event → State → Tree × Table → Option (Outcome State)
after_node m at more s r = steps at more (with_nodes s (r.0 ∷ []) (trees_inside m r.0) r.1)

abbrev after_all : SerialNodes → ℕ → List Event → State → Trees × Table → Option (Outcome State)
after_all ts at more s r = steps at more (with_nodes s (listed r.0) (trees_inside_all ts r.0) r.1)

abbrev after_pairs : SerialPairs → ℕ → List Event → State → Pairs × Table → Option (Outcome State)
after_pairs ps at more s r = steps at more (with_nodes s (in_turn r.0) (trees_inside_pairs ps r.0) r.1)

run_alias : (name : List ℕ) (at : ℕ) (more : List Event) (s : State) (r : Result Tree Cause) →
    on_outcome (and_then (placed at r) (added s)) (steps (suc at) more) ≡ on_outcome (and_then (placed at r) (λ t. Ok (t, s.table))) (after_node (alias_at name) (at + 1) more s)
unfolding trees_inside
run_alias name at more s (Err e) = refl
run_alias name at more s (Ok t) = λ z. steps (sym (add-one at) z) more (record { inner = s.inner ++ (t ∷ []); outer = s.outer; table = s.table; done = sym (append-nil s.done) z })

-- a collection is whole after these nodes
closes : (n m : ℕ) (more : List Event) (s : State) (a : Anchor) (slot : ℕ) (e : Table) (us : List Tree) (t u : Tree) → n ≡ m → t ≡ u →
    steps n more (record { inner = s.inner ++ (t ∷ []); outer = s.outer; table = closed a slot t e; done = (s.done ++ us) ++ (t ∷ []) }) ≡ steps m more (with_nodes s (u ∷ []) (us ++ (u ∷ [])) (closed a slot u e))
closes n m more s a slot e us t u q h = λ z. steps (q z) more (record { inner = s.inner ++ (h z ∷ []); outer = s.outer; table = closed a slot (h z) e; done = append_assoc s.done us (h z ∷ []) z })

-- a sequence's end, a mapping's end
ends_sequence : (n m : ℕ) (more : List Event) (a : Anchor) (g : WrittenTag) (h : List ℕ) (b : Bool) (ts : SerialNodes) (s : State) (r : Trees × Table) → suc n ≡ m →
    after_all ts n (sequence_end ∷ more) (collection_begun a s h) r ≡ after_node (sequence_at a g b ts) m more s (sequence h r.0, closed a (length s.table) (sequence h r.0) r.1)
unfolding steps step trees_inside
ends_sequence n m more a g h b ts s r e = closes (suc n) m more s a (length s.table) r.1 (trees_inside_all ts r.0) _ _ e (ap (sequence h) (trees-listed r.0))

ends_mapping : (n m : ℕ) (more : List Event) (a : Anchor) (g : WrittenTag) (h : List ℕ) (b : Bool) (ps : SerialPairs) (s : State) (r : Pairs × Table) → suc n ≡ m →
    after_pairs ps n (mapping_end ∷ more) (collection_begun a s h) r ≡ after_node (mapping_at a g b ps) m more s (mapping h r.0, closed a (length s.table) (mapping h r.0) r.1)
unfolding steps step trees_inside
ends_mapping n m more a g h b ps s r e = closes (suc n) m more s a (length s.table) r.1 (trees_inside_pairs ps r.0) _ _ e (ap (mapping h) (pairs-in_turn r.0))

-- no more, and one more
none_more : (at : ℕ) (more : List Event) (s : State) → steps at more s ≡ steps (at + 0) more (with_nodes s [] [] s.table)
none_more at more s = λ z. steps (sym (add-zero at) z) more (record { inner = sym (append-nil s.inner) z; outer = s.outer; table = s.table; done = sym (append-nil s.done) z })

item_more : (n m : ℕ) (more : List Event) (s : State) (k : SerialNode) (ts : SerialNodes) (t : Tree) (e : Table) (r : Trees × Table) → n ≡ m →
    after_all ts n more (with_nodes s (t ∷ []) (trees_inside k t) e) r ≡ after_all (item_serial k ts) m more s (item t r.0, r.1)
unfolding trees_inside
item_more n m more s k ts t e r q =
    λ z. steps (q z) more (record { inner = append_assoc s.inner (t ∷ []) (listed r.0) z; outer = s.outer; table = r.1; done = append_assoc s.done (trees_inside k t) (trees_inside_all ts r.0) z })

entry_more : (n m : ℕ) (more : List Event) (s : State) (i j : SerialNode) (ps : SerialPairs) (k v : Tree) (d e : Table) (r : Pairs × Table) → n ≡ m →
    after_pairs ps n more (with_nodes (with_nodes s (k ∷ []) (trees_inside i k) d) (v ∷ []) (trees_inside j v) e) r ≡ after_pairs (entry_serial i j ps) m more s (entry k v r.0, r.1)
unfolding trees_inside
entry_more n m more s i j ps k v d e r q =
    let xs = trees_inside i k in
    let ys = trees_inside j v in
    let zs = trees_inside_pairs ps r.0 in
    let nodes : (s.inner ++ (k ∷ [])) ++ (v ∷ []) ++ in_turn r.0 ≡ s.inner ++ (k ∷ (v ∷ in_turn r.0)) = simp append_assoc in
    let closing : ((s.done ++ xs) ++ ys) ++ zs ≡ s.done ++ (xs ++ (ys ++ zs)) = append_assoc (s.done ++ xs) ys zs ∙ append_assoc s.done xs (ys ++ zs) in
    λ z. steps (q z) more (record { inner = nodes z; outer = s.outer; table = r.1; done = closing z })

-- a collection's tag first, and then what follows for each tag
tagged : (o : Outcome (List ℕ)) (s : State) (a : Anchor) (inside : List ℕ → Outcome (Tree × Table)) (more : State → Option (Outcome State)) (after : Tree × Table → Option (Outcome State)) →
    ((h : List ℕ) → more (collection_begun a s h) ≡ on_outcome (inside h) after) → on_outcome (and_then o (λ h. Ok (collection_begun a s h))) more ≡ on_outcome (and_then o inside) after
tagged (Err e) s a inside more after k = refl
tagged (Ok h) s a inside more after k = k h

run_scalar : (a : Anchor) (g : WrittenTag) (y : Style) (x : List ℕ) (at : ℕ) (more : List Event) (s : State) (r : Resolved) →
    on_outcome (and_then (placed at r) (scalar_added a s)) (steps (suc at) more)
    ≡ on_outcome (and_then (placed at r) (λ r. Ok (scalar r.0 r.1, closed a (length s.table) (scalar r.0 r.1) (opened a s.table)))) (after_node (scalar_at a g y x) (at + 1) more s)
unfolding trees_inside
run_scalar a g y x at more s (Err e) = refl
run_scalar a g y x at more s (Ok r) = rw add-one refl

mutual
  unfolding flat step steps unfold_node trees_inside

  run-node : (m : SerialNode) → (at : ℕ) (more : List Event) (s : State) → steps at (flat m more) s ≡ on_outcome (unfold_node m s.table at) (after_node m (at + event_count m) more s)
  run-node (alias_at name) at more s = run_alias name at more s (tree_named (last_named name s.table))
  run-node (scalar_at a g y x) at more s = run_scalar a g y x at more s (resolve g y x)
  run-node (sequence_at a g b ts) at more s =
      let o = unfold_all ts (opened a s.table) (suc at) in
      let m = sequence_at a g b ts in
      let n = at + event_count m in
      let last : List ℕ → Trees × Table → Outcome (Tree × Table) = λ h r. Ok (sequence h r.0, closed a (length s.table) (sequence h r.0) r.1) in
      let e : suc (suc at + count_all ts) ≡ n = omega (arith, count_items ts (sequence_end ∷ [])) in
      tagged (placed at (collection_tag 1 g)) s a (λ h. and_then o (last h)) (steps (suc at) (flat_all ts (sequence_end ∷ more))) (after_node m n more s)
      (λ h. run-all ts (suc at) (sequence_end ∷ more) (collection_begun a s h)
      ∙ (told-same o (after_all ts (suc at + count_all ts) (sequence_end ∷ more) (collection_begun a s h)) (λ r. on_outcome (last h r) (after_node m n more s)) (λ r. ends_sequence (suc at + count_all ts) n more a g h b ts s r e)
      ∙ sym (told-then o (last h) (after_node m n more s))))
  run-node (mapping_at a g b ps) at more s =
      let o = unfold_pairs ps (opened a s.table) (suc at) in
      let m = mapping_at a g b ps in
      let n = at + event_count m in
      let last : List ℕ → Pairs × Table → Outcome (Tree × Table) = λ h r. Ok (mapping h r.0, closed a (length s.table) (mapping h r.0) r.1) in
      let e : suc (suc at + count_pairs ps) ≡ n = omega (arith, count_entries ps (mapping_end ∷ [])) in
      tagged (placed at (collection_tag 2 g)) s a (λ h. and_then o (last h)) (steps (suc at) (flat_pairs ps (mapping_end ∷ more))) (after_node m n more s)
      (λ h. run-pairs ps (suc at) (mapping_end ∷ more) (collection_begun a s h)
      ∙ (told-same o (after_pairs ps (suc at + count_pairs ps) (mapping_end ∷ more) (collection_begun a s h)) (λ r. on_outcome (last h r) (after_node m n more s)) (λ r. ends_mapping (suc at + count_pairs ps) n more a g h b ps s r e)
      ∙ sym (told-then o (last h) (after_node m n more s))))

  run-all : (ts : SerialNodes) → (at : ℕ) (more : List Event) (s : State) → steps at (flat_all ts more) s ≡ on_outcome (unfold_all ts s.table at) (after_all ts (at + count_all ts) more s)
  run-all end_serial at more s = none_more at more s
  run-all (item_serial t ts) at more s =
      let b = at + event_count t in
      let n = at + count_all (item_serial t ts) in
      let rest : Tree × Table → Trees × Table → Outcome (Trees × Table) = λ r q. Ok (item r.0 q.0, q.1) in
      let both : Tree × Table → Outcome (Trees × Table) = λ r. and_then (unfold_all ts r.1 b) (rest r) in
      let e : b + count_all ts ≡ n = omega (arith, count_node t (flat_all ts [])) in
      let first : Tree × Table → State = λ r. with_nodes s (r.0 ∷ []) (trees_inside t r.0) r.1 in
      let after = after_all (item_serial t ts) n more s in
      run-node t at (flat_all ts more) s
      ∙ (told-same (unfold_node t s.table at) (after_node t b (flat_all ts more) s) (λ r. on_outcome (both r) after)
      (λ r. run-all ts b more (first r)
      ∙ (told-same (unfold_all ts r.1 b) (after_all ts (b + count_all ts) more (first r)) (λ q. on_outcome (rest r q) after) (λ q. item_more (b + count_all ts) n more s t ts r.0 r.1 q e)
      ∙ sym (told-then (unfold_all ts r.1 b) (rest r) after)))
      ∙ sym (told-then (unfold_node t s.table at) both after))

  run-pairs : (ps : SerialPairs) → (at : ℕ) (more : List Event) (s : State) → steps at (flat_pairs ps more) s ≡ on_outcome (unfold_pairs ps s.table at) (after_pairs ps (at + count_pairs ps) more s)
  run-pairs done_serial at more s = none_more at more s
  run-pairs (entry_serial k v ps) at more s =
      let b = at + event_count k in
      let c = b + event_count v in
      let n = at + count_pairs (entry_serial k v ps) in
      let rest : Tree × Table → Tree × Table → Pairs × Table → Outcome (Pairs × Table) = λ r p q. Ok (entry r.0 p.0 q.0, q.1) in
      let two : Tree × Table → Tree × Table → Outcome (Pairs × Table) = λ r p. and_then (unfold_pairs ps p.1 c) (rest r p) in
      let three : Tree × Table → Outcome (Pairs × Table) = λ r. and_then (unfold_node v r.1 b) (two r) in
      let e : c + count_pairs ps ≡ n = omega (arith, count_node k (flat v (flat_pairs ps [])), count_node v (flat_pairs ps [])) in
      let first : Tree × Table → State = λ r. with_nodes s (r.0 ∷ []) (trees_inside k r.0) r.1 in
      let second : Tree × Table → Tree × Table → State = λ r p. with_nodes (first r) (p.0 ∷ []) (trees_inside v p.0) p.1 in
      let after = after_pairs (entry_serial k v ps) n more s in
      run-node k at (flat v (flat_pairs ps more)) s
      ∙ (told-same (unfold_node k s.table at) (after_node k b (flat v (flat_pairs ps more)) s) (λ r. on_outcome (three r) after)
      (λ r. run-node v b (flat_pairs ps more) (first r)
      ∙ (told-same (unfold_node v r.1 b) (after_node v c (flat_pairs ps more) (first r)) (λ p. on_outcome (two r p) after)
      (λ p. run-pairs ps c more (second r p)
      ∙ (told-same (unfold_pairs ps p.1 c) (after_pairs ps (c + count_pairs ps) more (second r p)) (λ q. on_outcome (rest r p q) after) (λ q. entry_more (c + count_pairs ps) n more s k v ps r.0 p.0 r.1 p.1 q e)
      ∙ sym (told-then (unfold_pairs ps p.1 c) (rest r p) after)))
      ∙ sym (told-then (unfold_node v r.1 b) (two r) after)))
      ∙ sym (told-then (unfold_node k s.table at) three after))

-- ---- whole streams

-- the roots that stand at last, and the trees of all nodes
abbrev pub comes_to : Option (Outcome State) → Option (Outcome (List Tree × List Tree))
comes_to None = None
comes_to (Some (Err e)) = Some (Err e)
comes_to (Some (Ok s)) = Some (Ok (s.inner, s.done))

-- after these, the documents' trees, and those of all their own nodes
abbrev pub with_all : (roots all : List Tree) → List Document → List Tree → Outcome (List Tree × List Tree)
with_all roots all ds f = Ok (roots ++ f, all ++ stream_trees ds f)

comes_told : {X : Type 0} (o : Outcome X) (f : X → Option (Outcome State)) (g : X → Outcome (List Tree × List Tree)) → ((x : X) → comes_to (f x) ≡ Some (g x)) → comes_to (on_outcome o f) ≡ Some (and_then o g)
comes_told (Err e) f g h = refl
comes_told (Ok x) f g h = h x

-- the first document's trees stand before those of the rest
added-later : (d : Document) (ds : List Document) (o : Outcome (List Tree)) (xs us : List Tree) (t : Tree) →
    and_then o (with_all (xs ++ (t ∷ [])) (us ++ trees_inside d.root t) ds) ≡ and_then (and_then o (λ f. Ok (t ∷ f))) (with_all xs us (d ∷ ds))
unfolding stream_trees
added-later d ds (Err e) xs us t = refl
added-later d ds (Ok f) xs us t = λ z. Ok (append_assoc xs (t ∷ []) f z, append_assoc us (trees_inside d.root t) (stream_trees ds f) z)

then-then : {X Y Z : Type 0} (o : Outcome X) (f : X → Outcome Y) (g : Y → Outcome Z) → and_then (and_then o f) g ≡ and_then o (λ x. and_then (f x) g)
then-then (Err e) f g = refl
then-then (Ok x) f g = refl

-- the steps over documents where no collection is open
pub run-documents : (ds : List Document) (at : ℕ) (roots : List Tree) (e : Table) (all : List Tree) →
    comes_to (steps at (documents_events ds (stream_end ∷ [])) (record { inner = roots; outer = []; table = e; done = all })) ≡ Some (and_then (trees_from at ds) (with_all roots all ds))
unfolding steps step trees_from stream_trees
run-documents [] at roots e all = λ z. Some (Ok (sym (append-nil roots) z, sym (append-nil all) z))
run-documents (d ∷ ds) at roots e all =
    let b = suc at + event_count d.root in
    let q : suc b ≡ suc (suc (at + event_count d.root)) = omega arith in
    let cleared : State = record { inner = roots; outer = []; table = []; done = all } in
    let more = document_end d.ends ∷ documents_events ds (stream_end ∷ []) in
    let n = suc (suc (at + event_count d.root)) in
    let rest : Tree × Table → Outcome (List Tree) = λ r. and_then (trees_from n ds) (λ f. Ok (r.0 ∷ f)) in
    let last = with_all roots all (d ∷ ds) in
    let first : Tree × Table → State = λ r. with_nodes cleared (r.0 ∷ []) (trees_inside d.root r.0) r.1 in
    ap comes_to (run-node d.root (suc at) more cleared)
    ∙ (comes_told (unfold_node d.root [] (suc at)) (after_node d.root b more cleared) (λ r. and_then (rest r) last)
    (λ r. ap (λ m. comes_to (steps m (documents_events ds (stream_end ∷ [])) (first r))) q
    ∙ (run-documents ds n (roots ++ (r.0 ∷ [])) r.1 (all ++ trees_inside d.root r.0) ∙ ap Some (added-later d ds (trees_from n ds) roots all r.0)))
    ∙ ap Some (sym (then-then (unfold_node d.root [] (suc at)) rest last)))

-- the steps over a stream come to its documents' trees and those of all nodes, or to the first refusal
pub run-stream : (ds : List Document) → comes_to (steps 0 (stream_events ds) initial_state) ≡ Some (and_then (trees_of ds) (with_all [] [] ds))
unfolding steps step stream_events
run-stream ds = run-documents ds 1 [] [] []
