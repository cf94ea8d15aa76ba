-- The lines of a node in block style are read as that node.
use Rattle.std.proofs.Common.{◌≡◌, ℕ, zero, suc, ◌+◌, ◌≤◌, ◌⊎◌, true, false, inl, inr, Some, None, List, [], ◌∷◌, ◌++◌, replicate, length, slice_get, refl, sym, ◌∙◌, ap, subst, arith}
use Rattle.std.proofs.lemmas.Bool.{cond_both}
use Rattle.std.specs.Prelude.{bytes_eq}
use Rattle.yaml_definitions.specs.model.Limits.{open_limit, key_limit}
use Rattle.yaml_definitions.specs.model.Tree.{Tree}
use Rattle.yaml_definitions.specs.model.Event.{Event, Anchor, WrittenTag, untagged, non_specific, full, sequence_start, sequence_end, mapping_start, mapping_end}
use Rattle.yaml_definitions.specs.model.Serial.{SerialNode, SerialNodes, SerialPairs, alias_at, scalar_at, sequence_at, mapping_at, end_serial, item_serial, done_serial, entry_serial, flat, flat_all, flat_pairs}
use Rattle.yaml_definitions.specs.model.Tag.{null_tag, bool_tag, int_tag, float_tag}
use Rattle.yaml_definitions.specs.canonical.TagText.{full_text, tag_text}
use Rattle.yaml_definitions.specs.canonical.NodeText.{anchor_text, node_text}
use Rattle.yaml_definitions.specs.canonical.Spell.{serial_of}
use Rattle.yaml_definitions.specs.canonical.Block.{in_block, items_in_block, pairs_in_block, spaces, line, item_lines, pair_lines, blocked_serial, block, block_bytes, blocked, KeysFit, ItemsKeysFit, PairsKeysFit, AllKeysFit}
use Rattle.yaml_definitions.specs.model.Proper.{AreAdmitted}
use Rattle.yaml_definitions.specs.grammar.Rules.{Rule, Any, done, then, run, ◌▸◌, ◌◂◌, ◌∪◌, gives}
use Rattle.yaml_definitions.specs.grammar.Characters.{is_nb, is_break, is_ns, is_white, is_space}
use Rattle.yaml_definitions.specs.grammar.Separation.{Ctx, block_out, block_in, flow_out, flow_in, block_key, flow_key, s-indent as indent, s-separate as separate, s-l-comments as s_l_comments, StartsLine, OneLine, DocumentMark, Unmarked}
use Rattle.yaml_definitions.specs.grammar.Tags.{c-ns-properties as properties}
use Rattle.yaml_definitions.specs.grammar.Events.{Props, no_props}
use Rattle.yaml_definitions.specs.grammar.Nodes.{Part, block_part, s-l+block-node as block_node, l+block-sequence as block_seq, l+block-mapping as block_map, c-l-block-seq-entry as seq_entry, s-l+block-indented as indented, ns-l-block-map-entry as map_entry, ns-s-implicit-yaml-key as implicit_yaml_key, c-s-implicit-json-key as implicit_json_key, seq-space as seq_column, reads}
use Rattle.yaml_definitions.specs.grammar.Reading.{Reads}
use Rattle.yaml_definitions.proofs.TextLaws.{IsAnchor}
use Rattle.yaml_definitions.proofs.BlockTextLaws.{blocks_are_text}
use Rattle.law_read_back.specs.Spellings.{BlocksAreRead}
use Rattle.law_read_back.proofs.PlaceLemmas.{false_true, At, at_get, at_next, at_end, at_same, Pass, run_over, same_at}
use Rattle.law_read_back.proofs.TagReadings.{space_ends}
use Rattle.law_read_back.proofs.FlowReadings.{IsTagged, Spells, AllSpell, PairsSpell, depth, depths, pairs_depth, Node, props_of, some_props, flat_more, all_more, pairs_more, node_read}
use Rattle.law_read_back.proofs.LineLemmas.{Calm, calm_after, calm_run, a_nb, run_on, run_one, one_line, rest_unmarked, both_unmarked, line_starts, spaced_end, apart, parted_by, other_first, dash_first, first_unmarked}
use Rattle.law_read_back.proofs.TextLemmas.{text_over, anchor_nb, anchor_more, tag_nb}
use Rattle.law_read_back.proofs.MarkLemmas.{spells_tree, depth_tree}
use Rattle.law_read_back.proofs.StreamReadings.{flow_line, explicit_read, Documents, stream_read}

-- ---- how a line begins

-- with neither a dash nor a dot
abbrev First : List ℕ → Type 0
First [] = ⊥
First (c ∷ r) = (c ≡ 45 → ⊥) × (c ≡ 46 → ⊥)

full_first : (g r : List ℕ) → First (full_text g ++ r)
unfolding full_text
full_first g r =
    let h : First (33 ∷ []) = (λ e. omega (arith, e), λ e. omega (arith, e)) in
    let P : List ℕ → Type 0 = λ z. First (z ++ r) in
    cond_both (bytes_eq g null_tag) _ _ P (λ e. h) (λ n0.
    cond_both (bytes_eq g bool_tag) _ _ P (λ e. h) (λ n1.
    cond_both (bytes_eq g int_tag) _ _ P (λ e. h) (λ n2.
    cond_both (bytes_eq g float_tag) _ _ P (λ e. h) (λ n3. h))))

node_first : (a : Anchor) (g : WrittenTag) (c : ℕ) (r : List ℕ) → IsTagged g → First (c ∷ []) → First (anchor_text a (tag_text g ++ (c ∷ r)))
node_first None untagged c r t h = h
node_first None non_specific c r t h = absurd t
node_first None (full g) c r t h = full_first g (c ∷ r)
node_first (Some x) g c r t h = (λ e. omega (arith, e), λ e. omega (arith, e))

text_first : (m : SerialNode) (r : List ℕ) → Spells m → First (node_text m r)
unfolding node_text
text_first (alias_at x) r p = (λ e. omega (arith, e), λ e. omega (arith, e))
text_first (scalar_at a g y x) r p = node_first a g 34 _ p.1 (λ e. omega (arith, e), λ e. omega (arith, e))
text_first (sequence_at a g b ts) r p = node_first a g 91 _ p.1 (λ e. omega (arith, e), λ e. omega (arith, e))
text_first (mapping_at a g b ps) r p = node_first a g 123 _ p.1 (λ e. omega (arith, e), λ e. omega (arith, e))

-- ---- spaces

spaces_pass : (n : ℕ) → Pass is_space (replicate n 32)
unfolding is_space
spaces_pass zero = tt
spaces_pass (suc n) = (refl, spaces_pass n)

spaces_nb : (n : ℕ) → Pass is_nb (replicate n 32)
spaces_nb zero = tt
spaces_nb (suc n) = (a_nb 32 (omega arith), spaces_nb n)

spaces_length : (n : ℕ) → length {A = ℕ} (replicate n 32) ≡ n
spaces_length zero = refl
spaces_length (suc n) = ap suc (spaces_length n)

space_ends_entry : is_ns 32 ≡ false
unfolding is_ns is_white is_nb is_break
space_ends_entry = refl

module _ (cs : List ℕ) where
  column_low : (R : Part → Rule (List Event)) (n : ℕ) (c : Ctx) → seq_column cs (Unit {0}) [] (Unit {0}) R n c ≤ n
  column_low R n block_out = omega arith
  column_low R n block_in = omega arith
  column_low R n flow_out = omega arith
  column_low R n flow_in = omega arith
  column_low R n block_key = omega arith
  column_low R n flow_key = omega arith

  text_unmarked : (i : ℕ) (xs : List ℕ) → First xs → At cs i xs → DocumentMark cs i → ⊥
  text_unmarked i [] f a = absurd f
  text_unmarked i (c ∷ xs) f a = other_first cs i c (at_get cs i c xs a) f.0 f.1

  -- spaces, and what follows
  indent_read : (n i : ℕ) (r : List ℕ) → At cs i (spaces n r) → indent cs n i (i + n) × run cs is_nb i (i + n) × At cs (i + n) r
  unfolding indent
  indent_read n i r a =
      let e : i + n ≡ i + length (replicate n 32) = let f = spaces_length n in omega (arith, f) in
      let x = run_over cs is_space (replicate n 32) i (i + n) r (spaces_pass n) a e in
      let y = run_over cs is_nb (replicate n 32) i (i + n) r (spaces_nb n) a e in
      ((x.0, refl), y.0, x.1)

  -- what is read up to the start of a line
  abbrev Lines : Rule (List Event) → ℕ → ℕ → List ℕ → List Event → Type 0
  Lines R start i r es = (j : ℕ) × R i j es × At cs j r × Unmarked cs start j × StartsLine cs j

  -- ---- what stands on the line before a block collection

  abbrev Head : ℕ → Ctx → Rule Props
  Head n c = (gives no_props ∪ (separate cs n c ▸ properties cs [] n c)) ◂ s_l_comments cs

  head_read : (o : Anchor) (g : WrittenTag) (n : ℕ) (c : Ctx) (i : ℕ) (r : List ℕ) → IsAnchor o → IsTagged g → At cs i (32 ∷ anchor_text o (tag_text g ++ (10 ∷ r)))
      → (k : ℕ) × Head n c i k (props_of cs o g) × At cs k r × Unmarked cs (i + 1) k × StartsLine cs k
  head_read o g n c i r s t a =
      let b = at_next cs i 32 (anchor_text o (tag_text g ++ (10 ∷ r))) a in
      let e = at_get cs i 32 (anchor_text o (tag_text g ++ (10 ∷ r))) a in
      let xs : List ℕ = anchor_text o (tag_text g) in
      let m : ℕ = i + 1 + length xs in
      let w = run_over cs is_nb xs (i + 1) m (10 ∷ r) (anchor_nb o (tag_text g) s (tag_nb g t)) (at_same cs (i + 1) (anchor_text o (tag_text g ++ (10 ∷ r))) (xs ++ (10 ∷ r)) (anchor_more o (tag_text g) (10 ∷ r)) b) refl in
      let calm : Calm cs (i + 1) = calm_after cs i 32 e (a_nb 32 (omega arith)) in
      let last = line_starts cs m (calm_run cs (i + 1) m calm w.0) (at_get cs m 10 r w.1) in
      let free = rest_unmarked cs (i + 1) m calm w.0 in
      let after = at_next cs m 10 r w.1 in
      pick e m after free last (some_props cs o g n c (i + 1) (10 ∷ r) s t b)
    where
      pick : slice_get cs i ≡ Some 32 → (m : ℕ) → At cs (m + 1) r → Unmarked cs (i + 1) (m + 1) → StartsLine cs (m + 1)
          → ((props_of cs o g ≡ no_props) × At cs (i + 1) (10 ∷ r)) ⊎ ((j : ℕ) × properties cs [] n c (i + 1) j (props_of cs o g) × At cs j (32 ∷ 10 ∷ r)) → (k : ℕ) × Head n c i k (props_of cs o g) × At cs k r × Unmarked cs (i + 1) k × StartsLine cs k
      pick e m f u l (inl (q, b)) =
          let w : i + 1 + 1 ≡ m + 1 = omega (arith, f.1, b.1) in
          (m + 1, (i, inl (refl, q), subst (s_l_comments cs i) w (spaced_end cs i e (at_get cs (i + 1) 10 r b))), f, u, l)
      pick e m f u l (inr (j, d, b)) =
          let w : j + 1 + 1 ≡ m + 1 = omega (arith, f.1, b.1) in
          (m + 1, (j, inr (i + 1, apart cs n c i e, d), subst (s_l_comments cs j) w (spaced_end cs j (at_get cs j 32 (10 ∷ r) b) (at_get cs (j + 1) 10 r (at_next cs j 32 (10 ∷ r) b)))), f, u, l)

  -- ---- entries

  abbrev Items : ℕ → ℕ → Rule (List Event)
  Items room n = indent cs n ▸ seq_entry cs (Unit {0}) [] (Unit {0}) (reads cs (Unit {0}) [] room) n

  abbrev Entries : ℕ → ℕ → Rule (List Event)
  Entries room n = indent cs n ▸ map_entry cs (Unit {0}) [] (Unit {0}) (reads cs (Unit {0}) [] room) n

  -- a node after a space, wherever it stands
  abbrev ReadsLine : SerialNode → ℕ → ℕ → Type 0
  ReadsLine t room n = (c : Ctx) (i : ℕ) (r : List ℕ) → At cs i (32 ∷ line n t r) → Lines (reads cs (Unit {0}) [] room (block_part n c)) (i + 1) i r (flat t [])

  item_read : (t : SerialNode) (room n i : ℕ) (r : List ℕ) → ReadsLine t room (suc n) → At cs i (spaces n (45 ∷ 32 ∷ line (suc n) t r)) → Lines (Items room n) i i r (flat t [])
  unfolding seq_entry indented
  item_read t room n i r read a =
      let x : List ℕ = line (suc n) t r in
      let b = indent_read n i (45 ∷ 32 ∷ x) a in
      let k : ℕ = i + n in
      let e0 = at_get cs k 45 (32 ∷ x) b.2 in
      let a1 = at_next cs k 45 (32 ∷ x) b.2 in
      let e1 = at_get cs (k + 1) 32 x a1 in
      let d = read block_in (k + 1) r a1 in
      let q : suc n ≡ n + 1 = omega arith in
      let w = subst (λ z. reads cs (Unit {0}) [] room (block_part z block_in) (k + 1) d.0 (flat t [])) q d.1 in
      let over = run_on cs i (k + 1) (k + 1 + 1) (run_on cs i k (k + 1) b.1 (run_one cs k 45 e0 (a_nb 45 (omega arith)))) (run_one cs (k + 1) 32 e1 (a_nb 32 (omega arith))) in (
        d.0,
        (k, b.0, (k + 1, (k + 1, (e0, refl), (refl, λ (c, g, h). false_true (is_ns 32) space_ends_entry (subst (λ z. is_ns z ≡ true) (same_at cs (k + 1) c 32 g e1) h))), inr (inl w))),
        d.2,
        both_unmarked cs i (k + 1 + 1) d.0 (first_unmarked cs i (k + 1 + 1) (start n a) over) d.3,
        d.4,
      )
    where
      start : (n : ℕ) → At cs i (spaces n (45 ∷ 32 ∷ line (suc n) t r)) → DocumentMark cs i → ⊥
      start zero a = dash_first cs i (at_get cs i 45 (32 ∷ line 1 t r) a) (at_get cs (i + 1) 32 (line 1 t r) (at_next cs i 45 (32 ∷ line 1 t r) a))
      start (suc m) a = other_first cs i 32 (at_get cs i 32 (spaces m (45 ∷ 32 ∷ line (suc (suc m)) t r)) a) (λ e. omega (arith, e)) (λ e. omega (arith, e))

  pair_read : (x v : SerialNode) (room n i : ℕ) (r : List ℕ) → Spells x → depth x ≤ room → length (node_text x []) + 1 ≤ key_limit → ReadsLine v room (suc n)
      → At cs i (spaces n (node_text x (32 ∷ 58 ∷ 32 ∷ line (suc n) v r))) → Lines (Entries room n) i i r (flat x (flat v []))
  unfolding map_entry implicit_yaml_key implicit_json_key
  pair_read x v room n i r p l fit read a =
      let y : List ℕ = line (suc n) v r in
      let s : List ℕ = 32 ∷ 58 ∷ 32 ∷ y in
      let b = indent_read n i (node_text x s) a in
      let k : ℕ = i + n in
      let d = node_read cs x room 0 block_key k s p l space_ends b.2 in
      let o = text_over cs x k d.0 s p b.2 d.2 in
      let e0 = at_get cs d.0 32 (58 ∷ 32 ∷ y) d.2 in
      let a1 = at_next cs d.0 32 (58 ∷ 32 ∷ y) d.2 in
      let e1 = at_get cs (d.0 + 1) 58 (32 ∷ y) a1 in
      let a2 = at_next cs (d.0 + 1) 58 (32 ∷ y) a1 in
      let m : ℕ = d.0 + 1 + 1 in
      let e2 = at_get cs m 32 y a2 in
      let w = read block_out m r a2 in
      let q : suc n ≡ n + 1 = omega arith in
      let value = subst (λ z. reads cs (Unit {0}) [] room (block_part z block_out) m w.0 (flat v [])) q w.1 in
      let keyed : run cs is_nb k (d.0 + 1) = run_on cs k d.0 (d.0 + 1) o.1 (run_one cs d.0 32 e0 (a_nb 32 (omega arith))) in
      let sized : d.0 + 1 ≤ k + key_limit = omega (arith, o.0, fit) in
      let over = run_on cs i m (m + 1) (run_on cs i (d.0 + 1) m (run_on cs i k (d.0 + 1) b.1 keyed) (run_one cs (d.0 + 1) 58 e1 (a_nb 58 (omega arith)))) (run_one cs m 32 e2 (a_nb 32 (omega arith))) in
      let es : List Event = flat x [] in (
        w.0,
        (k, b.0, (m, es, flat v [], (d.0 + 1, key k d.0 es (one_line cs k (d.0 + 1) keyed) sized e0 d.1, (e1, refl)), inl value, flat_more x [] (flat v []))),
        w.2,
        both_unmarked cs i (m + 1) w.0 (first_unmarked cs i (m + 1) (start n a) over) w.3,
        w.4,
      )
    where
      key : (k j : ℕ) (es : List Event) → OneLine cs k (j + 1) → j + 1 ≤ k + key_limit → slice_get cs j ≡ Some 32 → Node cs room 0 block_key k j es
          → (implicit_yaml_key cs (Unit {0}) [] (Unit {0}) (reads cs (Unit {0}) [] room) block_key ∪ implicit_json_key cs (Unit {0}) [] (Unit {0}) (reads cs (Unit {0}) [] room) block_key) k (j + 1) es
      key k j es o z e (inl d) = inl ((o, z), (j, d, inr (parted_by cs j e)))
      key k j es o z e (inr d) = inr ((o, z), (j, d, inr (parted_by cs j e)))

      start : (n : ℕ) → At cs i (spaces n (node_text x (32 ∷ 58 ∷ 32 ∷ line (suc n) v r))) → DocumentMark cs i → ⊥
      start zero a = text_unmarked i (node_text x (32 ∷ 58 ∷ 32 ∷ line 1 v r)) (text_first x (32 ∷ 58 ∷ 32 ∷ line 1 v r) p) a
      start (suc m) a = other_first cs i 32 (at_get cs i 32 (spaces m (node_text x (32 ∷ 58 ∷ 32 ∷ line (suc (suc m)) v r))) a) (λ e. omega (arith, e)) (λ e. omega (arith, e))

  -- ---- collections

  as_block_seq : (room n : ℕ) (c : Ctx) (i k m j : ℕ) (o : Anchor) (g : WrittenTag) (es fs : List Event) → Head n c i k (props_of cs o g) → Items room n k m es → Any (Items room n) j m fs
      → reads cs (Unit {0}) [] (suc room) (block_part n c) i j (sequence_start false o g ∷ ((es ++ fs) ++ (sequence_end ∷ [])))
  unfolding reads block_node block_seq
  as_block_seq room n c i k m j o g es fs h d e = inr (inr (k, props_of cs o g, h, inr (tt, (es ++ fs, (n, (column_low (reads cs (Unit {0}) [] room) n c, (m, es, fs, d, e, refl))), refl))))

  as_block_map : (room n : ℕ) (c : Ctx) (i k m j : ℕ) (o : Anchor) (g : WrittenTag) (es fs : List Event) → Head n c i k (props_of cs o g) → Entries room n k m es → Any (Entries room n) j m fs
      → reads cs (Unit {0}) [] (suc room) (block_part n c) i j (mapping_start false o g ∷ ((es ++ fs) ++ (mapping_end ∷ [])))
  unfolding reads block_node block_map
  as_block_map room n c i k m j o g es fs h d e = inr (inr (k, props_of cs o g, h, inl (tt, (es ++ fs, (n, (omega arith, (m, es, fs, d, e, refl))), refl))))

  mutual
    unfolding line in_block flat KeysFit

    pub line_read : (m : SerialNode) (room n : ℕ) (c : Ctx) (i : ℕ) (r : List ℕ) → Spells m → depth m ≤ room → KeysFit (in_block m) → At cs i (32 ∷ line n (in_block m) r)
        → Lines (reads cs (Unit {0}) [] room (block_part n c)) (i + 1) i r (flat (in_block m) [])
    line_read (alias_at x) room n c i r p l f a = flow_line cs (alias_at x) room n c i r p l a
    line_read (scalar_at o g y x) room n c i r p l f a = flow_line cs (scalar_at o g y x) room n c i r p l a
    line_read (sequence_at o g true end_serial) room n c i r p l f a = flow_line cs (sequence_at o g true end_serial) room n c i r p l a
    line_read (sequence_at o g false end_serial) room n c i r p l f a = absurd (cc p.2)
    line_read (mapping_at o g true done_serial) room n c i r p l f a = flow_line cs (mapping_at o g true done_serial) room n c i r p l a
    line_read (mapping_at o g false done_serial) room n c i r p l f a = absurd (cc p.2)
    line_read (sequence_at o g b (item_serial t ts)) zero n c i r p l f a = absurd (omega arith)
    line_read (mapping_at o g b (entry_serial x v ps)) zero n c i r p l f a = absurd (omega arith)
    line_read (sequence_at o g b (item_serial t ts)) (suc room) n c i r p l f a =
        let us : SerialNodes = items_in_block ts in
        let u : SerialNode = in_block t in
        let rest : List ℕ = item_lines n us r in
        let h = head_read o g n c i (spaces n (45 ∷ 32 ∷ line (suc n) u rest)) p.0 p.1 a in
        let d = item_read u room n h.0 rest (λ c k s x. line_read t room (suc n) c k s p.3.0 (omega arith) f.0 x) h.2 in
        let e = items_read ts room n d.0 r p.3.1 (omega arith) f.1 d.4 d.2 in
        let es : List Event = flat u [] in
        let fs : List Event = flat_all us [] in
        let w = as_block_seq room n c i h.0 d.0 e.0 o g es fs h.1 d.1 e.1 in
        let q : flat u (flat_all us (sequence_end ∷ [])) ≡ (es ++ fs) ++ (sequence_end ∷ []) = all_more (item_serial u us) [] (sequence_end ∷ []) ∙ ap (λ z. z ++ (sequence_end ∷ [])) (flat_more u [] fs) in (
          e.0,
          subst (reads cs (Unit {0}) [] (suc room) (block_part n c) i e.0) (λ z. sequence_start false o g ∷ sym q z) w,
          e.2,
          both_unmarked cs (i + 1) h.0 e.0 h.3 (both_unmarked cs h.0 d.0 e.0 d.3 e.3),
          e.4,
        )
    line_read (mapping_at o g b (entry_serial x v ps)) (suc room) n c i r p l f a =
        let qs : SerialPairs = pairs_in_block ps in
        let u : SerialNode = in_block v in
        let rest : List ℕ = pair_lines n qs r in
        let h = head_read o g n c i (spaces n (node_text x (32 ∷ 58 ∷ 32 ∷ line (suc n) u rest))) p.0 p.1 a in
        let d = pair_read x u room n h.0 rest p.3.0 (omega arith) f.0 (λ c k s y. line_read v room (suc n) c k s p.3.1 (omega arith) f.1 y) h.2 in
        let e = pairs_read ps room n d.0 r p.3.2 (omega arith) f.2 d.4 d.2 in
        let es : List Event = flat x (flat u []) in
        let fs : List Event = flat_pairs qs [] in
        let w = as_block_map room n c i h.0 d.0 e.0 o g es fs h.1 d.1 e.1 in
        let q : flat x (flat u (flat_pairs qs (mapping_end ∷ []))) ≡ (es ++ fs) ++ (mapping_end ∷ []) =
        pairs_more (entry_serial x u qs) [] (mapping_end ∷ []) ∙ ap (λ z. z ++ (mapping_end ∷ [])) (ap (flat x) (flat_more u [] fs) ∙ flat_more x (flat u []) fs) in (
          e.0,
          subst (reads cs (Unit {0}) [] (suc room) (block_part n c) i e.0) (λ z. mapping_start false o g ∷ sym q z) w,
          e.2,
          both_unmarked cs (i + 1) h.0 e.0 h.3 (both_unmarked cs h.0 d.0 e.0 d.3 e.3),
          e.4,
        )

    items_read : (ts : SerialNodes) (room n i : ℕ) (r : List ℕ) → AllSpell ts → depths ts ≤ room → ItemsKeysFit (items_in_block ts) → StartsLine cs i → At cs i (item_lines n (items_in_block ts) r)
        → (j : ℕ) × Any (Items room n) j i (flat_all (items_in_block ts) []) × At cs j r × Unmarked cs i j × StartsLine cs j
    items_read end_serial room n i r p l f s a = (i, done refl refl, a, (λ m x y. absurd (let z : ⊥ = omega (arith, x, y) in z)), s)
    items_read (item_serial t ts) room n i r p l f s a =
        let us : SerialNodes = items_in_block ts in
        let u : SerialNode = in_block t in
        let rest : List ℕ = item_lines n us r in
        let d = item_read u room n i rest (λ c k s x. line_read t room (suc n) c k s p.0 (omega arith) f.0 x) a in
        let e = items_read ts room n d.0 r p.1 (omega arith) f.1 d.4 d.2 in
        (e.0, then d.0 (flat u []) (flat_all us []) d.1 e.1 (flat_more u [] (flat_all us [])), e.2, both_unmarked cs i d.0 e.0 d.3 e.3, e.4)

    pairs_read : (ps : SerialPairs) (room n i : ℕ) (r : List ℕ) → PairsSpell ps → pairs_depth ps ≤ room → PairsKeysFit (pairs_in_block ps) → StartsLine cs i → At cs i (pair_lines n (pairs_in_block ps) r)
        → (j : ℕ) × Any (Entries room n) j i (flat_pairs (pairs_in_block ps) []) × At cs j r × Unmarked cs i j × StartsLine cs j
    pairs_read done_serial room n i r p l f s a = (i, done refl refl, a, (λ m x y. absurd (let z : ⊥ = omega (arith, x, y) in z)), s)
    pairs_read (entry_serial x v ps) room n i r p l f s a =
        let qs : SerialPairs = pairs_in_block ps in
        let u : SerialNode = in_block v in
        let rest : List ℕ = pair_lines n qs r in
        let d = pair_read x u room n i rest p.0 (omega arith) f.0 (λ c k s y. line_read v room (suc n) c k s p.1 (omega arith) f.1 y) a in
        let e = pairs_read ps room n d.0 r p.2 (omega arith) f.2 d.4 d.2 in
        (e.0, then d.0 (flat x (flat u [])) (flat_pairs qs []) d.1 e.1 (ap (flat x) (flat_more u [] (flat_pairs qs [])) ∙ flat_more x (flat u []) (flat_pairs qs [])), e.2, both_unmarked cs i d.0 e.0 d.3 e.3, e.4)

  -- ---- the stream

  forest_read : (f : List Tree) (i : ℕ) → AreAdmitted f → AllKeysFit f → StartsLine cs i → At cs i (block f) → Documents cs blocked_serial f i
  unfolding block
  forest_read [] i p k s a = at_end cs i a
  forest_read (t ∷ f) i p k s a =
      let r : List ℕ = line 0 (blocked_serial t) (block f) in
      let a3 = at_next cs (i + 1 + 1) 45 (32 ∷ r) (at_next cs (i + 1) 45 (45 ∷ 32 ∷ r) (at_next cs i 45 (45 ∷ 45 ∷ 32 ∷ r) a)) in
      let d = line_read (serial_of t) open_limit 0 block_in (i + 1 + 1 + 1) (block f) (spells_tree t p.0) (depth_tree t p.0) k.0 a3 in
      (d.0, explicit_read cs i r d.0 (flat (blocked_serial t) []) s a d.1 d.3, forest_read f d.0 p.1 k.1 d.4 d.2)

pub blocks_are_read : BlocksAreRead
unfolding Reads blocked StartsLine block_bytes
blocks_are_read f a h k = let cs : List ℕ = block f in (cs, blocks_are_text f a h, stream_read cs blocked_serial f (forest_read cs f 0 a.trees k (inl refl) (refl, omega arith)))
