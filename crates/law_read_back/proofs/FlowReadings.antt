-- A node's text in flow style is read as that node.
use Rattle.std.proofs.Common.{◌≡◌, ℕ, zero, suc, max, ◌+◌, ◌<◌, ◌≤◌, ◌⊎◌, true, false, inl, inr, Some, None, List, [], ◌∷◌, ◌++◌, length, map, slice_get, chars, IsAscii, refl, sym, ◌∙◌, ap, subst, arith, append_assoc}
use Rattle.std.proofs.lemmas.Bool.Decides.{nat_tests}
use Rattle.std.proofs.lemmas.Int.Digits.{all_below_base_digits_of}
use Rattle.std.proofs.lemmas.Str.{encodes-chars, IsUtf8-from_is_utf8, IsUtf8-from_ascii}
use Rattle.std.specs.Prelude.{IsUtf8, encode_utf8_all}
use Rattle.std.specs.Str.{is_utf8}
use Rattle.std.specs.Int.Digits.{digits_of, AllBelowBase}
use Rattle.yaml_definitions.specs.model.Event.{Event, Anchor, WrittenTag, untagged, non_specific, full, double as double_quoted, sequence_start, sequence_end, mapping_start, mapping_end, scalar_event, alias_event}
use Rattle.yaml_definitions.specs.canonical.Serialize.{anchor_name}
use Rattle.yaml_definitions.specs.model.Serial.{SerialNode, SerialNodes, SerialPairs, alias_at, scalar_at, sequence_at, mapping_at, end_serial, item_serial, done_serial, entry_serial, flat, flat_all, flat_pairs}
use Rattle.yaml_definitions.specs.model.Tag.{IsTag}
use Rattle.yaml_definitions.specs.canonical.TagText.{tag_text, full_text}
use Rattle.yaml_definitions.specs.canonical.NodeText.{anchor_text, quoted, node_text, items_text, pairs_text}
use Rattle.yaml_definitions.specs.grammar.Rules.{Rule, done, then, chr, Stands, ◌◆◌, ◌◂◌, ◌⨾◌, ◌∪◌, any, optional, maybe, seen, gives}
use Rattle.yaml_definitions.specs.grammar.Characters.{is_break, is_nb, is_ns, is_white, is_flow_indicator}
use Rattle.yaml_definitions.specs.grammar.Separation.{Ctx, inner, s-separate as separate}
use Rattle.yaml_definitions.specs.grammar.Tags as tags
use Rattle.yaml_definitions.specs.grammar.Tags.{is_name, ns-anchor-name as name, c-ns-properties as properties}
use Rattle.yaml_definitions.specs.grammar.FlowScalars.{plain_safe, c-double-quoted as double}
use Rattle.yaml_definitions.specs.grammar.Events.{Props, no_props, scalar}
use Rattle.yaml_definitions.specs.grammar.Nodes.{pair_part, yaml_part, json_part, ns-flow-yaml-node as yaml_node, c-flow-json-node as json_node, c-flow-sequence as flow_seq, c-flow-mapping as flow_map, ns-flow-map-entry as entry_of, ns-flow-map-implicit-entry as implicit_entry, ns-flow-map-yaml-key-entry as yaml_key_entry, c-ns-flow-map-json-key-entry as json_key_entry, c-ns-flow-map-separate-value as value, c-ns-flow-map-adjacent-value as adjacent, reads}
use Rattle.yaml_definitions.proofs.TextLaws.{IsName, IsAnchor, name_chars}
use Rattle.law_read_back.proofs.PlaceLemmas.{false_true, At, at_get, at_next, at_slice, Pass, run_over, same_at}
use Rattle.law_read_back.proofs.LineLemmas.{apart}
use Rattle.law_read_back.proofs.QuotedReadings.{double_read}
use Rattle.law_read_back.proofs.TagReadings.{space_ends, name_ends, tag_read}

-- ---- what is read: marks of canonical text, whose tags are tags

abbrev pub IsTagged : WrittenTag → Type 0
IsTagged untagged = Unit {0}
IsTagged non_specific = ⊥
IsTagged (full g) = IsTag g

abbrev mutual
  pub Spells : SerialNode → Type 0
  Spells (alias_at n) = IsName n
  Spells (scalar_at a g y x) = IsAnchor a × IsTagged g × (y ≡ double_quoted) × (is_utf8 x ≡ true)
  Spells (sequence_at a g b ts) = IsAnchor a × IsTagged g × (b ≡ true) × AllSpell ts
  Spells (mapping_at a g b ps) = IsAnchor a × IsTagged g × (b ≡ true) × PairsSpell ps

  pub AllSpell : SerialNodes → Type 0
  AllSpell end_serial = Unit {0}
  AllSpell (item_serial t ts) = Spells t × AllSpell ts

  pub PairsSpell : SerialPairs → Type 0
  PairsSpell done_serial = Unit {0}
  PairsSpell (entry_serial k v ps) = Spells k × Spells v × PairsSpell ps

-- how many collections are open at most
abbrev mutual
  pub depth : SerialNode → ℕ
  depth (alias_at n) = 0
  depth (scalar_at a g y x) = 0
  depth (sequence_at a g b ts) = suc (depths ts)
  depth (mapping_at a g b ps) = suc (pairs_depth ps)

  pub depths : SerialNodes → ℕ
  depths end_serial = 0
  depths (item_serial t ts) = max (depth t) (depths ts)

  pub pairs_depth : SerialPairs → ℕ
  pairs_depth done_serial = 0
  pairs_depth (entry_serial k v ps) = max (max (depth k) (depth v)) (pairs_depth ps)

-- the events of nodes, one after another
mutual
  unfolding flat

  pub flat_more : (t : SerialNode) (r s : List Event) → flat t (r ++ s) ≡ flat t r ++ s
  flat_more (alias_at n) r s = refl
  flat_more (scalar_at a g y x) r s = refl
  flat_more (sequence_at a g b ts) r s = ap (λ z. sequence_start b a g ∷ z) (all_more ts (sequence_end ∷ r) s)
  flat_more (mapping_at a g b ps) r s = ap (λ z. mapping_start b a g ∷ z) (pairs_more ps (mapping_end ∷ r) s)

  pub all_more : (ts : SerialNodes) (r s : List Event) → flat_all ts (r ++ s) ≡ flat_all ts r ++ s
  all_more end_serial r s = refl
  all_more (item_serial t ts) r s = ap (flat t) (all_more ts r s) ∙ flat_more t (flat_all ts r) s

  pub pairs_more : (ps : SerialPairs) (r s : List Event) → flat_pairs ps (r ++ s) ≡ flat_pairs ps r ++ s
  pairs_more done_serial r s = refl
  pairs_more (entry_serial k v ps) r s = ap (λ z. flat k (flat v z)) (pairs_more ps r s) ∙ (ap (flat k) (flat_more v (flat_pairs ps r) s) ∙ flat_more k (flat v (flat_pairs ps r)) s)

-- ---- names

-- this does not go on with a name, and is not nothing
abbrev pub Stops : List ℕ → Type 0
Stops [] = ⊥
Stops (c ∷ r) = is_name c ≡ false

pub feed_stops : is_name 10 ≡ false
unfolding is_name is_flow_indicator is_ns is_nb is_break is_white
feed_stops = refl

comma_stops : is_name 44 ≡ false
unfolding is_name is_flow_indicator is_ns is_nb is_break is_white
comma_stops = refl

bracket_stops : is_name 93 ≡ false
unfolding is_name is_flow_indicator is_ns is_nb is_break is_white
bracket_stops = refl

brace_stops : is_name 125 ≡ false
unfolding is_name is_flow_indicator is_ns is_nb is_break is_white
brace_stops = refl

space_unsafe : (c : Ctx) → plain_safe c 32 ≡ false
unfolding plain_safe is_ns is_white is_nb is_break
space_unsafe c = refl

-- a name's characters
abbrev AreNames : List ℕ → Type 0
AreNames [] = Unit {0}
AreNames (c ∷ cs) = (c < 128) × (is_name c ≡ true) × AreNames cs

digit_names : (d : ℕ) → d < 10 → is_name (48 + d) ≡ true
unfolding is_name is_flow_indicator is_ns is_nb is_break is_white
digit_names d h = grind (arith, nat_tests)

digits_names : (ds : List ℕ) → AllBelowBase 10 ds → AreNames (map (λ d. 48 + d) ds)
digits_names [] h = tt
digits_names (d ∷ ds) h = let l = h.0 in (omega arith, digit_names d l, digits_names ds h.1)

name_names : (n : ℕ) → (0 < length (anchor_name n)) × AreNames (anchor_name n)
unfolding anchor_name is_name is_flow_indicator is_ns is_nb is_break is_white
name_names n = (omega arith, (omega arith, refl, digits_names (digits_of 10 n) (all_below_base_digits_of 10 n (omega arith))))

names_ascii : (xs : List ℕ) → AreNames xs → IsAscii xs
names_ascii [] n i = omega arith
names_ascii (x ∷ xs) n zero = n.0
names_ascii (x ∷ xs) n (suc i) = names_ascii xs n.2 i

names_pass : (xs : List ℕ) → AreNames xs → Pass is_name xs
names_pass [] n = tt
names_pass (x ∷ xs) n = (n.1, names_pass xs n.2)

chars_names : (x : List ℕ) → IsName x → (0 < length (chars x)) × Pass is_name (chars x)
chars_names x n = subst (λ z. (0 < length z) × Pass is_name z) (sym (ap chars n.1 ∙ name_chars n.0)) ((name_names n.0).0, names_pass (anchor_name n.0) (name_names n.0).1)

name_bytes : (x : List ℕ) → IsName x → encode_utf8_all (chars x) ≡ x
name_bytes x n = encodes-chars x (subst IsUtf8 (sym n.1) (IsUtf8-from_ascii (anchor_name n.0) (names_ascii (anchor_name n.0) (name_names n.0).1)))

module _ (cs : List ℕ) where
  -- ---- names, properties, scalars

  name_read : (x : List ℕ) (i : ℕ) (r : List ℕ) → IsName x → Stops r → At cs i (chars x ++ r) → (j : ℕ) × name cs i j (chars x) × At cs j r
  unfolding name
  name_read x i [] n s a = absurd s
  name_read x i (c ∷ r) n s a =
      let j : ℕ = i + length (chars x) in
      let w = chars_names x n in
      let h = run_over cs is_name (chars x) i j (c ∷ r) w.1 a refl in
      (j, ((h.0, omega (arith, w.0), name_ends cs j c r s h.1), sym (at_slice cs i j (chars x) (c ∷ r) a refl)), h.1)

  pub alias_read : (x : List ℕ) (i : ℕ) (r : List ℕ) → IsName x → Stops r → At cs i (42 ∷ (chars x ++ r)) → (j : ℕ) × seen (λ x. alias_event (encode_utf8_all x) ∷ []) (tags.c-ns-alias-node cs) i j (alias_event x ∷ []) × At cs j r
  unfolding tags.c-ns-alias-node
  alias_read x i r n s a =
      let d = name_read x (i + 1) r n s (at_next cs i 42 (chars x ++ r) a) in
      (d.0, (chars x, (i + 1, (at_get cs i 42 (chars x ++ r) a, refl), d.1), ap (λ z. alias_event z ∷ []) (sym (name_bytes x n))), d.2)

  abbrev pub props_of : Anchor → WrittenTag → Props
  props_of o g = record { anchor = o; tag = g }

  -- the properties before a node, of which there is one at least, but for the space after them
  pub some_props : (o : Anchor) (g : WrittenTag) (n : ℕ) (c : Ctx) (i : ℕ) (r : List ℕ) → IsAnchor o → IsTagged g → At cs i (anchor_text o (tag_text g ++ r))
      → ((props_of o g ≡ no_props) × At cs i r) ⊎ ((j : ℕ) × properties cs [] n c i j (props_of o g) × At cs j (32 ∷ r))
  unfolding properties tags.c-ns-anchor-property
  some_props None untagged n c i r s t a = inl (refl, a)
  some_props None non_specific n c i r s t a = absurd t
  some_props None (full g) n c i r s t a =
      let d = tag_read cs g i r t a in
      inr (d.0, inl (d.0, full g, d.1, inl (refl, refl)), d.2)
  some_props (Some x) non_specific n c i r s t a = absurd t
  some_props (Some x) untagged n c i r s t a =
      let b = at_next cs i 38 (chars x ++ (32 ∷ r)) a in
      let d = name_read x (i + 1) (32 ∷ r) s space_ends b in
      inr (d.0, inr (d.0, chars x, (i + 1, (at_get cs i 38 (chars x ++ (32 ∷ r)) a, refl), d.1), inl (refl, λ z. props_of (Some (sym (name_bytes x s) z)) untagged)), d.2)
  some_props (Some x) (full g) n c i r s t a =
      let u : List ℕ = full_text g ++ r in
      let b = at_next cs i 38 (chars x ++ (32 ∷ u)) a in
      let d = name_read x (i + 1) (32 ∷ u) s space_ends b in
      let e = tag_read cs g (d.0 + 1) r t (at_next cs d.0 32 u d.2) in
      inr (
        e.0,
        inr (
          d.0,
          chars x,
          (i + 1, (at_get cs i 38 (chars x ++ (32 ∷ u)) a, refl), d.1),
          inr (d.0 + 1, apart cs n c d.0 (at_get cs d.0 32 u d.2), (full g, e.1, λ z. props_of (Some (sym (name_bytes x s) z)) (full g))),
        ),
        e.2,
      )

  -- the properties of a node and what parts them from it, or none
  pub props_read : (o : Anchor) (g : WrittenTag) (n : ℕ) (c : Ctx) (i : ℕ) (r : List ℕ) → IsAnchor o → IsTagged g → At cs i (anchor_text o (tag_text g ++ r))
      → (j : ℕ) × (gives no_props ∪ (properties cs [] n c ◂ separate cs n c)) i j (props_of o g) × At cs j r
  props_read o g n c i r s t a = pick (some_props o g n c i r s t a)
    where
      pick : ((props_of o g ≡ no_props) × At cs i r) ⊎ ((j : ℕ) × properties cs [] n c i j (props_of o g) × At cs j (32 ∷ r))
          → (j : ℕ) × (gives no_props ∪ (properties cs [] n c ◂ separate cs n c)) i j (props_of o g) × At cs j r
      pick (inl (e, b)) = (i, inl (refl, e), b)
      pick (inr (j, p, b)) = (j + 1, inr (j, p, apart cs n c j (at_get cs j 32 r b)), at_next cs j 32 r b)

  -- ---- the parts of a collection

  abbrev parts : ℕ → ℕ → Ctx → Rule (List Event) → Rule (List Event)
  parts close n c R = (any ((R ◂ maybe (separate cs n c)) ◂ (chr cs 44 ◆ maybe (separate cs n c))) ⨾ optional (R ◂ maybe (separate cs n c))) ◂ chr cs close

  module _ (close n : ℕ) (c : Ctx) (R : Rule (List Event)) where
    no_part : (i : ℕ) → slice_get cs i ≡ Some close → parts close n c R i (i + 1) []
    no_part i g = (i, (i, [], [], done refl refl, inl (refl, refl), refl), (g, refl))

    last_part : (i k : ℕ) (es : List Event) → R i k es → slice_get cs k ≡ Some close → parts close n c R i (k + 1) es
    last_part i k es d g = (k, (i, [], es, done refl refl, inr (k, d, inl refl), refl), (g, refl))

    one_more : (i k j : ℕ) (es fs : List Event) → R i k es → slice_get cs k ≡ Some 44 → slice_get cs (k + 1) ≡ Some 32 → parts close n c R (k + 1 + 1) j fs
        → parts close n c R i j (es ++ fs)
    one_more i k j es fs d g h (m, (q, ys, zs, more, last, e), f) =
        (m, (q, es ++ ys, zs, then (k + 1 + 1) es ys (k, (k, d, inl refl), (k + 1, (g, refl), inr (apart cs n c (k + 1) h))) more refl, last, ap (λ z. es ++ z) e ∙ sym (append_assoc es ys zs)), f)

  -- a node where so many collections may be open
  abbrev pub Node : ℕ → ℕ → Ctx → Rule (List Event)
  Node room n c = reads cs (Unit {0}) [] room (yaml_part n c) ∪ reads cs (Unit {0}) [] room (json_part n c)

  abbrev items_of : ℕ → ℕ → Ctx → Rule (List Event)
  items_of room n c = reads cs (Unit {0}) [] room (pair_part n c) ∪ Node room n c

  abbrev entries_of : ℕ → ℕ → Ctx → Rule (List Event)
  entries_of room n c = entry_of cs (Unit {0}) [] (Unit {0}) (reads cs (Unit {0}) [] room) n c

  unsafe : (c : Ctx) (i : ℕ) → slice_get cs i ≡ Some 32 → Stands cs (plain_safe c) i → ⊥
  unsafe c i e (d, g, h) = false_true (plain_safe c 32) (space_unsafe c) (subst (λ z. plain_safe c z ≡ true) (same_at cs i d 32 g e) h)

  -- a key, ` : ` and a value
  entry_read_at : (room n : ℕ) (c : Ctx) (i k j : ℕ) (xs ys : List Event) → Node room n c i k xs → slice_get cs k ≡ Some 32 → slice_get cs (k + 1) ≡ Some 58 → slice_get cs (k + 1 + 1) ≡ Some 32
      → Node room n c (k + 1 + 1 + 1) j ys → entries_of room n c i j (xs ++ ys)
  unfolding entry_of implicit_entry yaml_key_entry json_key_entry value adjacent
  entry_read_at room n c i k j xs ys (inl x) f g h w =
      inl (inl (k, xs, ys, x, inl (k + 1, inr (apart cs n c k f), (k + 1 + 1, (k + 1 + 1, (g, refl), (refl, unsafe c (k + 1 + 1) h)), inl (k + 1 + 1 + 1, apart cs n c (k + 1 + 1) h, w))), refl))
  entry_read_at room n c i k j xs ys (inr x) f g h w =
      inl (inr (k, xs, ys, x, inl (k + 1, inr (apart cs n c k f), (k + 1 + 1, (g, refl), inl (k + 1 + 1 + 1, inr (apart cs n c (k + 1 + 1) h), w))), refl))

  -- ---- nodes

  abbrev Before : ℕ → Ctx → Rule Props
  Before n c = gives no_props ∪ (properties cs [] n c ◂ separate cs n c)

  as_alias : (room n : ℕ) (c : Ctx) (i j : ℕ) (es : List Event) → seen (λ x. alias_event (encode_utf8_all x) ∷ []) (tags.c-ns-alias-node cs) i j es → reads cs (Unit {0}) [] room (yaml_part n c) i j es
  unfolding reads yaml_node
  as_alias zero n c i j es d = inl d
  as_alias (suc room) n c i j es d = inl d

  as_scalar : (room n : ℕ) (c : Ctx) (i k j : ℕ) (p : Props) (es : List Event) → Before n c i k p → seen (λ t. scalar p double_quoted t ∷ []) (double cs n c) k j es → reads cs (Unit {0}) [] room (json_part n c) i j es
  unfolding reads json_node
  as_scalar zero n c i k j p es a d = (k, p, a, inr (inl d))
  as_scalar (suc room) n c i k j p es a d = (k, p, a, inr (inl d))

  as_sequence : (room n : ℕ) (c : Ctx) (i k j : ℕ) (o : Anchor) (g : WrittenTag) (es : List Event) → Before n c i k (props_of o g) → slice_get cs k ≡ Some 91 → parts 93 n c (items_of room n (inner c)) (k + 1) j es
      → reads cs (Unit {0}) [] (suc room) (json_part n c) i j (sequence_start true o g ∷ (es ++ (sequence_end ∷ [])))
  unfolding reads json_node flow_seq
  as_sequence room n c i k j o g es a f d = (k, props_of o g, a, inr (inr (inl (tt, (es, (k + 1, (k + 1, (f, refl), inl refl), d), refl)))))

  as_mapping : (room n : ℕ) (c : Ctx) (i k j : ℕ) (o : Anchor) (g : WrittenTag) (es : List Event) → Before n c i k (props_of o g) → slice_get cs k ≡ Some 123 → parts 125 n c (entries_of room n (inner c)) (k + 1) j es
      → reads cs (Unit {0}) [] (suc room) (json_part n c) i j (mapping_start true o g ∷ (es ++ (mapping_end ∷ [])))
  unfolding reads json_node flow_map
  as_mapping room n c i k j o g es a f d = (k, props_of o g, a, inr (inr (inr (tt, (es, (k + 1, (k + 1, (f, refl), inl refl), d), refl)))))

  -- wherever it stands, and whatever follows
  abbrev Read : SerialNode → ℕ → ℕ → Ctx → Type 0
  Read t room n c = (i : ℕ) (r : List ℕ) → Stops r → At cs i (node_text t r) → (j : ℕ) × Node room n c i j (flat t []) × At cs j r

  entry_read : (k v : SerialNode) (room n : ℕ) (c : Ctx) (i : ℕ) (r : List ℕ) → Read k room n c → Read v room n c → Stops r → At cs i (node_text k (32 ∷ 58 ∷ 32 ∷ node_text v r))
      → (j : ℕ) × entries_of room n c i j (flat k (flat v [])) × At cs j r
  entry_read k v room n c i r f g s a =
      let d = f i (32 ∷ 58 ∷ 32 ∷ node_text v r) space_ends a in
      let n1 = at_next cs d.0 32 (58 ∷ 32 ∷ node_text v r) d.2 in
      let n2 = at_next cs (d.0 + 1) 58 (32 ∷ node_text v r) n1 in
      let n3 = at_next cs (d.0 + 1 + 1) 32 (node_text v r) n2 in
      let w = g (d.0 + 1 + 1 + 1) r s n3 in
      let e = entry_read_at room n c i d.0 w.0 (flat k []) (flat v []) d.1 (at_get cs d.0 32 (58 ∷ 32 ∷ node_text v r) d.2) (at_get cs (d.0 + 1) 58 (32 ∷ node_text v r) n1) (at_get cs (d.0 + 1 + 1) 32 (node_text v r) n2) w.1 in
      (w.0, subst (entries_of room n c i w.0) (sym (flat_more k [] (flat v []))) e, w.2)

  mutual
    unfolding node_text flat

    pub node_read : (t : SerialNode) (room n : ℕ) (c : Ctx) (i : ℕ) (r : List ℕ) → Spells t → depth t ≤ room → Stops r → At cs i (node_text t r) → (j : ℕ) × Node room n c i j (flat t []) × At cs j r
    node_read (alias_at x) room n c i r p l s a = let d = alias_read x i r p s a in (d.0, inl (as_alias room n c i d.0 (alias_event x ∷ []) d.1), d.2)
    node_read (scalar_at o g y x) room n c i r p l s a =
        let d = props_read o g n c i (34 ∷ quoted (chars x) r) p.0 p.1 a in
        let e = double_read cs x n c d.0 r p.3 d.2 in
        let q : encode_utf8_all (chars x) ≡ x = encodes-chars x (IsUtf8-from_is_utf8 x p.3) in
        (e.0, inr (as_scalar room n c i d.0 e.0 (props_of o g) (scalar_event o g y x ∷ []) d.1 (chars x, e.1, λ z. scalar_event o g (p.2 z) (sym q z) ∷ [])), e.2)
    node_read (sequence_at o g b ts) zero n c i r p l s a = absurd (omega arith)
    node_read (mapping_at o g b ps) zero n c i r p l s a = absurd (omega arith)
    node_read (sequence_at o g b ts) (suc room) n c i r p l s a =
        let t : List ℕ = items_text [] ts r in
        let d = props_read o g n c i (91 ∷ t) p.0 p.1 a in
        let m = items ts room n (inner c) c (d.0 + 1) r p.3 (omega arith) (at_next cs d.0 91 t d.2) in
        let w = as_sequence room n c i d.0 m.0 o g (flat_all ts []) d.1 (at_get cs d.0 91 t d.2) m.1 in
        (m.0, inr (subst (reads cs (Unit {0}) [] (suc room) (json_part n c) i m.0) (λ z. sequence_start (sym p.2 z) o g ∷ sym (all_more ts [] (sequence_end ∷ [])) z) w), m.2)
    node_read (mapping_at o g b ps) (suc room) n c i r p l s a =
        let t : List ℕ = pairs_text [] ps r in
        let d = props_read o g n c i (123 ∷ t) p.0 p.1 a in
        let m = pairs ps room n (inner c) c (d.0 + 1) r p.3 (omega arith) (at_next cs d.0 123 t d.2) in
        let w = as_mapping room n c i d.0 m.0 o g (flat_pairs ps []) d.1 (at_get cs d.0 123 t d.2) m.1 in
        (m.0, inr (subst (reads cs (Unit {0}) [] (suc room) (json_part n c) i m.0) (λ z. mapping_start (sym p.2 z) o g ∷ sym (pairs_more ps [] (mapping_end ∷ [])) z) w), m.2)

    items : (ts : SerialNodes) (room n : ℕ) (c b : Ctx) (i : ℕ) (r : List ℕ) → AllSpell ts → depths ts ≤ room → At cs i (items_text [] ts r)
        → (j : ℕ) × parts 93 n b (items_of room n c) i j (flat_all ts []) × At cs j r
    items end_serial room n c b i r p l a = (i + 1, no_part 93 n b (items_of room n c) i (at_get cs i 93 r a), at_next cs i 93 r a)
    items (item_serial t ts) room n c b i r p l a = more_items ts t room n c b i r (λ k q s x. node_read t room n c k q p.0 (omega arith) s x) p.1 (omega arith) a

    -- an item, and those after it
    more_items : (ts : SerialNodes) (t : SerialNode) (room n : ℕ) (c b : Ctx) (i : ℕ) (r : List ℕ) → Read t room n c → AllSpell ts → depths ts ≤ room → At cs i (node_text t (items_text (44 ∷ 32 ∷ []) ts r))
        → (j : ℕ) × parts 93 n b (items_of room n c) i j (flat t (flat_all ts [])) × At cs j r
    more_items end_serial t room n c b i r read p l a =
        let d = read i (93 ∷ r) bracket_stops a in
        (d.0 + 1, last_part 93 n b (items_of room n c) i d.0 (flat t []) (inr d.1) (at_get cs d.0 93 r d.2), at_next cs d.0 93 r d.2)
    more_items (item_serial u us) t room n c b i r read p l a =
        let rest : List ℕ = node_text u (items_text (44 ∷ 32 ∷ []) us r) in
        let d = read i (44 ∷ 32 ∷ rest) comma_stops a in
        let n1 = at_next cs d.0 44 (32 ∷ rest) d.2 in
        let k : ℕ = d.0 + 1 in
        let es : List Event = flat u (flat_all us []) in
        let m = more_items us u room n c b (k + 1) r (λ x q s y. node_read u room n c x q p.0 (omega arith) s y) p.1 (omega arith) (at_next cs k 32 rest n1) in
        let w = one_more 93 n b (items_of room n c) i d.0 m.0 (flat t []) es (inr d.1) (at_get cs d.0 44 (32 ∷ rest) d.2) (at_get cs k 32 rest n1) m.1 in
        (m.0, subst (parts 93 n b (items_of room n c) i m.0) (sym (flat_more t [] es)) w, m.2)

    pairs : (ps : SerialPairs) (room n : ℕ) (c b : Ctx) (i : ℕ) (r : List ℕ) → PairsSpell ps → pairs_depth ps ≤ room → At cs i (pairs_text [] ps r)
        → (j : ℕ) × parts 125 n b (entries_of room n c) i j (flat_pairs ps []) × At cs j r
    pairs done_serial room n c b i r p l a = (i + 1, no_part 125 n b (entries_of room n c) i (at_get cs i 125 r a), at_next cs i 125 r a)
    pairs (entry_serial k v ps) room n c b i r p l a =
        more_pairs ps k v room n c b i r (λ x q s y. node_read k room n c x q p.0 (omega arith) s y) (λ x q s y. node_read v room n c x q p.1 (omega arith) s y) p.2 (omega arith) a

    -- an entry, and those after it
    more_pairs : (ps : SerialPairs) (k v : SerialNode) (room n : ℕ) (c b : Ctx) (i : ℕ) (r : List ℕ) → Read k room n c → Read v room n c → PairsSpell ps → pairs_depth ps ≤ room
        → At cs i (node_text k (32 ∷ 58 ∷ 32 ∷ node_text v (pairs_text (44 ∷ 32 ∷ []) ps r)))
        → (j : ℕ) × parts 125 n b (entries_of room n c) i j (flat k (flat v (flat_pairs ps []))) × At cs j r
    more_pairs done_serial k v room n c b i r key value p l a =
        let d = entry_read k v room n c i (125 ∷ r) key value brace_stops a in
        (d.0 + 1, last_part 125 n b (entries_of room n c) i d.0 (flat k (flat v [])) d.1 (at_get cs d.0 125 r d.2), at_next cs d.0 125 r d.2)
    more_pairs (entry_serial x w qs) k v room n c b i r key value p l a =
        let rest : List ℕ = node_text x (32 ∷ 58 ∷ 32 ∷ node_text w (pairs_text (44 ∷ 32 ∷ []) qs r)) in
        let d = entry_read k v room n c i (44 ∷ 32 ∷ rest) key value comma_stops a in
        let n1 = at_next cs d.0 44 (32 ∷ rest) d.2 in
        let q : ℕ = d.0 + 1 in
        let es : List Event = flat x (flat w (flat_pairs qs [])) in
        let m = more_pairs qs x w room n c b (q + 1) r (λ y z s u. node_read x room n c y z p.0 (omega arith) s u) (λ y z s u. node_read w room n c y z p.1 (omega arith) s u) p.2 (omega arith) (at_next cs q 32 rest n1) in
        let o = one_more 125 n b (entries_of room n c) i d.0 m.0 (flat k (flat v [])) es d.1 (at_get cs d.0 44 (32 ∷ rest) d.2) (at_get cs q 32 rest n1) m.1 in
        let e : flat k (flat v es) ≡ flat k (flat v []) ++ es = ap (flat k) (flat_more v [] es) ∙ flat_more k (flat v []) es in
        (m.0, subst (parts 125 n b (entries_of room n c) i m.0) (sym e) o, m.2)
