-- From where a reader of block nodes stands to the productions.
use Rattle.std.proofs.Common.{◌≡◌, ℕ, suc, false, ◌+◌, ◌<◌, ◌≤◌, List, [], ◌++◌, Some, None, refl, sym, ◌∙◌, ap, subst, arith, inl, inr, ◌⊎◌, append_assoc}
use Rattle.std.proofs.lemmas.List.{append-nil}
use Rattle.yaml_definitions.specs.model.Event.{Event, sequence_end, mapping_end}
use Rattle.yaml_definitions.specs.grammar.Rules.{Rule, ◌▸◌, ◌⨾◌, any, chr, done, Stands}
use Rattle.yaml_definitions.specs.grammar.Characters.{is_ns}
use Rattle.yaml_definitions.specs.grammar.Separation.{Ctx, block_in, block_out, flow_out, block_key, s-indent as indent, s-separate as separate, s-separate-lines as separate_lines, s-l-comments as s_l_comments}
use Rattle.yaml_definitions.specs.grammar.Tags.{Handles, c-ns-properties as properties}
use Rattle.yaml_definitions.specs.grammar.Events.{Props, no_props, seq_start, map_start, wrapped}
use Rattle.yaml_definitions.specs.grammar.Nodes as nodes
use Rattle.yaml_definitions.specs.grammar.Nodes.{yaml_part, json_part, block_part, compact_part, reads, c-l-block-seq-entry as seq_entry, ns-l-block-map-entry as map_entry, s-l+block-indented as indented, s-l+block-node as block_node}
use Rattle.yaml_text.proofs.Repeats.{any_push}
use Rattle.yaml_text.proofs.LineRuns.{indent_run, indent_place}
use Rattle.yaml_layout.specs.Keys.{ColonAfter}
use Rattle.yaml_layout.specs.Lines.{IsBlock}
use Rattle.yaml_layout.specs.NodeRules.{part_of, flow_from, opens, below}
use Rattle.yaml_layout.specs.declared.flow.Kind.{Kind}
use Rattle.yaml_layout.specs.declared.flow.Kind.TheVariants.{Yaml, Json}
use Rattle.yaml_layout.proofs.SpaceLemmas.{in_text, maybe_sep, lines_separate, sep_separate, flow_separate, block_separate}
use Rattle.yaml_layout.proofs.NodeLemmas.{to_reads, from_reads}
use Rattle.yaml_layout.proofs.KeyLaws.{block_key_too}
use Rattle.yaml_block.specs.BlockRules.{least_dash, node_rest, line_rest, value_rest, entry_rest, sequence_with, mapping_with, seq_body, key_rest, entries_rest}

-- ---- lists of parts

-- one more at the end
pub joined_more : {A : Type 0} (R P : Rule (List A)) {i k j : ℕ} {xs ys : List A} → (R ⨾ any P) i k xs → P k j ys → (R ⨾ any P) i j (xs ++ ys)
joined_more R P {xs = xs} {ys = ys} (m, us, vs, r, more, e) p =
    (m, us, vs ++ ys, r, any_push more p, ap (λ v. v ++ ys) e ∙ append_assoc us vs ys)

pub joined_start : {A : Type 0} (R P : Rule (List A)) {i j : ℕ} {xs : List A} → R i j xs → (R ⨾ any P) i j xs
joined_start R P {xs = xs} r = (_, xs, [], r, done refl refl, sym (append-nil xs))

module _ (cs : List ℕ) where
  -- properties at block level, whichever the context
  pub block_properties : (handles : Handles) (n : ℕ) (c : Ctx) (i j : ℕ) (p : Props) → IsBlock c → properties cs handles n flow_out i j p → properties cs handles n c i j p
  unfolding properties separate
  block_properties handles n block_in i j p b r = r
  block_properties handles n block_out i j p b r = r
  block_properties handles n _ i j p b r = absurd b

  pub separate_flow : (n i q : ℕ) → separate cs n flow_out i q → separate_lines cs n i q
  unfolding separate
  separate_flow n i q s = s

module _ (cs : List ℕ) (Wide : Type 0) (handles : Handles) where
  -- ---- what follows a parent

  -- a node after its separation
  pub node_value : (room col : ℕ) (c : Ctx) (i q j : ℕ) (es : List Event) → IsBlock c → separate_lines cs col i q →
      node_rest cs Wide handles room col c None q j es → reads cs Wide handles room (block_part col c) i j es
  unfolding block_node nodes.ns-flow-node
  node_value room col c i q j es b s (inl (m, inl y, t)) =
      to_reads cs Wide handles room (block_part col c) i j es (inl (q, flow_separate cs col i q s, (m, inl (from_reads cs Wide handles room (yaml_part col flow_out) q m es y), t)))
  node_value room col c i q j es b s (inl (m, inr y, t)) =
      to_reads cs Wide handles room (block_part col c) i j es (inl (q, flow_separate cs col i q s, (m, inr (from_reads cs Wide handles room (json_part col flow_out) q m es y), t)))
  node_value room col c i q j es b s (inr (inl (k, p, inl e, t))) =
      to_reads cs Wide handles room (block_part col c) i j es (inr (inl (q, block_separate cs col c i q b s, (k, p, inl e, t))))
  node_value room col c i q j es b s (inr (inl (k, p, inr (m, r, d), t))) =
      to_reads cs Wide handles room (block_part col c) i j es (inr (inl (
        q,
        block_separate cs col c i q b s,
        (k, p, inr (m, block_properties cs handles col c q m p b r, block_separate cs col c m k b (separate_flow cs col m k d)), t),
      )))
  node_value room col c i q j es b s (inr (inr (inl (k, p, (m, r, d), t)))) = collection c b t
    where
      props : (c : Ctx) → IsBlock c → (separate cs col c ▸ properties cs handles col c) i m p
      props c b = (q, block_separate cs col c i q b s, block_properties cs handles col c q m p b r)

      collection : (c : Ctx) (b : IsBlock c) → (nodes.l+block-mapping cs Wide handles (opens cs Wide handles room) (below cs Wide handles room) p col k j es
          ⊎ nodes.l+block-sequence cs Wide handles (opens cs Wide handles room) (below cs Wide handles room) p (least_dash col c) k j es) → reads cs Wide handles room (block_part col c) i j es
      collection block_in b t = to_reads cs Wide handles room (block_part col block_in) i j es (inr (inr (k, p, (m, inr (props block_in b), d), t)))
      collection block_out b t = to_reads cs Wide handles room (block_part col block_out) i j es (inr (inr (k, p, (m, inr (props block_out b), d), t)))
      collection _ b t = absurd b
  node_value room col c i q j es b s (inr (inr (inr h))) = absurd h

  -- a mapping on a line of its own
  pub mapping_value : (room col k : ℕ) (c : Ctx) (i p q j : ℕ) (es : List Event) → s_l_comments cs i p → col ≤ k → indent cs k p q →
      mapping_with cs Wide handles no_props room k q j es → reads cs Wide handles room (block_part col c) i j es
  unfolding block_node nodes.l+block-mapping
  mapping_value room col k c i p q j es comments le ind (o, (xs, (m, ys, zs, entry, more, e), f)) =
      to_reads cs Wide handles room (block_part col c) i j es (inr (inr (p, no_props, (i, inl (refl, refl), comments), inl (o, (xs, (k, (le, (m, ys, zs, (q, ind, entry), more, e))), f)))))

  pub sequence_value : (room col k : ℕ) (c : Ctx) (i p q j : ℕ) (es : List Event) → IsBlock c → s_l_comments cs i p → least_dash col c ≤ k → indent cs k p q →
      sequence_with cs Wide handles no_props room k q j es → reads cs Wide handles room (block_part col c) i j es
  unfolding block_node nodes.l+block-sequence
  sequence_value room col k block_in i p q j es b comments le ind (o, (xs, (m, ys, zs, entry, more, e), f)) =
      to_reads cs Wide handles room (block_part col block_in) i j es (inr (inr (p, no_props, (i, inl (refl, refl), comments), inr (o, (xs, (k, (le, (m, ys, zs, (q, ind, entry), more, e))), f)))))
  sequence_value room col k block_out i p q j es b comments le ind (o, (xs, (m, ys, zs, entry, more, e), f)) =
      to_reads cs Wide handles room (block_part col block_out) i j es (inr (inr (p, no_props, (i, inl (refl, refl), comments), inr (o, (xs, (k, (le, (m, ys, zs, (q, ind, entry), more, e))), f)))))
  sequence_value room col k _ i p q j es b comments le ind s = absurd b

  -- what stands on a line below, after comments
  pub line_value : (room col : ℕ) (c : Ctx) (i p j : ℕ) (es : List Event) → IsBlock c → s_l_comments cs i p →
      line_rest cs Wide handles room col c p j es → value_rest cs Wide handles room col c i j es
  line_value room col c i p j es b comments (inl (k, (le, (q, ind, inl t)))) =
      inl (node_value room col c i q j es b (lines_separate cs col k i p q le comments ind) (inl t))
  line_value room col c i p j es b comments (inl (k, (le, (q, ind, inr (inl t))))) =
      inl (node_value room col c i q j es b (lines_separate cs col k i p q le comments ind) (inr (inl t)))
  line_value room col c i p j es b comments (inl (k, (le, (q, ind, inr (inr (inl t)))))) =
      inl (node_value room col c i q j es b (lines_separate cs col k i p q le comments ind) (inr (inr (inl t))))
  line_value room col c i p j es b comments (inl (k, (le, (q, ind, inr (inr (inr t)))))) =
      inl (mapping_value room col k c i p q j es comments le ind t)
  line_value room col c i p j es b comments (inr (inl (k, (le, (q, ind, t))))) =
      inl (sequence_value room col k c i p q j es b comments le ind t)
  line_value room col c i p j es b comments (inr (inr (e, f))) =
      inr (i, (refl, f), subst (s_l_comments cs i) (sym e) comments)

  -- on the line of its parent
  pub same_value : (room col : ℕ) (c : Ctx) (n i q j : ℕ) (es : List Event) → IsBlock c → indent cs n i q → 0 < n →
      node_rest cs Wide handles room col c None q j es → value_rest cs Wide handles room col c i j es
  same_value room col c n i q j es b ind some t =
      inl (node_value room col c i q j es b (sep_separate cs col i q (indent_run cs n i q ind) (omega (arith, indent_place cs n i q ind, some))) t)

  -- ---- entries of a sequence

  pub line_entry : (room k i p j : ℕ) (es : List Event) → s_l_comments cs i p → line_rest cs Wide handles room (k + 1) block_in p j es → entry_rest cs Wide handles room k i j es
  unfolding indented
  line_entry room k i p j es comments t = inr (line_value room (k + 1) block_in i p j es tt comments t)

  pub sequence_entry : (room k m i q j : ℕ) (es : List Event) → indent cs m i q → 0 < m → sequence_with cs Wide handles no_props room (k + 1 + m) q j es → entry_rest cs Wide handles room k i j es
  unfolding indented nodes.ns-l-compact-sequence
  sequence_entry room k m i q j es ind some t =
      inl (m, (omega (arith, some), (q, ind, to_reads cs Wide handles room (compact_part (k + 1 + m)) q j es (inl t))))

  pub node_entry : (room k m i q j : ℕ) (es : List Event) → indent cs m i q → 0 < m → node_rest cs Wide handles room (k + 1) block_in (Some (k + 1 + m)) q j es → entry_rest cs Wide handles room k i j es
  unfolding indented nodes.ns-l-compact-mapping
  node_entry room k m i q j es ind some (inl t) = inr (same_value room (k + 1) block_in m i q j es tt ind some (inl t))
  node_entry room k m i q j es ind some (inr (inl t)) = inr (same_value room (k + 1) block_in m i q j es tt ind some (inr (inl t)))
  node_entry room k m i q j es ind some (inr (inr (inl t))) = inr (same_value room (k + 1) block_in m i q j es tt ind some (inr (inr (inl t))))
  node_entry room k m i q j es ind some (inr (inr (inr t))) =
      inl (m, (omega (arith, some), (q, ind, to_reads cs Wide handles room (compact_part (k + 1 + m)) q j es (inr t))))

  abbrev pub seq_entry_at : ℕ → ℕ → Rule (List Event)
  seq_entry_at room k = seq_entry cs Wide handles (Unit {0}) (reads cs Wide handles room) k

  pub dash_entry : (room k i m j : ℕ) (es : List Event) → chr cs 45 i m → (Stands cs is_ns m → ⊥) → entry_rest cs Wide handles room k m j es → seq_entry_at room k i j es
  unfolding seq_entry
  dash_entry room k i m j es d apart t = (m, (m, d, (refl, apart)), t)

  pub sequence_done : (p : Props) (r room k i j : ℕ) (es : List Event) → room ≡ suc r → seq_body cs Wide handles r k i j es →
      sequence_with cs Wide handles p room k i j (wrapped (seq_start false p) sequence_end es)
  sequence_done p r room k i j es e b = subst (λ x. sequence_with cs Wide handles p x k i j (wrapped (seq_start false p) sequence_end es)) (sym e) (whole b)
    where
      whole : seq_body cs Wide handles r k i j es → sequence_with cs Wide handles p (suc r) k i j (wrapped (seq_start false p) sequence_end es)
      whole b = (tt, (es, b, refl))

  -- ---- entries of a mapping

  abbrev pub map_entry_at : ℕ → ℕ → Rule (List Event)
  map_entry_at room k = map_entry cs Wide handles (Unit {0}) (reads cs Wide handles room) k

  -- a key, its colon and what follows
  pub key_entry : (room k i m j : ℕ) (ks vs : List Event) → key_rest cs Wide handles room i m ks → value_rest cs Wide handles room (k + 1) block_out m j vs → map_entry_at room k i j (ks ++ vs)
  unfolding map_entry
  key_entry room k i m j ks vs key v = (m, ks, vs, key, v, refl)

  pub colon_key : (room : ℕ) (kind : Kind) (i e k : ℕ) (ks : List Event) → reads cs Wide handles room (part_of kind 0 block_key) i e ks → ColonAfter cs i e k → key_rest cs Wide handles room i k ks
  unfolding nodes.ns-s-implicit-yaml-key nodes.c-s-implicit-json-key
  colon_key room Yaml i e k ks r (m, s, colon, fits) = (m, inl (fits, (e, r, maybe_sep cs e m s)), colon)
  colon_key room Json i e k ks r (m, s, colon, fits) = (m, inr (fits, (e, r, maybe_sep cs e m s)), colon)

  -- a node on one line that was read as a value is a key
  pub value_key : (room n deep : ℕ) (kind : Kind) (i e k : ℕ) (ks : List Event) → flow_from cs Wide handles deep kind n flow_out i e ks → deep ≤ room → ColonAfter cs i e k → key_rest cs Wide handles room i k ks
  value_key room n deep kind i e k ks r le (m, s, colon, fits) =
      colon_key room kind i e k ks (block_key_too cs Wide handles room n kind i e ks (r room le) (λ l a b. fits.0 l a (omega (arith, b, s.0))) (in_text cs m e s.0 colon.0)) (m, s, colon, fits)

  pub mapping_done : (p : Props) (r room k i m j : ℕ) (ks vs : List Event) → room ≡ suc r → key_rest cs Wide handles r i m ks → entries_rest cs Wide handles r k m j vs →
      mapping_with cs Wide handles p room k i j (wrapped (map_start false p) mapping_end (ks ++ vs))
  mapping_done p r room k i m j ks vs e key (l, ys, zs, v, more, f) =
      subst (λ x. mapping_with cs Wide handles p x k i j (wrapped (map_start false p) mapping_end (ks ++ vs))) (sym e) whole
    where
      whole : mapping_with cs Wide handles p (suc r) k i j (wrapped (map_start false p) mapping_end (ks ++ vs))
      whole = (tt, (ks ++ vs, (l, ks ++ ys, zs, key_entry r k i m l ks ys key v, more, ap (λ u. ks ++ u) f ∙ sym (append_assoc ks ys zs)), refl))
