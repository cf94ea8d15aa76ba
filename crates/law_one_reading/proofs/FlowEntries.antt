-- Flow collections: items by commas, entries and single pairs, one reading each where the nodes in them have one.
use Rattle.std.proofs.Common.{◌≡◌, ◌≢◌, ℕ, ◌+◌, ◌<◌, ◌⊎◌, inl, inr, List, ◌++◌, true, Some, refl, sym, ◌∙◌, ap, subst, arith, append_assoc}
use Rattle.std.specs.Prelude.{slice_get}
use Rattle.law_one_reading.specs.Follows as ends
use Rattle.yaml_definitions.specs.grammar.Rules.{Rule, Span, ◌◆◌, ◌▸◌, ◌◂◌, ◌⨾◌, ◌∪◌, any, Any, done, then, optional, maybe, given, chr, run, Stands}
use Rattle.yaml_definitions.specs.grammar.Characters.{is_space, is_ns, is_nb, is_break, is_white}
use Rattle.yaml_definitions.specs.grammar.Separation.{Ctx, flow_in, flow_key, inner, s-separate as separate, s-separate-in-line as sep}
use Rattle.yaml_definitions.specs.grammar.Tags.{Handles}
use Rattle.yaml_definitions.specs.grammar.FlowScalars.{plain_safe}
use Rattle.yaml_definitions.specs.model.Event.{Event, sequence_end, mapping_end}
use Rattle.yaml_definitions.specs.grammar.Events.{Props, no_props, e-scalar as empty, wrapped, seq_start, map_start}
use Rattle.yaml_definitions.specs.grammar.Nodes.{Part, yaml_part, json_part, pair_part, e-node as e_node, inside_flow, parted, c-ns-flow-map-separate-value as value, c-ns-flow-map-adjacent-value as adjacent, ns-flow-map-yaml-key-entry as yaml_key_entry, c-ns-flow-map-json-key-entry as json_key_entry, ns-flow-map-implicit-entry as implicit_entry, ns-flow-map-entry as entry, ns-flow-pair as pair, c-flow-sequence as flow_seq, c-flow-mapping as flow_map, ns-s-implicit-yaml-key as implicit_yaml_key, c-s-implicit-json-key as implicit_json_key, c-ns-flow-map-empty-key-entry as empty_key, ns-flow-map-explicit-entry as explicit}
use Rattle.yaml_text.proofs.Runs.{same_char}
use Rattle.yaml_text.specs.Lines.{Inside}
use Rattle.yaml_text.proofs.LineRuns.{inside_next}
use Rattle.law_one_reading.proofs.BlockEntries.{past_no_ns}
use Rattle.yaml_text.proofs.Repeats.{SameRule}
use Rattle.law_one_reading.proofs.Unique.{unique_until, unique_gives, unique_seen, unique_given, unique_before, unique_joined, unique_either}
use Rattle.law_one_reading.specs.Readings.{End, At, Unique, Apart, OneWayOn, To}
use Rattle.law_one_reading.proofs.Lines.{char_fresh, solid_no_space, sep_parts, way_then, way_of, way_sep, way_here, way_maybe, way_same}
use Rattle.law_one_reading.specs.Follows.{Past, Solid, Fresh, Way}

ns_colon : is_ns 58 ≡ true
unfolding is_ns is_nb is_break is_white
ns_colon = refl

ns_question : is_ns 63 ≡ true
unfolding is_ns is_nb is_break is_white
ns_question = refl

nb_question : is_nb 63 ≡ true
unfolding is_nb is_break
nb_question = refl

ns_of : (c : ℕ) → c ≢ 10 → c ≢ 13 → c ≢ 32 → c ≢ 9 → is_ns c ≡ true
unfolding is_ns is_nb is_break is_white
ns_of c w x y z = grind (arith, w, x, y, z)

module _ (cs : List ℕ) where
  abbrev Closes : ℕ → Type 0
  Closes = ends.Closes cs

  abbrev Colon : ℕ → Type 0
  Colon = ends.Colon cs

  abbrev ColonY : ℕ → Type 0
  ColonY = ends.EndsYamlKey cs

  abbrev Fs : ℕ → Type 0
  Fs = ends.EndsBracketPart cs

  abbrev Fy : ℕ → Type 0
  Fy = ends.EndsYamlNode cs

  abbrev Fj : ℕ → Type 0
  Fj = ends.EndsJsonNode cs

  abbrev MarkHere : ℕ → Type 0
  MarkHere = ends.MarkHere cs

  -- what may begin an entry or an item; what may begin a node in one
  abbrev pub PartHere : ℕ → Type 0
  PartHere i = Fresh cs i × (Closes i → ⊥)

  abbrev pub ItemHere : ℕ → Type 0
  ItemHere i = Fresh cs i × (Closes i → ⊥) × (ColonY i → ⊥) × (MarkHere i → ⊥)

  pub item_part : (i : ℕ) → ItemHere i → PartHere i
  item_part i (f, a, b, c) = (f, a)

  abbrev Es : End
  Es = ends.EndsPart cs

  pub ends_es : {V : Type 0} {R : Rule V} → Unique R (At Fs) → Unique R Es
  ends_es f i j k m n v w r (a, b) s (c, d) =
      let h = f i j k j k v w r (refl, (m, a, b)) s (refl, (n, c, d)) in
      (way_same cs k m n (subst (λ z. Way cs z m) h.0 a) c, h.1)

  pub es_fs : (j m : ℕ) → Es j m → At Fs j j
  es_fs j m (a, b) = (refl, (m, a, b))

  char_solid : (q c : ℕ) → slice_get cs q ≡ Some c → is_ns c ≡ true → (c ≡ 35 → ⊥) → Solid cs q
  char_solid q c h s n = ((c, h, s), λ g. n (same_char cs q c 35 h g))

  pub closes_solid : (q : ℕ) → Closes q → Solid cs q
  closes_solid q (inl h) = char_solid q 44 h (ns_of 44 (λ e. omega (arith, e)) (λ e. omega (arith, e)) (λ e. omega (arith, e)) (λ e. omega (arith, e))) (λ e. omega (arith, e))
  closes_solid q (inr (inl h)) = char_solid q 93 h (ns_of 93 (λ e. omega (arith, e)) (λ e. omega (arith, e)) (λ e. omega (arith, e)) (λ e. omega (arith, e))) (λ e. omega (arith, e))
  closes_solid q (inr (inr h)) = char_solid q 125 h (ns_of 125 (λ e. omega (arith, e)) (λ e. omega (arith, e)) (λ e. omega (arith, e)) (λ e. omega (arith, e))) (λ e. omega (arith, e))

  pub colon_solid : (q : ℕ) → Colon q → Solid cs q
  colon_solid q h = char_solid q 58 h (ns_of 58 (λ e. omega (arith, e)) (λ e. omega (arith, e)) (λ e. omega (arith, e)) (λ e. omega (arith, e))) (λ e. omega (arith, e))

  pub closes_colon : (q : ℕ) → Closes q → Colon q → ⊥
  closes_colon q (inl h) g = let z : 44 ≡ 58 = same_char cs q 44 58 h g in omega (arith, z)
  closes_colon q (inr (inl h)) g = let z : 93 ≡ 58 = same_char cs q 93 58 h g in omega (arith, z)
  closes_colon q (inr (inr h)) g = let z : 125 ≡ 58 = same_char cs q 125 58 h g in omega (arith, z)

  pub colon_part : (q : ℕ) → Colon q → PartHere q
  colon_part q h = (char_fresh cs q 58 h ns_colon (λ e. omega (arith, e)) (λ e. omega (arith, e)) (λ e. omega (arith, e)), λ c. closes_colon q c h)

  pub mark_part : (q : ℕ) → slice_get cs q ≡ Some 63 → PartHere q
  mark_part q h = (char_fresh cs q 63 h ns_question (λ e. omega (arith, e)) (λ e. omega (arith, e)) (λ e. omega (arith, e)), λ c. go c)
    where
      go : Closes q → ⊥
      go (inl g) = let z : 44 ≡ 63 = same_char cs q 44 63 g h in omega (arith, z)
      go (inr (inl g)) = let z : 93 ≡ 63 = same_char cs q 93 63 g h in omega (arith, z)
      go (inr (inr g)) = let z : 125 ≡ 63 = same_char cs q 125 63 g h in omega (arith, z)

  pub stop_yaml : (j : ℕ) → Fs j → Fy j
  stop_yaml j (q, w, h) = (q, w, inl h)

  pub stop_json : (j : ℕ) → Fs j → Fj j
  stop_json j (q, w, h) = (q, w, inl h)

  to_solid : (n : ℕ) (c : Ctx) → To (maybe (separate cs n c)) (Solid cs)
  to_solid n c i k l r s t u = way_same cs i k l (way_maybe cs n c i k r s) (way_maybe cs n c i l t u)

  -- ---- parts by commas

  -- a rule with an end for each place where it is followed so
  pub until : {V : Type 0} {R : Rule V} {F : ℕ → Type 0} → Unique R (At F) → (i j k : ℕ) (v w : V) → R i j v → F j → R i k w → F k → (j ≡ k) × (v ≡ w)
  until f i j k v w r a s b = f i j k j k v w r (refl, a) s (refl, b)

  module _ (n : ℕ) (c : Ctx) (I : Rule (List Event)) (one : Unique I Es) (start : (i j : ℕ) (v : List Event) → I i j v → PartHere i)
      (close : ℕ) (shut : (q : ℕ) → slice_get cs q ≡ Some close → Closes q) (no_comma : close ≢ 44) where
    abbrev Sep : Span
    Sep = maybe (separate cs n c)

    abbrev Part1 : Rule (List Event)
    Part1 = (I ◂ Sep) ◂ (chr cs 44 ◆ Sep)

    Last : ℕ → ℕ → List Event → Type 0
    Last i j v = optional (I ◂ Sep) i j v × (slice_get cs j ≡ Some close)

    follows : (a b c2 : ℕ) → slice_get cs b ≡ Some c2 → Closes b → Sep a b → Es a b
    follows a b c2 h s r = (way_maybe cs n c a b r (closes_solid b s), s)

    rest_solid : (m j i : ℕ) (us vs : List Event) → Any Part1 m i us → Last m j vs → Solid cs i
    unfolding Last
    rest_solid m j i us vs (done e f) (inl (g, h), x) = subst (Solid cs) (g ∙ e) (closes_solid j (shut j x))
    rest_solid m j i us vs (done e f) (inr (a, r, s), x) = subst (Solid cs) e (start m a vs r).0.0
    rest_solid m j i us vs (then k ws ts (b, (a, r, s), t) more f) l = (start i a ws r).0.0

    last_same : (i j k : ℕ) (v w : List Event) → Last i j v → Last i k w → (j ≡ k) × (v ≡ w)
    unfolding Last
    last_same i j k v w (inl (e, f), x) (inl (g, h), y) = (e ∙ sym g, f ∙ sym h)
    last_same i j k v w (inl (e, f), x) (inr (a, r, s), y) = absurd ((start i a w r).1 (subst Closes e (shut j x)))
    last_same i j k v w (inr (a, r, s), x) (inl (e, f), y) = absurd ((start i a v r).1 (subst Closes e (shut k y)))
    last_same i j k v w (inr (a, r, s), x) (inr (b, t, u), y) = one i a b j k v w r (follows a j close x (shut j x) s) t (follows b k close y (shut k y) u)

    part_last : (i k j : ℕ) (v w : List Event) → Part1 i k v → Last i j w → ⊥
    unfolding Last
    part_last i k j v w (b, (a, r, s), (x, (h, e), t)) (inl (f, g), y) = (start i a v r).1 (subst Closes f (shut j y))
    part_last i k j v w (b, (a, r, s), (x, (h, e), t)) (inr (d, u, z), y) =
        let g = one i a d b j v w r (follows a b 44 h (inl h) s) u (follows d j close y (shut j y) z) in
        no_comma (same_char cs j close 44 y (subst (λ q. slice_get cs q ≡ Some 44) g.0 h))

    part_same : (i j k : ℕ) (v w : List Event) → Part1 i j v → Solid cs j → Part1 i k w → Solid cs k → (j ≡ k) × (v ≡ w)
    part_same i j k v w (b, (a, r, s), (x, (h, e), t)) y (d, (f, g, l), (m, (o, p), q)) z =
        let u = one i a f b d v w r (follows a b 44 h (inl h) s) g (follows f d 44 o (inl o) l) in
        let on : x ≡ m = e ∙ ap (λ q. q + 1) u.0 ∙ sym p in
        (way_same cs m j k (way_maybe cs n c m j (subst (λ q. Sep q j) on t) y) (way_maybe cs n c m k q z), u.1)

    chain_same : (m o i j k : ℕ) (us ws vs ts : List Event) → Any Part1 m i us → Last m j vs → Any Part1 o i ws → Last o k ts → (j ≡ k) × (us ++ vs ≡ ws ++ ts)
    chain_same m o i j k us ws vs ts (done e f) l (done g h) y =
        let z = last_same i j k vs ts (subst (λ q. Last q j vs) e l) (subst (λ q. Last q k ts) g y) in
        (z.0, ap (λ q. q ++ vs) (f ∙ sym h) ∙ ap (λ q. ws ++ q) z.1)
    chain_same m o i j k us ws vs ts (done e f) l (then x as1 bs r more g) y = absurd (part_last i x j as1 vs r (subst (λ q. Last q j vs) e l))
    chain_same m o i j k us ws vs ts (then x as1 bs r more g) l (done e f) y = absurd (part_last i x k as1 ts r (subst (λ q. Last q k ts) e y))
    chain_same m o i j k us ws vs ts (then x as1 bs r more g) l (then z cs1 ds s rest h) y =
        let p = part_same i x z as1 cs1 r (rest_solid m j x bs vs more l) s (rest_solid o k z ds ts rest y) in
        let q = chain_same m o x j k bs ds vs ts more l (subst (λ u. Any Part1 o u ds) (sym p.0) rest) y in
        (q.0, ap (λ u. u ++ vs) g ∙ append_assoc as1 bs vs ∙ ap (λ u. as1 ++ u) q.1 ∙ ap (λ u. u ++ (ds ++ ts)) p.1 ∙ sym (append_assoc cs1 ds ts) ∙ ap (λ u. u ++ ts) (sym h))

    -- the parts up to the closing bracket
    pub parted_same : (i j k : ℕ) (v w : List Event) → (any Part1 ⨾ optional (I ◂ Sep)) i j v → slice_get cs j ≡ Some close → (any Part1 ⨾ optional (I ◂ Sep)) i k w → slice_get cs k ≡ Some close → (j ≡ k) × (v ≡ w)
    unfolding Last
    parted_same i j k v w (m, us, vs, a, l, e) x (o, ws, ts, b, y, f) z =
        let h = chain_same m o i j k us ws vs ts a (l, x) b (y, z) in (h.0, e ∙ h.1 ∙ sym f)

    pub parted_solid : (i j : ℕ) (v : List Event) → (any Part1 ⨾ optional (I ◂ Sep)) i j v → slice_get cs j ≡ Some close → Solid cs i
    unfolding Last
    parted_solid i j v (m, us, vs, a, l, e) x = rest_solid m j i us vs a (l, x)

  -- ---- entries and pairs

  -- what is known of the nodes in a collection
  pub record Facts (inside : Part → Rule (List Event)) : Type 0 where
    pub yaml : (n : ℕ) → Unique (inside (yaml_part n flow_in)) (At Fy)
    pub json : (n : ℕ) → Unique (inside (json_part n flow_in)) (At Fj)
    pub apart : (n : ℕ) → Apart (inside (yaml_part n flow_in)) (At Fy) (inside (json_part n flow_in)) (At Fj)
    pub yaml_start : (n i j : ℕ) (v : List Event) → inside (yaml_part n flow_in) i j v → ItemHere i
    pub json_start : (n i j : ℕ) (v : List Event) → inside (json_part n flow_in) i j v → ItemHere i
    pub pair : (n : ℕ) → Unique (inside (pair_part n flow_in)) Es
    pub pair_start : (n i j : ℕ) (v : List Event) → inside (pair_part n flow_in) i j v → PartHere i
    pub pair_yaml : (n : ℕ) → Apart (inside (pair_part n flow_in)) (At Fs) (inside (yaml_part n flow_in)) (At Fs)
    pub pair_json : (n : ℕ) → Apart (inside (pair_part n flow_in)) (At Fs) (inside (json_part n flow_in)) (At Fs)

  ends_at : (D : ℕ → Type 0) → OneWayOn (At D)
  ends_at D i m n (e, f) (g, h) = sym e ∙ g

  module _ (Wide : Type 0) (handles : Handles) (Open : Type 0) (inside : Part → Rule (List Event)) (facts : Facts inside) (n : ℕ) where
    abbrev Inner : Rule (List Event)
    Inner = inside_flow cs Wide handles Open inside n flow_in

    abbrev Empty : Rule (List Event)
    Empty = e_node cs Wide handles Open inside

    inner_start : (i j : ℕ) (v : List Event) → Inner i j v → ItemHere i
    inner_start i j v (inl r) = facts.yaml_start n i j v r
    inner_start i j v (inr r) = facts.json_start n i j v r

    inner_unique : Unique Inner (At Fs)
    inner_unique = unique_either (unique_until (λ j m (e, f). (e, stop_yaml j f)) (facts.yaml n)) (unique_until (λ j m (e, f). (e, stop_json j f)) (facts.json n))
        (λ i j k m o v w r (e, f) s (g, h). facts.apart n i j k m o v w r (e, stop_yaml j f) s (g, stop_json k h))

    -- content after separation is not the end
    no_inner : (i q j k : ℕ) (v : List Event) → Way cs i q → Inner q j v → i ≡ k → Fs k → ⊥
    no_inner i q j k v w r e (x, y, z) =
        let h : q ≡ x = way_same cs i q x w (subst (λ u. Way cs u x) (sym e) y) in
        (inner_start q j v r).1 (subst Closes (sym h) z)

    to_solid_one : To (separate cs n flow_in) (Solid cs)
    to_solid_one i k l r s t u = way_same cs i k l (way_of cs n flow_in i k r s) (way_of cs n flow_in i l t u)

    value_unique : Unique (value cs Wide handles Open inside n flow_in) (At Fs)
    unfolding value
    value_unique = unique_before (λ i. Unit {0}) (λ i j k (a, (h, e), (f, x)) y (b, (g, z), (u, t)) o. f ∙ e ∙ sym z ∙ sym u) (λ i j m v r e. tt)
        (unique_either (unique_before (Solid cs) to_solid_one (λ i j m v r e. (inner_start i j v r).0.0) inner_unique) (unique_gives _ (ends_at Fs))
        (λ i j k m o v w (q, s, r) e (a, b) (f, g). no_inner i q j k v (way_of cs n flow_in i q s (inner_start q j v r).0.0) r (sym a) g))

    pub value_colon : (i j : ℕ) (v : List Event) → value cs Wide handles Open inside n flow_in i j v → ColonY i
    unfolding value
    value_colon i j v (k, (a, (h, e), (f, x)), r) = (h, subst (λ z. Stands cs (plain_safe flow_in) z → ⊥) e x)

    adjacent_unique : Unique (adjacent cs Wide handles Open inside n flow_in) (At Fs)
    unfolding adjacent
    adjacent_unique = unique_before (λ i. Unit {0}) (λ i j k (h, e) y (g, z) o. e ∙ sym z) (λ i j m v r e. tt)
        (unique_either (unique_before (Solid cs) (to_solid n flow_in) (λ i j m v r e. (inner_start i j v r).0.0) inner_unique) (unique_gives _ (ends_at Fs))
        (λ i j k m o v w (q, s, r) e (a, b) (f, g). no_inner i q j k v (way_maybe cs n flow_in i q s (inner_start q j v r).0.0) r (sym a) g))

    pub adjacent_colon : (i j : ℕ) (v : List Event) → adjacent cs Wide handles Open inside n flow_in i j v → Colon i
    unfolding adjacent
    adjacent_colon i j v (k, (h, e), r) = h

    -- a key's value, or none
    module _ (S : Rule (List Event)) (one : Unique S (At Fs)) (colon : (i j : ℕ) (v : List Event) → S i j v → Colon i) where
      abbrev Valued : Rule (List Event)
      Valued = (maybe (separate cs n flow_in) ▸ S) ∪ Empty

      valued_unique : Unique Valued (At Fs)
      valued_unique = unique_either (unique_before (Solid cs) (to_solid n flow_in) (λ i j m v r e. colon_solid i (colon i j v r)) one) (unique_gives _ (ends_at Fs)) go
        where
          go : Apart (maybe (separate cs n flow_in) ▸ S) (At Fs) Empty (At Fs)
          go i j k m o v w (q, s, r) e (a, b) (f, (x, y, z)) =
              let h : q ≡ x = way_same cs i q x (way_maybe cs n flow_in i q s (colon_solid q (colon q j v r))) (subst (λ u. Way cs u x) a y) in
              closes_colon q (subst Closes (sym h) z) (colon q j v r)

    yaml_valued : (i j : ℕ) (v : List Event) → Valued (value cs Wide handles Open inside n flow_in) value_unique (λ i j v r. (value_colon i j v r).0) i j v → Fs j → Fy i
    yaml_valued i j v (inl (q, s, r)) f = (q, way_maybe cs n flow_in i q s (colon_solid q (value_colon q j v r).0), inr (value_colon q j v r))
    yaml_valued i j v (inr (a, b)) f = stop_yaml i (subst Fs a f)

    json_valued : (i j : ℕ) (v : List Event) → Valued (adjacent cs Wide handles Open inside n flow_in) adjacent_unique adjacent_colon i j v → Fs j → Fj i
    json_valued i j v (inl (q, s, r)) f = (q, way_maybe cs n flow_in i q s (colon_solid q (adjacent_colon q j v r)), inr (adjacent_colon q j v r))
    json_valued i j v (inr (a, b)) f = stop_json i (subst Fs a f)

    implicit_unique : Unique (implicit_entry cs Wide handles Open inside n flow_in) (At Fs)
    unfolding implicit_entry yaml_key_entry json_key_entry
    implicit_unique = unique_either
        (unique_joined Fy (facts.yaml n) (λ i j m v r (e, f). yaml_valued i j v r f) (valued_unique (value cs Wide handles Open inside n flow_in) value_unique (λ i j v r. (value_colon i j v r).0)))
        (unique_joined Fj (facts.json n) (λ i j m v r (e, f). json_valued i j v r f) (valued_unique (adjacent cs Wide handles Open inside n flow_in) adjacent_unique adjacent_colon))
        (λ i j k m o v w (a, us, vs, r, s, x) (e, f) (b, ws, ts, t, u, y) (g, h). facts.apart n i a b a b us ws r (refl, yaml_valued a j vs s f) t (refl, json_valued b k ts u h))

    pub implicit_start : (i j : ℕ) (v : List Event) → implicit_entry cs Wide handles Open inside n flow_in i j v → ItemHere i
    unfolding implicit_entry yaml_key_entry json_key_entry
    implicit_start i j v (inl (a, us, vs, r, s, x)) = facts.yaml_start n i a us r
    implicit_start i j v (inr (a, us, vs, r, s, x)) = facts.json_start n i a us r

    -- an empty key
    empty_key_unique : Unique (empty_key cs Wide handles Open inside n flow_in) (At Fs)
    unfolding empty_key
    empty_key_unique = unique_joined ColonY (unique_gives _ (ends_at ColonY)) (λ i j m v r e. value_colon i j v r) value_unique

    pub empty_key_colon : (i j : ℕ) (v : List Event) → empty_key cs Wide handles Open inside n flow_in i j v → ColonY i
    unfolding empty_key
    empty_key_colon i j v (k, us, vs, (e, f), r, x) = subst ColonY e (value_colon k j vs r)

    -- an entry or a pair without a key of one line
    abbrev Keyed : Rule (List Event)
    Keyed = implicit_entry cs Wide handles Open inside n flow_in ∪ empty_key cs Wide handles Open inside n flow_in

    keyed_unique : Unique Keyed Es
    keyed_unique = unique_either (ends_es implicit_unique) (ends_es empty_key_unique) (λ i j k m o v w r e s f. (implicit_start i j v r).2 (empty_key_colon i k w s))

    keyed_part : (i j : ℕ) (v : List Event) → Keyed i j v → PartHere i
    keyed_part i j v (inl r) = item_part i (implicit_start i j v r)
    keyed_part i j v (inr r) = colon_part i (empty_key_colon i j v r).0

    -- after `?` and separation
    Body : ℕ → ℕ → List Event → Type 0
    Body k j v = Keyed k j v ⊎ (Empty ⨾ Empty) k j v

    record Marked1 (i j : ℕ) (v : List Event) : Type 0 where
      k : ℕ
      mark : slice_get cs i ≡ Some 63
      gap : separate cs n flow_in (i + 1) k
      body : Keyed k j v ⊎ ((k ≡ j) × (v ≡ empty no_props ++ empty no_props))

    marked_of : (i j : ℕ) (v : List Event) → explicit cs Wide handles Open inside n flow_in i j v → Marked1 i j v
    unfolding explicit
    marked_of i j v (k, (a, (h, e), s), r) = record { k = k; mark = h; gap = subst (λ z. separate cs n flow_in z k) e s; body = go r }
      where
        go : (implicit_entry cs Wide handles Open inside n flow_in ∪ empty_key cs Wide handles Open inside n flow_in ∪ (Empty ⨾ Empty)) k j v → Keyed k j v ⊎ ((k ≡ j) × (v ≡ empty no_props ++ empty no_props))
        go (inl t) = inl (inl t)
        go (inr (inl t)) = inl (inr t)
        go (inr (inr (b, us, vs, (x, y), (z, u), f))) = inr (sym (z ∙ x), f ∙ ap (λ q. q ++ vs) y ∙ ap (λ q. empty no_props ++ q) u)

    pub mark_inside : (i : ℕ) → slice_get cs i ≡ Some 63 → Inside cs (i + 1)
    mark_inside i h = inside_next cs i (i + 1) (63, h, nb_question) refl

    pub gap_no_ns : (i k : ℕ) → Inside cs i → separate cs n flow_in i k → Stands cs is_ns i → ⊥
    gap_no_ns i k o s t = go (sep_parts cs n flow_in i k o s)
      where
        go : (run cs is_space i k × (i < k)) ⊎ ((p : ℕ) × Past cs i p × run cs is_space p k) → ⊥
        go (inl (r, l)) = solid_no_space cs i t (r.1 i (omega arith) l)
        go (inr (p, b, r)) = past_no_ns cs i p o b t

    pub explicit_mark : (i j : ℕ) (v : List Event) → explicit cs Wide handles Open inside n flow_in i j v → MarkHere i
    explicit_mark i j v r = let m = marked_of i j v r in (m.mark, gap_no_ns (i + 1) m.k (mark_inside i m.mark) m.gap)

    explicit_unique : Unique (explicit cs Wide handles Open inside n flow_in) Es
    explicit_unique i j k m o v w r (a, b) s (c, d) = go (marked_of i j v r) (marked_of i k w s)
      where
        way : (x : ℕ) → Marked1 i j v → Solid cs x → (y : ℕ) → separate cs n flow_in (i + 1) x → Way cs (i + 1) x
        way x p t y g = way_of cs n flow_in (i + 1) x g t

        pick : (p : Marked1 i j v) (q : Marked1 i k w) → Keyed p.k j v ⊎ ((p.k ≡ j) × (v ≡ empty no_props ++ empty no_props)) → Keyed q.k k w ⊎ ((q.k ≡ k) × (w ≡ empty no_props ++ empty no_props)) → (m ≡ o) × (v ≡ w)
        pick p q (inl x) (inl y) =
            let e : p.k ≡ q.k = way_same cs (i + 1) p.k q.k (way p.k p (keyed_part p.k j v x).0.0 0 p.gap) (way q.k p (keyed_part q.k k w y).0.0 0 q.gap) in
            keyed_unique q.k j k m o v w (subst (λ z. Keyed z j v) e x) (a, b) y (c, d)
        pick p q (inr (x, f)) (inr (y, g)) = (
          way_same cs (i + 1) m o (way_then cs n flow_in (i + 1) p.k m (mark_inside i p.mark) p.gap (subst (λ z. Way cs z m) (sym x) a))
              (way_then cs n flow_in (i + 1) q.k o (mark_inside i q.mark) q.gap (subst (λ z. Way cs z o) (sym y) c)),
          f ∙ sym g,
        )
        pick p q (inl x) (inr (y, g)) =
            let z = keyed_part p.k j v x in
            let e : p.k ≡ o = way_same cs (i + 1) p.k o (way p.k p z.0.0 0 p.gap) (way_then cs n flow_in (i + 1) q.k o (mark_inside i q.mark) q.gap (subst (λ u. Way cs u o) (sym y) c)) in
            absurd (z.1 (subst Closes (sym e) d))
        pick p q (inr (x, f)) (inl y) =
            let z = keyed_part q.k k w y in
            let e : q.k ≡ m = way_same cs (i + 1) q.k m (way q.k p z.0.0 0 q.gap) (way_then cs n flow_in (i + 1) p.k m (mark_inside i p.mark) p.gap (subst (λ u. Way cs u m) (sym x) a)) in
            absurd (z.1 (subst Closes (sym e) b))

        go : Marked1 i j v → Marked1 i k w → (m ≡ o) × (v ≡ w)
        go p q = pick p q p.body q.body

    -- in the wide profile
    abbrev Loose : Rule (List Event)
    Loose = empty_key cs Wide handles Open inside n flow_in ∪ explicit cs Wide handles Open inside n flow_in

    pub loose_here : (i j : ℕ) (v : List Event) → Loose i j v → ColonY i ⊎ MarkHere i
    loose_here i j v (inl r) = inl (empty_key_colon i j v r)
    loose_here i j v (inr r) = inr (explicit_mark i j v r)

    pub item_no_loose : (i j : ℕ) (v : List Event) → ItemHere i → Loose i j v → ⊥
    item_no_loose i j v h r = go (loose_here i j v r)
      where
        go : ColonY i ⊎ MarkHere i → ⊥
        go (inl a) = h.2 a
        go (inr a) = h.3 a

    loose_part : (i j : ℕ) (v : List Event) → Loose i j v → PartHere i
    loose_part i j v r = go (loose_here i j v r)
      where
        go : ColonY i ⊎ MarkHere i → PartHere i
        go (inl a) = colon_part i a.0
        go (inr a) = mark_part i a.0

    loose_unique : Unique Loose Es
    loose_unique = unique_either (ends_es empty_key_unique) explicit_unique
        (λ i j k m o v w r e s f. let z : 58 ≡ 63 = same_char cs i 58 63 (empty_key_colon i j v r).0 (explicit_mark i k w s).0 in omega (arith, z))

    pub entry_unique : Unique (entry cs Wide handles Open inside n flow_in) Es
    unfolding entry
    entry_unique = unique_either (ends_es implicit_unique) (unique_given Wide (λ w. loose_unique)) (λ i j k m o v w r e (x, s) f. item_no_loose i k w (implicit_start i j v r) s)

    pub entry_start : (i j : ℕ) (v : List Event) → entry cs Wide handles Open inside n flow_in i j v → PartHere i
    unfolding entry
    entry_start i j v (inl r) = item_part i (implicit_start i j v r)
    entry_start i j v (inr (x, r)) = loose_part i j v r

    -- ---- sequences and mappings

    abbrev Items : Rule (List Event)
    Items = inside (pair_part n flow_in) ∪ Inner

    items_unique : Unique Items Es
    items_unique = unique_either (facts.pair n) (ends_es inner_unique) go
      where
        go : Apart (inside (pair_part n flow_in)) Es Inner Es
        go i j k m o v w r e (inl s) f = facts.pair_yaml n i j k j k v w r (es_fs j m e) s (es_fs k o f)
        go i j k m o v w r e (inr s) f = facts.pair_json n i j k j k v w r (es_fs j m e) s (es_fs k o f)

    items_start : (i j : ℕ) (v : List Event) → Items i j v → PartHere i
    items_start i j v (inl r) = facts.pair_start n i j v r
    items_start i j v (inr r) = item_part i (inner_start i j v r)

    opens_same : (c : Ctx) (x i k l : ℕ) → (chr cs x ◆ maybe (separate cs n c)) i k → Solid cs k → (chr cs x ◆ maybe (separate cs n c)) i l → Solid cs l → k ≡ l
    opens_same c x i k l (a, (h, e), r) s (b, (g, f), t) u =
        to_solid n c b k l (subst (λ z. maybe (separate cs n c) z k) (e ∙ sym f) r) s t u

    pub seq_same : (c : Ctx) → inner c ≡ flow_in → (p : Props) → SameRule (flow_seq cs Wide handles Open inside p n c)
    unfolding flow_seq
    seq_same c ci p i j k v w (o, (t, (a, r, (b, s, (h, e))), f)) (o2, (t2, (a2, r2, (b2, s2, (h2, e2))), f2)) =
        let x = subst (λ z. parted cs Wide handles Open inside n c ((inside (pair_part n z) ∪ inside_flow cs Wide handles Open inside n z) ◂ maybe (separate cs n c)) a b t) ci s in
        let y = subst (λ z. parted cs Wide handles Open inside n c ((inside (pair_part n z) ∪ inside_flow cs Wide handles Open inside n z) ◂ maybe (separate cs n c)) a2 b2 t2) ci s2 in
        let g : a ≡ a2 = opens_same c 91 i a a2 r (solid a b t x h) r2 (solid a2 b2 t2 y h2) in
        let z = parted_same n c Items items_unique items_start 93 (λ q u. inr (inl u)) (λ u. omega (arith, u)) a b b2 t t2 x h (subst (λ u. parted cs Wide handles Open inside n c (Items ◂ maybe (separate cs n c)) u b2 t2) (sym g) y) h2 in
        (e ∙ ap (λ u. u + 1) z.0 ∙ sym e2, f ∙ ap (wrapped (seq_start true p) sequence_end) z.1 ∙ sym f2)
      where
        solid : (a b : ℕ) (t : List Event) → parted cs Wide handles Open inside n c (Items ◂ maybe (separate cs n c)) a b t → slice_get cs b ≡ Some 93 → Solid cs a
        solid a b t s h = parted_solid n c Items items_unique items_start 93 (λ q u. inr (inl u)) (λ u. omega (arith, u)) a b t s h

    pub map_same : (c : Ctx) → inner c ≡ flow_in → (p : Props) → SameRule (flow_map cs Wide handles Open inside p n c)
    unfolding flow_map
    map_same c ci p i j k v w (o, (t, (a, r, (b, s, (h, e))), f)) (o2, (t2, (a2, r2, (b2, s2, (h2, e2))), f2)) =
        let x = subst (λ z. parted cs Wide handles Open inside n c (entry cs Wide handles Open inside n z ◂ maybe (separate cs n c)) a b t) ci s in
        let y = subst (λ z. parted cs Wide handles Open inside n c (entry cs Wide handles Open inside n z ◂ maybe (separate cs n c)) a2 b2 t2) ci s2 in
        let g : a ≡ a2 = opens_same c 123 i a a2 r (solid a b t x h) r2 (solid a2 b2 t2 y h2) in
        let z = parted_same n c (entry cs Wide handles Open inside n flow_in) entry_unique entry_start 125 (λ q u. inr (inr u)) (λ u. omega (arith, u)) a b b2 t t2 x h
        (subst (λ u. parted cs Wide handles Open inside n c (entry cs Wide handles Open inside n flow_in ◂ maybe (separate cs n c)) u b2 t2) (sym g) y) h2 in
        (e ∙ ap (λ u. u + 1) z.0 ∙ sym e2, f ∙ ap (wrapped (map_start true p) mapping_end) z.1 ∙ sym f2)
      where
        solid : (a b : ℕ) (t : List Event) → parted cs Wide handles Open inside n c (entry cs Wide handles Open inside n flow_in ◂ maybe (separate cs n c)) a b t → slice_get cs b ≡ Some 125 → Solid cs a
        solid a b t s h = parted_solid n c (entry cs Wide handles Open inside n flow_in) entry_unique entry_start 125 (λ q u. inr (inr u)) (λ u. omega (arith, u)) a b t s h

    -- ---- a pair

    module _ (yaml_key : (i j : ℕ) (v : List Event) → inside (yaml_part 0 flow_key) i j v → inside (yaml_part n flow_in) i j v)
        (json_key : (i j : ℕ) (v : List Event) → inside (json_part 0 flow_key) i j v → inside (json_part n flow_in) i j v) where
      way_spaces : (j a : ℕ) → maybe (sep cs) j a → Solid cs a → Way cs j a
      way_spaces j a (inl e) s = subst (Way cs j) (sym e) (way_here cs j (subst (Solid cs) e s))
      way_spaces j a (inr r) s = way_sep cs j a r s

      -- a key and its spaces, up to the colon
      key_end : (j a : ℕ) → maybe (sep cs) j a → Colon a → Fj j
      key_end j a s h = (a, way_spaces j a s (colon_solid a h), inr h)

      key_end_yaml : (j a : ℕ) → maybe (sep cs) j a → ColonY a → Fy j
      key_end_yaml j a s h = (a, way_spaces j a s (colon_solid a h.0), inr h)

      yaml_key_unique : Unique (implicit_yaml_key cs Wide handles Open inside flow_key) (At ColonY)
      unfolding implicit_yaml_key
      yaml_key_unique i j k m o v w (p, (a, r, s)) (e, x) (q, (b, t, u)) (f, y) =
          let h = until (facts.yaml n) i a b v w (yaml_key i a v r) (key_end_yaml a j s x) (yaml_key i b w t) (key_end_yaml b k u y) in
          let g : j ≡ k = way_same cs b j k (subst (λ z. Way cs z j) h.0 (way_spaces a j s (colon_solid j x.0))) (way_spaces b k u (colon_solid k y.0)) in
          (sym e ∙ g ∙ f, h.1)

      json_key_unique : Unique (implicit_json_key cs Wide handles Open inside flow_key) (At Colon)
      unfolding implicit_json_key
      json_key_unique i j k m o v w (p, (a, r, s)) (e, x) (q, (b, t, u)) (f, y) =
          let h = until (facts.json n) i a b v w (json_key i a v r) (key_end a j s x) (json_key i b w t) (key_end b k u y) in
          let g : j ≡ k = way_same cs b j k (subst (λ z. Way cs z j) h.0 (way_spaces a j s (colon_solid j x))) (way_spaces b k u (colon_solid k y)) in
          (sym e ∙ g ∙ f, h.1)

      -- the key that a pair begins with
      pub data PairKey (i : ℕ) : Type 0 where
        of_yaml : (a q : ℕ) (v : List Event) → inside (yaml_part 0 flow_key) i a v → Way cs a q → ColonY q → PairKey i
        of_json : (a q : ℕ) (v : List Event) → inside (json_part 0 flow_key) i a v → Way cs a q → Colon q → PairKey i
        of_colon : ColonY i → PairKey i
        of_mark : MarkHere i → PairKey i

      pub pair_key : (i j : ℕ) (v : List Event) → pair cs Wide handles Open inside n flow_in i j v → PairKey i
      unfolding pair implicit_yaml_key implicit_json_key
      pair_key i j v (o, (t, inl (a, us, vs, (p, (b, r, s)), u, x), y)) =
          of_yaml b a us r (way_spaces b a s (colon_solid a (value_colon a j vs u).0)) (value_colon a j vs u)
      pair_key i j v (o, (t, inr (inl (a, us, vs, (p, (b, r, s)), u, x)), y)) =
          of_json b a us r (way_spaces b a s (colon_solid a (adjacent_colon a j vs u))) (adjacent_colon a j vs u)
      pair_key i j v (o, (t, inr (inr (x, r)), y)) = go (loose_here i j t r)
        where
          go : ColonY i ⊎ MarkHere i → PairKey i
          go (inl a) = of_colon a
          go (inr a) = of_mark a

      pub pair_unique : Unique (pair cs Wide handles Open inside n flow_in) Es
      unfolding pair implicit_yaml_key implicit_json_key
      pair_unique = unique_given Open (λ o. unique_seen _ (unique_either
          (ends_es (unique_joined ColonY yaml_key_unique (λ i j m v r e. value_colon i j v r) value_unique))
          (unique_either (ends_es (unique_joined Colon json_key_unique (λ i j m v r e. adjacent_colon i j v r) adjacent_unique))
          (unique_given Wide (λ w. loose_unique)) json_loose)
          go))
        where
          json_loose : Apart (implicit_json_key cs Wide handles Open inside flow_key ⨾ adjacent cs Wide handles Open inside n flow_in) Es
              (given Wide (empty_key cs Wide handles Open inside n flow_in ∪ explicit cs Wide handles Open inside n flow_in)) Es
          json_loose i j k m o v w (a, us, vs, (p, (b, r, s)), u, x) e (y, t) f = item_no_loose i k w (facts.json_start n i b us (json_key i b us r)) t

          go : Apart (implicit_yaml_key cs Wide handles Open inside flow_key ⨾ value cs Wide handles Open inside n flow_in) Es
              ((implicit_json_key cs Wide handles Open inside flow_key ⨾ adjacent cs Wide handles Open inside n flow_in)
              ∪ given Wide (empty_key cs Wide handles Open inside n flow_in ∪ explicit cs Wide handles Open inside n flow_in)) Es
          go i j k m o v w (a, us, vs, (p, (b, r, s)), u, x) e (inl (c2, ws, ts, (q, (d, t, y)), z, g)) f =
              facts.apart n i b d b d us ws (yaml_key i b us r) (refl, key_end_yaml b a s (value_colon a j vs u)) (json_key i d ws t) (refl, key_end d c2 y (adjacent_colon c2 k ts z))
          go i j k m o v w (a, us, vs, (p, (b, r, s)), u, x) e (inr (y, t)) f = item_no_loose i k w (facts.yaml_start n i b us (yaml_key i b us r)) t
