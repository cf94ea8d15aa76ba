-- From the nodes in a flow collection to those that hold it.
use Rattle.std.proofs.Common.{◌≡◌, ℕ, zero, suc, ◌+◌, ◌⊎◌, inl, inr, List, [], ◌∷◌, true, false, Some, refl, sym, ◌∙◌, ap, subst, arith}
use Rattle.std.specs.Prelude.{slice_get}
use Rattle.yaml_definitions.specs.grammar.Rules.{Rule, ◌∪◌, with_value, never}
use Rattle.yaml_definitions.specs.grammar.Characters.{is_ns, is_nb, is_break, is_white, is_indicator, is_flow_indicator}
use Rattle.yaml_definitions.specs.grammar.Separation.{Ctx, flow_in, flow_out, flow_key, inner, s-separate as separate}
use Rattle.yaml_definitions.specs.grammar.Tags.{Handles, c-ns-properties as properties}
use Rattle.yaml_definitions.specs.grammar.Tags as tags
use Rattle.yaml_definitions.specs.grammar.FlowScalars.{PlainFirst, ns-plain as plain, plain_safe, is_flow, c-single-quoted as single, c-double-quoted as double, ns-single-char as single_char}
use Rattle.yaml_definitions.specs.model.Event.{Event}
use Rattle.yaml_definitions.specs.grammar.Events.{Props, no_props, scalar}
use Rattle.yaml_definitions.specs.model.Event as style
use Rattle.yaml_definitions.specs.grammar.Nodes.{Part, yaml_part, json_part, part, reads, ns-flow-yaml-node as yaml_node, c-flow-json-node as json_node, c-flow-sequence as flow_seq, c-flow-mapping as flow_map, ns-flow-pair as pair}
use Rattle.yaml_text.specs.Lines.{Inside}
use Rattle.yaml_scalar.specs.Chains.{Later, plain_inner, plain_head, plain_sign, single_chain, single_rest, gap, closing_quote}
use Rattle.yaml_text.proofs.Runs.{same_char}
use Rattle.yaml_text.proofs.Repeats.{SameRule}
use Rattle.yaml_scalar.proofs.PlainLemmas.{no_first_head, no_first_sign, no_later_colon, no_later_inner}
use Rattle.yaml_scalar.proofs.QuotedLemmas.{rest_same, rest_of, single_parts}
use Rattle.yaml_scalar.proofs.QuotedReadings.{single_to_chain}
use Rattle.yaml_scalar.proofs.DoubleReadings.{double_same}
use Rattle.law_one_reading.specs.Readings.{At, Unique, Apart}
use Rattle.law_one_reading.proofs.Lines.{way_of, way_same}
use Rattle.law_one_reading.specs.Follows.{Solid, Fresh, Way, Closes, Colon, EndsYamlKey as ColonY, EndsBracketPart as Fs, EndsYamlNode as Fy, EndsJsonNode as Fj}
use Rattle.law_one_reading.proofs.Properties.{NoMore, prop_solid, props_here, props_two}
use Rattle.law_one_reading.proofs.TagEnds.{prop_same, prop_here, prop_inside, alias_same}
use Rattle.law_one_reading.proofs.FlowNodes.{safe_ns, Kind, Sign, kind, sign_not, sign_colon, kind_colon, kind_fresh, prop_kind, plain_start, ContentHere, YamlRest, JsonRest, Jsons, jsons_start, json_parts, law_one_reading, json_node_unique, nodes_apart}
use Rattle.law_one_reading.proofs.PlainEnds.{plain_stops, stop_way}
use Rattle.law_one_reading.proofs.KeyContexts.{at_flow, Eased, no_eased, reads_eased}
use Rattle.yaml_definitions.proofs.grammar.Widening.{Within, in_reads}
use Rattle.law_one_reading.proofs.FlowEntries.{PartHere, item_part, colon_part, mark_part, of_colon, of_mark, stop_json, closes_colon, ItemHere, closes_solid, colon_solid, stop_yaml, Facts, until, seq_same, map_same, pair_unique, PairKey, of_yaml, of_json, pair_key}

kind_comma : kind 44 ≡ 0
unfolding kind
kind_comma = refl

kind_bracket : kind 93 ≡ 0
unfolding kind
kind_bracket = refl

kind_brace : kind 125 ≡ 0
unfolding kind
kind_brace = refl

sign_comma : plain_sign 44 ≡ false
unfolding plain_sign
sign_comma = refl

head_comma : plain_head 44 ≡ false
unfolding plain_head is_ns is_nb is_break is_white is_indicator
head_comma = refl

inner_comma : plain_inner flow_in 44 ≡ false
unfolding plain_inner plain_safe is_flow is_flow_indicator is_ns is_nb is_break is_white
inner_comma = refl

sign_bracket : plain_sign 93 ≡ false
unfolding plain_sign
sign_bracket = refl

head_bracket : plain_head 93 ≡ false
unfolding plain_head is_ns is_nb is_break is_white is_indicator
head_bracket = refl

inner_bracket : plain_inner flow_in 93 ≡ false
unfolding plain_inner plain_safe is_flow is_flow_indicator is_ns is_nb is_break is_white
inner_bracket = refl

sign_brace : plain_sign 125 ≡ false
unfolding plain_sign
sign_brace = refl

head_brace : plain_head 125 ≡ false
unfolding plain_head is_ns is_nb is_break is_white is_indicator
head_brace = refl

inner_brace : plain_inner flow_in 125 ≡ false
unfolding plain_inner plain_safe is_flow is_flow_indicator is_ns is_nb is_break is_white
inner_brace = refl

kind_question : kind 63 ≡ 0
unfolding kind
kind_question = refl

sign_question : plain_sign 63 ≡ true
unfolding plain_sign
sign_question = refl

pub inner_in : inner flow_in ≡ flow_in
unfolding inner
inner_in = refl

pub inner_out : inner flow_out ≡ flow_in
unfolding inner
inner_out = refl

module _ (cs : List ℕ) where
  closes_no_kind : (k q : ℕ) → Closes cs q → Kind cs k q → ⊥
  closes_no_kind k q (inl h) (x, g, s) = sign_not k x 44 s (same_char cs q x 44 g h) kind_comma
  closes_no_kind k q (inr (inl h)) (x, g, s) = sign_not k x 93 s (same_char cs q x 93 g h) kind_bracket
  closes_no_kind k q (inr (inr h)) (x, g, s) = sign_not k x 125 s (same_char cs q x 125 g h) kind_brace

  closes_no_plain : (c : Ctx) (q : ℕ) → Closes cs q → PlainFirst cs c q → ⊥
  closes_no_plain c q (inl h) f = no_first_head cs c q 44 h sign_comma head_comma f
  closes_no_plain c q (inr (inl h)) f = no_first_head cs c q 93 h sign_bracket head_bracket f
  closes_no_plain c q (inr (inr h)) f = no_first_head cs c q 125 h sign_brace head_brace f

  pub closes_no_later : (q : ℕ) → Closes cs q → Later cs flow_in q → ⊥
  closes_no_later q (inl h) l = no_later_inner cs flow_in q 44 h (λ e. omega (arith, e)) inner_comma l
  closes_no_later q (inr (inl h)) l = no_later_inner cs flow_in q 93 h (λ e. omega (arith, e)) inner_bracket l
  closes_no_later q (inr (inr h)) l = no_later_inner cs flow_in q 125 h (λ e. omega (arith, e)) inner_brace l

  colon_no_kind : (k q : ℕ) → Colon cs q → Kind cs k q → ⊥
  colon_no_kind k q h (x, g, s) = sign_not k x 58 s (same_char cs q x 58 g h) kind_colon

  question_no_kind : (k q : ℕ) → slice_get cs q ≡ Some 63 → Kind cs k q → ⊥
  question_no_kind k q h (x, g, s) = sign_not k x 63 s (same_char cs q x 63 g h) kind_question

  colon_no_plain : (q : ℕ) → ColonY cs q → PlainFirst cs flow_in q → ⊥
  colon_no_plain q (h, n) f = no_first_sign cs flow_in q (q + 1) 58 h sign_colon refl n f

  end_no_kind : (k q : ℕ) → Closes cs q ⊎ ColonY cs q → Kind cs k q → ⊥
  end_no_kind k q (inl h) a = closes_no_kind k q h a
  end_no_kind k q (inr h) a = colon_no_kind k q h.0 a

  end_no_plain : (q : ℕ) → Closes cs q ⊎ ColonY cs q → PlainFirst cs flow_in q → ⊥
  end_no_plain q (inl h) a = closes_no_plain flow_in q h a
  end_no_plain q (inr h) a = colon_no_plain q h a

  pub end_solid : (q : ℕ) → Closes cs q ⊎ ColonY cs q → Solid cs q
  end_solid q (inl h) = closes_solid cs q h
  end_solid q (inr h) = colon_solid cs q h.0

  item_kind : (k i : ℕ) → Kind cs k i → ItemHere cs i
  item_kind k i a = (kind_fresh cs k i a, (λ h. closes_no_kind k i h a), (λ h. colon_no_kind k i h.0 a), λ h. question_no_kind k i h.0 a)

  item_plain : (i : ℕ) → Fresh cs i → PlainFirst cs flow_in i → ItemHere cs i
  item_plain i f a = (f, (λ h. closes_no_plain flow_in i h a), (λ h. colon_no_plain i h a), λ (h, n). no_first_sign cs flow_in i (i + 1) 63 h sign_question refl (λ (x, g, t). n (x, g, safe_ns flow_in x t)) a)

  pub next_flow : (handles : Handles) (n k : ℕ) → Inside cs k → Fy cs k → NoMore cs handles n k
  next_flow handles n k o (q, w, h) c x s p =
      let e : q ≡ x = way_same cs k q x w (way_of cs n c k x s (prop_solid cs handles x p).0) in
      end_no_kind 1 q h (subst (Kind cs 1) (sym e) (prop_kind cs handles x p))

  pub content_flow : (n k x : ℕ) → Inside cs k → Fy cs k → separate cs n flow_in k x → ContentHere cs flow_in x → ⊥
  content_flow n k x o (q, w, h) s (f, a) =
      let e : x ≡ q = way_same cs k x q (way_of cs n flow_in k x s f.0) w in go e a
    where
      go : x ≡ q → Kind cs 3 x ⊎ PlainFirst cs flow_in x → ⊥
      go e (inl b) = end_no_kind 3 q h (subst (Kind cs 3) e b)
      go e (inr b) = end_no_plain q h (subst (PlainFirst cs flow_in) e b)

  pub plain_flow_unique : (n : ℕ) → Unique (plain cs n flow_in) (At (Fy cs))
  plain_flow_unique n = plain_stops cs n flow_in (Fy cs) (λ j o xs a (q, w, h) r u. stop_way cs n flow_in j o q xs r a w (later q h))
    where
      later : (q : ℕ) → Closes cs q ⊎ ColonY cs q → Later cs flow_in q → ⊥
      later q (inl h) l = closes_no_later q h l
      later q (inr (h, n)) l = no_later_colon cs flow_in q (q + 1) h refl n l

  single_chain_same : (n : ℕ) (c : Ctx) → SameRule (single_chain cs n c)
  unfolding single_chain single_rest
  single_chain_same n c i j k xs ys (u, (m, (h, e), p)) (v, (o, (g, f), q)) =
      rest_same cs _ _ _ _ (single_parts cs n c) m j k xs ys p (subst (λ x. rest_of cs (gap cs n c) (single_char cs) (closing_quote cs) x k ys) (f ∙ sym e) q)

  pub single_same : (n : ℕ) (c : Ctx) → SameRule (single cs n c)
  single_same n c i j k xs ys r s = single_chain_same n c i j k xs ys (single_to_chain cs n c i j xs r) (single_to_chain cs n c i k ys s)

  single_first : (n : ℕ) (c : Ctx) (i j : ℕ) (xs : List ℕ) → single cs n c i j xs → slice_get cs i ≡ Some 39
  unfolding single
  single_first n c i j xs (u, (k, (h, e), r)) = h

  double_first : (n : ℕ) (c : Ctx) (i j : ℕ) (xs : List ℕ) → double cs n c i j xs → slice_get cs i ≡ Some 34
  unfolding double
  double_first n c i j xs (u, (k, (h, e), r)) = h

  module _ (Wide : Type 0) (handles : Handles) (Open : Type 0) (inside : Part → Rule (List Event)) (facts : Facts cs inside) where
    seq_first : (p : Props) (n : ℕ) (c : Ctx) (i j : ℕ) (v : List Event) → flow_seq cs Wide handles Open inside p n c i j v → slice_get cs i ≡ Some 91
    unfolding flow_seq
    seq_first p n c i j v (o, (t, (k, (l, (h, e), s), r), x)) = h

    map_first : (p : Props) (n : ℕ) (c : Ctx) (i j : ℕ) (v : List Event) → flow_map cs Wide handles Open inside p n c i j v → slice_get cs i ≡ Some 123
    unfolding flow_map
    map_first p n c i j v (o, (t, (k, (l, (h, e), s), r), x)) = h

    pub jsons_same : (n : ℕ) (c : Ctx) → inner c ≡ flow_in → (p : Props) → SameRule (Jsons cs Wide handles Open inside n c p)
    jsons_same n c ci p i j k v w (inl (r0, r1, r2)) (inl (s0, s1, s2)) = let h = single_same n c i j k r0 s0 r1 s1 in (h.0, r2 ∙ ap (λ z. scalar p style.single z ∷ []) h.1 ∙ sym s2)
    jsons_same n c ci p i j k v w (inl (r0, r1, r2)) (inr (inl (s0, s1, s2))) = let z : 39 ≡ 34 = same_char cs i 39 34 (single_first n c i j r0 r1) (double_first n c i k s0 s1) in absurd (omega (arith, z))
    jsons_same n c ci p i j k v w (inl (r0, r1, r2)) (inr (inr (inl s1))) = let z : 39 ≡ 91 = same_char cs i 39 91 (single_first n c i j r0 r1) (seq_first p n c i k w s1) in absurd (omega (arith, z))
    jsons_same n c ci p i j k v w (inl (r0, r1, r2)) (inr (inr (inr s1))) = let z : 39 ≡ 123 = same_char cs i 39 123 (single_first n c i j r0 r1) (map_first p n c i k w s1) in absurd (omega (arith, z))
    jsons_same n c ci p i j k v w (inr (inl (r0, r1, r2))) (inl (s0, s1, s2)) = let z : 34 ≡ 39 = same_char cs i 34 39 (double_first n c i j r0 r1) (single_first n c i k s0 s1) in absurd (omega (arith, z))
    jsons_same n c ci p i j k v w (inr (inl (r0, r1, r2))) (inr (inl (s0, s1, s2))) = let h = double_same cs n c i j k r0 s0 r1 s1 in (h.0, r2 ∙ ap (λ z. scalar p style.double z ∷ []) h.1 ∙ sym s2)
    jsons_same n c ci p i j k v w (inr (inl (r0, r1, r2))) (inr (inr (inl s1))) = let z : 34 ≡ 91 = same_char cs i 34 91 (double_first n c i j r0 r1) (seq_first p n c i k w s1) in absurd (omega (arith, z))
    jsons_same n c ci p i j k v w (inr (inl (r0, r1, r2))) (inr (inr (inr s1))) = let z : 34 ≡ 123 = same_char cs i 34 123 (double_first n c i j r0 r1) (map_first p n c i k w s1) in absurd (omega (arith, z))
    jsons_same n c ci p i j k v w (inr (inr (inl r1))) (inl (s0, s1, s2)) = let z : 91 ≡ 39 = same_char cs i 91 39 (seq_first p n c i j v r1) (single_first n c i k s0 s1) in absurd (omega (arith, z))
    jsons_same n c ci p i j k v w (inr (inr (inl r1))) (inr (inl (s0, s1, s2))) = let z : 91 ≡ 34 = same_char cs i 91 34 (seq_first p n c i j v r1) (double_first n c i k s0 s1) in absurd (omega (arith, z))
    jsons_same n c ci p i j k v w (inr (inr (inl r1))) (inr (inr (inl s1))) = seq_same cs Wide handles Open inside facts n c ci p i j k v w r1 s1
    jsons_same n c ci p i j k v w (inr (inr (inl r1))) (inr (inr (inr s1))) = let z : 91 ≡ 123 = same_char cs i 91 123 (seq_first p n c i j v r1) (map_first p n c i k w s1) in absurd (omega (arith, z))
    jsons_same n c ci p i j k v w (inr (inr (inr r1))) (inl (s0, s1, s2)) = let z : 123 ≡ 39 = same_char cs i 123 39 (map_first p n c i j v r1) (single_first n c i k s0 s1) in absurd (omega (arith, z))
    jsons_same n c ci p i j k v w (inr (inr (inr r1))) (inr (inl (s0, s1, s2))) = let z : 123 ≡ 34 = same_char cs i 123 34 (map_first p n c i j v r1) (double_first n c i k s0 s1) in absurd (omega (arith, z))
    jsons_same n c ci p i j k v w (inr (inr (inr r1))) (inr (inr (inl s1))) = let z : 123 ≡ 91 = same_char cs i 123 91 (map_first p n c i j v r1) (seq_first p n c i k w s1) in absurd (omega (arith, z))
    jsons_same n c ci p i j k v w (inr (inr (inr r1))) (inr (inr (inr s1))) = map_same cs Wide handles Open inside facts n c ci p i j k v w r1 s1

    pub jsons_unique : (n : ℕ) (c : Ctx) → inner c ≡ flow_in → (F : ℕ → Type 0) (p : Props) → Unique (Jsons cs Wide handles Open inside n c p) (At F)
    jsons_unique n c ci F p i j k m o v w r (e, f) s (g, h) = let x = jsons_same n c ci p i j k v w r s in (sym e ∙ x.0 ∙ g, x.1)

    abbrev Yaml : ℕ → Rule (List Event)
    Yaml n = yaml_node cs Wide handles Open inside n flow_in

    abbrev Json : ℕ → Rule (List Event)
    Json n = json_node cs Wide handles Open inside n flow_in

    yaml_here : (n : ℕ) → Unique (Yaml n) (At (Fy cs))
    yaml_here n = law_one_reading cs Wide handles Open inside n flow_in (Fy cs) (Fj cs) (prop_same cs handles) (prop_here cs handles) (prop_inside cs handles) (alias_same cs)
        (plain_flow_unique n) (jsons_unique n flow_in inner_in (Fj cs)) (next_flow handles n) (content_flow n)

    json_here : (n : ℕ) → Unique (Json n) (At (Fj cs))
    json_here n = json_node_unique cs Wide handles Open inside n flow_in (Fy cs) (Fj cs) (prop_same cs handles) (prop_here cs handles) (prop_inside cs handles) (alias_same cs)
        (plain_flow_unique n) (jsons_unique n flow_in inner_in (Fj cs)) (next_flow handles n) (content_flow n)

    apart_here : (n : ℕ) → Apart (Yaml n) (At (Fy cs)) (Json n) (At (Fj cs))
    apart_here n = nodes_apart cs Wide handles Open inside n flow_in (Fy cs) (Fj cs) (prop_same cs handles) (prop_here cs handles) (prop_inside cs handles) (alias_same cs)
        (plain_flow_unique n) (jsons_unique n flow_in inner_in (Fj cs)) (next_flow handles n) (content_flow n)

    props_item : {V : Type 0} (n : ℕ) (S : Props → Rule V) (i j : ℕ) (v : V) → with_value (properties cs handles n flow_in) S i j v → ItemHere cs i
    props_item n S i j v (k, p, r, s) = item_kind 1 i (prop_kind cs handles i (props_here cs handles (prop_same cs handles) (prop_here cs handles) (prop_inside cs handles) n flow_in i k p (props_two cs handles n flow_in i k p r)))

    yaml_item : (n i j : ℕ) (v : List Event) → Yaml n i j v → ItemHere cs i
    unfolding yaml_node tags.c-ns-alias-node
    yaml_item n i j v (inl (x, (k, (h, e), r), f)) = item_kind 2 i (42, h, Sign.star 42 refl)
    yaml_item n i j v (inr (inl (t, r, e))) = let (f, h) = plain_start cs n flow_in i j t r in item_plain i f h
    yaml_item n i j v (inr (inr (k, p, r, s))) = props_item n (λ q. YamlRest cs Wide handles Open inside n flow_in q) i j v (k, p, r, s)

    json_item : (n i j : ℕ) (v : List Event) → Json n i j v → ItemHere cs i
    json_item n i j v r = go (json_parts cs Wide handles Open inside n flow_in i j v r)
      where
        go : (Jsons cs Wide handles Open inside n flow_in no_props ∪ with_value (properties cs handles n flow_in) (JsonRest cs Wide handles Open inside n flow_in)) i j v → ItemHere cs i
        go (inl s) = item_kind 3 i (jsons_start cs Wide handles Open inside n flow_in no_props i j v s)
        go (inr s) = props_item n (JsonRest cs Wide handles Open inside n flow_in) i j v s

    module _ (eased : Eased cs Wide handles inside) (wider : (p : Part) → Within (inside p) (part cs Wide handles Open inside p)) where
      yaml_key : (n i j : ℕ) (v : List Event) → inside (yaml_part 0 flow_key) i j v → inside (yaml_part n flow_in) i j v
      yaml_key n = eased.yaml flow_key flow_in at_flow 0 n

      json_key : (n i j : ℕ) (v : List Event) → inside (json_part 0 flow_key) i j v → inside (json_part n flow_in) i j v
      json_key n = eased.json flow_key flow_in at_flow 0 n

      key_of : (n i j : ℕ) (v : List Event) → pair cs Wide handles Open inside n flow_in i j v → PairKey cs Wide handles Open inside facts n (yaml_key n) (json_key n) i
      key_of n i j v r = pair_key cs Wide handles Open inside facts n (yaml_key n) (json_key n) i j v r

      pair_item : (n i j : ℕ) (v : List Event) → pair cs Wide handles Open inside n flow_in i j v → PartHere cs i
      pair_item n i j v r = go (key_of n i j v r)
        where
          go : PairKey cs Wide handles Open inside facts n (yaml_key n) (json_key n) i → PartHere cs i
          go (of_yaml a q u s w h) = item_part cs i (facts.yaml_start n i a u (yaml_key n i a u s))
          go (of_json a q u s w h) = item_part cs i (facts.json_start n i a u (json_key n i a u s))
          go (of_colon h) = colon_part cs i h.0
          go (of_mark h) = mark_part cs i h.0

      -- a stop is no colon
      stop_colon : (j q : ℕ) → Fs cs j → Way cs j q → Colon cs q → ⊥
      stop_colon j q (x, w, h) y z = closes_colon cs q (subst (Closes cs) (way_same cs j x q w y) h) z

      pair_no_yaml : (n : ℕ) → Apart (pair cs Wide handles Open inside n flow_in) (At (Fs cs)) (Yaml n) (At (Fs cs))
      pair_no_yaml n i j k m o v w r e s (f, g) = go (key_of n i j v r)
        where
          go : PairKey cs Wide handles Open inside facts n (yaml_key n) (json_key n) i → ⊥
          go (of_yaml a q u t y h) =
              let z = until cs (yaml_here n) i a k u w (wider (yaml_part n flow_in) i a u (yaml_key n i a u t)) (q, y, inr h) s (stop_yaml cs k g) in
              stop_colon k q g (subst (λ x. Way cs x q) z.0 y) h.0
          go (of_json a q u t y h) = apart_here n i k a k a w u s (refl, stop_yaml cs k g) (wider (json_part n flow_in) i a u (json_key n i a u t)) (refl, (q, y, inr h))
          go (of_colon h) = (yaml_item n i k w s).2 h
          go (of_mark h) = (yaml_item n i k w s).3 h

      pair_no_json : (n : ℕ) → Apart (pair cs Wide handles Open inside n flow_in) (At (Fs cs)) (Json n) (At (Fs cs))
      pair_no_json n i j k m o v w r e s (f, g) = go (key_of n i j v r)
        where
          go : PairKey cs Wide handles Open inside facts n (yaml_key n) (json_key n) i → ⊥
          go (of_yaml a q u t y h) = apart_here n i a k a k u w (wider (yaml_part n flow_in) i a u (yaml_key n i a u t)) (refl, (q, y, inr h)) s (refl, stop_json cs k g)
          go (of_json a q u t y h) =
              let z = until cs (json_here n) i a k u w (wider (json_part n flow_in) i a u (json_key n i a u t)) (q, y, inr h) s (stop_json cs k g) in
              stop_colon k q g (subst (λ x. Way cs x q) z.0 y) h
          go (of_colon h) = (json_item n i k w s).2 h
          go (of_mark h) = (json_item n i k w s).3 h

      -- the nodes that hold these
      pub facts_next : Facts cs (part cs Wide handles Open inside)
      facts_next = record {
        yaml = yaml_here;
        json = json_here;
        apart = apart_here;
        yaml_start = yaml_item;
        json_start = json_item;
        pair = λ n. pair_unique cs Wide handles Open inside facts n (yaml_key n) (json_key n);
        pair_start = pair_item;
        pair_yaml = pair_no_yaml;
        pair_json = pair_no_json;
      }

  -- ---- by induction on the room

  module _ (Wide : Type 0) (handles : Handles) where
    pub no_facts : Facts cs (λ q. never)
    no_facts = record {
      yaml = λ n i j k m o v w r. absurd r;
      json = λ n i j k m o v w r. absurd r;
      apart = λ n i j k m o v w r. absurd r;
      yaml_start = λ n i j v r. absurd r;
      json_start = λ n i j v r. absurd r;
      pair = λ n i j k m o v w r. absurd r;
      pair_start = λ n i j v r. absurd r;
      pair_yaml = λ n i j k m o v w r. absurd r;
      pair_json = λ n i j k m o v w r. absurd r;
    }

    pub reads_facts : (room : ℕ) → Facts cs (reads cs Wide handles room)
    unfolding reads
    reads_facts zero = facts_next Wide handles ⊥ (λ q. never) no_facts (no_eased cs Wide handles) (λ p i j v r. absurd r)
    reads_facts (suc room) = facts_next Wide handles (Unit {0}) (reads cs Wide handles room) (reads_facts room) (reads_eased cs Wide handles room) (λ p. one_more room p)
      where
        one_more : (room : ℕ) (p : Part) → Within (reads cs Wide handles room p) (part cs Wide handles (Unit {0}) (reads cs Wide handles room) p)
        one_more room p i j v r = in_reads cs Wide Wide (λ h. h) handles room (suc room) (omega arith) p i j v r
