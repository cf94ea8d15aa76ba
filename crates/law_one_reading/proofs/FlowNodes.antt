-- A flow node: an alias, or perhaps properties and content, or properties alone.
use Rattle.std.proofs.Common.{◌≡◌, ℕ, ◌⊎◌, inl, inr, List, [], ◌∷◌, true, false, Some, refl, sym, ◌∙◌, ap, subst, arith}
use Rattle.std.specs.Prelude.{slice_get, if◌then◌else◌, ◌==◌, ◌||◌}
use Rattle.yaml_definitions.specs.grammar.Rules.{Rule, ◌▸◌, ◌∪◌, gives, seen, with_value}
use Rattle.yaml_definitions.specs.grammar.Characters.{is_ns, is_nb, is_break, is_white, is_indicator}
use Rattle.yaml_definitions.specs.grammar.Separation.{Ctx, s-separate as separate}
use Rattle.yaml_definitions.specs.grammar.Tags.{Handles, c-ns-tag-property as tag, c-ns-anchor-property as anchor, c-ns-properties as properties}
use Rattle.yaml_definitions.specs.grammar.Tags as tags
use Rattle.yaml_definitions.specs.grammar.FlowScalars.{ns-plain as plain, c-single-quoted as single, c-double-quoted as double, PlainFirst, plain_safe, plain_line}
use Rattle.yaml_definitions.specs.model.Event.{Event}
use Rattle.yaml_definitions.specs.model.Event as style
use Rattle.yaml_definitions.specs.grammar.Events.{Props, no_props, alias_node, e-scalar as empty}
use Rattle.yaml_definitions.specs.grammar.Nodes.{Part, ns-flow-yaml-node as yaml_node, c-flow-json-node as json_node, scalar_of, c-flow-sequence as flow_seq, c-flow-mapping as flow_map}
use Rattle.yaml_scalar.specs.Chains.{plain_head, plain_sign}
use Rattle.yaml_text.specs.Lines.{Inside}
use Rattle.yaml_text.proofs.Runs.{same_char}
use Rattle.yaml_scalar.proofs.PlainLemmas.{no_first_head, first_ns, no_plain_mark}
use Rattle.yaml_scalar.proofs.PlainReadings.{plain_to_chain}
use Rattle.law_one_reading.proofs.Unique.{unique_within, unique_gives, unique_seen, unique_before, unique_either, unique_from, unique_from_either, from}
use Rattle.law_one_reading.specs.Readings.{At, Unique, Apart, OneWayOn, To}
use Rattle.law_one_reading.proofs.Lines.{way_of, way_same, char_fresh}
use Rattle.law_one_reading.specs.Follows.{Solid, Fresh}
use Rattle.law_one_reading.proofs.Properties.{PropHere, NoMore, prop, props_two, props_here, unique_propped, apart_propped, prop_solid}

-- what a character begins: 1 a property, 2 an alias, 3 a quoted text or a flow collection, 4 a block scalar, 0 anything else
unfoldable pub kind : ℕ → ℕ
kind c =
    if c == 33 || c == 38 then 1 else if c == 42 then 2 else if c == 34 || c == 39 || c == 91 || c == 123 then 3
    else if c == 124 || c == 62 then 4 else 0

pub data Sign : ℕ → ℕ → Type 0 where
  bang : (c : ℕ) → c ≡ 33 → Sign 1 c
  and : (c : ℕ) → c ≡ 38 → Sign 1 c
  star : (c : ℕ) → c ≡ 42 → Sign 2 c
  quotes : (c : ℕ) → c ≡ 34 → Sign 3 c
  quote : (c : ℕ) → c ≡ 39 → Sign 3 c
  bracket : (c : ℕ) → c ≡ 91 → Sign 3 c
  brace : (c : ℕ) → c ≡ 123 → Sign 3 c
  bar : (c : ℕ) → c ≡ 124 → Sign 4 c
  greater : (c : ℕ) → c ≡ 62 → Sign 4 c

sign_kind : (k c : ℕ) → Sign k c → kind c ≡ k
unfolding kind
sign_kind _ c (Sign.bang d e) = ap kind e
sign_kind _ c (Sign.and d e) = ap kind e
sign_kind _ c (Sign.star d e) = ap kind e
sign_kind _ c (Sign.quotes d e) = ap kind e
sign_kind _ c (Sign.quote d e) = ap kind e
sign_kind _ c (Sign.bracket d e) = ap kind e
sign_kind _ c (Sign.brace d e) = ap kind e
sign_kind _ c (Sign.bar d e) = ap kind e
sign_kind _ c (Sign.greater d e) = ap kind e

sign_plain : (k c : ℕ) → Sign k c → plain_sign c ≡ false
unfolding plain_sign
sign_plain _ c (Sign.bang d e) = ap plain_sign e
sign_plain _ c (Sign.and d e) = ap plain_sign e
sign_plain _ c (Sign.star d e) = ap plain_sign e
sign_plain _ c (Sign.quotes d e) = ap plain_sign e
sign_plain _ c (Sign.quote d e) = ap plain_sign e
sign_plain _ c (Sign.bracket d e) = ap plain_sign e
sign_plain _ c (Sign.brace d e) = ap plain_sign e
sign_plain _ c (Sign.bar d e) = ap plain_sign e
sign_plain _ c (Sign.greater d e) = ap plain_sign e

sign_head : (k c : ℕ) → Sign k c → plain_head c ≡ false
unfolding plain_head is_ns is_nb is_break is_white is_indicator
sign_head _ c (Sign.bang d e) = ap plain_head e
sign_head _ c (Sign.and d e) = ap plain_head e
sign_head _ c (Sign.star d e) = ap plain_head e
sign_head _ c (Sign.quotes d e) = ap plain_head e
sign_head _ c (Sign.quote d e) = ap plain_head e
sign_head _ c (Sign.bracket d e) = ap plain_head e
sign_head _ c (Sign.brace d e) = ap plain_head e
sign_head _ c (Sign.bar d e) = ap plain_head e
sign_head _ c (Sign.greater d e) = ap plain_head e

sign_ns : (k c : ℕ) → Sign k c → is_ns c ≡ true
unfolding is_ns is_nb is_break is_white
sign_ns _ c (Sign.bang d e) = ap is_ns e
sign_ns _ c (Sign.and d e) = ap is_ns e
sign_ns _ c (Sign.star d e) = ap is_ns e
sign_ns _ c (Sign.quotes d e) = ap is_ns e
sign_ns _ c (Sign.quote d e) = ap is_ns e
sign_ns _ c (Sign.bracket d e) = ap is_ns e
sign_ns _ c (Sign.brace d e) = ap is_ns e
sign_ns _ c (Sign.bar d e) = ap is_ns e
sign_ns _ c (Sign.greater d e) = ap is_ns e

-- no other character is one of them
pub sign_not : (k c d : ℕ) → Sign k c → c ≡ d → kind d ≡ 0 → ⊥
sign_not k c d (Sign.bang x e) f h = let a : kind c ≡ 1 = sign_kind 1 c (Sign.bang x e) in let b : kind c ≡ 0 = ap kind f ∙ h in let z : 1 ≡ 0 = sym a ∙ b in omega (arith, z)
sign_not k c d (Sign.and x e) f h = let a : kind c ≡ 1 = sign_kind 1 c (Sign.and x e) in let b : kind c ≡ 0 = ap kind f ∙ h in let z : 1 ≡ 0 = sym a ∙ b in omega (arith, z)
sign_not k c d (Sign.star x e) f h = let a : kind c ≡ 2 = sign_kind 2 c (Sign.star x e) in let b : kind c ≡ 0 = ap kind f ∙ h in let z : 2 ≡ 0 = sym a ∙ b in omega (arith, z)
sign_not k c d (Sign.quotes x e) f h = let a : kind c ≡ 3 = sign_kind 3 c (Sign.quotes x e) in let b : kind c ≡ 0 = ap kind f ∙ h in let z : 3 ≡ 0 = sym a ∙ b in omega (arith, z)
sign_not k c d (Sign.quote x e) f h = let a : kind c ≡ 3 = sign_kind 3 c (Sign.quote x e) in let b : kind c ≡ 0 = ap kind f ∙ h in let z : 3 ≡ 0 = sym a ∙ b in omega (arith, z)
sign_not k c d (Sign.bracket x e) f h = let a : kind c ≡ 3 = sign_kind 3 c (Sign.bracket x e) in let b : kind c ≡ 0 = ap kind f ∙ h in let z : 3 ≡ 0 = sym a ∙ b in omega (arith, z)
sign_not k c d (Sign.brace x e) f h = let a : kind c ≡ 3 = sign_kind 3 c (Sign.brace x e) in let b : kind c ≡ 0 = ap kind f ∙ h in let z : 3 ≡ 0 = sym a ∙ b in omega (arith, z)
sign_not k c d (Sign.bar x e) f h = let a : kind c ≡ 4 = sign_kind 4 c (Sign.bar x e) in let b : kind c ≡ 0 = ap kind f ∙ h in let z : 4 ≡ 0 = sym a ∙ b in omega (arith, z)
sign_not k c d (Sign.greater x e) f h = let a : kind c ≡ 4 = sign_kind 4 c (Sign.greater x e) in let b : kind c ≡ 0 = ap kind f ∙ h in let z : 4 ≡ 0 = sym a ∙ b in omega (arith, z)

pub kind_colon : kind 58 ≡ 0
unfolding kind
kind_colon = refl

pub kind_dash : kind 45 ≡ 0
unfolding kind
kind_dash = refl

pub sign_colon : plain_sign 58 ≡ true
unfolding plain_sign
sign_colon = refl

pub sign_dash : plain_sign 45 ≡ true
unfolding plain_sign
sign_dash = refl

pub safe_ns : (c : Ctx) (x : ℕ) → plain_safe c x ≡ true → is_ns x ≡ true
unfolding plain_safe
safe_ns c x h = grind (arith, h)

hash_sign : plain_sign 35 ≡ false
unfolding plain_sign
hash_sign = refl

hash_head : plain_head 35 ≡ false
unfolding plain_head is_indicator is_ns is_nb is_break is_white
hash_head = refl

module _ (cs : List ℕ) where
  abbrev pub Kind : ℕ → ℕ → Type 0
  Kind k i = (c : ℕ) × (slice_get cs i ≡ Some c) × Sign k c

  pub kind_same : (a b i : ℕ) → Kind a i → Kind b i → a ≡ b
  kind_same a b i (c, h, e) (d, g, f) = sym (sign_kind a c e) ∙ ap kind (same_char cs i c d h g) ∙ sign_kind b d f

  pub plain_no_kind : (c : Ctx) (k i : ℕ) → Kind k i → PlainFirst cs c i → ⊥
  plain_no_kind c k i (x, h, e) = no_first_head cs c i x h (sign_plain k x e) (sign_head k x e)

  -- content begins here: a plain scalar, a quoted one or a flow collection
  abbrev pub ContentHere : Ctx → ℕ → Type 0
  ContentHere c q = Fresh cs q × (Kind 3 q ⊎ PlainFirst cs c q)

  pub prop_kind : (handles : Handles) (i : ℕ) → PropHere cs handles i → Kind 1 i
  prop_kind handles i (inl h) = (33, h, Sign.bang 33 refl)
  prop_kind handles i (inr h) = (38, h, Sign.and 38 refl)

  pub kind_fresh : (k i : ℕ) → Kind k i → Fresh cs i
  unfolding kind
  kind_fresh k i (x, h, e) = char_fresh cs i x h (sign_ns k x e) (λ f. sign_not k x 35 e f refl) (λ f. sign_not k x 45 e f refl) (λ f. sign_not k x 46 e f refl)

  pub kind_three : (i : ℕ) → Kind 3 i → Fresh cs i
  kind_three i h = kind_fresh 3 i h

  pub plain_start : (n : ℕ) (c : Ctx) (i j : ℕ) (xs : List ℕ) → plain cs n c i j xs → Fresh cs i × PlainFirst cs c i
  unfolding plain plain_line
  plain_start n c i j xs (u, (k, us, vs, ((b, (l, (f, e), (le, t))), g), r, x)) = (
    (
      (first_ns cs c i f, λ h. no_first_head cs c i 35 h hash_sign hash_head f),
      λ m. no_plain_mark cs n c i m j xs (plain_to_chain cs n c i j xs (u, (k, us, vs, ((b, (l, (f, e), (le, t))), g), r, x))),
    ),
    f,
  )

  module _ (Wide : Type 0) (handles : Handles) (Open : Type 0) (inside : Part → Rule (List Event)) (n : ℕ) (c : Ctx) where
    abbrev pub Jsons : Props → Rule (List Event)
    Jsons p =
        scalar_of cs Wide handles Open inside p style.single (single cs n c)
        ∪ scalar_of cs Wide handles Open inside p style.double (double cs n c)
        ∪ flow_seq cs Wide handles Open inside p n c
        ∪ flow_map cs Wide handles Open inside p n c

    abbrev pub Plains : Props → Rule (List Event)
    Plains p = scalar_of cs Wide handles Open inside p style.plain (plain cs n c)

    abbrev pub Aliases : Rule (List Event)
    Aliases = seen (λ x. alias_node x ∷ []) (tags.c-ns-alias-node cs)

    -- after properties
    abbrev pub YamlRest : Props → Rule (List Event)
    YamlRest p = (separate cs n c ▸ Plains p) ∪ gives (empty p)

    abbrev pub JsonRest : Props → Rule (List Event)
    JsonRest p = separate cs n c ▸ Jsons p

    pub jsons_start : (p : Props) (i j : ℕ) (v : List Event) → Jsons p i j v → Kind 3 i
    unfolding single double flow_seq flow_map
    jsons_start p i j v (inl (t, (u, (k, (h, e), r)), x)) = (39, h, Sign.quote 39 refl)
    jsons_start p i j v (inr (inl (t, (u, (k, (h, e), r)), x))) = (34, h, Sign.quotes 34 refl)
    jsons_start p i j v (inr (inr (inl (o, (t, (k, (l, (h, e), s), r), x))))) = (91, h, Sign.bracket 91 refl)
    jsons_start p i j v (inr (inr (inr (o, (t, (k, (l, (h, e), s), r), x))))) = (123, h, Sign.brace 123 refl)

    pub json_parts : (i j : ℕ) (v : List Event) → json_node cs Wide handles Open inside n c i j v → (Jsons no_props ∪ with_value (properties cs handles n c) JsonRest) i j v
    unfolding json_node
    json_parts i j v (k, p, inl (e, f), r) = inl (subst (λ q. Jsons q i j v) f (subst (λ l. Jsons p l j v) e r))
    json_parts i j v (k, p, inr (l, q, s), r) = inr (l, p, q, (k, s, r))

    module _ (Fy Fj : ℕ → Type 0)
        (prop_same : (i j k : ℕ) (p q : Props) → prop cs handles i j p → prop cs handles i k q → (j ≡ k) × (p ≡ q))
        (prop_here : (i j : ℕ) (p : Props) → prop cs handles i j p → PropHere cs handles i)
        (prop_inside : (i j : ℕ) (p : Props) → prop cs handles i j p → Inside cs j)
        (alias_same : (i j k : ℕ) (x y : List ℕ) → tags.c-ns-alias-node cs i j x → tags.c-ns-alias-node cs i k y → (j ≡ k) × (x ≡ y))
        (plain_unique : Unique (plain cs n c) (At Fy))
        (json_unique : (p : Props) → Unique (Jsons p) (At Fj))
        (f_next : (k : ℕ) → Inside cs k → Fy k → NoMore cs handles n k)
        (f_content : (k q : ℕ) → Inside cs k → Fy k → separate cs n c k q → ContentHere c q → ⊥) where
      -- what begins where
      abbrev Bare : ℕ → Type 0
      Bare i = Kind 2 i ⊎ PlainFirst cs c i

      pub alias_start : (i j : ℕ) (v : List Event) → Aliases i j v → Kind 2 i
      unfolding tags.c-ns-alias-node
      alias_start i j v (x, (k, (h, e), r), f) = (42, h, Sign.star 42 refl)

      pub plains_start : (p : Props) (i j : ℕ) (v : List Event) → Plains p i j v → Fresh cs i × PlainFirst cs c i
      plains_start p i j v (x, r, f) = plain_start n c i j x r

      pub propped_start : {V : Type 0} (S : Props → Rule V) (i j : ℕ) (v : V) → with_value (properties cs handles n c) S i j v → Kind 1 i
      propped_start S i j v (k, p, r, s) = prop_kind handles i (props_here cs handles prop_same prop_here prop_inside n c i k p (props_two cs handles n c i k p r))

      pub to_solid : To (separate cs n c) (Solid cs)
      to_solid i k l r s t u = way_same cs i k l (way_of cs n c i k r s) (way_of cs n c i l t u)

      pub plain_content : (q : ℕ) → Fresh cs q × PlainFirst cs c q → ContentHere c q
      plain_content q (f, h) = (f, inr h)

      pub no_prop : (k q o : ℕ) (d : Ctx) → separate cs n c k q → ContentHere c q → separate cs n d k o → PropHere cs handles o → ⊥
      no_prop k q o d s (f, h) t p =
          let e : q ≡ o = way_same cs k q o (way_of cs n c k q s f.0) (way_of cs n d k o t (prop_solid cs handles o p).0) in
          go (subst (Kind 1) (sym e) (prop_kind handles o p)) h
        where
          go : Kind 1 q → Kind 3 q ⊎ PlainFirst cs c q → ⊥
          go a (inl b) = let z : 1 ≡ 3 = kind_same 1 3 q a b in omega (arith, z)
          go a (inr b) = plain_no_kind c 1 q a b

      pub yaml_next : (p : Props) (k j m : ℕ) (v : List Event) → Inside cs k → YamlRest p k j v → At Fy j m → NoMore cs handles n k
      yaml_next p k j m v o (inl (q, s, r)) e = λ d x t h. no_prop k q x d s (plain_content q (plains_start p q j v r)) t h
      yaml_next p k j m v o (inr (a, b)) (e, f) = f_next k o (subst Fy a f)

      ends_at : (F : ℕ → Type 0) → OneWayOn (At F)
      ends_at F i m n2 (e, f) (g, h) = sym e ∙ g

      yaml_rest_unique : (p : Props) → Unique (from (Inside cs) (YamlRest p)) (At Fy)
      yaml_rest_unique p = unique_from_either (Inside cs)
          (unique_from (Inside cs) (unique_before (Solid cs) to_solid (λ i j m v r e. (plains_start p i j v r).0.0) (unique_seen _ plain_unique)))
          (unique_from (Inside cs) (unique_gives _ (ends_at Fy)))
          (λ i j k m o v w (a, (q, s, r)) e (b, (x, y)) (z, f). f_content i q a (subst Fy x f) s (plain_content q (plains_start p q j v r)))

      pub law_one_reading : Unique (yaml_node cs Wide handles Open inside n c) (At Fy)
      unfolding yaml_node
      law_one_reading = unique_either (unique_seen _ (λ i j k m o v w r (e, f) s (g, h). let x = alias_same i j k v w r s in (sym e ∙ x.0 ∙ g, x.1)))
          (unique_either (unique_seen _ plain_unique) (unique_propped cs handles prop_same prop_here prop_inside n c YamlRest (At Fy) yaml_next yaml_rest_unique)
          (λ i j k m o v w r e s d. plain_no_kind c 1 i (propped_start YamlRest i k w s) (plains_start no_props i j v r).1))
          go
        where
          go : Apart Aliases (At Fy) (Plains no_props ∪ with_value (properties cs handles n c) YamlRest) (At Fy)
          go i j k m o v w r e (inl s) d = plain_no_kind c 2 i (alias_start i j v r) (plains_start no_props i k w s).1
          go i j k m o v w r e (inr s) d = let z : 2 ≡ 1 = kind_same 2 1 i (alias_start i j v r) (propped_start YamlRest i k w s) in omega (arith, z)

      pub json_next : (p : Props) (k j m : ℕ) (v : List Event) → Inside cs k → JsonRest p k j v → At Fj j m → NoMore cs handles n k
      json_next p k j m v o (q, s, r) e = λ d x t h. let z = jsons_start p q j v r in no_prop k q x d s (kind_three q z, inl z) t h

      json_rest_unique : (p : Props) → Unique (from (Inside cs) (JsonRest p)) (At Fj)
      json_rest_unique p = unique_from (Inside cs) (unique_before (Solid cs) to_solid (λ i j m v r e. (kind_three i (jsons_start p i j v r)).0) (json_unique p))

      pub json_node_unique : Unique (json_node cs Wide handles Open inside n c) (At Fj)
      json_node_unique = unique_within json_parts (unique_either (json_unique no_props)
          (unique_propped cs handles prop_same prop_here prop_inside n c JsonRest (At Fj) json_next json_rest_unique)
          (λ i j k m o v w r e s d. let z : 3 ≡ 1 = kind_same 3 1 i (jsons_start no_props i j v r) (propped_start JsonRest i k w s) in omega (arith, z)))

      rests_apart : (p : Props) → Apart (from (Inside cs) (YamlRest p)) (At Fy) (from (Inside cs) (JsonRest p)) (At Fj)
      rests_apart p i j k m o v w (a, inl (q, s, r)) e (b, (x, t, u)) d =
          let z = jsons_start p x k w u in
          let y : q ≡ x = to_solid i q x s (plains_start p q j v r).0.0 t (kind_three x z).0 in
          plain_no_kind c 3 q (subst (Kind 3) (sym y) z) (plains_start p q j v r).1
      rests_apart p i j k m o v w (a, inr (f, g)) (e, h) (b, (x, t, u)) d =
          let z = jsons_start p x k w u in
          f_content i x a (subst Fy f h) t (kind_three x z, inl z)

      pub yaml_starts : (i j : ℕ) (v : List Event) → yaml_node cs Wide handles Open inside n c i j v → (Aliases ∪ Plains no_props) i j v ⊎ with_value (properties cs handles n c) YamlRest i j v
      unfolding yaml_node
      yaml_starts i j v (inl r) = inl (inl r)
      yaml_starts i j v (inr (inl r)) = inl (inr r)
      yaml_starts i j v (inr (inr r)) = inr r

      pub nodes_apart : Apart (yaml_node cs Wide handles Open inside n c) (At Fy) (json_node cs Wide handles Open inside n c) (At Fj)
      nodes_apart i j k m o v w r e s d = go (yaml_starts i j v r) (json_parts i k w s)
        where
          go : (Aliases ∪ Plains no_props) i j v ⊎ with_value (properties cs handles n c) YamlRest i j v → (Jsons no_props ∪ with_value (properties cs handles n c) JsonRest) i k w → ⊥
          go (inl (inl x)) (inl y) = let z : 2 ≡ 3 = kind_same 2 3 i (alias_start i j v x) (jsons_start no_props i k w y) in omega (arith, z)
          go (inl (inr x)) (inl y) = plain_no_kind c 3 i (jsons_start no_props i k w y) (plains_start no_props i j v x).1
          go (inl (inl x)) (inr y) = let z : 2 ≡ 1 = kind_same 2 1 i (alias_start i j v x) (propped_start JsonRest i k w y) in omega (arith, z)
          go (inl (inr x)) (inr y) = plain_no_kind c 1 i (propped_start JsonRest i k w y) (plains_start no_props i j v x).1
          go (inr x) (inl y) = let z : 1 ≡ 3 = kind_same 1 3 i (propped_start YamlRest i j v x) (jsons_start no_props i k w y) in omega (arith, z)
          go (inr x) (inr y) = apart_propped cs handles prop_same prop_here prop_inside n c c YamlRest JsonRest (At Fy) (At Fj) yaml_next json_next rests_apart i j k m o v w x e y d
