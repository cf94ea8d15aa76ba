-- From what a reader of flow nodes has read to the productions of contents and parts, at each room that holds it.
use Rattle.std.proofs.Common.{◌≡◌, ℕ, zero, suc, true, ◌+◌, ◌<◌, List, [], ◌∷◌, ◌++◌, refl, ap, subst, arith, inl, inr, max}
use Rattle.yaml_definitions.specs.model.Event.{Event, sequence_end, mapping_end}
use Rattle.yaml_definitions.specs.model.Event as style
use Rattle.yaml_definitions.specs.grammar.Rules.{Rule, ◌◂◌, any, optional, chr, maybe, done}
use Rattle.yaml_definitions.specs.grammar.Separation.{Ctx, block_in, block_out, flow_out, flow_in, block_key, flow_key, inner, s-separate as separate}
use Rattle.yaml_definitions.specs.grammar.Tags.{Handles}
use Rattle.yaml_definitions.specs.grammar.Events.{no_props, seq_start, map_start, scalar, wrapped, e-scalar as empty}
use Rattle.yaml_definitions.specs.grammar.FlowScalars as flow
use Rattle.yaml_definitions.specs.grammar.Nodes as nodes
use Rattle.yaml_definitions.specs.grammar.Nodes.{reads}
use Rattle.yaml_text.proofs.Repeats.{any_push}
use Rattle.yaml_layout.specs.Keys.{ColonAfter}
use Rattle.yaml_layout.specs.NodeRules.{flow_from, content_from, from_room, IsInner}
use Rattle.yaml_flow.specs.FlowRules.{item_at, entry_at, keyed_at, asked_at, value_at, spaced, comma, parts, MayFollowColon, IsParted, quoted, quoted_style}
use Rattle.yaml_flow.specs.declared.flow.scalars.Quote.{Quote}
use Rattle.yaml_flow.specs.declared.flow.scalars.Quote.TheVariants as quotes
use Rattle.yaml_layout.specs.declared.flow.Kind.{Kind}
use Rattle.yaml_layout.specs.declared.flow.Kind.TheVariants.{Yaml, Json}
use Rattle.yaml_layout.proofs.KeyLaws.{flow_key_too}
use Rattle.yaml_layout.proofs.SpaceLemmas.{maybe_sep, in_text}

append_nil_back : {A : Type 0} (xs : List A) → xs ≡ xs ++ []
append_nil_back [] = refl
append_nil_back (x ∷ xs) = ap (λ v. x ∷ v) (append_nil_back xs)

module _ (cs : List ℕ) (n : ℕ) (c : Ctx) (R : ℕ → Rule (List Event)) where
  -- ---- parts

  pub no_parts : (i : ℕ) → from_room 0 (λ room. any (spaced cs n c (R room) ◂ comma cs n c)) i i []
  no_parts i room le = done refl refl

  pub one_part : (most deep i k m j l o : ℕ) (es ks : List Event) → from_room most (λ room. any (spaced cs n c (R room) ◂ comma cs n c)) i k es → from_room deep R k m ks →
      maybe (separate cs n c) m j → chr cs 44 j l → maybe (separate cs n c) l o → from_room (max most deep) (λ room. any (spaced cs n c (R room) ◂ comma cs n c)) i o (es ++ ks)
  one_part most deep i k m j l o es ks p q s e t room le =
      any_push (p room (omega (arith, le))) (j, (m, q room (omega (arith, le)), s), (l, e, t))

  pub parts_end : (most i k close j : ℕ) (es : List Event) → from_room most (λ room. any (spaced cs n c (R room) ◂ comma cs n c)) i k es → chr cs close k j →
      from_room most (λ room. parts cs n c close (R room)) i j es
  parts_end most i k close j es p e room le = (k, (k, es, [], p room le, inl (refl, refl), append_nil_back es), e)

  pub part_end : (most deep i k m l close j : ℕ) (es ks : List Event) → from_room most (λ room. any (spaced cs n c (R room) ◂ comma cs n c)) i k es → from_room deep R k m ks →
      maybe (separate cs n c) m l → chr cs close l j → from_room (max most deep) (λ room. parts cs n c close (R room)) i j (es ++ ks)
  part_end most deep i k m l close j es ks p q s e room le =
      (l, (k, es, ks, p room (omega (arith, le)), inr (m, q room (omega (arith, le)), s), refl), e)

module _ (cs : List ℕ) (n : ℕ) (c : Ctx) (R S : Rule (List Event)) (f : (i j : ℕ) (es : List Event) → R i j es → S i j es) where
  spaced_by : (i j : ℕ) (es : List Event) → spaced cs n c R i j es → spaced cs n c S i j es
  spaced_by i j es (k, r, s) = (k, f i k es r, s)

  part_by : (i j : ℕ) (es : List Event) → (spaced cs n c R ◂ comma cs n c) i j es → (spaced cs n c S ◂ comma cs n c) i j es
  part_by i j es (k, r, s) = (k, spaced_by i k es r, s)

  last_by : (i j : ℕ) (es : List Event) → optional (spaced cs n c R) i j es → optional (spaced cs n c S) i j es
  last_by i j es (inl e) = inl e
  last_by i j es (inr r) = inr (spaced_by i j es r)

module _ (cs : List ℕ) (Wide : Type 0) (handles : Handles) where
  -- ---- contents

  pub sequence_is : (n : ℕ) (c : Ctx) (deep i k l j : ℕ) (es : List Event) → chr cs 91 i k → maybe (separate cs n c) k l →
      from_room deep (λ room. parts cs n (inner c) 93 (item_at cs Wide handles room n (inner c))) l j es →
      content_from cs Wide handles (deep + 1) Json n c i j (wrapped (seq_start true no_props) sequence_end es)
  unfolding nodes.c-flow-sequence separate inner
  sequence_is n c deep i k l j es h s p zero le = absurd (omega (arith, le))
  sequence_is n block_out deep i k l j es h s p (suc r) le = inr (inr (inl (tt, (es, (l, (k, h, s), p r (omega (arith, le))), refl))))
  sequence_is n block_in deep i k l j es h s p (suc r) le = inr (inr (inl (tt, (es, (l, (k, h, s), p r (omega (arith, le))), refl))))
  sequence_is n flow_out deep i k l j es h s p (suc r) le = inr (inr (inl (tt, (es, (l, (k, h, s), p r (omega (arith, le))), refl))))
  sequence_is n flow_in deep i k l j es h s p (suc r) le = inr (inr (inl (tt, (es, (l, (k, h, s), p r (omega (arith, le))), refl))))
  sequence_is n block_key deep i k l j es h s p (suc r) le = inr (inr (inl (tt, (es, (l, (k, h, s), p r (omega (arith, le))), refl))))
  sequence_is n flow_key deep i k l j es h s p (suc r) le = inr (inr (inl (tt, (es, (l, (k, h, s), p r (omega (arith, le))), refl))))

  pub mapping_is : (n : ℕ) (c : Ctx) (deep i k l j : ℕ) (es : List Event) → chr cs 123 i k → maybe (separate cs n c) k l →
      from_room deep (λ room. parts cs n (inner c) 125 (entry_at cs Wide handles room n (inner c))) l j es →
      content_from cs Wide handles (deep + 1) Json n c i j (wrapped (map_start true no_props) mapping_end es)
  unfolding nodes.c-flow-mapping separate inner
  mapping_is n c deep i k l j es h s p zero le = absurd (omega (arith, le))
  mapping_is n block_out deep i k l j es h s p (suc r) le = inr (inr (inr (tt, (es, (l, (k, h, s), p r (omega (arith, le))), refl))))
  mapping_is n block_in deep i k l j es h s p (suc r) le = inr (inr (inr (tt, (es, (l, (k, h, s), p r (omega (arith, le))), refl))))
  mapping_is n flow_out deep i k l j es h s p (suc r) le = inr (inr (inr (tt, (es, (l, (k, h, s), p r (omega (arith, le))), refl))))
  mapping_is n flow_in deep i k l j es h s p (suc r) le = inr (inr (inr (tt, (es, (l, (k, h, s), p r (omega (arith, le))), refl))))
  mapping_is n block_key deep i k l j es h s p (suc r) le = inr (inr (inr (tt, (es, (l, (k, h, s), p r (omega (arith, le))), refl))))
  mapping_is n flow_key deep i k l j es h s p (suc r) le = inr (inr (inr (tt, (es, (l, (k, h, s), p r (omega (arith, le))), refl))))

  pub plain_is : (n : ℕ) (c : Ctx) (i j : ℕ) (text : List ℕ) → flow.ns-plain cs n c i j text → content_from cs Wide handles 0 Yaml n c i j (scalar no_props style.plain text ∷ [])
  plain_is n c i j text p room le = (text, p, refl)

  pub quoted_is : (q : Quote) (n : ℕ) (c : Ctx) (i j : ℕ) (text : List ℕ) → quoted q cs n c i j text → content_from cs Wide handles 0 Json n c i j (scalar no_props (quoted_style q) text ∷ [])
  quoted_is quotes.Single n c i j text p room le = inl (text, p, refl)
  quoted_is quotes.Double n c i j text p room le = inr (inl (text, p, refl))

  -- ---- items, entries and values

  pub node_item : (deep : ℕ) (kind : Kind) (n : ℕ) (c : Ctx) (i j : ℕ) (es : List Event) → flow_from cs Wide handles deep kind n c i j es → from_room deep (λ room. item_at cs Wide handles room n c) i j es
  node_item deep Yaml n c i j es p room le = inr (inl (p room le))
  node_item deep Json n c i j es p room le = inr (inr (p room le))

  pub pair_item : (d e : ℕ) (kind : Kind) (n : ℕ) (c : Ctx) (i k m o j : ℕ) (ks vs : List Event) → IsInner c → flow_from cs Wide handles d kind n c i k ks →
      ColonAfter cs i k o → chr cs 58 m o → from_room e (λ room. value_at cs Wide handles kind room n c) m j vs →
      from_room (max d e + 1) (λ room. item_at cs Wide handles room n c) i j (wrapped (map_start true no_props) mapping_end (ks ++ vs))
  unfolding reads nodes.ns-flow-pair nodes.ns-s-implicit-yaml-key nodes.c-s-implicit-json-key
  pair_item d e kind n c i k m o j ks vs b p (x, s, colon, fits) here v zero le = absurd (omega (arith, le))
  pair_item d e Yaml n c i k m o j ks vs b p (x, s, colon, fits) here v (suc r) le =
      let same : m ≡ x = omega (arith, here.1, colon.1) in
      inl (
        tt,
        (
          ks ++ vs,
          inl (
            x,
            ks,
            vs,
            (fits, (k, flow_key_too cs Wide handles r n Yaml c i k ks b (p r (omega (arith, le))) (λ y f g. fits.0 y f (omega (arith, g, s.0))) (in_text cs x k s.0 colon.0), maybe_sep cs k x s)),
            subst (λ y. value_at cs Wide handles Yaml r n c y j vs) same (v r (omega (arith, le))),
            refl,
          ),
          refl,
        ),
      )
  pair_item d e Json n c i k m o j ks vs b p (x, s, colon, fits) here v (suc r) le =
      let same : m ≡ x = omega (arith, here.1, colon.1) in
      inl (
        tt,
        (
          ks ++ vs,
          inr (inl (
            x,
            ks,
            vs,
            (fits, (k, flow_key_too cs Wide handles r n Json c i k ks b (p r (omega (arith, le))) (λ y f g. fits.0 y f (omega (arith, g, s.0))) (in_text cs x k s.0 colon.0), maybe_sep cs k x s)),
            subst (λ y. value_at cs Wide handles Json r n c y j vs) same (v r (omega (arith, le))),
            refl,
          )),
          refl,
        ),
      )

  pub no_value : (kind : Kind) (n : ℕ) (c : Ctx) (i j : ℕ) → chr cs 58 i j → MayFollowColon kind c cs j → from_room 0 (λ room. value_at cs Wide handles kind room n c) i j (empty no_props)
  unfolding nodes.c-ns-flow-map-separate-value nodes.c-ns-flow-map-adjacent-value
  no_value Yaml n c i j h s room le = (j, (j, h, (refl, s)), inr (refl, refl))
  no_value Json n c i j h s room le = (j, h, inr (refl, refl))

  pub yaml_value : (deep : ℕ) (kind : Kind) (n : ℕ) (c : Ctx) (i j k l : ℕ) (es : List Event) → chr cs 58 i j → MayFollowColon Yaml c cs j → separate cs n c j k → flow_from cs Wide handles deep kind n c k l es →
      from_room deep (λ room. value_at cs Wide handles Yaml room n c) i l es
  unfolding nodes.c-ns-flow-map-separate-value
  yaml_value deep Yaml n c i j k l es h s a p room le = (j, (j, h, (refl, s)), inl (k, a, inl (p room le)))
  yaml_value deep Json n c i j k l es h s a p room le = (j, (j, h, (refl, s)), inl (k, a, inr (p room le)))

  pub json_value : (deep : ℕ) (kind : Kind) (n : ℕ) (c : Ctx) (i j k l : ℕ) (es : List Event) → chr cs 58 i j → maybe (separate cs n c) j k → flow_from cs Wide handles deep kind n c k l es →
      from_room deep (λ room. value_at cs Wide handles Json room n c) i l es
  unfolding nodes.c-ns-flow-map-adjacent-value
  json_value deep Yaml n c i j k l es h a p room le = (j, h, inl (k, a, inl (p room le)))
  json_value deep Json n c i j k l es h a p room le = (j, h, inl (k, a, inr (p room le)))

  pub value_is : (deep : ℕ) (kind made : Kind) (n : ℕ) (c : Ctx) (a b i j k l : ℕ) (es : List Event) → chr cs 58 i j → MayFollowColon kind c cs j → IsParted kind a b →
      maybe (separate cs n c) j k → (a < b → separate cs n c j k) → flow_from cs Wide handles deep made n c k l es → from_room deep (λ room. value_at cs Wide handles kind room n c) i l es
  value_is deep Yaml made n c a b i j k l es h s apart m f p = yaml_value deep made n c i j k l es h s (f apart) p
  value_is deep Json made n c a b i j k l es h s apart m f p = json_value deep made n c i j k l es h m p

  pub key_entry : (d e : ℕ) (kind : Kind) (n : ℕ) (c : Ctx) (i k m j : ℕ) (ks vs : List Event) → flow_from cs Wide handles d kind n c i k ks → maybe (separate cs n c) k m →
      from_room e (λ room. value_at cs Wide handles kind room n c) m j vs → from_room (max d e) (λ room. keyed_at cs Wide handles room n c) i j (ks ++ vs)
  unfolding nodes.ns-flow-map-implicit-entry nodes.ns-flow-map-yaml-key-entry nodes.c-ns-flow-map-json-key-entry
  key_entry d e Yaml n c i k m j ks vs p s v room le = inl (inl (k, ks, vs, p room (omega (arith, le)), inl (m, s, v room (omega (arith, le))), refl))
  key_entry d e Json n c i k m j ks vs p s v room le = inl (inr (k, ks, vs, p room (omega (arith, le)), inl (m, s, v room (omega (arith, le))), refl))

  pub lone_entry : (d : ℕ) (kind : Kind) (n : ℕ) (c : Ctx) (i k : ℕ) (ks : List Event) → flow_from cs Wide handles d kind n c i k ks → from_room d (λ room. keyed_at cs Wide handles room n c) i k (ks ++ empty no_props)
  unfolding nodes.ns-flow-map-implicit-entry nodes.ns-flow-map-yaml-key-entry nodes.c-ns-flow-map-json-key-entry
  lone_entry d Yaml n c i k ks p room le = inl (inl (k, ks, empty no_props, p room le, inr (refl, refl), refl))
  lone_entry d Json n c i k ks p room le = inl (inr (k, ks, empty no_props, p room le, inr (refl, refl), refl))

  -- ---- empty keys, and what follows a `?`

  pub empty_entry : (e : ℕ) (n : ℕ) (c : Ctx) (i j : ℕ) (vs : List Event) → from_room e (λ room. value_at cs Wide handles Yaml room n c) i j vs → from_room e (λ room. keyed_at cs Wide handles room n c) i j (empty no_props ++ vs)
  unfolding nodes.c-ns-flow-map-empty-key-entry
  empty_entry e n c i j vs v room le = inr (i, empty no_props, vs, (refl, refl), v room le, refl)

  pub asked_keyed : (d n : ℕ) (c : Ctx) (i k j : ℕ) (es : List Event) → separate cs n c i k → from_room d (λ room. keyed_at cs Wide handles room n c) k j es → from_room d (λ room. asked_at cs Wide handles room n c) i j es
  asked_keyed d n c i k j es s p room le = (k, s, inl (p room le))

  pub asked_nothing : (n : ℕ) (c : Ctx) (i j : ℕ) → separate cs n c i j → from_room 0 (λ room. asked_at cs Wide handles room n c) i j (empty no_props ++ empty no_props)
  asked_nothing n c i j s room le = (j, s, inr (j, empty no_props, empty no_props, (refl, refl), (refl, refl), refl))

  -- an entry, and a pair
  explicit_is : (room n : ℕ) (c : Ctx) (i k j : ℕ) (es : List Event) → chr cs 63 i k → asked_at cs Wide handles room n c k j es → nodes.ns-flow-map-explicit-entry cs Wide handles (Unit {0}) (reads cs Wide handles room) n c i j es
  unfolding nodes.ns-flow-map-explicit-entry
  explicit_is room n c i k j es h (m, s, inl (inl r)) = (m, (k, h, s), inl r)
  explicit_is room n c i k j es h (m, s, inl (inr r)) = (m, (k, h, s), inr (inl r))
  explicit_is room n c i k j es h (m, s, inr r) = (m, (k, h, s), inr (inr r))

module _ (cs : List ℕ) (handles : Handles) where
  pub keyed_entry : (room n : ℕ) (c : Ctx) (i j : ℕ) (es : List Event) → keyed_at cs (Unit {0}) handles room n c i j es → entry_at cs (Unit {0}) handles room n c i j es
  unfolding nodes.ns-flow-map-entry
  keyed_entry room n c i j es (inl r) = inl r
  keyed_entry room n c i j es (inr r) = inr (tt, inl r)

  pub asked_entry : (d n : ℕ) (c : Ctx) (i k j : ℕ) (es : List Event) → chr cs 63 i k → from_room d (λ room. asked_at cs (Unit {0}) handles room n c) k j es → from_room d (λ room. entry_at cs (Unit {0}) handles room n c) i j es
  unfolding nodes.ns-flow-map-entry
  asked_entry d n c i k j es h p room le = inr (tt, inr (explicit_is cs (Unit {0}) handles room n c i k j es h (p room le)))

  pub asked_pair : (d n : ℕ) (c : Ctx) (i k j : ℕ) (es : List Event) → chr cs 63 i k → from_room d (λ room. asked_at cs (Unit {0}) handles room n c) k j es →
      from_room (d + 1) (λ room. item_at cs (Unit {0}) handles room n c) i j (wrapped (map_start true no_props) mapping_end es)
  unfolding reads nodes.ns-flow-pair
  asked_pair d n c i k j es h p zero le = absurd (omega (arith, le))
  asked_pair d n c i k j es h p (suc r) le = inl (tt, (es, inr (inr (tt, inr (explicit_is cs (Unit {0}) handles r n c i k j es h (p r (omega (arith, le)))))), refl))

  pub empty_pair : (d n : ℕ) (c : Ctx) (i j : ℕ) (vs : List Event) → from_room d (λ room. value_at cs (Unit {0}) handles Yaml room n c) i j vs →
      from_room (d + 1) (λ room. item_at cs (Unit {0}) handles room n c) i j (wrapped (map_start true no_props) mapping_end (empty no_props ++ vs))
  unfolding reads nodes.ns-flow-pair nodes.c-ns-flow-map-empty-key-entry
  empty_pair d n c i j vs v zero le = absurd (omega (arith, le))
  empty_pair d n c i j vs v (suc r) le = inl (tt, (empty no_props ++ vs, inr (inr (tt, inl (i, empty no_props, vs, (refl, refl), v r (omega (arith, le)), refl))), refl))
