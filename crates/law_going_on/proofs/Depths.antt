-- How many collections the events of a reading have open at once: never more than the reading had room for.
use Rattle.std.proofs.Common.{◌≡◌, ℕ, zero, suc, ◌+◌, ◌-◌, ◌≤◌, ◌<◌, inl, inr, Bool, true, false, List, [], ◌∷◌, ◌++◌, refl, sym, ◌∙◌, ap, subst, arith, append_assoc}
use Rattle.std.specs.Prelude.{max}
use Rattle.yaml_definitions.specs.model.Event.{Event, Style, stream_start, stream_end, document_start, document_end, sequence_start, sequence_end, mapping_start, mapping_end, scalar_event, alias_event}
use Rattle.yaml_definitions.specs.model.Event as style
use Rattle.yaml_definitions.specs.grammar.Rules.{Span, Rule, ◌▸◌, ◌◂◌, ◌⨾◌, ◌∪◌, gives, given, never, optional, some, any, Any, done, then, any_one, with_value, seen, where_both}
use Rattle.yaml_definitions.specs.grammar.Separation.{Ctx, flow_key, flow_out, block_key}
use Rattle.yaml_definitions.specs.grammar.Events.{Props, no_props, seq_start, map_start, scalar, wrapped}
use Rattle.yaml_definitions.specs.grammar.Tags.{Handles}
use Rattle.yaml_definitions.specs.grammar.Nodes as nodes
use Rattle.yaml_definitions.specs.grammar.Nodes.{Part, yaml_part, json_part, pair_part, block_part, compact_part, part, reads}
use Rattle.yaml_definitions.proofs.grammar.Widening.{in_reads}
use Rattle.law_one_reading.specs.Readings.{End, Unique}
use Rattle.law_going_on.specs.Depth.{peak}
use Rattle.law_going_on.specs.GoingOn.{Refused}

-- at most r of them are opened by these events, and all are closed
abbrev pub Level : ℕ → List Event → Type 0
Level r es = (d : ℕ) × (d ≤ r) × ((n : ℕ) (fs : List Event) → peak n (es ++ fs) ≡ max (n + d) (peak n fs))

peak_low : (n : ℕ) (es : List Event) → n ≤ peak n es
unfolding peak
peak_low n [] = omega arith
peak_low n (sequence_start f a g ∷ es) = omega arith
peak_low n (mapping_start f a g ∷ es) = omega arith
peak_low n (sequence_end ∷ es) = omega arith
peak_low n (mapping_end ∷ es) = omega arith
peak_low n (scalar_event a g y x ∷ es) = peak_low n es
peak_low n (alias_event a ∷ es) = peak_low n es
peak_low n (stream_start ∷ es) = peak_low n es
peak_low n (stream_end ∷ es) = peak_low n es
peak_low n (document_start b ∷ es) = peak_low n es
peak_low n (document_end b ∷ es) = peak_low n es

append_none : (es : List Event) → es ++ [] ≡ es
append_none [] = refl
append_none (e ∷ es) = ap (λ z. e ∷ z) (append_none es)

pub level_peak : (r : ℕ) (es : List Event) → Level r es → peak 0 es ≤ r
unfolding peak
level_peak r es (d, l, f) =
    let g : peak 0 (es ++ []) ≡ max (0 + d) (peak 0 []) = f 0 [] in
    let h : peak 0 (es ++ []) ≡ peak 0 es = ap (peak 0) (append_none es) in omega (arith, g, h, l)

level_none : (r : ℕ) → Level r []
level_none r = (0, omega arith, λ n fs. let a : n ≤ peak n fs = peak_low n fs in omega (arith, a))

level_join : (r : ℕ) (xs ys : List Event) → Level r xs → Level r ys → Level r (xs ++ ys)
level_join r xs ys (d, l, f) (e, m, g) = (max d e, omega (arith, l, m), λ n fs. ap (peak n) (append_assoc xs ys fs) ∙ f n (ys ++ fs) ∙ (let h : peak n (ys ++ fs) ≡ max (n + e) (peak n fs) = g n fs in omega (arith, h)))

level_scalar : (r : ℕ) (p : Props) (s : Style) (x : List ℕ) → Level r (scalar p s x ∷ [])
unfolding peak
level_scalar r p s x = (0, omega arith, λ n fs. let a : n ≤ peak n fs = peak_low n fs in omega (arith, a))

level_alias : (r : ℕ) (a : List ℕ) → Level r (alias_event a ∷ [])
unfolding peak
level_alias r a = (0, omega arith, λ n fs. let b : n ≤ peak n fs = peak_low n fs in omega (arith, b))

around : (start : Event) (end : Event) → Type 0
around start end = (n : ℕ) (fs : List Event) → (peak n (start ∷ fs) ≡ max n (peak (suc n) fs)) × (peak (suc n) (end ∷ fs) ≡ max (suc n) (peak n fs))

level_around : (start end : Event) → around start end → (r s : ℕ) → suc s ≤ r → (es : List Event) → Level s es → Level r (wrapped start end es)
unfolding around
level_around start end h r s le es (d, l, f) = (
  suc d,
  omega (arith, l, le),
  λ n fs.
      let a : peak n (start ∷ ((es ++ (end ∷ [])) ++ fs)) ≡ max n (peak (suc n) ((es ++ (end ∷ [])) ++ fs)) = (h n ((es ++ (end ∷ [])) ++ fs)).0 in
      let b : peak (suc n) ((es ++ (end ∷ [])) ++ fs) ≡ peak (suc n) (es ++ (end ∷ fs)) = ap (peak (suc n)) (append_assoc es (end ∷ []) fs) in
      let c : peak (suc n) (es ++ (end ∷ fs)) ≡ max (suc n + d) (peak (suc n) (end ∷ fs)) = f (suc n) (end ∷ fs) in
      let e : peak (suc n) (end ∷ fs) ≡ max (suc n) (peak n fs) = (h n fs).1 in
      omega (arith, a, b, c, e),
)

around_sequence : (b : Bool) (p : Props) → around (seq_start b p) sequence_end
unfolding around peak
around_sequence b p n fs = (refl, let q : suc n - 1 ≡ n = omega arith in ap (λ k. max (suc n) (peak k fs)) q)

around_mapping : (b : Bool) (p : Props) → around (map_start b p) mapping_end
unfolding around peak
around_mapping b p n fs = (refl, let q : suc n - 1 ≡ n = omega arith in ap (λ k. max (suc n) (peak k fs)) q)

-- ---- of every reading of a rule

abbrev pub Each : ℕ → Rule (List Event) → Type 0
Each r R = (i j : ℕ) (v : List Event) → R i j v → Level r v

each_seen : {A : Type 0} (r : ℕ) (g : A → List Event) (R : Rule A) → ((a : A) → Level r (g a)) → Each r (seen g R)
each_seen r g R f i j v (a, x, e) = subst (Level r) (sym e) (f a)

each_wrapped : (r s : ℕ) (start end : Event) {R : Rule (List Event)} → suc s ≤ r → around start end → Each s R → Each r (seen (wrapped start end) R)
each_wrapped r s start end le h f i j v (a, x, e) = subst (Level r) (sym e) (level_around start end h r s le a (f i j a x))

each_either : (r : ℕ) {R S : Rule (List Event)} → Each r R → Each r S → Each r (R ∪ S)
each_either r f g i j v (inl x) = f i j v x
each_either r f g i j v (inr x) = g i j v x

each_gives : (r : ℕ) (es : List Event) → Level r es → Each r (gives es)
each_gives r es f i j v (a, b) = subst (Level r) (sym b) f

each_before : (r : ℕ) (R : Span) {S : Rule (List Event)} → Each r S → Each r (R ▸ S)
each_before r R f i j v (k, x, y) = f k j v y

each_after : (r : ℕ) {R : Rule (List Event)} (S : Span) → Each r R → Each r (R ◂ S)
each_after r S f i j v (k, x, y) = f i k v x

each_joined : (r : ℕ) {R S : Rule (List Event)} → Each r R → Each r S → Each r (R ⨾ S)
each_joined r f g i j v (k, ys, zs, x, y, e) = subst (Level r) (sym e) (level_join r ys zs (f i k ys x) (g k j zs y))

each_taking : {A : Type 0} (r : ℕ) (R : Rule A) {S : A → Rule (List Event)} → ((a : A) → Each r (S a)) → Each r (with_value R S)
each_taking r R f i j v (k, a, x, y) = f a k j v y

each_some : (r : ℕ) {R : ℕ → Rule (List Event)} → ((a : ℕ) → Each r (R a)) → Each r (some R)
each_some r f i j v (a, x) = f a i j v x

each_given : (r : ℕ) (P : Type 0) {R : Rule (List Event)} → (P → Each r R) → Each r (given P R)
each_given r P f i j v (p, x) = f p i j v x

each_bounded : (r : ℕ) (P : ℕ → ℕ → Type 0) {R : Rule (List Event)} → Each r R → Each r (where_both P R)
each_bounded r P f i j v (p, x) = f i j v x

each_optional : (r : ℕ) {R : Rule (List Event)} → Each r R → Each r (optional R)
each_optional r f i j v (inl (a, b)) = subst (Level r) (sym b) (level_none r)
each_optional r f i j v (inr x) = f i j v x

any_level : (r : ℕ) {R : Rule (List Event)} → Each r R → {j i : ℕ} {v : List Event} → Any R j i v → Level r v
any_level r f (done a b) = subst (Level r) (sym b) (level_none r)
any_level r f (then k ys zs x more e) = subst (Level r) (sym e) (level_join r ys zs (f _ k ys x) (any_level r f more))

each_any : (r : ℕ) {R : Rule (List Event)} → Each r R → Each r (any R)
each_any r f i j v x = any_level r f x

-- ---- the productions

module _ (cs : List ℕ) (Wide : Type 0) (handles : Handles) where
  -- a node may open r collections, one inside another, and what stands in one of them s
  module _ (Open : Type 0) (inside : Part → Rule (List Event)) (s r : ℕ) (opens : Open → suc s ≤ r) (each : (p : Part) → Each s (inside p)) where
    each_inside_flow : (n : ℕ) (c : Ctx) → Each s (nodes.inside_flow cs Wide handles Open inside n c)
    each_inside_flow n c = each_either s (each (yaml_part n c)) (each (json_part n c))

    each_e : Each s (nodes.e-node cs Wide handles Open inside)
    each_e = each_gives s _ (level_scalar s no_props style.plain [])

    each_scalar : (p : Props) (t : Style) (R : Rule (List ℕ)) → Each r (nodes.scalar_of cs Wide handles Open inside p t R)
    each_scalar p t R = each_seen r _ _ (level_scalar r p t)

    each_yaml_node : (n : ℕ) (c : Ctx) → Each r (nodes.ns-flow-yaml-node cs Wide handles Open inside n c)
    unfolding nodes.ns-flow-yaml-node
    each_yaml_node n c = each_either r (each_seen r _ _ (λ x. level_alias r _)) (each_either r (each_scalar no_props style.plain _)
        (each_taking r _ (λ p. each_either r (each_before r _ (each_scalar p style.plain _)) (each_gives r _ (level_scalar r p style.plain [])))))

    each_parted : (n : ℕ) (c : Ctx) {R : Rule (List Event)} → Each s R → Each s (nodes.parted cs Wide handles Open inside n c R)
    each_parted n c f = each_joined s (each_any s (each_after s _ f)) (each_optional s f)

    each_any_one : {R : Rule (List Event)} → Each s R → Each s (any_one R)
    each_any_one f = each_joined s f (each_any s f)

    each_value : (n : ℕ) (c : Ctx) → Each s (nodes.c-ns-flow-map-separate-value cs Wide handles Open inside n c)
    unfolding nodes.c-ns-flow-map-separate-value
    each_value n c = each_before s _ (each_either s (each_before s _ (each_inside_flow n c)) each_e)

    each_adjacent : (n : ℕ) (c : Ctx) → Each s (nodes.c-ns-flow-map-adjacent-value cs Wide handles Open inside n c)
    unfolding nodes.c-ns-flow-map-adjacent-value
    each_adjacent n c = each_before s _ (each_either s (each_before s _ (each_inside_flow n c)) each_e)

    each_implicit_entry : (n : ℕ) (c : Ctx) → Each s (nodes.ns-flow-map-implicit-entry cs Wide handles Open inside n c)
    unfolding nodes.ns-flow-map-implicit-entry nodes.ns-flow-map-yaml-key-entry nodes.c-ns-flow-map-json-key-entry
    each_implicit_entry n c = each_either s (each_joined s (each (yaml_part n c)) (each_either s (each_before s _ (each_value n c)) each_e))
        (each_joined s (each (json_part n c)) (each_either s (each_before s _ (each_adjacent n c)) each_e))

    each_empty_key : (n : ℕ) (c : Ctx) → Each s (nodes.c-ns-flow-map-empty-key-entry cs Wide handles Open inside n c)
    unfolding nodes.c-ns-flow-map-empty-key-entry
    each_empty_key n c = each_joined s each_e (each_value n c)

    each_explicit : (n : ℕ) (c : Ctx) → Each s (nodes.ns-flow-map-explicit-entry cs Wide handles Open inside n c)
    unfolding nodes.ns-flow-map-explicit-entry
    each_explicit n c = each_before s _ (each_either s (each_implicit_entry n c) (each_either s (each_empty_key n c) (each_joined s each_e each_e)))

    each_entry : (n : ℕ) (c : Ctx) → Each s (nodes.ns-flow-map-entry cs Wide handles Open inside n c)
    unfolding nodes.ns-flow-map-entry
    each_entry n c = each_either s (each_implicit_entry n c) (each_given s _ (λ w. each_either s (each_empty_key n c) (each_explicit n c)))

    each_yaml_key : (c : Ctx) → Each s (nodes.ns-s-implicit-yaml-key cs Wide handles Open inside c)
    unfolding nodes.ns-s-implicit-yaml-key
    each_yaml_key c = each_bounded s _ (each_after s _ (each (yaml_part 0 c)))

    each_json_key : (c : Ctx) → Each s (nodes.c-s-implicit-json-key cs Wide handles Open inside c)
    unfolding nodes.c-s-implicit-json-key
    each_json_key c = each_bounded s _ (each_after s _ (each (json_part 0 c)))

    each_pair : (n : ℕ) (c : Ctx) → Each r (nodes.ns-flow-pair cs Wide handles Open inside n c)
    unfolding nodes.ns-flow-pair
    each_pair n c = each_given r Open (λ o. each_wrapped r s _ _ (opens o) (around_mapping true no_props)
        (each_either s (each_joined s (each_yaml_key flow_key) (each_value n c))
        (each_either s (each_joined s (each_json_key flow_key) (each_adjacent n c))
        (each_given s _ (λ w. each_either s (each_empty_key n c) (each_explicit n c))))))

    each_flow_seq : (p : Props) (n : ℕ) (c : Ctx) → Each r (nodes.c-flow-sequence cs Wide handles Open inside p n c)
    unfolding nodes.c-flow-sequence
    each_flow_seq p n c = each_given r Open (λ o. each_wrapped r s _ _ (opens o) (around_sequence true p)
        (each_before s _ (each_after s _ (each_parted n c (each_after s _ (each_either s (each (pair_part n _)) (each_inside_flow n _)))))))

    each_flow_map : (p : Props) (n : ℕ) (c : Ctx) → Each r (nodes.c-flow-mapping cs Wide handles Open inside p n c)
    unfolding nodes.c-flow-mapping
    each_flow_map p n c = each_given r Open (λ o. each_wrapped r s _ _ (opens o) (around_mapping true p)
        (each_before s _ (each_after s _ (each_parted n c (each_after s _ (each_entry n _))))))

    each_json_node : (n : ℕ) (c : Ctx) → Each r (nodes.c-flow-json-node cs Wide handles Open inside n c)
    unfolding nodes.c-flow-json-node
    each_json_node n c = each_taking r _ (λ p. each_either r (each_scalar p style.single _) (each_either r (each_scalar p style.double _)
        (each_either r (each_flow_seq p n c) (each_flow_map p n c))))

    each_empty_rest : Each s (nodes.empty_rest cs Wide handles Open inside)
    each_empty_rest = each_after s _ each_e

    each_seq_entry : (n : ℕ) → Each s (nodes.c-l-block-seq-entry cs Wide handles Open inside n)
    unfolding nodes.c-l-block-seq-entry nodes.s-l+block-indented
    each_seq_entry n = each_before s _ (each_either s (each_some s (λ m. each_given s _ (λ l. each_before s _ (each _)))) (each_either s (each _) each_empty_rest))

    each_map_entry : (n : ℕ) → Each s (nodes.ns-l-block-map-entry cs Wide handles Open inside n)
    unfolding nodes.ns-l-block-map-entry
    each_map_entry n = each_joined s (each_after s _ (each_either s (each_yaml_key block_key) (each_json_key block_key))) (each_either s (each _) each_empty_rest)

    each_block_seq : (p : Props) (col : ℕ) → Each r (nodes.l+block-sequence cs Wide handles Open inside p col)
    unfolding nodes.l+block-sequence
    each_block_seq p col = each_given r Open (λ o. each_wrapped r s _ _ (opens o) (around_sequence false p)
        (each_some s (λ k. each_given s _ (λ l. each_any_one (each_before s _ (each_seq_entry k))))))

    each_block_map : (p : Props) (col : ℕ) → Each r (nodes.l+block-mapping cs Wide handles Open inside p col)
    unfolding nodes.l+block-mapping
    each_block_map p col = each_given r Open (λ o. each_wrapped r s _ _ (opens o) (around_mapping false p)
        (each_some s (λ k. each_given s _ (λ l. each_any_one (each_before s _ (each_map_entry k))))))

    each_compact_seq : (k : ℕ) → Each r (nodes.ns-l-compact-sequence cs Wide handles Open inside k)
    unfolding nodes.ns-l-compact-sequence
    each_compact_seq k = each_given r Open (λ o. each_wrapped r s _ _ (opens o) (around_sequence false no_props)
        (each_joined s (each_seq_entry k) (each_any s (each_before s _ (each_seq_entry k)))))

    each_compact_map : (k : ℕ) → Each r (nodes.ns-l-compact-mapping cs Wide handles Open inside k)
    unfolding nodes.ns-l-compact-mapping
    each_compact_map k = each_given r Open (λ o. each_wrapped r s _ _ (opens o) (around_mapping false no_props)
        (each_joined s (each_map_entry k) (each_any s (each_before s _ (each_map_entry k)))))

    each_block_node : (col : ℕ) (c : Ctx) → Each r (nodes.s-l+block-node cs Wide handles Open inside col c)
    unfolding nodes.s-l+block-node nodes.ns-flow-node
    each_block_node col c = each_either r (each_before r _ (each_after r _ (each_either r (each_yaml_node col flow_out) (each_json_node col flow_out))))
        (each_either r (each_before r _ (each_taking r _ (λ p. each_either r (each_scalar p style.literal _) (each_scalar p style.folded _))))
        (each_taking r _ (λ p. each_either r (each_block_map p col) (each_block_seq p _))))

    each_part : (p : Part) → Each r (part cs Wide handles Open inside p)
    each_part (yaml_part n c) = each_yaml_node n c
    each_part (json_part n c) = each_json_node n c
    each_part (pair_part n c) = each_pair n c
    each_part (block_part col c) = each_block_node col c
    each_part (compact_part k) = each_either r (each_compact_seq k) (each_compact_map k)

  -- by induction on the room
  pub each_reads : (room : ℕ) (p : Part) → Each room (reads cs Wide handles room p)
  unfolding reads
  each_reads zero p = each_part ⊥ (λ q. never) 0 0 (λ o. absurd o) (λ q i j v r. absurd r) p
  each_reads (suc room) p = each_part (Unit {0}) (reads cs Wide handles room) room (suc room) (λ o. omega arith) (each_reads room) p

  -- no more collections are open than there was room for
  pub reads_peak : (room : ℕ) (p : Part) (i j : ℕ) (es : List Event) → reads cs Wide handles room p i j es → peak 0 es ≤ room
  reads_peak room p i j es r = level_peak room es (each_reads room p i j es r)
