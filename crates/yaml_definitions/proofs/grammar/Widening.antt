-- A reading stays one where more collections may be open, and in a wider profile: one line for each production, by induction on the room.
use Rattle.std.proofs.Common.{ℕ, zero, suc, ◌≤◌, List, [], arith, inl, inr}
use Rattle.yaml_definitions.specs.model.Event.{Event}
use Rattle.yaml_definitions.specs.grammar.Rules.{Span, Rule, ◌▸◌, ◌◂◌, ◌⨾◌, ◌∪◌, given, never, optional, some, any, any_one, Any, done, then, with_value, seen, where_both}
use Rattle.yaml_definitions.specs.grammar.Separation.{Ctx, flow_key, block_key}
use Rattle.yaml_definitions.specs.grammar.Events.{Props}
use Rattle.yaml_definitions.specs.grammar.Tags as tags
use Rattle.yaml_definitions.specs.grammar.Nodes as nodes
use Rattle.yaml_definitions.specs.grammar.Nodes.{Part, yaml_part, json_part, pair_part, block_part, compact_part, part, reads}
use Rattle.yaml_definitions.specs.grammar.Streams as streams
use Rattle.yaml_definitions.specs.grammar.Streams.{ReadsText}
use Rattle.yaml_definitions.specs.grammar.Laws.{ReadingsStay, Profile}

-- each reading by the first is one by the second
abbrev pub Within : {V : Type 0} → Rule V → Rule V → Type 0
Within {V} R S = (i j : ℕ) (v : V) → R i j v → S i j v

-- ---- the combinators

pub same : {V : Type 0} (R : Rule V) → Within R R
same R i j v r = r

pub in_before : {V : Type 0} (R : Span) {S T : Rule V} → Within S T → Within (R ▸ S) (R ▸ T)
in_before R f i j v (k, r, s) = (k, r, f k j v s)

pub in_after : {V : Type 0} {R T : Rule V} (S : Span) → Within R T → Within (R ◂ S) (T ◂ S)
in_after S f i j v (k, r, s) = (k, f i k v r, s)

pub in_joined : {A : Type 0} {R S T U : Rule (List A)} → Within R T → Within S U → Within (R ⨾ S) (T ⨾ U)
in_joined f g i j v (k, ys, zs, r, s, e) = (k, ys, zs, f i k ys r, g k j zs s, e)

pub in_either : {V : Type 0} {R S T U : Rule V} → Within R T → Within S U → Within (R ∪ S) (T ∪ U)
in_either f g i j v (inl r) = inl (f i j v r)
in_either f g i j v (inr s) = inr (g i j v s)

pub in_taking : {A V : Type 0} {R S : Rule A} {T U : A → Rule V} → Within R S → ((a : A) → Within (T a) (U a)) → Within (with_value R T) (with_value S U)
in_taking f g i j v (k, a, r, s) = (k, a, f i k a r, g a k j v s)

pub in_some : {V : Type 0} {R S : ℕ → Rule V} → ((a : ℕ) → Within (R a) (S a)) → Within (some R) (some S)
in_some f i j v (a, r) = (a, f a i j v r)

pub in_seen : {A V : Type 0} (g : A → V) {R S : Rule A} → Within R S → Within (seen g R) (seen g S)
in_seen g f i j v (a, r, e) = (a, f i j a r, e)

pub in_given : {V : Type 0} {P Q : Type 0} {R S : Rule V} → (P → Q) → Within R S → Within (given P R) (given Q S)
in_given g f i j v (p, r) = (g p, f i j v r)

pub in_bounded : {V : Type 0} (P : ℕ → ℕ → Type 0) {R S : Rule V} → Within R S → Within (where_both P R) (where_both P S)
in_bounded P f i j v (p, r) = (p, f i j v r)

pub in_any : {A : Type 0} {R S : Rule (List A)} → Within R S → Within (any R) (any S)
in_any {A} {R} {S} f i j v r = go i v r
  where
    go : (i : ℕ) (v : List A) → Any R j i v → Any S j i v
    go i v (done e h) = done e h
    go i v (then k ys zs r more e) = then k ys zs (f i k ys r) (go k zs more) e

pub in_any_one : {A : Type 0} {R S : Rule (List A)} → Within R S → Within (any_one R) (any_one S)
in_any_one f = in_joined f (in_any f)

pub in_optional : {A : Type 0} {R S : Rule (List A)} → Within R S → Within (optional R) (optional S)
in_optional f = in_either (same _) f

-- ---- the productions

module _ (cs : List ℕ) (Less More : Type 0) (wider : Less → More) where
  module _ (handles : tags.Handles) where
    module _ (Open Opens : Type 0) (opens : Open → Opens) (inside insides : Part → Rule (List Event)) (f : (p : Part) → Within (inside p) (insides p)) where
      pub in_inside_flow : (n : ℕ) (c : Ctx) → Within (nodes.inside_flow cs Less handles Open inside n c) (nodes.inside_flow cs More handles Opens insides n c)
      in_inside_flow n c = in_either (f (yaml_part n c)) (f (json_part n c))

      pub in_yaml_node : (n : ℕ) (c : Ctx) → Within (nodes.ns-flow-yaml-node cs Less handles Open inside n c) (nodes.ns-flow-yaml-node cs More handles Opens insides n c)
      unfolding nodes.ns-flow-yaml-node
      in_yaml_node n c = same _

      pub in_parted : (n : ℕ) (c : Ctx) {R S : Rule (List Event)} → Within R S → Within (nodes.parted cs Less handles Open inside n c R) (nodes.parted cs More handles Opens insides n c S)
      in_parted n c g = in_joined (in_any (in_after _ g)) (in_optional g)

      pub in_value : (n : ℕ) (c : Ctx) → Within (nodes.c-ns-flow-map-separate-value cs Less handles Open inside n c) (nodes.c-ns-flow-map-separate-value cs More handles Opens insides n c)
      unfolding nodes.c-ns-flow-map-separate-value
      in_value n c = in_before _ (in_either (in_before _ (in_inside_flow n c)) (same _))

      pub in_adjacent : (n : ℕ) (c : Ctx) → Within (nodes.c-ns-flow-map-adjacent-value cs Less handles Open inside n c) (nodes.c-ns-flow-map-adjacent-value cs More handles Opens insides n c)
      unfolding nodes.c-ns-flow-map-adjacent-value
      in_adjacent n c = in_before _ (in_either (in_before _ (in_inside_flow n c)) (same _))

      pub in_yaml_key_entry : (n : ℕ) (c : Ctx) → Within (nodes.ns-flow-map-yaml-key-entry cs Less handles Open inside n c) (nodes.ns-flow-map-yaml-key-entry cs More handles Opens insides n c)
      unfolding nodes.ns-flow-map-yaml-key-entry
      in_yaml_key_entry n c = in_joined (f (yaml_part n c)) (in_either (in_before _ (in_value n c)) (same _))

      pub in_json_key_entry : (n : ℕ) (c : Ctx) → Within (nodes.c-ns-flow-map-json-key-entry cs Less handles Open inside n c) (nodes.c-ns-flow-map-json-key-entry cs More handles Opens insides n c)
      unfolding nodes.c-ns-flow-map-json-key-entry
      in_json_key_entry n c = in_joined (f (json_part n c)) (in_either (in_before _ (in_adjacent n c)) (same _))

      pub in_implicit_entry : (n : ℕ) (c : Ctx) → Within (nodes.ns-flow-map-implicit-entry cs Less handles Open inside n c) (nodes.ns-flow-map-implicit-entry cs More handles Opens insides n c)
      unfolding nodes.ns-flow-map-implicit-entry
      in_implicit_entry n c = in_either (in_yaml_key_entry n c) (in_json_key_entry n c)

      pub in_empty_key : (n : ℕ) (c : Ctx) → Within (nodes.c-ns-flow-map-empty-key-entry cs Less handles Open inside n c) (nodes.c-ns-flow-map-empty-key-entry cs More handles Opens insides n c)
      unfolding nodes.c-ns-flow-map-empty-key-entry
      in_empty_key n c = in_joined (same _) (in_value n c)

      pub in_explicit : (n : ℕ) (c : Ctx) → Within (nodes.ns-flow-map-explicit-entry cs Less handles Open inside n c) (nodes.ns-flow-map-explicit-entry cs More handles Opens insides n c)
      unfolding nodes.ns-flow-map-explicit-entry
      in_explicit n c = in_before _ (in_either (in_implicit_entry n c) (in_either (in_empty_key n c) (same _)))

      pub in_entry : (n : ℕ) (c : Ctx) → Within (nodes.ns-flow-map-entry cs Less handles Open inside n c) (nodes.ns-flow-map-entry cs More handles Opens insides n c)
      unfolding nodes.ns-flow-map-entry
      in_entry n c = in_either (in_implicit_entry n c) (in_given wider (in_either (in_empty_key n c) (in_explicit n c)))

      pub in_implicit_yaml_key : (c : Ctx) → Within (nodes.ns-s-implicit-yaml-key cs Less handles Open inside c) (nodes.ns-s-implicit-yaml-key cs More handles Opens insides c)
      unfolding nodes.ns-s-implicit-yaml-key
      in_implicit_yaml_key c = in_bounded _ (in_after _ (f (yaml_part 0 c)))

      pub in_implicit_json_key : (c : Ctx) → Within (nodes.c-s-implicit-json-key cs Less handles Open inside c) (nodes.c-s-implicit-json-key cs More handles Opens insides c)
      unfolding nodes.c-s-implicit-json-key
      in_implicit_json_key c = in_bounded _ (in_after _ (f (json_part 0 c)))

      pub in_pair : (n : ℕ) (c : Ctx) → Within (nodes.ns-flow-pair cs Less handles Open inside n c) (nodes.ns-flow-pair cs More handles Opens insides n c)
      unfolding nodes.ns-flow-pair
      in_pair n c = in_given opens (in_seen _ (in_either (in_joined (in_implicit_yaml_key flow_key) (in_value n c))
          (in_either (in_joined (in_implicit_json_key flow_key) (in_adjacent n c)) (in_given wider (in_either (in_empty_key n c) (in_explicit n c))))))

      pub in_flow_seq : (p : Props) (n : ℕ) (c : Ctx) → Within (nodes.c-flow-sequence cs Less handles Open inside p n c) (nodes.c-flow-sequence cs More handles Opens insides p n c)
      unfolding nodes.c-flow-sequence
      in_flow_seq p n c = in_given opens (in_seen _ (in_before _ (in_after _ (in_parted n c (in_after _ (in_either (f (pair_part n _)) (in_inside_flow n _)))))))

      pub in_flow_map : (p : Props) (n : ℕ) (c : Ctx) → Within (nodes.c-flow-mapping cs Less handles Open inside p n c) (nodes.c-flow-mapping cs More handles Opens insides p n c)
      unfolding nodes.c-flow-mapping
      in_flow_map p n c = in_given opens (in_seen _ (in_before _ (in_after _ (in_parted n c (in_after _ (in_entry n _))))))

      pub in_json_node : (n : ℕ) (c : Ctx) → Within (nodes.c-flow-json-node cs Less handles Open inside n c) (nodes.c-flow-json-node cs More handles Opens insides n c)
      unfolding nodes.c-flow-json-node
      in_json_node n c = in_taking (same _) (λ p. in_either (same _) (in_either (same _) (in_either (in_flow_seq p n c) (in_flow_map p n c))))

      pub in_flow_node : (n : ℕ) (c : Ctx) → Within (nodes.ns-flow-node cs Less handles Open inside n c) (nodes.ns-flow-node cs More handles Opens insides n c)
      unfolding nodes.ns-flow-node
      in_flow_node n c = in_either (in_yaml_node n c) (in_json_node n c)

      pub in_indented : (k : ℕ) → Within (nodes.s-l+block-indented cs Less handles Open inside k) (nodes.s-l+block-indented cs More handles Opens insides k)
      unfolding nodes.s-l+block-indented
      in_indented k = in_either (in_some (λ m. in_given (λ h. h) (in_before _ (f _)))) (in_either (f _) (same _))

      pub in_seq_entry : (k : ℕ) → Within (nodes.c-l-block-seq-entry cs Less handles Open inside k) (nodes.c-l-block-seq-entry cs More handles Opens insides k)
      unfolding nodes.c-l-block-seq-entry
      in_seq_entry k = in_before _ (in_indented k)

      pub in_map_entry : (k : ℕ) → Within (nodes.ns-l-block-map-entry cs Less handles Open inside k) (nodes.ns-l-block-map-entry cs More handles Opens insides k)
      unfolding nodes.ns-l-block-map-entry
      in_map_entry k = in_joined (in_after _ (in_either (in_implicit_yaml_key block_key) (in_implicit_json_key block_key))) (in_either (f _) (same _))

      pub in_block_seq : (p : Props) (col : ℕ) → Within (nodes.l+block-sequence cs Less handles Open inside p col) (nodes.l+block-sequence cs More handles Opens insides p col)
      unfolding nodes.l+block-sequence
      in_block_seq p col = in_given opens (in_seen _ (in_some (λ k. in_given (λ h. h) (in_any_one (in_before _ (in_seq_entry k))))))

      pub in_block_map : (p : Props) (col : ℕ) → Within (nodes.l+block-mapping cs Less handles Open inside p col) (nodes.l+block-mapping cs More handles Opens insides p col)
      unfolding nodes.l+block-mapping
      in_block_map p col = in_given opens (in_seen _ (in_some (λ k. in_given (λ h. h) (in_any_one (in_before _ (in_map_entry k))))))

      pub in_compact_seq : (k : ℕ) → Within (nodes.ns-l-compact-sequence cs Less handles Open inside k) (nodes.ns-l-compact-sequence cs More handles Opens insides k)
      unfolding nodes.ns-l-compact-sequence
      in_compact_seq k = in_given opens (in_seen _ (in_joined (in_seq_entry k) (in_any (in_before _ (in_seq_entry k)))))

      pub in_compact_map : (k : ℕ) → Within (nodes.ns-l-compact-mapping cs Less handles Open inside k) (nodes.ns-l-compact-mapping cs More handles Opens insides k)
      unfolding nodes.ns-l-compact-mapping
      in_compact_map k = in_given opens (in_seen _ (in_joined (in_map_entry k) (in_any (in_before _ (in_map_entry k)))))

      pub in_block_node : (col : ℕ) (c : Ctx) → Within (nodes.s-l+block-node cs Less handles Open inside col c) (nodes.s-l+block-node cs More handles Opens insides col c)
      unfolding nodes.s-l+block-node
      in_block_node col c = in_either (in_before _ (in_after _ (in_flow_node col _)))
          (in_either (same _) (in_taking (same _) (λ p. in_either (in_block_map p col) (in_block_seq p _))))

      pub in_part : (p : Part) → Within (part cs Less handles Open inside p) (part cs More handles Opens insides p)
      in_part (yaml_part n c) = in_yaml_node n c
      in_part (json_part n c) = in_json_node n c
      in_part (pair_part n c) = in_pair n c
      in_part (block_part col c) = in_block_node col c
      in_part (compact_part k) = in_either (in_compact_seq k) (in_compact_map k)

    -- by induction on the room
    pub in_reads : (room most : ℕ) → room ≤ most → (p : Part) → Within (reads cs Less handles room p) (reads cs More handles most p)
    unfolding reads
    in_reads zero zero le p = in_part ⊥ ⊥ (λ h. h) (λ q. never) (λ q. never) (λ q. same _) p
    in_reads zero (suc most) le p = in_part ⊥ (Unit {0}) (λ h. tt) (λ q. never) (reads cs More handles most) (λ q i j v h. absurd h) p
    in_reads (suc room) zero le p = absurd (omega (arith, le))
    in_reads (suc room) (suc most) le p =
        in_part (Unit {0}) (Unit {0}) (λ h. h) (reads cs Less handles room) (reads cs More handles most) (in_reads room most (omega (arith, le))) p

  -- ---- documents and streams

  module _ (room most : ℕ) (le : room ≤ most) where
    pub in_bare_document : (handles : tags.Handles) → Within (streams.l-bare-document cs Less room handles) (streams.l-bare-document cs More most handles)
    unfolding streams.l-bare-document
    in_bare_document handles = in_bounded _ (in_reads handles room most le _)

    pub in_explicit_document : (handles : tags.Handles) → Within (streams.l-explicit-document cs Less room handles) (streams.l-explicit-document cs More most handles)
    unfolding streams.l-explicit-document streams.document_mark
    in_explicit_document handles = in_before _ (in_either (in_bare_document handles) (same _))

    pub in_directive_document : Within (streams.l-directive-document cs Less room) (streams.l-directive-document cs More most)
    unfolding streams.l-directive-document
    in_directive_document = in_taking (same _) in_explicit_document

    pub in_any_document : Within (streams.l-any-document cs Less room) (streams.l-any-document cs More most)
    unfolding streams.l-any-document
    in_any_document = in_either (in_seen _ (in_bare_document [])) (in_either (in_seen _ (in_explicit_document [])) (in_seen _ in_directive_document))

    pub in_suffix : Within (streams.l-document-suffix cs Less room) (streams.l-document-suffix cs More most)
    unfolding streams.l-document-suffix streams.document_mark
    in_suffix = same _

    pub in_stream : Within (streams.l-yaml-stream cs Less room) (streams.l-yaml-stream cs More most)
    unfolding streams.l-yaml-stream
    in_stream = in_joined (in_before _ (in_optional in_any_document)) (in_any (in_either
        (in_joined (in_any_one in_suffix) (in_before _ (in_optional in_any_document)))
        (in_either (in_seen _ (in_explicit_document [])) (same _))))

    pub in_text : (es : List Event) → ReadsText cs Less room es → ReadsText cs More most es
    unfolding ReadsText
    in_text es (ps, r, e) = (ps, in_stream 0 _ ps r, e)

pub readings_stay : ReadingsStay
readings_stay cs less more wider room most le es r = in_text cs (Profile less) (Profile more) wider room most le es r
