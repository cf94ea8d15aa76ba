-- A flow node with its properties, or an alias: it decides what its content decides.
use Rattle.std.proofs.Common.{◌≡◌, ℕ, zero, suc, ◌⊎◌, inl, inr, List, [], ◌∷◌, Result, Some, refl, sym, subst, arith, ◌<◌}
use Rattle.std.specs.Prelude.{slice_get}
use Rattle.std.specs.Result.{IsErrAnd}
use Rattle.std.proofs.Math.Nat.{eq-or-lt_of_le}
use Rattle.yaml_definitions.specs.model.Event.{Event}
use Rattle.yaml_text.specs.Lines.{Inside}
use Rattle.yaml_text.specs.declared.fault.Fault.{Fault}
use Rattle.yaml_text.specs.declared.fault.Fault.TheVariants.{OutOfMemory}
use Rattle.yaml_definitions.specs.grammar.Rules.{Rule, ◌▸◌, gives, maybe, with_value}
use Rattle.yaml_definitions.specs.grammar.Separation.{Ctx, block_out, block_in, flow_out, flow_in, block_key, flow_key, s-separate as separate, s-l-comments as s_l_comments}
use Rattle.yaml_definitions.specs.grammar.Tags.{Handles, c-ns-properties as properties}
use Rattle.yaml_definitions.specs.grammar.Tags as tags
use Rattle.yaml_definitions.specs.grammar.Events.{Props, no_props, alias_node, e-scalar as empty}
use Rattle.yaml_definitions.specs.grammar.Nodes.{Part, yaml_part, json_part, reads}
use Rattle.law_one_reading.specs.Readings.{End, At, Starts}
use Rattle.law_one_reading.specs.Follows.{Solid, Fresh, Closes, Colon, EndsYamlNode as Fy, EndsJsonNode as Fj, EndsNode as F}
use Rattle.law_one_reading.proofs.Lines.{way_maybe}
use Rattle.law_one_reading.proofs.Properties.{NoMore, props_two, props_here, props_inside}
use Rattle.law_one_reading.proofs.TagEnds.{prop_same, prop_here, prop_inside, alias_same}
use Rattle.law_one_reading.proofs.FlowNodes.{Kind, Sign, kind_three, kind_same, plain_start, jsons_start, prop_kind, ContentHere, Plains, Jsons, YamlRest, JsonRest, yaml_next, json_next}
use Rattle.law_one_reading.proofs.FlowEntries.{Facts, closes_solid, colon_solid, colon_part}
use Rattle.law_one_reading.proofs.FlowLevels.{inner_in, inner_out, no_facts, reads_facts, jsons_unique, plain_flow_unique, next_flow, content_flow, end_solid}
use Rattle.law_one_reading.proofs.PlainEnds.{plain_block_unique}
use Rattle.law_one_reading.proofs.BlockNodes.{next_here, content_here}
use Rattle.law_going_on.specs.GoingOn.{Refused, Goes, Rest, Here}
use Rattle.law_going_on.specs.FlowEnds.{EndsYaml, EndsJson}
use Rattle.law_going_on.proofs.GoingOn.{rest_goes, rest_refused, rest_rest, rest_right, rest_seen, refused_either}
use Rattle.law_going_on.proofs.FlowStarts.{alias_left, no_json, yaml_propped, json_propped}
use Rattle.law_going_on.proofs.PropertyChoices.{Second, rest_propped, plain_after, json_after, goes_gives, refused_gives}
use Rattle.law_going_on.proofs.Separations.{rest_separate, refused_separate, lines_of}
use Rattle.law_going_on.proofs.FlowLoops.{closes_fresh}
use Rattle.yaml_layout.specs.PropertyDecisions.{AllProperties, Barred, Stops, another, nothing, EndOf, LineGoesOn, IsRefused, IsOnly, DecidesNode}
use Rattle.yaml_layout.specs.NodeDecisions.{IsOpening, ContentOnly, ContentRefused}
use Rattle.yaml_layout.specs.NodeRules.{opens, below, content_at, content_from}
use Rattle.yaml_layout.specs.declared.flow.Kind as kinds
use Rattle.yaml_layout.specs.declared.flow.Kind.TheVariants.{Yaml, Json}
use Rattle.yaml_layout.specs.declared.flow.FlowNode.{FlowNode}
use Rattle.yaml_layout.proofs.PlainDecisions.{yaml_level, json_level}
use Rattle.yaml_layout.proofs.Deciding.{at_err, one_end, no_end}
use Rattle.yaml_layout.proofs.LineLemmas.{spaces_apart}
use Rattle.law_going_on.proofs.PropertyLines.{no_gap}
use Rattle.yaml_layout.proofs.PropertyDecisions.{no_more}
use Rattle.yaml_flow.proofs.ContentDecisions.{opening_kind}

abbrev Wide : Type 0
Wide = Unit {0}

module _ (cs : List ℕ) (handles : Handles) where
  pub facts_of : (room : ℕ) → Facts cs (below cs Wide handles room)
  facts_of zero = no_facts cs Wide handles
  facts_of (suc room) = reads_facts cs Wide handles room

module _ (cs : List ℕ) (handles : Handles) (room n : ℕ) (c : Ctx) where
  abbrev Open : Type 0
  Open = opens cs Wide handles room

  abbrev Inner : Part → Rule (List Event)
  Inner = below cs Wide handles room

  abbrev YamlNode : Rule (List Event)
  YamlNode = reads cs Wide handles room (yaml_part n c)

  abbrev JsonNode : Rule (List Event)
  JsonNode = reads cs Wide handles room (json_part n c)

  abbrev Content : kinds.Kind → Props → Rule (List Event)
  Content kind p = content_at cs Wide handles p kind room n c

  -- an asterisk
  star_kind : (k i : ℕ) → slice_get cs i ≡ Some 42 → (k ≡ 2 → ⊥) → Kind cs k i → ⊥
  star_kind k i h f g = f (kind_same cs k 2 i g (42, h, Sign.star 42 refl))

  star_no_json : (E : End) (i : ℕ) → slice_get cs i ≡ Some 42 → Refused JsonNode E i
  star_no_json E i h = rest_refused (json_level cs handles room n c E i) (no_json cs Wide handles Open Inner n c E i (star_kind 1 i h (λ e. omega (arith, e))) (star_kind 3 i h (λ e. omega (arith, e))))

  star_left : (E : End) (i : ℕ) → slice_get cs i ≡ Some 42 → Rest YamlNode E i (tags.c-ns-alias-node cs) E i
  star_left E i h = rest_rest (yaml_level cs handles room n c E i) (rest_rest (alias_left cs Wide handles Open Inner n c E i (42, h, Sign.star 42 refl)) (rest_seen (λ x. alias_node x ∷ []) (tags.c-ns-alias-node cs) E i))

  pub alias_only : (i x : ℕ) → slice_get cs i ≡ Some 42 → Goes (tags.c-ns-alias-node cs) Here i Here x → IsOnly cs handles room n c i Yaml x
  alias_only i x h g = ((λ d. let E = EndOf cs Yaml n c d in rest_goes (star_left E i h) (one_end (tags.c-ns-alias-node cs) E i x g)), λ d. star_no_json (EndOf cs Json n c d) i h)

  pub alias_refused : (i : ℕ) → slice_get cs i ≡ Some 42 → Refused (tags.c-ns-alias-node cs) Here i → IsRefused cs handles room n c i Yaml × IsRefused cs handles room n c i Json
  alias_refused i h f = ((λ d. let E = EndOf cs Yaml n c d in rest_refused (star_left E i h) (no_end (tags.c-ns-alias-node cs) E i f)), λ d. star_no_json (EndOf cs Json n c d) i h)

  -- ---- after properties

  -- how the text goes on after nodes that end at k, if they have properties alone
  record Followed (EY EJ : End) : Type 0 where
    pub nexty : (q : Props) (k j m : ℕ) (v : List Event) → Inside cs k → YamlRest cs Wide handles Open Inner n c q k j v → EY j m → NoMore cs handles n k
    pub nextj : (q : Props) (k j m : ℕ) (v : List Event) → Inside cs k → JsonRest cs Wide handles Open Inner n c q k j v → EJ j m → NoMore cs handles n k
    pub content : (k q m : ℕ) → Inside cs k → separate cs n c k q → ContentHere cs c q → EY k m → ⊥

  plains_fresh : (p : Props) (E : End) → Starts (Plains cs Wide handles Open Inner n c p) E (Fresh cs)
  plains_fresh p E i j m v (t, r, f) e = (plain_start cs n c i j t r).0

  jsons_fresh : (p : Props) (E : End) → Starts (Jsons cs Wide handles Open Inner n c p) E (Fresh cs)
  jsons_fresh p E i j m v r e = kind_three cs i (jsons_start cs Wide handles Open Inner n c p i j v r)

  module _ (EY EJ : End) (f : Followed EY EJ) (i k : ℕ) (p : Props) (r : properties cs handles n c i k p) (all : AllProperties cs handles n c i k p) where
    abbrev To : ℕ → Type 0
    To x = (q : ℕ) → maybe (separate cs n c) k q → Solid cs q → q ≡ x

    abbrev Both : Type 0
    Both = Refused YamlNode EY i × Refused JsonNode EJ i

    here : Kind cs 1 i
    here = prop_kind cs handles i (props_here cs handles (prop_same cs handles) (prop_here cs handles) (prop_inside cs handles) n c i k p (props_two cs handles n c i k p r))

    within : Inside cs k
    within = props_inside cs handles (prop_same cs handles) (prop_here cs handles) (prop_inside cs handles) n c i k p (props_two cs handles n c i k p r)

    none : Second cs handles n c i k p → ⊥
    none = no_more cs handles n c i k p all

    left_yaml : Rest YamlNode EY i (YamlRest cs Wide handles Open Inner n c p) EY k
    left_yaml = rest_rest (yaml_level cs handles room n c EY i) (rest_rest (yaml_propped cs Wide handles Open Inner n c EY i here) (rest_propped cs handles n c (YamlRest cs Wide handles Open Inner n c) EY i k p r none f.nexty))

    left_json : Rest JsonNode EJ i (JsonRest cs Wide handles Open Inner n c p) EJ k
    left_json = rest_rest (json_level cs handles room n c EJ i) (rest_rest (json_propped cs Wide handles Open Inner n c EJ i here) (rest_propped cs handles n c (JsonRest cs Wide handles Open Inner n c) EJ i k p r none f.nextj))

    -- separation leads to no content
    nowhere : ((q : ℕ) → maybe (separate cs n c) k q → Fresh cs q → ⊥) → ((m : ℕ) → EY k m → ⊥) → Both
    nowhere g h = (
      rest_refused left_yaml (refused_either (refused_separate cs n c (Plains cs Wide handles Open Inner n c p) EY k (plains_fresh p EY) g) (refused_gives (empty p) EY k h)),
      rest_refused left_json (refused_separate cs n c (Jsons cs Wide handles Open Inner n c p) EJ k (jsons_fresh p EJ) g),
    )

    -- properties alone
    alone : Refused (separate cs n c ▸ Plains cs Wide handles Open Inner n c p) EY k → Goes YamlNode EY i EY k
    alone g = rest_goes left_yaml (rest_goes (rest_right (gives (empty p)) g) (goes_gives (empty p) EY k))

    lone : To k → Goes YamlNode EY i EY k × Refused JsonNode EJ i
    lone to = (
      alone (record { none = λ j m v (q, s, t) e. cut q s (plains_fresh p EY q j m v t e).0 }),
      rest_refused left_json (record { none = λ j m v (q, s, t) e. cut q s (jsons_fresh p EJ q j m v t e).0 }),
    )
      where
        cut : (q : ℕ) → separate cs n c k q → Solid cs q → ⊥
        cut q s h = let e : q ≡ k = to q (inr s) h in no_gap cs n c k within (subst (separate cs n c k) e s) (subst (Solid cs) e h)

    module _ (x : ℕ) (to : To x) where
      no_plain : Refused (Content Yaml p) EY x → Refused (separate cs n c ▸ Plains cs Wide handles Open Inner n c p) EY k
      no_plain g = rest_refused (rest_separate cs n c (Plains cs Wide handles Open Inner n c p) EY k x (plains_fresh p EY) to) g

      no_jsons : Refused (Content Json p) EJ x → Refused JsonNode EJ i
      no_jsons g = rest_refused left_json (rest_refused (json_after cs handles n c Wide Open Inner p EJ k x to) g)

      none_after : Refused (Content Yaml p) EY x → Refused (Content Json p) EJ x → Goes YamlNode EY i EY k × Refused JsonNode EJ i
      none_after g h = (alone (no_plain g), no_jsons h)

      module _ (s : separate cs n c k x) (h : ContentHere cs c x) where
        no_yaml : Refused (Content Yaml p) EY x → Refused YamlNode EY i
        no_yaml g = rest_refused left_yaml (rest_refused (plain_after cs handles n c Wide Open Inner p EY k x to (λ m e. f.content k x m within s h e)) g)

        plain_only : (z : ℕ) → Goes (Content Yaml p) EY x EY z → Refused (Content Json p) EJ x → Goes YamlNode EY i EY z × Refused JsonNode EJ i
        plain_only z g t = (rest_goes left_yaml (rest_goes (plain_after cs handles n c Wide Open Inner p EY k x to (λ m e. f.content k x m within s h e)) g), no_jsons t)

        json_only : (z : ℕ) → Goes (Content Json p) EJ x EJ z → Refused (Content Yaml p) EY x → Goes JsonNode EJ i EJ z × Refused YamlNode EY i
        json_only z g t = (rest_goes left_json (rest_goes (json_after cs handles n c Wide Open Inner p EJ k x to) g), no_yaml t)

        none_read : Refused (Content Yaml p) EY x → Refused (Content Json p) EJ x → Both
        none_read g t = (no_yaml g, no_jsons t)

-- ---- in each context

pub in_not_out : flow_in ≡ flow_out → ⊥
in_not_out e = let h : flow_in ≡ flow_out = e in cc

module _ (cs : List ℕ) (handles : Handles) (room n d : ℕ) where
  fy : (j m : ℕ) → At (EndsYaml cs n) j m → At (Fy cs) j m
  fy j m (e, (q, g, h)) = (e, (q, way_maybe cs n flow_in j q g (end_solid cs q h), h))

  fj : (j m : ℕ) → At (EndsJson cs n) j m → At (Fj cs) j m
  fj j m (e, (q, g, h)) = (e, (q, way_maybe cs n flow_in j q g (solid h), h))
    where
      solid : Closes cs q ⊎ Colon cs q → Solid cs q
      solid (inl c) = closes_solid cs q c
      solid (inr c) = colon_solid cs q c

  followed_in : Followed cs handles room n flow_in (At (EndsYaml cs n)) (At (EndsJson cs n))
  followed_in = record {
    nexty = λ q k j m v o r e. yaml_next cs Wide handles (opens cs Wide handles room) (below cs Wide handles room) n flow_in (Fy cs) (Fj cs) (prop_same cs handles) (prop_here cs handles) (prop_inside cs handles) (alias_same cs) (plain_flow_unique cs n)
        (jsons_unique cs Wide handles (opens cs Wide handles room) (below cs Wide handles room) (facts_of cs handles room) n flow_in inner_in (Fj cs)) (next_flow cs handles n) (content_flow cs n) q k j m v o r (fy j m e);
    nextj = λ q k j m v o r e. json_next cs Wide handles (opens cs Wide handles room) (below cs Wide handles room) n flow_in (Fy cs) (Fj cs) (prop_same cs handles) (prop_here cs handles) (prop_inside cs handles) (alias_same cs) (plain_flow_unique cs n)
        (jsons_unique cs Wide handles (opens cs Wide handles room) (below cs Wide handles room) (facts_of cs handles room) n flow_in inner_in (Fj cs)) (next_flow cs handles n) (content_flow cs n) q k j m v o r (fj j m e);
    content = λ k q m o s h e. content_flow cs n k q o (fy k m e).1 s h;
  }

  followed_out : Followed cs handles room n flow_out (At (F cs n d)) (At (F cs n d))
  followed_out = record {
    nexty = λ q k j m v o r e. yaml_next cs Wide handles (opens cs Wide handles room) (below cs Wide handles room) n flow_out (F cs n d) (F cs n d) (prop_same cs handles) (prop_here cs handles) (prop_inside cs handles) (alias_same cs) (plain_block_unique cs n d)
        (jsons_unique cs Wide handles (opens cs Wide handles room) (below cs Wide handles room) (facts_of cs handles room) n flow_out inner_out (F cs n d)) (next_here cs handles n d) (content_here cs n d) q k j m v o r e;
    nextj = λ q k j m v o r e. json_next cs Wide handles (opens cs Wide handles room) (below cs Wide handles room) n flow_out (F cs n d) (F cs n d) (prop_same cs handles) (prop_here cs handles) (prop_inside cs handles) (alias_same cs) (plain_block_unique cs n d)
        (jsons_unique cs Wide handles (opens cs Wide handles room) (below cs Wide handles room) (facts_of cs handles room) n flow_out inner_out (F cs n d)) (next_here cs handles n d) (content_here cs n d) q k j m v o r e;
    content = λ k q m o s h e. content_here cs n d k q o e.1 s h;
  }

module _ (cs : List ℕ) (handles : Handles) (room n : ℕ) where
  -- of an end nothing is said, or what follows is known
  followed : (c : Ctx) (d : ℕ) → Followed cs handles room n c (EndOf cs Yaml n c d) (EndOf cs Json n c d)
  followed flow_in d = followed_in cs handles room n d
  followed flow_out d = followed_out cs handles room n d
  followed block_out d = record { nexty = λ q k j m v o r e. absurd e; nextj = λ q k j m v o r e. absurd e; content = λ k q m o s h e. e }
  followed block_in d = record { nexty = λ q k j m v o r e. absurd e; nextj = λ q k j m v o r e. absurd e; content = λ k q m o s h e. e }
  followed block_key d = record { nexty = λ q k j m v o r e. absurd e; nextj = λ q k j m v o r e. absurd e; content = λ k q m o s h e. e }
  followed flow_key d = record { nexty = λ q k j m v o r e. absurd e; nextj = λ q k j m v o r e. absurd e; content = λ k q m o s h e. e }

module _ (cs : List ℕ) (n : ℕ) where
  -- no content comes, and so no end of a node that needs some
  nothing_ends : (c : Ctx) (k d : ℕ) → (c ≡ flow_out → (j : ℕ) → s_l_comments cs k j → ⊥) → ((q : ℕ) → maybe (separate cs n c) k q → Fresh cs q → ⊥) → (m : ℕ) → EndOf cs Yaml n c d k m → ⊥
  nothing_ends flow_in k d g f m (e, (q, s, inl h)) = f q s (closes_fresh cs q h)
  nothing_ends flow_in k d g f m (e, (q, s, inr h)) = f q s (colon_part cs q h.0).0
  nothing_ends flow_out k d g f m (e, inl (o, p, x)) = g refl o (lines_of cs k o p)
  nothing_ends flow_out k d g f m (e, inr (q, r, h, x)) = f q (over (eq-or-lt_of_le r.0)) (colon_part cs q h).0
    where
      over : (k ≡ q) ⊎ (k < q) → maybe (separate cs n flow_out) k q
      over (inl a) = inl (sym a)
      over (inr l) = inr (spaces_apart cs n flow_out k q r l)
  nothing_ends block_out k d g f m e = e
  nothing_ends block_in k d g f m e = e
  nothing_ends block_key k d g f m e = e
  nothing_ends flow_key k d g f m e = e

module _ (cs : List ℕ) (handles : Handles) (room n : ℕ) (c : Ctx) (i k : ℕ) (p : Props) (r : properties cs handles n c i k p) (all : AllProperties cs handles n c i k p) where
  abbrev Refusals : Type 0
  Refusals = IsRefused cs handles room n c i Yaml × IsRefused cs handles room n c i Json

  pub props_nowhere : (c ≡ flow_out → LineGoesOn cs k p) → (p ≡ no_props → ⊥) → (Inside cs k → (q : ℕ) → maybe (separate cs n c) k q → Fresh cs q → ⊥) → Refusals
  props_nowhere on some none = ((λ d. (both d).0), λ d. (both d).1)
    where
      line : c ≡ flow_out → (j : ℕ) → s_l_comments cs k j → ⊥
      line h = go (on h)
        where
          go : LineGoesOn cs k p → (j : ℕ) → s_l_comments cs k j → ⊥
          go (inl e) = absurd (some e)
          go (inr f) = f

      inside : Inside cs k
      inside = props_inside cs handles (prop_same cs handles) (prop_here cs handles) (prop_inside cs handles) n c i k p (props_two cs handles n c i k p r)

      both : (d : ℕ) → Refused (reads cs Wide handles room (yaml_part n c)) (EndOf cs Yaml n c d) i × Refused (reads cs Wide handles room (json_part n c)) (EndOf cs Json n c d) i
      both d = nowhere cs handles room n c (EndOf cs Yaml n c d) (EndOf cs Json n c d) (followed cs handles room n c d) i k p r all (none inside) (nothing_ends cs n c k d line (none inside))

  pub props_lone : ((q : ℕ) → maybe (separate cs n c) k q → Solid cs q → q ≡ k) → IsOnly cs handles room n c i Yaml k
  props_lone to = ((λ d. (both d).0), λ d. (both d).1)
    where
      both : (d : ℕ) → Goes (reads cs Wide handles room (yaml_part n c)) (EndOf cs Yaml n c d) i (EndOf cs Yaml n c d) k × Refused (reads cs Wide handles room (json_part n c)) (EndOf cs Json n c d) i
      both d = lone cs handles room n c (EndOf cs Yaml n c d) (EndOf cs Json n c d) (followed cs handles room n c d) i k p r all to

  module _ (x : ℕ) (to : (q : ℕ) → maybe (separate cs n c) k q → Solid cs q → q ≡ x) where
    pub props_none : ContentRefused cs handles room n c x Yaml × ContentRefused cs handles room n c x Json → IsOnly cs handles room n c i Yaml k
    props_none (g, h) = ((λ d. (both d).0), λ d. (both d).1)
      where
        both : (d : ℕ) → Goes (reads cs Wide handles room (yaml_part n c)) (EndOf cs Yaml n c d) i (EndOf cs Yaml n c d) k × Refused (reads cs Wide handles room (json_part n c)) (EndOf cs Json n c d) i
        both d = none_after cs handles room n c (EndOf cs Yaml n c d) (EndOf cs Json n c d) (followed cs handles room n c d) i k p r all x to (g p d) (h p d)

    pub props_only : separate cs n c k x → ContentHere cs c x → (kind : kinds.Kind) (z : ℕ) → ContentOnly cs handles room n c x kind z → IsOnly cs handles room n c i kind z
    props_only s h Yaml z (g, t) = ((λ d. (both d).0), λ d. (both d).1)
      where
        both : (d : ℕ) → Goes (reads cs Wide handles room (yaml_part n c)) (EndOf cs Yaml n c d) i (EndOf cs Yaml n c d) z × Refused (reads cs Wide handles room (json_part n c)) (EndOf cs Json n c d) i
        both d = plain_only cs handles room n c (EndOf cs Yaml n c d) (EndOf cs Json n c d) (followed cs handles room n c d) i k p r all x to s h z (g p d) (t p d)
    props_only s h Json z (g, t) = ((λ d. (both d).0), λ d. (both d).1)
      where
        both : (d : ℕ) → Goes (reads cs Wide handles room (json_part n c)) (EndOf cs Json n c d) i (EndOf cs Json n c d) z × Refused (reads cs Wide handles room (yaml_part n c)) (EndOf cs Yaml n c d) i
        both d = json_only cs handles room n c (EndOf cs Yaml n c d) (EndOf cs Json n c d) (followed cs handles room n c d) i k p r all x to s h z (g p d) (t p d)

    pub props_refused : separate cs n c k x → IsOpening cs x → ContentRefused cs handles room n c x Yaml × ContentRefused cs handles room n c x Json → Refusals
    props_refused s h (g, t) = ((λ d. (both d).0), λ d. (both d).1)
      where
        content : ContentHere cs c x
        content = let a = opening_kind cs handles room n c x h in (kind_three cs x a, inl a)

        both : (d : ℕ) → Refused (reads cs Wide handles room (yaml_part n c)) (EndOf cs Yaml n c d) i × Refused (reads cs Wide handles room (json_part n c)) (EndOf cs Json n c d) i
        both d = none_read cs handles room n c (EndOf cs Yaml n c d) (EndOf cs Json n c d) (followed cs handles room n c d) i k p r all x to s content (g p d) (t p d)

module _ (cs : List ℕ) (handles : Handles) (room n : ℕ) where
  -- content that was read begins with a character of content
  pub content_begins : (deep : ℕ) (kind : kinds.Kind) (c : Ctx) (x j : ℕ) (es : List Event) → content_from cs Wide handles deep kind n c x j es → ContentHere cs c x
  content_begins deep Yaml c x j es r = let (t, u, e) = r deep (omega arith) in let (f, g) = plain_start cs n c x j t u in (f, inr g)
  content_begins deep Json c x j es r =
      let a = jsons_start cs Wide handles (opens cs Wide handles deep) (below cs Wide handles deep) n c no_props x j es (r deep (omega arith)) in (kind_three cs x a, inl a)

  -- a property begins here, but no properties that a node goes on after
  barred_in : (i : ℕ) → Barred cs handles n flow_in i → IsRefused cs handles room n flow_in i Yaml × IsRefused cs handles room n flow_in i Json
  barred_in i (h, f) = (
    (λ d. rest_refused (yaml_level cs handles room n flow_in (EndOf cs Yaml n flow_in d) i) (rest_refused (yaml_propped cs Wide handles Open Inner n flow_in (EndOf cs Yaml n flow_in d) i (prop_kind cs handles i h)) (record { none = yaml d }))),
    λ d. rest_refused (json_level cs handles room n flow_in (EndOf cs Json n flow_in d) i) (rest_refused (json_propped cs Wide handles Open Inner n flow_in (EndOf cs Json n flow_in d) i (prop_kind cs handles i h)) (record { none = json d })),
  )
    where
      Open : Type 0
      Open = opens cs Wide handles room

      Inner : Part → Rule (List Event)
      Inner = below cs Wide handles room

      yaml : (d j m : ℕ) (v : List Event) → with_value (properties cs handles n flow_in) (YamlRest cs Wide handles (opens cs Wide handles room) (below cs Wide handles room) n flow_in) i j v → EndOf cs Yaml n flow_in d j m → ⊥
      yaml d j m v (k, p, r, s) e = go (f k p r) s
        where
          inside : Inside cs k
          inside = props_inside cs handles (prop_same cs handles) (prop_here cs handles) (prop_inside cs handles) n flow_in i k p (props_two cs handles n flow_in i k p r)

          go : Stops cs handles n flow_in k → YamlRest cs Wide handles (opens cs Wide handles room) (below cs Wide handles room) n flow_in p k j v → ⊥
          go (another o t u) w = (followed_in cs handles room n d).nexty p k j m v inside w e flow_in o t u
          go (nothing key none) (inl (q, t, (x, u, y))) = none q (inr t) (plain_start cs n flow_in q j x u).0
          go (nothing key none) (inr (a, b)) = nothing_ends cs n flow_in k d (λ g. absurd (in_not_out g)) none m (subst (λ z. EndOf cs Yaml n flow_in d z m) a e)

      json : (d j m : ℕ) (v : List Event) → with_value (properties cs handles n flow_in) (JsonRest cs Wide handles (opens cs Wide handles room) (below cs Wide handles room) n flow_in) i j v → EndOf cs Json n flow_in d j m → ⊥
      json d j m v (k, p, r, s) e = go (f k p r) s
        where
          inside : Inside cs k
          inside = props_inside cs handles (prop_same cs handles) (prop_here cs handles) (prop_inside cs handles) n flow_in i k p (props_two cs handles n flow_in i k p r)

          go : Stops cs handles n flow_in k → JsonRest cs Wide handles (opens cs Wide handles room) (below cs Wide handles room) n flow_in p k j v → ⊥
          go (another o t u) w = (followed_in cs handles room n d).nextj p k j m v inside w e flow_in o t u
          go (nothing key none) (q, t, u) = none q (inr t) (kind_three cs q (jsons_start cs Wide handles (opens cs Wide handles room) (below cs Wide handles room) n flow_in p q j v u))

  pub barred_refused : (c : Ctx) (i : ℕ) → c ≡ flow_in → Barred cs handles n c i → IsRefused cs handles room n c i Yaml × IsRefused cs handles room n c i Json
  barred_refused c i e = subst (λ x. Barred cs handles n x i → IsRefused cs handles room n x i Yaml × IsRefused cs handles room n x i Json) (sym e) (barred_in i)

-- at the exit of a `?`
pub node_err : (cs : List ℕ) (handles : Handles) (room n : ℕ) (c : Ctx) (i : ℕ) (end : FlowNode → ℕ) (r : Result FlowNode Fault) (e : Fault) → IsErrAnd r (λ y. y ≡ e)
    → (e ≡ OutOfMemory) ⊎ (IsRefused cs handles room n c i Yaml × IsRefused cs handles room n c i Json) → DecidesNode cs handles room n c i end r
node_err cs handles room n c i end = at_err (DecidesNode cs handles room n c i end)
