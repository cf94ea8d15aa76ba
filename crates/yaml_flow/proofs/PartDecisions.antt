-- Items, entries and values between brackets: what each decides, by what stands after its nodes.
use Rattle.std.proofs.Common.{◌≡◌, ◌≢◌, ℕ, ◌+◌, ◌⊎◌, inl, inr, List, true, Some, refl, subst, arith}
use Rattle.std.specs.Prelude.{slice_get}
use Rattle.yaml_definitions.specs.model.Event.{Event}
use Rattle.yaml_definitions.specs.grammar.Rules.{Rule, ◌∪◌}
use Rattle.yaml_definitions.specs.grammar.Separation.{Ctx, flow_in, flow_key}
use Rattle.yaml_definitions.specs.grammar.Tags.{Handles}
use Rattle.yaml_definitions.specs.grammar.Events.{no_props}
use Rattle.yaml_definitions.specs.grammar.Nodes.{Part, yaml_part, json_part, c-ns-flow-map-separate-value as value, c-ns-flow-map-adjacent-value as adjacent, ns-flow-pair as pair, reads}
use Rattle.yaml_text.proofs.Runs.{same_char}
use Rattle.yaml_scalar.specs.Chains.{plain_sign}
use Rattle.yaml_scalar.proofs.PlainLemmas.{no_first_sign}
use Rattle.law_one_reading.specs.Readings.{End, At}
use Rattle.law_one_reading.specs.Follows.{Colon, EndsYamlKey as ColonY, MarkHere}
use Rattle.law_one_reading.proofs.FlowNodes.{Kind, sign_not, kind, plain_start, jsons_start, safe_ns}
use Rattle.law_one_reading.proofs.FlowEntries.{Facts, ItemHere}
use Rattle.law_one_reading.proofs.FlowLevels.{reads_facts}
use Rattle.law_going_on.specs.GoingOn.{Refused, Goes, Rest}
use Rattle.law_going_on.specs.FlowEnds.{InFlow, EndsYaml, EndsJson}
use Rattle.law_going_on.proofs.GoingOn.{rest_refused, refused_within}
use Rattle.law_going_on.proofs.FlowChoices as left
use Rattle.yaml_layout.specs.PropertyDecisions.{IsOnly, IsRefused}
use Rattle.yaml_layout.specs.Keys.{Spaced, IsKeySized}
use Rattle.yaml_layout.specs.NodeRules.{opens, below}
use Rattle.yaml_flow.specs.FlowRules.{SignAt, AskedAt}
use Rattle.yaml_layout.specs.declared.flow.Kind as kinds
use Rattle.yaml_layout.specs.declared.flow.Kind.TheVariants.{Yaml, Json}
use Rattle.yaml_layout.proofs.PlainDecisions.{bare_yaml, bare_json}

abbrev Wide : Type 0
Wide = Unit {0}

-- ---- the characters before which no node begins

sign_question : plain_sign 63 ≡ true
unfolding plain_sign
sign_question = refl

kind_question : kind 63 ≡ 0
unfolding kind
kind_question = refl

module _ (cs : List ℕ) where
  pub mark_asked : (i : ℕ) → MarkHere cs i → AskedAt flow_in cs i
  mark_asked i (h, f) = (h, λ (x, g, t). f (x, g, safe_ns flow_in x t))

  pub no_mark : (i : ℕ) → (AskedAt flow_in cs i → ⊥) → MarkHere cs i → ⊥
  no_mark i f h = f (mark_asked i h)

module _ (cs : List ℕ) (handles : Handles) (room n : ℕ) where
  pub no_asked_yaml : (E : End) (i : ℕ) → AskedAt flow_in cs i → Refused (reads cs Wide handles room (yaml_part n flow_in)) E i
  no_asked_yaml E i (h, f) = rest_refused (bare_yaml cs handles room n flow_in E i property star) (record { none = λ j m v (t, r, e) g. no_first_sign cs flow_in i (i + 1) 63 h sign_question refl f (plain_start cs n flow_in i j t r).1 })
    where
      property : (slice_get cs i ≡ Some 33) ⊎ (slice_get cs i ≡ Some 38) → ⊥
      property (inl g) = let e : 33 ≡ 63 = same_char cs i 33 63 g h in omega (arith, e)
      property (inr g) = let e : 38 ≡ 63 = same_char cs i 38 63 g h in omega (arith, e)

      star : slice_get cs i ≢ Some 42
      star g = let e : 42 ≡ 63 = same_char cs i 42 63 g h in omega (arith, e)

  pub no_asked_json : (E : End) (i : ℕ) → AskedAt flow_in cs i → Refused (reads cs Wide handles room (json_part n flow_in)) E i
  no_asked_json E i (h, f) = rest_refused (bare_json cs handles room n flow_in E i property) (record { none = λ j m v r g. opening (jsons_start cs Wide handles (opens cs Wide handles room) (below cs Wide handles room) n flow_in no_props i j v r) })
    where
      property : (slice_get cs i ≡ Some 33) ⊎ (slice_get cs i ≡ Some 38) → ⊥
      property (inl g) = let e : 33 ≡ 63 = same_char cs i 33 63 g h in omega (arith, e)
      property (inr g) = let e : 38 ≡ 63 = same_char cs i 38 63 g h in omega (arith, e)

      opening : Kind cs 3 i → ⊥
      opening (x, g, s) = sign_not 3 x 63 s (same_char cs i x 63 g h) kind_question

-- ---- which kind of node was read

module _ (cs : List ℕ) (n : ℕ) (Y J : Rule (List Event)) where
  abbrev pub OnlyIn : kinds.Kind → ℕ → ℕ → Type 0
  OnlyIn Yaml i y = Goes Y (At (EndsYaml cs n)) i (At (EndsYaml cs n)) y × Refused J (At (EndsJson cs n)) i
  OnlyIn Json i y = Goes J (At (EndsJson cs n)) i (At (EndsJson cs n)) y × Refused Y (At (EndsYaml cs n)) i

  abbrev pub NoneIn : ℕ → Type 0
  NoneIn i = Refused Y (At (EndsYaml cs n)) i × Refused J (At (EndsJson cs n)) i

module _ (cs : List ℕ) (handles : Handles) (room n : ℕ) where
  abbrev pub YamlIn : Rule (List Event)
  YamlIn = reads cs Wide handles room (yaml_part n flow_in)

  abbrev pub JsonIn : Rule (List Event)
  JsonIn = reads cs Wide handles room (json_part n flow_in)

  only_here : (kind : kinds.Kind) (i y : ℕ) → IsOnly cs handles room n flow_in i kind y → OnlyIn cs n YamlIn JsonIn kind i y
  only_here Yaml i y (g, f) = (g 0, f 0)
  only_here Json i y (g, f) = (g 0, f 0)

  pub only_in : (c : Ctx) (kind : kinds.Kind) (i y : ℕ) → c ≡ flow_in → IsOnly cs handles room n c i kind y → OnlyIn cs n YamlIn JsonIn kind i y
  only_in c kind i y e o = only_here kind i y (subst (λ x. IsOnly cs handles room n x i kind y) e o)

  pub refused_in : (c : Ctx) (i : ℕ) → c ≡ flow_in → IsRefused cs handles room n c i Yaml × IsRefused cs handles room n c i Json → NoneIn cs n YamlIn JsonIn i
  refused_in c i e (f, g) = (subst (λ x. IsRefused cs handles room n x i Yaml) e f 0, subst (λ x. IsRefused cs handles room n x i Json) e g 0)

  pub yaml_begins : (i j : ℕ) (v : List Event) → YamlIn i j v → ItemHere cs i
  yaml_begins = (reads_facts cs Wide handles room).yaml_start n

  pub json_begins : (i j : ℕ) (v : List Event) → JsonIn i j v → ItemHere cs i
  json_begins = (reads_facts cs Wide handles room).json_start n

-- ---- pairs of a key of one line and its value

module _ (cs : List ℕ) (handles : Handles) (Open : Type 0) (inside : Part → Rule (List Event)) (facts : Facts cs inside) (n : ℕ) (Y J : Rule (List Event))
    (y_start : (i j : ℕ) (v : List Event) → Y i j v → ItemHere cs i) (j_start : (i j : ℕ) (v : List Event) → J i j v → ItemHere cs i)
    (y_key : (i j : ℕ) (v : List Event) → inside (yaml_part 0 flow_key) i j v → Y i j v) (j_key : (i j : ℕ) (v : List Event) → inside (json_part 0 flow_key) i j v → J i j v)
    (i : ℕ) (no_colon : ColonY cs i → ⊥) (no_ask : MarkHere cs i → ⊥) where
  abbrev Pair : Rule (List Event)
  Pair = pair cs Wide handles Open inside n flow_in

  abbrev ValueOf : kinds.Kind → Rule (List Event)
  ValueOf Yaml = value cs Wide handles Open inside n flow_in
  ValueOf Json = adjacent cs Wide handles Open inside n flow_in

  abbrev In : End
  In = InFlow cs n

  pub pair_rest : (kind : kinds.Kind) (y q : ℕ) → OnlyIn cs n Y J kind i y → Spaced cs y q → Rest Pair In i (ValueOf kind) In q
  pair_rest Yaml y q (g, f) sp = left.pair_of_yaml cs Wide handles Open inside facts n Y J y_start j_start y_key j_key i y q g f no_colon no_ask sp
  pair_rest Json y q (g, f) sp = left.pair_of_json cs Wide handles Open inside facts n Y J y_start j_start y_key j_key i y q g f no_colon no_ask sp

  pub no_pair : (kind : kinds.Kind) (y q : ℕ) → OnlyIn cs n Y J kind i y → Spaced cs y q → (SignAt kind flow_in cs q → IsKeySized cs i q → ⊥) → Refused Pair In i
  no_pair Yaml y q (g, f) sp none = left.no_pair_of_yaml cs Wide handles Open inside facts n Y J y_start j_start y_key j_key i y q g f no_colon no_ask sp none
  no_pair Json y q (g, f) sp none = left.no_pair_of_json cs Wide handles Open inside facts n Y J y_start j_start y_key j_key i y q g f no_colon no_ask sp (λ h fits. none (h, tt) fits)

  pub no_pair_here : NoneIn cs n Y J i → Refused Pair In i
  no_pair_here (f, g) = refused_within Pair (λ j v r. inl r) (left.item_none cs Wide handles Open inside facts n Y J y_start j_start y_key j_key i f g no_colon no_ask)

  nodes_go : (kind : kinds.Kind) (y : ℕ) → OnlyIn cs n Y J kind i y → Goes (Y ∪ J) In i In y
  nodes_go Yaml y (g, f) = left.node_of_yaml cs Wide handles Open inside facts n Y J y_start j_start y_key j_key i y g f
  nodes_go Json y (g, f) = left.node_of_json cs Wide handles Open inside facts n Y J y_start j_start y_key j_key i y g f

  colon_of : (kind : kinds.Kind) (q : ℕ) → SignAt kind flow_in cs q → Colon cs q
  colon_of Yaml q h = h.0
  colon_of Json q h = h.0

  -- an item: the node alone, or the pair where a colon follows the node
  pub item_alone : (kind : kinds.Kind) (y : ℕ) → OnlyIn cs n Y J kind i y → Refused Pair In i → Goes (Pair ∪ (Y ∪ J)) In i In y
  item_alone kind y o f = left.item_node cs Wide handles Open inside facts n Y J y_start j_start y_key j_key i y f (nodes_go kind y o)

  pub item_paired : (kind : kinds.Kind) (y q z : ℕ) → OnlyIn cs n Y J kind i y → Spaced cs y q → SignAt kind flow_in cs q → Goes Pair In i In z → Goes (Pair ∪ (Y ∪ J)) In i In z
  item_paired kind y q z o sp h g = left.item_pair cs Wide handles Open inside facts n Y J y_start j_start y_key j_key i y q z (nodes_go kind y o) sp (colon_of kind q h) g

  pub item_unpaired : (kind : kinds.Kind) (y q : ℕ) → OnlyIn cs n Y J kind i y → Spaced cs y q → SignAt kind flow_in cs q → Refused Pair In i → Refused (Pair ∪ (Y ∪ J)) In i
  item_unpaired kind y q o sp h f = left.item_refused cs Wide handles Open inside facts n Y J y_start j_start y_key j_key i y q (nodes_go kind y o) sp (colon_of kind q h) f

  pub item_nowhere : NoneIn cs n Y J i → Refused (Pair ∪ (Y ∪ J)) In i
  item_nowhere (f, g) = left.item_none cs Wide handles Open inside facts n Y J y_start j_start y_key j_key i f g no_colon no_ask

  pub pair_closed : (Open → ⊥) → Refused Pair In i
  pair_closed f = left.pair_no_room cs Wide handles Open inside facts n Y J y_start j_start y_key j_key In i f
