-- Items of a flow sequence at the room that they have: a node, a pair that begins with its key, with a `?` or with a colon.
use Rattle.std.proofs.Common.{◌≡◌, ℕ, zero, suc, ◌+◌, inl, inr, List, Some, refl, sym, subst, arith}
use Rattle.std.specs.Prelude.{slice_get}
use Rattle.yaml_definitions.specs.model.Event.{Event}
use Rattle.yaml_definitions.specs.grammar.Rules.{Rule, ◌∪◌}
use Rattle.yaml_definitions.specs.grammar.Separation.{flow_in, flow_key, s-separate as separate}
use Rattle.yaml_definitions.specs.grammar.Tags.{Handles}
use Rattle.yaml_definitions.specs.grammar.Nodes.{Part, yaml_part, json_part, pair_part, ns-flow-map-explicit-entry as explicit, ns-flow-pair as pair, reads}
use Rattle.yaml_text.proofs.Runs.{same_char}
use Rattle.law_one_reading.specs.Readings.{End, At}
use Rattle.law_one_reading.specs.Follows.{EndsYamlKey as ColonY, MarkHere}
use Rattle.law_one_reading.proofs.FlowLevels.{reads_facts}
use Rattle.law_one_reading.proofs.KeyContexts.{at_flow, reads_eased}
use Rattle.law_one_reading.proofs.BlockLevels.{one_more}
use Rattle.law_going_on.specs.GoingOn.{Refused, Goes, Rest}
use Rattle.law_going_on.specs.FlowEnds.{InFlow, EndsYaml, EndsJson}
use Rattle.law_going_on.proofs.GoingOn.{rest_goes, rest_refused, rest_rest, refused_either}
use Rattle.law_going_on.proofs.FlowChoices as left
use Rattle.yaml_flow.specs.FlowDecisions.{NoKey, LongKey}
use Rattle.yaml_layout.specs.Keys.{Spaced, IsKeySized}
use Rattle.yaml_layout.specs.NodeRules.{opens, below}
use Rattle.yaml_flow.specs.FlowRules.{item_at, asked_at, value_at, SignAt, AskedAt}
use Rattle.yaml_layout.specs.declared.flow.Kind as kinds
use Rattle.yaml_layout.specs.declared.flow.Kind.TheVariants.{Yaml, Json}
use Rattle.yaml_flow.proofs.BareDecisions.{facts_of}
use Rattle.yaml_layout.proofs.NodeLemmas.{from_reads, to_reads}
use Rattle.yaml_flow.proofs.PartDecisions.{OnlyIn, NoneIn, YamlIn, JsonIn, yaml_begins, json_begins, no_asked_yaml, no_asked_json, pair_rest, no_pair, no_pair_here, item_alone, item_paired, item_unpaired, item_nowhere, pair_closed}

abbrev Wide : Type 0
Wide = Unit {0}

-- what follows a `?`
pub explicit_rest : (cs : List ℕ) (handles : Handles) (r n : ℕ) (E : End) (i : ℕ) → Rest (explicit cs Wide handles (Unit {0}) (reads cs Wide handles r) n flow_in) E i (asked_at cs Wide handles r n flow_in) E (i + 1)
unfolding explicit
explicit_rest cs handles r n E i = record { rest = go }
  where
    go : (j m : ℕ) (v : List Event) → explicit cs Wide handles (Unit {0}) (reads cs Wide handles r) n flow_in i j v → E j m → (k : ℕ) × (w : List Event) × asked_at cs Wide handles r n flow_in (i + 1) k w × E k m
    go j m v (k, (a, (h, e), s), inl x) f = (j, v, (k, subst (λ z. separate cs n flow_in z k) e s, inl (inl x)), f)
    go j m v (k, (a, (h, e), s), inr (inl x)) f = (j, v, (k, subst (λ z. separate cs n flow_in z k) e s, inl (inr x)), f)
    go j m v (k, (a, (h, e), s), inr (inr x)) f = (j, v, (k, subst (λ z. separate cs n flow_in z k) e s, inr x), f)

pub asked_explicit : (cs : List ℕ) (handles : Handles) (r n : ℕ) (E : End) (i : ℕ) → slice_get cs i ≡ Some 63 → Rest (asked_at cs Wide handles r n flow_in) E (i + 1) (explicit cs Wide handles (Unit {0}) (reads cs Wide handles r) n flow_in) E i
unfolding explicit
asked_explicit cs handles r n E i h = record { rest = go }
  where
    go : (j m : ℕ) (v : List Event) → asked_at cs Wide handles r n flow_in (i + 1) j v → E j m → (k : ℕ) × (w : List Event) × explicit cs Wide handles (Unit {0}) (reads cs Wide handles r) n flow_in i k w × E k m
    go j m v (k, s, inl (inl x)) f = (j, v, (k, (i + 1, (h, refl), s), inl x), f)
    go j m v (k, s, inl (inr x)) f = (j, v, (k, (i + 1, (h, refl), s), inr (inl x)), f)
    go j m v (k, s, inr x) f = (j, v, (k, (i + 1, (h, refl), s), inr (inr x)), f)

module _ (cs : List ℕ) (handles : Handles) (n : ℕ) where
  -- a key is read as a node between brackets
  key_yaml : (room i j : ℕ) (v : List Event) → below cs Wide handles room (yaml_part 0 flow_key) i j v → YamlIn cs handles room n i j v
  key_yaml zero i j v s = absurd s
  key_yaml (suc r) i j v s = to_reads cs Wide handles (suc r) (yaml_part n flow_in) i j v (one_more cs Wide handles r (yaml_part n flow_in) i j v ((reads_eased cs Wide handles r).yaml flow_key flow_in at_flow 0 n i j v s))

  key_json : (room i j : ℕ) (v : List Event) → below cs Wide handles room (json_part 0 flow_key) i j v → JsonIn cs handles room n i j v
  key_json zero i j v s = absurd s
  key_json (suc r) i j v s = to_reads cs Wide handles (suc r) (json_part n flow_in) i j v (one_more cs Wide handles r (json_part n flow_in) i j v ((reads_eased cs Wide handles r).json flow_key flow_in at_flow 0 n i j v s))

  abbrev pub PairAt : ℕ → Rule (List Event)
  PairAt room = pair cs Wide handles (opens cs Wide handles room) (below cs Wide handles room) n flow_in

  abbrev In : End
  In = InFlow cs n

  module _ (room : ℕ) where
    abbrev Item : Rule (List Event)
    Item = item_at cs Wide handles room n flow_in

    abbrev Y : Rule (List Event)
    Y = YamlIn cs handles room n

    abbrev J : Rule (List Event)
    J = JsonIn cs handles room n

    abbrev Open : Type 0
    Open = opens cs Wide handles room

    abbrev Inner : Part → Rule (List Event)
    Inner = below cs Wide handles room

    item_rest : (i : ℕ) → Rest Item In i (PairAt room ∪ (Y ∪ J)) In i
    item_rest i = record { rest = go }
      where
        go : (j m : ℕ) (v : List Event) → Item i j v → In j m → (k : ℕ) × (w : List Event) × (PairAt room ∪ (Y ∪ J)) i k w × In k m
        go j m v (inl s) e = (j, v, inl (from_reads cs Wide handles room (pair_part n flow_in) i j v s), e)
        go j m v (inr s) e = (j, v, inr s, e)

    shut : room ≡ 0 → Open → ⊥
    shut e o = subst (λ x. opens cs Wide handles x) e o

    -- ---- a node first

    module _ (i : ℕ) (no_colon : ColonY cs i → ⊥) (no_ask : MarkHere cs i → ⊥) where
      pub item_nothing : NoneIn cs n Y J i → Refused Item In i
      item_nothing f = rest_refused (item_rest i) (item_nowhere cs handles Open Inner (facts_of cs handles room) n Y J (yaml_begins cs handles room n) (json_begins cs handles room n) (key_yaml room) (key_json room) i no_colon no_ask f)

      module _ (kind : kinds.Kind) (y : ℕ) (o : OnlyIn cs n Y J kind i y) where
        pub item_lone : NoKey cs kind flow_in i y → Goes Item In i In y
        item_lone (q, sp, none) = rest_goes (item_rest i) (item_alone cs handles Open Inner (facts_of cs handles room) n Y J (yaml_begins cs handles room n) (json_begins cs handles room n) (key_yaml room) (key_json room) i no_colon no_ask kind y o
            (no_pair cs handles Open Inner (facts_of cs handles room) n Y J (yaml_begins cs handles room n) (json_begins cs handles room n) (key_yaml room) (key_json room) i no_colon no_ask kind y q o sp none))

        module _ (q : ℕ) (sp : Spaced cs y q) (sign : SignAt kind flow_in cs q) where
          pub item_of_pair : (z : ℕ) → Goes (PairAt room) In i In z → Goes Item In i In z
          item_of_pair z g = rest_goes (item_rest i) (item_paired cs handles Open Inner (facts_of cs handles room) n Y J (yaml_begins cs handles room n) (json_begins cs handles room n) (key_yaml room) (key_json room) i no_colon no_ask kind y q z o sp sign g)

          pub item_no_pair : Refused (PairAt room) In i → Refused Item In i
          item_no_pair f = rest_refused (item_rest i) (item_unpaired cs handles Open Inner (facts_of cs handles room) n Y J (yaml_begins cs handles room n) (json_begins cs handles room n) (key_yaml room) (key_json room) i no_colon no_ask kind y q o sp sign f)

          pub item_full : room ≡ 0 → Refused Item In i
          item_full e = item_no_pair (pair_closed cs handles Open Inner (facts_of cs handles room) n Y J (yaml_begins cs handles room n) (json_begins cs handles room n) (key_yaml room) (key_json room) i no_colon no_ask (shut e))

        pub item_long : LongKey cs kind flow_in i y → Refused Item In i
        item_long (q, sp, sign, unfit) = item_no_pair q sp sign
            (no_pair cs handles Open Inner (facts_of cs handles room) n Y J (yaml_begins cs handles room n) (json_begins cs handles room n) (key_yaml room) (key_json room) i no_colon no_ask kind y q o sp (λ h fits. unfit fits))

    -- ---- a `?` or a colon first, and no room

    pub asked_full : room ≡ 0 → (i : ℕ) → AskedAt flow_in cs i → Refused Item In i
    asked_full e i h = rest_refused (item_rest i) (refused_either
        (left.pair_no_room cs Wide handles Open Inner (facts_of cs handles room) n Y J (yaml_begins cs handles room n) (json_begins cs handles room n) (key_yaml room) (key_json room) In i (shut e))
        (refused_either (no_asked_yaml cs handles room n In i h) (no_asked_json cs handles room n In i h)))

    pub empty_full : room ≡ 0 → (i : ℕ) → ColonY cs i → Refused Item In i
    empty_full e i h = rest_refused (item_rest i) (refused_either
        (left.pair_no_room cs Wide handles Open Inner (facts_of cs handles room) n Y J (yaml_begins cs handles room n) (json_begins cs handles room n) (key_yaml room) (key_json room) In i (shut e))
        (left.nodes_not cs Wide handles Open Inner (facts_of cs handles room) n Y J (yaml_begins cs handles room n) (json_begins cs handles room n) (key_yaml room) (key_json room) In i (inl h)))

  -- ---- with room for a pair

  module _ (r : ℕ) where
    abbrev ValueIn : kinds.Kind → Rule (List Event)
    ValueIn kind = value_at cs Wide handles kind r n flow_in

    -- the colon of a key that was read with the pair's own room
    module _ (i : ℕ) (no_colon : ColonY cs i → ⊥) (no_ask : MarkHere cs i → ⊥) where
      own_rest : (kind : kinds.Kind) (y q : ℕ) → OnlyIn cs n (YamlIn cs handles (suc r) n) (JsonIn cs handles (suc r) n) kind i y → Spaced cs y q → Rest (PairAt (suc r)) In i (ValueIn kind) In q
      own_rest Yaml y q o sp = pair_rest cs handles (Unit {0}) (reads cs Wide handles r) (reads_facts cs Wide handles r) n (YamlIn cs handles (suc r) n) (JsonIn cs handles (suc r) n)
          (yaml_begins cs handles (suc r) n) (json_begins cs handles (suc r) n) (key_yaml (suc r)) (key_json (suc r)) i no_colon no_ask Yaml y q o sp
      own_rest Json y q o sp = pair_rest cs handles (Unit {0}) (reads cs Wide handles r) (reads_facts cs Wide handles r) n (YamlIn cs handles (suc r) n) (JsonIn cs handles (suc r) n)
          (yaml_begins cs handles (suc r) n) (json_begins cs handles (suc r) n) (key_yaml (suc r)) (key_json (suc r)) i no_colon no_ask Json y q o sp

      -- of a key that was read with the room in the pair
      less_yaml : (i j : ℕ) (v : List Event) → reads cs Wide handles r (yaml_part 0 flow_key) i j v → YamlIn cs handles r n i j v
      less_yaml i j v s = (reads_eased cs Wide handles r).yaml flow_key flow_in at_flow 0 n i j v s

      less_json : (i j : ℕ) (v : List Event) → reads cs Wide handles r (json_part 0 flow_key) i j v → JsonIn cs handles r n i j v
      less_json i j v s = (reads_eased cs Wide handles r).json flow_key flow_in at_flow 0 n i j v s

      less_rest : (kind : kinds.Kind) (y q : ℕ) → OnlyIn cs n (YamlIn cs handles r n) (JsonIn cs handles r n) kind i y → Spaced cs y q → Rest (PairAt (suc r)) In i (ValueIn kind) In q
      less_rest Yaml y q o sp = pair_rest cs handles (Unit {0}) (reads cs Wide handles r) (reads_facts cs Wide handles r) n (YamlIn cs handles r n) (JsonIn cs handles r n)
          (yaml_begins cs handles r n) (json_begins cs handles r n) less_yaml less_json i no_colon no_ask Yaml y q o sp
      less_rest Json y q o sp = pair_rest cs handles (Unit {0}) (reads cs Wide handles r) (reads_facts cs Wide handles r) n (YamlIn cs handles r n) (JsonIn cs handles r n)
          (yaml_begins cs handles r n) (json_begins cs handles r n) less_yaml less_json i no_colon no_ask Json y q o sp

      less_none : (kind : kinds.Kind) (y q : ℕ) → OnlyIn cs n (YamlIn cs handles r n) (JsonIn cs handles r n) kind i y → Spaced cs y q → (SignAt kind flow_in cs q → IsKeySized cs i q → ⊥) → Refused (PairAt (suc r)) In i
      less_none kind y q o sp none = no_pair cs handles (Unit {0}) (reads cs Wide handles r) (reads_facts cs Wide handles r) n (YamlIn cs handles r n) (JsonIn cs handles r n)
          (yaml_begins cs handles r n) (json_begins cs handles r n) less_yaml less_json i no_colon no_ask kind y q o sp none

      less_nothing : NoneIn cs n (YamlIn cs handles r n) (JsonIn cs handles r n) i → Refused (PairAt (suc r)) In i
      less_nothing f = no_pair_here cs handles (Unit {0}) (reads cs Wide handles r) (reads_facts cs Wide handles r) n (YamlIn cs handles r n) (JsonIn cs handles r n)
          (yaml_begins cs handles r n) (json_begins cs handles r n) less_yaml less_json i no_colon no_ask f

    -- an item that begins with `?`: what follows it
    asked_rest : (i : ℕ) → AskedAt flow_in cs i → Rest (item_at cs Wide handles (suc r) n flow_in) In i (asked_at cs Wide handles r n flow_in) In (i + 1)
    asked_rest i h = rest_rest (item_rest (suc r) i) (rest_rest (left.item_asked cs Wide handles (Unit {0}) (reads cs Wide handles r) (reads_facts cs Wide handles r) n (YamlIn cs handles (suc r) n) (JsonIn cs handles (suc r) n)
        (yaml_begins cs handles (suc r) n) (json_begins cs handles (suc r) n) (key_yaml (suc r)) (key_json (suc r)) i (no_asked_yaml cs handles (suc r) n (At (EndsYaml cs n)) i h) (no_asked_json cs handles (suc r) n (At (EndsJson cs n)) i h) colon)
        (explicit_rest cs handles r n In i))
      where
        colon : ColonY cs i → ⊥
        colon (g, f) = let e : 58 ≡ 63 = same_char cs i 58 63 g h.0 in omega (arith, e)

    -- an item that begins with a colon
    empty_rest : (i : ℕ) → ColonY cs i → Rest (item_at cs Wide handles (suc r) n flow_in) In i (ValueIn Yaml) In i
    empty_rest i h = rest_rest (item_rest (suc r) i) (rest_rest (left.item_empty_key cs Wide handles (Unit {0}) (reads cs Wide handles r) (reads_facts cs Wide handles r) n (YamlIn cs handles (suc r) n) (JsonIn cs handles (suc r) n)
        (yaml_begins cs handles (suc r) n) (json_begins cs handles (suc r) n) (key_yaml (suc r)) (key_json (suc r)) i h)
        (left.empty_key_rest cs Wide handles (Unit {0}) (reads cs Wide handles r) (reads_facts cs Wide handles r) n i))

  module _ (room r : ℕ) (e : room ≡ suc r) where
    pub asked_goes : (i k z : ℕ) → AskedAt flow_in cs i → k ≡ i + 1 → Goes (asked_at cs Wide handles r n flow_in) In k In z → Goes (item_at cs Wide handles room n flow_in) In i In z
    asked_goes i k z h t g = subst (λ x. Goes (item_at cs Wide handles x n flow_in) In i In z) (sym e) (rest_goes (asked_rest r i h) (subst (λ y. Goes (asked_at cs Wide handles r n flow_in) In y In z) t g))

    pub asked_refused : (i k : ℕ) → AskedAt flow_in cs i → k ≡ i + 1 → Refused (asked_at cs Wide handles r n flow_in) In k → Refused (item_at cs Wide handles room n flow_in) In i
    asked_refused i k h t f = subst (λ x. Refused (item_at cs Wide handles x n flow_in) In i) (sym e) (rest_refused (asked_rest r i h) (subst (λ y. Refused (asked_at cs Wide handles r n flow_in) In y) t f))

    pub empty_goes : (i z : ℕ) → ColonY cs i → Goes (value_at cs Wide handles Yaml r n flow_in) In i In z → Goes (item_at cs Wide handles room n flow_in) In i In z
    empty_goes i z h g = subst (λ x. Goes (item_at cs Wide handles x n flow_in) In i In z) (sym e) (rest_goes (empty_rest r i h) g)

    pub empty_refused : (i : ℕ) → ColonY cs i → Refused (value_at cs Wide handles Yaml r n flow_in) In i → Refused (item_at cs Wide handles room n flow_in) In i
    empty_refused i h f = subst (λ x. Refused (item_at cs Wide handles x n flow_in) In i) (sym e) (rest_refused (empty_rest r i h) f)

    module _ (i : ℕ) (no_colon : ColonY cs i → ⊥) (no_ask : MarkHere cs i → ⊥) where
      -- the key read with the pair's own room
      pub own_goes : (kind : kinds.Kind) (y q z : ℕ) → OnlyIn cs n (YamlIn cs handles room n) (JsonIn cs handles room n) kind i y → Spaced cs y q → Goes (value_at cs Wide handles kind r n flow_in) In q In z → Goes (PairAt room) In i In z
      own_goes kind y q z o sp g = subst (λ x. Goes (PairAt x) In i In z) (sym e) (rest_goes (own_rest r i no_colon no_ask kind y q (subst (λ x. OnlyIn cs n (YamlIn cs handles x n) (JsonIn cs handles x n) kind i y) e o) sp) g)

      pub own_refused : (kind : kinds.Kind) (y q : ℕ) → OnlyIn cs n (YamlIn cs handles room n) (JsonIn cs handles room n) kind i y → Spaced cs y q → Refused (value_at cs Wide handles kind r n flow_in) In q → Refused (PairAt room) In i
      own_refused kind y q o sp f = subst (λ x. Refused (PairAt x) In i) (sym e) (rest_refused (own_rest r i no_colon no_ask kind y q (subst (λ x. OnlyIn cs n (YamlIn cs handles x n) (JsonIn cs handles x n) kind i y) e o) sp) f)

      -- the key read with the room in the pair
      pub pair_nothing : NoneIn cs n (YamlIn cs handles r n) (JsonIn cs handles r n) i → Refused (PairAt room) In i
      pair_nothing f = subst (λ x. Refused (PairAt x) In i) (sym e) (less_nothing r i no_colon no_ask f)

      module _ (kind : kinds.Kind) (y : ℕ) (o : OnlyIn cs n (YamlIn cs handles r n) (JsonIn cs handles r n) kind i y) where
        pub pair_lone : NoKey cs kind flow_in i y → Refused (PairAt room) In i
        pair_lone (q, sp, none) = subst (λ x. Refused (PairAt x) In i) (sym e) (less_none r i no_colon no_ask kind y q o sp none)

        pub pair_long : LongKey cs kind flow_in i y → Refused (PairAt room) In i
        pair_long (q, sp, sign, unfit) = subst (λ x. Refused (PairAt x) In i) (sym e) (less_none r i no_colon no_ask kind y q o sp (λ h fits. unfit fits))

        pub pair_goes : (q z : ℕ) → Spaced cs y q → Goes (value_at cs Wide handles kind r n flow_in) In q In z → Goes (PairAt room) In i In z
        pair_goes q z sp g = subst (λ x. Goes (PairAt x) In i In z) (sym e) (rest_goes (less_rest r i no_colon no_ask kind y q o sp) g)

        pub pair_refused : (q : ℕ) → Spaced cs y q → Refused (value_at cs Wide handles kind r n flow_in) In q → Refused (PairAt room) In i
        pair_refused q sp f = subst (λ x. Refused (PairAt x) In i) (sym e) (rest_refused (less_rest r i no_colon no_ask kind y q o sp) f)
