-- Entries of a flow mapping and values: what each decides, by what separation leads to.
use Rattle.std.proofs.Common.{◌≡◌, ℕ, ◌+◌, inl, inr, List, true, Some, refl, sym, ◌∙◌, subst, arith}
use Rattle.std.specs.Prelude.{slice_get}
use Rattle.yaml_definitions.specs.model.Event.{Event}
use Rattle.yaml_text.specs.Lines.{Inside}
use Rattle.yaml_definitions.specs.grammar.Rules.{Rule, ◌▸◌, ◌∪◌, gives, maybe, with_value}
use Rattle.yaml_definitions.specs.grammar.Characters.{is_nb, is_break}
use Rattle.yaml_definitions.specs.grammar.Separation.{Ctx, flow_in, s-separate as separate}
use Rattle.yaml_definitions.specs.grammar.Tags.{Handles, c-ns-properties as properties}
use Rattle.yaml_definitions.specs.grammar.FlowScalars.{c-single-quoted as single, c-double-quoted as double}
use Rattle.yaml_definitions.specs.grammar.Events.{Props, no_props, e-scalar as empty}
use Rattle.yaml_definitions.specs.grammar.Nodes.{Part, yaml_part, json_part, ns-flow-yaml-node as yaml_node, ns-flow-map-implicit-entry as implicit_entry, ns-flow-map-explicit-entry as explicit, c-flow-sequence as flow_seq, c-flow-mapping as flow_map, reads}
use Rattle.yaml_text.proofs.Runs.{same_char}
use Rattle.law_one_reading.specs.Readings.{End, At}
use Rattle.law_one_reading.specs.Follows.{Solid, Fresh, Way, Closes, EndsYamlKey as ColonY}
use Rattle.law_one_reading.proofs.Properties.{props_two, props_inside}
use Rattle.law_one_reading.proofs.TagEnds.{prop_same, prop_here, prop_inside, alias_inside}
use Rattle.law_one_reading.proofs.PlainEnds.{plain_inside}
use Rattle.law_one_reading.proofs.FlowNodes.{Jsons, JsonRest, json_parts}
use Rattle.law_one_reading.proofs.FlowEntries.{Facts}
use Rattle.law_one_reading.proofs.FlowLevels.{reads_facts}
use Rattle.law_going_on.specs.GoingOn.{Refused, Goes, Rest}
use Rattle.law_going_on.specs.FlowEnds.{InFlow, EndsYaml, EndsJson}
use Rattle.law_going_on.proofs.GoingOn.{rest_goes, rest_refused, rest_rest}
use Rattle.law_going_on.proofs.FlowChoices as left
use Rattle.yaml_layout.specs.NodeRules.{part_of, opens, below}
use Rattle.yaml_flow.specs.FlowRules.{entry_at, keyed_at, asked_at, value_at, SignAt, AskedAt, IsParted}
use Rattle.yaml_layout.specs.declared.flow.Kind as kinds
use Rattle.yaml_layout.specs.declared.flow.Kind.TheVariants.{Yaml, Json}
use Rattle.yaml_layout.proofs.NodeLemmas.{from_reads}
use Rattle.yaml_flow.proofs.PartDecisions.{OnlyIn, NoneIn, YamlIn, JsonIn, no_mark, no_asked_yaml, no_asked_json}
use Rattle.yaml_flow.proofs.ItemDecisions.{explicit_rest, asked_explicit}

abbrev Wide : Type 0
Wide = Unit {0}

-- ---- ends within a line

pub nb_bracket : is_nb 91 ≡ true
unfolding is_nb is_break
nb_bracket = refl

pub nb_brace : is_nb 123 ≡ true
unfolding is_nb is_break
nb_brace = refl

pub nb_comma : is_nb 44 ≡ true
unfolding is_nb is_break
nb_comma = refl

pub nb_colon : is_nb 58 ≡ true
unfolding is_nb is_break
nb_colon = refl

pub nb_question : is_nb 63 ≡ true
unfolding is_nb is_break
nb_question = refl

nb_quote : is_nb 39 ≡ true
unfolding is_nb is_break
nb_quote = refl

nb_quotes : is_nb 34 ≡ true
unfolding is_nb is_break
nb_quotes = refl

nb_closed : is_nb 93 ≡ true
unfolding is_nb is_break
nb_closed = refl

nb_shut : is_nb 125 ≡ true
unfolding is_nb is_break
nb_shut = refl

module _ (cs : List ℕ) where
  pub char_inside : (i k c : ℕ) → slice_get cs i ≡ Some c → k ≡ i + 1 → is_nb c ≡ true → Inside cs k
  char_inside i k c h e t = (i, e, (c, h, t))

  module _ (handles : Handles) (Open : Type 0) (inside : Part → Rule (List Event)) (n : ℕ) (c : Ctx) where
    jsons_inside : (p : Props) (i j : ℕ) (v : List Event) → Jsons cs Wide handles Open inside n c p i j v → Inside cs j
    unfolding single double flow_seq flow_map
    jsons_inside p i j v (inl (t, (u, (k, (h, e), (l, r, (m, (g, f), (a, b))))), x)) = char_inside l j 39 g (a ∙ f) nb_quote
    jsons_inside p i j v (inr (inl (t, (u, (k, (h, e), (l, r, (g, f)))), x))) = char_inside l j 34 g f nb_quotes
    jsons_inside p i j v (inr (inr (inl (o, (t, (k, s, (b, r, (g, f))), x))))) = char_inside b j 93 g f nb_closed
    jsons_inside p i j v (inr (inr (inr (o, (t, (k, s, (b, r, (g, f))), x))))) = char_inside b j 125 g f nb_shut

    yaml_inside : (i j : ℕ) (v : List Event) → yaml_node cs Wide handles Open inside n c i j v → Inside cs j
    unfolding yaml_node
    yaml_inside i j v (inl (x, r, e)) = alias_inside cs i j x r
    yaml_inside i j v (inr (inl (t, r, e))) = plain_inside cs n c i j t r
    yaml_inside i j v (inr (inr (k, p, r, inl (q, s, (t, u, e))))) = plain_inside cs n c q j t u
    yaml_inside i j v (inr (inr (k, p, r, inr (e, f)))) = subst (Inside cs) (sym e) (props_inside cs handles (prop_same cs handles) (prop_here cs handles) (prop_inside cs handles) n c i k p (props_two cs handles n c i k p r))

  -- a flow node ends just after a character of its line
  pub node_inside : (handles : Handles) (room n : ℕ) (c : Ctx) (kind : kinds.Kind) (i j : ℕ) (v : List Event) → reads cs Wide handles room (part_of kind n c) i j v → Inside cs j
  node_inside handles room n c Yaml i j v r = yaml_inside handles (opens cs Wide handles room) (below cs Wide handles room) n c i j v (from_reads cs Wide handles room (yaml_part n c) i j v r)
  node_inside handles room n c Json i j v r = go (json_parts cs Wide handles (opens cs Wide handles room) (below cs Wide handles room) n c i j v (from_reads cs Wide handles room (json_part n c) i j v r))
    where
      go : (Jsons cs Wide handles (opens cs Wide handles room) (below cs Wide handles room) n c no_props ∪ with_value (properties cs handles n c) (JsonRest cs Wide handles (opens cs Wide handles room) (below cs Wide handles room) n c)) i j v → Inside cs j
      go (inl s) = jsons_inside handles (opens cs Wide handles room) (below cs Wide handles room) n c no_props i j v s
      go (inr (k, p, t, (q, u, s))) = jsons_inside handles (opens cs Wide handles room) (below cs Wide handles room) n c p q j v s

module _ (cs : List ℕ) (handles : Handles) (r n : ℕ) where
  abbrev In : End
  In = InFlow cs n

  abbrev Facts1 : Facts cs (reads cs Wide handles r)
  Facts1 = reads_facts cs Wide handles r

  abbrev ValueIn : kinds.Kind → Rule (List Event)
  ValueIn kind = value_at cs Wide handles kind r n flow_in

  abbrev KeyedIn : Rule (List Event)
  KeyedIn = keyed_at cs Wide handles r n flow_in

  abbrev AskedIn : Rule (List Event)
  AskedIn = asked_at cs Wide handles r n flow_in

  abbrev EntryIn : Rule (List Event)
  EntryIn = entry_at cs Wide handles r n flow_in

  abbrev Y : Rule (List Event)
  Y = YamlIn cs handles r n

  abbrev J : Rule (List Event)
  J = JsonIn cs handles r n

  abbrev To : ℕ → ℕ → Type 0
  To k x = (q : ℕ) → maybe (separate cs n flow_in) k q → Solid cs q → q ≡ x

  abbrev NoWay : ℕ → Type 0
  NoWay k = (q : ℕ) → maybe (separate cs n flow_in) k q → Fresh cs q → ⊥

  -- ---- values

  abbrev AfterOf : kinds.Kind → Rule (List Event)
  AfterOf Yaml = left.AfterY cs Wide handles (Unit {0}) (reads cs Wide handles r) Facts1 n
  AfterOf Json = left.AfterJ cs Wide handles (Unit {0}) (reads cs Wide handles r) Facts1 n

  value_rest : (kind : kinds.Kind) (q : ℕ) → Rest (ValueIn kind) In q (AfterOf kind) In (q + 1)
  value_rest Yaml q = left.value_rest cs Wide handles (Unit {0}) (reads cs Wide handles r) Facts1 n In q
  value_rest Json q = left.adjacent_rest cs Wide handles (Unit {0}) (reads cs Wide handles r) Facts1 n In q

  nodes_go : (kind : kinds.Kind) (x y : ℕ) → OnlyIn cs n Y J kind x y → Goes (Y ∪ J) In x In y
  nodes_go Yaml x y (g, f) = left.yaml_goes cs Wide handles (Unit {0}) (reads cs Wide handles r) Facts1 n x y g f
  nodes_go Json x y (g, f) = left.json_goes cs Wide handles (Unit {0}) (reads cs Wide handles r) Facts1 n x y g f

  after_nowhere : (kind : kinds.Kind) (k : ℕ) → NoWay k → Refused (AfterOf kind) In k
  after_nowhere Yaml k f = left.value_no_gap cs Wide handles (Unit {0}) (reads cs Wide handles r) Facts1 n k f
  after_nowhere Json k f = left.adjacent_no_gap cs Wide handles (Unit {0}) (reads cs Wide handles r) Facts1 n k f

  after_closed : (kind : kinds.Kind) (k x : ℕ) → To k x → Closes cs x → Goes (AfterOf kind) In k In k
  after_closed Yaml k x to h = left.value_closed cs Wide handles (Unit {0}) (reads cs Wide handles r) Facts1 n k x to h
  after_closed Json k x to h = left.adjacent_closed cs Wide handles (Unit {0}) (reads cs Wide handles r) Facts1 n k x to h

  after_alone : (kind : kinds.Kind) (k a b : ℕ) → (IsParted kind a b → ⊥) → Inside cs k → To k k → Goes (AfterOf kind) In k In k
  after_alone Yaml k a b f o to = left.value_alone cs Wide handles (Unit {0}) (reads cs Wide handles r) Facts1 n k o to
  after_alone Json k a b f o to = absurd (f tt)

  after_content : (kind : kinds.Kind) (k x : ℕ) → To k x → (Closes cs x → ⊥) → Rest (AfterOf kind) In k (Y ∪ J) In x
  after_content Yaml k x to h = left.value_content cs Wide handles (Unit {0}) (reads cs Wide handles r) Facts1 n k x to h
  after_content Json k x to h = left.adjacent_content cs Wide handles (Unit {0}) (reads cs Wide handles r) Facts1 n k x to h

  module _ (kind : kinds.Kind) (q k : ℕ) (next : k ≡ q + 1) where
    rest : Rest (ValueIn kind) In q (AfterOf kind) In k
    rest = subst (λ z. Rest (ValueIn kind) In q (AfterOf kind) In z) (sym next) (value_rest kind q)

    pub value_nowhere : NoWay k → Refused (ValueIn kind) In q
    value_nowhere f = rest_refused rest (after_nowhere kind k f)

    pub value_alone : (a b : ℕ) → (IsParted kind a b → ⊥) → Inside cs k → To k k → Goes (ValueIn kind) In q In k
    value_alone a b f o to = rest_goes rest (after_alone kind k a b f o to)

    module _ (x : ℕ) (to : To k x) where
      pub value_closed : Closes cs x → Goes (ValueIn kind) In q In k
      value_closed h = rest_goes rest (after_closed kind k x to h)

      module _ (h : Closes cs x → ⊥) where
        pub value_refused : NoneIn cs n Y J x → Refused (ValueIn kind) In q
        value_refused (f, g) = rest_refused rest (rest_refused (after_content kind k x to h) (left.no_node_in_flow cs Wide handles (Unit {0}) (reads cs Wide handles r) Facts1 n x f g))

        pub value_goes : (made : kinds.Kind) (y : ℕ) → OnlyIn cs n Y J made x y → Goes (ValueIn kind) In q In y
        value_goes made y o = rest_goes rest (rest_goes (after_content kind k x to h) (nodes_go made x y o))

  -- ---- entries without `?`

  abbrev ValuedOf : kinds.Kind → Rule (List Event)
  ValuedOf kind = (maybe (separate cs n flow_in) ▸ ValueIn kind) ∪ gives (empty no_props)

  key_rest : (kind : kinds.Kind) (i y : ℕ) → OnlyIn cs n Y J kind i y → Rest (implicit_entry cs Wide handles (Unit {0}) (reads cs Wide handles r) n flow_in) In i (ValuedOf kind) In y
  key_rest Yaml i y (g, f) = left.key_rest_yaml cs Wide handles (Unit {0}) (reads cs Wide handles r) Facts1 n i y g f
  key_rest Json i y (g, f) = left.key_rest_json cs Wide handles (Unit {0}) (reads cs Wide handles r) Facts1 n i y g f

  valued_nowhere : (kind : kinds.Kind) (y : ℕ) → NoWay y → Refused (ValuedOf kind) In y
  valued_nowhere Yaml y f = left.valued_no_gap_yaml cs Wide handles (Unit {0}) (reads cs Wide handles r) Facts1 n y f
  valued_nowhere Json y f = left.valued_no_gap_json cs Wide handles (Unit {0}) (reads cs Wide handles r) Facts1 n y f

  valued_none : (kind : kinds.Kind) (y q : ℕ) → To y q → (SignAt kind flow_in cs q → ⊥) → Goes (ValuedOf kind) In y In y
  valued_none Yaml y q to f = left.valued_none_yaml cs Wide handles (Unit {0}) (reads cs Wide handles r) Facts1 n y q to f
  valued_none Json y q to f = left.valued_none_json cs Wide handles (Unit {0}) (reads cs Wide handles r) Facts1 n y q to (λ h. f (h, tt))

  valued_rest : (kind : kinds.Kind) (y q : ℕ) → To y q → SignAt kind flow_in cs q → Rest (ValuedOf kind) In y (ValueIn kind) In q
  valued_rest Yaml y q to h = left.valued_colon_yaml cs Wide handles (Unit {0}) (reads cs Wide handles r) Facts1 n y q to h
  valued_rest Json y q to h = left.valued_colon_json cs Wide handles (Unit {0}) (reads cs Wide handles r) Facts1 n y q to h.0

  module _ (i : ℕ) (no_colon : ColonY cs i → ⊥) where
    key_left : Rest KeyedIn In i (implicit_entry cs Wide handles (Unit {0}) (reads cs Wide handles r) n flow_in) In i
    key_left = left.keyed_implicit cs Wide handles (Unit {0}) (reads cs Wide handles r) Facts1 n In i no_colon

    pub key_nothing : NoneIn cs n Y J i → Refused KeyedIn In i
    key_nothing (f, g) = rest_refused key_left (left.no_key_in_flow cs Wide handles (Unit {0}) (reads cs Wide handles r) Facts1 n i f g)

    module _ (kind : kinds.Kind) (y : ℕ) (o : OnlyIn cs n Y J kind i y) where
      pub key_nowhere : NoWay y → Refused KeyedIn In i
      key_nowhere f = rest_refused key_left (rest_refused (key_rest kind i y o) (valued_nowhere kind y f))

      module _ (q : ℕ) (to : To y q) where
        pub key_lone : (SignAt kind flow_in cs q → ⊥) → Goes KeyedIn In i In y
        key_lone f = rest_goes key_left (rest_goes (key_rest kind i y o) (valued_none kind y q to f))

        pub key_goes : (z : ℕ) → SignAt kind flow_in cs q → Goes (ValueIn kind) In q In z → Goes KeyedIn In i In z
        key_goes z h g = rest_goes key_left (rest_goes (key_rest kind i y o) (rest_goes (valued_rest kind y q to h) g))

        pub key_refused : SignAt kind flow_in cs q → Refused (ValueIn kind) In q → Refused KeyedIn In i
        key_refused h f = rest_refused key_left (rest_refused (key_rest kind i y o) (rest_refused (valued_rest kind y q to h) f))

  -- an empty key
  empty_left : (i : ℕ) → ColonY cs i → Rest KeyedIn In i (ValueIn Yaml) In i
  empty_left i h = rest_rest (left.keyed_empty cs Wide handles (Unit {0}) (reads cs Wide handles r) Facts1 n In i h) (left.empty_key_rest cs Wide handles (Unit {0}) (reads cs Wide handles r) Facts1 n i)

  pub empty_key_goes : (i z : ℕ) → ColonY cs i → Goes (ValueIn Yaml) In i In z → Goes KeyedIn In i In z
  empty_key_goes i z h g = rest_goes (empty_left i h) g

  pub empty_key_refused : (i : ℕ) → ColonY cs i → Refused (ValueIn Yaml) In i → Refused KeyedIn In i
  empty_key_refused i h f = rest_refused (empty_left i h) f

  -- ---- entries

  pub entry_goes : (i z : ℕ) → (AskedAt flow_in cs i → ⊥) → Goes KeyedIn In i In z → Goes EntryIn In i In z
  entry_goes i z f g = rest_goes (left.entry_keyed cs Wide handles (Unit {0}) (reads cs Wide handles r) Facts1 n In i (no_mark cs i f)) g

  pub entry_refused : (i : ℕ) → (AskedAt flow_in cs i → ⊥) → Refused KeyedIn In i → Refused EntryIn In i
  entry_refused i f g = rest_refused (left.entry_keyed cs Wide handles (Unit {0}) (reads cs Wide handles r) Facts1 n In i (no_mark cs i f)) g

  asked_left : (i : ℕ) → AskedAt flow_in cs i → Rest EntryIn In i AskedIn In (i + 1)
  asked_left i h = rest_rest (left.entry_asked cs Wide handles (Unit {0}) (reads cs Wide handles r) Facts1 n i
      (left.no_key_in_flow cs Wide handles (Unit {0}) (reads cs Wide handles r) Facts1 n i (no_asked_yaml cs handles r n (At (EndsYaml cs n)) i h) (no_asked_json cs handles r n (At (EndsJson cs n)) i h)) colon)
      (explicit_rest cs handles r n In i)
    where
      colon : ColonY cs i → ⊥
      colon (g, f) = let e : 58 ≡ 63 = same_char cs i 58 63 g h.0 in omega (arith, e)

  module _ (i k : ℕ) (next : k ≡ i + 1) where
    pub asked_entry_goes : (z : ℕ) → AskedAt flow_in cs i → Goes AskedIn In k In z → Goes EntryIn In i In z
    asked_entry_goes z h g = rest_goes (asked_left i h) (subst (λ y. Goes AskedIn In y In z) next g)

    pub asked_entry_refused : AskedAt flow_in cs i → Refused AskedIn In k → Refused EntryIn In i
    asked_entry_refused h f = rest_refused (asked_left i h) (subst (λ y. Refused AskedIn In y) next f)

    -- ---- after a `?`

    module _ (h : slice_get cs i ≡ Some 63) where
      abbrev ExplicitIn : Rule (List Event)
      ExplicitIn = explicit cs Wide handles (Unit {0}) (reads cs Wide handles r) n flow_in

      asked_rest : Rest AskedIn In k ExplicitIn In i
      asked_rest = subst (λ y. Rest AskedIn In y ExplicitIn In i) (sym next) (asked_explicit cs handles r n In i h)

      inside : Inside cs (i + 1)
      inside = char_inside cs i (i + 1) 63 h refl nb_question

      pub asked_nowhere : NoWay k → Refused AskedIn In k
      asked_nowhere f = rest_refused asked_rest (left.explicit_no_gap cs Wide handles (Unit {0}) (reads cs Wide handles r) Facts1 n i inside (subst NoWay next f))

      pub asked_alone : ((q : ℕ) → Way cs k q → q ≡ k) → Refused AskedIn In k
      asked_alone w = rest_refused asked_rest (left.explicit_not_parted cs Wide handles (Unit {0}) (reads cs Wide handles r) Facts1 n i inside (subst (λ y. (q : ℕ) → Way cs y q → q ≡ y) next w))

      module _ (x : ℕ) (way : (q : ℕ) → Way cs k q → q ≡ x) where
        pub asked_closed : Closes cs x → Goes AskedIn In k In x
        asked_closed c = rest_goes asked_rest (left.explicit_closed cs Wide handles (Unit {0}) (reads cs Wide handles r) Facts1 n i x inside (subst (λ y. (q : ℕ) → Way cs y q → q ≡ x) next way) c)

        keyed_rest : (Closes cs x → ⊥) → Rest AskedIn In k KeyedIn In x
        keyed_rest c = rest_rest asked_rest (left.explicit_content cs Wide handles (Unit {0}) (reads cs Wide handles r) Facts1 n i x inside (subst (λ y. (q : ℕ) → Way cs y q → q ≡ x) next way) c)

        pub asked_keyed_goes : (z : ℕ) → (Closes cs x → ⊥) → Goes KeyedIn In x In z → Goes AskedIn In k In z
        asked_keyed_goes z c g = rest_goes (keyed_rest c) g

        pub asked_keyed_refused : (Closes cs x → ⊥) → Refused KeyedIn In x → Refused AskedIn In k
        asked_keyed_refused c f = rest_refused (keyed_rest c) f
