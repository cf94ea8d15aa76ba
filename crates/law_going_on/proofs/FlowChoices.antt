-- Items, entries and values between brackets: what is left after a node, by what stands after it.
use Rattle.std.proofs.Common.{◌≡◌, ℕ, ◌+◌, ◌≤◌, ◌<◌, ◌⊎◌, inl, inr, List, refl, sym, ◌∙◌, subst, arith}
use Rattle.yaml_definitions.specs.grammar.Rules.{Span, Rule, ◌▸◌, ◌⨾◌, ◌∪◌, gives, given, maybe, run}
use Rattle.yaml_definitions.specs.grammar.Characters.{is_space}
use Rattle.yaml_definitions.specs.grammar.Separation.{flow_in, flow_key, s-separate as separate, s-separate-lines as separate_lines, s-separate-in-line as sep, OneLine}
use Rattle.yaml_definitions.specs.grammar.Tags.{Handles}
use Rattle.yaml_definitions.specs.grammar.FlowScalars.{ns-plain as plain}
use Rattle.yaml_definitions.specs.model.Limits.{key_limit}
use Rattle.yaml_definitions.specs.model.Event.{Event}
use Rattle.yaml_definitions.specs.grammar.Events.{no_props, e-scalar as empty}
use Rattle.yaml_definitions.specs.grammar.Nodes.{Part, yaml_part, json_part, c-ns-flow-map-separate-value as value, c-ns-flow-map-adjacent-value as adjacent, ns-flow-map-yaml-key-entry as yaml_key_entry, c-ns-flow-map-json-key-entry as json_key_entry, ns-flow-map-implicit-entry as implicit_entry, ns-flow-map-entry as entry, ns-flow-pair as pair, ns-s-implicit-yaml-key as implicit_yaml_key, c-s-implicit-json-key as implicit_json_key, c-ns-flow-map-empty-key-entry as empty_key, ns-flow-map-explicit-entry as explicit}
use Rattle.yaml_text.specs.Lines.{Inside}
use Rattle.yaml_scalar.specs.Chains.{Later}
use Rattle.yaml_text.proofs.Runs.{same_char, run_none}
use Rattle.yaml_scalar.proofs.PlainLemmas.{no_later_colon}
use Rattle.law_one_reading.specs.Readings.{End, At, Starts}
use Rattle.law_one_reading.proofs.Lines.{solid_no_space, way_same, way_then, sep_run, sep_parts, way_maybe}
use Rattle.law_one_reading.specs.Follows.{Solid, Fresh, Past, Way, Closes, Colon, EndsYamlKey as ColonY, MarkHere}
use Rattle.law_one_reading.proofs.BlockEntries.{past_no_ns}
use Rattle.law_one_reading.proofs.PlainEnds.{stop_way}
use Rattle.law_one_reading.proofs.FlowLevels.{closes_no_later}
use Rattle.law_one_reading.proofs.FlowEntries.{ItemHere, PartHere, Facts, closes_solid, colon_solid, closes_colon, colon_part, value_colon, adjacent_colon, empty_key_colon, explicit_mark, implicit_start}
use Rattle.law_going_on.specs.FlowEnds as ends
use Rattle.law_going_on.specs.GoingOn.{Refused, Goes, Rest}
use Rattle.law_going_on.proofs.GoingOn.{rest_goes, rest_refused, rest_rest, rest_left, rest_right, rest_before, rest_joined, refused_joined, refused_before, refused_either}
use Rattle.law_going_on.proofs.Separations.{Spaces, spaces_to, separate_twice}
use Rattle.law_going_on.proofs.PropertyChoices.{goes_gives, refused_gives}
use Rattle.law_going_on.proofs.FlowLoops.{closes_fresh}
use Rattle.law_going_on.proofs.PlainScalars.{plain_goes}

module _ (cs : List ℕ) where
  -- ---- how the text goes on after a part, and after a node of either kind

  module _ (n : ℕ) where
    abbrev Gap : Span
    Gap = ends.OptionalSeparation cs n

    abbrev InFlow : End
    InFlow = ends.InFlow cs n

    abbrev EndsYaml : ℕ → Type 0
    EndsYaml = ends.EndsYaml cs n

    abbrev EndsJson : ℕ → Type 0
    EndsJson = ends.EndsJson cs n

    pub in_yaml : (j m : ℕ) → InFlow j m → At EndsYaml j j
    in_yaml j m (s, h) = (refl, (m, s, inl h))

    pub in_json : (j m : ℕ) → InFlow j m → At EndsJson j j
    in_json j m (s, h) = (refl, (m, s, inl h))

    -- separation from k leads to x alone; it leads to no content
    abbrev pub GapTo : ℕ → ℕ → Type 0
    GapTo k x = (q : ℕ) → Gap k q → Solid cs q → q ≡ x

    abbrev pub NoGap : ℕ → Type 0
    NoGap k = (q : ℕ) → Gap k q → Fresh cs q → ⊥

  -- a plain scalar
  pub plain_in_flow : (n i x : ℕ) (w : List ℕ) → plain cs n flow_in i x w → ((j : ℕ) (v : List ℕ) → plain cs n flow_in i j v → j ≤ x) → Goes (plain cs n flow_in) (At (EndsYaml n)) i (At (EndsYaml n)) x
  plain_in_flow n = plain_goes cs n flow_in (EndsYaml n) (λ j o xs a (q, w, h) r u. stop_way cs n flow_in j o q xs r a (way_maybe cs n flow_in j q w (solid q h)) (later q h))
    where
      solid : (q : ℕ) → Closes cs q ⊎ ColonY cs q → Solid cs q
      solid q (inl h) = closes_solid cs q h
      solid q (inr h) = colon_solid cs q h.0

      later : (q : ℕ) → Closes cs q ⊎ ColonY cs q → Later cs flow_in q → ⊥
      later q (inl h) l = closes_no_later cs q h l
      later q (inr (h, s)) l = no_later_colon cs flow_in q (q + 1) h refl s l

  module _ (Wide : Type 0) (handles : Handles) (Open : Type 0) (inside : Part → Rule (List Event)) (facts : Facts cs inside) (n : ℕ) where
    abbrev NodeY : Rule (List Event)
    NodeY = inside (yaml_part n flow_in)

    abbrev NodeJ : Rule (List Event)
    NodeJ = inside (json_part n flow_in)

    abbrev Empty : Rule (List Event)
    Empty = gives (empty no_props)

    node_item : (i j : ℕ) (v : List Event) → (NodeY ∪ NodeJ) i j v → ItemHere cs i
    node_item i j v (inl r) = facts.yaml_start n i j v r
    node_item i j v (inr r) = facts.json_start n i j v r

    -- a node as a part or a value, by the kind that it is
    pub yaml_goes : (i y : ℕ) → Goes NodeY (At (EndsYaml n)) i (At (EndsYaml n)) y → Refused NodeJ (At (EndsJson n)) i → Goes (NodeY ∪ NodeJ) (InFlow n) i (InFlow n) y
    yaml_goes i y g f = record { goes = go }
      where
        go : (j m : ℕ) (v : List Event) → (NodeY ∪ NodeJ) i j v → InFlow n j m → InFlow n y m
        go j m v (inl r) e = subst (λ z. InFlow n z m) (sym (g.goes j j v r (in_yaml n j m e)).0) e
        go j m v (inr r) e = absurd (f.none j j v r (in_json n j m e))

    pub json_goes : (i y : ℕ) → Goes NodeJ (At (EndsJson n)) i (At (EndsJson n)) y → Refused NodeY (At (EndsYaml n)) i → Goes (NodeY ∪ NodeJ) (InFlow n) i (InFlow n) y
    json_goes i y g f = record { goes = go }
      where
        go : (j m : ℕ) (v : List Event) → (NodeY ∪ NodeJ) i j v → InFlow n j m → InFlow n y m
        go j m v (inl r) e = absurd (f.none j j v r (in_yaml n j m e))
        go j m v (inr r) e = subst (λ z. InFlow n z m) (sym (g.goes j j v r (in_json n j m e)).0) e

    pub no_node_in_flow : (i : ℕ) → Refused NodeY (At (EndsYaml n)) i → Refused NodeJ (At (EndsJson n)) i → Refused (NodeY ∪ NodeJ) (InFlow n) i
    no_node_in_flow i f g = record { none = go }
      where
        go : (j m : ℕ) (v : List Event) → (NodeY ∪ NodeJ) i j v → InFlow n j m → ⊥
        go j m v (inl r) e = f.none j j v r (in_yaml n j m e)
        go j m v (inr r) e = g.none j j v r (in_json n j m e)

    -- ---- after a colon (7.4.2)

    -- after a YAML key something parts them; after a JSON key nothing has to
    abbrev pub AfterY : Rule (List Event)
    AfterY = (separate cs n flow_in ▸ (NodeY ∪ NodeJ)) ∪ Empty

    abbrev pub AfterJ : Rule (List Event)
    AfterJ = (Gap n ▸ (NodeY ∪ NodeJ)) ∪ Empty

    abbrev Value : Rule (List Event)
    Value = value cs Wide handles Open inside n flow_in

    abbrev Adjacent : Rule (List Event)
    Adjacent = adjacent cs Wide handles Open inside n flow_in

    pub value_rest : (E : End) (q : ℕ) → Rest Value E q AfterY E (q + 1)
    unfolding value
    value_rest E q = rest_before _ AfterY E (λ i. Unit {0}) q (q + 1) (λ i j m v r e. tt) (λ l (b, (h, e), (f, u)) d. f ∙ e)

    pub adjacent_rest : (E : End) (q : ℕ) → Rest Adjacent E q AfterJ E (q + 1)
    unfolding adjacent
    adjacent_rest E q = rest_before _ AfterJ E (λ i. Unit {0}) q (q + 1) (λ i j m v r e. tt) (λ l (h, e) d. e)

    no_empty : (k x : ℕ) → GapTo n k x → (Closes cs x → ⊥) → Refused Empty (InFlow n) k
    no_empty k x to c = refused_gives _ (InFlow n) k (λ m (s, h). c (subst (Closes cs) (to m s (closes_solid cs m h)) h))

    nodes_fresh : (E : End) → Starts (NodeY ∪ NodeJ) E (Solid cs)
    nodes_fresh E i j m v r e = (node_item i j v r).0.0

    -- content at x, parted from the colon
    pub value_content : (k x : ℕ) → GapTo n k x → (Closes cs x → ⊥) → Rest AfterY (InFlow n) k (NodeY ∪ NodeJ) (InFlow n) x
    value_content k x to c = rest_rest (rest_left _ (no_empty k x to c)) (rest_before (separate cs n flow_in) (NodeY ∪ NodeJ) (InFlow n) (Solid cs) k x (nodes_fresh (InFlow n)) (λ l s f. to l (inr s) f))

    pub adjacent_content : (k x : ℕ) → GapTo n k x → (Closes cs x → ⊥) → Rest AfterJ (InFlow n) k (NodeY ∪ NodeJ) (InFlow n) x
    adjacent_content k x to c = rest_rest (rest_left _ (no_empty k x to c)) (rest_before (Gap n) (NodeY ∪ NodeJ) (InFlow n) (Solid cs) k x (nodes_fresh (InFlow n)) (λ l s f. to l s f))

    -- nothing but content just after the colon of a YAML key: no value is parted from it
    pub value_alone : (k : ℕ) → Inside cs k → GapTo n k k → Goes AfterY (InFlow n) k (InFlow n) k
    value_alone k o to = rest_goes (rest_right Empty (record { none = λ j m v (q, s, r) e. parted q s (node_item q j v r).0.0 })) (goes_gives (empty no_props) (InFlow n) k)
      where
        cut : Solid cs k → (q : ℕ) → q ≡ k → (run cs is_space k q × (k < q)) ⊎ ((p : ℕ) × Past cs k p × run cs is_space p q) → ⊥
        cut h q e (inl (r, l)) = omega (arith, e, l)
        cut h q e (inr (p, b, r)) = past_no_ns cs k p o b h.0

        parted : (q : ℕ) → separate cs n flow_in k q → Solid cs q → ⊥
        parted q s h = let e : q ≡ k = to q (inr s) h in cut (subst (Solid cs) e h) q e (sep_parts cs n flow_in k q o s)

    -- a comma or a closing bracket at x: no value
    pub value_closed : (k x : ℕ) → GapTo n k x → Closes cs x → Goes AfterY (InFlow n) k (InFlow n) k
    value_closed k x to c = rest_goes (rest_right (Empty) (refused_before (separate cs n flow_in) (NodeY ∪ NodeJ) (InFlow n) (λ q. ItemHere cs q) k (λ i j m v r e. node_item i j v r) (λ l s f. f.1 (subst (Closes cs) (sym (to l (inr s) f.0.0)) c))))
        (goes_gives (empty no_props) (InFlow n) k)

    pub adjacent_closed : (k x : ℕ) → GapTo n k x → Closes cs x → Goes AfterJ (InFlow n) k (InFlow n) k
    adjacent_closed k x to c = rest_goes (rest_right (Empty) (refused_before (Gap n) (NodeY ∪ NodeJ) (InFlow n) (λ q. ItemHere cs q) k (λ i j m v r e. node_item i j v r) (λ l s f. f.1 (subst (Closes cs) (sym (to l s f.0.0)) c))))
        (goes_gives (empty no_props) (InFlow n) k)

    -- nothing to go on with
    pub value_no_gap : (k : ℕ) → NoGap n k → Refused AfterY (InFlow n) k
    value_no_gap k none = refused_either (refused_before (separate cs n flow_in) (NodeY ∪ NodeJ) (InFlow n) (Fresh cs) k (λ i j m v r e. (node_item i j v r).0) (λ l s f. none l (inr s) f))
        (refused_gives _ (InFlow n) k (λ m (s, h). none m s (closes_fresh cs m h)))

    pub adjacent_no_gap : (k : ℕ) → NoGap n k → Refused AfterJ (InFlow n) k
    adjacent_no_gap k none = refused_either (refused_before (Gap n) (NodeY ∪ NodeJ) (InFlow n) (Fresh cs) k (λ i j m v r e. (node_item i j v r).0) (λ l s f. none l s f))
        (refused_gives _ (InFlow n) k (λ m (s, h). none m s (closes_fresh cs m h)))

    -- ---- entries of a flow mapping

    abbrev ValuedY : Rule (List Event)
    ValuedY = (Gap n ▸ Value) ∪ Empty

    abbrev ValuedJ : Rule (List Event)
    ValuedJ = (Gap n ▸ Adjacent) ∪ Empty

    valued_yaml : Starts ValuedY (InFlow n) (EndsYaml n)
    valued_yaml i j m v (inl (q, s, r)) e = (q, s, inr (value_colon cs Wide handles Open inside facts n q j v r))
    valued_yaml i j m v (inr (a, b)) (s, h) = (m, subst (λ z. Gap n z m) a s, inl h)

    valued_json : Starts ValuedJ (InFlow n) (EndsJson n)
    valued_json i j m v (inl (q, s, r)) e = (q, s, inr (adjacent_colon cs Wide handles Open inside facts n q j v r))
    valued_json i j m v (inr (a, b)) (s, h) = (m, subst (λ z. Gap n z m) a s, inl h)

    abbrev Implicit : Rule (List Event)
    Implicit = implicit_entry cs Wide handles Open inside n flow_in

    -- what is left after a key
    pub key_rest_yaml : (i y : ℕ) → Goes NodeY (At (EndsYaml n)) i (At (EndsYaml n)) y → Refused NodeJ (At (EndsJson n)) i → Rest Implicit (InFlow n) i ValuedY (InFlow n) y
    unfolding implicit_entry yaml_key_entry json_key_entry
    key_rest_yaml i y g f = rest_rest (rest_left _ (refused_joined ValuedJ valued_json f)) (rest_joined ValuedY valued_yaml g)

    pub key_rest_json : (i y : ℕ) → Goes NodeJ (At (EndsJson n)) i (At (EndsJson n)) y → Refused NodeY (At (EndsYaml n)) i → Rest Implicit (InFlow n) i ValuedJ (InFlow n) y
    unfolding implicit_entry yaml_key_entry json_key_entry
    key_rest_json i y g f = rest_rest (rest_right (NodeJ ⨾ ValuedJ) (refused_joined ValuedY valued_yaml f)) (rest_joined ValuedJ valued_json g)

    pub no_key_in_flow : (i : ℕ) → Refused NodeY (At (EndsYaml n)) i → Refused NodeJ (At (EndsJson n)) i → Refused Implicit (InFlow n) i
    unfolding implicit_entry yaml_key_entry json_key_entry
    no_key_in_flow i f g = refused_either (refused_joined ValuedY valued_yaml f) (refused_joined ValuedJ valued_json g)

    -- a colon after separation, or none
    pub valued_colon_yaml : (y q : ℕ) → GapTo n y q → ColonY cs q → Rest ValuedY (InFlow n) y Value (InFlow n) q
    valued_colon_yaml y q to h = rest_rest (rest_left _ (no_empty y q to (λ c. closes_colon cs q c h.0)))
        (rest_before (Gap n) Value (InFlow n) (Solid cs) y q (λ i j m v r e. colon_solid cs i (value_colon cs Wide handles Open inside facts n i j v r).0) (λ l s f. to l s f))

    pub valued_colon_json : (y q : ℕ) → GapTo n y q → Colon cs q → Rest ValuedJ (InFlow n) y Adjacent (InFlow n) q
    valued_colon_json y q to h = rest_rest (rest_left _ (no_empty y q to (λ c. closes_colon cs q c h)))
        (rest_before (Gap n) Adjacent (InFlow n) (Solid cs) y q (λ i j m v r e. colon_solid cs i (adjacent_colon cs Wide handles Open inside facts n i j v r)) (λ l s f. to l s f))

    pub valued_none_yaml : (y q : ℕ) → GapTo n y q → (ColonY cs q → ⊥) → Goes ValuedY (InFlow n) y (InFlow n) y
    valued_none_yaml y q to h = rest_goes (rest_right Empty (refused_before (Gap n) Value (InFlow n) (ColonY cs) y (λ i j m v r e. value_colon cs Wide handles Open inside facts n i j v r)
        (λ l s f. h (subst (ColonY cs) (to l s (colon_solid cs l f.0)) f)))) (goes_gives (empty no_props) (InFlow n) y)

    pub valued_none_json : (y q : ℕ) → GapTo n y q → (Colon cs q → ⊥) → Goes ValuedJ (InFlow n) y (InFlow n) y
    valued_none_json y q to h = rest_goes (rest_right Empty (refused_before (Gap n) Adjacent (InFlow n) (Colon cs) y (λ i j m v r e. adjacent_colon cs Wide handles Open inside facts n i j v r)
        (λ l s f. h (subst (Colon cs) (to l s (colon_solid cs l f)) f)))) (goes_gives (empty no_props) (InFlow n) y)

    -- nothing to go on with after the key
    pub valued_no_gap_yaml : (y : ℕ) → NoGap n y → Refused ValuedY (InFlow n) y
    valued_no_gap_yaml y none = refused_either (refused_before (Gap n) Value (InFlow n) (Fresh cs) y (λ i j m v r e. (colon_part cs i (value_colon cs Wide handles Open inside facts n i j v r).0).0) (λ l s f. none l s f))
        (refused_gives _ (InFlow n) y (λ m (s, h). none m s (closes_fresh cs m h)))

    pub valued_no_gap_json : (y : ℕ) → NoGap n y → Refused ValuedJ (InFlow n) y
    valued_no_gap_json y none = refused_either (refused_before (Gap n) Adjacent (InFlow n) (Fresh cs) y (λ i j m v r e. (colon_part cs i (adjacent_colon cs Wide handles Open inside facts n i j v r)).0) (λ l s f. none l s f))
        (refused_gives _ (InFlow n) y (λ m (s, h). none m s (closes_fresh cs m h)))

    -- ---- keys that are empty, or begin with `?`

    abbrev EmptyKey : Rule (List Event)
    EmptyKey = empty_key cs Wide handles Open inside n flow_in

    abbrev Explicit : Rule (List Event)
    Explicit = explicit cs Wide handles Open inside n flow_in

    value_signed : Starts Value (InFlow n) (ColonY cs)
    value_signed i j m v r e = value_colon cs Wide handles Open inside facts n i j v r

    -- an empty key: its value
    pub empty_key_rest : (i : ℕ) → Rest EmptyKey (InFlow n) i Value (InFlow n) i
    unfolding empty_key
    empty_key_rest i = rest_joined Value value_signed (goes_gives (empty no_props) (At (ColonY cs)) i)

    abbrev Both : Rule (List Event)
    Both = Empty ⨾ Empty

    abbrev Keyed : Rule (List Event)
    Keyed = Implicit ∪ EmptyKey

    keyed_fresh : (i j : ℕ) (v : List Event) → Keyed i j v → PartHere cs i
    keyed_fresh i j v (inl r) = let h = implicit_start cs Wide handles Open inside facts n i j v r in (h.0, h.1)
    keyed_fresh i j v (inr r) = colon_part cs i (empty_key_colon cs Wide handles Open inside facts n i j v r).0

    both_here : (i j : ℕ) (v : List Event) → Both i j v → j ≡ i
    both_here i j v (k, us, vs, (a, b), (c, d), e) = c ∙ a

    -- after `?`: content at x
    pub explicit_content : (i x : ℕ) → Inside cs (i + 1) → ((q : ℕ) → Way cs (i + 1) q → q ≡ x) → (Closes cs x → ⊥) → Rest Explicit (InFlow n) i Keyed (InFlow n) x
    unfolding explicit
    explicit_content i x o way c = record { rest = go }
      where
        at : (k j m : ℕ) → separate cs n flow_in (i + 1) k → j ≡ k → InFlow n j m → Closes cs x
        at k j m s f (g, h) = subst (Closes cs) (way m (way_then cs n flow_in (i + 1) k m o s (subst (λ z. Way cs z m) f (way_maybe cs n flow_in j m g (closes_solid cs m h))))) h

        go : (j m : ℕ) (v : List Event) → Explicit i j v → InFlow n j m → (y : ℕ) × (w : List Event) × Keyed x y w × InFlow n y m
        go j m v (k, (a, (h, e), s), inl r) f =
            let d : k ≡ x = way k (way_maybe cs n flow_in (i + 1) k (inr (subst (λ z. separate cs n flow_in z k) e s)) (keyed_fresh k j v (inl r)).0.0) in (j, v, inl (subst (λ z. Implicit z j v) d r), f)
        go j m v (k, (a, (h, e), s), inr (inl r)) f =
            let d : k ≡ x = way k (way_maybe cs n flow_in (i + 1) k (inr (subst (λ z. separate cs n flow_in z k) e s)) (keyed_fresh k j v (inr r)).0.0) in (j, v, inr (subst (λ z. EmptyKey z j v) d r), f)
        go j m v (k, (a, (h, e), s), inr (inr r)) f = absurd (c (at k j m (subst (λ z. separate cs n flow_in z k) e s) (both_here k j v r) f))

    -- a comma or a closing bracket at x: neither a key nor a value
    pub explicit_closed : (i x : ℕ) → Inside cs (i + 1) → ((q : ℕ) → Way cs (i + 1) q → q ≡ x) → Closes cs x → Goes Explicit (InFlow n) i (InFlow n) x
    unfolding explicit
    explicit_closed i x o way c = record { goes = go }
      where
        there : (m : ℕ) → m ≡ x → Closes cs m → InFlow n x m
        there m e h = (inl e, h)

        go : (j m : ℕ) (v : List Event) → Explicit i j v → InFlow n j m → InFlow n x m
        go j m v (k, (a, (h, e), s), inl r) f =
            let d : k ≡ x = way k (way_maybe cs n flow_in (i + 1) k (inr (subst (λ z. separate cs n flow_in z k) e s)) (keyed_fresh k j v (inl r)).0.0) in absurd ((keyed_fresh k j v (inl r)).1 (subst (Closes cs) (sym d) c))
        go j m v (k, (a, (h, e), s), inr (inl r)) f =
            let d : k ≡ x = way k (way_maybe cs n flow_in (i + 1) k (inr (subst (λ z. separate cs n flow_in z k) e s)) (keyed_fresh k j v (inr r)).0.0) in absurd ((keyed_fresh k j v (inr r)).1 (subst (Closes cs) (sym d) c))
        go j m v (k, (a, (h, e), s), inr (inr r)) (g, b) =
            there m (way m (way_then cs n flow_in (i + 1) k m o (subst (λ z. separate cs n flow_in z k) e s) (subst (λ z. Way cs z m) (both_here k j v r) (way_maybe cs n flow_in j m g (closes_solid cs m b))))) b

    -- nothing parts content from it
    pub explicit_not_parted : (i : ℕ) → Inside cs (i + 1) → ((q : ℕ) → Way cs (i + 1) q → q ≡ i + 1) → Refused Explicit (InFlow n) i
    unfolding explicit
    explicit_not_parted i o way = record { none = go }
      where
        cut : Solid cs (i + 1) → (q : ℕ) → (run cs is_space (i + 1) q × (i + 1 < q)) ⊎ ((p : ℕ) × Past cs (i + 1) p × run cs is_space p q) → ⊥
        cut h q (inl (r, l)) = solid_no_space cs (i + 1) h.0 (r.1 (i + 1) (omega arith) l)
        cut h q (inr (p, b, r)) = past_no_ns cs (i + 1) p o b h.0

        parted : (k q : ℕ) → separate cs n flow_in (i + 1) k → Way cs (i + 1) q → Solid cs q → ⊥
        parted k q s w h = cut (subst (Solid cs) (way q w) h) k (sep_parts cs n flow_in (i + 1) k o s)

        apart : (k m : ℕ) → separate cs n flow_in (i + 1) k → Gap n k m → Closes cs m → ⊥
        apart k m s g h = parted k m s (way_then cs n flow_in (i + 1) k m o s (way_maybe cs n flow_in k m g (closes_solid cs m h))) (closes_solid cs m h)

        content : (k : ℕ) → separate cs n flow_in (i + 1) k → Solid cs k → ⊥
        content k s h = parted k k s (way_maybe cs n flow_in (i + 1) k (inr s) h) h

        go : (j m : ℕ) (v : List Event) → Explicit i j v → InFlow n j m → ⊥
        go j m v (k, (a, (h, e), s), inl r) f = content k (subst (λ z. separate cs n flow_in z k) e s) (keyed_fresh k j v (inl r)).0.0
        go j m v (k, (a, (h, e), s), inr (inl r)) f = content k (subst (λ z. separate cs n flow_in z k) e s) (keyed_fresh k j v (inr r)).0.0
        go j m v (k, (a, (h, e), s), inr (inr r)) (g, b) = apart k m (subst (λ z. separate cs n flow_in z k) e s) (subst (λ z. Gap n z m) (both_here k j v r) g) b

    -- nothing to go on with after it
    pub explicit_no_gap : (i : ℕ) → Inside cs (i + 1) → NoGap n (i + 1) → Refused Explicit (InFlow n) i
    unfolding explicit
    explicit_no_gap i o none = record { none = go }
      where
        go : (j m : ℕ) (v : List Event) → Explicit i j v → InFlow n j m → ⊥
        go j m v (k, (a, (h, e), s), inl r) f = none k (inr (subst (λ z. separate cs n flow_in z k) e s)) (keyed_fresh k j v (inl r)).0
        go j m v (k, (a, (h, e), s), inr (inl r)) f = none k (inr (subst (λ z. separate cs n flow_in z k) e s)) (keyed_fresh k j v (inr r)).0
        go j m v (k, (a, (h, e), s), inr (inr r)) (g, b) =
            none m (inr (separate_twice cs n (i + 1) k m o (subst (λ z. separate cs n flow_in z k) e s) (subst (λ z. Gap n z m) (both_here k j v r) g) (closes_solid cs m b))) (closes_fresh cs m b)

    -- ---- which entry

    abbrev Entry : Rule (List Event)
    Entry = entry cs Wide handles Open inside n flow_in

    -- no `?` stands here; one does, and no key begins here
    pub entry_keyed : (E : End) (i : ℕ) → (MarkHere cs i → ⊥) → Rest Entry E i Keyed E i
    unfolding entry
    entry_keyed E i f = record { rest = go }
      where
        go : (j m : ℕ) (v : List Event) → Entry i j v → E j m → (k : ℕ) × (w : List Event) × Keyed i k w × E k m
        go j m v (inl r) e = (j, v, inl r, e)
        go j m v (inr (w, inl r)) e = (j, v, inr r, e)
        go j m v (inr (w, inr r)) e = absurd (f (explicit_mark cs Wide handles Open inside facts n i j v r))

    pub entry_asked : (i : ℕ) → Refused Implicit (InFlow n) i → (ColonY cs i → ⊥) → Rest Entry (InFlow n) i Explicit (InFlow n) i
    unfolding entry
    entry_asked i f g = record { rest = go }
      where
        go : (j m : ℕ) (v : List Event) → Entry i j v → InFlow n j m → (k : ℕ) × (w : List Event) × Explicit i k w × InFlow n k m
        go j m v (inl r) e = absurd (f.none j m v r e)
        go j m v (inr (w, inl r)) e = absurd (g (empty_key_colon cs Wide handles Open inside facts n i j v r))
        go j m v (inr (w, inr r)) e = (j, v, r, e)

    -- without `?`: a key that begins here, or an empty one
    pub keyed_implicit : (E : End) (i : ℕ) → (ColonY cs i → ⊥) → Rest Keyed E i Implicit E i
    keyed_implicit E i f = rest_left Implicit (record { none = λ j m v r e. f (empty_key_colon cs Wide handles Open inside facts n i j v r) })

    pub keyed_empty : (E : End) (i : ℕ) → ColonY cs i → Rest Keyed E i EmptyKey E i
    keyed_empty E i h = rest_right EmptyKey (record { none = λ j m v r e. (implicit_start cs Wide handles Open inside facts n i j v r).2 h })

    -- ---- items of a flow sequence: a pair, or a node of the pair's own level

    module _ (Yaml Json : Rule (List Event)) (yaml_start : (i j : ℕ) (v : List Event) → Yaml i j v → ItemHere cs i) (json_start : (i j : ℕ) (v : List Event) → Json i j v → ItemHere cs i)
        (key_yaml : (i j : ℕ) (v : List Event) → inside (yaml_part 0 flow_key) i j v → Yaml i j v) (key_json : (i j : ℕ) (v : List Event) → inside (json_part 0 flow_key) i j v → Json i j v) where
      abbrev Pair : Rule (List Event)
      Pair = pair cs Wide handles Open inside n flow_in

      abbrev Item : Rule (List Event)
      Item = Pair ∪ (Yaml ∪ Json)

      abbrev KeyY : Rule (List Event)
      KeyY = implicit_yaml_key cs Wide handles Open inside flow_key

      abbrev KeyJ : Rule (List Event)
      KeyJ = implicit_json_key cs Wide handles Open inside flow_key

      abbrev PairBody : Rule (List Event)
      PairBody = (KeyY ⨾ Value) ∪ (KeyJ ⨾ Adjacent) ∪ given Wide (EmptyKey ∪ Explicit)

      -- a key of so many characters on one line (7.4.2)
      abbrev pub Fits : ℕ → ℕ → Type 0
      Fits i q = OneLine cs i q × (q ≤ i + key_limit)

      pair_body : (E : End) (i : ℕ) → Rest Pair E i PairBody E i
      unfolding pair
      pair_body E i = record { rest = λ j m v (o, (t, r, x)) e. (j, t, r, e) }

      pub pair_no_room : (E : End) (i : ℕ) → (Open → ⊥) → Refused Pair E i
      unfolding pair
      pair_no_room E i n = record { none = λ j m v (o, r) e. n o }

      over_spaces : (a j : ℕ) → maybe (sep cs) a j → run cs is_space a j
      over_spaces a j (inl e) = subst (run cs is_space a) (sym e) (run_none cs is_space a)
      over_spaces a j (inr s) = sep_run cs a j s

      as_gap : (a j : ℕ) → maybe (sep cs) a j → Gap n a j
      unfolding separate separate_lines
      as_gap a j (inl e) = inl e
      as_gap a j (inr s) = inr (inr s)

      -- every key that a colon follows ends with this node
      yaml_key_at : (i y q j : ℕ) (v : List Event) → Goes Yaml (At (EndsYaml n)) i (At (EndsYaml n)) y → Spaces cs y q → KeyY i j v → ColonY cs j → (j ≡ q) × Fits i q
      unfolding implicit_yaml_key
      yaml_key_at i y q j v g sp ((one, l), (a, r, s)) h =
          let e : y ≡ a = (g.goes a a v (key_yaml i a v r) (refl, (j, as_gap a j s, inr h))).0 in
          let d : j ≡ q = spaces_to cs y q j sp (subst (λ z. run cs is_space z j) (sym e) (over_spaces a j s)) (colon_solid cs j h.0) in
          (d, (subst (OneLine cs i) d one, subst (λ z. z ≤ i + key_limit) d l))

      json_key_at : (i y q j : ℕ) (v : List Event) → Goes Json (At (EndsJson n)) i (At (EndsJson n)) y → Spaces cs y q → KeyJ i j v → Colon cs j → (j ≡ q) × Fits i q
      unfolding implicit_json_key
      json_key_at i y q j v g sp ((one, l), (a, r, s)) h =
          let e : y ≡ a = (g.goes a a v (key_json i a v r) (refl, (j, as_gap a j s, inr h))).0 in
          let d : j ≡ q = spaces_to cs y q j sp (subst (λ z. run cs is_space z j) (sym e) (over_spaces a j s)) (colon_solid cs j h) in
          (d, (subst (OneLine cs i) d one, subst (λ z. z ≤ i + key_limit) d l))

      no_yaml_key : (i j : ℕ) (v : List Event) → Refused Yaml (At (EndsYaml n)) i → KeyY i j v → ColonY cs j → ⊥
      unfolding implicit_yaml_key
      no_yaml_key i j v f ((one, l), (a, r, s)) h = f.none a a v (key_yaml i a v r) (refl, (j, as_gap a j s, inr h))

      no_json_key : (i j : ℕ) (v : List Event) → Refused Json (At (EndsJson n)) i → KeyJ i j v → Colon cs j → ⊥
      unfolding implicit_json_key
      no_json_key i j v f ((one, l), (a, r, s)) h = f.none a a v (key_json i a v r) (refl, (j, as_gap a j s, inr h))

      loose_not : (i j : ℕ) (v : List Event) → (ColonY cs i → ⊥) → (MarkHere cs i → ⊥) → given Wide (EmptyKey ∪ Explicit) i j v → ⊥
      loose_not i j v f g (w, inl r) = f (empty_key_colon cs Wide handles Open inside facts n i j v r)
      loose_not i j v f g (w, inr r) = g (explicit_mark cs Wide handles Open inside facts n i j v r)

      -- a pair whose key is this YAML node: its value; none where no colon makes it a key
      pub pair_of_yaml : (i y q : ℕ) → Goes Yaml (At (EndsYaml n)) i (At (EndsYaml n)) y → Refused Json (At (EndsJson n)) i → (ColonY cs i → ⊥) → (MarkHere cs i → ⊥) → Spaces cs y q → Rest Pair (InFlow n) i Value (InFlow n) q
      pair_of_yaml i y q g f c d sp = rest_rest (pair_body (InFlow n) i) (record { rest = go })
        where
          go : (j m : ℕ) (v : List Event) → PairBody i j v → InFlow n j m → (k : ℕ) × (w : List Event) × Value q k w × InFlow n k m
          go j m v (inl (a, us, vs, r, s, x)) e =
              let h = yaml_key_at i y q a us g sp r (value_colon cs Wide handles Open inside facts n a j vs s) in (j, vs, subst (λ z. Value z j vs) h.0 s, e)
          go j m v (inr (inl (a, us, vs, r, s, x))) e = absurd (no_json_key i a us f r (adjacent_colon cs Wide handles Open inside facts n a j vs s))
          go j m v (inr (inr r)) e = absurd (loose_not i j v c d r)

      pub pair_of_json : (i y q : ℕ) → Goes Json (At (EndsJson n)) i (At (EndsJson n)) y → Refused Yaml (At (EndsYaml n)) i → (ColonY cs i → ⊥) → (MarkHere cs i → ⊥) → Spaces cs y q → Rest Pair (InFlow n) i Adjacent (InFlow n) q
      pair_of_json i y q g f c d sp = rest_rest (pair_body (InFlow n) i) (record { rest = go })
        where
          go : (j m : ℕ) (v : List Event) → PairBody i j v → InFlow n j m → (k : ℕ) × (w : List Event) × Adjacent q k w × InFlow n k m
          go j m v (inl (a, us, vs, r, s, x)) e = absurd (no_yaml_key i a us f r (value_colon cs Wide handles Open inside facts n a j vs s))
          go j m v (inr (inl (a, us, vs, r, s, x))) e =
              let h = json_key_at i y q a us g sp r (adjacent_colon cs Wide handles Open inside facts n a j vs s) in (j, vs, subst (λ z. Adjacent z j vs) h.0 s, e)
          go j m v (inr (inr r)) e = absurd (loose_not i j v c d r)

      pub no_pair_of_yaml : (i y q : ℕ) → Goes Yaml (At (EndsYaml n)) i (At (EndsYaml n)) y → Refused Json (At (EndsJson n)) i → (ColonY cs i → ⊥) → (MarkHere cs i → ⊥) → Spaces cs y q → (ColonY cs q → Fits i q → ⊥) → Refused Pair (InFlow n) i
      no_pair_of_yaml i y q g f c d sp none = rest_refused (pair_body (InFlow n) i) (record { none = go })
        where
          go : (j m : ℕ) (v : List Event) → PairBody i j v → InFlow n j m → ⊥
          go j m v (inl (a, us, vs, r, s, x)) e =
              let k = value_colon cs Wide handles Open inside facts n a j vs s in let h = yaml_key_at i y q a us g sp r k in none (subst (ColonY cs) h.0 k) h.1
          go j m v (inr (inl (a, us, vs, r, s, x))) e = no_json_key i a us f r (adjacent_colon cs Wide handles Open inside facts n a j vs s)
          go j m v (inr (inr r)) e = loose_not i j v c d r

      pub no_pair_of_json : (i y q : ℕ) → Goes Json (At (EndsJson n)) i (At (EndsJson n)) y → Refused Yaml (At (EndsYaml n)) i → (ColonY cs i → ⊥) → (MarkHere cs i → ⊥) → Spaces cs y q → (Colon cs q → Fits i q → ⊥) → Refused Pair (InFlow n) i
      no_pair_of_json i y q g f c d sp none = rest_refused (pair_body (InFlow n) i) (record { none = go })
        where
          go : (j m : ℕ) (v : List Event) → PairBody i j v → InFlow n j m → ⊥
          go j m v (inl (a, us, vs, r, s, x)) e = no_yaml_key i a us f r (value_colon cs Wide handles Open inside facts n a j vs s)
          go j m v (inr (inl (a, us, vs, r, s, x))) e =
              let k = adjacent_colon cs Wide handles Open inside facts n a j vs s in let h = json_key_at i y q a us g sp r k in none (subst (Colon cs) h.0 k) h.1
          go j m v (inr (inr r)) e = loose_not i j v c d r

      -- the node by itself: not where a colon follows it
      pub node_of_yaml : (i y : ℕ) → Goes Yaml (At (EndsYaml n)) i (At (EndsYaml n)) y → Refused Json (At (EndsJson n)) i → Goes (Yaml ∪ Json) (InFlow n) i (InFlow n) y
      node_of_yaml i y g f = record { goes = go }
        where
          go : (j m : ℕ) (v : List Event) → (Yaml ∪ Json) i j v → InFlow n j m → InFlow n y m
          go j m v (inl r) e = subst (λ z. InFlow n z m) (sym (g.goes j j v r (in_yaml n j m e)).0) e
          go j m v (inr r) e = absurd (f.none j j v r (in_json n j m e))

      pub node_of_json : (i y : ℕ) → Goes Json (At (EndsJson n)) i (At (EndsJson n)) y → Refused Yaml (At (EndsYaml n)) i → Goes (Yaml ∪ Json) (InFlow n) i (InFlow n) y
      node_of_json i y g f = record { goes = go }
        where
          go : (j m : ℕ) (v : List Event) → (Yaml ∪ Json) i j v → InFlow n j m → InFlow n y m
          go j m v (inl r) e = absurd (f.none j j v r (in_yaml n j m e))
          go j m v (inr r) e = subst (λ z. InFlow n z m) (sym (g.goes j j v r (in_json n j m e)).0) e

      pub not_closed : (y q : ℕ) → Spaces cs y q → Colon cs q → (m : ℕ) → InFlow n y m → ⊥
      not_closed y q sp h m (s, c) =
          let e : m ≡ q = way_same cs y m q (way_maybe cs n flow_in y m s (closes_solid cs m c)) (inl (sp.0, colon_solid cs q h)) in
          closes_colon cs q (subst (Closes cs) e c) h

      -- an item: the node, where it is no key; else the pair
      pub item_node : (i y : ℕ) → Refused Pair (InFlow n) i → Goes (Yaml ∪ Json) (InFlow n) i (InFlow n) y → Goes Item (InFlow n) i (InFlow n) y
      item_node i y f g = rest_goes (rest_right (Yaml ∪ Json) f) g

      pub item_pair : (i y q z : ℕ) → Goes (Yaml ∪ Json) (InFlow n) i (InFlow n) y → Spaces cs y q → Colon cs q → Goes Pair (InFlow n) i (InFlow n) z → Goes Item (InFlow n) i (InFlow n) z
      item_pair i y q z g sp h f = rest_goes (rest_left Pair (record { none = λ j m v r e. not_closed y q sp h m (g.goes j m v r e) })) f

      pub item_refused : (i y q : ℕ) → Goes (Yaml ∪ Json) (InFlow n) i (InFlow n) y → Spaces cs y q → Colon cs q → Refused Pair (InFlow n) i → Refused Item (InFlow n) i
      item_refused i y q g sp h f = refused_either f (record { none = λ j m v r e. not_closed y q sp h m (g.goes j m v r e) })

      -- no node begins here
      pub item_none : (i : ℕ) → Refused Yaml (At (EndsYaml n)) i → Refused Json (At (EndsJson n)) i → (ColonY cs i → ⊥) → (MarkHere cs i → ⊥) → Refused Item (InFlow n) i
      item_none i f g c d = refused_either (rest_refused (pair_body (InFlow n) i) (record { none = go })) (record { none = held })
        where
          go : (j m : ℕ) (v : List Event) → PairBody i j v → InFlow n j m → ⊥
          go j m v (inl (a, us, vs, r, s, x)) e = no_yaml_key i a us f r (value_colon cs Wide handles Open inside facts n a j vs s)
          go j m v (inr (inl (a, us, vs, r, s, x))) e = no_json_key i a us g r (adjacent_colon cs Wide handles Open inside facts n a j vs s)
          go j m v (inr (inr r)) e = loose_not i j v c d r

          held : (j m : ℕ) (v : List Event) → (Yaml ∪ Json) i j v → InFlow n j m → ⊥
          held j m v (inl r) e = f.none j j v r (in_yaml n j m e)
          held j m v (inr r) e = g.none j j v r (in_json n j m e)

      -- no node begins here: a pair that begins with `?`
      pub item_asked : (i : ℕ) → Refused Yaml (At (EndsYaml n)) i → Refused Json (At (EndsJson n)) i → (ColonY cs i → ⊥) → Rest Item (InFlow n) i Explicit (InFlow n) i
      item_asked i f g c = rest_rest (rest_left Pair (record { none = held })) (rest_rest (pair_body (InFlow n) i) (record { rest = go }))
        where
          held : (j m : ℕ) (v : List Event) → (Yaml ∪ Json) i j v → InFlow n j m → ⊥
          held j m v (inl r) e = f.none j j v r (in_yaml n j m e)
          held j m v (inr r) e = g.none j j v r (in_json n j m e)

          go : (j m : ℕ) (v : List Event) → PairBody i j v → InFlow n j m → (k : ℕ) × (w : List Event) × Explicit i k w × InFlow n k m
          go j m v (inl (a, us, vs, r, s, x)) e = absurd (no_yaml_key i a us f r (value_colon cs Wide handles Open inside facts n a j vs s))
          go j m v (inr (inl (a, us, vs, r, s, x))) e = absurd (no_json_key i a us g r (adjacent_colon cs Wide handles Open inside facts n a j vs s))
          go j m v (inr (inr (w, inl r))) e = absurd (c (empty_key_colon cs Wide handles Open inside facts n i j v r))
          go j m v (inr (inr (w, inr r))) e = (j, v, r, e)

      pub nodes_not : (E : End) (i : ℕ) → ColonY cs i ⊎ MarkHere cs i → Refused (Yaml ∪ Json) E i
      nodes_not E i h = record { none = go h }
        where
          go : ColonY cs i ⊎ MarkHere cs i → (j m : ℕ) (v : List Event) → (Yaml ∪ Json) i j v → E j m → ⊥
          go (inl a) j m v (inl r) e = (yaml_start i j v r).2 a
          go (inr a) j m v (inl r) e = (yaml_start i j v r).3 a
          go (inl a) j m v (inr r) e = (json_start i j v r).2 a
          go (inr a) j m v (inr r) e = (json_start i j v r).3 a

      key_here_yaml : (i j : ℕ) (v : List Event) → KeyY i j v → ItemHere cs i
      unfolding implicit_yaml_key
      key_here_yaml i j v (l, (a, r, s)) = yaml_start i a v (key_yaml i a v r)

      key_here_json : (i j : ℕ) (v : List Event) → KeyJ i j v → ItemHere cs i
      unfolding implicit_json_key
      key_here_json i j v (l, (a, r, s)) = json_start i a v (key_json i a v r)

      -- a colon or a `?` by itself begins a pair
      pub item_empty_key : (i : ℕ) → ColonY cs i → Rest Item (InFlow n) i EmptyKey (InFlow n) i
      item_empty_key i h = rest_rest (rest_left Pair (nodes_not (InFlow n) i (inl h))) (rest_rest (pair_body (InFlow n) i) (record { rest = go }))
        where
          go : (j m : ℕ) (v : List Event) → PairBody i j v → InFlow n j m → (k : ℕ) × (w : List Event) × EmptyKey i k w × InFlow n k m
          go j m v (inl (a, us, vs, r, s, x)) e = absurd ((key_here_yaml i a us r).2 h)
          go j m v (inr (inl (a, us, vs, r, s, x))) e = absurd ((key_here_json i a us r).2 h)
          go j m v (inr (inr (w, inl r))) e = (j, v, r, e)
          go j m v (inr (inr (w, inr r))) e = let z : 58 ≡ 63 = same_char cs i 58 63 h.0 (explicit_mark cs Wide handles Open inside facts n i j v r).0 in absurd (omega (arith, z))
