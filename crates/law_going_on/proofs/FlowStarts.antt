-- A flow node by its first character: which of its forms are left.
use Rattle.std.proofs.Common.{◌≡◌, ℕ, ◌⊎◌, inl, inr, List, Some, refl, arith}
use Rattle.std.specs.Prelude.{slice_get}
use Rattle.yaml_definitions.specs.grammar.Rules.{Rule, with_value}
use Rattle.yaml_definitions.specs.grammar.Separation.{Ctx}
use Rattle.yaml_definitions.specs.grammar.Tags.{Handles, c-ns-properties as properties}
use Rattle.yaml_definitions.specs.grammar.Tags as tags
use Rattle.yaml_definitions.specs.grammar.FlowScalars.{PlainFirst, c-single-quoted as single, c-double-quoted as double}
use Rattle.yaml_definitions.specs.model.Event.{Event}
use Rattle.yaml_definitions.specs.model.Event as style
use Rattle.yaml_definitions.specs.grammar.Events.{Props, no_props}
use Rattle.yaml_definitions.specs.grammar.Nodes.{Part, ns-flow-yaml-node as yaml_node, c-flow-json-node as json_node, scalar_of, c-flow-sequence as flow_seq, c-flow-mapping as flow_map, ns-flow-node as flow_node}
use Rattle.yaml_text.proofs.Runs.{same_char}
use Rattle.law_one_reading.specs.Readings.{End}
use Rattle.law_one_reading.proofs.TagEnds.{prop_same, prop_here, prop_inside}
use Rattle.law_one_reading.proofs.Properties.{props_here, props_two}
use Rattle.law_one_reading.proofs.FlowNodes.{Kind, Sign, kind_same, plain_no_kind, prop_kind, plain_start, Jsons, Plains, Aliases, YamlRest, JsonRest, jsons_start, json_parts}
use Rattle.law_going_on.specs.GoingOn.{Refused, Rest}
use Rattle.law_going_on.proofs.GoingOn.{rest_refused, refused_either}

module _ (cs : List ℕ) (Wide : Type 0) (handles : Handles) (Open : Type 0) (inside : Part → Rule (List Event)) (n : ℕ) (c : Ctx) where
  abbrev Yaml : Rule (List Event)
  Yaml = yaml_node cs Wide handles Open inside n c

  abbrev Json : Rule (List Event)
  Json = json_node cs Wide handles Open inside n c

  abbrev AliasNode : Rule (List Event)
  AliasNode = Aliases cs Wide handles Open inside n c

  abbrev PlainNode : Rule (List Event)
  PlainNode = Plains cs Wide handles Open inside n c no_props

  abbrev PropYaml : Rule (List Event)
  PropYaml = with_value (properties cs handles n c) (YamlRest cs Wide handles Open inside n c)

  abbrev JsonContent : Props → Rule (List Event)
  JsonContent = Jsons cs Wide handles Open inside n c

  abbrev PropJson : Rule (List Event)
  PropJson = with_value (properties cs handles n c) (JsonRest cs Wide handles Open inside n c)

  -- ---- what each form begins with

  alias_begin : (i j : ℕ) (v : List Event) → AliasNode i j v → Kind cs 2 i
  unfolding tags.c-ns-alias-node
  alias_begin i j v (x, (k, (h, e), r), f) = (42, h, Sign.star 42 refl)

  plain_begin : (i j : ℕ) (v : List Event) → PlainNode i j v → PlainFirst cs c i
  plain_begin i j v (t, r, e) = (plain_start cs n c i j t r).1

  pub propped_begin : {V : Type 0} (S : Props → Rule V) (i j : ℕ) (v : V) → with_value (properties cs handles n c) S i j v → Kind cs 1 i
  propped_begin S i j v (k, p, r, s) = prop_kind cs handles i (props_here cs handles (prop_same cs handles) (prop_here cs handles) (prop_inside cs handles) n c i k p (props_two cs handles n c i k p r))

  yaml_forms : (i j : ℕ) (v : List Event) → Yaml i j v → AliasNode i j v ⊎ PlainNode i j v ⊎ PropYaml i j v
  unfolding yaml_node
  yaml_forms i j v r = r

  json_forms : (i j : ℕ) (v : List Event) → Json i j v → JsonContent no_props i j v ⊎ PropJson i j v
  json_forms i j v r = json_parts cs Wide handles Open inside n c i j v r

  two_kinds : (a b i : ℕ) → (a ≡ b → ⊥) → Kind cs a i → Kind cs b i → ⊥
  two_kinds a b i f h g = f (kind_same cs a b i h g)

  json_kind : (p : Props) (i j : ℕ) (v : List Event) → JsonContent p i j v → Kind cs 3 i
  json_kind p i j v r = jsons_start cs Wide handles Open inside n c p i j v r

  -- ---- a quote or an opening bracket: content of a json node

  abbrev SingleNode : Props → Rule (List Event)
  SingleNode p = scalar_of cs Wide handles Open inside p style.single (single cs n c)

  abbrev DoubleNode : Props → Rule (List Event)
  DoubleNode p = scalar_of cs Wide handles Open inside p style.double (double cs n c)

  abbrev SeqNode : Props → Rule (List Event)
  SeqNode p = flow_seq cs Wide handles Open inside p n c

  abbrev MapNode : Props → Rule (List Event)
  MapNode p = flow_map cs Wide handles Open inside p n c

  single_char : (p : Props) (i j : ℕ) (v : List Event) → SingleNode p i j v → slice_get cs i ≡ Some 39
  unfolding single
  single_char p i j v (t, (u, (k, (h, e), r)), x) = h

  double_char : (p : Props) (i j : ℕ) (v : List Event) → DoubleNode p i j v → slice_get cs i ≡ Some 34
  unfolding double
  double_char p i j v (t, (u, (k, (h, e), r)), x) = h

  seq_char : (p : Props) (i j : ℕ) (v : List Event) → SeqNode p i j v → slice_get cs i ≡ Some 91
  unfolding flow_seq
  seq_char p i j v (o, (t, (k, (l, (h, e), s), r), x)) = h

  map_char : (p : Props) (i j : ℕ) (v : List Event) → MapNode p i j v → slice_get cs i ≡ Some 123
  unfolding flow_map
  map_char p i j v (o, (t, (k, (l, (h, e), s), r), x)) = h

  other : (i a b : ℕ) → (a ≡ b → ⊥) → slice_get cs i ≡ Some a → slice_get cs i ≡ Some b → ⊥
  other i a b f h g = f (same_char cs i a b h g)

  pub single_left : (p : Props) (E : End) (i : ℕ) → slice_get cs i ≡ Some 39 → Rest (JsonContent p) E i (SingleNode p) E i
  single_left p E i h = record { rest = go }
    where
      go : (j m : ℕ) (v : List Event) → JsonContent p i j v → E j m → (k : ℕ) × (w : List Event) × SingleNode p i k w × E k m
      go j m v (inl r) e = (j, v, r, e)
      go j m v (inr (inl r)) e = absurd (other i 34 39 (λ z. omega (arith, z)) (double_char p i j v r) h)
      go j m v (inr (inr (inl r))) e = absurd (other i 91 39 (λ z. omega (arith, z)) (seq_char p i j v r) h)
      go j m v (inr (inr (inr r))) e = absurd (other i 123 39 (λ z. omega (arith, z)) (map_char p i j v r) h)

  pub double_left : (p : Props) (E : End) (i : ℕ) → slice_get cs i ≡ Some 34 → Rest (JsonContent p) E i (DoubleNode p) E i
  double_left p E i h = record { rest = go }
    where
      go : (j m : ℕ) (v : List Event) → JsonContent p i j v → E j m → (k : ℕ) × (w : List Event) × DoubleNode p i k w × E k m
      go j m v (inl r) e = absurd (other i 39 34 (λ z. omega (arith, z)) (single_char p i j v r) h)
      go j m v (inr (inl r)) e = (j, v, r, e)
      go j m v (inr (inr (inl r))) e = absurd (other i 91 34 (λ z. omega (arith, z)) (seq_char p i j v r) h)
      go j m v (inr (inr (inr r))) e = absurd (other i 123 34 (λ z. omega (arith, z)) (map_char p i j v r) h)

  pub sequence_left : (p : Props) (E : End) (i : ℕ) → slice_get cs i ≡ Some 91 → Rest (JsonContent p) E i (SeqNode p) E i
  sequence_left p E i h = record { rest = go }
    where
      go : (j m : ℕ) (v : List Event) → JsonContent p i j v → E j m → (k : ℕ) × (w : List Event) × SeqNode p i k w × E k m
      go j m v (inl r) e = absurd (other i 39 91 (λ z. omega (arith, z)) (single_char p i j v r) h)
      go j m v (inr (inl r)) e = absurd (other i 34 91 (λ z. omega (arith, z)) (double_char p i j v r) h)
      go j m v (inr (inr (inl r))) e = (j, v, r, e)
      go j m v (inr (inr (inr r))) e = absurd (other i 123 91 (λ z. omega (arith, z)) (map_char p i j v r) h)

  pub mapping_left : (p : Props) (E : End) (i : ℕ) → slice_get cs i ≡ Some 123 → Rest (JsonContent p) E i (MapNode p) E i
  mapping_left p E i h = record { rest = go }
    where
      go : (j m : ℕ) (v : List Event) → JsonContent p i j v → E j m → (k : ℕ) × (w : List Event) × MapNode p i k w × E k m
      go j m v (inl r) e = absurd (other i 39 123 (λ z. omega (arith, z)) (single_char p i j v r) h)
      go j m v (inr (inl r)) e = absurd (other i 34 123 (λ z. omega (arith, z)) (double_char p i j v r) h)
      go j m v (inr (inr (inl r))) e = absurd (other i 91 123 (λ z. omega (arith, z)) (seq_char p i j v r) h)
      go j m v (inr (inr (inr r))) e = (j, v, r, e)

  -- ---- an asterisk: an alias

  pub alias_left : (E : End) (i : ℕ) → Kind cs 2 i → Rest Yaml E i AliasNode E i
  alias_left E i h = record { rest = λ j m v r e. go j m v e (yaml_forms i j v r) }
    where
      go : (j m : ℕ) (v : List Event) → E j m → AliasNode i j v ⊎ PlainNode i j v ⊎ PropYaml i j v → (k : ℕ) × (w : List Event) × AliasNode i k w × E k m
      go j m v e (inl r) = (j, v, r, e)
      go j m v e (inr (inl r)) = absurd (plain_no_kind cs c 2 i h (plain_begin i j v r))
      go j m v e (inr (inr r)) = absurd (two_kinds 1 2 i (λ z. omega (arith, z)) (propped_begin (YamlRest cs Wide handles Open inside n c) i j v r) h)

  -- ---- a property: what follows the properties

  pub yaml_propped : (E : End) (i : ℕ) → Kind cs 1 i → Rest Yaml E i PropYaml E i
  yaml_propped E i h = record { rest = λ j m v r e. go j m v e (yaml_forms i j v r) }
    where
      go : (j m : ℕ) (v : List Event) → E j m → AliasNode i j v ⊎ PlainNode i j v ⊎ PropYaml i j v → (k : ℕ) × (w : List Event) × PropYaml i k w × E k m
      go j m v e (inl r) = absurd (two_kinds 2 1 i (λ z. omega (arith, z)) (alias_begin i j v r) h)
      go j m v e (inr (inl r)) = absurd (plain_no_kind cs c 1 i h (plain_begin i j v r))
      go j m v e (inr (inr r)) = (j, v, r, e)

  pub json_propped : (E : End) (i : ℕ) → Kind cs 1 i → Rest Json E i PropJson E i
  json_propped E i h = record { rest = λ j m v r e. go j m v e (json_forms i j v r) }
    where
      go : (j m : ℕ) (v : List Event) → E j m → JsonContent no_props i j v ⊎ PropJson i j v → (k : ℕ) × (w : List Event) × PropJson i k w × E k m
      go j m v e (inl r) = absurd (two_kinds 3 1 i (λ z. omega (arith, z)) (json_kind no_props i j v r) h)
      go j m v e (inr r) = (j, v, r, e)

  -- ---- another character: a plain scalar, or no node

  pub plain_left : (E : End) (i : ℕ) → (Kind cs 1 i → ⊥) → (Kind cs 2 i → ⊥) → Rest Yaml E i PlainNode E i
  plain_left E i f g = record { rest = λ j m v r e. go j m v e (yaml_forms i j v r) }
    where
      go : (j m : ℕ) (v : List Event) → E j m → AliasNode i j v ⊎ PlainNode i j v ⊎ PropYaml i j v → (k : ℕ) × (w : List Event) × PlainNode i k w × E k m
      go j m v e (inl r) = absurd (g (alias_begin i j v r))
      go j m v e (inr (inl r)) = (j, v, r, e)
      go j m v e (inr (inr r)) = absurd (f (propped_begin (YamlRest cs Wide handles Open inside n c) i j v r))

  pub no_json : (E : End) (i : ℕ) → (Kind cs 1 i → ⊥) → (Kind cs 3 i → ⊥) → Refused Json E i
  no_json E i f g = record { none = λ j m v r e. go j v (json_forms i j v r) }
    where
      go : (j : ℕ) (v : List Event) → JsonContent no_props i j v ⊎ PropJson i j v → ⊥
      go j v (inl r) = g (json_kind no_props i j v r)
      go j v (inr r) = f (propped_begin (JsonRest cs Wide handles Open inside n c) i j v r)

  -- ---- both kinds together

  abbrev Node : Rule (List Event)
  Node = flow_node cs Wide handles Open inside n c

  pub node_refused : (E : End) (i : ℕ) → Refused Yaml E i → Refused Json E i → Refused Node E i
  unfolding flow_node
  node_refused E i f g = refused_either f g

  -- a bar or a greater sign begins no flow node
  pub no_node_at_bar : (E : End) (i : ℕ) → Kind cs 4 i → Refused Node E i
  no_node_at_bar E i h =
      node_refused E i
      (rest_refused (plain_left E i (λ k. two_kinds 1 4 i (λ z. omega (arith, z)) k h) (λ k. two_kinds 2 4 i (λ z. omega (arith, z)) k h))
      (record { none = λ j m v r e. plain_no_kind cs c 4 i h (plain_begin i j v r) }))
      (no_json E i (λ k. two_kinds 1 4 i (λ z. omega (arith, z)) k h) (λ k. two_kinds 3 4 i (λ z. omega (arith, z)) k h))
