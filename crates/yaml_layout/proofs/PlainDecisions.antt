-- A flow node without properties decides what its content does, and its content, where it begins with neither a bracket nor a quote, what is said of plain scalars.
use Rattle.std.proofs.Common.{◌≡◌, ℕ, inl, inr, List, [], ◌∷◌, Result, Ok, Err, Option, Some, None, sym, subst, ◌≢◌}
use Rattle.std.specs.Prelude.{slice_get}
use Rattle.yaml_definitions.specs.model.Event.{Event}
use Rattle.yaml_definitions.specs.model.Event as style
use Rattle.yaml_text.specs.declared.fault.Fault.{Fault}
use Rattle.yaml_definitions.specs.grammar.Events.{Props, scalar, no_props}
use Rattle.yaml_definitions.specs.grammar.Nodes.{Part, yaml_part, json_part, ns-flow-yaml-node as yaml_node, c-flow-json-node as json_node, reads}
use Rattle.yaml_definitions.specs.grammar.Tags.{Handles, c-ns-properties as properties}
use Rattle.yaml_definitions.specs.grammar.FlowScalars.{ns-plain as plain}
use Rattle.yaml_definitions.specs.grammar.Rules.{Rule, ◌∪◌, with_value}
use Rattle.yaml_definitions.specs.grammar.Separation.{Ctx}
use Rattle.law_one_reading.proofs.FlowNodes.{Kind, Sign, jsons_start, Jsons, JsonRest, json_parts}
use Rattle.law_going_on.proofs.GoingOn.{rest_goes, rest_refused, rest_seen, rest_rest}
use Rattle.law_going_on.proofs.FlowStarts.{plain_left, propped_begin}
use Rattle.law_going_on.specs.GoingOn.{Rest}
use Rattle.yaml_layout.specs.PropertyDecisions.{EndOf, IsProperty, IsRefused, IsOnly}
use Rattle.yaml_layout.specs.NodeDecisions.{DecidesPlain, ContentRefused, ContentOnly, DecidesContent}
use Rattle.yaml_layout.specs.NodeRules.{opens, below, content_at, NoOpening}
use Rattle.yaml_layout.specs.declared.flow.Kind as kinds
use Rattle.yaml_layout.specs.declared.flow.FlowNode.{FlowNode}
use Rattle.yaml_layout.specs.declared.flow.Kind.TheVariants.{Yaml, Json}
use Rattle.law_one_reading.specs.Readings.{End}
use Rattle.yaml_layout.proofs.NodeLemmas.{from_reads}

abbrev Wide : Type 0
Wide = Unit {0}

module _ (cs : List ℕ) (handles : Handles) (room n : ℕ) (c : Ctx) where
  abbrev Open : Type 0
  Open = opens cs Wide handles room

  abbrev Inner : Part → Rule (List Event)
  Inner = below cs Wide handles room

  abbrev YamlNode : Rule (List Event)
  YamlNode = reads cs Wide handles room (yaml_part n c)

  abbrev JsonNode : Rule (List Event)
  JsonNode = reads cs Wide handles room (json_part n c)

  abbrev Content : kinds.Kind → Props → Rule (List Event)
  Content kind p = content_at cs Wide handles p kind room n c

  pub yaml_level : (E : End) (i : ℕ) → Rest YamlNode E i (yaml_node cs Wide handles Open Inner n c) E i
  yaml_level E i = record { rest = λ j m v r e. (j, v, from_reads cs Wide handles room (yaml_part n c) i j v r, e) }

  pub json_level : (E : End) (i : ℕ) → Rest JsonNode E i (json_node cs Wide handles Open Inner n c) E i
  json_level E i = record { rest = λ j m v r e. (j, v, from_reads cs Wide handles room (json_part n c) i j v r, e) }

  -- ---- without properties

  no_prop : (i : ℕ) → (IsProperty cs i → ⊥) → Kind cs 1 i → ⊥
  no_prop i f (x, h, Sign.bang _ e) = f (inl (subst (λ y. slice_get cs i ≡ Some y) e h))
  no_prop i f (x, h, Sign.and _ e) = f (inr (subst (λ y. slice_get cs i ≡ Some y) e h))

  no_star : (i : ℕ) → slice_get cs i ≢ Some 42 → Kind cs 2 i → ⊥
  no_star i f (x, h, Sign.star _ e) = f (subst (λ y. slice_get cs i ≡ Some y) e h)

  pub bare_yaml : (E : End) (i : ℕ) → (IsProperty cs i → ⊥) → slice_get cs i ≢ Some 42 → Rest YamlNode E i (Content Yaml no_props) E i
  bare_yaml E i f g = rest_rest (yaml_level E i) (plain_left cs Wide handles Open Inner n c E i (no_prop i f) (no_star i g))

  pub bare_json : (E : End) (i : ℕ) → (IsProperty cs i → ⊥) → Rest JsonNode E i (Content Json no_props) E i
  bare_json E i f = rest_rest (json_level E i) (record { rest = λ j m v r e. go j m v e (json_parts cs Wide handles Open Inner n c i j v r) })
    where
      go : (j m : ℕ) (v : List Event) → E j m → (Jsons cs Wide handles Open Inner n c no_props ∪ with_value (properties cs handles n c) (JsonRest cs Wide handles Open Inner n c)) i j v
          → (k : ℕ) × (w : List Event) × Content Json no_props i k w × E k m
      go j m v e (inl r) = (j, v, r, e)
      go j m v e (inr r) = absurd (no_prop i f (propped_begin cs Wide handles Open Inner n c (JsonRest cs Wide handles Open Inner n c) i j v r))

  pub bare_only : (i x : ℕ) (kind : kinds.Kind) → (IsProperty cs i → ⊥) → slice_get cs i ≢ Some 42 → ContentOnly cs handles room n c i kind x → IsOnly cs handles room n c i kind x
  bare_only i x Yaml f g (t, r) = ((λ d. rest_goes (bare_yaml (EndOf cs Yaml n c d) i f g) (t no_props d)), λ d. rest_refused (bare_json (EndOf cs Json n c d) i f) (r no_props d))
  bare_only i x Json f g (t, r) = ((λ d. rest_goes (bare_json (EndOf cs Json n c d) i f) (t no_props d)), λ d. rest_refused (bare_yaml (EndOf cs Yaml n c d) i f g) (r no_props d))

  pub bare_refused : (i : ℕ) → (IsProperty cs i → ⊥) → slice_get cs i ≢ Some 42 → ContentRefused cs handles room n c i Yaml × ContentRefused cs handles room n c i Json
      → IsRefused cs handles room n c i Yaml × IsRefused cs handles room n c i Json
  bare_refused i f g (t, r) = ((λ d. rest_refused (bare_yaml (EndOf cs Yaml n c d) i f g) (t no_props d)), λ d. rest_refused (bare_json (EndOf cs Json n c d) i f) (r no_props d))

module _ (cs : List ℕ) (handles : Handles) (room n : ℕ) (c : Ctx) (i : ℕ) where
  no_json_content : NoOpening cs i → ContentRefused cs handles room n c i Json
  no_json_content (a, b, q, r) p d = record { none = λ j m v s e. go (jsons_start cs Wide handles (opens cs Wide handles room) (below cs Wide handles room) n c p i j v s) }
    where
      go : Kind cs 3 i → ⊥
      go (x, h, Sign.quotes _ e) = r (subst (λ y. slice_get cs i ≡ Some y) e h)
      go (x, h, Sign.quote _ e) = q (subst (λ y. slice_get cs i ≡ Some y) e h)
      go (x, h, Sign.bracket _ e) = a (subst (λ y. slice_get cs i ≡ Some y) e h)
      go (x, h, Sign.brace _ e) = b (subst (λ y. slice_get cs i ≡ Some y) e h)

  -- neither a quote nor a bracket: what is said of plain scalars
  pub plain_content : (end : FlowNode → ℕ) (r : Result (Option FlowNode) Fault) → NoOpening cs i → DecidesPlain cs n c i end r → DecidesContent cs handles room n c i end r
  plain_content end (Ok (Some node)) none (k, g) =
      subst (λ x. ContentOnly cs handles room n c i x (end node)) (sym k)
      ((λ p d. rest_goes (rest_seen (λ t. scalar p style.plain t ∷ []) (plain cs n c) (EndOf cs Yaml n c d) i) (g d)), no_json_content none)
  plain_content end (Ok None) none u = ((λ p d. record { none = λ j m v (t, r, e) f. u j t r }), no_json_content none)
  plain_content end (Err e) none h = inl h

module _ (cs : List ℕ) (handles : Handles) (room n : ℕ) (c : Ctx) (i : ℕ) (end : FlowNode → ℕ) (found : Option FlowNode) where
  pub content_some : (node : FlowNode) → found ≡ Some node → DecidesContent cs handles room n c i end (Ok found) → ContentOnly cs handles room n c i node.kind (end node)
  content_some node e d = let q : DecidesContent cs handles room n c i end (Ok (Some node)) = subst (λ y. DecidesContent cs handles room n c i end (Ok y)) e d in q

  pub content_none : found ≡ None → DecidesContent cs handles room n c i end (Ok found) → ContentRefused cs handles room n c i Yaml × ContentRefused cs handles room n c i Json
  content_none e d = let q : DecidesContent cs handles room n c i end (Ok None) = subst (λ y. DecidesContent cs handles room n c i end (Ok y)) e d in q
