-- From what a reader of flow nodes has read to the productions of nodes, at each room that holds it.
use Rattle.std.proofs.Common.{◌≡◌, ℕ, zero, suc, List, [], ◌∷◌, refl, sym, ap, subst, inl, inr}
use Rattle.yaml_definitions.specs.model.Event.{Event}
use Rattle.yaml_definitions.specs.grammar.Separation.{Ctx, s-separate as separate}
use Rattle.yaml_definitions.specs.grammar.Tags.{Handles, c-ns-properties as properties}
use Rattle.yaml_definitions.specs.grammar.Tags as tags
use Rattle.yaml_definitions.specs.grammar.Events.{Props, no_props, alias_node, e-scalar as empty}
use Rattle.yaml_definitions.specs.grammar.Nodes as nodes
use Rattle.yaml_definitions.specs.grammar.Nodes.{Part, yaml_part, json_part, part, reads}
use Rattle.yaml_layout.specs.NodeRules.{part_of, opens, below, flow_from, content_at, content_from, Bare, aliased, plainly, with_properties, lone}
use Rattle.yaml_sink.specs.PropertyRules.{dressed}
use Rattle.yaml_layout.proofs.PropertyLemmas.{marks_props}
use Rattle.yaml_layout.specs.declared.flow.Kind.{Kind}
use Rattle.yaml_layout.specs.declared.flow.Kind.TheVariants.{Yaml, Json}

module _ (cs : List ℕ) (Wide : Type 0) (handles : Handles) where
  -- ---- rooms

  pub to_reads : (room : ℕ) (p : Part) (i j : ℕ) (es : List Event) → part cs Wide handles (opens cs Wide handles room) (below cs Wide handles room) p i j es → reads cs Wide handles room p i j es
  unfolding reads
  to_reads zero p i j es r = r
  to_reads (suc room) p i j es r = r

  pub from_reads : (room : ℕ) (p : Part) (i j : ℕ) (es : List Event) → reads cs Wide handles room p i j es → part cs Wide handles (opens cs Wide handles room) (below cs Wide handles room) p i j es
  unfolding reads
  from_reads zero p i j es r = r
  from_reads (suc room) p i j es r = r

  -- with properties on its first event
  pub dressed_at : (p : Props) (kind : Kind) (room n : ℕ) (c : Ctx) (i j : ℕ) (es : List Event) → content_at cs Wide handles no_props kind room n c i j es → content_at cs Wide handles p kind room n c i j (dressed p es)
  unfolding nodes.c-flow-sequence nodes.c-flow-mapping
  dressed_at p Yaml room n c i j es (t, r, e) = (t, r, ap (dressed p) e)
  dressed_at p Json room n c i j es (inl (t, r, e)) = inl (t, r, ap (dressed p) e)
  dressed_at p Json room n c i j es (inr (inl (t, r, e))) = inr (inl (t, r, ap (dressed p) e))
  dressed_at p Json room n c i j es (inr (inr (inl (o, (xs, r, e))))) = inr (inr (inl (o, (xs, r, ap (dressed p) e))))
  dressed_at p Json room n c i j es (inr (inr (inr (o, (xs, r, e))))) = inr (inr (inr (o, (xs, r, ap (dressed p) e))))

  -- ---- nodes

  pub unmarked_node : (kind : Kind) (room n : ℕ) (c : Ctx) (i j : ℕ) (es : List Event) → content_at cs Wide handles no_props kind room n c i j es → reads cs Wide handles room (part_of kind n c) i j es
  unfolding nodes.ns-flow-yaml-node nodes.c-flow-json-node
  unmarked_node Yaml room n c i j es r = to_reads room (yaml_part n c) i j es (inr (inl r))
  unmarked_node Json room n c i j es r = to_reads room (json_part n c) i j es (i, no_props, inl (refl, refl), r)

  pub marked_node : (kind : Kind) (room n : ℕ) (c : Ctx) (p : Props) (i e k j : ℕ) (es : List Event) → properties cs handles n c i e p → separate cs n c e k →
      content_at cs Wide handles p kind room n c k j es → reads cs Wide handles room (part_of kind n c) i j es
  unfolding nodes.ns-flow-yaml-node nodes.c-flow-json-node
  marked_node Yaml room n c p i e k j es m s r = to_reads room (yaml_part n c) i j es (inr (inr (e, p, m, inl (k, s, r))))
  marked_node Json room n c p i e k j es m s r = to_reads room (json_part n c) i j es (k, p, inr (e, m, s), r)

  pub lone_node : (room n : ℕ) (c : Ctx) (p : Props) (i j : ℕ) (es : List Event) → properties cs handles n c i j p → es ≡ empty p → reads cs Wide handles room (yaml_part n c) i j es
  unfolding nodes.ns-flow-yaml-node
  lone_node room n c p i j es m e = to_reads room (yaml_part n c) i j es (inr (inr (j, p, m, inr (refl, e))))

  pub alias_reading : (room n : ℕ) (c : Ctx) (i j : ℕ) (x : List ℕ) (es : List Event) → tags.c-ns-alias-node cs i j x → es ≡ alias_node x ∷ [] → reads cs Wide handles room (yaml_part n c) i j es
  unfolding nodes.ns-flow-yaml-node
  alias_reading room n c i j x es a e = to_reads room (yaml_part n c) i j es (inl (x, a, e))

  -- a node without properties
  pub content_flow : (deep : ℕ) (kind : Kind) (n : ℕ) (c : Ctx) (i j : ℕ) (es : List Event) → content_from cs Wide handles deep kind n c i j es → flow_from cs Wide handles deep kind n c i j es
  content_flow deep kind n c i j es r = λ room le. unmarked_node kind room n c i j es (r room le)

  -- a node with its own properties put on its first event
  pub bare_flow : (deep : ℕ) (kind : Kind) (n : ℕ) (c : Ctx) (p : Props) (e i j : ℕ) (es : List Event) → Bare cs Wide handles deep kind n c p e i j es → flow_from cs Wide handles deep kind n c i j (dressed p es)
  bare_flow deep kind n c p e i j es (aliased x a f q g) =
      subst (λ k. flow_from cs Wide handles deep k n c i j (dressed p es)) (sym g) (λ room le. alias_reading room n c i j x (dressed p es) a (ap (dressed p) f))
  bare_flow deep kind n c p e i j es (plainly q r) =
      subst (λ x. flow_from cs Wide handles deep kind n c i j (dressed x es)) (sym q) (λ room le. unmarked_node kind room n c i j (dressed no_props es) (dressed_at no_props kind room n c i j es (r room le)))
  bare_flow deep kind n c p e i j es (with_properties k m s r) = λ room le.
      marked_node kind room n c p i e k j (dressed p es) (marks_props cs handles n c i e p m) s (dressed_at p kind room n c k j es (r room le))
  bare_flow deep kind n c p e i j es (lone m f g h) =
      subst (λ k. flow_from cs Wide handles deep k n c i j (dressed p es)) (sym h)
      (λ room le. lone_node room n c p i j (dressed p es) (subst (λ x. properties cs handles n c i x p) (sym f) (marks_props cs handles n c i e p m)) (ap (dressed p) g))
