-- A flow sequence and a flow mapping from their brackets on: what is left is their parts, and the bracket that closes them.
use Rattle.std.proofs.Common.{◌≡◌, ◌≢◌, ℕ, ◌+◌, ◌⊎◌, inl, inr, List, Some, subst, arith}
use Rattle.std.specs.Prelude.{slice_get}
use Rattle.yaml_definitions.specs.grammar.Rules.{Span, Rule, ◌◆◌, ◌◂◌, ◌⨾◌, ◌∪◌, chr, maybe, any, optional}
use Rattle.yaml_definitions.specs.grammar.Separation.{Ctx, flow_in, inner, s-separate as separate}
use Rattle.yaml_definitions.specs.grammar.Tags.{Handles}
use Rattle.yaml_definitions.specs.model.Event.{Event}
use Rattle.yaml_definitions.specs.grammar.Events.{Props}
use Rattle.yaml_definitions.specs.grammar.Nodes.{Part, yaml_part, json_part, pair_part, c-flow-sequence as flow_seq, c-flow-mapping as flow_map, inside_flow, ns-flow-map-entry as entry}
use Rattle.law_one_reading.specs.Readings.{End}
use Rattle.law_one_reading.specs.Follows.{Solid, Fresh, Closes}
use Rattle.law_one_reading.proofs.FlowEntries.{PartHere, Facts, item_part, entry_start}
use Rattle.law_going_on.specs.GoingOn.{Refused, Rest}
use Rattle.law_going_on.proofs.FlowLoops.{parts_start, closes_fresh}
use Rattle.law_one_reading.proofs.FlowNodes.{Jsons}

module _ (cs : List ℕ) (Wide : Type 0) (handles : Handles) (Open : Type 0) (inside : Part → Rule (List Event)) (facts : Facts cs inside) (n : ℕ) (c : Ctx) (within : inner c ≡ flow_in) where
  abbrev Gap : Span
  Gap = maybe (separate cs n c)

  abbrev Parts : Rule (List Event) → Rule (List Event)
  Parts I = any ((I ◂ Gap) ◂ (chr cs 44 ◆ Gap)) ⨾ optional (I ◂ Gap)

  abbrev Closed : ℕ → ℕ → Type 0
  Closed b q = slice_get cs q ≡ Some b

  -- up to the bracket and over it
  abbrev pub Bracketed : Rule (List Event) → ℕ → Rule (List Event)
  Bracketed I b = Parts I ◂ chr cs b

  -- ---- any such collection

  module _ (I : Rule (List Event)) (start : (i j : ℕ) (v : List Event) → I i j v → PartHere cs i) (close : ℕ) (shut : (q : ℕ) → slice_get cs q ≡ Some close → Closes cs q) (no_comma : close ≢ 44) where
    bracketed_start : (i j : ℕ) (v : List Event) → Bracketed I close i j v → Fresh cs i
    bracketed_start i j v (k, r, (h, e)) = go (parts_start cs n c I start close shut no_comma i k v r h)
      where
        go : PartHere cs i ⊎ Closed close i → Fresh cs i
        go (inl p) = p.0
        go (inr h) = closes_fresh cs i (shut i h)

  -- ---- sequences (7.4.1)

  abbrev pub Items : Rule (List Event)
  Items = inside (pair_part n (inner c)) ∪ inside_flow cs Wide handles Open inside n (inner c)

  pub item_start : (i j : ℕ) (v : List Event) → Items i j v → PartHere cs i
  item_start i j v (inl r) = facts.pair_start n i j v (subst (λ z. inside (pair_part n z) i j v) within r)
  item_start i j v (inr (inl r)) = item_part cs i (facts.yaml_start n i j v (subst (λ z. inside (yaml_part n z) i j v) within r))
  item_start i j v (inr (inr r)) = item_part cs i (facts.json_start n i j v (subst (λ z. inside (json_part n z) i j v) within r))

  bracket_shut : (q : ℕ) → slice_get cs q ≡ Some 93 → Closes cs q
  bracket_shut q h = inr (inl h)

  abbrev Sequence : Props → Rule (List Event)
  Sequence p = flow_seq cs Wide handles Open inside p n c

  -- separation after the bracket leads to x
  pub sequence_opens : (p : Props) (E : End) (i x : ℕ) → ((q : ℕ) → Gap (i + 1) q → Solid cs q → q ≡ x) → Rest (Sequence p) E i (Bracketed Items 93) E x
  unfolding flow_seq
  sequence_opens p E i x to = record { rest = go }
    where
      go : (j m : ℕ) (v : List Event) → Sequence p i j v → E j m → (k : ℕ) × (w : List Event) × Bracketed Items 93 x k w × E k m
      go j m v (o, (t, (k, (a, (h, e), s), r), f)) d =
          let g : k ≡ x = to k (subst (λ z. Gap z k) e s) (bracketed_start Items item_start 93 bracket_shut (λ z. omega (arith, z)) k j t r).0 in (j, t, subst (λ z. Bracketed Items 93 z j t) g r, d)

  -- or nowhere
  pub sequence_no_gap : (p : Props) (E : End) (i : ℕ) → ((q : ℕ) → Gap (i + 1) q → Fresh cs q → ⊥) → Refused (Sequence p) E i
  unfolding flow_seq
  sequence_no_gap p E i none = record {
    none = λ j m v (o, (t, (k, (a, (h, e), s), r), f)) d.
        none k (subst (λ z. Gap z k) e s) (bracketed_start Items item_start 93 bracket_shut (λ z. omega (arith, z)) k j t r);
  }

  pub sequence_no_room : (p : Props) (E : End) (i : ℕ) → (Open → ⊥) → Refused (Sequence p) E i
  unfolding flow_seq
  sequence_no_room p E i shut = record { none = λ j m v (o, r) d. shut o }

  -- ---- mappings (7.4.2)

  abbrev pub Entries : Rule (List Event)
  Entries = entry cs Wide handles Open inside n (inner c)

  pub entries_start : (i j : ℕ) (v : List Event) → Entries i j v → PartHere cs i
  entries_start i j v r = entry_start cs Wide handles Open inside facts n i j v (subst (λ z. entry cs Wide handles Open inside n z i j v) within r)

  brace_shut : (q : ℕ) → slice_get cs q ≡ Some 125 → Closes cs q
  brace_shut q h = inr (inr h)

  abbrev Mapping : Props → Rule (List Event)
  Mapping p = flow_map cs Wide handles Open inside p n c

  pub mapping_opens : (p : Props) (E : End) (i x : ℕ) → ((q : ℕ) → Gap (i + 1) q → Solid cs q → q ≡ x) → Rest (Mapping p) E i (Bracketed Entries 125) E x
  unfolding flow_map
  mapping_opens p E i x to = record { rest = go }
    where
      go : (j m : ℕ) (v : List Event) → Mapping p i j v → E j m → (k : ℕ) × (w : List Event) × Bracketed Entries 125 x k w × E k m
      go j m v (o, (t, (k, (a, (h, e), s), r), f)) d =
          let g : k ≡ x = to k (subst (λ z. Gap z k) e s) (bracketed_start Entries entries_start 125 brace_shut (λ z. omega (arith, z)) k j t r).0 in (j, t, subst (λ z. Bracketed Entries 125 z j t) g r, d)

  pub mapping_no_gap : (p : Props) (E : End) (i : ℕ) → ((q : ℕ) → Gap (i + 1) q → Fresh cs q → ⊥) → Refused (Mapping p) E i
  unfolding flow_map
  mapping_no_gap p E i none = record {
    none = λ j m v (o, (t, (k, (a, (h, e), s), r), f)) d.
        none k (subst (λ z. Gap z k) e s) (bracketed_start Entries entries_start 125 brace_shut (λ z. omega (arith, z)) k j t r);
  }

  -- ---- from a node's first character on, after its properties or without any

  abbrev Content : Props → Rule (List Event)
  Content p = Jsons cs Wide handles Open inside n c p
