-- Nodes and documents among events.
use Rattle.std.proofs.Common.{◌≡◌, ◌<◌, ◌+◌, ℕ, Bool, true, false, not, List, [], ◌∷◌, ◌++◌, length, map, drop-cons, get_or, refl, sym, ◌∙◌, ap, arith, add-one}
use Rattle.std.proofs.lemmas.List.{drop_all}
use Rattle.yaml_definitions.specs.model.Event.{Event, Anchor, WrittenTag, Style, stream_start, stream_end, document_start, document_end, sequence_start, sequence_end, mapping_start, mapping_end, scalar_event, alias_event}
use Rattle.yaml_definitions.specs.model.Serial.{SerialNode, SerialNodes, SerialPairs, alias_at, scalar_at, sequence_at, mapping_at, end_serial, item_serial, done_serial, entry_serial, flat, flat_all, flat_pairs, Document, documents_events, stream_events}
use Rattle.yaml_text.specs.EventModel.{event_of}
use Rattle.yaml_text.specs.declared.event.Event as code
use Rattle.yaml_graph.specs.Composed.{Composable}
use Rattle.rows_graph.specs.Nested.{from, flat_list, is_even, IsNode, AreNodes, IsDocument, AreDocuments}

to_all : List SerialNode → SerialNodes
to_all [] = end_serial
to_all (t ∷ ts) = item_serial t (to_all ts)

to_pairs : List SerialNode → SerialPairs
to_pairs [] = done_serial
to_pairs (k ∷ []) = done_serial
to_pairs (k ∷ (v ∷ ts)) = entry_serial k v (to_pairs ts)

all-listed : (ts : List SerialNode) (more : List Event) → flat_all (to_all ts) more ≡ flat_list ts more
unfolding flat to_all
all-listed [] more = refl
all-listed (t ∷ ts) more = ap (flat t) (all-listed ts more)

not-not : (b : Bool) → not (not b) ≡ b
not-not true = refl
not-not false = refl

pairs-listed : (ts : List SerialNode) (more : List Event) → is_even ts ≡ true → flat_pairs (to_pairs ts) more ≡ flat_list ts more
unfolding flat to_pairs
pairs-listed [] more h = refl
pairs-listed (k ∷ []) more h = absurd (cc)
pairs-listed (k ∷ (v ∷ ts)) more h = ap (λ x. flat k (flat v x)) (pairs-listed ts more (sym (not-not (is_even ts)) ∙ h))

list-push : (ts : List SerialNode) (t : SerialNode) (more : List Event) → flat_list (ts ++ (t ∷ [])) more ≡ flat_list ts (flat t more)
list-push [] t more = refl
list-push (u ∷ ts) t more = ap (flat u) (list-push ts t more)

even-push : (ts : List SerialNode) (t : SerialNode) → is_even (ts ++ (t ∷ [])) ≡ not (is_even ts)
even-push [] t = refl
even-push (u ∷ ts) t = ap not (even-push ts t)

documents-push : (ds : List Document) (d : Document) (more : List Event) → documents_events (ds ++ (d ∷ [])) more ≡ documents_events ds (documents_events (d ∷ []) more)
documents-push [] d more = refl
documents-push (e ∷ ds) d more = ap (λ x. document_start e.starts ∷ flat e.root (document_end e.ends ∷ x)) (documents-push ds d more)

module _ (es : List code.Event) where
  -- the event at this place comes first
  here : (at : ℕ) (e : code.Event) → e ≡ get_or es at e → at < length es → from es at ≡ event_of e ∷ from es (at + 1)
  here at e i l = ap (map event_of) (drop-cons es at e l) ∙ (λ z. event_of (sym i z) ∷ from es (sym (add-one at) z))

  is-here : (at : ℕ) (e : code.Event) (x : Event) → e ≡ get_or es at e → at < length es → event_of e ≡ x → from es at ≡ x ∷ from es (at + 1)
  is-here at e x i l q = here at e i l ∙ ap (λ y. y ∷ from es (at + 1)) q

  module _ (at : ℕ) (e : code.Event) (i : e ≡ get_or es at e) (l : at < length es) where
    pub scalar-node : (a : Anchor) (g : WrittenTag) (y : Style) (x : List ℕ) → event_of e ≡ scalar_event a g y x → IsNode es at (at + 1)
    unfolding flat
    scalar-node a g y x q = record { node = scalar_at a g y x; after = omega arith; within = omega arith; is = is-here at e (scalar_event a g y x) i l q }

    pub alias-node : (name : List ℕ) → event_of e ≡ alias_event name → IsNode es at (at + 1)
    unfolding flat
    alias-node name q = record { node = alias_at name; after = omega arith; within = omega arith; is = is-here at e (alias_event name) i l q }

    module _ (end : ℕ) (even : Bool) (ns : AreNodes es (at + 1) end even) (f : code.Event) (j : f ≡ get_or es end f) (m : end < length es) where
      pub sequence-node : (b : Bool) (a : Anchor) (g : WrittenTag) → event_of e ≡ sequence_start b a g → event_of f ≡ sequence_end → IsNode es at (end + 1)
      unfolding flat
      sequence-node b a g q r = record {
        node = sequence_at a g b (to_all ns.nodes);
        after = omega (arith, ns.after);
        within = omega arith;
        is = is-here at e (sequence_start b a g) i l q
            ∙ ap (λ x. sequence_start b a g ∷ x) (ns.are ∙ (ap (flat_list ns.nodes) (is-here end f sequence_end j m r) ∙ sym (all-listed ns.nodes (sequence_end ∷ from es (end + 1)))));
      }

      pub mapping-node : (b : Bool) (a : Anchor) (g : WrittenTag) → event_of e ≡ mapping_start b a g → event_of f ≡ mapping_end → even ≡ true → IsNode es at (end + 1)
      unfolding flat
      mapping-node b a g q r t = record {
        node = mapping_at a g b (to_pairs ns.nodes);
        after = omega (arith, ns.after);
        within = omega arith;
        is = is-here at e (mapping_start b a g) i l q
            ∙ ap (λ x. mapping_start b a g ∷ x) (ns.are ∙ (ap (flat_list ns.nodes) (is-here end f mapping_end j m r) ∙ sym (pairs-listed ns.nodes (mapping_end ∷ from es (end + 1)) (ns.number ∙ t))));
      }

    pub document-is : (end : ℕ) (n : IsNode es (at + 1) end) (f : code.Event) → f ≡ get_or es end f → end < length es → (b c : Bool) → event_of e ≡ document_start b → event_of f ≡ document_end c → IsDocument es at (end + 1)
    document-is end n f j m b c q r = record {
      document = record { starts = b; root = n.node; ends = c };
      after = omega (arith, n.after);
      within = omega arith;
      is = is-here at e (document_start b) i l q ∙ ap (λ x. document_start b ∷ x) (n.is ∙ ap (flat n.node) (is-here end f (document_end c) j m r));
    }

  pub nodes-more : (at end next : ℕ) (even : Bool) → AreNodes es at end even → IsNode es end next → AreNodes es at next (not even)
  nodes-more at end next even ns n = record {
    nodes = ns.nodes ++ (n.node ∷ []);
    after = omega (arith, ns.after, n.after);
    within = n.within;
    number = even-push ns.nodes n.node ∙ ap not ns.number;
    are = ns.are ∙ (ap (flat_list ns.nodes) n.is ∙ sym (list-push ns.nodes n.node (from es next)));
  }

  pub documents-more : (at end next : ℕ) → AreDocuments es at end → IsDocument es end next → AreDocuments es at next
  documents-more at end next ds d = record {
    documents = ds.documents ++ (d.document ∷ []);
    after = omega (arith, ds.after, d.after);
    within = d.within;
    are = ds.are ∙ (ap (documents_events ds.documents) d.is ∙ sym (documents-push ds.documents d.document (from es next)));
  }

  pub stream-is : (e f : code.Event) (end : ℕ) → e ≡ get_or es 0 e → 0 < length es → AreDocuments es 1 end → f ≡ get_or es end f → end + 1 ≡ length es → event_of e ≡ stream_start → event_of f ≡ stream_end → Composable es
  unfolding stream_events
  stream-is e f end i l ds j m q r =
      let none : from es (end + 1) ≡ [] = ap (map event_of) (drop_all (end + 1) es (omega arith)) in
      record {
        documents = ds.documents;
        cut = is-here 0 e stream_start i l q ∙ ap (λ x. stream_start ∷ x) (ds.are ∙ ap (documents_events ds.documents) (is-here end f stream_end j (omega arith) r ∙ ap (λ x. stream_end ∷ x) none));
      }
