-- A list of events is that of one marked tree alone, and ends at one place.
use Rattle.std.proofs.Common.{◌≡◌, ℕ, Bool, List, [], ◌∷◌, refl, sym, ap}
use Rattle.yaml_definitions.specs.model.Event.{Event, Anchor, WrittenTag, Style, alias_event, scalar_event, document_start, document_end, stream_end, sequence_start, sequence_end, mapping_start, mapping_end}
use Rattle.yaml_definitions.specs.model.Serial.{SerialNode, SerialNodes, SerialPairs, alias_at, scalar_at, sequence_at, mapping_at, end_serial, item_serial, done_serial, entry_serial, flat, flat_all, flat_pairs, Document, documents_events, stream_events}

head_event : {a b : Event} {r s : List Event} → ◌≡◌ {A = List Event} (a ∷ r) (b ∷ s) → a ≡ b
head_event e = cc

rest_events : {a b : Event} {r s : List Event} → ◌≡◌ {A = List Event} (a ∷ r) (b ∷ s) → r ≡ s
rest_events e = cc

-- a node begins with no end
not_sequence_end : (t : SerialNode) (r s : List Event) → flat t r ≡ sequence_end ∷ s → ⊥
unfolding flat
not_sequence_end (alias_at n) r s e = cc (head_event e)
not_sequence_end (scalar_at a g y x) r s e = cc (head_event e)
not_sequence_end (sequence_at a g b x) r s e = cc (head_event e)
not_sequence_end (mapping_at a g b x) r s e = cc (head_event e)

not_mapping_end : (t : SerialNode) (r s : List Event) → flat t r ≡ mapping_end ∷ s → ⊥
unfolding flat
not_mapping_end (alias_at n) r s e = cc (head_event e)
not_mapping_end (scalar_at a g y x) r s e = cc (head_event e)
not_mapping_end (sequence_at a g b x) r s e = cc (head_event e)
not_mapping_end (mapping_at a g b x) r s e = cc (head_event e)

alias_parts : (n m : List ℕ) → alias_event n ≡ alias_event m → n ≡ m
alias_parts n m e = cc

scalar_parts : (a b : Anchor) (g h : WrittenTag) (v w : Style) (x y : List ℕ) → scalar_event a g v x ≡ scalar_event b h w y → scalar_at a g v x ≡ scalar_at b h w y
scalar_parts a b g h v w x y e = cc

sequence_parts : (a b : Anchor) (g h : WrittenTag) (v w : Bool) → sequence_start v a g ≡ sequence_start w b h → (a ≡ b) × (g ≡ h) × (v ≡ w)
sequence_parts a b g h v w e = (cc, cc, cc)

mapping_parts : (a b : Anchor) (g h : WrittenTag) (v w : Bool) → mapping_start v a g ≡ mapping_start w b h → (a ≡ b) × (g ≡ h) × (v ≡ w)
mapping_parts a b g h v w e = (cc, cc, cc)

-- events of two kinds of node
differ : {a b : Event} {r s : List Event} → ◌≡◌ {A = List Event} (a ∷ r) (b ∷ s) → (a ≡ b → ⊥) → ⊥
differ e f = f (head_event e)

mutual
  unfolding flat

  pub flat_once : (t u : SerialNode) (r s : List Event) → flat t r ≡ flat u s → (t ≡ u) × (r ≡ s)
  flat_once (alias_at n) (alias_at m) r s e = (ap alias_at (alias_parts n m (head_event e)), rest_events e)
  flat_once (scalar_at a g v x) (scalar_at b h w y) r s e = (scalar_parts a b g h v w x y (head_event e), rest_events e)
  flat_once (sequence_at a g v x) (sequence_at b h w y) r s e =
      let p = sequence_parts a b g h v w (head_event e) in
      let q = all_once x y r s (rest_events e) in
      (λ z. sequence_at (p.0 z) (p.1 z) (p.2 z) (q.0 z), q.1)
  flat_once (mapping_at a g v x) (mapping_at b h w y) r s e =
      let p = mapping_parts a b g h v w (head_event e) in
      let q = pairs_once x y r s (rest_events e) in
      (λ z. mapping_at (p.0 z) (p.1 z) (p.2 z) (q.0 z), q.1)
  flat_once _ _ r s e = absurd (differ e (λ q. cc))

  all_once : (ts us : SerialNodes) (r s : List Event) → flat_all ts (sequence_end ∷ r) ≡ flat_all us (sequence_end ∷ s) → (ts ≡ us) × (r ≡ s)
  all_once end_serial end_serial r s e = (refl, rest_events e)
  all_once end_serial (item_serial u us) r s e = absurd (not_sequence_end u (flat_all us (sequence_end ∷ s)) r (sym e))
  all_once (item_serial t ts) end_serial r s e = absurd (not_sequence_end t (flat_all ts (sequence_end ∷ r)) s e)
  all_once (item_serial t ts) (item_serial u us) r s e =
      let p = flat_once t u (flat_all ts (sequence_end ∷ r)) (flat_all us (sequence_end ∷ s)) e in
      let q = all_once ts us r s p.1 in
      (λ z. item_serial (p.0 z) (q.0 z), q.1)

  pairs_once : (ps qs : SerialPairs) (r s : List Event) → flat_pairs ps (mapping_end ∷ r) ≡ flat_pairs qs (mapping_end ∷ s) → (ps ≡ qs) × (r ≡ s)
  pairs_once done_serial done_serial r s e = (refl, rest_events e)
  pairs_once done_serial (entry_serial j w qs) r s e = absurd (not_mapping_end j (flat w (flat_pairs qs (mapping_end ∷ s))) r (sym e))
  pairs_once (entry_serial k v ps) done_serial r s e = absurd (not_mapping_end k (flat v (flat_pairs ps (mapping_end ∷ r))) s e)
  pairs_once (entry_serial k v ps) (entry_serial j w qs) r s e =
      let p = flat_once k j (flat v (flat_pairs ps (mapping_end ∷ r))) (flat w (flat_pairs qs (mapping_end ∷ s))) e in
      let q = flat_once v w (flat_pairs ps (mapping_end ∷ r)) (flat_pairs qs (mapping_end ∷ s)) p.1 in
      let o = pairs_once ps qs r s q.1 in
      (λ z. entry_serial (p.0 z) (q.0 z) (o.0 z), o.1)

-- ---- whole streams

start_parts : (b c : Bool) → document_start b ≡ document_start c → b ≡ c
start_parts b c e = cc

end_parts : (b c : Bool) → document_end b ≡ document_end c → b ≡ c
end_parts b c e = cc

documents_once : (ds es : List Document) → documents_events ds (stream_end ∷ []) ≡ documents_events es (stream_end ∷ []) → ds ≡ es
documents_once [] [] e = refl
documents_once [] (d ∷ es) e = absurd (differ e (λ q. cc))
documents_once (d ∷ ds) [] e = absurd (differ e (λ q. cc))
documents_once (d ∷ ds) (c ∷ es) e =
    let p = start_parts d.starts c.starts (head_event e) in
    let q = flat_once d.root c.root (document_end d.ends ∷ documents_events ds (stream_end ∷ [])) (document_end c.ends ∷ documents_events es (stream_end ∷ [])) (rest_events e) in
    let o = end_parts d.ends c.ends (head_event q.1) in
    let i = documents_once ds es (rest_events q.1) in
    let w : d ≡ c = λ z. record { starts = p z; root = q.0 z; ends = o z } in
    λ z. w z ∷ i z

-- events are those of one list of documents
pub stream_once : (ds es : List Document) → stream_events ds ≡ stream_events es → ds ≡ es
unfolding stream_events
stream_once ds es e = documents_once ds es (rest_events e)
