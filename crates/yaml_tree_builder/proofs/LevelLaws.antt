-- Each collection that begins in a stream ends there, so none is open behind it.
use Rattle.std.proofs.Common.{◌≡◌, ℕ, suc, ◌+◌, ◌≤◌, List, [], ◌∷◌, ◌++◌, length, refl, sym, ◌∙◌, ap, arith, Result, Ok, Err}
use Rattle.std.specs.Prelude.{Bool, true, false, Option, Some}
use Rattle.yaml_definitions.specs.model.Event.{Event, stream_start, stream_end, document_start, document_end, sequence_start, sequence_end, mapping_start, mapping_end, scalar_event, alias_event}
use Rattle.yaml_definitions.specs.model.Serial.{SerialNode, SerialNodes, SerialPairs, alias_at, scalar_at, sequence_at, mapping_at, end_serial, item_serial, done_serial, entry_serial, flat, flat_all, flat_pairs, Document, documents_events, stream_events}
use Rattle.yaml_definitions.specs.model.Core.{Cause, resolve, collection_tag}
use Rattle.yaml_definitions.specs.model.Unfold.{Outcome, and_then, placed, last_named, tree_named}
use Rattle.yaml_tree.specs.ComposerSteps.{State, Open, initial_state, node_begun, whole, collection_begun, collection_from, collection_ended, cleared, step, steps}
use Rattle.yaml_definitions.specs.model.Tree.{scalar}
use Rattle.yaml_tree_builder.specs.Reached.{Reaches, all_events}
use Rattle.yaml_tree_builder.proofs.ReachedLaws.{first, reaches-parts}

-- how many collections begin and end with an event
abbrev rise : Event → ℕ
rise (sequence_start b a g) = 1
rise (mapping_start b a g) = 1
rise _ = 0

abbrev fall : Event → ℕ
fall sequence_end = 1
fall mapping_end = 1
fall _ = 0

-- and in a list of them
abbrev rises : List Event → ℕ
rises [] = 0
rises (e ∷ es) = rise e + rises es

abbrev falls : List Event → ℕ
falls [] = 0
falls (e ∷ es) = fall e + falls es

-- ---- steps

abbrev reached : State → Option (Outcome State)
reached s = Some (Ok s)

same-open : (s t : State) → s ≡ t → length t.outer ≡ length s.outer
same-open s t q = sym (ap (λ z. length z.outer) q)

told : {X : Type 0} (r : Result X Cause) (at n : ℕ) (g : X → State) (t : State) → ((x : X) → length (g x).outer ≡ n) → Some (and_then (placed at r) (λ x. Ok (g x))) ≡ Some (Ok t) → length t.outer ≡ n
told (Ok x) at n g t k h =
    let q : g x ≡ t = cc in
    same-open (g x) t q ∙ k x
told (Err e) at n g t k h = absurd (cc)

ended : (m : Bool) (s t : State) (os : List Open) → collection_ended m s os ≡ Some (Ok t) → length t.outer + 1 ≡ length os
ended m s t [] h = absurd (cc)
ended m s t (o ∷ os) h =
    let done = whole o.anchor o.slot (collection_from m o.tag s.inner) (record { inner = o.before; outer = os; table = s.table; done = s.done }) in
    let q : done ≡ t = cc in
    omega (arith, same-open done t q)

begun : (s t : State) (os : List Open) → cleared s os ≡ Some (Ok t) → length t.outer ≡ length os
begun s t [] h =
    let none : State = record { inner = s.inner; outer = []; table = []; done = s.done } in
    let q : none ≡ t = cc in
    same-open none t q
begun s t (o ∷ os) h = absurd (cc)

same : (s t : State) → reached s ≡ reached t → length t.outer ≡ length s.outer
same s t h =
    let q : s ≡ t = cc in
    same-open s t q

level-step : (at : ℕ) (e : Event) (s t : State) → step at e s ≡ Some (Ok t) → length t.outer + fall e ≡ length s.outer + rise e
unfolding step
level-step at (scalar_event a g y x) s t h = omega (arith, told (resolve g y x) at (length s.outer) (λ r. whole a (length s.table) (scalar r.0 r.1) (node_begun a s)) t (λ r. refl) h)
level-step at (alias_event name) s t h = omega (arith, told (tree_named (last_named name s.table)) at (length s.outer) (λ u. record { inner = s.inner ++ (u ∷ []); outer = s.outer; table = s.table; done = s.done }) t (λ u. refl) h)
level-step at (sequence_start b a g) s t h = omega (arith, told (collection_tag 1 g) at (suc (length s.outer)) (collection_begun a s) t (λ k. refl) h)
level-step at (mapping_start b a g) s t h = omega (arith, told (collection_tag 2 g) at (suc (length s.outer)) (collection_begun a s) t (λ k. refl) h)
level-step at sequence_end s t h = omega (arith, ended false s t s.outer h)
level-step at mapping_end s t h = omega (arith, ended true s t s.outer h)
level-step at (document_start b) s t h = omega (arith, begun s t s.outer h)
level-step at (document_end b) s t h = omega (arith, same s t h)
level-step at stream_start s t h = omega (arith, same s t h)
level-step at stream_end s t h = omega (arith, same s t h)

level-steps : (es : List Event) (at : ℕ) (s t : State) → steps at es s ≡ Some (Ok t) → length t.outer + falls es ≡ length s.outer + rises es
unfolding steps
level-steps [] at s t h = omega (arith, same s t h)
level-steps (e ∷ es) at s t h =
    let f = first at e es s t h in
    omega (arith, level-step at e s f.middle f.is, level-steps es (suc at) f.middle t f.rest)

-- ---- streams

mutual
  unfolding flat

  level-node : (t : SerialNode) (r : List Event) → rises (flat t r) + falls r ≡ falls (flat t r) + rises r
  level-node (alias_at n) r = omega arith
  level-node (scalar_at a g y x) r = omega arith
  level-node (sequence_at a g b ts) r = omega (arith, level-items ts (sequence_end ∷ r))
  level-node (mapping_at a g b ps) r = omega (arith, level-entries ps (mapping_end ∷ r))

  level-items : (ts : SerialNodes) (r : List Event) → rises (flat_all ts r) + falls r ≡ falls (flat_all ts r) + rises r
  level-items end_serial r = omega arith
  level-items (item_serial t ts) r = omega (arith, level-node t (flat_all ts r), level-items ts r)

  level-entries : (ps : SerialPairs) (r : List Event) → rises (flat_pairs ps r) + falls r ≡ falls (flat_pairs ps r) + rises r
  level-entries done_serial r = omega arith
  level-entries (entry_serial k v ps) r = omega (arith, level-node k (flat v (flat_pairs ps r)), level-node v (flat_pairs ps r), level-entries ps r)

level-documents : (ds : List Document) (r : List Event) → rises (documents_events ds r) + falls r ≡ falls (documents_events ds r) + rises r
level-documents [] r = omega arith
level-documents (d ∷ ds) r =
    let more = document_end d.ends ∷ documents_events ds r in
    omega (arith, level-node d.root more, level-documents ds r)

level-stream : (ds : List Document) → rises (stream_events ds) ≡ falls (stream_events ds)
unfolding stream_events
level-stream ds = omega (arith, level-documents ds (stream_end ∷ []))

no-open : (os : List Open) → length os ≤ 0 → os ≡ []
no-open [] l = refl
no-open (o ∷ os) l = absurd (omega arith)

-- behind a stream that follows where no collection is open, none is
closed-behind : (ds : List Document) (s t : State) → s.outer ≡ [] → Reaches (stream_events ds) s t → t.outer ≡ []
closed-behind ds s t n h = no-open t.outer (omega (arith, ap length n, level-steps (stream_events ds) 0 s t h, level-stream ds))

pub closed-stream : (ds : List Document) (t : State) → Reaches (stream_events ds) initial_state t → t.outer ≡ []
closed-stream ds t h = closed-behind ds initial_state t refl h

pub closed-streams : (ds es : List Document) (t : State) → Reaches (stream_events ds ++ stream_events es) initial_state t → t.outer ≡ []
closed-streams ds es t h =
    let b = reaches-parts (stream_events ds) (stream_events es) initial_state t h in
    closed-behind es b.middle t (closed-stream ds b.middle b.front) b.back

closed-after : (dss : List (List Document)) (s t : State) → s.outer ≡ [] → Reaches (all_events dss) s t → t.outer ≡ []
unfolding steps
closed-after [] s t n h =
    let q : s ≡ t = cc in
    sym (ap (λ z. z.outer) q) ∙ n
closed-after (ds ∷ dss) s t n h =
    let p = reaches-parts (stream_events ds) (all_events dss) s t h in
    closed-after dss p.middle t (closed-behind ds s p.middle n p.front) p.back

pub closed-all : (dss : List (List Document)) (t : State) → Reaches (all_events dss) initial_state t → t.outer ≡ []
closed-all dss t h = closed-after dss initial_state t refl h
