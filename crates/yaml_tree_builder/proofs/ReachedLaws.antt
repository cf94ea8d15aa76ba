-- Events and the states that they come to, where nothing is refused.
use Rattle.std.proofs.Common.{◌≡◌, ℕ, suc, List, [], ◌∷◌, ◌++◌, refl, sym, ◌∙◌, ap, subst, append-nil, append_assoc, Result, Ok, Err}
use Rattle.std.specs.Prelude.{Option, None, Some}
use Rattle.yaml_definitions.specs.model.Tree.{Tree}
use Rattle.yaml_definitions.specs.model.Event.{Event, stream_start, stream_end, document_start, document_end, sequence_start, sequence_end, mapping_start, mapping_end, scalar_event, alias_event}
use Rattle.yaml_definitions.specs.model.Serial.{Document, stream_events}
use Rattle.yaml_definitions.specs.model.Core.{Cause, resolve, collection_tag}
use Rattle.yaml_definitions.specs.model.Unfold.{Outcome, Table, and_then, placed, last_named, tree_named, trees_from, trees_of}
use Rattle.yaml_tree.specs.Closing.{stream_trees}
use Rattle.yaml_tree.specs.ComposerSteps.{State, Open, initial_state, scalar_added, added, collection_begun, step, next, steps}
use Rattle.yaml_tree.proofs.StepLaws.{comes_to, with_all, run-documents}
use Rattle.yaml_tree_builder.specs.Reached.{Reaches, StreamIsForest, StreamCloses, TwoStreamsAreForests, AllUnfold, all_trees, all_closed, all_events, StreamsAreForests}

-- ---- numbers of events

placed-any : {X Y : Type 0} (at to : ℕ) (r : Result X Cause) (f : X → Outcome Y) (t : Y) → Some (and_then (placed at r) f) ≡ Some (Ok t) → Some (and_then (placed to r) f) ≡ Some (Ok t)
placed-any at to (Ok x) f t h = h
placed-any at to (Err e) f t h = absurd (cc)

-- where a step is not refused, the event's number tells nothing
step-any : (at to : ℕ) (e : Event) (s t : State) → step at e s ≡ Some (Ok t) → step to e s ≡ Some (Ok t)
unfolding step
step-any at to (scalar_event a g y x) s t h = placed-any at to (resolve g y x) (scalar_added a s) t h
step-any at to (alias_event name) s t h = placed-any at to (tree_named (last_named name s.table)) (added s) t h
step-any at to (sequence_start b a g) s t h = placed-any at to (collection_tag 1 g) (λ k. Ok (collection_begun a s k)) t h
step-any at to (mapping_start b a g) s t h = placed-any at to (collection_tag 2 g) (λ k. Ok (collection_begun a s k)) t h
step-any at to sequence_end s t h = h
step-any at to mapping_end s t h = h
step-any at to (document_start b) s t h = h
step-any at to (document_end b) s t h = h
step-any at to stream_start s t h = h
step-any at to stream_end s t h = h

-- the first step, and those of the rest
pub record First (at : ℕ) (e : Event) (es : List Event) (s t : State) : Type 0 where
  pub middle : State
  pub is : step at e s ≡ Some (Ok middle)
  pub rest : steps (suc at) es middle ≡ Some (Ok t)

first-of : (at : ℕ) (e : Event) (es : List Event) (s t : State) (o : Option (Outcome State)) → step at e s ≡ o → next o (steps (suc at) es) ≡ Some (Ok t) → First at e es s t
first-of at e es s t None q h = absurd (cc)
first-of at e es s t (Some (Err x)) q h = absurd (cc)
first-of at e es s t (Some (Ok m)) q h = record { middle = m; is = q; rest = h }

pub first : (at : ℕ) (e : Event) (es : List Event) (s t : State) → steps at (e ∷ es) s ≡ Some (Ok t) → First at e es s t
unfolding steps
first at e es s t h = first-of at e es s t (step at e s) refl h

then : (at : ℕ) (e : Event) (es : List Event) (s m t : State) → step at e s ≡ Some (Ok m) → steps (suc at) es m ≡ Some (Ok t) → steps at (e ∷ es) s ≡ Some (Ok t)
unfolding steps
then at e es s m t q h = ap (λ o. next o (steps (suc at) es)) q ∙ h

pub steps-any : (es : List Event) (at to : ℕ) (s t : State) → steps at es s ≡ Some (Ok t) → steps to es s ≡ Some (Ok t)
unfolding steps
steps-any [] at to s t h = h
steps-any (e ∷ es) at to s t h =
    let f = first at e es s t h in
    then to e es s f.middle t (step-any at to e s f.middle f.is) (steps-any es (suc at) (suc to) f.middle t f.rest)

-- ---- logs that go on

pub reaches-both : (xs ys : List Event) (s m t : State) → Reaches xs s m → Reaches ys m t → Reaches (xs ++ ys) s t
unfolding steps
reaches-both [] ys s m t h k = let e : s ≡ m = cc in subst (λ z. Reaches ys z t) (sym e) k
reaches-both (e ∷ xs) ys s m t h k =
    let f = first 0 e xs s m h in
    let r : Reaches (xs ++ ys) f.middle t = reaches-both xs ys f.middle m t (steps-any xs 1 0 f.middle m f.rest) k in
    then 0 e (xs ++ ys) s f.middle t f.is (steps-any (xs ++ ys) 0 1 f.middle t r)

-- a log's first part, and what goes on behind it
pub record Parts (xs ys : List Event) (s t : State) : Type 0 where
  pub middle : State
  pub front : Reaches xs s middle
  pub back : Reaches ys middle t

pub reaches-parts : (xs ys : List Event) (s t : State) → Reaches (xs ++ ys) s t → Parts xs ys s t
unfolding steps
reaches-parts [] ys s t h = record { middle = s; front = refl; back = h }
reaches-parts (e ∷ xs) ys s t h =
    let f = first 0 e (xs ++ ys) s t h in
    let r = reaches-parts xs ys f.middle t (steps-any (xs ++ ys) 1 0 f.middle t f.rest) in
    record { middle = r.middle; front = then 0 e xs s f.middle r.middle f.is (steps-any xs 0 1 f.middle r.middle r.front); back = r.back }

-- one event
pub reaches-one : (e : Event) (s t : State) → step 0 e s ≡ Some (Ok t) → Reaches (e ∷ []) s t
unfolding steps
reaches-one e s t q = ap (λ o. next o (steps 1 [])) q

one-from : (o : Option (Outcome State)) (t : State) → next o (steps 1 []) ≡ Some (Ok t) → o ≡ Some (Ok t)
unfolding steps
one-from None t h = absurd (cc)
one-from (Some (Err e)) t h = absurd (cc)
one-from (Some (Ok m)) t h = h

pub one-reached : (e : Event) (s t : State) → Reaches (e ∷ []) s t → step 0 e s ≡ Some (Ok t)
unfolding steps
one-reached e s t h = one-from (step 0 e s) t h

-- no log comes to two states
one-state : (o : Option (Outcome State)) (s t : State) → o ≡ Some (Ok s) → o ≡ Some (Ok t) → s ≡ t
one-state o s t h k = cc

pub reaches-same : (es : List Event) (s t u : State) → Reaches es s t → Reaches es s u → t ≡ u
reaches-same es s t u h k = one-state (steps 0 es s) t u h k

-- ---- whole streams

-- The documents unfold to trees, which stand behind these, and their nodes behind those.
record Adds (ds : List Document) (before after closed more : List Tree) : Type 0 where
  added : List Tree
  unfolded : trees_of ds ≡ Ok added
  is : after ≡ before ++ added
  nodes : more ≡ closed ++ stream_trees ds added

added-of : (ds : List Document) (roots all : List Tree) (o : Outcome (List Tree)) (ts us : List Tree) → trees_of ds ≡ o → Some (Ok (ts, us)) ≡ Some (and_then o (with_all roots all ds)) → Adds ds roots ts all us
added-of ds roots all (Ok f) ts us q h =
    let given : List Tree × List Tree = (ts, us) in
    let made : List Tree × List Tree = (roots ++ f, all ++ stream_trees ds f) in
    let e : given ≡ made = cc in
    record { added = f; unfolded = q; is = ap (λ p. p.0) e; nodes = ap (λ p. p.1) e }
added-of ds roots all (Err e) ts us q h = absurd (cc)

-- a stream whose events follow where no collection is open
adds-closed : (ds : List Document) (roots all : List Tree) (e : Table) (t : State) → Reaches (stream_events ds) (record { inner = roots; outer = []; table = e; done = all }) t → Adds ds roots t.inner all t.done
unfolding steps step stream_events
adds-closed ds roots all e t h = added-of ds roots all (trees_of ds) t.inner t.done refl (sym (ap comes_to h) ∙ run-documents ds 1 roots e all)

-- a stream whose events follow anywhere: a document begins only where no collection is open
adds : (ds : List Document) (roots all : List Tree) (outer : List Open) (e : Table) (t : State) → Reaches (stream_events ds) (record { inner = roots; outer = outer; table = e; done = all }) t → Adds ds roots t.inner all t.done
unfolding steps step stream_events stream_trees trees_from
adds ds roots all [] e t h = adds-closed ds roots all e t h
adds [] roots all (o ∷ os) e t h =
    let s : State = record { inner = roots; outer = o ∷ os; table = e; done = all } in
    let q : s ≡ t = cc in
    record { added = []; unfolded = refl; is = sym (ap (λ z. z.inner) q) ∙ sym (append-nil roots); nodes = sym (ap (λ z. z.done) q) ∙ sym (append-nil all) }
adds (d ∷ ds) roots all (o ∷ os) e t h = absurd (cc)

closed-from : (ds : List Document) (o : Outcome (List Tree)) (ts us : List Tree) → Some (Ok (ts, us)) ≡ Some (and_then o (with_all [] [] ds)) → us ≡ stream_trees ds ts
closed-from ds (Ok f) ts us h =
    let given : List Tree × List Tree = (ts, us) in
    let made : List Tree × List Tree = (f, stream_trees ds f) in
    let e : given ≡ made = cc in
    ap (λ p. p.1) e ∙ ap (λ p. stream_trees ds p.0) (sym e)
closed-from ds (Err e) ts us h = absurd (cc)

pub stream-closes : StreamCloses
unfolding steps step stream_events
stream-closes ds t h = closed-from ds (trees_of ds) t.inner t.done (sym (ap comes_to h) ∙ run-documents ds 1 [] [] [])

pub stream-is-forest : StreamIsForest
stream-is-forest ds t h =
    let a = adds-closed ds [] [] [] t h in
    a.unfolded ∙ ap Ok (sym a.is)

pub two-streams-are-forests : TwoStreamsAreForests
two-streams-are-forests ds es t h =
    let b = reaches-parts (stream_events ds) (stream_events es) initial_state t h in
    let m = b.middle in
    let a = adds es m.inner m.done m.outer m.table t b.back in
    record {
      lefts = m.inner;
      rights = a.added;
      first = stream-is-forest ds m b.front;
      second = a.unfolded;
      is = a.is;
      nodes = a.nodes ∙ ap (λ us. us ++ stream_trees es a.added) (stream-closes ds m b.front);
    }

-- ---- any streams

record AddsAll (dss : List (List Document)) (before after closed more : List Tree) : Type 0 where
  forests : List (List Tree)
  unfolded : AllUnfold dss forests
  is : after ≡ before ++ all_trees forests
  nodes : more ≡ closed ++ all_closed dss forests

adds-all : (dss : List (List Document)) (s t : State) → Reaches (all_events dss) s t → AddsAll dss s.inner t.inner s.done t.done
unfolding steps
adds-all [] s t h =
    let q : s ≡ t = cc in
    record { forests = []; unfolded = tt; is = sym (ap (λ z. z.inner) q) ∙ sym (append-nil s.inner); nodes = sym (ap (λ z. z.done) q) ∙ sym (append-nil s.done) }
adds-all (ds ∷ dss) s t h =
    let p = reaches-parts (stream_events ds) (all_events dss) s t h in
    let m = p.middle in
    let a = adds ds s.inner s.done s.outer s.table m p.front in
    let r = adds-all dss m t p.back in
    record {
      forests = a.added ∷ r.forests;
      unfolded = (a.unfolded, r.unfolded);
      is = r.is ∙ (ap (λ z. z ++ all_trees r.forests) a.is ∙ append_assoc s.inner a.added (all_trees r.forests));
      nodes = r.nodes ∙ (ap (λ z. z ++ all_closed dss r.forests) a.nodes ∙ append_assoc s.done (stream_trees ds a.added) (all_closed dss r.forests));
    }

pub streams-are-forests : StreamsAreForests
streams-are-forests dss t h = let a = adds-all dss initial_state t h in record { forests = a.forests; unfolded = a.unfolded; is = a.is; nodes = a.nodes }
