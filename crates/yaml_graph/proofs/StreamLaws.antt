-- The composer over a whole stream.
use Rattle.std.proofs.Common.{◌≡◌, ◌+◌, ℕ, suc, List, [], ◌∷◌, length, map, refl, sym, ◌∙◌, ap, add-one, Ok, Err}
use Rattle.std.specs.Prelude.{Option, None, Some}
use Rattle.yaml_definitions.specs.model.Tree.{Tree}
use Rattle.yaml_definitions.specs.model.Core.{Cause, undefined_alias, cyclic_alias, wrong_kind, bad_content, int_range, float_range}
use Rattle.yaml_definitions.specs.model.Unfold.{Outcome, and_then, trees_of}
use Rattle.yaml_definitions.specs.model.Serial.{Document, stream_events}
use Rattle.yaml_text.specs.EventModel.{event_of}
use Rattle.yaml_text.specs.declared.fault.Fault.{Fault}
use Rattle.yaml_text.specs.declared.fault.Fault.TheVariants as faults
use Rattle.yaml_text.specs.declared.event.Event as code
use Rattle.yaml_tree.specs.Closing.{stream_trees}
use Rattle.yaml_tree.specs.Refused.{RefusesStream, RefusesUnfolding}
use Rattle.yaml_tree.specs.ComposerSteps.{State, initial_state, step, on_outcome, next, steps}
use Rattle.yaml_graph.specs.ComposerModel.{Reached}
use Rattle.yaml_graph.specs.declared.composer.Composer.{Composer}
use Rattle.yaml_tree.proofs.StepLaws.{comes_to, with_all, run-stream}

-- what the steps come to tells the documents' trees: refused, or found with those of all nodes
stream-refused : (ds : List Document) (o : Outcome (List Tree)) (x : Cause × ℕ) → Some (Err x) ≡ Some (and_then o (with_all [] [] ds)) → o ≡ Err x
stream-refused ds (Err e) x h = cc
stream-refused ds (Ok f) x h = absurd (cc)

stream-found : (ds : List Document) (o : Outcome (List Tree)) (ts us : List Tree) → Some (Ok (ts, us)) ≡ Some (and_then o (with_all [] [] ds)) → (o ≡ Ok ts) × (us ≡ stream_trees ds ts)
stream-found ds (Ok f) ts us h =
    let given : List Tree × List Tree = (ts, us) in
    let made : List Tree × List Tree = (f, stream_trees ds f) in
    let q : given ≡ made = cc in
    let roots : ts ≡ f = ap (λ p. p.0) q in
    (ap Ok (sym roots), ap (λ p. p.1) q ∙ ap (stream_trees ds) (sym roots))
stream-found ds (Err e) ts us h = absurd (cc)

module _ (es : List code.Event) (ds : List Document) (cut : map event_of es ≡ stream_events ds) where
  total-is : comes_to (steps 0 (map event_of es) initial_state) ≡ Some (and_then (trees_of ds) (with_all [] [] ds))
  total-is = ap (λ x. comes_to (steps 0 x initial_state)) cut ∙ run-stream ds

  -- what the step at this place comes to, where these events are left behind it
  pub record Stepped (at : ℕ) (e : code.Event) (more : List code.Event) (s : State) : Type 0 where
    pub found : Outcome State
    pub is : step at (event_of e) s ≡ Some found
    pub rest : on_outcome found (steps (suc at) (map event_of more)) ≡ steps 0 (map event_of es) initial_state

  stepped-by : (at : ℕ) (e : code.Event) (more : List code.Event) (s : State) (o : Option (Outcome State)) → step at (event_of e) s ≡ o → next o (steps (suc at) (map event_of more)) ≡ steps 0 (map event_of es) initial_state → Stepped at e more s
  stepped-by at e more s None q h = let w : comes_to None ≡ Some (and_then (trees_of ds) (with_all [] [] ds)) = ap comes_to h ∙ total-is in absurd (cc)
  stepped-by at e more s (Some found) q h = record { found = found; is = q; rest = h }

  pub stepped : (at : ℕ) (e : code.Event) (left more : List code.Event) (s : State) → left ≡ e ∷ more → steps at (map event_of left) s ≡ steps 0 (map event_of es) initial_state → Stepped at e more s
  unfolding steps
  stepped at e left more s q h = stepped-by at e more s (step at (event_of e) s) refl (ap (λ x. steps at (map event_of x) s) (sym q) ∙ h)

  pub goes-on : (at : ℕ) (e : code.Event) (more : List code.Event) (s : State) (k : Stepped at e more s) (c : Composer) (r : Reached k.found c) → steps (at + 1) (map event_of more) r.state ≡ steps 0 (map event_of es) initial_state
  goes-on at e more s k c r = rw add-one (ap (λ o. on_outcome o (steps (suc at) (map event_of more))) (sym r.is) ∙ k.rest)

  refused-by : (at : ℕ) (e : code.Event) (more : List code.Event) (s : State) (k : Stepped at e more s) (x : Cause × ℕ) → k.found ≡ Err x → trees_of ds ≡ Err x
  refused-by at e more s k x q =
      stream-refused ds (trees_of ds) x (ap (λ o. comes_to (on_outcome o (steps (suc at) (map event_of more)))) (sym q) ∙ (ap comes_to k.rest ∙ total-is))

  pub refused : (at : ℕ) (e : code.Event) (more : List code.Event) (s : State) (k : Stepped at e more s) (f : Fault) → RefusesUnfolding k.found f → RefusesStream ds f
  refused at e more s k (faults.UndefinedAlias n) h = refused-by at e more s k (undefined_alias, n) h
  refused at e more s k (faults.CyclicAlias n) h = refused-by at e more s k (cyclic_alias, n) h
  refused at e more s k (faults.WrongKind n) h = refused-by at e more s k (wrong_kind, n) h
  refused at e more s k (faults.BadContent n) h = refused-by at e more s k (bad_content, n) h
  refused at e more s k (faults.IntRange n) h = refused-by at e more s k (int_range, n) h
  refused at e more s k (faults.FloatRange n) h = refused-by at e more s k (float_range, n) h
  refused at e more s k faults.OutOfMemory h = tt
  refused at e more s k _ h = absurd h

  -- the roots that stand at last are the documents' trees, and the nodes are all of their own
  pub ended : (at : ℕ) (left : List code.Event) (s : State) → length left ≡ 0 → steps at (map event_of left) s ≡ steps 0 (map event_of es) initial_state → (trees_of ds ≡ Ok s.inner) × (s.done ≡ stream_trees ds s.inner)
  unfolding steps
  ended at [] s l q =
      let e : Some (Ok (s.inner, s.done)) ≡ Some (and_then (trees_of ds) (with_all [] [] ds)) = ap comes_to q ∙ total-is in
      stream-found ds (trees_of ds) s.inner s.done e
  ended at (e ∷ left) s l q = absurd (cc)
