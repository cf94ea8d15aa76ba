-- Events that are refused, and the steps over logs in which they stand.
use Rattle.std.proofs.Common.{◌≡◌, ℕ, suc, ◌+◌, ◌<◌, ◌≤◌, Bool, true, false, List, [], ◌∷◌, ◌++◌, length, refl, sym, ◌∙◌, ap, subst, arith, Result, Ok, Err}
use Rattle.std.specs.Prelude.{Option, None, Some}
use Rattle.yaml_definitions.specs.model.Tree.{Tree, scalar}
use Rattle.yaml_definitions.specs.model.Event.{Event, Anchor, WrittenTag, Style, stream_start, stream_end, document_start, document_end, sequence_start, sequence_end, mapping_start, mapping_end, scalar_event, alias_event}
use Rattle.yaml_definitions.specs.model.Serial.{Document, stream_events}
use Rattle.yaml_definitions.specs.model.Core.{Cause, resolve, collection_tag}
use Rattle.yaml_definitions.specs.model.Unfold.{Outcome, and_then, placed, last_named, tree_named, trees_of}
use Rattle.yaml_tree.specs.ComposerSteps.{State, Open, initial_state, node_begun, whole, scalar_added, added, collection_begun, collection_ended, cleared, step, next, steps}
use Rattle.yaml_tree.proofs.StepLaws.{comes_to, with_all, run-stream}
use Rattle.yaml_store.specs.declared.nodes.Collection.{Collection}
use Rattle.yaml_store.specs.declared.nodes.Collection.TheVariants as kinds
use Rattle.yaml_tree_builder.specs.Reached.{Reaches}
use Rattle.yaml_tree_builder.specs.TagModel.{collection_number}
use Rattle.yaml_tree_builder.specs.BuilderModel.{start_of}
use Rattle.yaml_tree.specs.Refused.{RefusesStream}
use Rattle.yaml_tree_builder.specs.Refusals.{cause_of, fault_of, Blames, Stops}
use Rattle.yaml_tree_builder.specs.JudgedModel.{IsFirstRefused}
use Rattle.yaml_tree_builder.specs.declared.stop.Cause as code
use Rattle.yaml_tree_builder.specs.declared.stop.Cause.TheVariants as causes
use Rattle.yaml_tree_builder.specs.declared.stop.Stop.{Stop}
use Rattle.yaml_tree_builder.specs.declared.stop.Stop.TheVariants as stops
use Rattle.yaml_tree_builder.specs.declared.stop.Refusal.{Refusal}

-- ---- one event

pub stops-none : (e : Event) (s : State) (stop : Stop) → stop ≡ stops.NoMemory → Stops e s stop
stops-none e s stop q = subst (Stops e s) (sym q) tt

pub scalar-stops : (a : Anchor) (g : WrittenTag) (y : Style) (x : List ℕ) (s : State) (stop : Stop) → Blames (resolve g y x) stop → Stops (scalar_event a g y x) s stop
unfolding step
scalar-stops a g y x s (stops.Refused cause) h = λ at. ap (λ r. Some (and_then (placed at r) (scalar_added a s))) h
scalar-stops a g y x s stops.NoMemory h = tt

pub alias-stops : (name : List ℕ) (s : State) (cause : code.Cause) → tree_named (last_named name s.table) ≡ Err (cause_of cause) → Stops (alias_event name) s (stops.Refused cause)
unfolding step
alias-stops name s cause h = λ at. ap (λ r. Some (and_then (placed at r) (added s))) h

pub begin-stops : (k : Collection) (flow : Bool) (a : Anchor) (g : WrittenTag) (s : State) (stop : Stop) → Blames (collection_tag (collection_number k) g) stop → Stops (start_of k flow a g) s stop
unfolding step
begin-stops kinds.Sequence flow a g s (stops.Refused cause) h = λ at. ap (λ r. Some (and_then (placed at r) (λ t. Ok (collection_begun a s t)))) h
begin-stops kinds.Mapping flow a g s (stops.Refused cause) h = λ at. ap (λ r. Some (and_then (placed at r) (λ t. Ok (collection_begun a s t)))) h
begin-stops k flow a g s stops.NoMemory h = tt

-- ---- numbers

placed-at : {X Y : Type 0} (at : ℕ) (r : Result X Cause) (f : X → Y) (x : Cause × ℕ) → Some (and_then (placed at r) (λ v. Ok (f v))) ≡ Some (Err x) → x.1 ≡ at
placed-at at (Ok v) f x h = absurd (cc)
placed-at at (Err cause) f x h =
    let given : Cause × ℕ = (cause, at) in
    let q : given ≡ x = cc in
    sym (ap (λ p. p.1) q)

ended-at : (at : ℕ) (b : Bool) (s : State) (os : List Open) (x : Cause × ℕ) → collection_ended b s os ≡ Some (Err x) → x.1 ≡ at
ended-at at b s [] x h = absurd (cc)
ended-at at b s (o ∷ os) x h = absurd (cc)

cleared-at : (at : ℕ) (s : State) (os : List Open) (x : Cause × ℕ) → cleared s os ≡ Some (Err x) → x.1 ≡ at
cleared-at at s [] x h = absurd (cc)
cleared-at at s (o ∷ os) x h = absurd (cc)

-- an event is refused with its own number
pub step-at : (at : ℕ) (e : Event) (s : State) (x : Cause × ℕ) → step at e s ≡ Some (Err x) → x.1 ≡ at
unfolding step
step-at at (scalar_event a g y t) s x h = placed-at at (resolve g y t) (λ r. whole a (length s.table) (scalar r.0 r.1) (node_begun a s)) x h
step-at at (alias_event name) s x h = placed-at {Y = State} at (tree_named (last_named name s.table)) (λ t. record { inner = s.inner ++ (t ∷ []); outer = s.outer; table = s.table; done = s.done }) x h
step-at at (sequence_start b a g) s x h = placed-at at (collection_tag 1 g) (collection_begun a s) x h
step-at at (mapping_start b a g) s x h = placed-at at (collection_tag 2 g) (collection_begun a s) x h
step-at at sequence_end s x h = ended-at at false s s.outer x h
step-at at mapping_end s x h = ended-at at true s s.outer x h
step-at at (document_start b) s x h = cleared-at at s s.outer x h
step-at at (document_end b) s x h = absurd (cc)
step-at at stream_start s x h = absurd (cc)
step-at at stream_end s x h = absurd (cc)

-- and no event of a log has a number before that of the first
next-at : (at : ℕ) (e : Event) (es : List Event) (s : State) (x : Cause × ℕ) (o : Option (Outcome State)) → step at e s ≡ o → ((m : State) → steps (suc at) es m ≡ Some (Err x) → suc at ≤ x.1) → next o (steps (suc at) es) ≡ Some (Err x) → at ≤ x.1
next-at at e es s x None q k h = absurd (cc)
next-at at e es s x (Some (Err y)) q k h =
    let same : y ≡ x = cc in
    omega (arith, step-at at e s y q, ap (λ p. p.1) same)
next-at at e es s x (Some (Ok m)) q k h = omega (arith, k m h)

pub steps-at : (es : List Event) (at : ℕ) (s : State) (x : Cause × ℕ) → steps at es s ≡ Some (Err x) → at ≤ x.1
unfolding steps
steps-at [] at s x h = absurd (cc)
steps-at (e ∷ es) at s x h = next-at at e es s x (step at e s) refl (λ m k. omega (arith, steps-at es (suc at) m x k)) h

-- ---- logs in which an event is refused

next-same : (o : Option (Outcome State)) (x : Cause × ℕ) (f g : State → Option (Outcome State)) → ((m : State) → f m ≡ Some (Err x) → g m ≡ Some (Err x)) → next o f ≡ Some (Err x) → next o g ≡ Some (Err x)
next-same None x f g k h = h
next-same (Some (Err y)) x f g k h = h
next-same (Some (Ok m)) x f g k h = k m h

-- what stands behind it does not matter
pub refused-more : (xs ys : List Event) (at : ℕ) (s : State) (x : Cause × ℕ) → steps at xs s ≡ Some (Err x) → steps at (xs ++ ys) s ≡ Some (Err x)
unfolding steps
refused-more [] ys at s x h = absurd (cc)
refused-more (e ∷ xs) ys at s x h = next-same (step at e s) x (steps (suc at) xs) (steps (suc at) (xs ++ ys)) (λ m k. refused-more xs ys (suc at) m x k) h

pub refused-front : (xs ys : List Event) (at : ℕ) (s : State) (x : Cause × ℕ) → x.1 < at + length xs → steps at (xs ++ ys) s ≡ Some (Err x) → steps at xs s ≡ Some (Err x)
unfolding steps
refused-front [] ys at s x l h = absurd (omega (arith, l, steps-at ys at s x h))
refused-front (e ∷ xs) ys at s x l h = next-same (step at e s) x (steps (suc at) (xs ++ ys)) (steps (suc at) xs) (λ m k. refused-front xs ys (suc at) m x (omega (arith, l)) k) h

-- the steps go on from the state that they came to
next-from : (o : Option (Outcome State)) (m : State) (f g : State → Option (Outcome State)) (r : Option (Outcome State)) → ((t : State) → f t ≡ Some (Ok m) → g t ≡ r) → next o f ≡ Some (Ok m) → next o g ≡ r
next-from None m f g r k h = absurd (cc)
next-from (Some (Err y)) m f g r k h = absurd (cc)
next-from (Some (Ok t)) m f g r k h = k t h

pub steps-behind : (xs ys : List Event) (at : ℕ) (s m : State) → steps at xs s ≡ Some (Ok m) → steps at (xs ++ ys) s ≡ steps (at + length xs) ys m
unfolding steps
steps-behind [] ys at s m h =
    let e : s ≡ m = cc in
    let n : at ≡ at + 0 = omega arith in
    λ z. steps (n z) ys (e z)
steps-behind (e ∷ xs) ys at s m h =
    let n : suc at + length xs ≡ at + suc (length xs) = omega arith in
    next-from (step at e s) m (steps (suc at) xs) (steps (suc at) (xs ++ ys)) (steps (at + suc (length xs)) ys m) (λ t k. steps-behind xs ys (suc at) t m k ∙ ap (λ i. steps i ys m) n) h

-- the last event is refused
pub refused-last : (told : List Event) (e : Event) (s : State) (cause : code.Cause) (at : ℕ) → at ≡ length told → Reaches told initial_state s → Stops e s (stops.Refused cause) → steps 0 (told ++ (e ∷ [])) initial_state ≡ Some (Err (cause_of cause, at))
unfolding steps
refused-last told e s cause at n r k =
    let l : 0 + length told ≡ at = omega (arith, n) in
    steps-behind told (e ∷ []) 0 initial_state s r ∙ (ap (λ i. steps i (e ∷ []) s) l ∙ ap (λ o. next o (steps (suc at) [])) (k at))

-- ---- whole streams

stream-refused : (ds : List Document) (o : Outcome (List Tree)) (x : Cause × ℕ) → Some (Err x) ≡ Some (and_then o (with_all [] [] ds)) → o ≡ Err x
stream-refused ds (Err e) x h = cc
stream-refused ds (Ok f) x h = absurd (cc)

unfolds-not : (ds : List Document) (x : Cause × ℕ) → steps 0 (stream_events ds) initial_state ≡ Some (Err x) → trees_of ds ≡ Err x
unfolds-not ds x h = stream-refused ds (trees_of ds) x (sym (ap comes_to h) ∙ run-stream ds)

said : (ds : List Document) (cause : code.Cause) (at : ℕ) → trees_of ds ≡ Err (cause_of cause, at) → RefusesStream ds (fault_of cause at)
said ds causes.UndefinedAlias at h = h
said ds causes.CyclicAlias at h = h
said ds causes.WrongKind at h = h
said ds causes.BadContent at h = h
said ds causes.IntRange at h = h
said ds causes.FloatRange at h = h

-- the first event that is refused tells why the documents have no trees
pub refuses-stream : (ds : List Document) (r : Refusal) → IsFirstRefused r (stream_events ds) → RefusesStream ds (fault_of r.cause r.at)
refuses-stream ds r h = said ds r.cause r.at (unfolds-not ds (cause_of r.cause, r.at) h)
