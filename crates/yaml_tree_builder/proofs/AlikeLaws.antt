-- Events of which one is refused, wherever they stand.
use Rattle.std.proofs.Common.{◌≡◌, ℕ, suc, ◌+◌, ◌-◌, ◌<◌, ◌≤◌, Bool, true, false, List, [], ◌∷◌, ◌++◌, length, refl, sym, ◌∙◌, ap, subst, arith, Result, Ok, Err}
use Rattle.std.specs.Prelude.{Option, None, Some}
use Rattle.yaml_definitions.specs.model.Tree.{scalar}
use Rattle.yaml_definitions.specs.model.Event.{Event, Anchor, WrittenTag, Style, scalar_event, alias_event}
use Rattle.yaml_definitions.specs.model.Core.{Cause, resolve, collection_tag}
use Rattle.yaml_definitions.specs.model.Unfold.{Outcome, and_then, placed, last_named, tree_named}
use Rattle.yaml_tree.specs.ComposerSteps.{State, Open, initial_state, node_begun, whole, added, collection_begun, collection_ended, step, next, steps}
use Rattle.yaml_store.specs.declared.nodes.Collection.{Collection}
use Rattle.yaml_store.specs.declared.nodes.Collection.TheVariants as kinds
use Rattle.yaml_tree_builder.specs.Reached.{Reaches}
use Rattle.yaml_tree_builder.specs.Nodes.{Alike}
use Rattle.yaml_tree_builder.specs.BuilderModel.{start_of, end_of}
use Rattle.yaml_tree_builder.proofs.ReachedLaws.{steps-any}
use Rattle.yaml_tree_builder.proofs.RefusalLaws.{step-at, steps-at, refused-more, steps-behind}

-- ---- where the event stands that is refused

-- among the first events, or behind them
pub data Split (xs ys : List Event) (at : ℕ) (s : State) (x : Cause × ℕ) : Type 0 where
  in_front : steps at xs s ≡ Some (Err x) → Split xs ys at s x
  behind : (m : State) → steps at xs s ≡ Some (Ok m) → steps (at + length xs) ys m ≡ Some (Err x) → Split xs ys at s x

split-more : (e : Event) (xs ys : List Event) (at : ℕ) (s m : State) (x : Cause × ℕ) → step at e s ≡ Some (Ok m) → Split xs ys (suc at) m x → Split (e ∷ xs) ys at s x
unfolding steps
split-more e xs ys at s m x q (in_front h) = in_front (ap (λ o. next o (steps (suc at) xs)) q ∙ h)
split-more e xs ys at s m x q (behind n h k) =
    let size : suc at + length xs ≡ at + suc (length xs) = omega arith in
    behind n (ap (λ o. next o (steps (suc at) xs)) q ∙ h) (subst (λ i. steps i ys n ≡ Some (Err x)) size k)

split-from : (e : Event) (xs ys : List Event) (at : ℕ) (s : State) (x : Cause × ℕ) (o : Option (Outcome State)) → step at e s ≡ o → ((m : State) → steps (suc at) (xs ++ ys) m ≡ Some (Err x) → Split xs ys (suc at) m x) → next o (steps (suc at) (xs ++ ys)) ≡ Some (Err x) → Split (e ∷ xs) ys at s x
unfolding steps
split-from e xs ys at s x None q k h = absurd (cc)
split-from e xs ys at s x (Some (Err y)) q k h = in_front (ap (λ o. next o (steps (suc at) xs)) q ∙ h)
split-from e xs ys at s x (Some (Ok m)) q k h = split-more e xs ys at s m x q (k m h)

pub split : (xs ys : List Event) (at : ℕ) (s : State) (x : Cause × ℕ) → steps at (xs ++ ys) s ≡ Some (Err x) → Split xs ys at s x
unfolding steps
split [] ys at s x h =
    let size : at ≡ at + 0 = omega arith in
    behind s refl (subst (λ i. steps i ys s ≡ Some (Err x)) size h)
split (e ∷ xs) ys at s x h = split-from e xs ys at s x (step at e s) refl (λ m k. split xs ys (suc at) m x k) h

-- no number is behind those of the events
within-from : (at n : ℕ) (e : Event) (es : List Event) (s : State) (x : Cause × ℕ) (o : Option (Outcome State)) → step at e s ≡ o → ((m : State) → steps (suc at) es m ≡ Some (Err x) → x.1 < suc at + n) → next o (steps (suc at) es) ≡ Some (Err x) → x.1 < at + suc n
within-from at n e es s x None q k h = absurd (cc)
within-from at n e es s x (Some (Err y)) q k h =
    let same : y ≡ x = cc in
    omega (arith, step-at at e s y q, ap (λ p. p.1) same)
within-from at n e es s x (Some (Ok m)) q k h = omega (arith, k m h)

pub steps-within : (es : List Event) (at : ℕ) (s : State) (x : Cause × ℕ) → steps at es s ≡ Some (Err x) → x.1 < at + length es
unfolding steps
steps-within [] at s x h = absurd (cc)
steps-within (e ∷ es) at s x h = within-from at (length es) e es s x (step at e s) refl (λ m k. steps-within es (suc at) m x k) h

-- The first events of a log come to a state, and behind them one is refused.
pub record Behind (front es : List Event) (x : Cause × ℕ) : Type 0 where
  pub state : State
  pub is : Reaches front initial_state state
  pub refused : steps (length front) es state ≡ Some (Err x)

behind-split : (front es : List Event) (x : Cause × ℕ) → length front ≤ x.1 → Split front es 0 initial_state x → Behind front es x
behind-split front es x l (in_front h) = absurd (omega (arith, l, steps-within front 0 initial_state x h))
behind-split front es x l (behind m h k) =
    let size : 0 + length front ≡ length front = omega arith in
    record { state = m; is = h; refused = subst (λ i. steps i es m ≡ Some (Err x)) size k }

pub refused-behind : (front es : List Event) (x : Cause × ℕ) → length front ≤ x.1 → steps 0 (front ++ es) initial_state ≡ Some (Err x) → Behind front es x
refused-behind front es x l h = behind-split front es x l (split front es 0 initial_state x h)

-- ---- one event

one-from : (at to k : ℕ) (cause : Cause) (e : Event) (s t : State) (o : Option (Outcome State)) → step at e s ≡ o → (step at e s ≡ Some (Err (cause, at)) → step to e t ≡ Some (Err (cause, to))) → next o (steps (suc at) []) ≡ Some (Err (cause, at + k)) → steps to (e ∷ []) t ≡ Some (Err (cause, to + k))
unfolding steps
one-from at to k cause e s t None q f h = absurd (cc)
one-from at to k cause e s t (Some (Ok m)) q f h = absurd (cc)
one-from at to k cause e s t (Some (Err y)) q f h =
    let asked : Cause × ℕ = (cause, at + k) in
    let same : y ≡ asked = cc in
    let here : at + k ≡ at = sym (ap (λ p. p.1) same) ∙ step-at at e s y q in
    let there : to ≡ to + k = omega (arith, here) in
    let r : step at e s ≡ Some (Err (cause, at)) = q ∙ (ap (λ z. Some (Err z)) same ∙ (λ z. Some (Err (cause, here z)))) in
    ap (λ o. next o (steps (suc to) [])) (f r) ∙ (λ z. Some (Err (cause, there z)))

pub one-alike : (e : Event) (s t : State) → ((at to : ℕ) (cause : Cause) → step at e s ≡ Some (Err (cause, at)) → step to e t ≡ Some (Err (cause, to))) → Alike (e ∷ []) s t
unfolding steps
one-alike e s t f = λ at to k cause h. one-from at to k cause e s t (step at e s) refl (f at to cause) h

placed-alike : {X Y Z : Type 0} (at to : ℕ) (r : Result X Cause) (f : X → Y) (g : X → Z) (cause : Cause) → Some (and_then (placed at r) (λ v. Ok (f v))) ≡ Some (Err (cause, at)) → Some (and_then (placed to r) (λ v. Ok (g v))) ≡ Some (Err (cause, to))
placed-alike at to (Ok v) f g cause h = absurd (cc)
placed-alike at to (Err d) f g cause h =
    let given : Cause × ℕ = (d, at) in
    let made : Cause × ℕ = (cause, at) in
    let q : given ≡ made = cc in
    λ z. Some (Err (ap (λ p. p.0) q z, to))

pub scalar-alike : (a : Anchor) (g : WrittenTag) (y : Style) (x : List ℕ) (s t : State) → Alike (scalar_event a g y x ∷ []) s t
unfolding step
scalar-alike a g y x s t = one-alike (scalar_event a g y x) s t (λ at to cause h.
    placed-alike {Y = State} {Z = State} at to (resolve g y x) (λ r. whole a (length s.table) (scalar r.0 r.1) (node_begun a s)) (λ r. whole a (length t.table) (scalar r.0 r.1) (node_begun a t)) cause h)

pub alias-alike : (name : List ℕ) (s t : State) → s.table ≡ t.table → Alike (alias_event name ∷ []) s t
unfolding step
alias-alike name s t e = one-alike (alias_event name) s t (λ at to cause h.
    ap (λ b. Some (and_then (placed to (tree_named (last_named name b))) (added t))) (sym e)
    ∙ placed-alike {Y = State} {Z = State} at to (tree_named (last_named name s.table)) (λ u. record { inner = s.inner ++ (u ∷ []); outer = s.outer; table = s.table; done = s.done }) (λ u. record { inner = t.inner ++ (u ∷ []); outer = t.outer; table = t.table; done = t.done }) cause h)

pub start-alike : (k : Collection) (flow : Bool) (a : Anchor) (g : WrittenTag) (s t : State) → Alike (start_of k flow a g ∷ []) s t
unfolding step
start-alike kinds.Sequence flow a g s t = one-alike (start_of kinds.Sequence flow a g) s t (λ at to cause h. placed-alike at to (collection_tag 1 g) (collection_begun a s) (collection_begun a t) cause h)
start-alike kinds.Mapping flow a g s t = one-alike (start_of kinds.Mapping flow a g) s t (λ at to cause h. placed-alike at to (collection_tag 2 g) (collection_begun a s) (collection_begun a t) cause h)

-- an end is never refused
ended-never : (b : Bool) (s : State) (os : List Open) (x : Cause × ℕ) → collection_ended b s os ≡ Some (Err x) → ⊥
ended-never b s [] x h = absurd (cc)
ended-never b s (o ∷ os) x h = absurd (cc)

pub end-alike : (k : Collection) (s t : State) → Alike (end_of k ∷ []) s t
unfolding step
end-alike kinds.Sequence s t = one-alike (end_of kinds.Sequence) s t (λ at to cause h. absurd (ended-never false s s.outer (cause, at) h))
end-alike kinds.Mapping s t = one-alike (end_of kinds.Mapping) s t (λ at to cause h. absurd (ended-never true s s.outer (cause, at) h))

-- nor is an event that changes nothing
taken : (s : State) (x : Cause × ℕ) → Some (Ok s) ≡ Some (Err x) → ⊥
taken s x h = absurd (cc)

pub aside-alike : (e : Event) (s t : State) → ((at : ℕ) → step at e s ≡ Some (Ok s)) → Alike (e ∷ []) s t
aside-alike e s t f = one-alike e s t (λ at to cause h. absurd (taken s (cause, at) (sym (f at) ∙ h)))

-- ---- events behind events

-- From another state the events come to a state with the same anchors.
pub record Meets (xs : List Event) (m t : State) : Type 0 where
  pub state : State
  pub is : Reaches xs t state
  pub same : m.table ≡ state.table

both-from : (xs ys : List Event) (s t : State) → Alike xs s t → ((m : State) → Reaches xs s m → Meets xs m t) → ((m n : State) → m.table ≡ n.table → Alike ys m n) → (at to k : ℕ) (cause : Cause) → Split xs ys at s (cause, at + k) → steps to (xs ++ ys) t ≡ Some (Err (cause, to + k))
both-from xs ys s t f g h at to k cause (in_front e) = refused-more xs ys to t (cause, to + k) (f at to k cause e)
both-from xs ys s t f g h at to k cause (behind m r e) =
    let w = g m (steps-any xs at 0 s m r) in
    let size = length xs in
    let l : at + size ≤ at + k = steps-at ys (at + size) m (cause, at + k) e in
    let here : at + k ≡ (at + size) + (k - size) = omega (arith, l) in
    let there : (to + size) + (k - size) ≡ to + k = omega (arith, l) in
    let more = h m w.state w.same (at + size) (to + size) (k - size) cause (e ∙ (λ z. Some (Err (cause, here z)))) in
    steps-behind xs ys to t w.state (steps-any xs 0 to t w.state w.is) ∙ (more ∙ (λ z. Some (Err (cause, there z))))

pub both-alike : (xs ys : List Event) (s t : State) → Alike xs s t → ((m : State) → Reaches xs s m → Meets xs m t) → ((m n : State) → m.table ≡ n.table → Alike ys m n) → Alike (xs ++ ys) s t
both-alike xs ys s t f g h = λ at to k cause e. both-from xs ys s t f g h at to k cause (split xs ys at s (cause, at + k) e)

pub none-alike : (s t : State) → Alike [] s t
unfolding steps
none-alike s t = λ at to k cause h. absurd (cc)
