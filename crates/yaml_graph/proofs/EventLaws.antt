-- The composer at one event.
use Rattle.std.proofs.Common.{◌⊎◌, inl, inr, ◌≡◌, ℕ, Bool, List, [], ◌∷◌, refl, sym, ◌∙◌, ap, subst, Ok}
use Rattle.std.specs.Prelude.{Some}
use Rattle.yaml_definitions.specs.model.Unfold.{Outcome}
use Rattle.yaml_text.specs.EventModel.{event_of}
use Rattle.yaml_text.specs.declared.event.Event as code
use Rattle.yaml_text.specs.declared.event.Event.TheVariants as events
use Rattle.yaml_tree.specs.ComposerSteps.{State, cleared, step}
use Rattle.yaml_tree.specs.ComposerSteps as machine
use Rattle.yaml_graph.specs.ComposerModel.{Holds, Reached}
use Rattle.yaml_graph.specs.declared.composer.Composer.{Composer}

pub took : (at : ℕ) (given is : code.Event) (s : State) (found o : Outcome State) → given ≡ is → step at (event_of given) s ≡ Some found → step at (event_of is) s ≡ Some o → found ≡ o
took at given is s found o q e f = let g : Some found ≡ Some o = sym e ∙ (ap (λ v. step at (event_of v) s) q ∙ f) in cc

pub taken : (at : ℕ) (given is : code.Event) (s : State) (found : Outcome State) → given ≡ is → step at (event_of given) s ≡ Some found → step at (event_of is) s ≡ Some found
taken at given is s found q e = subst (λ v. step at (event_of v) s ≡ Some found) q e

-- events that change nothing
pub stays : (at : ℕ) (given : code.Event) (s : State) (found : Outcome State) (c : Composer) → ((x : Bool) × (given ≡ events.DocumentEnd x)) ⊎ ((given ≡ events.StreamStart) ⊎ (given ≡ events.StreamEnd))
    → step at (event_of given) s ≡ Some found → Holds c s → Reached found c
unfolding step
stays at given s found c (inl w) e h = record { state = s; is = took at given (events.DocumentEnd w.0) s found (Ok s) w.1 e refl; holds = h }
stays at given s found c (inr (inl q)) e h = record { state = s; is = took at given events.StreamStart s found (Ok s) q e refl; holds = h }
stays at given s found c (inr (inr q)) e h = record { state = s; is = took at given events.StreamEnd s found (Ok s) q e refl; holds = h }

-- a document begins
abbrev pub fresh : State → State
fresh s = record { inner = s.inner; outer = []; table = []; done = s.done }

cleared-found : (s : State) (os : List machine.Open) (found : Outcome State) → s.outer ≡ os → cleared s os ≡ Some found → (s.outer ≡ []) × (found ≡ Ok (fresh s))
cleared-found s [] found q e = (q, cc)
cleared-found s (o ∷ os) found q e = absurd (cc)

pub document-found : (at : ℕ) (given : code.Event) (b : Bool) (s : State) (found : Outcome State) → given ≡ events.DocumentStart b → step at (event_of given) s ≡ Some found → (s.outer ≡ []) × (found ≡ Ok (fresh s))
unfolding step
document-found at given b s found q e = cleared-found s s.outer found refl (taken at given (events.DocumentStart b) s found q e)
