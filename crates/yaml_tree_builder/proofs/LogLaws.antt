-- The builder over a log.
use Rattle.std.proofs.Common.{◌≡◌, List, [], ◌∷◌, ◌++◌, refl, ap, Ok}
use Rattle.std.specs.Prelude.{Some}
use Rattle.yaml_definitions.specs.model.Event.{Event, stream_start, stream_end, document_end}
use Rattle.yaml_tree.specs.ComposerSteps.{State, initial_state, step, next, steps}
use Rattle.yaml_tree_builder.specs.Reached.{Reaches}
use Rattle.yaml_tree_builder.specs.BuilderModel.{Holds}
use Rattle.yaml_tree_builder.specs.BuilderLog.{Follows, FollowsNone, FollowsStep, FollowsRest}
use Rattle.yaml_tree_builder.specs.declared.builder.TreeBuilder.{TreeBuilder}
use Rattle.yaml_tree_builder.proofs.ReachedLaws.{reaches-both}

pub follows-none : FollowsNone
unfolding steps
follows-none c h = record { state = initial_state; is = refl; holds = h }

one-more : (new : TreeBuilder) (log : List Event) (e : Event) (s t : State) → Reaches log initial_state s → step 0 e s ≡ Some (Ok t) → Holds new t → Follows new (log ++ (e ∷ []))
unfolding steps
one-more new log e s t r q h = record { state = t; is = reaches-both log (e ∷ []) initial_state s t r (ap (λ o. next o (steps 1 [])) q); holds = h }

pub follows-step : FollowsStep
follows-step old new log e f k = let w = k f.state f.holds in one-more new log e f.state w.state f.is w.is w.holds

pub follows-rest : FollowsRest
unfolding step
follows-rest c log f = (
  one-more c log stream_start f.state f.state f.is refl f.holds,
  one-more c log stream_end f.state f.state f.is refl f.holds,
  λ explicit. one-more c log (document_end explicit) f.state f.state f.is refl f.holds,
)
