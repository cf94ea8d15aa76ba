use Rattle.std.proofs.Common.{◌≡◌, map, length}
use Rattle.std.specs.Vec.Iter.{into_iter_items, into_iter_len}
use Rattle.std.specs.Iterator.Adapters.{enumerate_source, enumerate_count}
use Rattle.yaml_text.specs.EventModel.{event_of}
use Rattle.yaml_tree.specs.ComposerSteps.{State, initial_state, steps}
use Rattle.yaml_graph.specs.ComposerModel.{Holds}
use Rattle.yaml_graph.proofs.composing.compose_owned.Given as goal

abbrev pub invariant-loop-at : goal.invariant-loop-at
invariant-loop-at l =
    let left = into_iter_items (enumerate_source l.at-iterator) in
    (into_iter_len (enumerate_source l.at-iterator) ≡ length left)
    × ((s : State) × Holds l.composer s × (steps (enumerate_count l.at-iterator) (map event_of left) s ≡ steps 0 (map event_of l.fn.events.items) initial_state))
