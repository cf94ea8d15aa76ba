-- The events that a reader's sink holds.
use Rattle.std.specs.Prelude.{Bool, List, None}
use Rattle.yaml_definitions.specs.model.Event.{Event, untagged, sequence_start, mapping_start, sequence_end, mapping_end}
use Rattle.yaml_sink.specs.ListModel.{HeldList}
use Rattle.yaml_sink.specs.declared.sink.Collection.{Collection}
use Rattle.yaml_sink.specs.declared.sink.Collection.TheVariants.{Sequence, Mapping}
use Rattle.yaml_sink.specs.declared.sink.Beside.{Beside}
use Rattle.yaml_sink.specs.declared.sink.Sink.{Sink}
use Rattle.yaml_sink.specs.declared.sink.Sink.TheVariants.{Listed, Kept, Both}

-- the events that a list holds, and a keeper beside it
pub record HeldBeside {K : Type 0} (holds : K → List Event → Type 0) (both : Beside K) (log : List Event) : Type 0 where
  pub list : HeldList both.list log
  pub keeper : holds both.keeper log

abbrev pub holds_of : {K : Type 0} → (K → List Event → Type 0) → Sink K → List Event → Type 0
holds_of holds (Listed list) log = HeldList list log
holds_of holds (Kept keeper) log = holds keeper log
holds_of holds (Both both) log = HeldBeside holds both log

-- the start of a collection without properties, and its end
abbrev pub start_of : Collection → Bool → Event
start_of Sequence flow = sequence_start flow None untagged
start_of Mapping flow = mapping_start flow None untagged

abbrev pub end_of : Collection → Event
end_of Sequence = sequence_end
end_of Mapping = mapping_end
