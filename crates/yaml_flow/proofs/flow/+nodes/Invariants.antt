use Rattle.std.proofs.Common.{◌≡◌, ◌+◌, ◌*◌, ◌-◌, ◌≤◌, List, length}
use Rattle.yaml_definitions.specs.model.Event.{Event}
use Rattle.yaml_text.specs.EventModel.{context_of}
use Rattle.yaml_text.specs.Source.{bytes_of, text_of, place_of, IsBorder}
use Rattle.yaml_definitions.specs.grammar.Rules.{any, ◌◂◌}
use Rattle.yaml_definitions.specs.grammar.Separation.{flow_in}
use Rattle.yaml_mark.specs.HandlesModel.{handles_of}
use Rattle.yaml_layout.specs.NodeRules.{from_room}
use Rattle.yaml_flow.specs.FlowRules.{item_at, entry_at, spaced, comma}
use Rattle.yaml_sink.specs.Held.{Puts}
use Rattle.yaml_sink.specs.SinkModel.{holds_of}
use Rattle.yaml_flow.proofs.LoopDecisions.{PartsLeft}
use Rattle.yaml_flow.proofs.flow.+nodes.Given as goal

abbrev pub decreases-sequence::read_sequence : goal.decreases-sequence::read_sequence
decreases-sequence::read_sequence g l = 12 * l.level.now.room

abbrev pub decreases-mapping::read_mapping : goal.decreases-mapping::read_mapping
decreases-mapping::read_mapping g l = 12 * l.level.now.room

abbrev pub decreases-nodes::read_content : goal.decreases-nodes::read_content
decreases-nodes::read_content g l = 12 * l.level.now.room + 1

abbrev pub decreases-nodes::read_bare : goal.decreases-nodes::read_bare
decreases-nodes::read_bare g l = 12 * l.level.now.room + 2

abbrev pub decreases-nodes::read_flow_node : goal.decreases-nodes::read_flow_node
decreases-nodes::read_flow_node g l = 12 * l.level.now.room + 3

abbrev pub decreases-pairs::read_pair : goal.decreases-pairs::read_pair
decreases-pairs::read_pair g l = 12 * l.level.now.room + 4

abbrev pub decreases-entries::read_value : goal.decreases-entries::read_value
decreases-entries::read_value g l = 12 * l.level.now.room + 4

abbrev pub decreases-sequence::read_node_item : goal.decreases-sequence::read_node_item
decreases-sequence::read_node_item g l = 12 * l.level.now.room + 5

abbrev pub decreases-entries::read_key_entry : goal.decreases-entries::read_key_entry
decreases-entries::read_key_entry g l = 12 * l.level.now.room + 5

abbrev pub decreases-pairs::read_asked_pair : goal.decreases-pairs::read_asked_pair
decreases-pairs::read_asked_pair g l = 12 * l.level.now.room + 5

abbrev pub decreases-pairs::read_empty_pair : goal.decreases-pairs::read_empty_pair
decreases-pairs::read_empty_pair g l = 12 * l.level.now.room + 5

abbrev pub decreases-entries::read_keyed : goal.decreases-entries::read_keyed
decreases-entries::read_keyed g l = 12 * l.level.now.room + 6

abbrev pub decreases-sequence::read_item : goal.decreases-sequence::read_item
decreases-sequence::read_item g l = 12 * l.level.now.room + 6

abbrev pub decreases-entries::read_asked : goal.decreases-entries::read_asked
decreases-entries::read_asked g l = 12 * l.level.now.room + 7

abbrev pub decreases-entries::read_entry : goal.decreases-entries::read_entry
decreases-entries::read_entry g l = 12 * l.level.now.room + 8

abbrev pub decreases-sequence::read_items : goal.decreases-sequence::read_items
decreases-sequence::read_items g l = 12 * l.level.now.room + 9

abbrev pub decreases-mapping::read_entries : goal.decreases-mapping::read_entries
decreases-mapping::read_entries g l = 12 * l.level.now.room + 9

abbrev pub invariant-sequence::read_items-items : goal.invariant-sequence::read_items-items
invariant-sequence::read_items-items g l =
    let cs = text_of l.source in
    let c = context_of l.level.context in
    record {
      border : IsBorder l.source l.here;
      onward : l.first ≤ l.here;
      within : l.most ≤ l.level.room;
      reads : (es : List Event) × Puts (holds_of g.K.Keeper.holds) l.fn.out es l.out
          × from_room l.most (λ room. any (spaced cs l.level.least c (item_at cs (Unit {0}) (handles_of l.level.handles) room l.level.least c) ◂ comma cs l.level.least c)) (place_of l.source l.first) (place_of l.source l.here) es;
      left : context_of l.level.context ≡ flow_in → PartsLeft cs l.level.least (item_at cs (Unit {0}) (handles_of l.level.handles) l.level.room l.level.least flow_in) 93 (place_of l.source l.first) (place_of l.source l.here);
    }

abbrev pub decreases-sequence::read_items-items : goal.decreases-sequence::read_items-items
decreases-sequence::read_items-items g l = length (bytes_of l.source) - l.here

abbrev pub invariant-mapping::read_entries-entries : goal.invariant-mapping::read_entries-entries
invariant-mapping::read_entries-entries g l =
    let cs = text_of l.source in
    let c = context_of l.level.context in
    record {
      border : IsBorder l.source l.here;
      onward : l.first ≤ l.here;
      within : l.most ≤ l.level.room;
      reads : (es : List Event) × Puts (holds_of g.K.Keeper.holds) l.fn.out es l.out
          × from_room l.most (λ room. any (spaced cs l.level.least c (entry_at cs (Unit {0}) (handles_of l.level.handles) room l.level.least c) ◂ comma cs l.level.least c)) (place_of l.source l.first) (place_of l.source l.here) es;
      left : context_of l.level.context ≡ flow_in → PartsLeft cs l.level.least (entry_at cs (Unit {0}) (handles_of l.level.handles) l.level.room l.level.least flow_in) 125 (place_of l.source l.first) (place_of l.source l.here);
    }

abbrev pub decreases-mapping::read_entries-entries : goal.decreases-mapping::read_entries-entries
decreases-mapping::read_entries-entries g l = length (bytes_of l.source) - l.here
