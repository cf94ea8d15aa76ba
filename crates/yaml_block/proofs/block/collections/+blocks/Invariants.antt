use Rattle.std.proofs.Common.{ℕ, ◌+◌, ◌*◌, ◌-◌, ◌<◌, ◌≤◌, List, ◌∷◌, ◌++◌, length, false}
use Rattle.yaml_definitions.specs.model.Event.{Event}
use Rattle.yaml_text.specs.Source.{bytes_of, text_of, place_of}
use Rattle.yaml_definitions.specs.grammar.Events.{seq_start}
use Rattle.yaml_mark.specs.HandlesModel.{handles_of}
use Rattle.yaml_sink.specs.Held.{Puts}
use Rattle.yaml_sink.specs.SinkModel.{holds_of}
use Rattle.yaml_sink.specs.PropertyRules.{props_of}
use Rattle.yaml_definitions.specs.grammar.Rules.{◌▸◌, any}
use Rattle.yaml_definitions.specs.grammar.Separation.{block_out, s-indent as indent}
use Rattle.law_going_on.specs.GoingOn.{Refused, Goes, Rest, Here}
use Rattle.yaml_block.specs.BlockEnds.{AfterNode, AfterEntry, AfterSequence, AfterMapping}
use Rattle.yaml_block.specs.BlockCalls.{StartsInside}
use Rattle.yaml_block.specs.BlockRules.{value_rest, entry_rest, entries_rest, sequence_with, seq_body}
use Rattle.yaml_block.proofs.BlockLemmas.{seq_entry_at, map_entry_at}
use Rattle.yaml_block.proofs.block.collections.+blocks.Given as goal

abbrev pub decreases-read_opened : goal.decreases-read_opened
decreases-read_opened g l = 4 * l.level.now.room + 2

abbrev pub decreases-read_sequence : goal.decreases-read_sequence
decreases-read_sequence g l = 4 * l.level.now.room + 1

abbrev pub decreases-read_entries : goal.decreases-read_entries
decreases-read_entries g l = 4 * l.level.now.room + 1

abbrev pub invariant-read_sequence-entries : goal.invariant-read_sequence-entries
invariant-read_sequence-entries g l =
    record {
      inside : StartsInside l.source l.level l.first.column l.after;
      onward : l.first.at < l.after;
      reads : (es : List Event) × Puts (holds_of g.K.Keeper.holds) l.fn.out (seq_start false (props_of l.fn.properties) ∷ es) l.out
          × ((j : ℕ) (vs : List Event) → entry_rest (text_of l.source) (Unit {0}) (handles_of l.level.handles) (l.level.room - 1) l.first.column (place_of l.source l.after) j vs
          → seq_body (text_of l.source) (Unit {0}) (handles_of l.level.handles) (l.level.room - 1) l.first.column (place_of l.source l.first.at) j (es ++ vs));
      goes : (x : ℕ) → Goes (entry_rest (text_of l.source) (Unit {0}) (handles_of l.level.handles) (l.level.room - 1) l.first.column) (AfterEntry (text_of l.source) l.first.column) (place_of l.source l.after) Here x
          → Rest (sequence_with (text_of l.source) (Unit {0}) (handles_of l.level.handles) (props_of l.fn.properties) l.level.room l.first.column) (AfterSequence (text_of l.source) l.first.column) (place_of l.source l.first.at)
          (any (indent (text_of l.source) l.first.column ▸ seq_entry_at (text_of l.source) (Unit {0}) (handles_of l.level.handles) (l.level.room - 1) l.first.column)) (AfterSequence (text_of l.source) l.first.column) x;
      none : Refused (entry_rest (text_of l.source) (Unit {0}) (handles_of l.level.handles) (l.level.room - 1) l.first.column) (AfterEntry (text_of l.source) l.first.column) (place_of l.source l.after)
          → Refused (sequence_with (text_of l.source) (Unit {0}) (handles_of l.level.handles) (props_of l.fn.properties) l.level.room l.first.column) (AfterSequence (text_of l.source) l.first.column) (place_of l.source l.first.at);
    }

abbrev pub decreases-read_sequence-entries : goal.decreases-read_sequence-entries
decreases-read_sequence-entries g l = length (bytes_of l.source) - l.after

abbrev pub invariant-read_entries-entries : goal.invariant-read_entries-entries
invariant-read_entries-entries g l =
    record {
      inside : StartsInside l.source l.level l.column l.colon;
      onward : l.after ≤ l.colon;
      reads : (es : List Event) × Puts (holds_of g.K.Keeper.holds) l.fn.out es l.out
          × ((j : ℕ) (vs : List Event) → value_rest (text_of l.source) (Unit {0}) (handles_of l.level.handles) (l.level.room - 1) (l.column + 1) block_out (place_of l.source l.colon) j vs
          → entries_rest (text_of l.source) (Unit {0}) (handles_of l.level.handles) (l.level.room - 1) l.column (place_of l.source l.after) j (es ++ vs));
      goes : (x : ℕ) → Goes (value_rest (text_of l.source) (Unit {0}) (handles_of l.level.handles) (l.level.room - 1) (l.column + 1) block_out) (AfterNode (text_of l.source) (l.column + 1) block_out) (place_of l.source l.colon) Here x
          → Rest (entries_rest (text_of l.source) (Unit {0}) (handles_of l.level.handles) (l.level.room - 1) l.column) (AfterMapping (text_of l.source) l.column) (place_of l.source l.after)
          (any (indent (text_of l.source) l.column ▸ map_entry_at (text_of l.source) (Unit {0}) (handles_of l.level.handles) (l.level.room - 1) l.column)) (AfterMapping (text_of l.source) l.column) x;
      none : Refused (value_rest (text_of l.source) (Unit {0}) (handles_of l.level.handles) (l.level.room - 1) (l.column + 1) block_out) (AfterNode (text_of l.source) (l.column + 1) block_out) (place_of l.source l.colon)
          → Refused (entries_rest (text_of l.source) (Unit {0}) (handles_of l.level.handles) (l.level.room - 1) l.column) (AfterMapping (text_of l.source) l.column) (place_of l.source l.after);
    }

abbrev pub decreases-read_entries-entries : goal.decreases-read_entries-entries
decreases-read_entries-entries g l = length (bytes_of l.source) - l.colon
