use Rattle.std.proofs.Common.{◌≡◌, ◌≤◌, ◌-◌, ◌++◌, length, take, drop}
use Rattle.std.specs.Str.{IsCharBoundary}
use Rattle.yaml_definitions.specs.model.EventText.{value_text}
use Rattle.yaml_events.proofs.value.push_value.Given as goal

abbrev pub invariant-spell : goal.invariant-spell
invariant-spell g l = record {
  run : l.run ≤ l.at;
  within : l.at ≤ length l.text;
  border : IsCharBoundary l.text l.run;
  spells : g.S.Sink.bytes l.out ++ take (l.at - l.run) (drop l.run l.text) ≡ g.S.Sink.bytes l.initial.out ++ value_text (take l.at l.text);
  kept : g.S.Sink.room l.initial.out ≤ g.S.Sink.room l.out;
  lent : g.S.Sink.lent l.out ≡ g.S.Sink.lent l.initial.out;
}

abbrev pub decreases-spell : goal.decreases-spell
decreases-spell g l = length l.text - l.at
