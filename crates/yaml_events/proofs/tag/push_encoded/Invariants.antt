use Rattle.std.proofs.Common.{◌≡◌, ◌≤◌, ◌++◌, []}
use Rattle.percent_encoding.specs.Iter.{encoded_text}
use Rattle.yaml_definitions.specs.canonical.TagText.{encoded}
use Rattle.yaml_events.proofs.tag.push_encoded.Given as goal

abbrev pub invariant-encode : goal.invariant-encode
invariant-encode g l = record {
  text : g.S.Sink.bytes l.out ++ encoded_text l.piece-iterator ≡ g.S.Sink.bytes l.initial.out ++ encoded l.tag [];
  kept : g.S.Sink.room l.initial.out ≤ g.S.Sink.room l.out;
  lent : g.S.Sink.lent l.out ≡ g.S.Sink.lent l.initial.out;
}
