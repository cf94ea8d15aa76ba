use Rattle.std.proofs.Common.{◌≡◌, ◌-◌, ◌<◌, ◌≤◌, [], length}
use Rattle.std.specs.Str.{chars}
use Rattle.std.specs.String.{string_bytes}
use Rattle.yaml_text.specs.Source.{text_of, place_of, IsBorder}
use Rattle.yaml_text.specs.EventModel.{context_of}
use Rattle.yaml_scalar.proofs.QuotedLemmas.{SingleState}
use Rattle.yaml_scalar.proofs.single.single_from.Given as goal

abbrev pub invariant-pieces : goal.invariant-pieces
invariant-pieces l =
    let place = place_of l.source in
    record {
      border : IsBorder l.source l.from;
      onward : l.at < l.from;
      later : l.start ≤ l.from;
      nothing : l.from ≡ l.start → chars (string_bytes l.text) ≡ [];
      state : SingleState (text_of l.source) l.least (context_of l.context) (place l.at) (place l.start) (place l.from) (chars (string_bytes l.text));
    }

abbrev pub decreases-pieces : goal.decreases-pieces
decreases-pieces l = length l.source.text.now - l.from
