use Rattle.std.proofs.Common.{◌≡◌, ◌+◌, ◌-◌, ◌*◌, List, ◌∷◌, false, not, length, if◌then◌else◌}
use Rattle.yaml_definitions.specs.model.Event.{Event, stream_start}
use Rattle.yaml_text.specs.Source.{bytes_of, text_of, place_of}
use Rattle.yaml_text.specs.Lines.{AfterLine}
use Rattle.yaml_sink.specs.Held.{Puts}
use Rattle.yaml_sink.specs.SinkModel.{holds_of}
use Rattle.yaml_layout.specs.Lines.{IsLine}
use Rattle.yaml_read.specs.Sofar.{IsSofar}
use Rattle.yaml_read.proofs.LeftLemmas.{Leaves}
use Rattle.yaml_read.proofs.stream.read_pieces.Given as goal

abbrev pub invariant-pieces : goal.invariant-pieces
invariant-pieces g l =
    ((es : List Event) × Puts (holds_of g.K.Keeper.holds) l.fn.out es l.out × IsSofar (text_of l.source) l.is_open (place_of l.source l.line.start) (stream_start ∷ es))
    × IsLine l.source l.line
    × (l.is_open ≡ false → AfterLine (text_of l.source) (place_of l.source l.line.start))
    × Leaves (text_of l.source) (not l.is_open) (place_of l.source l.line.start)

abbrev pub decreases-pieces : goal.decreases-pieces
decreases-pieces g l = 2 * (length (bytes_of l.source) - l.line.start) + (if l.is_open then 0 else 1)
