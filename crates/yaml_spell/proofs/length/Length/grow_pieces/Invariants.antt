use Rattle.std.proofs.Common.{◌≡◌, length}
use denote.Shadow.{shadow}
use denote.Text.{Utf8}
use Rattle.yaml_spell.specs.SinkViews.{len_of, limit_of}
use Rattle.yaml_spell.proofs.QuotedLaws.{Measured}
use Rattle.yaml_spell.proofs.length.Length.grow_pieces.Given as goal

abbrev pub invariant-measure : goal.invariant-measure
invariant-measure l = (limit_of l.self ≡ limit_of l.fn.self) × Measured (len_of l.fn.self) (len_of l.self) l.content l.rest × shadow (Utf8 l.rest)

abbrev pub decreases-measure : goal.decreases-measure
decreases-measure l = length l.rest
