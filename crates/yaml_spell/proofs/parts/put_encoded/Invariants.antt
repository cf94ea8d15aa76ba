use Rattle.yaml_spell.proofs.PartLaws.{Encoded}
use Rattle.yaml_spell.proofs.parts.put_encoded.Given as goal

abbrev pub invariant-loop-byte : goal.invariant-loop-byte
invariant-loop-byte g l = Encoded g.S.Sink.holds l.fn.sink l.fn.out l.sink l.out l.tag l.byte-index
