use Rattle.std.specs.String.{string_bytes}
use Rattle.yaml_values.specs.Making.{AreMade}
use Rattle.yaml_values.proofs.making.values_of.Given as goal

abbrev pub invariant-loop-number : goal.invariant-loop-number
invariant-loop-number l = AreMade l.ranked l.roots l.parts.items (string_bytes l.texts) l.values.items l.number
