-- The kinds of nodes.
use Rattle.std.specs.Prelude.{ℕ}
use Rattle.yaml_spell.specs.declared.parts.Kind.{Kind}
use Rattle.yaml_spell.specs.declared.parts.Kind.TheVariants.{Scalar, Sequence, Mapping}
use Rattle.yaml_definitions.specs.model.Tree.{a_scalar, a_sequence, a_mapping}

-- its place in the order of kinds
abbrev pub number_of_kind : Kind → ℕ
number_of_kind Scalar = a_scalar
number_of_kind Sequence = a_sequence
number_of_kind Mapping = a_mapping
