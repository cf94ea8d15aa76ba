-- The kinds of values.
use Rattle.std.specs.Prelude.{ℕ, List, if◌then◌else◌, bytes_eq}
use Rattle.yaml_definitions.specs.model.Tag.{null_tag, bool_tag, int_tag, float_tag, str_tag}

-- null, Boolean, integer, float, string, and a scalar of another tag
abbrev pub scalar_kind : List ℕ → ℕ
scalar_kind tag =
    if bytes_eq tag null_tag then 0 else if bytes_eq tag bool_tag then 1 else if bytes_eq tag int_tag then 2 else if bytes_eq tag float_tag then 3
    else if bytes_eq tag str_tag then 4 else 5

abbrev pub a_sequence : ℕ
a_sequence = 6

abbrev pub a_mapping : ℕ
a_mapping = 7
