-- What the code's classes of characters are.
use Rattle.std.specs.Prelude.{ℕ, Bool}
use Rattle.yaml_definitions.specs.grammar.Characters.{is_ns, is_word, is_uri, is_tag}
use Rattle.yaml_definitions.specs.grammar.Tags.{is_name}
use Rattle.yaml_mark.specs.declared.runs.Class.{Class}
use Rattle.yaml_mark.specs.declared.runs.Class.TheVariants as code

abbrev pub class_of : Class → ℕ → Bool
class_of code.Solid = is_ns
class_of code.Name = is_name
class_of code.Word = is_word
class_of code.Uri = is_uri
class_of code.Tag = is_tag
