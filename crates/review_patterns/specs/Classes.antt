-- Which bytes go on a text that is read byte by byte.
use Rattle.std.specs.Prelude.{ℕ, Bool, not}
use Rattle.review_patterns.specs.Grammar.{is_name_byte, begins_step}
use Rattle.review_patterns.specs.declared.name.Class.{Class}
use Rattle.review_patterns.specs.declared.name.Class.TheVariants.{Name, Document}

abbrev pub passes : Class → ℕ → Bool
passes Name c = is_name_byte c
passes Document c = not (begins_step c)
