-- When a text is not finished.
use Rattle.std.specs.Prelude.{ℕ, ◌<◌, List, length}
use Rattle.yaml_show_scalar.specs.declared.output.Out.{Out}
use Rattle.yaml_show_scalar.specs.declared.stop.Stop.{Stop}
use Rattle.yaml_show_scalar.specs.declared.stop.Stop.TheVariants.{TooLong, OutOfMemory}

-- the greatest number of bytes
abbrev pub limit_of : Out → ℕ
limit_of out = out.limit

-- What an error says where a text is to be this one: `TooLong`, that it has more bytes than the limit. Memory may be wanting at any text.
abbrev pub Stops : ℕ → List ℕ → Stop → Type 0
Stops limit text TooLong = limit < length text
Stops limit text OutOfMemory = Unit {0}
