-- What a stream's bytes are read as (YAML 1.2.2, chapter 9).
use Rattle.std.specs.Prelude.{ℕ, List}
use Rattle.yaml_definitions.specs.model.Limits.{open_limit}
use Rattle.yaml_definitions.specs.model.Event.{Event}
use Rattle.yaml_definitions.specs.model.Text.{Text}
use Rattle.yaml_definitions.specs.grammar.Nodes.{wide}
use Rattle.yaml_definitions.specs.grammar.Streams.{ReadsText}

-- a stream with these events; at most `open_limit` collections are open
unfoldable pub Reads : List ℕ → List Event → Type 0
Reads bytes es = (cs : List ℕ) × Text bytes cs × ReadsText cs wide open_limit es
