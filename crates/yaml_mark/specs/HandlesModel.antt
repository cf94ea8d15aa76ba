-- What the handles of a document are as plain values.
use Rattle.std.specs.Prelude.{[], map, Option, Some, None}
use Rattle.std.specs.Borrow.{Bor}
use Rattle.yaml_definitions.specs.grammar.Tags as grammar
use Rattle.yaml_mark.specs.declared.handles.Handles.{Handles}

-- each handle with its prefix, in the order of their directives
abbrev pub bindings_of : Handles → grammar.Handles
bindings_of handles = map (λ b. (b.0.now, b.1.now)) handles.bindings.items

-- without directives there are the default handles alone
abbrev pub handles_of : Option (Bor Handles) → grammar.Handles
handles_of None = []
handles_of (Some handles) = bindings_of handles.now
