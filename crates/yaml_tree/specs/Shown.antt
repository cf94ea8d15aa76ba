-- What a node shows, with its parts by number.
use Rattle.std.specs.Prelude.{ℕ, map}
use Rattle.yaml_tree.specs.View.{content, items, entries}
use Rattle.yaml_tree.specs.View as view
use Rattle.yaml_tree.specs.declared.shown.Inside.{Inside}
use Rattle.yaml_tree.specs.declared.shown.Inside.TheVariants as shown

-- what is inside a node, with its parts by number
abbrev pub inside_shown : {I : Type 0} → (I → ℕ) → Inside I → view.Inside
inside_shown number (shown.Scalar x) = content x.now
inside_shown number (shown.Sequence is) = items (map number is.now)
inside_shown number (shown.Mapping es) = entries (map (λ p. (number p.0, number p.1)) es.now)
