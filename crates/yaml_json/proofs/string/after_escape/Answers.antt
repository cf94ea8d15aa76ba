use Rattle.std.proofs.Common.{◌∷◌}
use Rattle.yaml_json.specs.Reading.{Char}
use Rattle.yaml_json.proofs.Rules.{escaped_read, none_behind}
use Rattle.yaml_json.proofs.string.after_escape.Goals as goal

pub returns-then-is_escaped-clause-some : goal.returns-then-is_escaped-clause-some
returns-then-is_escaped-clause-some c = escaped_read _ _ _ _ c.in_ok-c.ensures.some c.is_escaped.ensures c.if-is_escaped.true

pub returns-clause-none : goal.returns-clause-none
returns-clause-none c = none_behind (λ s. Char (92 ∷ s)) _ _ _ _ _ c.in_ok-c.ensures.some c.if-c-ne117.false c.after_code_point.ensures.none
