use Rattle.yaml_json.specs.Reading.{Char}
use Rattle.yaml_json.proofs.Rules.{plain_read, none_behind}
use Rattle.yaml_json.proofs.string.after_char.Goals as goal

pub returns-then-is_unescaped-clause-some : goal.returns-then-is_unescaped-clause-some
returns-then-is_unescaped-clause-some c = plain_read _ _ _ _ c.in_ok-c.ensures.some c.is_unescaped.ensures c.if-is_unescaped.true

pub returns-clause-none : goal.returns-clause-none
returns-clause-none c = none_behind Char _ _ _ _ _ c.in_ok-c.ensures.some c.if-c-ne92.false c.after_escape.ensures.none
