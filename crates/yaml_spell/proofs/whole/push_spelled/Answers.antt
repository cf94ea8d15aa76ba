use Rattle.std.proofs.Common.{◌++◌, refl, sym, ◌∙◌, ap}
use Rattle.std.specs.String.{string_bytes}
use Rattle.yaml_spell.proofs.PieceLaws.{on_ok}
use Rattle.yaml_spell.proofs.whole.push_spelled.Goals as goal

pub returns-then-is_unescaped-clause-ok : goal.returns-then-is_unescaped-clause-ok
returns-then-is_unescaped-clause-ok c =
    on_ok c.push_quoted.result c.push_quoted.ensures.ok (λ h. h ∙ ap (λ z. string_bytes c.args.out.now ++ z) (sym (c.if-is_unescaped.ensures.yes refl)))
