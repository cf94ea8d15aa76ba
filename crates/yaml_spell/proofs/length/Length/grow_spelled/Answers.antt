use Rattle.std.proofs.Common.{◌<◌, ◌+◌, ◌∙◌, refl, ap, subst}
use Rattle.yaml_spell.specs.SinkViews.{len_of, limit_of}
use Rattle.yaml_spell.proofs.PieceLaws.{on_ok, if_err}
use Rattle.yaml_spell.proofs.QuotedLaws.{plain_long}
use Rattle.yaml_spell.proofs.length.Length.grow_spelled.Goals as goal

pub returns-then-is_unescaped-clause-ok : goal.returns-then-is_unescaped-clause-ok
returns-then-is_unescaped-clause-ok c =
    let e = plain_long c.args.content.now (c.if-is_unescaped.ensures.yes refl) in
    on_ok c.grow.result c.grow.ensures.ok (λ h. h ∙ ap (λ n. len_of c.args.self.now + n) e)

pub returns-then-is_unescaped-clause-err : goal.returns-then-is_unescaped-clause-err
returns-then-is_unescaped-clause-err c =
    let e = plain_long c.args.content.now (c.if-is_unescaped.ensures.yes refl) in
    if_err c.grow.result c.grow.ensures.err (λ stop h. (h.0, subst (λ n. limit_of c.args.self.now < len_of c.args.self.now + n) e h.1))
