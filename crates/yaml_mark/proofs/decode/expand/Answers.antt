use Rattle.std.proofs.Common.{◌++◌, sym, ap, ◌∙◌, arith}
use Rattle.yaml_definitions.specs.grammar.Tags.{percent_decode}
use Rattle.yaml_text.proofs.Tests.{on_true_at}
use Rattle.yaml_mark.proofs.DecodeLemmas.{if_ok, local_is, same_decoded}
use Rattle.yaml_mark.proofs.decode.expand.Goals as goal

pub returns-then-shorthand-suffix-eq1-clause-ok : goal.returns-then-shorthand-suffix-eq1-clause-ok
returns-then-shorthand-suffix-eq1-clause-ok c =
    let (handle, e) = c.requires in
    let all = c.args.shorthand.now in
    let p = on_true_at c.is_bang.result c.if-is_bang.true c.is_bang.ensures in
    if_ok c.decode.result (λ tag k text h. k ∙ same_decoded all text (local_is _ all c.args.suffix.now handle (λ n. absurd (omega (arith, n))) e c.if-shorthand-suffix-eq1.true ∙ ap (λ z. z ++ percent_decode c.args.suffix.now) (sym p) ∙ sym h)) c.decode.ensures.ok
