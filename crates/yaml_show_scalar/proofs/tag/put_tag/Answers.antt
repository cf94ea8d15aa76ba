use Rattle.std.proofs.Common.{◌++◌, refl, sym, ap, ◌∙◌}
use Rattle.std.proofs.lemmas.Result.{on_ok_weaker}
use Rattle.yaml_show_scalar.specs.Texts.{written}
use Rattle.yaml_show_scalar.proofs.StopLaws.{if_same}
use Rattle.yaml_show_scalar.proofs.TagLaws.{primary, not_primary}
use Rattle.yaml_show_scalar.proofs.tag.put_tag.Goals as goal

pub returns-in-Some-clause-ok : goal.returns-in-Some-clause-ok
returns-in-Some-clause-ok c = on_ok_weaker c.put_shorthand.result (λ e. e ∙ ap (λ z. written c.args.out.now ++ z) (primary c.args.tag.now c.in-Some.suffix.now (sym c.in-Some.ensures))) c.put_shorthand.ensures.ok

pub returns-in-None-clause-ok : goal.returns-in-None-clause-ok
returns-in-None-clause-ok c = on_ok_weaker c.put_other.result (λ e. e ∙ ap (λ z. written c.args.out.now ++ z) (not_primary c.args.tag.now (sym c.in-None.ensures))) c.put_other.ensures.ok

pub returns-in-Some-clause-err : goal.returns-in-Some-clause-err
returns-in-Some-clause-err c = if_same c.put_shorthand.result _ _ _ _ refl (ap (λ z. written c.args.out.now ++ z) (sym (primary c.args.tag.now c.in-Some.suffix.now (sym c.in-Some.ensures)))) c.put_shorthand.ensures.err

pub returns-in-None-clause-err : goal.returns-in-None-clause-err
returns-in-None-clause-err c = if_same c.put_other.result _ _ _ _ refl (ap (λ z. written c.args.out.now ++ z) (sym (not_primary c.args.tag.now (sym c.in-None.ensures)))) c.put_other.ensures.err
