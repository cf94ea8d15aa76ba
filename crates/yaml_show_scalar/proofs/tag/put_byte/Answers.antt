use Rattle.std.proofs.Common.{◌++◌, refl, arith, sym, ◌∙◌, ap}
use Rattle.std.proofs.lemmas.Result.{on_ok_weaker}
use Rattle.yaml_show_scalar.specs.Texts.{written}
use Rattle.yaml_show_scalar.proofs.StopLaws.{if_same}
use Rattle.yaml_show_scalar.proofs.TagLaws.{byte_itself, byte_escaped}
use Rattle.yaml_show_scalar.proofs.tag.put_byte.Goals as goal

pub returns-then-is_tag_byte-clause-ok : goal.returns-then-is_tag_byte-clause-ok
returns-then-is_tag_byte-clause-ok c =
    on_ok_weaker c.put.result (λ h. h ∙ ap (λ z. written c.args.out.now ++ z) (c.encode_utf8.ensures.value ∙ byte_itself c.args.byte c.from-c.result c.from-c.ensures (sym c.if-is_tag_byte.ensures))) c.put.ensures.ok

pub returns-clause-ok : goal.returns-clause-ok
returns-clause-ok c =
    on_ok_weaker c.put_percent.result (λ h. h ∙ ap (λ z. written c.args.out.now ++ z) (byte_escaped c.args.byte (sym c.if-is_tag_byte.ensures) (omega arith))) c.put_percent.ensures.ok

pub returns-then-is_tag_byte-clause-err : goal.returns-then-is_tag_byte-clause-err
returns-then-is_tag_byte-clause-err c =
    if_same c.put.result _ _ _ _ refl (ap (λ z. written c.args.out.now ++ z) (sym (c.encode_utf8.ensures.value ∙ byte_itself c.args.byte c.from-c.result c.from-c.ensures (sym c.if-is_tag_byte.ensures)))) c.put.ensures.err

pub returns-clause-err : goal.returns-clause-err
returns-clause-err c =
    if_same c.put_percent.result _ _ _ _ refl (ap (λ z. written c.args.out.now ++ z) (sym (byte_escaped c.args.byte (sym c.if-is_tag_byte.ensures) (omega arith)))) c.put_percent.ensures.err
