use Rattle.std.proofs.Common.{sym}
use Rattle.std.proofs.lemmas.Result.{on_ok_weaker}
use Rattle.yaml_show_scalar.proofs.ScalarLaws.{str_own, string_quoted}
use Rattle.yaml_show_scalar.proofs.scalar.put_string.Goals as goal

pub returns-clause-ok : goal.returns-clause-ok
returns-clause-ok c = on_ok_weaker c.put_quoted.result (λ h. string_quoted c.args.quotes _ _ _ _ _ _ str_own (sym c.if-stands_plain.ensures) c.in_ok-put_tag_before.ensures.ok h) c.put_quoted.ensures.ok
