use Rattle.std.proofs.lemmas.Result.{on_ok_weaker}
use Rattle.yaml_show_scalar.proofs.ScalarLaws.{str_own, behind_tag}
use Rattle.yaml_show_scalar.proofs.scalar.put_folded_string.Goals as goal

pub returns-clause-ok : goal.returns-clause-ok
returns-clause-ok c = on_ok_weaker c.put_folded.result (λ h. behind_tag _ _ _ _ _ _ str_own c.in_ok-put_tag_before.ensures.ok h) c.put_folded.ensures.ok
