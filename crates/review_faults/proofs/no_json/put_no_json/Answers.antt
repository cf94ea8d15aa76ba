use Rattle.std.proofs.Common.{string_bytes, subst}
use Rattle.review_faults.specs.NoJson.{TellsLacks}
use Rattle.review_faults.proofs.no_json.put_no_json.Goals as goal

pub returns-clause-ok : goal.returns-clause-ok
returns-clause-ok c = subst (λ z. TellsLacks c.args.name.now z (string_bytes c.args.out.now) (string_bytes c.put_lacks.new.out)) c.unmarked.ensures c.in_ok-put_lacks.ensures.ok
