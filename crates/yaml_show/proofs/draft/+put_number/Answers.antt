use Rattle.std.proofs.Common.{sym, ◌∙◌, arith}
use Rattle.std.proofs.lemmas.Fmt.{decimal_step}
use Rattle.yaml_show.proofs.DraftLaws.{adds_as, adds_then}
use Rattle.yaml_show.proofs.SharingLaws.{last_digit}
use Rattle.yaml_show.proofs.draft.+put_number.Goals as goal

pub returns-then-number-lt10 : goal.returns-then-number-lt10
returns-then-number-lt10 t c = adds_as _ _ _ _ (c.digit.ensures ∙ last_digit c.args.number (omega arith)) c.put.ensures

pub returns : goal.returns
returns t c = adds_as _ _ _ _ (sym (decimal_step c.args.number (omega arith) (omega arith))) (adds_then _ _ _ _ _ c.put_number.ensures (adds_as _ _ _ _ c.digit-2.ensures c.put-2.ensures))
