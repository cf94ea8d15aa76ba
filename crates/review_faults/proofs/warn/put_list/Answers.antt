use Rattle.std.proofs.Common.{◌++◌, ◌∙◌, ap, arith}
use Rattle.std.specs.String.{string_bytes}
use Rattle.review_text.proofs.Pieces.{flat_next, flat_all}
use Rattle.review_faults.specs.Warned.{warning_text}
use Rattle.review_faults.proofs.warn.put_list.Goals as goal

pub loop-warning-preserved : goal.loop-warning-preserved
loop-warning-preserved c =
    let put = c.in_ok-put_warning.ensures.ok ∙ ap (λ z. string_bytes c.loop-warning.out ++ warning_text c.args.form c.args.name.now z) c.warning-item.is in
    flat_next (warning_text c.args.form c.args.name.now) c.args.list.now c.loop-warning.warning-index c.warning-item.result _ _ _ (omega arith) c.loop-warning.invariant put

pub returns : goal.returns
returns c = record { ok = (flat_all (warning_text c.args.form c.args.name.now) c.args.list.now c.loop-warning.warning-index _ _ (omega arith) c.loop-warning.invariant) }
