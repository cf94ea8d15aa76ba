use Rattle.std.proofs.Common.{◌∙◌, ap, get_or, arith}
use Rattle.yaml_show_scalar.proofs.TextLaws.{leads_next, leads_here, leads_never}
use Rattle.yaml_show_scalar.proofs.scalar.leads_blank.Goals as goal

pub returns-then-byte-ne10 : goal.returns-then-byte-ne10
returns-then-byte-ne10 c =
    c.is_white.ensures ∙ leads_here c.args.content.now c.loop-byte.byte-index _ (omega arith, ap (λ z. get_or z c.loop-byte.byte-index 0) c.as_bytes-byte-items.ensures.value) (λ e. omega (arith, e)) c.loop-byte.invariant

pub loop-byte-preserved : goal.loop-byte-preserved
loop-byte-preserved c = leads_next c.args.content.now c.loop-byte.byte-index _ (omega arith, ap (λ z. get_or z c.loop-byte.byte-index 0) c.as_bytes-byte-items.ensures.value) (omega arith) c.loop-byte.invariant

pub returns : goal.returns
returns c = leads_never c.args.content.now c.loop-byte.byte-index (omega arith) c.loop-byte.invariant
