use Rattle.std.proofs.Common.{arith}
use Rattle.yaml_unified.proofs.PieceLaws.{texts_next, texts_all, change_next}
use Rattle.yaml_unified.proofs.printed.put_script.Goals as goal

pub loop-place-preserved : goal.loop-place-preserved
loop-place-preserved c =
    let v = c.loop-place.invariant in
    record {
      put = texts_next _ _ _ c.loop-place.place _ _ _ _ (omega arith) v.put c.in_ok-put_place.ensures.ok;
      behind = change_next _ c.loop-place.place _ _ _ (omega arith) v.behind c.or_change-is_behind.ensures;
    }

pub returns : goal.returns
returns c = record { ok = (texts_all _ _ _ c.loop-place.place _ _ (omega arith) c.loop-place.invariant.put) }
