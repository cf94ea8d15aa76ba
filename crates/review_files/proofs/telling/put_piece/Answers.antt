use Rattle.std.proofs.Common.{subst, arith}
use Rattle.std.proofs.lemmas.Grind.{common_steps}
use Rattle.yaml_spell.proofs.Streams.{appends_none, appends_piece}
use Rattle.review_files.specs.Lines.{TakesLine}
use Rattle.review_files.proofs.LineLaws.{takes_some, takes_kept}
use Rattle.review_files.proofs.telling.put_piece.Goals as goal

pub write-init : goal.write-init
write-init g c = (appends_none (g.E.Write.contents c.args.err.now), omega arith)

pub write-preserved : goal.write-preserved
write-preserved g c = (appends_piece _ _ _ _ _ _ c.write.invariant.0 c.in-Ok.ensures.bytes, grind (arith, common_steps))

pub returns-then-took-eq0-clause-some : goal.returns-then-took-eq0-clause-some
returns-then-took-eq0-clause-some g c =
    let told = g.E.Write.contents in
    let old = c.args.err.now in
    let new = c.write-in-write.new.self in
    subst (TakesLine told old new) c.as_bytes-bytes.ensures.value (takes_some told old new c.as_bytes-bytes.result.now _ (appends_piece _ _ _ c.as_bytes-bytes.result.now c.write.at c.in-Ok.took c.write.invariant.0 c.in-Ok.ensures.bytes))

pub returns-in-Err-clause-some : goal.returns-in-Err-clause-some
returns-in-Err-clause-some g c =
    let told = g.E.Write.contents in
    let old = c.args.err.now in
    let new = c.write-in-write.new.self in
    subst (TakesLine told old new) c.as_bytes-bytes.ensures.value (takes_kept told old c.write.err new c.as_bytes-bytes.result.now c.write.at c.write.invariant.0 c.in-Err.ensures.bytes)
