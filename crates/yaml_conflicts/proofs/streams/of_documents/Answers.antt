use Rattle.std.proofs.Common.{refl, arith}
use Rattle.yaml_conflicts.proofs.StreamLaws.{stream-first, stream-next, stream-done}
use Rattle.yaml_conflicts.proofs.streams.of_documents.Goals as goal

pub loop-place-init : goal.loop-place-init
loop-place-init c = stream-first c.args.forests.now c.args.given c.args.roots.now c.none-found.result c.none-found.ensures.list c.none-found.ensures.whole

pub loop-place-preserved : goal.loop-place-preserved
loop-place-preserved c =
    let a = c.in_ok-add.ensures in
    stream-next c.args.forests.now c.args.given c.args.roots.now _ refl c.documents-sides.result c.loop-place.place c.loop-place.found c.in_ok-more.more c.add.new.found c.requires.paired c.loop-place.invariant c.documents-sides.ensures.are c.in_ok-more.ensures.ok c.in_ok-more.ensures.room a.list a.room a.whole

pub returns : goal.returns
returns c = record { ok = (stream-done c.args.forests.now c.args.given c.args.roots.now c.loop-place.place c.loop-place.found c.requires.paired (omega arith) c.loop-place.invariant) }
