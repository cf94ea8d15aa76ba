use Rattle.std.proofs.Common.{◌≡◌, length, get_or, Some, refl, sym, arith}
use Rattle.std.specs.List.{slice_get}
use Rattle.std.proofs.lemmas.Bool.{ltb-true}
use Rattle.std.proofs.lemmas.Option.{slice_get_read}
use Rattle.yaml_store.proofs.Parts.{over-step, over-all}
use Rattle.yaml_store.proofs.store.height_over.Goals as goal

pub loop-part-preserved : goal.loop-part-preserved
loop-part-preserved c = λ ts e.
    let nodes = c.args.nodes.now in
    let parts = c.args.parts.now in
    let i = c.loop-part.part-index in
    let part = get_or parts i 0 in
    let n = c.in-Some.node.now in
    let there : slice_get nodes part ≡ Some n = slice_get_read nodes (length nodes) part n refl (ltb-true part (length nodes) (sym c.in-Some.ensures.lookup.0)) c.in-Some.ensures.lookup.1 in
    over-step nodes ts parts i 0 n c.loop-part.height c.max-height.result _ e there c.loop-part-test.true (c.loop-part.invariant ts e) c.max-height.ensures

pub returns : goal.returns
returns c = λ ts e.
    let all = over-all ts c.args.parts.now c.loop-part.part-index c.loop-part.height _ c.loop-part-test.false (c.loop-part.invariant ts e) in
    omega (arith, all, c.min.ensures, c.height_limit.ensures)
