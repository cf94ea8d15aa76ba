use Rattle.std.proofs.Common.{◌∷◌, ◌++◌, [], map, take, sym, ap, subst}
use Rattle.std.proofs.lemmas.List.{append-nil, take_all}
use Rattle.yaml_canon.specs.Streams.{Reached}
use Rattle.yaml_canon.proofs.StreamEnds.{one-behind}
use Rattle.yaml_canon.proofs.streams.put_streams.Goals as goal

pub loop-place-init : goal.loop-place-init
loop-place-init g c = λ before r. subst (λ z. Reached g.K.Keeper.holds z c.in-Ok.kept c.put_source.new.ends) (sym (append-nil before)) r

pub loop-place-preserved : goal.loop-place-preserved
loop-place-preserved g c = λ before r.
    let others = c.args.others.now in
    let k = c.loop-place.place in
    subst (λ z. Reached g.K.Keeper.holds z c.in-Ok-put_bytes.kept c.put_bytes.new.ends) (one-behind (λ it. it.now) before others k _ c.loop-place-test.true) (c.in-Ok-put_bytes.ensures (before ++ map (λ it. it.now) (take k others)) (c.loop-place.invariant before r))

pub returns : goal.returns
returns g c = λ bytes s r.
    subst (λ z. Reached g.K.Keeper.holds (bytes ∷ map (λ it. it.now) z) c.loop-place.kept c.loop-place.ends) (take_all c.loop-place.place c.args.others.now c.loop-place-test.false) (c.loop-place.invariant (bytes ∷ []) (c.in-Ok.ensures bytes s [] r))
