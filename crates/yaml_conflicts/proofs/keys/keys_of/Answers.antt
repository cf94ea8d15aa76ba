use Rattle.std.specs.Prelude.{None}
use Rattle.yaml_conflicts.proofs.KeyLaws.{covers-of, covers-all, side-kept, none-has, no-keys}
use Rattle.yaml_conflicts.proofs.keys.keys_of.Goals as goal

pub add_side-requires-clause-covers : goal.add_side-requires-clause-covers
add_side-requires-clause-covers c = let g = c.args.forests.now in let x = none-has g c.new-keys.result.items in covers-of g None None None None c.new-keys.result.items x x x x

pub add_side-requires-clause-keys : goal.add_side-requires-clause-keys
add_side-requires-clause-keys c = no-keys c.args.forests.now c.new-keys.result.items c.new-keys.ensures.items

pub add_side-requires-2-clause-covers : goal.add_side-requires-2-clause-covers
add_side-requires-2-clause-covers c =
    let g = c.args.forests.now in
    let xs = c.add_side.new.keys.items in
    let n = none-has g xs in
    covers-of g c.args.sides.base None None None xs c.in_ok-add_side.ensures.side n n n

pub add_side-requires-2-clause-keys : goal.add_side-requires-2-clause-keys
add_side-requires-2-clause-keys c = c.in_ok-add_side.ensures.adds.within

pub add_side-requires-3-clause-covers : goal.add_side-requires-3-clause-covers
add_side-requires-3-clause-covers c =
    let g = c.args.forests.now in
    let s = c.args.sides in
    let xs = c.add_side.new.keys.items in
    let ys = c.add_side-2.new.keys.items in
    let n = none-has g ys in
    covers-of g s.base s.ours None None ys (side-kept g s.base xs ys c.in_ok-add_side-2.ensures.adds c.in_ok-add_side.ensures.side) c.in_ok-add_side-2.ensures.side n n

pub add_side-requires-3-clause-keys : goal.add_side-requires-3-clause-keys
add_side-requires-3-clause-keys c = c.in_ok-add_side-2.ensures.adds.within

pub add_side-requires-4-clause-covers : goal.add_side-requires-4-clause-covers
add_side-requires-4-clause-covers c =
    let g = c.args.forests.now in
    let s = c.args.sides in
    let xs = c.add_side.new.keys.items in
    let ys = c.add_side-2.new.keys.items in
    let zs = c.add_side-3.new.keys.items in
    let b = side-kept g s.base ys zs c.in_ok-add_side-3.ensures.adds (side-kept g s.base xs ys c.in_ok-add_side-2.ensures.adds c.in_ok-add_side.ensures.side) in
    covers-of g s.base s.ours s.theirs None zs b (side-kept g s.ours ys zs c.in_ok-add_side-3.ensures.adds c.in_ok-add_side-2.ensures.side) c.in_ok-add_side-3.ensures.side (none-has g zs)

pub add_side-requires-4-clause-keys : goal.add_side-requires-4-clause-keys
add_side-requires-4-clause-keys c = c.in_ok-add_side-3.ensures.adds.within

pub returns-clause-covers : goal.returns-clause-covers
returns-clause-covers c =
    let g = c.args.forests.now in
    let s = c.args.sides in
    let xs = c.add_side.new.keys.items in
    let ys = c.add_side-2.new.keys.items in
    let zs = c.add_side-3.new.keys.items in
    let ws = c.add_side-4.new.keys.items in
    let a = c.in_ok-add_side-4.ensures.adds in
    let b = side-kept g s.base zs ws a (side-kept g s.base ys zs c.in_ok-add_side-3.ensures.adds (side-kept g s.base xs ys c.in_ok-add_side-2.ensures.adds c.in_ok-add_side.ensures.side)) in
    let o = side-kept g s.ours zs ws a (side-kept g s.ours ys zs c.in_ok-add_side-3.ensures.adds c.in_ok-add_side-2.ensures.side) in
    covers-all g s ws b o (side-kept g s.theirs zs ws a c.in_ok-add_side-3.ensures.side) c.in_ok-add_side-4.ensures.side

pub returns-clause-within : goal.returns-clause-within
returns-clause-within c = c.in_ok-add_side-4.ensures.adds.within
