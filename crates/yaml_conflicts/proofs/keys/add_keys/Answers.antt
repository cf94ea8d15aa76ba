use Rattle.std.proofs.Common.{◌<◌, length, get_or, arith}
use Rattle.std.proofs.lemmas.Option.{slice_get-get_or}
use Rattle.yaml_tree.specs.declared.node.NodeId.{NodeId}
use Rattle.yaml_conflicts.proofs.KeyLaws.{keys-first, keys-next, covers-kept}
use Rattle.yaml_conflicts.proofs.keys.add_keys.Goals as goal

pub loop-key-init : goal.loop-key-init
loop-key-init c = keys-first c.args.forests.now c.args.entries.now c.args.keys.now.items c.requires.keys

pub add_key-requires-clause-key : goal.add_key-requires-clause-key
add_key-requires-clause-key c =
    let xs = c.args.entries.now in
    let at = c.loop-key.key-index in
    let d : NodeId × NodeId = (record { 0 = 0 }, record { 0 = 0 }) in
    let l : at < length xs = omega arith in
    c.requires.entries at (get_or xs at d) (slice_get-get_or xs at d l)

pub add_key-requires-clause-covers : goal.add_key-requires-clause-covers
add_key-requires-clause-covers c = covers-kept c.args.forests.now c.args.earlier c.args.keys.now.items c.loop-key.keys.items c.loop-key.invariant.adds c.requires.covers

pub add_key-requires-clause-keys : goal.add_key-requires-clause-keys
add_key-requires-clause-keys c = c.loop-key.invariant.adds.within

pub loop-key-preserved : goal.loop-key-preserved
loop-key-preserved c =
    let xs = c.args.entries.now in
    let at = c.loop-key.key-index in
    let d : NodeId × NodeId = (record { 0 = 0 }, record { 0 = 0 }) in
    let l : at < length xs = omega arith in
    keys-next c.args.forests.now xs c.args.keys.now.items c.loop-key.keys.items c.add_key.new.keys.items at (get_or xs at d) (slice_get-get_or xs at d l) c.loop-key.invariant c.in_ok-add_key.ensures.adds c.in_ok-add_key.ensures.stands

pub returns-clause-adds : goal.returns-clause-adds
returns-clause-adds c = c.loop-key.invariant.adds

pub returns-clause-keys : goal.returns-clause-keys
returns-clause-keys c = λ k p l e. c.loop-key.invariant.keys k p (omega (arith, l)) e
