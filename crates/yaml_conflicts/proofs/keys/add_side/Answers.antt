use Rattle.std.proofs.Common.{sym, subst}
use Rattle.std.proofs.lemmas.Result.{on_ok_weaker}
use Rattle.yaml_diff.specs.Found.{Within}
use Rattle.yaml_conflicts.specs.Keys.{HasSide}
use Rattle.yaml_conflicts.proofs.KeyLaws.{keys-within, keys-side}
use Rattle.yaml_conflicts.proofs.keys.add_side.Goals as goal

pub add_keys-requires-clause-entries : goal.add_keys-requires-clause-entries
add_keys-requires-clause-entries c =
    let g = c.args.forests.now in
    keys-within g c.laws.ensures c.in-Some.id (subst (Within g) c.in-Some.is c.requires.side) c.entries_of.result.now c.entries_of.ensures

pub returns-clause-side : goal.returns-clause-side
returns-clause-side c =
    let g = c.args.forests.now in
    let new = c.add_keys.new.keys.items in
    let l = subst (Within g) c.in-Some.is c.requires.side in
    on_ok_weaker c.add_keys.result (λ k. subst (λ z. HasSide g z new) (sym c.in-Some.is) (keys-side g c.laws.ensures c.in-Some.id l c.entries_of.result.now c.entries_of.ensures new k)) c.add_keys.ensures.keys
