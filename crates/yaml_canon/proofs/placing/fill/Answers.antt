use Rattle.std.proofs.Common.{◌≤◌, map, length, sym, subst, rules}
use Rattle.yaml_spell.specs.Documents.{arranged_bytes}
use Rattle.yaml_spell.specs.RankedNodes.{tree_of}
use Rattle.yaml_canon.proofs.PlaceLaws.{ok_unless, of_ok}
use Rattle.yaml_spell.proofs.RoomLaws.{all_filled, never_short}
use Rattle.yaml_canon.proofs.placing.fill.Goals as goal

pub returns-clause-done : goal.returns-clause-done
returns-clause-done g c =
    let ts = map (tree_of g.V.RankedNodes.tree g.V.RankedNodes.number c.args.view.now) c.args.roots.now in
    let fits = subst (λ z. length (arranged_bytes ts) ≤ length z) (sym c.new-text.ensures.bytes) c.requires.fits in
    ok_unless c.write_ranked.result c.write_ranked.ensures.err (λ fault h. never_short c.new-text.result _ _ fault ts c.new-text.ensures.len fits h)

pub returns-clause-text : goal.returns-clause-text
returns-clause-text g c =
    let ts = map (tree_of g.V.RankedNodes.tree g.V.RankedNodes.number c.args.view.now) c.args.roots.now in
    let a = all_filled c.new-text.result c.write_ranked.new.sink _ _ ts c.new-text.ensures.len (of_ok c.write_ranked.result c.write_ranked.ensures.ok (returns-clause-done g c)) in
    let name = a.0 in
    let bytes = a.1 in
    let was = c.new-text.ensures.bytes in
    let same = c.new-text.ensures.name in
    search (rules, name, bytes, was, same)
