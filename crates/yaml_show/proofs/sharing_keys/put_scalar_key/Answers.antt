use Rattle.std.proofs.Common.{◌∙◌}
use Rattle.yaml_spell.specs.NamesView.{given_of}
use Rattle.yaml_spell.proofs.WriteLaws.{given_alias, given_anchored, given_plain}
use Rattle.yaml_show.proofs.DraftLaws.{adds_as, adds_then, adds_three}
use Rattle.yaml_show.proofs.SharingLaws.{key_by_alias, key_by_anchor, key_by_plain, scalar_given}
use Rattle.yaml_show.proofs.sharing_keys.put_scalar_key.Goals as goal

pub returns-in-Alias-clause-known : goal.returns-in-Alias-clause-known
returns-in-Alias-clause-known g c =
    let N = g.V.RankedNodes.number in
    let v = c.args.view.now in
    let R = g.V.RankedNodes.rank v in
    let T = g.V.RankedNodes.tree v in
    let t = T (N c.args.id) in
    let p = given_of c.args.names.now in
    let o = c.open_node-opening.ensures.opening in
    let q = c.open_node-opening.ensures.given in
    q ∙ given_alias R t p _ c.in-Alias.number o c.in-Alias.is

pub returns-in-Alias-clause-adds : goal.returns-in-Alias-clause-adds
returns-in-Alias-clause-adds g c =
    let N = g.V.RankedNodes.number in
    let v = c.args.view.now in
    let R = g.V.RankedNodes.rank v in
    let T = g.V.RankedNodes.tree v in
    let t = T (N c.args.id) in
    let p = given_of c.args.names.now in
    let o = c.open_node-opening.ensures.opening in
    let q = c.open_node-opening.ensures.given in
    adds_as _ _ _ _ (key_by_alias R t _ _ c.requires.scalar p _ _ o q c.in-Alias.number c.in-Alias.is) (adds_then _ _ _ _ _ c.put_alias.ensures c.put.ensures)

pub returns-in-Anchored-clause-known : goal.returns-in-Anchored-clause-known
returns-in-Anchored-clause-known g c =
    let N = g.V.RankedNodes.number in
    let v = c.args.view.now in
    let R = g.V.RankedNodes.rank v in
    let T = g.V.RankedNodes.tree v in
    let t = T (N c.args.id) in
    let p = given_of c.args.names.now in
    let o = c.open_node-opening.ensures.opening in
    let q = c.open_node-opening.ensures.given in
    q ∙ scalar_given R t _ _ _ c.requires.scalar ∙ given_anchored R t p _ c.in-Anchored.number o c.in-Anchored.is

pub returns-in-Anchored-clause-adds : goal.returns-in-Anchored-clause-adds
returns-in-Anchored-clause-adds g c =
    let N = g.V.RankedNodes.number in
    let v = c.args.view.now in
    let R = g.V.RankedNodes.rank v in
    let T = g.V.RankedNodes.tree v in
    let t = T (N c.args.id) in
    let p = given_of c.args.names.now in
    let o = c.open_node-opening.ensures.opening in
    let q = c.open_node-opening.ensures.given in
    adds_as _ _ _ _ (key_by_anchor R t _ _ c.requires.scalar p _ _ o q c.in-Anchored.number c.in-Anchored.is) (adds_three _ _ _ _ _ _ _ c.put_anchor.ensures c.put-in-Anchored.ensures c.put_scalar.ensures)

pub returns-in-Plain-clause-known : goal.returns-in-Plain-clause-known
returns-in-Plain-clause-known g c =
    let N = g.V.RankedNodes.number in
    let v = c.args.view.now in
    let R = g.V.RankedNodes.rank v in
    let T = g.V.RankedNodes.tree v in
    let t = T (N c.args.id) in
    let p = given_of c.args.names.now in
    let o = c.open_node-opening.ensures.opening in
    let q = c.open_node-opening.ensures.given in
    q ∙ scalar_given R t _ _ _ c.requires.scalar ∙ given_plain R t p _ o c.in-Plain.is

pub returns-in-Plain-clause-adds : goal.returns-in-Plain-clause-adds
returns-in-Plain-clause-adds g c =
    let N = g.V.RankedNodes.number in
    let v = c.args.view.now in
    let R = g.V.RankedNodes.rank v in
    let T = g.V.RankedNodes.tree v in
    let t = T (N c.args.id) in
    let p = given_of c.args.names.now in
    let o = c.open_node-opening.ensures.opening in
    let q = c.open_node-opening.ensures.given in
    adds_as _ _ _ _ (key_by_plain R t _ _ c.requires.scalar p _ _ o q c.in-Plain.is) c.put_scalar-in-Plain.ensures
