use Rattle.yaml_spell.specs.NamesView.{given_of}
use Rattle.yaml_spell.proofs.ShownLaws.{scalar-shown, sequence-shown, mapping-shown}
use Rattle.yaml_show.proofs.DraftLaws.{adds_as, adds_then}
use Rattle.yaml_show.proofs.SharingLaws.{key_sequence, key_mapping}
use Rattle.yaml_show.proofs.sharing_keys.put_shared_key.Goals as goal

pub put_scalar_key-requires-clause-scalar : goal.put_scalar_key-requires-clause-scalar
put_scalar_key-requires-clause-scalar g c =
    let N = g.V.RankedNodes.number in
    let v = c.args.view.now in
    let R = g.V.RankedNodes.rank v in
    let T = g.V.RankedNodes.tree v in
    let t = T (N c.args.id) in
    let p = given_of c.args.names.now in
    scalar-shown N T t _ _ _ c.node-node.ensures.tree c.in-Scalar.is

pub returns-in-Sequence-clause-adds : goal.returns-in-Sequence-clause-adds
returns-in-Sequence-clause-adds g c =
    let N = g.V.RankedNodes.number in
    let v = c.args.view.now in
    let R = g.V.RankedNodes.rank v in
    let T = g.V.RankedNodes.tree v in
    let t = T (N c.args.id) in
    let p = given_of c.args.names.now in
    adds_as _ _ _ _ (key_sequence R t _ _ _ (sequence-shown N T t _ _ _ c.node-node.ensures.tree c.in-Sequence.is)) (adds_then _ _ _ _ _ c.put_shared_flow.ensures.adds c.put.ensures)

pub returns-in-Mapping-clause-adds : goal.returns-in-Mapping-clause-adds
returns-in-Mapping-clause-adds g c =
    let N = g.V.RankedNodes.number in
    let v = c.args.view.now in
    let R = g.V.RankedNodes.rank v in
    let T = g.V.RankedNodes.tree v in
    let t = T (N c.args.id) in
    let p = given_of c.args.names.now in
    adds_as _ _ _ _ (key_mapping R t _ _ _ (mapping-shown N T t _ _ _ c.node-node.ensures.tree c.in-Mapping.is)) (adds_then _ _ _ _ _ c.put_shared_flow-in-Mapping.ensures.adds c.put-in-Mapping.ensures)
