use Rattle.std.proofs.lemmas.Result.{on_ok_weaker, IfErr-weaker}
use Rattle.yaml_spell.proofs.ShownLaws.{scalar-shown, sequence-shown, mapping-shown}
use Rattle.yaml_show.proofs.JsonLaws.{key_says, key_lacks, key_overruns, sequence_is_no_key, mapping_is_no_key}
use Rattle.yaml_show.proofs.json.put_json_key.Goals as goal

pub returns-in-Scalar-clause-ok : goal.returns-in-Scalar-clause-ok
returns-in-Scalar-clause-ok g c =
    let N = g.V.RankedNodes.number in
    let T = g.V.RankedNodes.tree c.args.view.now in
    let t = T (N c.args.id) in
    on_ok_weaker c.put_string_key.result (key_says t _ _ _ _ (scalar-shown N T t _ _ _ c.node-node.ensures.tree c.in-Scalar.is)) c.put_string_key.ensures.ok

pub returns-in-Scalar-clause-err : goal.returns-in-Scalar-clause-err
returns-in-Scalar-clause-err g c =
    let N = g.V.RankedNodes.number in
    let T = g.V.RankedNodes.tree c.args.view.now in
    let t = T (N c.args.id) in
    IfErr-weaker c.put_string_key.result _ _ (λ why. key_lacks t _ _ why (scalar-shown N T t _ _ _ c.node-node.ensures.tree c.in-Scalar.is)) c.put_string_key.ensures.err

pub returns-in-Sequence-clause-err : goal.returns-in-Sequence-clause-err
returns-in-Sequence-clause-err g c =
    let N = g.V.RankedNodes.number in
    let T = g.V.RankedNodes.tree c.args.view.now in
    let t = T (N c.args.id) in
    sequence_is_no_key t _ _ (sequence-shown N T t _ _ _ c.node-node.ensures.tree c.in-Sequence.is)

pub returns-in-Mapping-clause-err : goal.returns-in-Mapping-clause-err
returns-in-Mapping-clause-err g c =
    let N = g.V.RankedNodes.number in
    let T = g.V.RankedNodes.tree c.args.view.now in
    let t = T (N c.args.id) in
    mapping_is_no_key t _ _ (mapping-shown N T t _ _ _ c.node-node.ensures.tree c.in-Mapping.is)

pub returns-in-Scalar-clause-stops : goal.returns-in-Scalar-clause-stops
returns-in-Scalar-clause-stops g c =
    let N = g.V.RankedNodes.number in
    let T = g.V.RankedNodes.tree c.args.view.now in
    let t = T (N c.args.id) in
    IfErr-weaker c.put_string_key.result _ _ (λ why. key_overruns t _ _ why _ _ (scalar-shown N T t _ _ _ c.node-node.ensures.tree c.in-Scalar.is)) c.put_string_key.ensures.stops
