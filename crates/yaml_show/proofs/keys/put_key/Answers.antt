use Rattle.std.proofs.Common.{◌++◌, ◌∙◌, refl, sym, ap}
use Rattle.std.proofs.lemmas.Result.{on_ok_weaker}
use Rattle.yaml_spell.proofs.ShownLaws.{scalar-shown, sequence-shown, mapping-shown}
use Rattle.yaml_show_scalar.specs.Texts.{written}
use Rattle.yaml_show_scalar.proofs.StopLaws.{if_same}
use Rattle.yaml_show.proofs.LayoutLaws.{scalar_key, sequence_key, mapping_key}
use Rattle.yaml_show.proofs.keys.put_key.Goals as goal

pub returns-in-Scalar-clause-ok : goal.returns-in-Scalar-clause-ok
returns-in-Scalar-clause-ok g c =
    let N = g.V.RankedNodes.number in
    let T = g.V.RankedNodes.tree c.args.view.now in
    let e = scalar-shown N T (T (N c.args.id)) _ _ _ c.node-node.ensures.tree c.in-Scalar.is in
    on_ok_weaker c.put_scalar.result (λ h. h ∙ ap (λ z. written c.args.out.now ++ z) (scalar_key (T (N c.args.id)) c.node-node.result.tag.now c.in-Scalar.content.now e)) c.put_scalar.ensures.ok

pub returns-in-Sequence-clause-ok : goal.returns-in-Sequence-clause-ok
returns-in-Sequence-clause-ok g c =
    let N = g.V.RankedNodes.number in
    let T = g.V.RankedNodes.tree c.args.view.now in
    let e = sequence-shown N T (T (N c.args.id)) _ _ _ c.node-node.ensures.tree c.in-Sequence.is in
    on_ok_weaker c.put_flow_key.result (λ h. h ∙ ap (λ z. written c.args.out.now ++ z) (sequence_key (T (N c.args.id)) _ _ e)) c.put_flow_key.ensures.ok

pub returns-in-Mapping-clause-ok : goal.returns-in-Mapping-clause-ok
returns-in-Mapping-clause-ok g c =
    let N = g.V.RankedNodes.number in
    let T = g.V.RankedNodes.tree c.args.view.now in
    let e = mapping-shown N T (T (N c.args.id)) _ _ _ c.node-node.ensures.tree c.in-Mapping.is in
    on_ok_weaker c.put_flow_key-in-Mapping.result (λ h. h ∙ ap (λ z. written c.args.out.now ++ z) (mapping_key (T (N c.args.id)) _ _ e)) c.put_flow_key-in-Mapping.ensures.ok

pub returns-in-Scalar-clause-err : goal.returns-in-Scalar-clause-err
returns-in-Scalar-clause-err g c =
    let N = g.V.RankedNodes.number in
    let T = g.V.RankedNodes.tree c.args.view.now in
    let e = scalar-shown N T (T (N c.args.id)) _ _ _ c.node-node.ensures.tree c.in-Scalar.is in
    if_same c.put_scalar.result _ _ _ _ refl (ap (λ z. written c.args.out.now ++ z) (sym (scalar_key (T (N c.args.id)) c.node-node.result.tag.now c.in-Scalar.content.now e))) c.put_scalar.ensures.err

pub returns-in-Sequence-clause-err : goal.returns-in-Sequence-clause-err
returns-in-Sequence-clause-err g c =
    let N = g.V.RankedNodes.number in
    let T = g.V.RankedNodes.tree c.args.view.now in
    let e = sequence-shown N T (T (N c.args.id)) _ _ _ c.node-node.ensures.tree c.in-Sequence.is in
    if_same c.put_flow_key.result _ _ _ _ refl (ap (λ z. written c.args.out.now ++ z) (sym (sequence_key (T (N c.args.id)) _ _ e))) c.put_flow_key.ensures.err

pub returns-in-Mapping-clause-err : goal.returns-in-Mapping-clause-err
returns-in-Mapping-clause-err g c =
    let N = g.V.RankedNodes.number in
    let T = g.V.RankedNodes.tree c.args.view.now in
    let e = mapping-shown N T (T (N c.args.id)) _ _ _ c.node-node.ensures.tree c.in-Mapping.is in
    if_same c.put_flow_key-in-Mapping.result _ _ _ _ refl (ap (λ z. written c.args.out.now ++ z) (sym (mapping_key (T (N c.args.id)) _ _ e))) c.put_flow_key-in-Mapping.ensures.err
