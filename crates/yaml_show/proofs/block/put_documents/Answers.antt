use Rattle.std.proofs.Common.{◌∙◌, refl, sym, arith}
use Rattle.yaml_spell.specs.RankedNodes.{tree_of}
use Rattle.yaml_spell.proofs.WalkLaws.{drop_item}
use Rattle.std.proofs.lemmas.Result.{err_from_is_err_and}
use Rattle.yaml_show_scalar.proofs.StopLaws.{stops_longer}
use Rattle.yaml_show.proofs.LayoutLaws.{document_step, documents_end}
use Rattle.yaml_show.proofs.block.put_documents.Goals as goal

pub loop-root-preserved : goal.loop-root-preserved
loop-root-preserved g c =
    let xs = c.args.roots.now in
    let i = c.loop-root.root-index in
    (c.in_ok-put_document.ensures.limit ∙ c.loop-root.invariant.0, document_step (tree_of g.V.RankedNodes.tree g.V.RankedNodes.number c.args.view.now) xs i c.root-item.result _ _ _ (drop_item xs i c.root-item.result (omega arith) c.root-item.is) c.loop-root.invariant.1 c.in_ok-put_document.ensures.ok)

pub returns-clause-ok : goal.returns-clause-ok
returns-clause-ok g c = documents_end (tree_of g.V.RankedNodes.tree g.V.RankedNodes.number c.args.view.now) c.args.roots.now c.loop-root.root-index _ _ (omega arith) c.loop-root.invariant.1

pub returns-in_err-put_document-clause-limit : goal.returns-in_err-put_document-clause-limit
returns-in_err-put_document-clause-limit g c = c.in_err-put_document.ensures.limit ∙ c.loop-root.invariant.0

pub returns-in_err-put_document-clause-err : goal.returns-in_err-put_document-clause-err
returns-in_err-put_document-clause-err g c =
    let xs = c.args.roots.now in
    let i = c.loop-root.root-index in
    let l = drop_item xs i c.root-item.result (omega arith) c.root-item.is in
    let p = err_from_is_err_and c.from_residual.result c.from_residual.ensures.1 in
    rw (p.1, p.2) (stops_longer _ _ _ _ _ _ c.loop-root.invariant.0 (sym (document_step (tree_of g.V.RankedNodes.tree g.V.RankedNodes.number c.args.view.now) xs i c.root-item.result _ _ _ l c.loop-root.invariant.1 refl)) c.in_err-put_document.ensures.err)

pub returns-clause-limit : goal.returns-clause-limit
returns-clause-limit g c = c.loop-root.invariant.0
