use Rattle.std.proofs.Common.{◌++◌, ◌∙◌, sym, ap, map}
use Rattle.yaml_spell.specs.RankedNodes.{tree_of}
use Rattle.yaml_show.specs.Layout.{shown_text}
use Rattle.std.proofs.lemmas.Result.{err_from_is_err_and}
use Rattle.yaml_show_scalar.proofs.StopLaws.{stops_same}
use Rattle.yaml_show.proofs.block.block_text.Goals as goal

pub returns-clause-ok : goal.returns-clause-ok
returns-clause-ok g c =
    let ts = map (tree_of g.V.RankedNodes.tree g.V.RankedNodes.number c.args.view.now) c.args.roots.now in
    c.in_ok-put_documents.ensures.ok ∙ ap (λ z. z ++ shown_text ts) c.new-out.ensures.empty

pub returns-in_err-put_documents-clause-err : goal.returns-in_err-put_documents-clause-err
returns-in_err-put_documents-clause-err g c =
    let ts = map (tree_of g.V.RankedNodes.tree g.V.RankedNodes.number c.args.view.now) c.args.roots.now in
    let p = err_from_is_err_and c.from_residual.result c.from_residual.ensures.1 in
    rw (p.1, p.2) (stops_same _ _ _ _ _ (c.new-out.ensures.limit ∙ c.text_limit.ensures) (sym (ap (λ z. z ++ shown_text ts) c.new-out.ensures.empty)) c.in_err-put_documents.ensures.err)
