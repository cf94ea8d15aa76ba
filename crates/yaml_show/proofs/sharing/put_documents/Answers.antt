use Rattle.std.proofs.Common.{◌∙◌, arith}
use Rattle.yaml_spell.specs.RankedNodes.{tree_of}
use Rattle.yaml_spell.proofs.WalkLaws.{drop_item}
use Rattle.yaml_show.proofs.DraftLaws.{left_as, left_next, left_end}
use Rattle.yaml_show.proofs.SharingLaws.{documents_split, documents_over}
use Rattle.yaml_show.proofs.sharing.put_documents.Goals as goal

pub loop-root-preserved : goal.loop-root-preserved
loop-root-preserved g c =
    let f = tree_of g.V.RankedNodes.tree g.V.RankedNodes.number c.args.view.now in
    let xs = c.args.roots.now in
    let i = c.loop-root.root-index in
    let x = c.root-item.result in
    record {
      long = c.put_document.ensures.long ∙ c.loop-root.invariant.long;
      left = left_next _ _ _ _ _ _ (left_as _ _ _ _ _ (documents_split f xs i x (drop_item xs i x (omega arith) c.root-item.is)) c.loop-root.invariant.left) c.put_document.ensures.adds;
    }

pub returns : goal.returns
returns g c =
    let f = tree_of g.V.RankedNodes.tree g.V.RankedNodes.number c.args.view.now in
    left_end _ _ _ (left_as _ _ _ _ _ (documents_over f c.args.roots.now c.loop-root.root-index (omega arith)) c.loop-root.invariant.left)
