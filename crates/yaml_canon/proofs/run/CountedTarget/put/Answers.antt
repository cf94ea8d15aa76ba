use Rattle.std.proofs.Common.{◌≤◌, map, refl, subst, rules}
use Rattle.yaml_definitions.specs.model.Limits.{text_limit}
use Rattle.yaml_spell.specs.RankedNodes.{tree_of}
use Rattle.yaml_spell.proofs.PieceLaws.{if_both}
use Rattle.yaml_text.specs.Writers.{Broken}
use Rattle.yaml_canon.proofs.TargetLaws.{left_arranged, broken_arranged}
use Rattle.yaml_canon.proofs.RunLaws.{printed_arranged}
use Rattle.yaml_canon.proofs.run.CountedTarget.put.Goals as goal

pub returns-in_err-ranked_len-clause-err : goal.returns-in_err-ranked_len-clause-err
returns-in_err-ranked_len-clause-err g c =
    let ts = map (tree_of g.V.RankedNodes.tree g.V.RankedNodes.number c.args.view.now) c.args.roots.now in
    let f = left_arranged (λ old text new. Broken g.W.Write.contents old new text) ts c.args.self.now c.args.self.now c.in_err-ranked_len.field-0.0 refl c.in_err-ranked_len.ensures.err in
    search (rules, f)

pub returns-clause-ok : goal.returns-clause-ok
returns-clause-ok g c =
    let ts = map (tree_of g.V.RankedNodes.tree g.V.RankedNodes.number c.args.view.now) c.args.roots.now in
    let l = subst (λ n. n ≤ text_limit) c.in_ok-ranked_len.ensures.ok c.in_ok-ranked_len.ensures.fits in
    printed_arranged g.W.Write.contents ts c.args.self.now c.write_pages.new.out c.write_pages.result l c.write_pages.ensures.ok

pub returns-clause-err : goal.returns-clause-err
returns-clause-err g c =
    let ts = map (tree_of g.V.RankedNodes.tree g.V.RankedNodes.number c.args.view.now) c.args.roots.now in
    let l = subst (λ n. n ≤ text_limit) c.in_ok-ranked_len.ensures.ok c.in_ok-ranked_len.ensures.fits in
    if_both c.write_pages.result c.write_pages.ensures.broken c.write_pages.ensures.err (λ fault b e. broken_arranged (λ old text new. Broken g.W.Write.contents old new text) ts c.args.self.now c.write_pages.new.out fault l b e)
