use Rattle.std.proofs.Common.{◌≡◌, ◌≤◌, List, ◌∙◌, map, subst, rules, arith}
use Rattle.yaml_definitions.specs.model.Limits.{text_limit}
use Rattle.yaml_definitions.specs.model.Tree.{Tree}
use Rattle.yaml_spell.specs.Documents.{arranged_more}
use Rattle.yaml_spell.specs.RankedNodes.{tree_of}
use Rattle.yaml_spell.specs.SinkViews.{limit_of}
use Rattle.yaml_spell.proofs.ShortLaws.{measured}
use Rattle.yaml_spell.proofs.DocumentLaws.{length_refused}
use Rattle.yaml_spell.proofs.spell.ranked_len.Goals as goal

pub returns-in_err-write_ranked-clause-err : goal.returns-in_err-write_ranked-clause-err
returns-in_err-write_ranked-clause-err g c =
    let ts : List Tree = map (tree_of g.V.RankedNodes.tree g.V.RankedNodes.number c.args.view.now) c.args.roots.now in
    let limit : limit_of c.new-length.result ≡ text_limit = omega (arith, c.new-length.ensures.limit, c.text_limit.ensures) in
    let f = length_refused ts c.new-length.result _ _ c.in_err-write_ranked.field-0.0 c.new-length.ensures.len limit c.in_err-write_ranked.ensures.err in
    search (rules, f)

pub returns-clause-ok : goal.returns-clause-ok
returns-clause-ok g c =
    let ts : List Tree = map (tree_of g.V.RankedNodes.tree g.V.RankedNodes.number c.args.view.now) c.args.roots.now in
    c.len.ensures.len ∙ (measured c.new-length.result c.write_ranked.new.sink _ _ _ (arranged_more ts) c.new-length.ensures.len c.new-length.ensures.limit c.in_ok-write_ranked.ensures.ok).0

pub returns-clause-fits : goal.returns-clause-fits
returns-clause-fits g c =
    let ts : List Tree = map (tree_of g.V.RankedNodes.tree g.V.RankedNodes.number c.args.view.now) c.args.roots.now in
    let limit : limit_of c.new-length.result ≡ text_limit = omega (arith, c.new-length.ensures.limit, c.text_limit.ensures) in
    let m = measured c.new-length.result c.write_ranked.new.sink _ _ text_limit (arranged_more ts) c.new-length.ensures.len limit c.in_ok-write_ranked.ensures.ok in
    subst (λ n. c.len.result ≤ n) m.1 c.len.ensures.within
