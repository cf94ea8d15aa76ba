use Rattle.std.proofs.Common.{◌≤◌, map, sym, subst, rules, length}
use Rattle.std.specs.String.{string_bytes}
use Rattle.yaml_definitions.specs.model.Limits.{text_limit}
use Rattle.yaml_spell.specs.RankedNodes.{tree_of}
use Rattle.yaml_canon.proofs.ClaimLaws.{whole_text, text_refused}
use Rattle.yaml_canon.proofs.canonical_text.spelled.Goals as goal

pub returns-in_err-write_ranked-clause-err : goal.returns-in_err-write_ranked-clause-err
returns-in_err-write_ranked-clause-err g c =
    let ts = map (tree_of g.V.RankedNodes.tree g.V.RankedNodes.number c.args.view.now) c.args.roots.now in
    let f = text_refused string_bytes _ _ _ c.in_err-write_ranked.field-0.0 ts _ c.in_ok-text.ensures.bytes c.in_err-write_ranked.ensures.err in
    search (rules, f)

pub returns-clause-ok : goal.returns-clause-ok
returns-clause-ok g c =
    let ts = map (tree_of g.V.RankedNodes.tree g.V.RankedNodes.number c.args.view.now) c.args.roots.now in
    whole_text string_bytes _ _ _ _ ts c.in_ok-text.ensures.bytes c.in_ok-write_ranked.ensures.ok

pub returns-clause-fits : goal.returns-clause-fits
returns-clause-fits g c =
    let ts = map (tree_of g.V.RankedNodes.tree g.V.RankedNodes.number c.args.view.now) c.args.roots.now in
    let e = whole_text string_bytes _ _ _ _ ts c.in_ok-text.ensures.bytes c.in_ok-write_ranked.ensures.ok in
    subst (λ z. length z ≤ text_limit) (sym e) (subst (λ n. n ≤ text_limit) c.in_ok-len.ensures.ok c.in_ok-len.ensures.fits)
