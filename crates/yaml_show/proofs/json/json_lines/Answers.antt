use Rattle.std.proofs.Common.{map, ap, ◌∙◌, ◌++◌, rules, arith}
use Rattle.std.specs.List.{list_all}
use Rattle.std.specs.String.{string_bytes}
use Rattle.yaml_spell.specs.RankedNodes.{tree_of}
use Rattle.yaml_spell.proofs.WalkLaws.{drop_item}
use Rattle.yaml_show.specs.JsonTrees.{has_json}
use Rattle.std.proofs.lemmas.Result.{err_from_is_err_and}
use Rattle.yaml_show.specs.JsonText.{json_text}
use Rattle.yaml_show.proofs.JsonLaws.{line_step, line_lacks, line_overruns, room_next, lines_end}
use Rattle.yaml_show.proofs.json.json_lines.Goals as goal

pub loop-root-preserved : goal.loop-root-preserved
loop-root-preserved g c =
    let f = tree_of g.V.RankedNodes.tree g.V.RankedNodes.number c.args.view.now in
    let xs = c.args.roots.now in
    let i = c.loop-root.root-index in
    let x = c.root-item.result in
    let l = drop_item xs i x (omega arith) c.root-item.is in
    (room_next f xs i x l _ _ _ _ c.loop-root.invariant.0 (omega (arith, c.left.ensures, c.in_ok-put_json.ensures.limit, c.new-line.ensures.limit)) (c.in_ok-put_json.ensures.ok.0 ∙ ap (λ z. z ++ json_text (f x)) c.new-line.ensures.empty), line_step string_bytes f xs i x _ l c.loop-root.invariant.1 _ _ _ c.in_ok-add_line.ensures.ok c.new-line.ensures.empty c.in_ok-put_json.ensures.ok)

pub returns-in_err-put_json-clause-err : goal.returns-in_err-put_json-clause-err
returns-in_err-put_json-clause-err g c =
    let f = tree_of g.V.RankedNodes.tree g.V.RankedNodes.number c.args.view.now in
    let xs = c.args.roots.now in
    let i = c.loop-root.root-index in
    let x = c.root-item.result in
    let h = line_lacks string_bytes f xs i x _ (drop_item xs i x (omega arith) c.root-item.is) c.loop-root.invariant.1 _ c.in_err-put_json.ensures.err in
    search (rules, h)

pub returns-in_err-add_line-clause-err : goal.returns-in_err-add_line-clause-err
returns-in_err-add_line-clause-err g c =
    let h = c.in_err-add_line.ensures.err (list_all has_json (map (tree_of g.V.RankedNodes.tree g.V.RankedNodes.number c.args.view.now) c.args.roots.now)) in
    search (rules, h)

pub returns-clause-ok : goal.returns-clause-ok
returns-clause-ok g c = lines_end string_bytes (tree_of g.V.RankedNodes.tree g.V.RankedNodes.number c.args.view.now) c.args.roots.now c.loop-root.root-index _ (omega arith) c.loop-root.invariant.1

pub returns-in_err-put_json-clause-stops : goal.returns-in_err-put_json-clause-stops
returns-in_err-put_json-clause-stops g c =
    let f = tree_of g.V.RankedNodes.tree g.V.RankedNodes.number c.args.view.now in
    let xs = c.args.roots.now in
    let i = c.loop-root.root-index in
    let x = c.root-item.result in
    let p = err_from_is_err_and c.from_residual.result c.from_residual.ensures.1 in
    rw (p.1, p.2) (line_overruns f xs i x (drop_item xs i x (omega arith) c.root-item.is) _ _ _ _ _ c.loop-root.invariant.0 c.new-line.ensures.limit c.new-line.ensures.empty c.in_err-put_json.ensures.stops)

pub returns-in_err-add_line-clause-stops : goal.returns-in_err-add_line-clause-stops
returns-in_err-add_line-clause-stops g c =
    let p = err_from_is_err_and c.from_residual-in_err-add_line.result c.from_residual-in_err-add_line.ensures.1 in
    rw (p.1, p.2) (c.in_err-add_line.ensures.stops _ _)
