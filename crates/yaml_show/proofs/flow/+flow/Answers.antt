use Rattle.std.proofs.Common.{◌≡◌, ◌+◌, ◌*◌, ◌<◌, ◌++◌, ◌∙◌, refl, sym, ap, rules, arith}
use Rattle.std.specs.Prelude.{max}
use Rattle.std.proofs.lemmas.Result.{on_ok_weaker, err_from_is_err_and}
use Rattle.yaml_definitions.specs.model.Tree.{height, heights, heights_of_pairs}
use Rattle.yaml_spell.specs.RankedNodes.{tree_of, pair_of, trees_of, pairs_of}
use Rattle.yaml_spell.proofs.ShownLaws.{scalar-shown, sequence-shown, mapping-shown, items-within, entries-within, sequence-high, mapping-high, item-lower, key-lower, value-lower, item-in}
use Rattle.yaml_spell.proofs.WalkLaws.{drop_item}
use Rattle.yaml_show_scalar.specs.Texts.{written}
use Rattle.yaml_show_scalar.proofs.StopLaws.{stops_longer, if_same}
use Rattle.yaml_show.proofs.StopLaws.{before_one, before_two}
use Rattle.yaml_show.proofs.FlowLaws.{seq_own, map_own, begun, scalar_flow, sequence_flow, mapping_flow, items_step, items_end, entry_written, entries_step, entries_end}
use Rattle.yaml_show.proofs.flow.+flow.Goals as goal

pub put_flow-returns-in-Scalar-clause-ok : goal.put_flow-returns-in-Scalar-clause-ok
put_flow-returns-in-Scalar-clause-ok g w c =
    let N = g.V.RankedNodes.number in
    let T = g.V.RankedNodes.tree c.args.view.now in
    let e = scalar-shown N T (T (N c.args.id)) _ _ _ c.node-node.ensures.tree c.in-Scalar.is in
    on_ok_weaker c.put_scalar.result (λ h. h ∙ ap (λ z. written c.args.out.now ++ z) (scalar_flow c.args.in_key (T (N c.args.id)) _ _ e)) c.put_scalar.ensures.ok

pub put_flow-returns-in_ok-put_tag_before-in-Sequence-clause-ok : goal.put_flow-returns-in_ok-put_tag_before-in-Sequence-clause-ok
put_flow-returns-in_ok-put_tag_before-in-Sequence-clause-ok g w c =
    let N = g.V.RankedNodes.number in
    let T = g.V.RankedNodes.tree c.args.view.now in
    let e = sequence-shown N T (T (N c.args.id)) _ _ _ c.node-node.ensures.tree c.in-Sequence.is in
    on_ok_weaker c.put_flow_items.result (λ h. sequence_flow c.args.in_key (T (N c.args.id)) _ _ _ _ _ _ e seq_own c.in_ok-put_tag_before-in-Sequence.ensures.ok h) c.put_flow_items.ensures.ok

pub put_flow-returns-in_ok-put_tag_before-in-Mapping-clause-ok : goal.put_flow-returns-in_ok-put_tag_before-in-Mapping-clause-ok
put_flow-returns-in_ok-put_tag_before-in-Mapping-clause-ok g w c =
    let N = g.V.RankedNodes.number in
    let T = g.V.RankedNodes.tree c.args.view.now in
    let e = mapping-shown N T (T (N c.args.id)) _ _ _ c.node-node.ensures.tree c.in-Mapping.is in
    on_ok_weaker c.put_flow_entries.result (λ h. mapping_flow c.args.in_key (T (N c.args.id)) _ _ _ _ _ _ e map_own c.in_ok-put_tag_before-in-Mapping.ensures.ok h) c.put_flow_entries.ensures.ok

pub put_flow_items-loop-place-init : goal.put_flow_items-loop-place-init
put_flow_items-loop-place-init g w c = (c.in_ok-put.ensures.limit, begun _ _ _ 91 c.in_ok-put.ensures.ok)

pub put_flow_items-loop-place-preserved : goal.put_flow_items-loop-place-preserved
put_flow_items-loop-place-preserved g w c =
    let xs = c.args.items.now in
    let i = c.loop-place.place in
    let x = c.index-items-place.result in
    (c.in_ok-put_flow.ensures.limit ∙ c.in_ok-put_separator.ensures.limit ∙ c.loop-place.invariant.0, items_step c.args.in_key (tree_of g.V.RankedNodes.tree g.V.RankedNodes.number c.args.view.now) xs i x _ _ _ _ (drop_item xs i x (omega arith) c.index-items-place.is) c.loop-place.invariant.1 c.in_ok-put_separator.ensures.ok c.in_ok-put_flow.ensures.ok)

pub put_flow_items-returns-clause-ok : goal.put_flow_items-returns-clause-ok
put_flow_items-returns-clause-ok g w c =
    on_ok_weaker c.put-2.result (λ h. items_end c.args.in_key (tree_of g.V.RankedNodes.tree g.V.RankedNodes.number c.args.view.now) c.args.items.now c.loop-place.place _ _ _ (omega arith) c.loop-place.invariant.1 h) c.put-2.ensures.ok

pub put_flow_entries-loop-place-init : goal.put_flow_entries-loop-place-init
put_flow_entries-loop-place-init g w c = (c.in_ok-put.ensures.limit, begun _ _ _ 123 c.in_ok-put.ensures.ok)

pub put_flow_entries-loop-place-preserved : goal.put_flow_entries-loop-place-preserved
put_flow_entries-loop-place-preserved g w c =
    let xs = c.args.entries.now in
    let i = c.loop-place.place in
    let x = c.index-entries-place.result in
    (c.in_ok-put_flow_entry.ensures.limit ∙ c.in_ok-put_separator.ensures.limit ∙ c.loop-place.invariant.0, entries_step c.args.in_key (pair_of g.V.RankedNodes.tree g.V.RankedNodes.number c.args.view.now) xs i x _ _ _ _ (drop_item xs i x (omega arith) c.index-entries-place.is) c.loop-place.invariant.1 c.in_ok-put_separator.ensures.ok c.in_ok-put_flow_entry.ensures.ok)

pub put_flow_entries-returns-clause-ok : goal.put_flow_entries-returns-clause-ok
put_flow_entries-returns-clause-ok g w c =
    on_ok_weaker c.put-2.result (λ h. entries_end c.args.in_key (pair_of g.V.RankedNodes.tree g.V.RankedNodes.number c.args.view.now) c.args.entries.now c.loop-place.place _ _ _ (omega arith) c.loop-place.invariant.1 h) c.put-2.ensures.ok

pub put_flow_entry-returns-clause-ok : goal.put_flow_entry-returns-clause-ok
put_flow_entry-returns-clause-ok g w c =
    on_ok_weaker c.put_flow-2.result (λ h. entry_written _ _ _ _ _ _ _ _ _ c.is_simple_key-is_simple.ensures c.in_ok-put_mark.ensures.ok c.in_ok-put_flow.ensures.ok c.in_ok-put_colon.ensures.ok h) c.put_flow-2.ensures.ok

pub put_flow-put_flow_items-requires : goal.put_flow-put_flow_items-requires
put_flow-put_flow_items-requires g w c =
    let N = g.V.RankedNodes.number in
    let v = c.args.view.now in
    let T = g.V.RankedNodes.tree v in
    let within = items-within N T _ _ _ c.node-node.ensures.within c.in-Sequence.is in
    let high : height (T (N c.args.id)) ≡ heights (trees_of g.V.RankedNodes.tree N v c.in-Sequence.items.now) = sequence-high N T _ _ _ _ c.node-node.ensures.tree c.in-Sequence.is in
    let lower : 3 * heights (trees_of g.V.RankedNodes.tree N v c.in-Sequence.items.now) < 3 * height (T (N c.args.id)) + 1 = omega (arith, high) in
    search rules

pub put_flow-put_flow_entries-requires : goal.put_flow-put_flow_entries-requires
put_flow-put_flow_entries-requires g w c =
    let N = g.V.RankedNodes.number in
    let v = c.args.view.now in
    let T = g.V.RankedNodes.tree v in
    let within = entries-within N T _ _ _ c.node-node.ensures.within c.in-Mapping.is in
    let high : height (T (N c.args.id)) ≡ heights_of_pairs (pairs_of g.V.RankedNodes.tree N v c.in-Mapping.entries.now) = mapping-high N T _ _ _ _ c.node-node.ensures.tree c.in-Mapping.is in
    let lower : 3 * heights_of_pairs (pairs_of g.V.RankedNodes.tree N v c.in-Mapping.entries.now) < 3 * height (T (N c.args.id)) + 1 = omega (arith, high) in
    search rules

pub put_flow_items-put_flow-requires : goal.put_flow_items-put_flow-requires
put_flow_items-put_flow-requires g w c =
    let N = g.V.RankedNodes.number in
    let v = c.args.view.now in
    let T = g.V.RankedNodes.tree v in
    let xs = c.args.items.now in
    let x = c.index-items-place.result in
    let within = item-in (λ i. N i < g.V.RankedNodes.count v) xs c.loop-place.place x c.requires.within (omega arith) c.index-items-place.is in
    let low = item-lower N T xs c.loop-place.place x (omega arith) c.index-items-place.is in
    let lower : 3 * height (T (N x)) + 1 < 3 * heights (trees_of g.V.RankedNodes.tree N v xs) = omega (arith, low) in
    search rules

pub put_flow_entries-put_flow_entry-requires : goal.put_flow_entries-put_flow_entry-requires
put_flow_entries-put_flow_entry-requires g w c =
    let N = g.V.RankedNodes.number in
    let v = c.args.view.now in
    let T = g.V.RankedNodes.tree v in
    let xs = c.args.entries.now in
    let x = c.index-entries-place.result in
    let both = item-in (λ p. (N p.0 < g.V.RankedNodes.count v) × (N p.1 < g.V.RankedNodes.count v)) xs c.loop-place.place x c.requires.within (omega arith) c.index-entries-place.is in
    let key_within = both.0 in
    let value_within = both.1 in
    let key_low = key-lower N T xs c.loop-place.place x (omega arith) c.index-entries-place.is in
    let value_low = value-lower N T xs c.loop-place.place x (omega arith) c.index-entries-place.is in
    let lower : 3 * max (height (T (N x.0))) (height (T (N x.1))) + 2 < 3 * heights_of_pairs (pairs_of g.V.RankedNodes.tree N v xs) = omega (arith, key_low, value_low) in
    search rules

pub put_flow-returns-in-Scalar-clause-err : goal.put_flow-returns-in-Scalar-clause-err
put_flow-returns-in-Scalar-clause-err g w c =
    let N = g.V.RankedNodes.number in
    let T = g.V.RankedNodes.tree c.args.view.now in
    let e = scalar-shown N T (T (N c.args.id)) _ _ _ c.node-node.ensures.tree c.in-Scalar.is in
    if_same c.put_scalar.result _ _ _ _ refl (ap (λ z. written c.args.out.now ++ z) (sym (scalar_flow c.args.in_key (T (N c.args.id)) _ _ e))) c.put_scalar.ensures.err

pub put_flow-returns-in_err-put_tag_before-in-Sequence-clause-err : goal.put_flow-returns-in_err-put_tag_before-in-Sequence-clause-err
put_flow-returns-in_err-put_tag_before-in-Sequence-clause-err g w c =
    let N = g.V.RankedNodes.number in
    let T = g.V.RankedNodes.tree c.args.view.now in
    let e = sequence-shown N T (T (N c.args.id)) _ _ _ c.node-node.ensures.tree c.in-Sequence.is in
    let p = err_from_is_err_and c.from_residual.result c.from_residual.ensures.1 in
    rw (p.1, p.2) (stops_longer _ _ _ _ _ _ refl (sym (sequence_flow c.args.in_key (T (N c.args.id)) _ _ _ _ _ _ e seq_own refl refl)) c.in_err-put_tag_before-in-Sequence.ensures.err)

pub put_flow-returns-in_ok-put_tag_before-in-Sequence-clause-err : goal.put_flow-returns-in_ok-put_tag_before-in-Sequence-clause-err
put_flow-returns-in_ok-put_tag_before-in-Sequence-clause-err g w c =
    let N = g.V.RankedNodes.number in
    let T = g.V.RankedNodes.tree c.args.view.now in
    let e = sequence-shown N T (T (N c.args.id)) _ _ _ c.node-node.ensures.tree c.in-Sequence.is in
    if_same c.put_flow_items.result _ _ _ _ c.in_ok-put_tag_before-in-Sequence.ensures.limit (sym (sequence_flow c.args.in_key (T (N c.args.id)) _ _ _ _ _ _ e seq_own c.in_ok-put_tag_before-in-Sequence.ensures.ok refl)) c.put_flow_items.ensures.err

pub put_flow-returns-in_err-put_tag_before-in-Mapping-clause-err : goal.put_flow-returns-in_err-put_tag_before-in-Mapping-clause-err
put_flow-returns-in_err-put_tag_before-in-Mapping-clause-err g w c =
    let N = g.V.RankedNodes.number in
    let T = g.V.RankedNodes.tree c.args.view.now in
    let e = mapping-shown N T (T (N c.args.id)) _ _ _ c.node-node.ensures.tree c.in-Mapping.is in
    let p = err_from_is_err_and c.from_residual-in_err-put_tag_before-in-Mapping.result c.from_residual-in_err-put_tag_before-in-Mapping.ensures.1 in
    rw (p.1, p.2) (stops_longer _ _ _ _ _ _ refl (sym (mapping_flow c.args.in_key (T (N c.args.id)) _ _ _ _ _ _ e map_own refl refl)) c.in_err-put_tag_before-in-Mapping.ensures.err)

pub put_flow-returns-in_ok-put_tag_before-in-Mapping-clause-err : goal.put_flow-returns-in_ok-put_tag_before-in-Mapping-clause-err
put_flow-returns-in_ok-put_tag_before-in-Mapping-clause-err g w c =
    let N = g.V.RankedNodes.number in
    let T = g.V.RankedNodes.tree c.args.view.now in
    let e = mapping-shown N T (T (N c.args.id)) _ _ _ c.node-node.ensures.tree c.in-Mapping.is in
    if_same c.put_flow_entries.result _ _ _ _ c.in_ok-put_tag_before-in-Mapping.ensures.limit (sym (mapping_flow c.args.in_key (T (N c.args.id)) _ _ _ _ _ _ e map_own c.in_ok-put_tag_before-in-Mapping.ensures.ok refl)) c.put_flow_entries.ensures.err

pub put_flow_items-returns-in_err-put_separator-clause-limit : goal.put_flow_items-returns-in_err-put_separator-clause-limit
put_flow_items-returns-in_err-put_separator-clause-limit g w c = c.in_err-put_separator.ensures.limit ∙ c.loop-place.invariant.0

pub put_flow_items-returns-in_err-put_separator-clause-err : goal.put_flow_items-returns-in_err-put_separator-clause-err
put_flow_items-returns-in_err-put_separator-clause-err g w c =
    let xs = c.args.items.now in
    let i = c.loop-place.place in
    let x = c.index-items-place.result in
    let l = drop_item xs i x (omega arith) c.index-items-place.is in
    let p = err_from_is_err_and c.from_residual-in_err-put_separator.result c.from_residual-in_err-put_separator.ensures.1 in
    rw (p.1, p.2) (before_one _ _ _ _ _ c.loop-place.invariant.0 c.in_err-put_separator.ensures.err _ _ (sym (items_step c.args.in_key (tree_of g.V.RankedNodes.tree g.V.RankedNodes.number c.args.view.now) xs i x _ _ _ _ l c.loop-place.invariant.1 refl refl)))

pub put_flow_items-returns-in_err-put_flow-clause-limit : goal.put_flow_items-returns-in_err-put_flow-clause-limit
put_flow_items-returns-in_err-put_flow-clause-limit g w c = c.in_err-put_flow.ensures.limit ∙ c.in_ok-put_separator.ensures.limit ∙ c.loop-place.invariant.0

pub put_flow_items-returns-in_err-put_flow-clause-err : goal.put_flow_items-returns-in_err-put_flow-clause-err
put_flow_items-returns-in_err-put_flow-clause-err g w c =
    let xs = c.args.items.now in
    let i = c.loop-place.place in
    let x = c.index-items-place.result in
    let l = drop_item xs i x (omega arith) c.index-items-place.is in
    let p = err_from_is_err_and c.from_residual-in_err-put_flow.result c.from_residual-in_err-put_flow.ensures.1 in
    rw (p.1, p.2) (stops_longer _ _ _ _ _ _ (c.in_ok-put_separator.ensures.limit ∙ c.loop-place.invariant.0) (sym (items_step c.args.in_key (tree_of g.V.RankedNodes.tree g.V.RankedNodes.number c.args.view.now) xs i x _ _ _ _ l c.loop-place.invariant.1 c.in_ok-put_separator.ensures.ok refl)) c.in_err-put_flow.ensures.err)

pub put_flow_items-returns-clause-limit : goal.put_flow_items-returns-clause-limit
put_flow_items-returns-clause-limit g w c = c.put-2.ensures.limit ∙ c.loop-place.invariant.0

pub put_flow_items-returns-clause-err : goal.put_flow_items-returns-clause-err
put_flow_items-returns-clause-err g w c =
    if_same c.put-2.result _ _ _ _ c.loop-place.invariant.0 (sym (items_end c.args.in_key (tree_of g.V.RankedNodes.tree g.V.RankedNodes.number c.args.view.now) c.args.items.now c.loop-place.place _ _ _ (omega arith) c.loop-place.invariant.1 refl)) c.put-2.ensures.err

pub put_flow_entries-returns-in_err-put_separator-clause-limit : goal.put_flow_entries-returns-in_err-put_separator-clause-limit
put_flow_entries-returns-in_err-put_separator-clause-limit g w c = c.in_err-put_separator.ensures.limit ∙ c.loop-place.invariant.0

pub put_flow_entries-returns-in_err-put_separator-clause-err : goal.put_flow_entries-returns-in_err-put_separator-clause-err
put_flow_entries-returns-in_err-put_separator-clause-err g w c =
    let xs = c.args.entries.now in
    let i = c.loop-place.place in
    let x = c.index-entries-place.result in
    let l = drop_item xs i x (omega arith) c.index-entries-place.is in
    let p = err_from_is_err_and c.from_residual-in_err-put_separator.result c.from_residual-in_err-put_separator.ensures.1 in
    rw (p.1, p.2) (before_one _ _ _ _ _ c.loop-place.invariant.0 c.in_err-put_separator.ensures.err _ _ (sym (entries_step c.args.in_key (pair_of g.V.RankedNodes.tree g.V.RankedNodes.number c.args.view.now) xs i x _ _ _ _ l c.loop-place.invariant.1 refl refl)))

pub put_flow_entries-returns-in_err-put_flow_entry-clause-limit : goal.put_flow_entries-returns-in_err-put_flow_entry-clause-limit
put_flow_entries-returns-in_err-put_flow_entry-clause-limit g w c = c.in_err-put_flow_entry.ensures.limit ∙ c.in_ok-put_separator.ensures.limit ∙ c.loop-place.invariant.0

pub put_flow_entries-returns-in_err-put_flow_entry-clause-err : goal.put_flow_entries-returns-in_err-put_flow_entry-clause-err
put_flow_entries-returns-in_err-put_flow_entry-clause-err g w c =
    let xs = c.args.entries.now in
    let i = c.loop-place.place in
    let x = c.index-entries-place.result in
    let l = drop_item xs i x (omega arith) c.index-entries-place.is in
    let p = err_from_is_err_and c.from_residual-in_err-put_flow_entry.result c.from_residual-in_err-put_flow_entry.ensures.1 in
    rw (p.1, p.2) (stops_longer _ _ _ _ _ _ (c.in_ok-put_separator.ensures.limit ∙ c.loop-place.invariant.0) (sym (entries_step c.args.in_key (pair_of g.V.RankedNodes.tree g.V.RankedNodes.number c.args.view.now) xs i x _ _ _ _ l c.loop-place.invariant.1 c.in_ok-put_separator.ensures.ok refl)) c.in_err-put_flow_entry.ensures.err)

pub put_flow_entries-returns-clause-limit : goal.put_flow_entries-returns-clause-limit
put_flow_entries-returns-clause-limit g w c = c.put-2.ensures.limit ∙ c.loop-place.invariant.0

pub put_flow_entries-returns-clause-err : goal.put_flow_entries-returns-clause-err
put_flow_entries-returns-clause-err g w c =
    if_same c.put-2.result _ _ _ _ c.loop-place.invariant.0 (sym (entries_end c.args.in_key (pair_of g.V.RankedNodes.tree g.V.RankedNodes.number c.args.view.now) c.args.entries.now c.loop-place.place _ _ _ (omega arith) c.loop-place.invariant.1 refl)) c.put-2.ensures.err

pub put_flow_entry-returns-in_err-put_mark-clause-err : goal.put_flow_entry-returns-in_err-put_mark-clause-err
put_flow_entry-returns-in_err-put_mark-clause-err g w c =
    let p = err_from_is_err_and c.from_residual.result c.from_residual.ensures.1 in
    rw (p.1, p.2) (before_two _ _ _ _ _ refl c.in_err-put_mark.ensures.err _ _ _ (sym (entry_written _ _ _ _ _ _ _ _ _ c.is_simple_key-is_simple.ensures refl refl refl refl)))

pub put_flow_entry-returns-in_err-put_flow-clause-err : goal.put_flow_entry-returns-in_err-put_flow-clause-err
put_flow_entry-returns-in_err-put_flow-clause-err g w c =
    let p = err_from_is_err_and c.from_residual-in_err-put_flow.result c.from_residual-in_err-put_flow.ensures.1 in
    rw (p.1, p.2) (before_one _ _ _ _ _ c.in_ok-put_mark.ensures.limit c.in_err-put_flow.ensures.err _ _ (sym (entry_written _ _ _ _ _ _ _ _ _ c.is_simple_key-is_simple.ensures c.in_ok-put_mark.ensures.ok refl refl refl)))

pub put_flow_entry-returns-in_err-put_colon-clause-err : goal.put_flow_entry-returns-in_err-put_colon-clause-err
put_flow_entry-returns-in_err-put_colon-clause-err g w c =
    let p = err_from_is_err_and c.from_residual-in_err-put_colon.result c.from_residual-in_err-put_colon.ensures.1 in
    rw (p.1, p.2) (stops_longer _ _ _ _ _ _ (c.in_ok-put_flow.ensures.limit ∙ c.in_ok-put_mark.ensures.limit) (sym (entry_written _ _ _ _ _ _ _ _ _ c.is_simple_key-is_simple.ensures c.in_ok-put_mark.ensures.ok c.in_ok-put_flow.ensures.ok refl refl)) c.in_err-put_colon.ensures.err)

pub put_flow_entry-returns-clause-err : goal.put_flow_entry-returns-clause-err
put_flow_entry-returns-clause-err g w c =
    if_same c.put_flow-2.result _ _ _ _ (c.in_ok-put_colon.ensures.limit ∙ c.in_ok-put_flow.ensures.limit ∙ c.in_ok-put_mark.ensures.limit) (sym (entry_written _ _ _ _ _ _ _ _ _ c.is_simple_key-is_simple.ensures c.in_ok-put_mark.ensures.ok c.in_ok-put_flow.ensures.ok c.in_ok-put_colon.ensures.ok refl)) c.put_flow-2.ensures.err
