use Rattle.std.proofs.Common.{◌≡◌, ◌+◌, ◌*◌, ◌<◌, ◌++◌, refl, sym, ◌∙◌, ap, rules, arith}
use Rattle.std.proofs.lemmas.Result.{on_ok_weaker, err_from_is_err_and}
use Rattle.yaml_definitions.specs.model.Tree.{height, heights, heights_of_pairs}
use Rattle.yaml_spell.specs.RankedNodes.{tree_of, pair_of, trees_of, pairs_of}
use Rattle.yaml_spell.proofs.ShownLaws.{scalar-shown, sequence-shown, mapping-shown, items-within, entries-within, sequence-high, mapping-high, item-lower, value-lower, item-in}
use Rattle.yaml_spell.proofs.WalkLaws.{drop_item}
use Rattle.yaml_show_scalar.specs.Texts.{written}
use Rattle.yaml_show_scalar.proofs.StopLaws.{stops_longer, if_same}
use Rattle.yaml_show.proofs.StopLaws.{before_one, before_two, before_three, memory_stops}
use Rattle.yaml_show.proofs.FlowLaws.{seq_own, map_own}
use Rattle.yaml_show.proofs.LayoutLaws.{none_items, some_items, none_entries, some_entries, deep, shallow, scalar_node, sequence_empty, sequence_deep, sequence_lines, mapping_empty, mapping_deep, mapping_wide, mapping_lines, part_step, parts_end, entry_step, entries_done}
use Rattle.yaml_show.proofs.block.+block.Goals as goal

pub put_items-put_node-requires : goal.put_items-put_node-requires
put_items-put_node-requires g w c =
    let N = g.V.RankedNodes.number in
    let v = c.args.view.now in
    let T = g.V.RankedNodes.tree v in
    let xs = c.args.items.now in
    let x = c.item-item.result in
    let within = item-in (λ i. N i < g.V.RankedNodes.count v) xs c.loop-item.item-index x c.requires.within (omega arith) c.item-item.is in
    let low = item-lower N T xs c.loop-item.item-index x (omega arith) c.item-item.is in
    let lower : 2 * height (T (N x)) + 1 < 2 * heights (trees_of g.V.RankedNodes.tree N v xs) = omega (arith, low) in
    search rules

pub put_items-loop-item-preserved : goal.put_items-loop-item-preserved
put_items-loop-item-preserved g w c =
    let xs = c.args.items.now in
    let i = c.loop-item.item-index in
    let x = c.item-item.result in
    (c.in_ok-put_node.ensures.limit ∙ c.in_ok-put.ensures.limit ∙ c.in_ok-put_before.ensures.limit ∙ c.loop-item.invariant.0, part_step (tree_of g.V.RankedNodes.tree g.V.RankedNodes.number c.args.view.now) xs i c.args.level x c.loop-item.is_begun _ _ _ _ _ (drop_item xs i x (omega arith) c.item-item.is) c.loop-item.invariant.1 c.in_ok-put_before.ensures.ok c.in_ok-put.ensures.ok c.in_ok-put_node.ensures.ok)

pub put_items-returns-clause-ok : goal.put_items-returns-clause-ok
put_items-returns-clause-ok g w c = parts_end (tree_of g.V.RankedNodes.tree g.V.RankedNodes.number c.args.view.now) c.args.items.now c.loop-item.item-index c.args.level c.loop-item.is_begun _ _ (omega arith) c.loop-item.invariant.1

pub put_entries-put_node-requires : goal.put_entries-put_node-requires
put_entries-put_node-requires g w c =
    let N = g.V.RankedNodes.number in
    let v = c.args.view.now in
    let T = g.V.RankedNodes.tree v in
    let xs = c.args.entries.now in
    let x = c.entry-item.result in
    let within = (item-in (λ p. (N p.0 < g.V.RankedNodes.count v) × (N p.1 < g.V.RankedNodes.count v)) xs c.loop-entry.entry-index x c.requires.within (omega arith) c.entry-item.is).1 in
    let low = value-lower N T xs c.loop-entry.entry-index x (omega arith) c.entry-item.is in
    let lower : 2 * height (T (N x.1)) + 1 < 2 * heights_of_pairs (pairs_of g.V.RankedNodes.tree N v xs) = omega (arith, low) in
    search rules

pub put_entries-put_key-requires-clause-within : goal.put_entries-put_key-requires-clause-within
put_entries-put_key-requires-clause-within g w c =
    let N = g.V.RankedNodes.number in
    let v = c.args.view.now in
    (item-in (λ p. (N p.0 < g.V.RankedNodes.count v) × (N p.1 < g.V.RankedNodes.count v)) c.args.entries.now c.loop-entry.entry-index c.entry-item.result c.requires.within (omega arith) c.entry-item.is).0

pub put_entries-loop-entry-preserved : goal.put_entries-loop-entry-preserved
put_entries-loop-entry-preserved g w c =
    let xs = c.args.entries.now in
    let i = c.loop-entry.entry-index in
    let x = c.entry-item.result in
    (c.in_ok-put_node.ensures.limit ∙ c.in_ok-put.ensures.limit ∙ c.in_ok-put_key.ensures.limit ∙ c.in_ok-put_before.ensures.limit ∙ c.loop-entry.invariant.0, entry_step (pair_of g.V.RankedNodes.tree g.V.RankedNodes.number c.args.view.now) xs i c.args.level x c.loop-entry.is_begun _ _ _ _ _ _ (drop_item xs i x (omega arith) c.entry-item.is) c.loop-entry.invariant.1 c.in_ok-put_before.ensures.ok c.in_ok-put_key.ensures.ok c.in_ok-put.ensures.ok c.in_ok-put_node.ensures.ok)

pub put_entries-returns-clause-ok : goal.put_entries-returns-clause-ok
put_entries-returns-clause-ok g w c = entries_done (pair_of g.V.RankedNodes.tree g.V.RankedNodes.number c.args.view.now) c.args.entries.now c.loop-entry.entry-index c.args.level c.loop-entry.is_begun _ _ (omega arith) c.loop-entry.invariant.1

pub put_node-returns-in-Scalar-clause-ok : goal.put_node-returns-in-Scalar-clause-ok
put_node-returns-in-Scalar-clause-ok g w c =
    let N = g.V.RankedNodes.number in
    let T = g.V.RankedNodes.tree c.args.view.now in
    let t = T (N c.args.id) in
    let e = scalar-shown N T t _ _ _ c.node-node.ensures.tree c.in-Scalar.is in
    on_ok_weaker c.put_scalar_node.result (λ h. h ∙ ap (λ z. written c.args.out.now ++ z) (scalar_node c.args.place c.args.level t _ (written c.args.out.now) _ e)) c.put_scalar_node.ensures.ok

pub put_node-returns-then-is_empty-clause-ok : goal.put_node-returns-then-is_empty-clause-ok
put_node-returns-then-is_empty-clause-ok g w c =
    let N = g.V.RankedNodes.number in
    let v = c.args.view.now in
    let T = g.V.RankedNodes.tree v in
    let t = T (N c.args.id) in
    let xs = c.in-Sequence.items.now in
    let e = sequence-shown N T t _ _ _ c.node-node.ensures.tree c.in-Sequence.is in
    on_ok_weaker c.put_empty.result (λ h. sequence_empty c.args.place c.args.level t _ (written c.args.out.now) _ e _ _ seq_own (none_items (tree_of g.V.RankedNodes.tree N v) xs (sym c.if-is_empty.ensures)) h) c.put_empty.ensures.ok

pub put_node-returns-then-level-ge-DEEPEST-clause-ok : goal.put_node-returns-then-level-ge-DEEPEST-clause-ok
put_node-returns-then-level-ge-DEEPEST-clause-ok g w c =
    let N = g.V.RankedNodes.number in
    let v = c.args.view.now in
    let T = g.V.RankedNodes.tree v in
    let t = T (N c.args.id) in
    let xs = c.in-Sequence.items.now in
    let e = sequence-shown N T t _ _ _ c.node-node.ensures.tree c.in-Sequence.is in
    on_ok_weaker c.put_line.result (λ h. sequence_deep c.args.place c.args.level t _ (written c.args.out.now) _ e _ (some_items (tree_of g.V.RankedNodes.tree N v) xs (sym c.if-is_empty.ensures)) (deep c.args.level (omega arith)) h) c.put_line.ensures.ok

pub put_node-put_items-requires : goal.put_node-put_items-requires
put_node-put_items-requires g w c =
    let N = g.V.RankedNodes.number in
    let v = c.args.view.now in
    let T = g.V.RankedNodes.tree v in
    let within = items-within N T _ _ _ c.node-node.ensures.within c.in-Sequence.is in
    let high : height (T (N c.args.id)) ≡ heights (trees_of g.V.RankedNodes.tree N v c.in-Sequence.items.now) = sequence-high N T _ _ _ _ c.node-node.ensures.tree c.in-Sequence.is in
    let lower : 2 * heights (trees_of g.V.RankedNodes.tree N v c.in-Sequence.items.now) < 2 * height (T (N c.args.id)) + 1 = omega (arith, high) in
    search rules

pub put_node-returns-in_ok-put_head-in-Sequence-clause-ok : goal.put_node-returns-in_ok-put_head-in-Sequence-clause-ok
put_node-returns-in_ok-put_head-in-Sequence-clause-ok g w c =
    let N = g.V.RankedNodes.number in
    let v = c.args.view.now in
    let T = g.V.RankedNodes.tree v in
    let t = T (N c.args.id) in
    let xs = c.in-Sequence.items.now in
    let e = sequence-shown N T t _ _ _ c.node-node.ensures.tree c.in-Sequence.is in
    on_ok_weaker c.put_items.result (λ h. sequence_lines c.args.place c.args.level t _ (written c.args.out.now) _ e _ _ _ _ seq_own (some_items (tree_of g.V.RankedNodes.tree N v) xs (sym c.if-is_empty.ensures)) (shallow c.args.level (omega arith)) c.goes_on-begun.ensures c.in_ok-put_head-in-Sequence.ensures.ok h) c.put_items.ensures.ok

pub put_node-returns-then-is_empty-2-clause-ok : goal.put_node-returns-then-is_empty-2-clause-ok
put_node-returns-then-is_empty-2-clause-ok g w c =
    let N = g.V.RankedNodes.number in
    let v = c.args.view.now in
    let T = g.V.RankedNodes.tree v in
    let t = T (N c.args.id) in
    let xs = c.in-Mapping.entries.now in
    let e = mapping-shown N T t _ _ _ c.node-node.ensures.tree c.in-Mapping.is in
    on_ok_weaker c.put_empty-then-is_empty-2.result (λ h. mapping_empty c.args.place c.args.level t _ (written c.args.out.now) _ e _ _ map_own (none_entries (pair_of g.V.RankedNodes.tree N v) xs (sym c.if-is_empty-2.ensures)) h) c.put_empty-then-is_empty-2.ensures.ok

pub put_node-returns-then-level-ge-DEEPEST-2-clause-ok : goal.put_node-returns-then-level-ge-DEEPEST-2-clause-ok
put_node-returns-then-level-ge-DEEPEST-2-clause-ok g w c =
    let N = g.V.RankedNodes.number in
    let v = c.args.view.now in
    let T = g.V.RankedNodes.tree v in
    let t = T (N c.args.id) in
    let xs = c.in-Mapping.entries.now in
    let e = mapping-shown N T t _ _ _ c.node-node.ensures.tree c.in-Mapping.is in
    on_ok_weaker c.put_line-then-level-ge-DEEPEST-2.result (λ h. mapping_deep c.args.place c.args.level t _ (written c.args.out.now) _ e _ (some_entries (pair_of g.V.RankedNodes.tree N v) xs (sym c.if-is_empty-2.ensures)) (deep c.args.level (omega arith)) h) c.put_line-then-level-ge-DEEPEST-2.ensures.ok

pub put_node-all_fit-requires-clause-within : goal.put_node-all_fit-requires-clause-within
put_node-all_fit-requires-clause-within g w c =
    entries-within g.V.RankedNodes.number (g.V.RankedNodes.tree c.args.view.now) _ _ _ c.node-node.ensures.within c.in-Mapping.is

pub put_node-returns-then-not-branch-clause-ok : goal.put_node-returns-then-not-branch-clause-ok
put_node-returns-then-not-branch-clause-ok g w c =
    let N = g.V.RankedNodes.number in
    let v = c.args.view.now in
    let T = g.V.RankedNodes.tree v in
    let t = T (N c.args.id) in
    let xs = c.in-Mapping.entries.now in
    let e = mapping-shown N T t _ _ _ c.node-node.ensures.tree c.in-Mapping.is in
    on_ok_weaker c.put_line-then-not-branch.result (λ h. mapping_wide c.args.place c.args.level t _ (written c.args.out.now) _ e _ (some_entries (pair_of g.V.RankedNodes.tree N v) xs (sym c.if-is_empty-2.ensures)) (shallow c.args.level (omega arith)) (sym c.in_ok-all_fit-in-Mapping.ensures.ok ∙ c.if-not-branch.true) h) c.put_line-then-not-branch.ensures.ok

pub put_node-put_entries-requires : goal.put_node-put_entries-requires
put_node-put_entries-requires g w c =
    let N = g.V.RankedNodes.number in
    let v = c.args.view.now in
    let T = g.V.RankedNodes.tree v in
    let within = entries-within N T _ _ _ c.node-node.ensures.within c.in-Mapping.is in
    let high : height (T (N c.args.id)) ≡ heights_of_pairs (pairs_of g.V.RankedNodes.tree N v c.in-Mapping.entries.now) = mapping-high N T _ _ _ _ c.node-node.ensures.tree c.in-Mapping.is in
    let lower : 2 * heights_of_pairs (pairs_of g.V.RankedNodes.tree N v c.in-Mapping.entries.now) < 2 * height (T (N c.args.id)) + 1 = omega (arith, high) in
    search rules

pub put_node-returns-in_ok-put_head-in-Mapping-clause-ok : goal.put_node-returns-in_ok-put_head-in-Mapping-clause-ok
put_node-returns-in_ok-put_head-in-Mapping-clause-ok g w c =
    let N = g.V.RankedNodes.number in
    let v = c.args.view.now in
    let T = g.V.RankedNodes.tree v in
    let t = T (N c.args.id) in
    let xs = c.in-Mapping.entries.now in
    let e = mapping-shown N T t _ _ _ c.node-node.ensures.tree c.in-Mapping.is in
    on_ok_weaker c.put_entries.result (λ h. mapping_lines c.args.place c.args.level t _ (written c.args.out.now) _ e _ _ _ _ map_own (some_entries (pair_of g.V.RankedNodes.tree N v) xs (sym c.if-is_empty-2.ensures)) (shallow c.args.level (omega arith)) (sym c.in_ok-all_fit-in-Mapping.ensures.ok ∙ c.if-not-branch.false) c.goes_on-begun-in-Mapping.ensures c.in_ok-put_head-in-Mapping.ensures.ok h) c.put_entries.ensures.ok

pub put_items-returns-in_err-put_before-clause-limit : goal.put_items-returns-in_err-put_before-clause-limit
put_items-returns-in_err-put_before-clause-limit g w c = c.in_err-put_before.ensures.limit ∙ c.loop-item.invariant.0

pub put_items-returns-in_err-put_before-clause-err : goal.put_items-returns-in_err-put_before-clause-err
put_items-returns-in_err-put_before-clause-err g w c =
    let xs = c.args.items.now in
    let i = c.loop-item.item-index in
    let x = c.item-item.result in
    let l = drop_item xs i x (omega arith) c.item-item.is in
    let p = err_from_is_err_and c.from_residual.result c.from_residual.ensures.1 in
    rw (p.1, p.2) (before_two _ _ _ _ _ c.loop-item.invariant.0 c.in_err-put_before.ensures.err _ _ _ (sym (part_step (tree_of g.V.RankedNodes.tree g.V.RankedNodes.number c.args.view.now) xs i c.args.level x c.loop-item.is_begun _ _ _ _ _ l c.loop-item.invariant.1 refl refl refl)))

pub put_items-returns-in_err-put-clause-limit : goal.put_items-returns-in_err-put-clause-limit
put_items-returns-in_err-put-clause-limit g w c = c.in_err-put.ensures.limit ∙ c.in_ok-put_before.ensures.limit ∙ c.loop-item.invariant.0

pub put_items-returns-in_err-put-clause-err : goal.put_items-returns-in_err-put-clause-err
put_items-returns-in_err-put-clause-err g w c =
    let xs = c.args.items.now in
    let i = c.loop-item.item-index in
    let x = c.item-item.result in
    let l = drop_item xs i x (omega arith) c.item-item.is in
    let p = err_from_is_err_and c.from_residual-in_err-put.result c.from_residual-in_err-put.ensures.1 in
    rw (p.1, p.2) (before_one _ _ _ _ _ (c.in_ok-put_before.ensures.limit ∙ c.loop-item.invariant.0) c.in_err-put.ensures.err _ _ (sym (part_step (tree_of g.V.RankedNodes.tree g.V.RankedNodes.number c.args.view.now) xs i c.args.level x c.loop-item.is_begun _ _ _ _ _ l c.loop-item.invariant.1 c.in_ok-put_before.ensures.ok refl refl)))

pub put_items-returns-in_err-put_node-clause-limit : goal.put_items-returns-in_err-put_node-clause-limit
put_items-returns-in_err-put_node-clause-limit g w c = c.in_err-put_node.ensures.limit ∙ c.in_ok-put.ensures.limit ∙ c.in_ok-put_before.ensures.limit ∙ c.loop-item.invariant.0

pub put_items-returns-in_err-put_node-clause-err : goal.put_items-returns-in_err-put_node-clause-err
put_items-returns-in_err-put_node-clause-err g w c =
    let xs = c.args.items.now in
    let i = c.loop-item.item-index in
    let x = c.item-item.result in
    let l = drop_item xs i x (omega arith) c.item-item.is in
    let p = err_from_is_err_and c.from_residual-in_err-put_node.result c.from_residual-in_err-put_node.ensures.1 in
    rw (p.1, p.2) (stops_longer _ _ _ _ _ _ (c.in_ok-put.ensures.limit ∙ c.in_ok-put_before.ensures.limit ∙ c.loop-item.invariant.0) (sym (part_step (tree_of g.V.RankedNodes.tree g.V.RankedNodes.number c.args.view.now) xs i c.args.level x c.loop-item.is_begun _ _ _ _ _ l c.loop-item.invariant.1 c.in_ok-put_before.ensures.ok c.in_ok-put.ensures.ok refl)) c.in_err-put_node.ensures.err)

pub put_items-returns-clause-limit : goal.put_items-returns-clause-limit
put_items-returns-clause-limit g w c = c.loop-item.invariant.0

pub put_entries-returns-in_err-put_before-clause-limit : goal.put_entries-returns-in_err-put_before-clause-limit
put_entries-returns-in_err-put_before-clause-limit g w c = c.in_err-put_before.ensures.limit ∙ c.loop-entry.invariant.0

pub put_entries-returns-in_err-put_before-clause-err : goal.put_entries-returns-in_err-put_before-clause-err
put_entries-returns-in_err-put_before-clause-err g w c =
    let xs = c.args.entries.now in
    let i = c.loop-entry.entry-index in
    let x = c.entry-item.result in
    let l = drop_item xs i x (omega arith) c.entry-item.is in
    let p = err_from_is_err_and c.from_residual.result c.from_residual.ensures.1 in
    rw (p.1, p.2) (before_three _ _ _ _ _ c.loop-entry.invariant.0 c.in_err-put_before.ensures.err _ _ _ _ (sym (entry_step (pair_of g.V.RankedNodes.tree g.V.RankedNodes.number c.args.view.now) xs i c.args.level x c.loop-entry.is_begun _ _ _ _ _ _ l c.loop-entry.invariant.1 refl refl refl refl)))

pub put_entries-returns-in_err-put_key-clause-limit : goal.put_entries-returns-in_err-put_key-clause-limit
put_entries-returns-in_err-put_key-clause-limit g w c = c.in_err-put_key.ensures.limit ∙ c.in_ok-put_before.ensures.limit ∙ c.loop-entry.invariant.0

pub put_entries-returns-in_err-put_key-clause-err : goal.put_entries-returns-in_err-put_key-clause-err
put_entries-returns-in_err-put_key-clause-err g w c =
    let xs = c.args.entries.now in
    let i = c.loop-entry.entry-index in
    let x = c.entry-item.result in
    let l = drop_item xs i x (omega arith) c.entry-item.is in
    let p = err_from_is_err_and c.from_residual-in_err-put_key.result c.from_residual-in_err-put_key.ensures.1 in
    rw (p.1, p.2) (before_two _ _ _ _ _ (c.in_ok-put_before.ensures.limit ∙ c.loop-entry.invariant.0) c.in_err-put_key.ensures.err _ _ _ (sym (entry_step (pair_of g.V.RankedNodes.tree g.V.RankedNodes.number c.args.view.now) xs i c.args.level x c.loop-entry.is_begun _ _ _ _ _ _ l c.loop-entry.invariant.1 c.in_ok-put_before.ensures.ok refl refl refl)))

pub put_entries-returns-in_err-put-clause-limit : goal.put_entries-returns-in_err-put-clause-limit
put_entries-returns-in_err-put-clause-limit g w c = c.in_err-put.ensures.limit ∙ c.in_ok-put_key.ensures.limit ∙ c.in_ok-put_before.ensures.limit ∙ c.loop-entry.invariant.0

pub put_entries-returns-in_err-put-clause-err : goal.put_entries-returns-in_err-put-clause-err
put_entries-returns-in_err-put-clause-err g w c =
    let xs = c.args.entries.now in
    let i = c.loop-entry.entry-index in
    let x = c.entry-item.result in
    let l = drop_item xs i x (omega arith) c.entry-item.is in
    let p = err_from_is_err_and c.from_residual-in_err-put.result c.from_residual-in_err-put.ensures.1 in
    rw (p.1, p.2) (before_one _ _ _ _ _ (c.in_ok-put_key.ensures.limit ∙ c.in_ok-put_before.ensures.limit ∙ c.loop-entry.invariant.0) c.in_err-put.ensures.err _ _ (sym (entry_step (pair_of g.V.RankedNodes.tree g.V.RankedNodes.number c.args.view.now) xs i c.args.level x c.loop-entry.is_begun _ _ _ _ _ _ l c.loop-entry.invariant.1 c.in_ok-put_before.ensures.ok c.in_ok-put_key.ensures.ok refl refl)))

pub put_entries-returns-in_err-put_node-clause-limit : goal.put_entries-returns-in_err-put_node-clause-limit
put_entries-returns-in_err-put_node-clause-limit g w c = c.in_err-put_node.ensures.limit ∙ c.in_ok-put.ensures.limit ∙ c.in_ok-put_key.ensures.limit ∙ c.in_ok-put_before.ensures.limit ∙ c.loop-entry.invariant.0

pub put_entries-returns-in_err-put_node-clause-err : goal.put_entries-returns-in_err-put_node-clause-err
put_entries-returns-in_err-put_node-clause-err g w c =
    let xs = c.args.entries.now in
    let i = c.loop-entry.entry-index in
    let x = c.entry-item.result in
    let l = drop_item xs i x (omega arith) c.entry-item.is in
    let p = err_from_is_err_and c.from_residual-in_err-put_node.result c.from_residual-in_err-put_node.ensures.1 in
    rw (p.1, p.2) (stops_longer _ _ _ _ _ _ (c.in_ok-put.ensures.limit ∙ c.in_ok-put_key.ensures.limit ∙ c.in_ok-put_before.ensures.limit ∙ c.loop-entry.invariant.0) (sym (entry_step (pair_of g.V.RankedNodes.tree g.V.RankedNodes.number c.args.view.now) xs i c.args.level x c.loop-entry.is_begun _ _ _ _ _ _ l c.loop-entry.invariant.1 c.in_ok-put_before.ensures.ok c.in_ok-put_key.ensures.ok c.in_ok-put.ensures.ok refl)) c.in_err-put_node.ensures.err)

pub put_entries-returns-clause-limit : goal.put_entries-returns-clause-limit
put_entries-returns-clause-limit g w c = c.loop-entry.invariant.0

pub put_node-returns-in-Scalar-clause-err : goal.put_node-returns-in-Scalar-clause-err
put_node-returns-in-Scalar-clause-err g w c =
    let N = g.V.RankedNodes.number in
    let v = c.args.view.now in
    let T = g.V.RankedNodes.tree v in
    let t = T (N c.args.id) in
    let e = scalar-shown N T t _ _ _ c.node-node.ensures.tree c.in-Scalar.is in
    if_same c.put_scalar_node.result _ _ _ _ refl (ap (λ z. written c.args.out.now ++ z) (sym (scalar_node c.args.place c.args.level t _ (written c.args.out.now) _ e))) c.put_scalar_node.ensures.err

pub put_node-returns-then-is_empty-clause-err : goal.put_node-returns-then-is_empty-clause-err
put_node-returns-then-is_empty-clause-err g w c =
    let N = g.V.RankedNodes.number in
    let v = c.args.view.now in
    let T = g.V.RankedNodes.tree v in
    let t = T (N c.args.id) in
    let xs = c.in-Sequence.items.now in
    let e = sequence-shown N T t _ _ _ c.node-node.ensures.tree c.in-Sequence.is in
    if_same c.put_empty.result _ _ _ _ refl (sym (sequence_empty c.args.place c.args.level t _ (written c.args.out.now) _ e _ _ seq_own (none_items (tree_of g.V.RankedNodes.tree N v) xs (sym c.if-is_empty.ensures)) refl)) c.put_empty.ensures.err

pub put_node-returns-then-level-ge-DEEPEST-clause-err : goal.put_node-returns-then-level-ge-DEEPEST-clause-err
put_node-returns-then-level-ge-DEEPEST-clause-err g w c =
    let N = g.V.RankedNodes.number in
    let v = c.args.view.now in
    let T = g.V.RankedNodes.tree v in
    let t = T (N c.args.id) in
    let xs = c.in-Sequence.items.now in
    let e = sequence-shown N T t _ _ _ c.node-node.ensures.tree c.in-Sequence.is in
    if_same c.put_line.result _ _ _ _ refl (sym (sequence_deep c.args.place c.args.level t _ (written c.args.out.now) _ e _ (some_items (tree_of g.V.RankedNodes.tree N v) xs (sym c.if-is_empty.ensures)) (deep c.args.level (omega arith)) refl)) c.put_line.ensures.err

pub put_node-returns-in_err-put_head-in-Sequence-clause-err : goal.put_node-returns-in_err-put_head-in-Sequence-clause-err
put_node-returns-in_err-put_head-in-Sequence-clause-err g w c =
    let N = g.V.RankedNodes.number in
    let v = c.args.view.now in
    let T = g.V.RankedNodes.tree v in
    let t = T (N c.args.id) in
    let xs = c.in-Sequence.items.now in
    let e = sequence-shown N T t _ _ _ c.node-node.ensures.tree c.in-Sequence.is in
    let p = err_from_is_err_and c.from_residual.result c.from_residual.ensures.1 in
    rw (p.1, p.2) (stops_longer _ _ _ _ _ _ refl (sym (sequence_lines c.args.place c.args.level t _ (written c.args.out.now) _ e _ _ _ _ seq_own (some_items (tree_of g.V.RankedNodes.tree N v) xs (sym c.if-is_empty.ensures)) (shallow c.args.level (omega arith)) refl refl refl)) c.in_err-put_head-in-Sequence.ensures.err)

pub put_node-returns-in_ok-put_head-in-Sequence-clause-err : goal.put_node-returns-in_ok-put_head-in-Sequence-clause-err
put_node-returns-in_ok-put_head-in-Sequence-clause-err g w c =
    let N = g.V.RankedNodes.number in
    let v = c.args.view.now in
    let T = g.V.RankedNodes.tree v in
    let t = T (N c.args.id) in
    let xs = c.in-Sequence.items.now in
    let e = sequence-shown N T t _ _ _ c.node-node.ensures.tree c.in-Sequence.is in
    if_same c.put_items.result _ _ _ _ c.in_ok-put_head-in-Sequence.ensures.limit (sym (sequence_lines c.args.place c.args.level t _ (written c.args.out.now) _ e _ _ _ _ seq_own (some_items (tree_of g.V.RankedNodes.tree N v) xs (sym c.if-is_empty.ensures)) (shallow c.args.level (omega arith)) c.goes_on-begun.ensures c.in_ok-put_head-in-Sequence.ensures.ok refl)) c.put_items.ensures.err

pub put_node-returns-then-is_empty-2-clause-err : goal.put_node-returns-then-is_empty-2-clause-err
put_node-returns-then-is_empty-2-clause-err g w c =
    let N = g.V.RankedNodes.number in
    let v = c.args.view.now in
    let T = g.V.RankedNodes.tree v in
    let t = T (N c.args.id) in
    let xs = c.in-Mapping.entries.now in
    let e = mapping-shown N T t _ _ _ c.node-node.ensures.tree c.in-Mapping.is in
    if_same c.put_empty-then-is_empty-2.result _ _ _ _ refl (sym (mapping_empty c.args.place c.args.level t _ (written c.args.out.now) _ e _ _ map_own (none_entries (pair_of g.V.RankedNodes.tree N v) xs (sym c.if-is_empty-2.ensures)) refl)) c.put_empty-then-is_empty-2.ensures.err

pub put_node-returns-then-level-ge-DEEPEST-2-clause-err : goal.put_node-returns-then-level-ge-DEEPEST-2-clause-err
put_node-returns-then-level-ge-DEEPEST-2-clause-err g w c =
    let N = g.V.RankedNodes.number in
    let v = c.args.view.now in
    let T = g.V.RankedNodes.tree v in
    let t = T (N c.args.id) in
    let xs = c.in-Mapping.entries.now in
    let e = mapping-shown N T t _ _ _ c.node-node.ensures.tree c.in-Mapping.is in
    if_same c.put_line-then-level-ge-DEEPEST-2.result _ _ _ _ refl (sym (mapping_deep c.args.place c.args.level t _ (written c.args.out.now) _ e _ (some_entries (pair_of g.V.RankedNodes.tree N v) xs (sym c.if-is_empty-2.ensures)) (deep c.args.level (omega arith)) refl)) c.put_line-then-level-ge-DEEPEST-2.ensures.err

pub put_node-returns-in_err-put_head-in-Mapping-clause-err : goal.put_node-returns-in_err-put_head-in-Mapping-clause-err
put_node-returns-in_err-put_head-in-Mapping-clause-err g w c =
    let N = g.V.RankedNodes.number in
    let v = c.args.view.now in
    let T = g.V.RankedNodes.tree v in
    let t = T (N c.args.id) in
    let xs = c.in-Mapping.entries.now in
    let e = mapping-shown N T t _ _ _ c.node-node.ensures.tree c.in-Mapping.is in
    let p = err_from_is_err_and c.from_residual-in_err-put_head-in-Mapping.result c.from_residual-in_err-put_head-in-Mapping.ensures.1 in
    rw (p.1, p.2) (stops_longer _ _ _ _ _ _ refl (sym (mapping_lines c.args.place c.args.level t _ (written c.args.out.now) _ e _ _ _ _ map_own (some_entries (pair_of g.V.RankedNodes.tree N v) xs (sym c.if-is_empty-2.ensures)) (shallow c.args.level (omega arith)) (sym c.in_ok-all_fit-in-Mapping.ensures.ok ∙ c.if-not-branch.false) refl refl refl)) c.in_err-put_head-in-Mapping.ensures.err)

pub put_node-returns-in_ok-put_head-in-Mapping-clause-err : goal.put_node-returns-in_ok-put_head-in-Mapping-clause-err
put_node-returns-in_ok-put_head-in-Mapping-clause-err g w c =
    let N = g.V.RankedNodes.number in
    let v = c.args.view.now in
    let T = g.V.RankedNodes.tree v in
    let t = T (N c.args.id) in
    let xs = c.in-Mapping.entries.now in
    let e = mapping-shown N T t _ _ _ c.node-node.ensures.tree c.in-Mapping.is in
    if_same c.put_entries.result _ _ _ _ c.in_ok-put_head-in-Mapping.ensures.limit (sym (mapping_lines c.args.place c.args.level t _ (written c.args.out.now) _ e _ _ _ _ map_own (some_entries (pair_of g.V.RankedNodes.tree N v) xs (sym c.if-is_empty-2.ensures)) (shallow c.args.level (omega arith)) (sym c.in_ok-all_fit-in-Mapping.ensures.ok ∙ c.if-not-branch.false) c.goes_on-begun-in-Mapping.ensures c.in_ok-put_head-in-Mapping.ensures.ok refl)) c.put_entries.ensures.err

pub put_node-returns-then-not-branch-clause-err : goal.put_node-returns-then-not-branch-clause-err
put_node-returns-then-not-branch-clause-err g w c =
    let N = g.V.RankedNodes.number in
    let v = c.args.view.now in
    let T = g.V.RankedNodes.tree v in
    let t = T (N c.args.id) in
    let xs = c.in-Mapping.entries.now in
    let e = mapping-shown N T t _ _ _ c.node-node.ensures.tree c.in-Mapping.is in
    if_same c.put_line-then-not-branch.result _ _ _ _ refl (sym (mapping_wide c.args.place c.args.level t _ (written c.args.out.now) _ e _ (some_entries (pair_of g.V.RankedNodes.tree N v) xs (sym c.if-is_empty-2.ensures)) (shallow c.args.level (omega arith)) (sym c.in_ok-all_fit-in-Mapping.ensures.ok ∙ c.if-not-branch.true) refl)) c.put_line-then-not-branch.ensures.err

pub put_node-returns-in_err-all_fit-in-Mapping-clause-err : goal.put_node-returns-in_err-all_fit-in-Mapping-clause-err
put_node-returns-in_err-all_fit-in-Mapping-clause-err g w c =
    let p = err_from_is_err_and c.from_residual-in_err-all_fit-in-Mapping.result c.from_residual-in_err-all_fit-in-Mapping.ensures.1 in
    rw (p.1, p.2) (memory_stops _ _ _ c.in_err-all_fit-in-Mapping.ensures.err)
