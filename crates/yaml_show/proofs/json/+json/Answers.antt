use Rattle.std.proofs.Common.{◌≡◌, ◌+◌, ◌*◌, ◌<◌, ◌∷◌, [], refl, sym, ◌∙◌, rules, arith}
use Rattle.std.proofs.lemmas.Result.{on_ok_weaker, IfErr-weaker, err_from_is_err_and}
use Rattle.yaml_definitions.specs.model.Tree.{height, heights, heights_of_pairs}
use Rattle.yaml_spell.specs.RankedNodes.{tree_of, pair_of, trees_of, pairs_of}
use Rattle.yaml_spell.proofs.ShownLaws.{scalar-shown, sequence-shown, mapping-shown, items-within, entries-within, sequence-high, mapping-high, item-lower, value-lower, item-in}
use Rattle.yaml_spell.proofs.WalkLaws.{drop_item}
use Rattle.std.proofs.lemmas.List.{append_assoc}
use Rattle.yaml_show_scalar.proofs.StopLaws.{stops_longer, stops_same}
use Rattle.yaml_show.proofs.StopLaws.{before_one, before_two}
use Rattle.yaml_show.proofs.FlowLaws.{begun}
use Rattle.yaml_show.proofs.JsonLaws.{scalar_says, scalar_lacks, sequence_says, sequence_lacks, other_sequence, mapping_says, mapping_lacks, other_mapping, items_step, item_lacks, items_end, item_within, entries_step, entry_within, key_within, stop_overruns, overruns_longer, scalar_overruns, sequence_overruns, mapping_overruns, key_of_entry_lacks, value_of_entry_lacks, entries_end}
use Rattle.yaml_show.proofs.json.+json.Goals as goal

pub put_json-returns-in-Scalar-clause-ok : goal.put_json-returns-in-Scalar-clause-ok
put_json-returns-in-Scalar-clause-ok g w c =
    let N = g.V.RankedNodes.number in
    let T = g.V.RankedNodes.tree c.args.view.now in
    let t = T (N c.args.id) in
    let e = scalar-shown N T t _ _ _ c.node-node.ensures.tree c.in-Scalar.is in
    on_ok_weaker c.put_json_scalar.result (scalar_says t _ _ _ _ e) c.put_json_scalar.ensures.ok

pub put_json-returns-in-Scalar-clause-err : goal.put_json-returns-in-Scalar-clause-err
put_json-returns-in-Scalar-clause-err g w c =
    let N = g.V.RankedNodes.number in
    let T = g.V.RankedNodes.tree c.args.view.now in
    let t = T (N c.args.id) in
    let e = scalar-shown N T t _ _ _ c.node-node.ensures.tree c.in-Scalar.is in
    IfErr-weaker c.put_json_scalar.result _ _ (λ why. scalar_lacks t _ _ why e) c.put_json_scalar.ensures.err

pub put_json-returns-then-is_sequence-clause-ok : goal.put_json-returns-then-is_sequence-clause-ok
put_json-returns-then-is_sequence-clause-ok g w c =
    let N = g.V.RankedNodes.number in
    let T = g.V.RankedNodes.tree c.args.view.now in
    let t = T (N c.args.id) in
    let e = sequence-shown N T t _ _ _ c.node-node.ensures.tree c.in-Sequence.is in
    on_ok_weaker c.put_json_items.result (sequence_says t _ _ e _ _ (sym c.is_sequence.ensures ∙ c.if-is_sequence.true)) c.put_json_items.ensures.ok

pub put_json-returns-then-is_sequence-clause-err : goal.put_json-returns-then-is_sequence-clause-err
put_json-returns-then-is_sequence-clause-err g w c =
    let N = g.V.RankedNodes.number in
    let T = g.V.RankedNodes.tree c.args.view.now in
    let t = T (N c.args.id) in
    let e = sequence-shown N T t _ _ _ c.node-node.ensures.tree c.in-Sequence.is in
    IfErr-weaker c.put_json_items.result _ _ (λ why. sequence_lacks t _ _ e why (sym c.is_sequence.ensures ∙ c.if-is_sequence.true)) c.put_json_items.ensures.err

pub put_json-returns-else-is_sequence-clause-err : goal.put_json-returns-else-is_sequence-clause-err
put_json-returns-else-is_sequence-clause-err g w c =
    let N = g.V.RankedNodes.number in
    let T = g.V.RankedNodes.tree c.args.view.now in
    let t = T (N c.args.id) in
    let e = sequence-shown N T t _ _ _ c.node-node.ensures.tree c.in-Sequence.is in
    other_sequence t _ _ e (sym c.is_sequence.ensures ∙ c.if-is_sequence.false)

pub put_json-returns-then-is_mapping-clause-ok : goal.put_json-returns-then-is_mapping-clause-ok
put_json-returns-then-is_mapping-clause-ok g w c =
    let N = g.V.RankedNodes.number in
    let T = g.V.RankedNodes.tree c.args.view.now in
    let t = T (N c.args.id) in
    let e = mapping-shown N T t _ _ _ c.node-node.ensures.tree c.in-Mapping.is in
    on_ok_weaker c.put_json_entries.result (mapping_says t _ _ e _ _ (sym c.is_mapping.ensures ∙ c.if-is_mapping.true)) c.put_json_entries.ensures.ok

pub put_json-returns-then-is_mapping-clause-err : goal.put_json-returns-then-is_mapping-clause-err
put_json-returns-then-is_mapping-clause-err g w c =
    let N = g.V.RankedNodes.number in
    let T = g.V.RankedNodes.tree c.args.view.now in
    let t = T (N c.args.id) in
    let e = mapping-shown N T t _ _ _ c.node-node.ensures.tree c.in-Mapping.is in
    IfErr-weaker c.put_json_entries.result _ _ (λ why. mapping_lacks t _ _ e why (sym c.is_mapping.ensures ∙ c.if-is_mapping.true)) c.put_json_entries.ensures.err

pub put_json-returns-else-is_mapping-clause-err : goal.put_json-returns-else-is_mapping-clause-err
put_json-returns-else-is_mapping-clause-err g w c =
    let N = g.V.RankedNodes.number in
    let T = g.V.RankedNodes.tree c.args.view.now in
    let t = T (N c.args.id) in
    let e = mapping-shown N T t _ _ _ c.node-node.ensures.tree c.in-Mapping.is in
    other_mapping t _ _ e (sym c.is_mapping.ensures ∙ c.if-is_mapping.false)

pub put_json_items-loop-place-init : goal.put_json_items-loop-place-init
put_json_items-loop-place-init g w c =
    (c.in_ok-put.ensures.limit, (begun _ _ _ 91 c.in_ok-put.ensures.ok, refl))

pub put_json_items-loop-place-preserved : goal.put_json_items-loop-place-preserved
put_json_items-loop-place-preserved g w c =
    let f = tree_of g.V.RankedNodes.tree g.V.RankedNodes.number c.args.view.now in
    let xs = c.args.items.now in
    let i = c.loop-place.place in
    let x = c.index-items-place.result in
    let l = drop_item xs i x (omega arith) c.index-items-place.is in
    (c.in_ok-put_json.ensures.limit ∙ c.in_ok-put_separator.ensures.limit ∙ c.loop-place.invariant.0, items_step f xs i x _ _ l c.loop-place.invariant.1 _ _ c.in_ok-put_separator.ensures.ok c.in_ok-put_json.ensures.ok)

pub put_json_items-returns-in_err-put_json-clause-err : goal.put_json_items-returns-in_err-put_json-clause-err
put_json_items-returns-in_err-put_json-clause-err g w c =
    let f = tree_of g.V.RankedNodes.tree g.V.RankedNodes.number c.args.view.now in
    let xs = c.args.items.now in
    let i = c.loop-place.place in
    let x = c.index-items-place.result in
    let l = drop_item xs i x (omega arith) c.index-items-place.is in
    let h = item_lacks f xs i x _ _ l c.loop-place.invariant.1 _ c.in_err-put_json.ensures.err in
    search (rules, h)

pub put_json_items-returns-clause-ok : goal.put_json_items-returns-clause-ok
put_json_items-returns-clause-ok g w c =
    items_end (tree_of g.V.RankedNodes.tree g.V.RankedNodes.number c.args.view.now) c.args.items.now c.loop-place.place _ _ _ (omega arith) c.loop-place.invariant.1 c.in_ok-put-2.ensures.ok

pub put_json_entries-loop-place-init : goal.put_json_entries-loop-place-init
put_json_entries-loop-place-init g w c =
    (c.in_ok-put.ensures.limit, (begun _ _ _ 123 c.in_ok-put.ensures.ok, refl))

pub put_json_entries-loop-place-preserved : goal.put_json_entries-loop-place-preserved
put_json_entries-loop-place-preserved g w c =
    let f = pair_of g.V.RankedNodes.tree g.V.RankedNodes.number c.args.view.now in
    let xs = c.args.entries.now in
    let i = c.loop-place.place in
    let x = c.index-entries-place.result in
    let l = drop_item xs i x (omega arith) c.index-entries-place.is in
    (c.in_ok-put_json.ensures.limit ∙ c.in_ok-put_json_key.ensures.limit ∙ c.in_ok-put_separator.ensures.limit ∙ c.loop-place.invariant.0, entries_step f xs i x _ _ l c.loop-place.invariant.1 _ _ _ c.in_ok-put_separator.ensures.ok c.in_ok-put_json_key.ensures.ok c.in_ok-put_json.ensures.ok)

pub put_json_entries-returns-in_err-put_json_key-clause-err : goal.put_json_entries-returns-in_err-put_json_key-clause-err
put_json_entries-returns-in_err-put_json_key-clause-err g w c =
    let f = pair_of g.V.RankedNodes.tree g.V.RankedNodes.number c.args.view.now in
    let xs = c.args.entries.now in
    let i = c.loop-place.place in
    let x = c.index-entries-place.result in
    let l = drop_item xs i x (omega arith) c.index-entries-place.is in
    let h = key_of_entry_lacks f xs i x _ _ l c.loop-place.invariant.1 _ c.in_err-put_json_key.ensures.err in
    search (rules, h)

pub put_json_entries-returns-in_err-put_json-clause-err : goal.put_json_entries-returns-in_err-put_json-clause-err
put_json_entries-returns-in_err-put_json-clause-err g w c =
    let f = pair_of g.V.RankedNodes.tree g.V.RankedNodes.number c.args.view.now in
    let xs = c.args.entries.now in
    let i = c.loop-place.place in
    let x = c.index-entries-place.result in
    let l = drop_item xs i x (omega arith) c.index-entries-place.is in
    let h = value_of_entry_lacks f xs i x _ _ l c.loop-place.invariant.1 _ c.in_ok-put_json_key.ensures.ok.1 c.in_err-put_json.ensures.err in
    search (rules, h)

pub put_json_entries-returns-clause-ok : goal.put_json_entries-returns-clause-ok
put_json_entries-returns-clause-ok g w c =
    entries_end (pair_of g.V.RankedNodes.tree g.V.RankedNodes.number c.args.view.now) c.args.entries.now c.loop-place.place _ _ _ (omega arith) c.loop-place.invariant.1 c.in_ok-put-2.ensures.ok

pub put_json-put_json_items-requires : goal.put_json-put_json_items-requires
put_json-put_json_items-requires g w c =
    let N = g.V.RankedNodes.number in
    let v = c.args.view.now in
    let T = g.V.RankedNodes.tree v in
    let within = items-within N T _ _ _ c.node-node.ensures.within c.in-Sequence.is in
    let high : height (T (N c.args.id)) ≡ heights (trees_of g.V.RankedNodes.tree N v c.in-Sequence.items.now) = sequence-high N T _ _ _ _ c.node-node.ensures.tree c.in-Sequence.is in
    let lower : 2 * heights (trees_of g.V.RankedNodes.tree N v c.in-Sequence.items.now) < 2 * height (T (N c.args.id)) + 1 = omega (arith, high) in
    search rules

pub put_json-put_json_entries-requires : goal.put_json-put_json_entries-requires
put_json-put_json_entries-requires g w c =
    let N = g.V.RankedNodes.number in
    let v = c.args.view.now in
    let T = g.V.RankedNodes.tree v in
    let within = entries-within N T _ _ _ c.node-node.ensures.within c.in-Mapping.is in
    let high : height (T (N c.args.id)) ≡ heights_of_pairs (pairs_of g.V.RankedNodes.tree N v c.in-Mapping.entries.now) = mapping-high N T _ _ _ _ c.node-node.ensures.tree c.in-Mapping.is in
    let lower : 2 * heights_of_pairs (pairs_of g.V.RankedNodes.tree N v c.in-Mapping.entries.now) < 2 * height (T (N c.args.id)) + 1 = omega (arith, high) in
    search rules

pub put_json_items-put_json-requires : goal.put_json_items-put_json-requires
put_json_items-put_json-requires g w c =
    let N = g.V.RankedNodes.number in
    let v = c.args.view.now in
    let T = g.V.RankedNodes.tree v in
    let xs = c.args.items.now in
    let x = c.index-items-place.result in
    let within = item-in (λ i. N i < g.V.RankedNodes.count v) xs c.loop-place.place x c.requires.within (omega arith) c.index-items-place.is in
    let low = item-lower N T xs c.loop-place.place x (omega arith) c.index-items-place.is in
    let lower : 2 * height (T (N x)) + 1 < 2 * heights (trees_of g.V.RankedNodes.tree N v xs) = omega (arith, low) in
    search rules

pub put_json_entries-put_json_key-requires-clause-within : goal.put_json_entries-put_json_key-requires-clause-within
put_json_entries-put_json_key-requires-clause-within g w c =
    let N = g.V.RankedNodes.number in
    let v = c.args.view.now in
    (item-in (λ p. (N p.0 < g.V.RankedNodes.count v) × (N p.1 < g.V.RankedNodes.count v)) c.args.entries.now c.loop-place.place c.index-entries-place.result c.requires.within (omega arith) c.index-entries-place.is).0

pub put_json_entries-put_json-requires : goal.put_json_entries-put_json-requires
put_json_entries-put_json-requires g w c =
    let N = g.V.RankedNodes.number in
    let v = c.args.view.now in
    let T = g.V.RankedNodes.tree v in
    let xs = c.args.entries.now in
    let x = c.index-entries-place.result in
    let within = (item-in (λ p. (N p.0 < g.V.RankedNodes.count v) × (N p.1 < g.V.RankedNodes.count v)) xs c.loop-place.place x c.requires.within (omega arith) c.index-entries-place.is).1 in
    let low = value-lower N T xs c.loop-place.place x (omega arith) c.index-entries-place.is in
    let lower : 2 * height (T (N x.1)) + 1 < 2 * heights_of_pairs (pairs_of g.V.RankedNodes.tree N v xs) = omega (arith, low) in
    search rules

pub put_json-returns-in-Scalar-clause-stops : goal.put_json-returns-in-Scalar-clause-stops
put_json-returns-in-Scalar-clause-stops g w c =
    let N = g.V.RankedNodes.number in
    let T = g.V.RankedNodes.tree c.args.view.now in
    let t = T (N c.args.id) in
    let e = scalar-shown N T t _ _ _ c.node-node.ensures.tree c.in-Scalar.is in
    IfErr-weaker c.put_json_scalar.result _ _ (λ why. scalar_overruns t _ _ why _ _ e) c.put_json_scalar.ensures.stops

pub put_json-returns-then-is_sequence-clause-stops : goal.put_json-returns-then-is_sequence-clause-stops
put_json-returns-then-is_sequence-clause-stops g w c =
    let N = g.V.RankedNodes.number in
    let T = g.V.RankedNodes.tree c.args.view.now in
    let t = T (N c.args.id) in
    let e = sequence-shown N T t _ _ _ c.node-node.ensures.tree c.in-Sequence.is in
    IfErr-weaker c.put_json_items.result _ _ (λ why. sequence_overruns t _ _ why _ _ e) c.put_json_items.ensures.stops

pub put_json-returns-then-is_mapping-clause-stops : goal.put_json-returns-then-is_mapping-clause-stops
put_json-returns-then-is_mapping-clause-stops g w c =
    let N = g.V.RankedNodes.number in
    let T = g.V.RankedNodes.tree c.args.view.now in
    let t = T (N c.args.id) in
    let e = mapping-shown N T t _ _ _ c.node-node.ensures.tree c.in-Mapping.is in
    IfErr-weaker c.put_json_entries.result _ _ (λ why. mapping_overruns t _ _ why _ _ e) c.put_json_entries.ensures.stops

pub put_json_items-returns-in_err-put-clause-stops : goal.put_json_items-returns-in_err-put-clause-stops
put_json_items-returns-in_err-put-clause-stops g w c =
    let p = err_from_is_err_and c.from_residual.result c.from_residual.ensures.1 in
    rw p.1 (stop_overruns _ _ _ _ p.2 (stops_longer _ _ _ _ _ _ refl (sym (append_assoc _ (91 ∷ []) _)) c.in_err-put.ensures.err))

pub put_json_items-returns-in_err-put_separator-clause-limit : goal.put_json_items-returns-in_err-put_separator-clause-limit
put_json_items-returns-in_err-put_separator-clause-limit g w c = c.in_err-put_separator.ensures.limit ∙ c.loop-place.invariant.0

pub put_json_items-returns-in_err-put_separator-clause-stops : goal.put_json_items-returns-in_err-put_separator-clause-stops
put_json_items-returns-in_err-put_separator-clause-stops g w c =
    let f = tree_of g.V.RankedNodes.tree g.V.RankedNodes.number c.args.view.now in
    let xs = c.args.items.now in
    let i = c.loop-place.place in
    let x = c.index-items-place.result in
    let l = drop_item xs i x (omega arith) c.index-items-place.is in
    let p = err_from_is_err_and c.from_residual-in_err-put_separator.result c.from_residual-in_err-put_separator.ensures.1 in
    rw p.1 (stop_overruns _ _ _ _ p.2 (before_one _ _ _ _ _ c.loop-place.invariant.0 c.in_err-put_separator.ensures.err _ _ (item_within f xs i x _ _ l c.loop-place.invariant.1 _ refl)))

pub put_json_items-returns-in_err-put_json-clause-limit : goal.put_json_items-returns-in_err-put_json-clause-limit
put_json_items-returns-in_err-put_json-clause-limit g w c = c.in_err-put_json.ensures.limit ∙ c.in_ok-put_separator.ensures.limit ∙ c.loop-place.invariant.0

pub put_json_items-returns-in_err-put_json-clause-stops : goal.put_json_items-returns-in_err-put_json-clause-stops
put_json_items-returns-in_err-put_json-clause-stops g w c =
    let f = tree_of g.V.RankedNodes.tree g.V.RankedNodes.number c.args.view.now in
    let xs = c.args.items.now in
    let i = c.loop-place.place in
    let x = c.index-items-place.result in
    let l = drop_item xs i x (omega arith) c.index-items-place.is in
    let p = err_from_is_err_and c.from_residual-in_err-put_json.result c.from_residual-in_err-put_json.ensures.1 in
    rw (p.1, p.2) (overruns_longer _ _ _ _ _ _ (c.in_ok-put_separator.ensures.limit ∙ c.loop-place.invariant.0) (item_within f xs i x _ _ l c.loop-place.invariant.1 _ c.in_ok-put_separator.ensures.ok) c.in_err-put_json.ensures.stops)

pub put_json_items-returns-in_err-put-2-clause-limit : goal.put_json_items-returns-in_err-put-2-clause-limit
put_json_items-returns-in_err-put-2-clause-limit g w c = c.in_err-put-2.ensures.limit ∙ c.loop-place.invariant.0

pub put_json_items-returns-in_err-put-2-clause-stops : goal.put_json_items-returns-in_err-put-2-clause-stops
put_json_items-returns-in_err-put-2-clause-stops g w c =
    let f = tree_of g.V.RankedNodes.tree g.V.RankedNodes.number c.args.view.now in
    let p = err_from_is_err_and c.from_residual-in_err-put-2.result c.from_residual-in_err-put-2.ensures.1 in
    rw p.1 (stop_overruns _ _ _ _ p.2 (stops_same _ _ _ _ _ c.loop-place.invariant.0 (sym (items_end f c.args.items.now c.loop-place.place _ _ _ (omega arith) c.loop-place.invariant.1 refl).0) c.in_err-put-2.ensures.err))

pub put_json_items-returns-clause-limit : goal.put_json_items-returns-clause-limit
put_json_items-returns-clause-limit g w c = c.in_ok-put-2.ensures.limit ∙ c.loop-place.invariant.0

pub put_json_entries-returns-in_err-put-clause-stops : goal.put_json_entries-returns-in_err-put-clause-stops
put_json_entries-returns-in_err-put-clause-stops g w c =
    let p = err_from_is_err_and c.from_residual.result c.from_residual.ensures.1 in
    rw p.1 (stop_overruns _ _ _ _ p.2 (stops_longer _ _ _ _ _ _ refl (sym (append_assoc _ (123 ∷ []) _)) c.in_err-put.ensures.err))

pub put_json_entries-returns-in_err-put_separator-clause-limit : goal.put_json_entries-returns-in_err-put_separator-clause-limit
put_json_entries-returns-in_err-put_separator-clause-limit g w c = c.in_err-put_separator.ensures.limit ∙ c.loop-place.invariant.0

pub put_json_entries-returns-in_err-put_separator-clause-stops : goal.put_json_entries-returns-in_err-put_separator-clause-stops
put_json_entries-returns-in_err-put_separator-clause-stops g w c =
    let f = pair_of g.V.RankedNodes.tree g.V.RankedNodes.number c.args.view.now in
    let xs = c.args.entries.now in
    let i = c.loop-place.place in
    let x = c.index-entries-place.result in
    let l = drop_item xs i x (omega arith) c.index-entries-place.is in
    let p = err_from_is_err_and c.from_residual-in_err-put_separator.result c.from_residual-in_err-put_separator.ensures.1 in
    rw p.1 (stop_overruns _ _ _ _ p.2 (before_two _ _ _ _ _ c.loop-place.invariant.0 c.in_err-put_separator.ensures.err _ _ _ (entry_within f xs i x _ _ l c.loop-place.invariant.1 _ _ refl refl)))

pub put_json_entries-returns-in_err-put_json_key-clause-limit : goal.put_json_entries-returns-in_err-put_json_key-clause-limit
put_json_entries-returns-in_err-put_json_key-clause-limit g w c = c.in_err-put_json_key.ensures.limit ∙ c.in_ok-put_separator.ensures.limit ∙ c.loop-place.invariant.0

pub put_json_entries-returns-in_err-put_json_key-clause-stops : goal.put_json_entries-returns-in_err-put_json_key-clause-stops
put_json_entries-returns-in_err-put_json_key-clause-stops g w c =
    let f = pair_of g.V.RankedNodes.tree g.V.RankedNodes.number c.args.view.now in
    let xs = c.args.entries.now in
    let i = c.loop-place.place in
    let x = c.index-entries-place.result in
    let l = drop_item xs i x (omega arith) c.index-entries-place.is in
    let p = err_from_is_err_and c.from_residual-in_err-put_json_key.result c.from_residual-in_err-put_json_key.ensures.1 in
    rw (p.1, p.2) (overruns_longer _ _ _ _ _ _ (c.in_ok-put_separator.ensures.limit ∙ c.loop-place.invariant.0) (key_within f xs i x _ _ l c.loop-place.invariant.1 _ c.in_ok-put_separator.ensures.ok) c.in_err-put_json_key.ensures.stops)

pub put_json_entries-returns-in_err-put_json-clause-limit : goal.put_json_entries-returns-in_err-put_json-clause-limit
put_json_entries-returns-in_err-put_json-clause-limit g w c = c.in_err-put_json.ensures.limit ∙ c.in_ok-put_json_key.ensures.limit ∙ c.in_ok-put_separator.ensures.limit ∙ c.loop-place.invariant.0

pub put_json_entries-returns-in_err-put_json-clause-stops : goal.put_json_entries-returns-in_err-put_json-clause-stops
put_json_entries-returns-in_err-put_json-clause-stops g w c =
    let f = pair_of g.V.RankedNodes.tree g.V.RankedNodes.number c.args.view.now in
    let xs = c.args.entries.now in
    let i = c.loop-place.place in
    let x = c.index-entries-place.result in
    let l = drop_item xs i x (omega arith) c.index-entries-place.is in
    let p = err_from_is_err_and c.from_residual-in_err-put_json.result c.from_residual-in_err-put_json.ensures.1 in
    rw (p.1, p.2) (overruns_longer _ _ _ _ _ _ (c.in_ok-put_json_key.ensures.limit ∙ c.in_ok-put_separator.ensures.limit ∙ c.loop-place.invariant.0) (entry_within f xs i x _ _ l c.loop-place.invariant.1 _ _ c.in_ok-put_separator.ensures.ok c.in_ok-put_json_key.ensures.ok.0) c.in_err-put_json.ensures.stops)

pub put_json_entries-returns-in_err-put-2-clause-limit : goal.put_json_entries-returns-in_err-put-2-clause-limit
put_json_entries-returns-in_err-put-2-clause-limit g w c = c.in_err-put-2.ensures.limit ∙ c.loop-place.invariant.0

pub put_json_entries-returns-in_err-put-2-clause-stops : goal.put_json_entries-returns-in_err-put-2-clause-stops
put_json_entries-returns-in_err-put-2-clause-stops g w c =
    let f = pair_of g.V.RankedNodes.tree g.V.RankedNodes.number c.args.view.now in
    let p = err_from_is_err_and c.from_residual-in_err-put-2.result c.from_residual-in_err-put-2.ensures.1 in
    rw p.1 (stop_overruns _ _ _ _ p.2 (stops_same _ _ _ _ _ c.loop-place.invariant.0 (sym (entries_end f c.args.entries.now c.loop-place.place _ _ _ (omega arith) c.loop-place.invariant.1 refl).0) c.in_err-put-2.ensures.err))

pub put_json_entries-returns-clause-limit : goal.put_json_entries-returns-clause-limit
put_json_entries-returns-clause-limit g w c = c.in_ok-put-2.ensures.limit ∙ c.loop-place.invariant.0
