use Rattle.std.proofs.Common.{[], inl, refl, sym, ◌∙◌, arith}
use Rattle.std.proofs.lemmas.Result.{IfErr-weaker, err_from_is_err_and}
use Rattle.yaml_definitions.specs.model.Order.{arranged}
use Rattle.yaml_store_rank.specs.Forests.{tree}
use Rattle.yaml_tree.specs.declared.node.NodeId.{NodeId}
use Rattle.yaml_store_rank.specs.ArrangedForests.{two_arranged}
use Rattle.review_text.proofs.Pieces.{on_ok}
use Rattle.review_text.proofs.ForestShapes.{none-there, shown-within, scalar-there, sequence-there, entries-counted, mapping-there}
use Rattle.review_paths.proofs.ValueLaws.{items_first, items_step, items_end, entries_first, entries_step, entries_end, scalar_says, sequence_says, mapping_says}
use Rattle.review_paths.proofs.UnsaidLaws.{bracket_fails, comma_fails, item_fails, items_end_fails, brace_fails, entry_comma_fails, key_fails, value_fails, entries_end_fails, scalar_unsays, sequence_unsays, mapping_unsays, other_sequence, other_mapping, none_lacks}
use Rattle.review_paths.proofs.value.+value.Goals as goal

-- ---- items

pub put_items-loop-place-init : goal.put_items-loop-place-init
put_items-loop-place-init t c = (c.in_ok-put.ensures.limit, items_first (λ (i : NodeId). arranged (tree c.args.forests.now i.0)) c.args.items.now _ _ c.in_ok-put.ensures.ok)

pub put_items-loop-place-preserved : goal.put_items-loop-place-preserved
put_items-loop-place-preserved t c = (
  c.in_ok-put_value.ensures.limit ∙ c.in_ok-put_comma.ensures.limit ∙ c.loop-place.invariant.0,
  items_step (λ (i : NodeId). arranged (tree c.args.forests.now i.0)) c.args.items.now c.loop-place.place _ _ _ _ _ (omega arith) c.loop-place.invariant.1 c.in_ok-put_comma.ensures.ok c.in_ok-put_value.ensures.ok,
)

pub put_items-returns-clause-ok : goal.put_items-returns-clause-ok
put_items-returns-clause-ok t c = items_end (λ (i : NodeId). arranged (tree c.args.forests.now i.0)) c.args.items.now c.loop-place.place _ _ _ (omega arith) c.loop-place.invariant.1 c.in_ok-put-2.ensures.ok

pub put_items-returns-clause-limit : goal.put_items-returns-clause-limit
put_items-returns-clause-limit t c = c.in_ok-put-2.ensures.limit ∙ c.loop-place.invariant.0

pub put_items-returns-in_err-put-clause-err : goal.put_items-returns-in_err-put-clause-err
put_items-returns-in_err-put-clause-err t c =
    let p = err_from_is_err_and c.from_residual.result c.from_residual.ensures.1 in
    rw p.1 (bracket_fails (λ (i : NodeId). arranged (tree c.args.forests.now i.0)) c.args.items.now c.args.left _ _ _ [] _ refl _ p.2 c.in_err-put.ensures.err)

pub put_items-returns-in_err-put_comma-clause-limit : goal.put_items-returns-in_err-put_comma-clause-limit
put_items-returns-in_err-put_comma-clause-limit t c = c.in_err-put_comma.ensures.limit ∙ c.loop-place.invariant.0

pub put_items-returns-in_err-put_comma-clause-err : goal.put_items-returns-in_err-put_comma-clause-err
put_items-returns-in_err-put_comma-clause-err t c =
    let p = err_from_is_err_and c.from_residual-in_err-put_comma.result c.from_residual-in_err-put_comma.ensures.1 in
    rw p.1 (comma_fails (λ (i : NodeId). arranged (tree c.args.forests.now i.0)) c.args.items.now c.args.left _ _ _ _ _ c.loop-place.invariant.0 c.loop-place.place _ (omega arith) c.loop-place.invariant.1 p.2 c.in_err-put_comma.ensures.err)

pub put_items-returns-in_err-put_value-clause-limit : goal.put_items-returns-in_err-put_value-clause-limit
put_items-returns-in_err-put_value-clause-limit t c = c.in_err-put_value.ensures.limit ∙ c.in_ok-put_comma.ensures.limit ∙ c.loop-place.invariant.0

pub put_items-returns-in_err-put_value-clause-err : goal.put_items-returns-in_err-put_value-clause-err
put_items-returns-in_err-put_value-clause-err t c =
    let p = err_from_is_err_and c.from_residual-in_err-put_value.result c.from_residual-in_err-put_value.ensures.1 in
    rw (p.1, p.2) (item_fails (λ (i : NodeId). arranged (tree c.args.forests.now i.0)) c.args.items.now c.args.left _ _ _ _ _ (c.in_ok-put_comma.ensures.limit ∙ c.loop-place.invariant.0) c.loop-place.place _ (omega arith) c.loop-place.invariant.1 _ c.in_ok-put_comma.ensures.ok c.in_err-put_value.ensures.err)

pub put_items-returns-in_err-put-2-clause-limit : goal.put_items-returns-in_err-put-2-clause-limit
put_items-returns-in_err-put-2-clause-limit t c = c.in_err-put-2.ensures.limit ∙ c.loop-place.invariant.0

pub put_items-returns-in_err-put-2-clause-err : goal.put_items-returns-in_err-put-2-clause-err
put_items-returns-in_err-put-2-clause-err t c =
    let p = err_from_is_err_and c.from_residual-in_err-put-2.result c.from_residual-in_err-put-2.ensures.1 in
    rw p.1 (items_end_fails (λ (i : NodeId). arranged (tree c.args.forests.now i.0)) c.args.items.now c.args.left _ _ _ _ _ c.loop-place.invariant.0 c.loop-place.place _ (omega arith) c.loop-place.invariant.1 p.2 c.in_err-put-2.ensures.err)

-- ---- entries

pub put_entries-loop-place-init : goal.put_entries-loop-place-init
put_entries-loop-place-init t c = (c.in_ok-put.ensures.limit, λ sorted o. entries_first (two_arranged c.args.forests.now) sorted _ _ c.in_ok-put.ensures.ok)

pub put_entries-loop-place-preserved : goal.put_entries-loop-place-preserved
put_entries-loop-place-preserved t c = (
  c.in_ok-put_value.ensures.limit ∙ c.in_ok-put_key.ensures.limit ∙ c.in_ok-put_comma.ensures.limit ∙ c.loop-place.invariant.0,
  λ sorted o. entries_step (two_arranged c.args.forests.now) sorted c.loop-place.place (c.entry_in_order.result.0.0, c.entry_in_order.result.1.0) _ _ _ _ _ (c.entry_in_order.ensures sorted o) (c.loop-place.invariant.1 sorted o) c.in_ok-put_comma.ensures.ok c.in_ok-put_key.ensures.ok c.in_ok-put_value.ensures.ok,
)

pub put_entries-returns-clause-ok : goal.put_entries-returns-clause-ok
put_entries-returns-clause-ok t c = λ sorted o. entries_end (two_arranged c.args.forests.now) sorted c.loop-place.place _ _ _ (omega (arith, o.count)) (c.loop-place.invariant.1 sorted o) c.in_ok-put-2.ensures.ok

pub put_entries-returns-clause-limit : goal.put_entries-returns-clause-limit
put_entries-returns-clause-limit t c = c.in_ok-put-2.ensures.limit ∙ c.loop-place.invariant.0

pub put_entries-returns-in_err-put-clause-err : goal.put_entries-returns-in_err-put-clause-err
put_entries-returns-in_err-put-clause-err t c = λ sorted o.
    let p = err_from_is_err_and c.from_residual.result c.from_residual.ensures.1 in
    rw p.1 (brace_fails (two_arranged c.args.forests.now) sorted c.args.left _ _ _ [] _ refl _ p.2 c.in_err-put.ensures.err)

pub put_entries-returns-in_err-put_comma-clause-limit : goal.put_entries-returns-in_err-put_comma-clause-limit
put_entries-returns-in_err-put_comma-clause-limit t c = c.in_err-put_comma.ensures.limit ∙ c.loop-place.invariant.0

pub put_entries-returns-in_err-put_comma-clause-err : goal.put_entries-returns-in_err-put_comma-clause-err
put_entries-returns-in_err-put_comma-clause-err t c = λ sorted o.
    let p = err_from_is_err_and c.from_residual-in_err-put_comma.result c.from_residual-in_err-put_comma.ensures.1 in
    rw p.1 (entry_comma_fails (two_arranged c.args.forests.now) sorted c.args.left _ _ _ _ _ c.loop-place.invariant.0 c.loop-place.place _ (omega (arith, o.count)) (c.loop-place.invariant.1 sorted o) p.2 c.in_err-put_comma.ensures.err)

pub put_entries-returns-in_err-put_key-clause-limit : goal.put_entries-returns-in_err-put_key-clause-limit
put_entries-returns-in_err-put_key-clause-limit t c = c.in_err-put_key.ensures.limit ∙ c.in_ok-put_comma.ensures.limit ∙ c.loop-place.invariant.0

pub put_entries-returns-in_err-put_key-clause-err : goal.put_entries-returns-in_err-put_key-clause-err
put_entries-returns-in_err-put_key-clause-err t c = λ sorted o.
    let p = err_from_is_err_and c.from_residual-in_err-put_key.result c.from_residual-in_err-put_key.ensures.1 in
    rw (p.1, p.2) (key_fails (two_arranged c.args.forests.now) sorted c.args.left _ _ _ _ _ (c.in_ok-put_comma.ensures.limit ∙ c.loop-place.invariant.0) c.loop-place.place (c.entry_in_order.result.0.0, c.entry_in_order.result.1.0) (c.entry_in_order.ensures sorted o) (c.loop-place.invariant.1 sorted o) _ c.in_ok-put_comma.ensures.ok c.in_err-put_key.ensures.err)

pub put_entries-returns-in_err-put_value-clause-limit : goal.put_entries-returns-in_err-put_value-clause-limit
put_entries-returns-in_err-put_value-clause-limit t c = c.in_err-put_value.ensures.limit ∙ c.in_ok-put_key.ensures.limit ∙ c.in_ok-put_comma.ensures.limit ∙ c.loop-place.invariant.0

pub put_entries-returns-in_err-put_value-clause-err : goal.put_entries-returns-in_err-put_value-clause-err
put_entries-returns-in_err-put_value-clause-err t c = λ sorted o.
    let p = err_from_is_err_and c.from_residual-in_err-put_value.result c.from_residual-in_err-put_value.ensures.1 in
    rw (p.1, p.2) (value_fails (two_arranged c.args.forests.now) sorted c.args.left _ _ _ _ _ (c.in_ok-put_key.ensures.limit ∙ c.in_ok-put_comma.ensures.limit ∙ c.loop-place.invariant.0) c.loop-place.place (c.entry_in_order.result.0.0, c.entry_in_order.result.1.0) (c.entry_in_order.ensures sorted o) (c.loop-place.invariant.1 sorted o) _ _ c.in_ok-put_comma.ensures.ok c.in_ok-put_key.ensures.ok.0 c.in_err-put_value.ensures.err)

pub put_entries-returns-in_err-put-2-clause-limit : goal.put_entries-returns-in_err-put-2-clause-limit
put_entries-returns-in_err-put-2-clause-limit t c = c.in_err-put-2.ensures.limit ∙ c.loop-place.invariant.0

pub put_entries-returns-in_err-put-2-clause-err : goal.put_entries-returns-in_err-put-2-clause-err
put_entries-returns-in_err-put-2-clause-err t c = λ sorted o.
    let p = err_from_is_err_and c.from_residual-in_err-put-2.result c.from_residual-in_err-put-2.ensures.1 in
    rw p.1 (entries_end_fails (two_arranged c.args.forests.now) sorted c.args.left _ _ _ _ _ c.loop-place.invariant.0 c.loop-place.place _ (omega (arith, o.count)) (c.loop-place.invariant.1 sorted o) p.2 c.in_err-put-2.ensures.err)

-- ---- nodes

pub put_value-returns-in-Scalar-clause-ok : goal.put_value-returns-in-Scalar-clause-ok
put_value-returns-in-Scalar-clause-ok t c =
    let e = scalar-there c.args.forests.now c.laws.ensures c.args.id.0 c.in-Some.shown c.in-Some.ensures c.in-Scalar.content c.in-Scalar.is in
    on_ok c.put_scalar.result c.put_scalar.ensures.ok (λ h. scalar_says _ _ _ _ (arranged (tree c.args.forests.now c.args.id.0)) e h)

pub put_value-returns-in-Scalar-clause-err : goal.put_value-returns-in-Scalar-clause-err
put_value-returns-in-Scalar-clause-err t c =
    let e = scalar-there c.args.forests.now c.laws.ensures c.args.id.0 c.in-Some.shown c.in-Some.ensures c.in-Scalar.content c.in-Scalar.is in
    IfErr-weaker c.put_scalar.result _ _ (λ why. scalar_unsays (arranged (tree c.args.forests.now c.args.id.0)) c.args.left _ _ why _ _ e) c.put_scalar.ensures.err

pub put_value-returns-then-is_sequence-clause-ok : goal.put_value-returns-then-is_sequence-clause-ok
put_value-returns-then-is_sequence-clause-ok t c =
    let e = sequence-there c.args.forests.now c.laws.ensures c.args.id.0 c.in-Some.shown c.in-Some.ensures c.in-Sequence.items c.in-Sequence.is in
    on_ok c.put_items.result c.put_items.ensures.ok (λ h. sequence_says _ _ _ _ (arranged (tree c.args.forests.now c.args.id.0)) e (sym c.is_sequence.ensures ∙ c.if-is_sequence.true) h)

pub put_value-returns-then-is_sequence-clause-err : goal.put_value-returns-then-is_sequence-clause-err
put_value-returns-then-is_sequence-clause-err t c =
    let e = sequence-there c.args.forests.now c.laws.ensures c.args.id.0 c.in-Some.shown c.in-Some.ensures c.in-Sequence.items c.in-Sequence.is in
    IfErr-weaker c.put_items.result _ _ (λ why. sequence_unsays (arranged (tree c.args.forests.now c.args.id.0)) c.args.left _ _ why _ _ _ e (omega arith)) c.put_items.ensures.err

pub put_value-returns-else-is_sequence-clause-err : goal.put_value-returns-else-is_sequence-clause-err
put_value-returns-else-is_sequence-clause-err t c =
    let e = sequence-there c.args.forests.now c.laws.ensures c.args.id.0 c.in-Some.shown c.in-Some.ensures c.in-Sequence.items c.in-Sequence.is in
    inl (other_sequence (arranged (tree c.args.forests.now c.args.id.0)) _ _ e (sym c.is_sequence.ensures ∙ c.if-is_sequence.false))

pub put_value-put_entries-requires : goal.put_value-put_entries-requires
put_value-put_entries-requires t c = (omega arith, (shown-within c.args.forests.now c.laws.ensures c.args.id.0 c.in-Some.shown c.in-Some.ensures, entries-counted c.args.forests.now c.laws.ensures c.args.id.0 c.in-Some.shown c.in-Some.ensures c.in-Mapping.entries c.in-Mapping.is))

pub put_value-returns-then-is_mapping-clause-ok : goal.put_value-returns-then-is_mapping-clause-ok
put_value-returns-then-is_mapping-clause-ok t c =
    let s = c.laws.ensures.ordered c.args.id.0 (shown-within c.args.forests.now c.laws.ensures c.args.id.0 c.in-Some.shown c.in-Some.ensures) in
    let e = mapping-there c.args.forests.now c.laws.ensures c.args.id.0 c.in-Some.shown c.in-Some.ensures c.in-Mapping.entries s.0 c.in-Mapping.is s.1 in
    on_ok c.put_entries.result c.put_entries.ensures.ok (λ h. mapping_says _ _ _ _ (arranged (tree c.args.forests.now c.args.id.0)) e (sym c.is_mapping.ensures ∙ c.if-is_mapping.true) (h s.0 s.1))

pub put_value-returns-then-is_mapping-clause-err : goal.put_value-returns-then-is_mapping-clause-err
put_value-returns-then-is_mapping-clause-err t c =
    let s = c.laws.ensures.ordered c.args.id.0 (shown-within c.args.forests.now c.laws.ensures c.args.id.0 c.in-Some.shown c.in-Some.ensures) in
    let e = mapping-there c.args.forests.now c.laws.ensures c.args.id.0 c.in-Some.shown c.in-Some.ensures c.in-Mapping.entries s.0 c.in-Mapping.is s.1 in
    IfErr-weaker c.put_entries.result _ _ (λ why. mapping_unsays (arranged (tree c.args.forests.now c.args.id.0)) c.args.left _ _ why _ _ _ e (omega arith)) (c.put_entries.ensures.err s.0 s.1)

pub put_value-returns-else-is_mapping-clause-err : goal.put_value-returns-else-is_mapping-clause-err
put_value-returns-else-is_mapping-clause-err t c =
    let s = c.laws.ensures.ordered c.args.id.0 (shown-within c.args.forests.now c.laws.ensures c.args.id.0 c.in-Some.shown c.in-Some.ensures) in
    let e = mapping-there c.args.forests.now c.laws.ensures c.args.id.0 c.in-Some.shown c.in-Some.ensures c.in-Mapping.entries s.0 c.in-Mapping.is s.1 in
    inl (other_mapping (arranged (tree c.args.forests.now c.args.id.0)) _ _ e (sym c.is_mapping.ensures ∙ c.if-is_mapping.false))

pub put_value-returns-in_default-clause-err : goal.put_value-returns-in_default-clause-err
put_value-returns-in_default-clause-err t c = inl (none_lacks (tree c.args.forests.now c.args.id.0) (none-there c.args.forests.now c.args.id.0 c.in_default.ensures))
