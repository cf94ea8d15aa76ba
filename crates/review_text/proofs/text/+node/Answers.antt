use Rattle.std.proofs.Common.{refl, sym, ap, arith, subst, length, ◌<◌}
use Rattle.yaml_definitions.specs.model.Order.{arranged}
use Rattle.review_text.specs.NodeText.{text_of}
use Rattle.yaml_definitions.specs.model.Tag.{core_tag}
use Rattle.yaml_tree.specs.declared.node.NodeId.{NodeId}
use Rattle.yaml_store_rank.specs.Forests.{tree}
use Rattle.yaml_store_rank.specs.ArrangedForests.{two_arranged}
use Rattle.review_text.proofs.NodeLaws.{items_first, items_step, items_end, entries_first, entries_step, entries_end, left_full, fills_full, fills_as, scalar_text_of, sequence_filled, mapping_filled}
use Rattle.review_text.proofs.ForestShapes.{none-there, shown-within, scalar-there, sequence-there, items-below, entries-counted, mapping-there, entry-below}
use Rattle.review_text.proofs.Pieces.{on_ok}
use Rattle.review_text.proofs.text.+node.Goals as goal

pub put_items-loop-place-init : goal.put_items-loop-place-init
put_items-loop-place-init t c = items_first (λ (i : NodeId). arranged (tree c.args.forests.now i.0)) c.args.items.now c.args.room _ _ c.in_ok-push.ensures.bytes

pub put_items-loop-place-preserved : goal.put_items-loop-place-preserved
put_items-loop-place-preserved t c =
    items_step (λ (i : NodeId). arranged (tree c.args.forests.now i.0)) c.args.items.now c.args.room c.loop-place.place _ _ _ _ _ (omega arith) c.loop-place.invariant c.in_ok-put_separator.ensures.ok c.in_ok-put_node.ensures.ok

pub put_items-returns-then-is_full : goal.put_items-returns-then-is_full
put_items-returns-then-is_full t c = record { ok = (left_full c.args.room _ _ _ (subst (λ z. c.args.room < length z) c.deref.ensures c.if-is_full.ensures) c.loop-place.invariant) }

pub put_items-returns : goal.put_items-returns
put_items-returns t c = record { ok = (items_end (λ (i : NodeId). arranged (tree c.args.forests.now i.0)) c.args.items.now c.args.room c.loop-place.place _ _ _ (omega arith) c.loop-place.invariant c.in_ok-push-2.ensures.bytes) }

pub put_entries-loop-place-init : goal.put_entries-loop-place-init
put_entries-loop-place-init t c = λ sorted o. entries_first (two_arranged c.args.forests.now) sorted c.args.room _ _ c.in_ok-push.ensures.bytes

pub put_entries-put_node-requires : goal.put_entries-put_node-requires
put_entries-put_node-requires t c = let b = entry-below c.args.forests.now c.laws.ensures c.args.mapping.0 c.loop-place.place (c.entry_in_order.result.0.0, c.entry_in_order.result.1.0) c.requires.within c.entry_in_order.ensures in let l = b.0 in omega (arith, l)

pub put_entries-put_node-requires-in-loop-place : goal.put_entries-put_node-requires-in-loop-place
put_entries-put_node-requires-in-loop-place t c = let b = entry-below c.args.forests.now c.laws.ensures c.args.mapping.0 c.loop-place.place (c.entry_in_order.result.0.0, c.entry_in_order.result.1.0) c.requires.within c.entry_in_order.ensures in let l = b.1 in omega (arith, l)

pub put_entries-loop-place-preserved : goal.put_entries-loop-place-preserved
put_entries-loop-place-preserved t c = λ sorted o.
    entries_step (two_arranged c.args.forests.now) sorted c.args.room c.loop-place.place (c.entry_in_order.result.0.0, c.entry_in_order.result.1.0) _ _ _ _ _ _ (c.entry_in_order.ensures sorted o) (c.loop-place.invariant sorted o) c.in_ok-put_separator.ensures.ok c.in_ok-put_node.ensures.ok c.in_ok-push_str.ensures.bytes c.in_ok-put_node-2.ensures.ok

pub put_entries-returns-then-is_full : goal.put_entries-returns-then-is_full
put_entries-returns-then-is_full t c = record { ok = (λ sorted o. left_full c.args.room _ _ _ (subst (λ z. c.args.room < length z) c.deref.ensures c.if-is_full.ensures) (c.loop-place.invariant sorted o)) }

pub put_entries-returns : goal.put_entries-returns
put_entries-returns t c = record { ok = (λ sorted o. entries_end (two_arranged c.args.forests.now) sorted c.args.room c.loop-place.place _ _ _ (omega (arith, o.count)) (c.loop-place.invariant sorted o) c.in_ok-push-2.ensures.bytes) }

pub put_node-returns-then-is_full : goal.put_node-returns-then-is_full
put_node-returns-then-is_full t c = record { ok = (fills_full c.args.room _ _ (subst (λ z. c.args.room < length z) c.deref.ensures c.if-is_full.ensures)) }

pub put_node-returns-in_default : goal.put_node-returns-in_default
put_node-returns-in_default t c = record { ok = (on_ok c.put_scalar.result c.put_scalar.ensures.ok (λ h. fills_as c.args.room _ _ _ _ (ap text_of (sym (none-there c.args.forests.now c.args.id.0 c.in_default.ensures))) h)) }

pub put_node-put_items-requires : goal.put_node-put_items-requires
put_node-put_items-requires t c = (omega arith, items-below c.args.forests.now c.laws.ensures c.args.id.0 c.in-Some.shown c.in-Some.ensures c.in-Sequence.items c.in-Sequence.is)

pub put_node-put_entries-requires : goal.put_node-put_entries-requires
put_node-put_entries-requires t c =
    (omega arith, (shown-within c.args.forests.now c.laws.ensures c.args.id.0 c.in-Some.shown c.in-Some.ensures, entries-counted c.args.forests.now c.laws.ensures c.args.id.0 c.in-Some.shown c.in-Some.ensures c.in-Mapping.entries c.in-Mapping.is))

pub put_node-returns-in-Scalar : goal.put_node-returns-in-Scalar
put_node-returns-in-Scalar t c = record {
  ok = (
      let e = scalar-there c.args.forests.now c.laws.ensures c.args.id.0 c.in-Some.shown c.in-Some.ensures c.in-Scalar.content c.in-Scalar.is in
      on_ok c.put_scalar-in-Scalar.result c.put_scalar-in-Scalar.ensures.ok (λ h. fills_as c.args.room _ _ _ _ (scalar_text_of _ _ (tree c.args.forests.now c.args.id.0) e) h));
}

pub put_node-returns-in_ok-put_tag-in-Sequence : goal.put_node-returns-in_ok-put_tag-in-Sequence
unfolding core_tag
put_node-returns-in_ok-put_tag-in-Sequence t c = record {
  ok = (
      let e = sequence-there c.args.forests.now c.laws.ensures c.args.id.0 c.in-Some.shown c.in-Some.ensures c.in-Sequence.items c.in-Sequence.is in
      on_ok c.put_items.result c.put_items.ensures.ok (λ h. sequence_filled c.args.room _ _ _ _ _ (tree c.args.forests.now c.args.id.0) _ refl e c.in_ok-put_tag-in-Sequence.ensures.ok h));
}

pub put_node-returns-in_ok-put_tag-in-Mapping : goal.put_node-returns-in_ok-put_tag-in-Mapping
unfolding core_tag
put_node-returns-in_ok-put_tag-in-Mapping t c = record {
  ok = (
      let s = c.laws.ensures.ordered c.args.id.0 (shown-within c.args.forests.now c.laws.ensures c.args.id.0 c.in-Some.shown c.in-Some.ensures) in
      let e = mapping-there c.args.forests.now c.laws.ensures c.args.id.0 c.in-Some.shown c.in-Some.ensures c.in-Mapping.entries s.0 c.in-Mapping.is s.1 in
      on_ok c.put_entries.result c.put_entries.ensures.ok (λ h. mapping_filled c.args.room _ _ _ _ _ (tree c.args.forests.now c.args.id.0) _ refl e c.in_ok-put_tag-in-Mapping.ensures.ok (h s.0 s.1)));
}
