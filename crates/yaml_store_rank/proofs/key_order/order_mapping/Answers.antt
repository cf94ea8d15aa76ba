use Rattle.std.proofs.Common.{slice_index, map, refl, sym, ◌∙◌, ap, subst, arith}
use Rattle.std.specs.List.{slice_range}
use Rattle.yaml_store_rank.specs.KeyOrder.{number_pairs, IsOrder}
use Rattle.yaml_store_rank.proofs.KeyOrderLaws.{pairs-long}
use Rattle.yaml_store_rank.proofs.OrderLaws.{put-in, part-below, part-ordered}
use Rattle.yaml_store_rank.proofs.key_order.order_mapping.Goals as goal

pub order_keys-requires-clause-below : goal.order_keys-requires-clause-below
order_keys-requires-clause-below c = part-below c.args.entries.now c.args.span c.requires.within (slice_range c.args.entries.now c.args.span.start c.args.span.end) refl c.args.ranks.now c.requires.below

pub returns : goal.returns
returns c =
    let es = c.args.entries.now in
    let s = c.args.span in
    let R = slice_index c.args.ranks.now in
    let w = c.requires.within in
    let n = pairs-long es in
    let made = part-ordered es s w (slice_range es s.start s.end) refl c.args.ranks.now c.order_keys.new.keys.items c.in_ok-order_keys.ensures c.requires.differ in
    put-in s R (number_pairs es) c.args.order.now c.put_places.new.order (w.0, omega (arith, w.1, n)) (c.requires.long ∙ sym n)
    (subst (IsOrder R (slice_range (number_pairs es) s.start s.end)) (sym (c.put_places.ensures ∙ ap (map (λ p. p.1)) c.deref.ensures.value)) made)
