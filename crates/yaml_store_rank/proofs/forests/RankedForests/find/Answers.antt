use Rattle.std.proofs.Common.{subst, rules}
use Rattle.yaml_store.specs.StoreModel.{place_of}
use Rattle.yaml_store_rank.specs.KeyOrder.{SpanIs}
use Rattle.yaml_store_rank.proofs.ForestLaws.{span-within, order-within, near-below, near-ordered, near-found}
use Rattle.yaml_store_rank.proofs.forests.RankedForests.find.Goals as goal

pub slice_bounds-entries-count : goal.slice_bounds-entries-count
slice_bounds-entries-count c =
    let v = c.self.inside in
    let n = c.index.result.now in
    let at = subst (SpanIs (place_of n)) c.in-Some.is c.entries_span.ensures in
    let p = span-within v c.self.invariant c.args.self.now c.self.view_is c.args.mapping.0 c.requires n c.index.ensures c.in-Some.span at in
    let a = p.0 in
    let b = p.1 in
    search rules

pub slice_bounds-entries-start : goal.slice_bounds-entries-start
slice_bounds-entries-start c =
    let v = c.self.inside in
    let n = c.index.result.now in
    let at = subst (SpanIs (place_of n)) c.in-Some.is c.entries_span.ensures in
    let p = span-within v c.self.invariant c.args.self.now c.self.view_is c.args.mapping.0 c.requires n c.index.ensures c.in-Some.span at in
    let a = p.0 in
    let b = p.1 in
    search rules

pub slice_bounds-entries-end : goal.slice_bounds-entries-end
slice_bounds-entries-end c =
    let v = c.self.inside in
    let n = c.index.result.now in
    let at = subst (SpanIs (place_of n)) c.in-Some.is c.entries_span.ensures in
    let p = span-within v c.self.invariant c.args.self.now c.self.view_is c.args.mapping.0 c.requires n c.index.ensures c.in-Some.span at in
    let a = p.0 in
    let b = p.1 in
    search rules

pub slice_bounds-order-count : goal.slice_bounds-order-count
slice_bounds-order-count c =
    let v = c.self.inside in
    let n = c.index.result.now in
    let at = subst (SpanIs (place_of n)) c.in-Some.is c.entries_span.ensures in
    let p = order-within v c.self.invariant c.args.self.now c.self.view_is c.args.mapping.0 c.requires n c.index.ensures c.in-Some.span at in
    let a = p.0 in
    let b = p.1 in
    search rules

pub slice_bounds-order-start : goal.slice_bounds-order-start
slice_bounds-order-start c =
    let v = c.self.inside in
    let n = c.index.result.now in
    let at = subst (SpanIs (place_of n)) c.in-Some.is c.entries_span.ensures in
    let p = order-within v c.self.invariant c.args.self.now c.self.view_is c.args.mapping.0 c.requires n c.index.ensures c.in-Some.span at in
    let a = p.0 in
    let b = p.1 in
    search rules

pub slice_bounds-order-end : goal.slice_bounds-order-end
slice_bounds-order-end c =
    let v = c.self.inside in
    let n = c.index.result.now in
    let at = subst (SpanIs (place_of n)) c.in-Some.is c.entries_span.ensures in
    let p = order-within v c.self.invariant c.args.self.now c.self.view_is c.args.mapping.0 c.requires n c.index.ensures c.in-Some.span at in
    let a = p.0 in
    let b = p.1 in
    search rules

pub find_key-requires-clause-below : goal.find_key-requires-clause-below
find_key-requires-clause-below c =
    let v = c.self.inside in
    let n = c.index.result.now in
    let at = subst (SpanIs (place_of n)) c.in-Some.is c.entries_span.ensures in
    near-below v c.self.invariant c.args.self.now c.self.view_is c.args.mapping.0 c.requires n c.index.ensures c.in-Some.span at c.deref.result.now c.deref-2.result.now c.deref-3.result.now c.deref.ensures.value c.deref-2.ensures.value c.deref-3.ensures.value

pub find_key-requires-clause-order : goal.find_key-requires-clause-order
find_key-requires-clause-order c =
    let v = c.self.inside in
    let n = c.index.result.now in
    let at = subst (SpanIs (place_of n)) c.in-Some.is c.entries_span.ensures in
    near-ordered v c.self.invariant c.args.self.now c.self.view_is c.args.mapping.0 c.requires n c.index.ensures c.in-Some.span at c.deref.result.now c.deref-2.result.now c.deref-3.result.now c.deref.ensures.value c.deref-2.ensures.value c.deref-3.ensures.value

pub returns : goal.returns
returns c =
    let v = c.self.inside in
    let n = c.index.result.now in
    let at = subst (SpanIs (place_of n)) c.in-Some.is c.entries_span.ensures in
    near-found v c.self.invariant c.args.self.now c.self.view_is c.args.mapping.0 c.requires n c.index.ensures c.in-Some.span at c.deref.result.now c.deref-2.result.now c.deref-3.result.now c.deref.ensures.value c.deref-2.ensures.value c.deref-3.ensures.value c.args.rank c.find_key.result c.find_key.ensures
