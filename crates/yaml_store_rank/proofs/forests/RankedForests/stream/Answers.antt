use Rattle.std.proofs.Common.{◌≤◌, ◌∷◌, length, slice_index, sym, ◌∙◌, ap, arith, rules}
use Rattle.std.specs.Prelude.{Some}
use Rattle.std.specs.List.{slice_range}
use Rattle.yaml_tree.proofs.Lists.{get_or-any}
use Rattle.yaml_store_rank.specs.KeyOrder.{numbers}
use Rattle.yaml_store_rank.proofs.ForestLaws.{end-there, ends-there, stream-there}
use Rattle.yaml_store_rank.proofs.forests.RankedForests.stream.Goals as goal

pub start_of-start-requires : goal.start_of-start-requires
start_of-start-requires c = omega (arith, end-there c.self.inside c.self.invariant c.args.self.now c.self.view_is c.args.place c.requires, ap length c.deref.ensures.value)

pub index-requires : goal.index-requires
index-requires c = omega (arith, end-there c.self.inside c.self.invariant c.args.self.now c.self.view_is c.args.place c.requires, c.self.inside.ends.ok.0)

pub offset_bounds-deref-start : goal.offset_bounds-deref-start
offset_bounds-deref-start c =
    let v = c.self.inside in
    let k = c.args.place in
    let l = end-there v c.self.invariant c.args.self.now c.self.view_is k c.requires in
    let p = ends-there v c.self.invariant c.args.self.now c.self.view_is k c.requires in
    let s = c.start_of-start.ensures ∙ ap (λ z. slice_index (0 ∷ z) k) c.deref.ensures.value in
    let a = p.0 in
    let b = p.1 in
    let w : c.start_of-start.result ≤ length v.roots.items = omega arith in
    search rules

pub slice_bounds-result-count : goal.slice_bounds-result-count
slice_bounds-result-count c =
    let v = c.self.inside in
    let k = c.args.place in
    let l = end-there v c.self.invariant c.args.self.now c.self.view_is k c.requires in
    let p = ends-there v c.self.invariant c.args.self.now c.self.view_is k c.requires in
    let s = c.start_of-start.ensures ∙ ap (λ z. slice_index (0 ∷ z) k) c.deref.ensures.value in
    let e = c.index.ensures ∙ get_or-any v.ends.items k c.index.result.now 0 l in
    let a = p.0 in
    omega arith

pub slice_bounds-result-start : goal.slice_bounds-result-start
slice_bounds-result-start c =
    let v = c.self.inside in
    let k = c.args.place in
    let l = end-there v c.self.invariant c.args.self.now c.self.view_is k c.requires in
    let p = ends-there v c.self.invariant c.args.self.now c.self.view_is k c.requires in
    let s = c.start_of-start.ensures ∙ ap (λ z. slice_index (0 ∷ z) k) c.deref.ensures.value in
    let e = c.index.ensures ∙ get_or-any v.ends.items k c.index.result.now 0 l in
    let a = p.0 in
    let b = p.1 in
    let w : c.start_of-start.result ≤ c.index.result.now = omega arith in
    let x : c.index.result.now ≤ length v.roots.items = omega arith in
    search rules

pub slice_bounds-result-end : goal.slice_bounds-result-end
slice_bounds-result-end c =
    let v = c.self.inside in
    let k = c.args.place in
    let l = end-there v c.self.invariant c.args.self.now c.self.view_is k c.requires in
    let p = ends-there v c.self.invariant c.args.self.now c.self.view_is k c.requires in
    let s = c.start_of-start.ensures ∙ ap (λ z. slice_index (0 ∷ z) k) c.deref.ensures.value in
    let e = c.index.ensures ∙ get_or-any v.ends.items k c.index.result.now 0 l in
    let a = p.0 in
    let b = p.1 in
    let w : c.start_of-start.result ≤ c.index.result.now = omega arith in
    let x : c.index.result.now ≤ length v.roots.items = omega arith in
    search rules

pub returns : goal.returns
returns c =
    let v = c.self.inside in
    let k = c.args.place in
    let l = end-there v c.self.invariant c.args.self.now c.self.view_is k c.requires in
    let s = c.start_of-start.ensures ∙ ap (λ z. slice_index (0 ∷ z) k) c.deref.ensures.value in
    let e = c.index.ensures ∙ get_or-any v.ends.items k c.index.result.now 0 l in
    stream-there v c.self.invariant c.args.self.now c.self.view_is k c.requires c.start_of-start.result c.index.result.now s e
    ∙ ap (λ z. Some (numbers (slice_range z c.start_of-start.result c.index.result.now))) (sym c.deref-2.ensures.value)
