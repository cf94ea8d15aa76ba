use Rattle.std.proofs.Common.{◌≡◌, ◌<◌, ◌≤◌, ◌++◌, ◌∷◌, [], ◌+◌, length, map, sym, ◌∙◌, ap, subst, arith, append_assoc, length-append}
use Rattle.std.proofs.lemmas.List.{take_all}
use Rattle.std.specs.Vec.Iter.{into_iter_items}
use Rattle.yaml_graph.specs.JoinModel.{raised}
use Rattle.yaml_graph.proofs.JoinLaws.{AllMoved, AllAdded, all-added, added-length, moved-more, there-next, trees-joined, grounded-both, all-both, measured-both, rooted-both}
use Rattle.std.specs.List.{All}
use Rattle.yaml_definitions.specs.model.Limits.{height_limit}
use Rattle.yaml_definitions.specs.model.Tree.{height}
use Rattle.yaml_graph.specs.GraphModel.{trees_in, Grounded}
use Rattle.yaml_graph.proofs.GraphLaws.{trees-length}
use Rattle.yaml_graph.proofs.joining.join.Goals as goal

pub moved-requires-clause-items : goal.moved-requires-clause-items
moved-requires-clause-items c = λ k d l.
    let x = c.in-Some.node in
    let at = c.loop-node in
    let r = c.args.right.nodes in
    let f = c.args.left.nodes in
    let steps : into_iter_items at.node-iterator ≡ x ∷ into_iter_items c.next.new.self = c.in-Some.ensures.steps.0 in
    let there = there-next at.yielded x (into_iter_items c.next.new.self) r.items (ap (λ z. at.yielded ++ z) (sym steps) ∙ at.invariant.0) in
    let b = (c.args.right.grounded (length at.yielded) x there).0 k d l in
    let t : length at.yielded + length (into_iter_items at.node-iterator) ≡ length r.items = sym (length-append at.yielded (into_iter_items at.node-iterator)) ∙ ap length at.invariant.0 in
    omega (arith, b, t, r.ok.0, r.ok.1, r.small, f.ok.0, f.ok.1, f.small, c.len-shift.ensures)

pub moved-requires-clause-entries : goal.moved-requires-clause-entries
moved-requires-clause-entries c = λ k d l.
    let x = c.in-Some.node in
    let at = c.loop-node in
    let r = c.args.right.nodes in
    let f = c.args.left.nodes in
    let steps : into_iter_items at.node-iterator ≡ x ∷ into_iter_items c.next.new.self = c.in-Some.ensures.steps.0 in
    let there = there-next at.yielded x (into_iter_items c.next.new.self) r.items (ap (λ z. at.yielded ++ z) (sym steps) ∙ at.invariant.0) in
    let b = (c.args.right.grounded (length at.yielded) x there).1 k d l in
    let t : length at.yielded + length (into_iter_items at.node-iterator) ≡ length r.items = sym (length-append at.yielded (into_iter_items at.node-iterator)) ∙ ap length at.invariant.0 in
    (omega (arith, b.0, t, r.ok.0, r.ok.1, r.small, f.ok.0, f.ok.1, f.small, c.len-shift.ensures), omega (arith, b.1, t, r.ok.0, r.ok.1, r.small, f.ok.0, f.ok.1, f.small, c.len-shift.ensures))

pub loop-node-preserved : goal.loop-node-preserved
loop-node-preserved c =
    let at = c.loop-node in
    let x = c.in-Some.node in
    let steps : into_iter_items at.node-iterator ≡ x ∷ into_iter_items c.next.new.self = c.in-Some.ensures.steps.0 in
    let w = at.invariant.1 in (
      append_assoc at.yielded (x ∷ []) _ ∙ rw (← steps) at.invariant.0,
      moved-more c.len-shift.result c.args.left.nodes.items at.nodes.items c.push.new.self.items at.yielded w.0 x c.moved.result w.1 w.2 c.moved.ensures c.in_ok-push.ensures.items,
      let was = at.invariant.2 in
          let gone = c.in-Some.ensures.steps.1 in
          let short = ap length steps in
          omega arith,
    )

pub invariant_of-result : goal.invariant_of-result
invariant_of-result c =
    let at = c.loop-node in
    let l = c.args.left in
    let r = c.args.right in
    let shift : c.len-shift.result ≡ length l.nodes.items = omega (arith, c.len-shift.ensures, l.nodes.ok.0) in
    let w = at.invariant.1 in
    let a : AllAdded l.nodes.items r.nodes.items at.nodes.items =
    all-added l.nodes.items r.nodes.items at.nodes.items at.yielded (into_iter_items at.node-iterator) w.0 c.len-shift.result shift at.invariant.0 (sym at.invariant.2 ∙ c.in-None.ensures.steps.0) w.1 w.2 in
    let hs = c.in_ok-extend_from_slice.ensures.items ∙ ap (λ z. l.heights.items ++ z) c.deref.ensures.value in
    let roots : c.loop-root.roots.items ≡ l.roots.items ++ map (raised (length l.nodes.items)) r.roots.items =
    c.loop-root.invariant ∙ (λ z. l.roots.items ++ map (raised (shift z)) ((take_all c.loop-root.root-index c.deref-root-items.result.now c.loop-root-test.false ∙ c.deref-root-items.ensures.value) z)) in
    record {
      grounded = subst Grounded (sym a.is) (grounded-both l.nodes.items r.nodes.items a.moved l.grounded r.grounded a.all);
      measured = measured-both l.nodes.items r.nodes.items a.moved l.heights.items r.heights.items c.extend_from_slice.new.self.items l.measured r.measured a.all hs ∙ ap (λ z. map height (trees_in z)) (sym a.is);
      low = subst (All (λ h. h ≤ height_limit)) (sym hs) (all-both (λ h. h ≤ height_limit) l.heights.items r.heights.items l.low r.low);
      rooted = subst (λ n. All (λ i. i.0 < n) c.loop-root.roots.items) (sym (added-length l.nodes.items r.nodes.items at.nodes.items a)) (rooted-both l.roots.items r.roots.items (length l.nodes.items) (length r.nodes.items) c.loop-root.roots.items l.rooted r.rooted roots);
    }

pub returns-clause-ok : goal.returns-clause-ok
returns-clause-ok c =
    let at = c.loop-node in
    let l = c.args.left in
    let r = c.args.right in
    let shift : c.len-shift.result ≡ length l.nodes.items = omega (arith, c.len-shift.ensures, l.nodes.ok.0) in
    let w = at.invariant.1 in
    let a : AllAdded l.nodes.items r.nodes.items at.nodes.items =
    all-added l.nodes.items r.nodes.items at.nodes.items at.yielded (into_iter_items at.node-iterator) w.0 c.len-shift.result shift at.invariant.0 (sym at.invariant.2 ∙ c.in-None.ensures.steps.0) w.1 w.2 in
    record {
      count = added-length l.nodes.items r.nodes.items at.nodes.items a;
      trees = ap trees_in a.is ∙ trees-joined l.nodes.items r.nodes.items a.moved (subst (λ n. AllMoved n r.nodes.items a.moved) (sym (trees-length l.nodes.items)) a.all);
      roots = c.loop-root.invariant ∙ (λ z. l.roots.items ++ map (raised (shift z)) ((take_all c.loop-root.root-index c.deref-root-items.result.now c.loop-root-test.false ∙ c.deref-root-items.ensures.value) z));
    }
