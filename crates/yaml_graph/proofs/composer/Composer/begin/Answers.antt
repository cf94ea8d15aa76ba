use Rattle.std.proofs.Common.{◌≡◌, length, ap, arith, subst, sym, Some}
use Rattle.std.specs.Cow.{cow_str_bytes}
use Rattle.yaml_tree.specs.ComposerSteps.{node_begun}
use Rattle.yaml_graph.specs.ComposerModel.{anchor_view, Held}
use Rattle.yaml_graph.proofs.ComposerLaws.{placed-begun, held-begun}
use Rattle.yaml_graph.proofs.composer.Composer.begin.Goals as goal

pub returns-clause-ok : goal.returns-clause-ok
returns-clause-ok c = λ s h.
    let self = c.args.self.now in
    let e : anchor_view c.args.anchor ≡ Some (cow_str_bytes c.in-Some.name) = ap anchor_view c.in-Some.is in
    let l : c.len-place.result ≡ length self.anchored.items = omega (arith, self.anchored.ok.0) in (
      placed-begun self.nodes.items self.heights.items self.names self.anchored.items self.outer.items self.inner.items s h (anchor_view c.args.anchor) (cow_str_bytes c.in-Some.name) c.len-place.result e l,
      subst (λ z. Held self.nodes.items self.heights.items c.insert.new.self z self.outer.items self.inner.items (node_begun (anchor_view c.args.anchor) s)) (sym c.in_ok-push.ensures.items)
          (held-begun self.nodes.items self.heights.items self.names self.anchored.items self.outer.items self.inner.items s h (anchor_view c.args.anchor) (cow_str_bytes c.in-Some.name) c.insert.new.self c.len-place.result e l c.in_ok-insert.ensures.updates),
    )
