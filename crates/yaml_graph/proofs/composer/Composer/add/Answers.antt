use Rattle.std.proofs.Common.{◌≡◌, length, ap, sym, ◌∙◌, subst, arith}
use Rattle.std.specs.Cow.{cow_str_bytes}
use Rattle.yaml_graph.specs.GraphModel.{trees_in, PartsBelow}
use Rattle.yaml_graph.proofs.ComposerLaws.{filled, heights-length, held-added}
use Rattle.yaml_graph.proofs.composer.Composer.add.Goals as goal

pub of_kind-height-requires : goal.of_kind-height-requires
of_kind-height-requires c =
    let self = c.args.self.now in
    let e : length self.nodes.items ≡ length c.deref.result.now =
    sym (ap length c.deref.ensures.value ∙ heights-length self.nodes.items self.heights.items self.names self.anchored.items self.outer.items self.inner.items c.requires.held.0 c.requires.held.1) in
    subst (λ n. PartsBelow n c.args.node.kind) e c.requires.below

pub returns-in-Some-clause-ok : goal.returns-in-Some-clause-ok
returns-in-Some-clause-ok c = λ s h a slot w.
    let self = c.args.self.now in
    held-added self.nodes.items self.heights.items self.names self.anchored.items self.outer.items self.inner.items s h c.args.node c.of_kind-height.result (record { 0 = c.len.result }) c.requires.below
    (c.of_kind-height.ensures (trees_in self.nodes.items) (c.deref.ensures.value ∙ h.measured) (cow_str_bytes c.args.node.tag)) (omega (arith, self.nodes.ok.0)) c.args.place a slot w _ _ _ _
    c.in_ok-push.ensures.items c.in_ok-push-2.ensures.items (sym (ap (λ p. filled p (record { 0 = c.len.result }) self.anchored.items) c.in-Some.is)) c.in_ok-push-3.ensures.items

pub returns-in_default-clause-ok : goal.returns-in_default-clause-ok
returns-in_default-clause-ok c = λ s h a slot w.
    let self = c.args.self.now in
    held-added self.nodes.items self.heights.items self.names self.anchored.items self.outer.items self.inner.items s h c.args.node c.of_kind-height.result (record { 0 = c.len.result }) c.requires.below
    (c.of_kind-height.ensures (trees_in self.nodes.items) (c.deref.ensures.value ∙ h.measured) (cow_str_bytes c.args.node.tag)) (omega (arith, self.nodes.ok.0)) c.args.place a slot w _ _ _ _
    c.in_ok-push.ensures.items c.in_ok-push-2.ensures.items (sym (ap (λ p. filled p (record { 0 = c.len.result }) self.anchored.items) c.in_default.is)) c.in_ok-push-3.ensures.items
