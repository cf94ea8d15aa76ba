use Rattle.std.proofs.Common.{◌≡◌, ◌<◌, length, sym, ◌∙◌, ap, subst}
use Rattle.std.specs.List.{All}
use Rattle.yaml_graph.specs.GraphModel.{trees_in}
use Rattle.yaml_graph.specs.ComposerModel.{AllBelow, IsFirstAbove}
use Rattle.yaml_graph.proofs.ComposerLaws.{trees-at, places-below, heights-length}
use Rattle.yaml_graph.proofs.FinishLaws.{roots-low, first-high, heights-are, heights-fit}
use Rattle.yaml_graph.proofs.composer.Composer.finish.Goals as goal

pub first_too_high-requires : goal.first_too_high-requires
first_too_high-requires c =
    let h = c.requires in
    let end = c.args.self in
    let n : length end.nodes.items ≡ length c.deref.result.now =
    sym (ap length c.deref.ensures.value ∙ heights-length end.nodes.items end.heights.items end.names end.anchored.items end.outer.items end.inner.items h.0 h.1) in
    let b : All (λ i. i.0 < length end.nodes.items) c.deref-2.result.now = subst (All (λ i. i.0 < length end.nodes.items)) (sym c.deref-2.ensures.value) (places-below end.nodes.items end.inner.items h.0.inner h.1.inside) in
    subst (λ m. All (λ i. i.0 < m) c.deref-2.result.now) n b

pub returns-in-Some : goal.returns-in-Some
returns-in-Some c = λ s h.
    let end = c.args.self in
    let f : IsFirstAbove end.heights.items end.inner.items c.in-Some.document = subst (λ z. IsFirstAbove z end.inner.items c.in-Some.document) c.deref.ensures.value (subst (λ z. IsFirstAbove c.deref.result.now z c.in-Some.document) c.deref-2.ensures.value c.in-Some.ensures) in
    first-high (trees_in end.nodes.items) end.heights.items h.measured end.inner.items s.inner h.inside c.in-Some.document f

pub invariant_of-result : goal.invariant_of-result
invariant_of-result c =
    let h = c.requires in
    let end = c.args.self in
    let b : AllBelow end.heights.items end.inner.items = subst (λ z. AllBelow z end.inner.items) c.deref.ensures.value (subst (AllBelow c.deref.result.now) c.deref-2.ensures.value c.in_default.ensures) in
    let low = h.2 (roots-low (trees_in end.nodes.items) end.heights.items h.1.measured end.inner.items h.0.inner h.1.inside b) in
    record {
      grounded = h.1.grounded;
      measured = heights-are end h.0 h.1 low;
      low = heights-fit end h.0 h.1 low;
      rooted = places-below end.nodes.items end.inner.items h.0.inner h.1.inside;
    }

pub returns : goal.returns
returns c = λ s h.
    let end = c.args.self in
    let b : AllBelow end.heights.items end.inner.items = subst (λ z. AllBelow z end.inner.items) c.deref.ensures.value (subst (AllBelow c.deref.result.now) c.deref-2.ensures.value c.in_default.ensures) in
    record {
      low = roots-low (trees_in end.nodes.items) end.heights.items h.measured end.inner.items s.inner h.inside b;
      roots = trees-at (trees_in end.nodes.items) end.inner.items s.inner h.inside;
      nodes = h.done;
    }
