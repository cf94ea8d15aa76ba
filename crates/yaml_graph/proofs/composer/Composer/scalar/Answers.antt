use Rattle.std.proofs.Common.{ap}
use Rattle.std.specs.Cow.{cow_str_bytes}
use Rattle.yaml_definitions.specs.model.Core.{resolve}
use Rattle.yaml_text.specs.EventModel.{written_of, style_of}
use Rattle.yaml_definitions.specs.model.Unfold.{and_then, placed}
use Rattle.yaml_tree.specs.ComposerSteps.{node_begun, scalar_added}
use Rattle.yaml_graph.specs.ComposerModel.{anchor_view}
use Rattle.yaml_graph.proofs.ComposerLaws.{placed-within}
use Rattle.yaml_graph.proofs.CallLaws.{answered, refuses-then}
use Rattle.yaml_graph.proofs.composer.Composer.scalar.Goals as goal

pub add-requires-clause-held : goal.add-requires-clause-held
add-requires-clause-held c = let b = c.in_ok-place-in-Ok.ensures.ok c.requires.0 c.requires.1 in (node_begun (anchor_view c.args.anchor) c.requires.0, b.1)

pub add-requires-clause-within : goal.add-requires-clause-within
add-requires-clause-within c =
    let b = c.in_ok-place-in-Ok.ensures.ok c.requires.0 c.requires.1 in
    let new = c.begin.new.self in
    placed-within new.nodes.items new.heights.items new.names new.anchored.items new.outer.items new.inner.items (node_begun (anchor_view c.args.anchor) c.requires.0) b.1 c.in_ok-place-in-Ok.place _ _ b.0

pub returns-in_ok-place-in-Ok : goal.returns-in_ok-place-in-Ok
returns-in_ok-place-in-Ok c = λ s h.
    let b = c.in_ok-place-in-Ok.ensures.ok s h in
    answered c.add.result c.add.new.self _ _ (ap (λ r. and_then (placed c.args.at r) (scalar_added (anchor_view c.args.anchor) s)) c.in-Ok.ensures) (c.add.ensures.ok (node_begun (anchor_view c.args.anchor) s) b.1 _ _ b.0) c.add.ensures.err

pub returns-in-Err : goal.returns-in-Err
returns-in-Err c = λ s h.
    refuses-then (placed c.args.at (resolve (written_of c.args.tag) (style_of c.args.style) (cow_str_bytes c.args.text))) (scalar_added (anchor_view c.args.anchor) s) c.fault_at.result (c.fault_at.ensures _ c.in-Err.ensures)
