use Rattle.std.proofs.Common.{refl, sym, ap, ◌∙◌, subst}
use Rattle.yaml_definitions.specs.model.Unfold.{and_then, placed, tree_named, last_named}
use Rattle.yaml_tree.specs.ComposerSteps.{step, added}
use Rattle.yaml_graph.specs.ComposerModel.{Held}
use Rattle.yaml_graph.proofs.ComposerLaws.{held-clear}
use Rattle.yaml_graph.proofs.CallLaws.{answered-reached, answered-same}
use Rattle.yaml_graph.proofs.EventLaws.{took, taken, stays, fresh, document-found}
use Rattle.yaml_graph.proofs.composer.Composer.take.Goals as goal

pub returns-in-Scalar : goal.returns-in-Scalar
unfolding step
returns-in-Scalar c = λ s h found e.
    answered-same c.scalar.result c.scalar.new.self found _
    (took c.args.at c.args.event _ s found _ c.in-Scalar.is e refl) (c.scalar.ensures s h)

pub returns-in-Alias : goal.returns-in-Alias
unfolding step
returns-in-Alias c = λ s h found e.
    answered-same c.alias.result c.alias.new.self found _
    (took c.args.at c.args.event _ s found _ c.in-Alias.is e refl ∙ sym (ap (λ x. and_then (placed c.args.at (tree_named (last_named x s.table))) (added s)) c.as_str.ensures.value)) (c.alias.ensures s h)

pub returns-in-SequenceStart : goal.returns-in-SequenceStart
unfolding step
returns-in-SequenceStart c = λ s h found e.
    answered-same c.enter.result c.enter.new.self found _
    (took c.args.at c.args.event _ s found _ c.in-SequenceStart.is e refl) (c.enter.ensures s h)

pub returns-in-MappingStart : goal.returns-in-MappingStart
unfolding step
returns-in-MappingStart c = λ s h found e.
    answered-same c.enter-in-MappingStart.result c.enter-in-MappingStart.new.self found _
    (took c.args.at c.args.event _ s found _ c.in-MappingStart.is e refl) (c.enter-in-MappingStart.ensures s h)

pub returns-in-SequenceEnd : goal.returns-in-SequenceEnd
unfolding step
returns-in-SequenceEnd c = λ s h found e.
    answered-reached c.leave.result c.leave.new.self found (c.leave.ensures.ok s h found (taken c.args.at c.args.event _ s found c.in-SequenceEnd.is e)) c.leave.ensures.err

pub returns-in-MappingEnd : goal.returns-in-MappingEnd
unfolding step
returns-in-MappingEnd c = λ s h found e.
    answered-reached c.leave-in-MappingEnd.result c.leave-in-MappingEnd.new.self found (c.leave-in-MappingEnd.ensures.ok s h found (taken c.args.at c.args.event _ s found c.in-MappingEnd.is e)) c.leave-in-MappingEnd.ensures.err

pub returns-in-DocumentStart : goal.returns-in-DocumentStart
returns-in-DocumentStart c = λ s h found e.
    let self = c.args.self.now in
    let w = document-found c.args.at c.args.event c.in-DocumentStart.explicit s found c.in-DocumentStart.is e in
    record {
      state = fresh s;
      is = w.1;
      holds = subst (λ z. Held self.nodes.items self.heights.items c.clear.new.self z self.outer.items self.inner.items (fresh s)) (sym c.clear-in-DocumentStart.ensures.items)
          (held-clear self.nodes.items self.heights.items self.names self.anchored.items self.outer.items self.inner.items s h c.clear.new.self c.clear.ensures.empty w.0);
    }

pub returns-in-DocumentEnd : goal.returns-in-DocumentEnd
returns-in-DocumentEnd c = λ s h found e. stays c.args.at c.args.event s found c.args.self.now c.in-DocumentEnd.is e h
