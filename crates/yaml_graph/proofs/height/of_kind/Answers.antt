use Rattle.std.proofs.Common.{◌∙◌, ap, sym}
use Rattle.yaml_definitions.specs.model.Tree.{sequence, mapping}
use Rattle.yaml_tree.specs.TreeLists.{trees, pairs, cut}
use Rattle.yaml_graph.specs.GraphModel.{trees_at, entries_at, kind_tree}
use Rattle.yaml_graph.proofs.height.of_kind.Goals as goal

pub returns-in-Sequence : goal.returns-in-Sequence
returns-in-Sequence c = λ ts e g.
    c.of_items.ensures ts e g ∙ (ap (λ z. cut (sequence g (trees (trees_at ts z)))) c.deref.ensures.value ∙ sym (ap (λ k. cut (kind_tree ts g k)) c.in-Sequence.is))

pub returns-in-Mapping : goal.returns-in-Mapping
returns-in-Mapping c = λ ts e g.
    c.of_entries.ensures ts e g ∙ (ap (λ z. cut (mapping g (pairs (entries_at ts z)))) c.deref-in-Mapping.ensures.value ∙ sym (ap (λ k. cut (kind_tree ts g k)) c.in-Mapping.is))
