use Rattle.std.proofs.Common.{◌≡◌, ◌<◌, ap, ◌∙◌, subst, sym, length, true}
use Rattle.std.proofs.lemmas.List.Elements.{All-nil}
use Rattle.yaml_tree.specs.ComposerSteps.{paired}
use Rattle.yaml_graph.specs.GraphModel.{trees_in}
use Rattle.yaml_graph.specs.ComposerModel.{is_mapping, Collects}
use Rattle.yaml_graph.specs.declared.node.NodeKind.TheVariants as kinds
use Rattle.yaml_graph.proofs.CallLaws.{entries-below, entries-tree}
use Rattle.yaml_graph.proofs.composer.kind_of.Goals as goal

pub returns-clause-ok : goal.returns-clause-ok
returns-clause-ok c = λ nodes h.
    let parts = c.args.parts.items in
    let entries = c.in_ok-paired-in-Mapping.field-0 in
    let q : entries.items ≡ paired parts = c.in_ok-paired-in-Mapping.ensures.ok ∙ ap paired c.deref.ensures.value in
    let made : Collects nodes true parts (kinds.Mapping entries) = record { below = (All-nil (λ i. i.0 < length nodes), entries-below (length nodes) parts entries.items h q); tree = λ g. entries-tree (trees_in nodes) parts entries.items q g } in
    subst (λ b. Collects nodes b parts (kinds.Mapping entries)) (sym (ap is_mapping c.in-Mapping.is)) made
