use Rattle.yaml_tree.proofs.Repeats.{view-to, view-from}
use Rattle.law_store_keys.proofs.Repeats.{graph-to, graph-from}
use Rattle.law_store_keys.proofs.laws.repeats_by_tree.Goals as goal

pub returns-clause-graph : goal.returns-clause-graph
returns-clause-graph c = λ g k first second l. (graph-to g k first second, graph-from g k first second l)

pub returns-clause-view : goal.returns-clause-view
returns-clause-view c = λ v n first second l. (view-to v n l first second, view-from v n l first second)
