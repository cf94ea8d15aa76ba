use Rattle.std.proofs.Common.{◌≡◌, drop}
use Rattle.yaml_definitions.specs.model.Tag.{str_tag}
use Rattle.yaml_definitions.specs.model.Tree.{scalar}
use Rattle.yaml_tree.specs.TreeLists.{pairs}
use Rattle.yaml_store_rank.specs.Forests.{entry_trees}
use Rattle.yaml_path.specs.Path.{value_in}
use Rattle.yaml_pair.specs.Named.{EntriesWithin}
use Rattle.yaml_pair.proofs.nodes.value_in.Given as goal

abbrev pub invariant-loop-name : goal.invariant-loop-name
invariant-loop-name l =
    EntriesWithin l.fn.forests l.entries → value_in (pairs (entry_trees l.fn.forests (drop l.name-index l.entries))) (scalar str_tag l.key) ≡ value_in (pairs (entry_trees l.fn.forests l.entries)) (scalar str_tag l.key)
