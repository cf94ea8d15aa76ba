use Rattle.std.proofs.Common.{◌≡◌, ◌*◌, ◌++◌, take}
use Rattle.yaml_tree.specs.ComposerSteps.{paired}
use Rattle.yaml_store.proofs.store.push_entries.Given as goal

abbrev pub invariant-loop-place : goal.invariant-loop-place
invariant-loop-place l = l.entries.items ≡ l.fn.entries.items ++ paired (take (2 * l.place) l.parts)
