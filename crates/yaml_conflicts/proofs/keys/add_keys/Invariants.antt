use Rattle.yaml_conflicts.proofs.KeyLaws.{KeysAdded}
use Rattle.yaml_conflicts.proofs.keys.add_keys.Given as goal

abbrev pub invariant-loop-key : goal.invariant-loop-key
invariant-loop-key l = KeysAdded l.forests l.entries l.fn.keys.items l.keys.items l.key-index
