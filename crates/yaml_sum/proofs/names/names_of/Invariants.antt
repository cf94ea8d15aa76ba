use Rattle.std.proofs.Common.{◌≡◌, map, take}
use Rattle.yaml_sum.proofs.names.names_of.Given as goal

abbrev pub invariant-words : goal.invariant-words
invariant-words l = map (λ s. s.now) l.names.items ≡ map (λ s. s.now) (take l.word-index l.words)
