use Rattle.yaml_rank.specs.KeyModel.{key_cmp}
use Rattle.yaml_tree.proofs.Numbering.{Numbering}
use Rattle.yaml_rank.proofs.key_numbers.number.Given as goal

abbrev pub invariant-loop-place : goal.invariant-loop-place
invariant-loop-place l = Numbering key_cmp l.fn.ranks l.start l.keys l.place l.rank l.ranks
