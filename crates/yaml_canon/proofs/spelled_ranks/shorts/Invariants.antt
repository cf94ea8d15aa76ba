use Rattle.std.proofs.Common.{◌≡◌, length}
use Rattle.yaml_spell.specs.ShortNodes.{short_len}
use Rattle.yaml_store_rank.specs.Walked.{walked_tree}
use Rattle.yaml_canon.proofs.Measuring.{Measured}
use Rattle.yaml_canon.proofs.spelled_ranks.shorts.Given as goal

abbrev pub invariant-loop-number : goal.invariant-loop-number
invariant-loop-number l =
    (length l.shorts.items ≡ length l.ranked.first.items)
    × Measured (λ r. short_len (walked_tree l.ranked r)) l.ranked.first.items l.shorts.items l.number
