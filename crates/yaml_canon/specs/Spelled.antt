-- Ranks whose text is written.
use Rattle.std.specs.Prelude.{◌≡◌, ℕ, ◌<◌, List, length, slice_index}
use Rattle.yaml_spell.specs.ShortNodes.{short_len}
use Rattle.yaml_store_rank.specs.declared.ranking.Ranked.{Ranked}
use Rattle.yaml_store_rank.specs.Walked.{StandsFor, walked_tree}
use Rattle.yaml_canon.specs.declared.spelled_ranks.SpelledRanks.{SpelledRanks}

-- It is known which ranks are short, and how long they are.
pub record AreShorts (c : Ranked) (shorts : List ℕ) : Type 0 where
  pub long : length shorts ≡ length c.first.items
  pub each : (r : ℕ) → r < length c.first.items → slice_index shorts r ≡ short_len (walked_tree c r)

-- The same of the ranks of a store.
pub record Spells (c : SpelledRanks) : Type 0 where
  pub stands : StandsFor c.ranked.now
  pub shorts : AreShorts c.ranked.now c.shorts.items
