use Rattle.std.proofs.Common.{◌≡◌, ◌+◌, length, drop}
use Rattle.yaml_tree.specs.Levels.{total}
use Rattle.yaml_tree.specs.View.{View}
use Rattle.yaml_tree.specs.Visited.{count_of}
use Rattle.yaml_store.specs.TextModel.{text_of}
use Rattle.yaml_store_rank.specs.Ranking.{Stored}
use Rattle.yaml_store_rank.proofs.Standing.{Standing}
use Rattle.yaml_store_rank.proofs.ranking.rank_all.Given as goal

abbrev pub invariant-loop-level : goal.invariant-loop-level
invariant-loop-level l = (count_of l.visits + total (drop l.level-index l.level-items) ≡ length l.nodes) × ((v : View) → Stored v l.nodes (text_of l.text) l.fn.items l.fn.entries l.places → Standing v l.nodes (text_of l.text) l.fn.items l.fn.entries l.items l.entries l.ranks.items l.first.items l.level-index)
