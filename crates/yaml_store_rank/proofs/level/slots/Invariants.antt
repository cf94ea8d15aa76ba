use Rattle.std.proofs.Common.{◌≡◌, ◌+◌, take}
use Rattle.yaml_tree.specs.Visited.{count_of}
use Rattle.yaml_store_rank.specs.LevelModel.{KeysMade}
use Rattle.yaml_store_rank.specs.SlotModel.{keys_of}
use Rattle.yaml_store.specs.TextModel.{text_of}
use Rattle.yaml_store_rank.proofs.level.slots.Given as goal

abbrev pub invariant-loop-number : goal.invariant-loop-number
invariant-loop-number l = (count_of l.visits ≡ count_of l.fn.visits + l.number-index) × KeysMade l.lists.nodes.now (text_of l.lists.text.now) l.lists.items.now l.lists.entries.now l.lists.places.now (take l.number-index l.level) (keys_of l.lists l.slots.items)
