-- The nodes of a store, ranked.
use Rattle.std.specs.Prelude.{◌≡◌, ℕ, length}
use Rattle.yaml_tree.specs.Visited.{count_of}
use Rattle.yaml_store.specs.declared.store.Store.{Store}
use Rattle.yaml_store_rank.specs.declared.ranking.Ranked.{Ranked}
use Rattle.yaml_store.specs.TextModel.{text_of, border, AllWhole}
use Rattle.yaml_store.specs.StoreGrows.{Good, tags_of}
use Rattle.yaml_store.specs.StoreView.{view_of}
use Rattle.yaml_store_rank.specs.Ranking.{AllRanked}

-- The nodes of the store are ranked, and their parts are ranks.
pub record StoreListed (s : Store) (good : Good s) (r : Ranked) : Type 0 where
  pub nodes : r.nodes.items ≡ s.nodes.items
  pub text : text_of r.text ≡ text_of s.text
  pub whole : AllWhole (border r.text) r.nodes.items
  pub tags : r.tags ≡ tags_of s
  pub ranked : AllRanked (view_of s good) r.nodes.items (text_of r.text) r.items.items r.entries.items r.ranks.items r.first.items

-- these are the nodes of a store, ranked
abbrev pub Listed : Ranked → Type 0
Listed r = (s : Store) × (good : Good s) × StoreListed s good r

-- how many nodes were visited
abbrev pub visits_of : Ranked → ℕ
visits_of r = count_of r.visits

-- The same, and each node was visited once.
pub record StoreRanked (s : Store) (good : Good s) (r : Ranked) : Type 0 where
  pub listed : StoreListed s good r
  pub visited : visits_of r ≡ length s.nodes.items
