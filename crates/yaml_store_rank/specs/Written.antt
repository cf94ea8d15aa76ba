-- Ranked forests as they are held.
use Rattle.std.specs.Prelude.{◌≡◌, ℕ, List, map, length, slice_index}
use Rattle.yaml_store.specs.StoreModel.{node_held}
use Rattle.yaml_store.specs.StoreGrows.{Sound, tags_of}
use Rattle.yaml_store.specs.TextModel.{text_of, border, AllWhole}
use Rattle.yaml_store.specs.declared.store.Store.{Store}
use Rattle.yaml_store_rank.specs.Forests.{Forests, IsRanked, cut_from, AreEnds}
use Rattle.yaml_store_rank.specs.KeyOrder.{numbers, number_pairs, OrderedUpto}
use Rattle.yaml_store_rank.specs.declared.forests.RankedForests.TheInside.{Inside}

abbrev pub forests_of : Inside → Forests
forests_of v = record {
  nodes = map (node_held (text_of v.text) (numbers v.items.items) (number_pairs v.entries.items) v.tags) v.nodes.items;
  ranks = v.ranks.items;
  streams = cut_from (numbers v.roots.items) 0 v.ends.items;
}

-- The lists are those of a store, of which each content stands in one part of the text. The ranks are right, the places of entries are in order, and the ends cut the roots.
pub record Holds (v : Inside) : Type 0 where
  pub sound : Sound v.tags (text_of v.text) (numbers v.items.items) (number_pairs v.entries.items) v.nodes.items
  pub whole : AllWhole (border v.text) v.nodes.items
  pub ranked : IsRanked (forests_of v)
  pub ordered : OrderedUpto (length v.nodes.items) (slice_index v.ranks.items) (number_pairs v.entries.items) v.nodes.items v.order.items
  pub ends : AreEnds (length v.roots.items) 0 v.ends.items

-- The nodes are those of the store, by the same numbers, and the streams have these roots up to these ends.
pub record ShowsStore (s : Store) (roots ends : List ℕ) (f : Forests) : Type 0 where
  pub nodes : f.nodes ≡ map (node_held (text_of s.text) s.items.items s.entries.items (tags_of s)) s.nodes.items
  pub streams : f.streams ≡ cut_from roots 0 ends
