-- Ranks as a view of nodes.
use Rattle.std.specs.Prelude.{◌≡◌, ℕ, ◌<◌, List, length, slice_index}
use Rattle.std.specs.List.{slice_get}
use Rattle.std.specs.declared.cmp.Ordering.TheVariants.{Less}
use Rattle.yaml_definitions.specs.model.Tree.{Tree}
use Rattle.yaml_definitions.specs.model.Order.{tree_cmp, arranged}
use Rattle.yaml_tree.specs.View.{View, Inside}
use Rattle.yaml_store.specs.declared.store.Store.{Store}
use Rattle.yaml_store_rank.specs.declared.ranking.Ranked.{Ranked}
use Rattle.yaml_store.specs.StoreGrows.{Good}
use Rattle.yaml_store.specs.TextModel.{text_of}
use Rattle.yaml_store.specs.StoreView.{tree_of, tag_in, inside_at}
use Rattle.yaml_store_rank.specs.StoreRanks.{StoreRanked}

abbrev pub first_of : Ranked → ℕ → ℕ
first_of c r = slice_index c.first.items r

abbrev pub rank_tag : Ranked → ℕ → List ℕ
rank_tag c r = tag_in c.tags (slice_get c.nodes.items (first_of c r))

-- what is inside a rank: its content, or its parts by rank
abbrev pub rank_inside : Ranked → ℕ → Inside
rank_inside c r = inside_at (text_of c.text) c.items.items c.entries.items (slice_get c.nodes.items (first_of c r))

-- the arranged tree of the node that stands for a rank
abbrev pub rank_tree : Store → Ranked → ℕ → Tree
rank_tree s c r = arranged (tree_of s (first_of c r))

-- Ranks are nodes whose trees are arranged and rise with the rank, and each node of the store stands for the tree of its rank, arranged.
pub record RanksStand (s : Store) (c : Ranked) (w : View) : Type 0 where
  pub count : w.count ≡ length c.first.items
  pub tag : (r : ℕ) → w.tag r ≡ rank_tag c r
  pub inside : (r : ℕ) → w.inside r ≡ rank_inside c r
  pub tree : (r : ℕ) → w.tree r ≡ rank_tree s c r
  pub neat : (r : ℕ) → r < w.count → arranged (w.tree r) ≡ w.tree r
  pub rise : (q r : ℕ) → q < r → r < w.count → tree_cmp (w.tree q) (w.tree r) ≡ Less
  pub node : (i : ℕ) → i < length s.nodes.items → w.tree (slice_index c.ranks.items i) ≡ arranged (tree_of s i)

abbrev pub RanksAreAView : Type 0
RanksAreAView = (s : Store) (good : Good s) (c : Ranked) → StoreRanked s good c → (w : View) × RanksStand s c w
