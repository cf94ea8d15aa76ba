-- The view of ranks.
use Rattle.std.proofs.Common.{◌≡◌, ℕ, ◌<◌, length, sym, ◌∙◌, ap}
use Rattle.std.specs.List.{slice_get}
use Rattle.yaml_tree.specs.View.{View, inside_tree, InsideBelow}
use Rattle.yaml_store.specs.declared.store.Store.{Store}
use Rattle.yaml_store_rank.specs.declared.ranking.Ranked.{Ranked}
use Rattle.yaml_store.specs.StoreGrows.{Good}
use Rattle.yaml_store.specs.StoreView.{tag_in, view_of}
use Rattle.yaml_store_rank.specs.StoreRanks.{StoreListed}
use Rattle.yaml_store_rank.specs.RanksView.{first_of, rank_tag, rank_inside, rank_tree}
use Rattle.yaml_store.specs.TextModel.{text_of}
use Rattle.yaml_store_rank.proofs.RanksOf.{rank-made, rank-below}

pub rank-tree-made : (s : Store) (good : Good s) (c : Ranked) → StoreListed s good c → (r : ℕ) → r < length c.first.items → rank_tree s c r ≡ inside_tree (rank_tree s c) (rank_tag c r) (rank_inside c r)
rank-tree-made s good c are r l =
    rank-made (view_of s good) c.nodes.items (text_of c.text) c.items.items c.entries.items c.ranks.items c.first.items (sym (ap length are.nodes)) are.ranked r l
    ∙ (λ z. inside_tree (rank_tree s c) (tag_in (sym are.tags z) (slice_get (sym are.nodes z) (first_of c r))) (rank_inside c r))

pub rank-parts-below : (s : Store) (good : Good s) (c : Ranked) → StoreListed s good c → (r : ℕ) → r < length c.first.items → InsideBelow r (rank_inside c r)
rank-parts-below s good c are r l = rank-below (view_of s good) c.nodes.items (text_of c.text) c.items.items c.entries.items c.ranks.items c.first.items (sym (ap length are.nodes)) are.ranked r l

-- the ranks of a store
abbrev pub ranks_view : (s : Store) (good : Good s) (c : Ranked) → StoreListed s good c → View
ranks_view s good c are = record {
  count = length c.first.items;
  tag = rank_tag c;
  inside = rank_inside c;
  tree = rank_tree s c;
  made = rank-tree-made s good c are;
  below = rank-parts-below s good c are;
}
