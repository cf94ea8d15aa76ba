-- Ranks as ranked nodes.
use Rattle.std.proofs.Common.{◌≡◌, ℕ, ◌<◌, true, List, length, map, slice_index, sym, ◌∙◌, ap, subst, arith}
use Rattle.std.specs.List.{All}
use Rattle.yaml_definitions.specs.model.Same.{same}
use Rattle.yaml_definitions.proofs.Equivalence.{same_refl}
use Rattle.yaml_tree.proofs.Numbering.{get-there}
use Rattle.yaml_spell.specs.RankedNodes.{RanksTell, Rooted}
use Rattle.yaml_store.specs.declared.store.Store.{Store}
use Rattle.yaml_store.specs.StoreGrows.{Good}
use Rattle.yaml_store_rank.specs.declared.ranking.Ranked.{Ranked}
use Rattle.yaml_store_rank.specs.StoreRanks.{StoreListed}
use Rattle.yaml_store_rank.specs.Walked.{rank_held, walked_tree, walked_rank}
use Rattle.yaml_store_rank.proofs.WalkedLaws.{walked-made, same-is, rank-is, inside-below}
use Rattle.yaml_canon.specs.Claims.{IsArranged}
use Rattle.yaml_canon.specs.Ranks.{HasRanks}
use Rattle.yaml_canon.specs.Spelled.{Spells}
use Rattle.yaml_canon.specs.declared.ranks.RankedForest.{RankedForest}
use Rattle.yaml_canon.specs.declared.spelled_ranks.SpelledRanks.{SpelledRanks}
use Rattle.yaml_canon.proofs.ClaimLaws.{arranged_ranks}
use Rattle.yaml_canon.proofs.Measuring.{Owned}

module _ (s : Store) (good : Good s) (c : Ranked) (are : StoreListed s good c) where
  abbrev N : ℕ
  N = length c.first.items

  -- the parts of ranks are ranks, and ranks tell their trees apart
  pub walked-tells : RanksTell N (walked_tree c) (walked_rank c)
  walked-tells = record {
    made = λ r l. (rank_held c r, inside-below s good c are r l, walked-made s good c are r l);
    tell = λ q r a b. (
      λ e. let z : q ≡ r = sym (rank-is s good c are q a) ∙ e ∙ rank-is s good c are r b in subst (λ k. same (walked_tree c q) (walked_tree c k) ≡ true) z (same_refl (walked_tree c q)),
      λ e. ap (λ k. walked_rank c (walked_tree c k)) (same-is s good c are q r a b e),
    );
  }

  pub rank-owned : Owned c.ranks.items c.first.items
  rank-owned r l = (are.ranked.firsts r (slice_index c.first.items r) (get-there c.first.items r 0 l)).1

  pub rank-below : (ranks : List ℕ) (node : ℕ) → ranks ≡ c.ranks.items → node < length ranks → slice_index ranks node < N
  rank-below ranks node e l =
      subst (λ z. slice_index z node < N) (sym e) (are.ranked.within node (omega (arith, l, ap length e, are.ranked.long)))

  pub first-below : (r : ℕ) → r < N → slice_index c.first.items r < length c.ranks.items
  first-below r l =
      let f = (are.ranked.firsts r (slice_index c.first.items r) (get-there c.first.items r 0 l)).0 in
      omega (arith, f, are.ranked.long)

-- the ranks of a forest's roots
module _ (bytes : List ℕ) (f : RankedForest) (roots : List ℕ) (h : HasRanks bytes f) (e : roots ≡ f.roots.items) (c : SpelledRanks) (is : c.ranked.now ≡ f.ranked) where
  pub spelled-rooted : Spells c → Rooted Spells (λ (z : SpelledRanks). length z.ranked.now.first.items) (λ r. r) c roots
  spelled-rooted spells =
      let within : All (λ r. r < length f.ranked.first.items) roots = subst (All (λ r. r < length f.ranked.first.items)) (sym e) h.rooted.within in
      record { ranked = spells; within = subst (λ (z : Ranked). All (λ r. r < length z.first.items) roots) (sym is) within }

  pub spelled-arranged : IsArranged bytes (map (walked_tree c.ranked.now) roots)
  spelled-arranged = subst (λ (z : Ranked). IsArranged bytes (map (walked_tree z) roots)) (sym is) (arranged_ranks bytes f roots h e)
