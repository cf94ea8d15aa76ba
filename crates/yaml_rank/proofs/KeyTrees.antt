-- Keys stand as the trees of their nodes do.
use Rattle.std.proofs.Common.{◌≡◌, ℕ, List, map, sym, ◌∙◌, ap}
use Rattle.std.specs.Ordering.{nat_cmp, ordering_then}
use Rattle.std.specs.Cmp.Lexicographic.{slice_cmp}
use Rattle.yaml_definitions.specs.model.Tree.{Tree, scalar, sequence, mapping, height}
use Rattle.yaml_definitions.specs.model.Order.{bytes_cmp, tree_cmp, arranged}
use Rattle.yaml_tree.specs.TreeLists.{trees, pairs}
use Rattle.yaml_tree.specs.Numbered.{pair_cmp}
use Rattle.yaml_tree.specs.PrefixModel.{IsPrefix, IsRest}
use Rattle.yaml_tree.proofs.PrefixLaws.{prefixed-cmp}
use Rattle.yaml_tree.proofs.RankOrder.{AllLow, PairsLow, two_arranged, items-cmp, entries-cmp, tail, same-high}
use Rattle.yaml_rank.specs.declared.key.Key.{Key}
use Rattle.yaml_rank.specs.declared.key.Key.TheVariants as keys
use Rattle.yaml_rank.specs.KeyModel.{key_cmp}

-- of parts x with trees T x, whose ranks R x are right where Low x, and of tags whose numbers stand as they do
module _ {X : Type 0} (T : X → Tree) (R : X → ℕ) (Low : X → Type 0) (agrees : (x y : X) → Low x → Low y → nat_cmp (R x) (R y) ≡ tree_cmp (arranged (T x)) (arranged (T y))) (Tag : ℕ → List ℕ → Type 0) (numbered : (p q : ℕ) (g h : List ℕ) → Tag p g → Tag q h → nat_cmp p q ≡ bytes_cmp g h) where
  -- the key is that of a node whose tree, arranged, is this one
  abbrev pub Fits : Key → Tree → Type 0
  Fits (keys.Scalar p f r) t = (g : List ℕ) × Tag p g × ((x : List ℕ) × IsPrefix x f × IsRest x r.now × (t ≡ scalar g x))
  Fits (keys.Sequence p a) t = (g : List ℕ) × Tag p g × ((xs : List X) × AllLow T R Low agrees xs × (t ≡ sequence g (trees (map (λ x. arranged (T x)) xs))) × (a.items ≡ map R xs))
  Fits (keys.Mapping p a) t = (g : List ℕ) × Tag p g × ((ps : List (X × X)) × PairsLow T R Low agrees ps × (t ≡ mapping g (pairs (map (two_arranged T R Low agrees) ps))) × (a.items ≡ map (λ p. (R p.0, R p.1)) ps))

  -- keys of nodes of one height stand as the nodes' trees do
  pub keys-cmp : (k l : Key) (t u : Tree) → Fits k t → Fits l u → height t ≡ height u → key_cmp k l ≡ tree_cmp t u
  keys-cmp (keys.Scalar p f r) (keys.Scalar q k s) t u a b e =
      (λ z. ordering_then (numbered p q a.0 b.0 a.1 b.1 z) (prefixed-cmp a.2.0 b.2.0 r.now s.now f k a.2.1 b.2.1 a.2.2 b.2.2 z)) ∙ sym (same-high t u e ∙ (λ z. tail (a.2.3 z) (b.2.3 z)))
  keys-cmp (keys.Scalar p f x) (keys.Sequence q y) t u a b e = sym (same-high t u e ∙ (λ z. tail (a.2.3 z) (b.2.2 z)))
  keys-cmp (keys.Scalar p f x) (keys.Mapping q y) t u a b e = sym (same-high t u e ∙ (λ z. tail (a.2.3 z) (b.2.2 z)))
  keys-cmp (keys.Sequence p x) (keys.Scalar q k y) t u a b e = sym (same-high t u e ∙ (λ z. tail (a.2.2 z) (b.2.3 z)))
  keys-cmp (keys.Sequence p x) (keys.Sequence q y) t u a b e =
      (λ z. ordering_then (numbered p q a.0 b.0 a.1 b.1 z) (slice_cmp nat_cmp (a.2.3 z) (b.2.3 z))) ∙ (ap (ordering_then (bytes_cmp a.0 b.0)) (items-cmp T R Low agrees a.2.0 b.2.0 a.2.1 b.2.1) ∙ sym (same-high t u e ∙ (λ z. tail (a.2.2 z) (b.2.2 z))))
  keys-cmp (keys.Sequence p x) (keys.Mapping q y) t u a b e = sym (same-high t u e ∙ (λ z. tail (a.2.2 z) (b.2.2 z)))
  keys-cmp (keys.Mapping p x) (keys.Scalar q k y) t u a b e = sym (same-high t u e ∙ (λ z. tail (a.2.2 z) (b.2.3 z)))
  keys-cmp (keys.Mapping p x) (keys.Sequence q y) t u a b e = sym (same-high t u e ∙ (λ z. tail (a.2.2 z) (b.2.2 z)))
  keys-cmp (keys.Mapping p x) (keys.Mapping q y) t u a b e =
      (λ z. ordering_then (numbered p q a.0 b.0 a.1 b.1 z) (slice_cmp pair_cmp (a.2.3 z) (b.2.3 z))) ∙ (ap (ordering_then (bytes_cmp a.0 b.0)) (entries-cmp T R Low agrees a.2.0 b.2.0 a.2.1 b.2.1) ∙ sym (same-high t u e ∙ (λ z. tail (a.2.2 z) (b.2.2 z))))
