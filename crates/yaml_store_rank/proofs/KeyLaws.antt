-- Keys of nodes of one height stand as the nodes' trees do.
use Rattle.std.proofs.Common.{◌≡◌, ℕ, suc, ◌<◌, List, [], ◌∷◌, refl, sym, ◌∙◌, ap, arith}
use Rattle.std.specs.List.{All}
use Rattle.std.specs.declared.cmp.Ordering.{Ordering}
use Rattle.std.specs.declared.cmp.Ordering.TheVariants.{Less, Equal, Greater}
use Rattle.std.specs.Ordering.{nat_cmp, ordering_then}
use Rattle.std.specs.Cmp.Lexicographic.{slice_cmp}
use Rattle.yaml_definitions.specs.model.Tree.{Tree, height}
use Rattle.yaml_definitions.specs.model.Order.{bytes_cmp, tree_cmp}
use Rattle.yaml_definitions.proofs.OrderLaws.{then_assoc}
use Rattle.yaml_tree.specs.Numbered.{pair_cmp}
use Rattle.yaml_store_rank.specs.NumberKeys.{behind, joined, four_of, flat}
use Rattle.yaml_tree.specs.View.{View, Inside, content, items, entries, Ranks}
use Rattle.yaml_store_rank.proofs.NumberKeyLaws.{Fit, digits-cmp, joined-cmp, four-cmp, flat-cmp}
use Rattle.yaml_tree.proofs.PrefixLaws.{prefixed-cmp}
use Rattle.yaml_tree.proofs.RankOrder.{tail, same-high, items-cmp, entries-cmp}
use Rattle.yaml_store_rank.specs.KeyModel.{inside_cmp, Key, key_cmp, RanksFit, kind_number, IsFrontOf, IsRestOf, KeyIs}
use Rattle.yaml_store_rank.proofs.NodeLaws.{Low, Fitted}

-- where a part is decided by a number and by what stands behind it, the whole may be compared in place of that
then-told : (o p q : Ordering) → ordering_then o p ≡ q → ordering_then o q ≡ q
then-told Less p q e = e
then-told Equal p q e = refl
then-told Greater p q e = e

all-fit : (xs : List ℕ) → All (λ r. r < 4294967295) xs → Fit xs
all-fit [] a = tt
all-fit (x ∷ xs) a = (a 0 x (omega arith), all-fit xs (λ k d l. a (suc k) d (omega arith)))

flat-fit : (ps : List (ℕ × ℕ)) → All (λ (p : ℕ × ℕ). (p.0 < 4294967295) × (p.1 < 4294967295)) ps → Fit (flat ps)
flat-fit [] a = tt
flat-fit (p ∷ ps) a = let b = a 0 p (omega arith) in (b.0, (b.1, flat-fit ps (λ k d l. a (suc k) d (omega arith))))

-- the second number and the rest of a key
abbrev told : Key → Key → Ordering
told k l = ordering_then (nat_cmp (joined k.high k.low) (joined l.high l.low)) (inside_cmp k.rest l.rest)

-- half by half
halves-told : (k l : Key) → k.low < 18446744073709551616 → l.low < 18446744073709551616 → ordering_then (nat_cmp k.high l.high) (ordering_then (nat_cmp k.low l.low) (inside_cmp k.rest l.rest)) ≡ told k l
halves-told k l f g =
    sym (ap (λ o. ordering_then o (inside_cmp k.rest l.rest)) (joined-cmp k.high k.low l.high l.low f g) ∙ then_assoc (nat_cmp k.high l.high) (nat_cmp k.low l.low) (inside_cmp k.rest l.rest))

module _ (v : View) (rank : ℕ → ℕ) (h : ℕ) (right : Ranks v rank h) where
  inside-told : (g j : List ℕ) (a b : Inside) (k l : Key) (t u : Tree) → IsFrontOf a (joined k.high k.low) → IsRestOf a k.rest → IsFrontOf b (joined l.high l.low) → IsRestOf b l.rest → Fitted v rank h right g a t → Fitted v rank h right j b u → RanksFit a → RanksFit b
      → ordering_then (nat_cmp (kind_number a) (kind_number b)) (ordering_then (bytes_cmp g j) (told k l)) ≡ tail t u
  inside-told g j (content x) (content y) k l t u p r q s e f m n =
      let w : told k l ≡ bytes_cmp x y =
      (λ z. ordering_then (nat_cmp (joined k.high k.low) (joined l.high l.low)) (inside_cmp (r.1 z) (s.1 z))) ∙ prefixed-cmp x y r.0 s.0 (joined k.high k.low) (joined l.high l.low) p q r.2 s.2 in
      ap (ordering_then (bytes_cmp g j)) w ∙ sym (λ z. tail (e z) (f z))
  inside-told g j (items rs) (items ss) k l t u p r q s e f m n =
      let w : told k l ≡ slice_cmp nat_cmp rs ss =
      (λ z. ordering_then (nat_cmp (p z) (q z)) (inside_cmp (r z) (s z)))
      ∙ then-told (nat_cmp (four_of rs) (four_of ss)) (slice_cmp nat_cmp (behind (behind (behind (behind rs)))) (behind (behind (behind (behind ss))))) (slice_cmp nat_cmp rs ss) (four-cmp rs ss (all-fit rs m) (all-fit ss n)) in
      ap (ordering_then (bytes_cmp g j)) (w ∙ ((λ z. slice_cmp nat_cmp (e.3 z) (f.3 z)) ∙ items-cmp v.tree rank (Low v rank h right) right.agrees e.0 f.0 e.1 f.1)) ∙ sym (λ z. tail (e.2 z) (f.2 z))
  inside-told g j (entries rs) (entries ss) k l t u p r q s e f m n =
      let w : told k l ≡ slice_cmp pair_cmp rs ss =
      (λ z. ordering_then (nat_cmp (p z) (q z)) (inside_cmp (r z) (s z)))
      ∙ then-told (nat_cmp (four_of (flat rs)) (four_of (flat ss))) (slice_cmp nat_cmp (behind (behind (behind (behind (flat rs))))) (behind (behind (behind (behind (flat ss)))))) (slice_cmp pair_cmp rs ss) (four-cmp (flat rs) (flat ss) (flat-fit rs m) (flat-fit ss n) ∙ flat-cmp rs ss) in
      ap (ordering_then (bytes_cmp g j)) (w ∙ ((λ z. slice_cmp pair_cmp (e.3 z) (f.3 z)) ∙ entries-cmp v.tree rank (Low v rank h right) right.agrees e.0 f.0 e.1 f.1)) ∙ sym (λ z. tail (e.2 z) (f.2 z))
  inside-told g j (content x) (items ss) k l t u p r q s e f m n = sym (λ z. tail (e z) (f.2 z))
  inside-told g j (content x) (entries ss) k l t u p r q s e f m n = sym (λ z. tail (e z) (f.2 z))
  inside-told g j (items rs) (content y) k l t u p r q s e f m n = sym (λ z. tail (e.2 z) (f z))
  inside-told g j (items rs) (entries ss) k l t u p r q s e f m n = sym (λ z. tail (e.2 z) (f.2 z))
  inside-told g j (entries rs) (content y) k l t u p r q s e f m n = sym (λ z. tail (e.2 z) (f z))
  inside-told g j (entries rs) (items ss) k l t u p r q s e f m n = sym (λ z. tail (e.2 z) (f.2 z))

  -- where the places of the tags stand as the tags do
  pub key-order : (p q : ℕ) (g j : List ℕ) (a b : Inside) (k l : Key) (t u : Tree) → nat_cmp p q ≡ bytes_cmp g j → KeyIs p a k → KeyIs q b l → Fitted v rank h right g a t → Fitted v rank h right j b u → RanksFit a → RanksFit b
      → height t ≡ height u → key_cmp k l ≡ tree_cmp t u
  key-order p q g j a b k l t u tags x y e f m n high =
      ap (ordering_then (nat_cmp k.head l.head)) (halves-told k l x.low y.low)
      ∙ ap (λ o. ordering_then o (told k l)) ((λ z. nat_cmp (x.head z) (y.head z)) ∙ (digits-cmp 1073741824 (kind_number a) p (kind_number b) q x.small y.small ∙ ap (ordering_then (nat_cmp (kind_number a) (kind_number b))) tags))
      ∙ (then_assoc (nat_cmp (kind_number a) (kind_number b)) (bytes_cmp g j) (told k l) ∙ (inside-told g j a b k l t u x.front x.rest y.front y.rest e f m n ∙ sym (same-high t u high)))
