-- The trees of ranks.
use Rattle.std.proofs.Common.{◌≡◌, ℕ, zero, suc, ◌+◌, ◌<◌, Bool, true, false, not, cond, List, [], ◌∷◌, length, map, get_or, slice_index, refl, sym, ◌∙◌, ap, subst, arith}
use Rattle.std.specs.Prelude.{Some}
use Rattle.std.specs.List.{slice_get, slice_range, position_or_len, All}
use Rattle.std.specs.Str.{IsUtf8}
use Rattle.std.proofs.lemmas.List.{length-map}
use Rattle.std.proofs.lemmas.List.Elements.{All-map, All-tail}
use Rattle.yaml_definitions.specs.model.Tree.{Tree, scalar}
use Rattle.yaml_definitions.specs.model.Order.{arranged}
use Rattle.yaml_definitions.specs.model.Same.{same}
use Rattle.yaml_definitions.proofs.SameLaws.{same_from}
use Rattle.yaml_definitions.proofs.Arranged.{neat_same, arranged_neat}
use Rattle.yaml_definitions.proofs.Equivalence.{same_refl}
use Rattle.yaml_tree.specs.View.{View, InsideBelow, inside_tree}
use Rattle.yaml_tree.specs.Insides.{Held, HeldBelow}
use Rattle.yaml_tree.proofs.Lists.{get-map, get-unmap}
use Rattle.yaml_tree.proofs.InsideLaws.{held-length, inside-same, held-tree}
use Rattle.yaml_tree.proofs.Numbering.{get-there, get-within}
use Rattle.yaml_tree.specs.declared.shown.Inside.{Inside}
use Rattle.yaml_tree.specs.Shown.{inside_shown}
use Rattle.yaml_store.specs.declared.store.Store.{Store}
use Rattle.yaml_store_rank.specs.declared.ranking.Ranked.{Ranked}
use Rattle.yaml_store.specs.declared.nodes.Node.{Node}
use Rattle.yaml_store.specs.declared.nodes.Place.{Place}
use Rattle.yaml_store.specs.declared.nodes.Place.TheVariants.{Scalar}
use Rattle.yaml_store.specs.declared.nodes.Span.{Span}
use Rattle.yaml_store.specs.TextModel.{text_of, border, IsWhole, PlaceWhole}
use Rattle.yaml_store.specs.StoreModel.{place_of, inside_of, tag_at, Within}
use Rattle.yaml_store.specs.StoreGrows.{Good, IsText}
use Rattle.yaml_store.specs.StoreView.{tree_of, tag_in, inside_at, view_of}
use Rattle.yaml_store_rank.specs.StoreRanks.{StoreListed, StoreRanked}
use Rattle.yaml_store_rank.specs.RanksView.{first_of, rank_tag, rank_inside, rank_tree}
use Rattle.yaml_store_rank.specs.Walked.{count_from, rank_held, walked_trees, walked_tree, walked_rank, ranks_of, RanksTaken}
use Rattle.yaml_store_rank.proofs.RanksOf.{first-tree}
use Rattle.yaml_store_rank.proofs.RanksView.{rank-tree-made, rank-parts-below}

get-from : (k n j : ℕ) → j < n → slice_get (count_from k n) j ≡ Some (k + j)
get-from k zero j l = absurd (omega arith)
get-from k (suc n) zero l = ap Some (omega arith)
get-from k (suc n) (suc j) l = get-from (suc k) n j (omega arith) ∙ ap Some (omega arith)

from-length : (k n : ℕ) → length (count_from k n) ≡ n
from-length k zero = refl
from-length k (suc n) = ap suc (from-length (suc k) n)

-- the first tree of a list that is the same as this one, which is among them
found : (t : Tree) (xs : List Tree) (i : ℕ) (d : Tree) → i < length xs → same t (get_or xs i d) ≡ true → (position_or_len (same t) xs < length xs) × (same t (get_or xs (position_or_len (same t) xs) d) ≡ true)
found t [] i d l h = absurd (omega arith)
found t (x ∷ xs) zero d l h = by (same t x) refl
  where
    by : (b : Bool) → same t x ≡ b → (cond (not b) (1 + position_or_len (same t) xs) 0 < suc (length xs)) × (same t (get_or (x ∷ xs) (cond (not b) (1 + position_or_len (same t) xs) 0) d) ≡ true)
    by true e = (omega arith, e)
    by false e = absurd (let z : false ≡ true = sym e ∙ h in cc)
found t (x ∷ xs) (suc i) d l h = by (same t x) refl (found t xs i d (omega arith) h)
  where
    by : (b : Bool) → same t x ≡ b → (position_or_len (same t) xs < length xs) × (same t (get_or xs (position_or_len (same t) xs) d) ≡ true)
        → (cond (not b) (1 + position_or_len (same t) xs) 0 < suc (length xs)) × (same t (get_or (x ∷ xs) (cond (not b) (1 + position_or_len (same t) xs) 0) d) ≡ true)
    by true e r = (omega arith, e)
    by false e r =
        let p = r.0 in
        let one : suc (position_or_len (same t) xs) ≡ 1 + position_or_len (same t) xs = omega arith in
        (omega arith, subst (λ n. same t (get_or (x ∷ xs) n d) ≡ true) one r.1)

module _ (s : Store) (good : Good s) (c : Ranked) (are : StoreListed s good c) where
  abbrev N : ℕ
  N = length c.first.items

  abbrev numbers : List ℕ
  numbers = count_from 0 N

  held-at : (r : ℕ) → r < N → slice_get (map (rank_held c) numbers) r ≡ Some (rank_held c r)
  held-at r l = get-map (rank_held c) numbers r r (get-from 0 N r l ∙ ap Some (omega arith))

  held-below : HeldBelow (map (rank_held c) numbers)
  held-below k x e =
      let m = get-unmap (rank_held c) numbers k x e in
      let w = get-within numbers k m.0 m.1 in
      let l : k < N = omega (arith, w, from-length 0 N) in
      let q : Some k ≡ Some m.0 = ap Some (omega arith) ∙ sym (get-from 0 N k l) ∙ m.1 in
      let z : k ≡ m.0 = cc in
      subst (λ (h : Held). InsideBelow k h.1) (ap (rank_held c) z ∙ m.2) (rank-parts-below s good c are k l)

  pub walked-made : (r : ℕ) → r < N → walked_tree c r ≡ inside_tree (walked_tree c) (rank_tag c r) (rank_inside c r)
  walked-made r l = held-tree (map (rank_held c) numbers) r (rank_held c r) held-below (held-at r l)

  agree : (m r : ℕ) → r < m → r < N → walked_tree c r ≡ rank_tree s c r
  agree zero r a l = absurd (omega arith)
  agree (suc m) r a l =
      walked-made r l
      ∙ inside-same (walked_tree c) (rank_tree s c) r (rank_tag c r) (rank_inside c r) (λ i b. agree m i (omega arith) (omega arith)) (rank-parts-below s good c are r l)
      ∙ sym (rank-tree-made s good c are r l)

  -- the tree of a rank is that of the first node that has it
  pub walked-is : (r : ℕ) → r < N → walked_tree c r ≡ rank_tree s c r
  walked-is r l = agree (suc r) r (omega arith) l

  -- the rank of a node of the store is a rank, with the node's tree
  pub node-ranked : (i : ℕ) → i < length (ranks_of c) → (slice_index (ranks_of c) i < N) × (walked_tree c (slice_index (ranks_of c) i) ≡ arranged (tree_of s i))
  node-ranked i l =
      let v : View = view_of s good in
      let k : i < v.count = subst (λ n. i < n) are.ranked.long l in
      let w : slice_index (ranks_of c) i < N = are.ranked.within i k in
      (w, walked-is (slice_index (ranks_of c) i) w ∙ first-tree v c.nodes.items (text_of c.text) c.items.items c.entries.items c.ranks.items c.first.items (sym (ap length are.nodes)) are.ranked i k)

  pub taken-within : (nodes : List ℕ) → All (λ i. i < length (ranks_of c)) nodes → All (λ r. r < N) (map (slice_index (ranks_of c)) nodes)
  taken-within nodes all = All-map (λ r. r < N) (slice_index (ranks_of c)) nodes (λ k d l. (node-ranked (get_or nodes k d) (all k d l)).0)

  pub taken-trees : (nodes : List ℕ) → All (λ i. i < length (ranks_of c)) nodes → map (walked_tree c) (map (slice_index (ranks_of c)) nodes) ≡ map (λ i. arranged (tree_of s i)) nodes
  taken-trees [] all = refl
  taken-trees (i ∷ nodes) all = λ z. (node-ranked i (all 0 0 (omega arith))).1 z ∷ taken-trees nodes (All-tail (λ i. i < length (ranks_of c)) i nodes all) z

  -- two ranks whose trees are the same are one
  pub same-is : (q r : ℕ) → q < N → r < N → same (walked_tree c q) (walked_tree c r) ≡ true → q ≡ r
  same-is q r a b h =
      let i = are.ranked.firsts q (first_of c q) (get-there c.first.items q 0 a) in
      let j = are.ranked.firsts r (first_of c r) (get-there c.first.items r 0 b) in
      let t : Tree = tree_of s (first_of c q) in
      let u : Tree = tree_of s (first_of c r) in
      let g : same (arranged t) (arranged u) ≡ true = subst (λ z. same z (rank_tree s c r) ≡ true) (walked-is q a) (subst (λ z. same (walked_tree c q) z ≡ true) (walked-is r b) h) in
      let e = same_from t u (neat_same (arranged t) (arranged u) (arranged_neat t (are.ranked.keyed (first_of c q) i.0)) (arranged_neat u (are.ranked.keyed (first_of c r) j.0)) g) in
      sym i.1 ∙ (are.ranked.ranked (first_of c q) (first_of c r) i.0 j.0).0.1 e ∙ j.1

  trees-long : length (walked_trees c) ≡ N
  trees-long = held-length (map (rank_held c) numbers) ∙ length-map numbers (rank_held c) ∙ from-length 0 N

  pub rank-is : (r : ℕ) → r < N → walked_rank c (walked_tree c r) ≡ r
  rank-is r l =
      let t : Tree = walked_tree c r in
      let p : ℕ = walked_rank c t in
      let f = found t (walked_trees c) r (scalar [] []) (omega (arith, l, trees-long)) (same_refl t) in
      let g = f.0 in
      sym (same-is r p l (omega (arith, g, trees-long)) f.1)

  pub inside-below : (r : ℕ) → r < N → InsideBelow N (rank_inside c r)
  inside-below r l =
      let b = rank-parts-below s good c are r l in
      (λ k d m. let z = b.0 k d m in omega (arith, z, l), λ k d m. let z = b.1 k d m in let x = z.0 in let y = z.1 in (omega (arith, x, l), omega (arith, y, l)))

  pub first-within : (r i : ℕ) → r < N → i ≡ get_or c.first.items r i → i < length c.nodes.items
  first-within r i l e = subst (λ z. i < length z) (sym are.nodes) (are.ranked.firsts r i (get-there c.first.items r i l ∙ ap Some (sym e))).0

  -- the node that stands for a rank
  module _ (r i : ℕ) (n : Node) (l : r < N) (e : i ≡ get_or c.first.items r i) (h : n ≡ get_or c.nodes.items i n) where
    first-at : slice_get c.first.items r ≡ Some i
    first-at = get-there c.first.items r i l ∙ ap Some (sym e)

    there : slice_get c.nodes.items i ≡ Some n
    there = get-there c.nodes.items i n (first-within r i l e) ∙ ap Some (sym h)

    node-at : slice_get c.nodes.items (first_of c r) ≡ Some n
    node-at =
        let q : Some (first_of c r) ≡ Some i = sym (get-there c.first.items r 0 l) ∙ first-at in
        let z : first_of c r ≡ i = cc in
        ap (slice_get c.nodes.items) z ∙ there

    pub tag-within : n.tag < length c.tags
    tag-within =
        let t = (good.placed i n (subst (λ z. slice_get z i ≡ Some n) are.nodes there)).2 in
        omega (arith, t, ap length are.tags)

    pub place-within : Within (length (text_of c.text)) (length c.items.items) (length c.entries.items) (place_of n)
    place-within = are.ranked.placed i n there

    -- a content is text
    pub content-text : (p : Span) → Scalar p ≡ place_of n → IsUtf8 (slice_range (text_of c.text) p.start p.end)
    content-text p b = subst (λ t. IsUtf8 (slice_range t p.start p.end)) (sym are.text) (subst (λ q. IsText (inside_of (text_of s.text) s.items.items s.entries.items q)) (sym b) (good.texts i n (subst (λ z. slice_get z i ≡ Some n) are.nodes there)))

    -- and stands in one part of the text
    pub content-whole : (p : Span) → Scalar p ≡ place_of n → IsWhole (border c.text) p
    content-whole p b = subst (PlaceWhole (border c.text)) (sym b) (are.whole i n there)

    pub tag-shown : (x : List ℕ) → x ≡ tag_at c.tags n.tag → x ≡ rank_tag c r
    tag-shown x a = a ∙ sym (ap (tag_in c.tags) node-at)

    pub inside-shown : (p : Place) → p ≡ place_of n → inside_of (text_of c.text) c.items.items c.entries.items p ≡ rank_inside c r
    inside-shown p a = ap (inside_of (text_of c.text) c.items.items c.entries.items) a ∙ sym (ap (inside_at (text_of c.text) c.items.items c.entries.items) node-at)

  -- what shows a rank's tag and what is inside it shows its tree, and ranks below their number
  module _ {I : Type 0} (number : I → ℕ) (r : ℕ) (tag : List ℕ) (x : Inside I) (l : r < N) (is : tag ≡ rank_tag c r) (inside : inside_shown number x ≡ rank_inside c r) where
    pub tree-shown : walked_tree c r ≡ inside_tree (walked_tree c) tag (inside_shown number x)
    tree-shown = walked-made r l ∙ (λ z. inside_tree (walked_tree c) (sym is z) (sym inside z))

    pub parts-shown : InsideBelow N (inside_shown number x)
    parts-shown = subst (InsideBelow N) (sym inside) (inside-below r l)

-- ranks in place of nodes
pub ranks-taken : (c : Ranked) (nodes : List ℕ) → All (λ i. i < length (ranks_of c)) nodes → RanksTaken c nodes (map (slice_index (ranks_of c)) nodes)
ranks-taken c nodes all = record {
  are = refl;
  within = λ s good are. taken-within s good c are.listed nodes all;
  trees = λ s good are. taken-trees s good c are.listed nodes all;
}

-- each rank is its own number
pub same-numbers : (xs : List ℕ) → xs ≡ map (λ x. x) xs
same-numbers [] = refl
same-numbers (x ∷ xs) = ap (λ z. x ∷ z) (same-numbers xs)

pub same-pairs : (ps : List (ℕ × ℕ)) → ps ≡ map (λ p. (p.0, p.1)) ps
same-pairs [] = refl
same-pairs (p ∷ ps) = ap (λ z. p ∷ z) (same-pairs ps)
