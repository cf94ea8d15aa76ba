-- The comparison of trees is that of lists of numbers which spell the trees: so it is a total order, and tells any two trees apart.
use Rattle.std.proofs.Common.{◌≡◌, ◌<◌, ℕ, List, [], ◌∷◌, refl, sym, ◌∙◌, ap, subst}
use Rattle.std.specs.declared.cmp.Ordering.{Ordering}
use Rattle.std.specs.declared.cmp.Ordering.TheVariants.{Less, Equal, Greater}
use Rattle.std.specs.Ordering.{ordering_then, nat_cmp, MatchOrdering}
use Rattle.std.specs.Cmp.{IsTotalOrder}
use Rattle.std.specs.Cmp.Lexicographic.{nat_list_cmp_total}
use Rattle.std.proofs.lemmas.Cmp.{on_total, ranked}
use Rattle.yaml_definitions.specs.model.Tree.{Tree, Trees, Pairs, scalar, sequence, mapping, end, item, done, entry, tag_of, kind_of, height}
use Rattle.yaml_definitions.specs.model.Order.{bytes_cmp, inside_cmp, trees_cmp, pairs_cmp, tree_cmp}

pub then_assoc : (a b c : Ordering) → ordering_then (ordering_then a b) c ≡ ordering_then a (ordering_then b c)
then_assoc Less b c = refl
then_assoc Equal b c = refl
then_assoc Greater b c = refl

pub then_equal : (a : Ordering) → ordering_then a Equal ≡ a
then_equal Less = refl
then_equal Equal = refl
then_equal Greater = refl

pub then_both : (a b : Ordering) → ordering_then a b ≡ Equal → (a ≡ Equal) × (b ≡ Equal)
then_both Less b h = (h, cc)
then_both Equal b h = (refl, h)
then_both Greater b h = (h, cc)

-- ---- a list of numbers that spells a tree, before more numbers

abbrev text_code : List ℕ → List ℕ → List ℕ
text_code [] r = 0 ∷ r
text_code (x ∷ xs) r = 1 ∷ x ∷ text_code xs r

abbrev head_code : Tree → List ℕ → List ℕ
head_code t r = height t ∷ kind_of t ∷ text_code (tag_of t) r

abbrev mutual
  inner : Tree → List ℕ → List ℕ
  inner (scalar a x) r = text_code x r
  inner (sequence a ts) r = inner_trees ts r
  inner (mapping a ps) r = inner_pairs ps r

  inner_trees : Trees → List ℕ → List ℕ
  inner_trees end r = 0 ∷ r
  inner_trees (item t ts) r = 1 ∷ head_code t (inner t (inner_trees ts r))

  inner_pairs : Pairs → List ℕ → List ℕ
  inner_pairs done r = 0 ∷ r
  inner_pairs (entry k v ps) r = 1 ∷ head_code k (inner k (head_code v (inner v (inner_pairs ps r))))

abbrev code : Tree → List ℕ → List ℕ
code t r = head_code t (inner t r)

text_law : (xs ys r s : List ℕ) → bytes_cmp (text_code xs r) (text_code ys s) ≡ ordering_then (bytes_cmp xs ys) (bytes_cmp r s)
text_law [] [] r s = refl
text_law [] (y ∷ ys) r s = refl
text_law (x ∷ xs) [] r s = refl
text_law (x ∷ xs) (y ∷ ys) r s = ap (ordering_then (nat_cmp x y)) (text_law xs ys r s) ∙ sym (then_assoc (nat_cmp x y) (bytes_cmp xs ys) (bytes_cmp r s))

-- the numbers after the height
abbrev Kinded : Tree → Tree → List ℕ → List ℕ → Type 0
Kinded t u r s =
    ordering_then (nat_cmp (kind_of t) (kind_of u)) (bytes_cmp (text_code (tag_of t) (inner t r)) (text_code (tag_of u) (inner u s)))
    ≡ ordering_then (nat_cmp (kind_of t) (kind_of u)) (ordering_then (bytes_cmp (tag_of t) (tag_of u)) (ordering_then (inside_cmp t u) (bytes_cmp r s)))

headed : (t u : Tree) (r s : List ℕ) → Kinded t u r s → bytes_cmp (code t r) (code u s) ≡ ordering_then (tree_cmp t u) (bytes_cmp r s)
unfolding tree_cmp
headed t u r s e = simp then_assoc (ap (ordering_then (nat_cmp (height t) (height u))) e)

tagged : (a b r s : List ℕ) (o : Ordering) → bytes_cmp r s ≡ o → bytes_cmp (text_code a r) (text_code b s) ≡ ordering_then (bytes_cmp a b) o
tagged a b r s o e = text_law a b r s ∙ ap (ordering_then (bytes_cmp a b)) e

regroup : (a b c d : Ordering) → ordering_then a (ordering_then b (ordering_then c d)) ≡ ordering_then (ordering_then a (ordering_then b c)) d
regroup a b c d = simp then_assoc

mutual
  unfolding tree_cmp

  kinded_law : (t u : Tree) (r s : List ℕ) → Kinded t u r s
  kinded_law (scalar a x) (scalar b y) r s = tagged a b _ _ _ (text_law x y r s)
  kinded_law (sequence a ts) (sequence b us) r s = tagged a b _ _ _ (trees_law ts us r s)
  kinded_law (mapping a ps) (mapping b qs) r s = tagged a b _ _ _ (pairs_law ps qs r s)
  kinded_law _ _ r s = refl

  trees_law : (ts us : Trees) (r s : List ℕ) → bytes_cmp (inner_trees ts r) (inner_trees us s) ≡ ordering_then (trees_cmp ts us) (bytes_cmp r s)
  trees_law end end r s = refl
  trees_law end (item u us) r s = refl
  trees_law (item t ts) end r s = refl
  trees_law (item t ts) (item u us) r s =
      headed t u (inner_trees ts r) (inner_trees us s) (kinded_law t u (inner_trees ts r) (inner_trees us s))
      ∙ (ap (ordering_then (tree_cmp t u)) (trees_law ts us r s) ∙ sym (then_assoc (tree_cmp t u) (trees_cmp ts us) (bytes_cmp r s)))

  pairs_law : (ps qs : Pairs) (r s : List ℕ) → bytes_cmp (inner_pairs ps r) (inner_pairs qs s) ≡ ordering_then (pairs_cmp ps qs) (bytes_cmp r s)
  pairs_law done done r s = refl
  pairs_law done (entry j w qs) r s = refl
  pairs_law (entry k v ps) done r s = refl
  pairs_law (entry k v ps) (entry j w qs) r s =
      headed k j (head_code v (inner v (inner_pairs ps r))) (head_code w (inner w (inner_pairs qs s))) (kinded_law k j (head_code v (inner v (inner_pairs ps r))) (head_code w (inner w (inner_pairs qs s))))
      ∙ (ap (ordering_then (tree_cmp k j)) (headed v w (inner_pairs ps r) (inner_pairs qs s) (kinded_law v w (inner_pairs ps r) (inner_pairs qs s)) ∙ ap (ordering_then (tree_cmp v w)) (pairs_law ps qs r s))
      ∙ regroup (tree_cmp k j) (tree_cmp v w) (pairs_cmp ps qs) (bytes_cmp r s))

pub tree_cmp-codes : (t u : Tree) → bytes_cmp (code t []) (code u []) ≡ tree_cmp t u
tree_cmp-codes t u = headed t u [] [] (kinded_law t u [] []) ∙ then_equal (tree_cmp t u)

pub tree_cmp-total : IsTotalOrder tree_cmp
tree_cmp-total = subst IsTotalOrder (λ i t u. tree_cmp-codes t u i) (on_total (λ t. code t []) nat_list_cmp_total)

-- ---- trees that the order does not tell apart are one

text_same : (xs ys : List ℕ) → bytes_cmp xs ys ≡ Equal → xs ≡ ys
text_same [] [] h = refl
text_same [] (y ∷ ys) h = cc
text_same (x ∷ xs) [] h = cc
text_same (x ∷ xs) (y ∷ ys) h =
    let b = then_both (nat_cmp x y) (bytes_cmp xs ys) h in
    let e : x ≡ y = nat_same x y b.0 in
    let f : xs ≡ ys = text_same xs ys b.1 in
    cc
  where
    nat_same : (x y : ℕ) → nat_cmp x y ≡ Equal → x ≡ y
    nat_same x y e = subst (λ (o : Ordering). MatchOrdering o (x < y) (x ≡ y) (y < x)) e (ranked x y (nat_cmp x y) refl)

head_parts : (t u : Tree) → tree_cmp t u ≡ Equal → (nat_cmp (kind_of t) (kind_of u) ≡ Equal) × (bytes_cmp (tag_of t) (tag_of u) ≡ Equal) × (inside_cmp t u ≡ Equal)
unfolding tree_cmp
head_parts t u h =
    let a = then_both (nat_cmp (height t) (height u)) (ordering_then (nat_cmp (kind_of t) (kind_of u)) (ordering_then (bytes_cmp (tag_of t) (tag_of u)) (inside_cmp t u))) h in
    let b = then_both (nat_cmp (kind_of t) (kind_of u)) (ordering_then (bytes_cmp (tag_of t) (tag_of u)) (inside_cmp t u)) a.1 in
    let c = then_both (bytes_cmp (tag_of t) (tag_of u)) (inside_cmp t u) b.1 in
    (b.0, c.0, c.1)

mutual
  unfolding tree_cmp

  pub tree_same : (t u : Tree) → tree_cmp t u ≡ Equal → t ≡ u
  tree_same (scalar a x) (scalar b y) h =
      let p = head_parts (scalar a x) (scalar b y) h in
      let e : a ≡ b = text_same a b p.1 in
      let f : x ≡ y = text_same x y p.2 in
      cc
  tree_same (sequence a ts) (sequence b us) h =
      let p = head_parts (sequence a ts) (sequence b us) h in
      let e : a ≡ b = text_same a b p.1 in
      let f : ts ≡ us = trees_same ts us p.2 in
      cc
  tree_same (mapping a ps) (mapping b qs) h =
      let p = head_parts (mapping a ps) (mapping b qs) h in
      let e : a ≡ b = text_same a b p.1 in
      let f : ps ≡ qs = pairs_same ps qs p.2 in
      cc
  tree_same t u h = let p : nat_cmp (kind_of t) (kind_of u) ≡ Equal = (head_parts t u h).0 in cc

  trees_same : (ts us : Trees) → trees_cmp ts us ≡ Equal → ts ≡ us
  trees_same end end h = refl
  trees_same end (item u us) h = cc
  trees_same (item t ts) end h = cc
  trees_same (item t ts) (item u us) h =
      let b = then_both (tree_cmp t u) (trees_cmp ts us) h in
      let e : t ≡ u = tree_same t u b.0 in
      let f : ts ≡ us = trees_same ts us b.1 in
      cc

  pairs_same : (ps qs : Pairs) → pairs_cmp ps qs ≡ Equal → ps ≡ qs
  pairs_same done done h = refl
  pairs_same done (entry j w qs) h = cc
  pairs_same (entry k v ps) done h = cc
  pairs_same (entry k v ps) (entry j w qs) h =
      let b = then_both (tree_cmp k j) (ordering_then (tree_cmp v w) (pairs_cmp ps qs)) h in
      let c = then_both (tree_cmp v w) (pairs_cmp ps qs) b.1 in
      let e : k ≡ j = tree_same k j b.0 in
      let f : v ≡ w = tree_same v w c.0 in
      let g : ps ≡ qs = pairs_same ps qs c.1 in
      cc
