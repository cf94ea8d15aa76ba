-- The marks of a neat tree, unfolded, are that tree.
use Rattle.std.proofs.Common.{◌≡◌, ℕ, suc, max, ◌<◌, ◌≤◌, ◌+◌, Bool, true, false, not, ◌||◌, cond, List, [], ◌∷◌, ◌++◌, length, set, refl, sym, ◌∙◌, ap, subst, arith, append_assoc, append-nil, add-zero, zero-add, length-append, Ok, Result}
use Rattle.std.specs.declared.option.Option.{Option}
use Rattle.std.specs.declared.option.Option.TheVariants.{None, Some}
use Rattle.std.specs.List.{filter, list_any, list_all, position_or_len}
use Rattle.yaml_definitions.specs.model.Tree.{Tree, Trees, Pairs, scalar, sequence, mapping, end, item, done, entry, height, heights, heights_of_pairs}
use Rattle.yaml_definitions.specs.model.Same.{same}
use Rattle.std.specs.Prelude.{bytes_eq}
use lib.Pointwise.{bytes_decides}
use Rattle.yaml_definitions.specs.canonical.Walk.{Place, first, again, firsts, agains, is_again, walk, walk_trees, walk_pairs}
use Rattle.yaml_definitions.specs.model.Event.{double}
use Rattle.yaml_definitions.specs.model.Serial.{SerialNode, alias_at, scalar_at, sequence_at, mapping_at}
use Rattle.yaml_definitions.specs.canonical.TagText.{written_tag}
use Rattle.yaml_definitions.specs.model.Core.{resolve, collection_tag}
use Rattle.yaml_definitions.specs.canonical.Serialize.{anchor_name, is_anchored, anchored, anchor_of, alias_of, serialize, serialize_all, serialize_pairs}
use Rattle.yaml_definitions.specs.model.Unfold.{Outcome, Table, opened, closed, last_named, tree_named, placed, and_then, event_count, unfold_node, unfold_all, unfold_pairs}
use Rattle.yaml_definitions.proofs.TextLaws.{same_name}
use Rattle.yaml_definitions.proofs.Members.{and_both, both_and, or_left, or_right}
use Rattle.yaml_definitions.proofs.SameLaws.{same_from}
use Rattle.yaml_definitions.proofs.Arranged.{IsArranged, AreArranged, ArePairsArranged, neat_same}

-- the table has these trees under the names from i on, and holds those lower than h
abbrev pub Known : ℕ → ℕ → List Tree → Table → Type 0
Known h i [] [] = Unit {0}
Known h i (x ∷ xs) (o ∷ e) = (o.0 ≡ anchor_name (suc i)) × (height x < h → o.1 ≡ Some x) × Known h (suc i) xs e
Known h i [] (o ∷ e) = ⊥
Known h i (x ∷ xs) [] = ⊥

Known-length : (h i : ℕ) (xs : List Tree) (e : Table) → Known h i xs e → length e ≡ length xs
Known-length h i [] [] k = refl
Known-length h i (x ∷ xs) (o ∷ e) k = ap suc (Known-length h (suc i) xs e k.2)
Known-length h i [] (o ∷ e) k = absurd k
Known-length h i (x ∷ xs) [] k = absurd k

Known-less : (h g i : ℕ) (xs : List Tree) (e : Table) → g ≤ h → Known h i xs e → Known g i xs e
Known-less h g i [] [] l k = tt
Known-less h g i (x ∷ xs) (o ∷ e) l k = (k.0, λ m. k.1 (omega arith), Known-less h g (suc i) xs e l k.2)
Known-less h g i [] (o ∷ e) l k = k
Known-less h g i (x ∷ xs) [] l k = k

Known-append : (h i j : ℕ) (xs ys : List Tree) (e f : Table) → i + length xs ≡ j → Known h i xs e → Known h j ys f → Known h i (xs ++ ys) (e ++ f)
Known-append h i j [] ys [] f q k m = subst (λ z. Known h z ys f) (omega arith) m
Known-append h i j (x ∷ xs) ys (o ∷ e) f q k m = (k.0, k.1, Known-append h (suc i) j xs ys e f (omega arith) k.2 m)
Known-append h i j [] ys (o ∷ e) f q k m = absurd k
Known-append h i j (x ∷ xs) ys [] f q k m = absurd k

-- these trees under the names from i on
abbrev rows : ℕ → List Tree → Table
rows i [] = []
rows i (x ∷ xs) = (anchor_name (suc i), Some x) ∷ rows (suc i) xs

Known-whole : (h i : ℕ) (xs : List Tree) → Known h i xs (rows i xs)
Known-whole h i [] = tt
Known-whole h i (x ∷ xs) = (refl, λ l. refl, Known-whole h (suc i) xs)

rows-append : (i j : ℕ) (xs ys : List Tree) → i + length xs ≡ j → rows i (xs ++ ys) ≡ rows i xs ++ rows j ys
rows-append i j [] ys q = let e : i ≡ j = omega arith in ap (λ z. rows z ys) e
rows-append i j (x ∷ xs) ys q = ap (λ z. (anchor_name (suc i), Some x) ∷ z) (rows-append (suc i) j xs ys (omega arith))

abbrev pub AllNeat : List Tree → Type 0
AllNeat [] = Unit {0}
AllNeat (x ∷ xs) = IsArranged x × AllNeat xs

AllNeat-append : (xs ys : List Tree) → AllNeat xs → AllNeat ys → AllNeat (xs ++ ys)
AllNeat-append [] ys n m = m
AllNeat-append (x ∷ xs) ys n m = (n.0, AllNeat-append xs ys n.1 m)

pub firsts-append : (p q : List Place) → firsts (p ++ q) ≡ firsts p ++ firsts q
firsts-append [] q = refl
firsts-append (first t ∷ p) q = ap (λ z. t ∷ z) (firsts-append p q)
firsts-append (again t ∷ p) q = firsts-append p q

pub agains-append : (p q : List Place) → agains (p ++ q) ≡ agains p ++ agains q
agains-append [] q = refl
agains-append (first t ∷ p) q = agains-append p q
agains-append (again t ∷ p) q = ap (λ z. t ∷ z) (agains-append p q)

filter-append : (f : Tree → Bool) (xs ys : List Tree) → filter f (xs ++ ys) ≡ filter f xs ++ filter f ys
filter-append f [] ys = refl
filter-append f (x ∷ xs) ys = elim (f x) as (λ b. cond b (x ∷ filter f (xs ++ ys)) (filter f (xs ++ ys)) ≡ cond b (x ∷ filter f xs) (filter f xs) ++ filter f ys)
    [ true ↦ ap (λ z. x ∷ z) (filter-append f xs ys) | false ↦ filter-append f xs ys ]

all-append : (f : Tree → Bool) (xs ys : List Tree) → list_all f (xs ++ ys) ≡ true → (list_all f xs ≡ true) × (list_all f ys ≡ true)
all-append f [] ys h = (refl, h)
all-append f (x ∷ xs) ys h = let p = and_both (f x) (list_all f (xs ++ ys)) h in let q = all-append f xs ys p.1 in (both_and (f x) (list_all f xs) p.0 q.0, q.1)

same-refl : (t : Tree) → same t t ≡ true
same-refl t = same_from t t refl

bytes_ne : (a b : List ℕ) → (a ≡ b → ⊥) → bytes_eq a b ≡ false
bytes_ne a b n = by (bytes_eq a b) refl
  where
    by : (c : Bool) → bytes_eq a b ≡ c → c ≡ false
    by true e = absurd (n ((bytes_decides a b).0 e))
    by false e = refl

-- no name below the first is in the table
none_named : (h i n : ℕ) (xs : List Tree) (e : Table) → n < i → Known h i xs e → last_named (anchor_name (suc n)) e ≡ None
unfolding last_named
none_named h i n [] [] l k = refl
none_named h i n (x ∷ xs) (o ∷ e) l k = rw (none_named h (suc i) n xs e (omega arith) k.2, bytes_ne o.0 (anchor_name (suc n)) (λ q. let p = same_name (suc n) (suc i) (sym q ∙ k.0) in omega arith))
none_named h i n [] (o ∷ e) l k = absurd k
none_named h i n (x ∷ xs) [] l k = absurd k

-- a tree that stands among those known is found in the table
found : (t : Tree) (i : ℕ) (xs : List Tree) (e : Table) → IsArranged t → AllNeat xs → Known (suc (height t)) i xs e → list_any (same t) xs ≡ true → last_named (anchor_name (suc (i + position_or_len (same t) xs))) e ≡ Some (Some t)
unfolding last_named
found t i [] e n m k h = absurd (cc)
found t i (x ∷ xs) [] n m k h = absurd k
found t i (x ∷ xs) (o ∷ e) n m k h = by (λ g. found t (suc i) xs e n m.1 k.2 g) (same t x) refl h
  where
    by : (list_any (same t) xs ≡ true → last_named (anchor_name (suc (suc i + position_or_len (same t) xs))) e ≡ Some (Some t)) → (b : Bool) → same t x ≡ b → (b || list_any (same t) xs) ≡ true
        → last_named (anchor_name (suc (i + cond (not b) (1 + position_or_len (same t) xs) 0))) (o ∷ e) ≡ Some (Some t)
    by ih true s g =
        let q = neat_same t x n m.0 s in
        let v : o.1 ≡ Some t = k.1 (omega (arith, ap height q)) ∙ ap Some (sym q) in
        let w : last_named (anchor_name (suc i)) (o ∷ e) ≡ Some (Some t) = rw (none_named (suc (height t)) (suc i) i xs e (omega arith) k.2, (bytes_decides o.0 (anchor_name (suc i))).1 k.0) (ap Some v) in
        subst (λ z. last_named (anchor_name (suc z)) (o ∷ e) ≡ Some (Some t)) (sym (add-zero i)) w
    by ih false s g =
        let r : i + (1 + position_or_len (same t) xs) ≡ suc i + position_or_len (same t) xs = omega arith in
        subst (λ z. last_named (anchor_name (suc z)) (o ∷ e) ≡ Some (Some t)) (sym r) (rw (ih g))

set-append : (e f : Table) (o p : List ℕ × Option Tree) → set ((e ++ (o ∷ [])) ++ f) (length e) p ≡ e ++ (p ∷ f)
set-append [] f o p = refl
set-append (x ∷ e) f o p = ap (λ z. x ∷ z) (set-append e f o p)

-- tags and contents that stay as they are when they are read from canonical text
abbrev mutual
  pub Resolves : Tree → Type 0
  Resolves (scalar g x) = resolve (written_tag 0 g) double x ≡ Ok (g, x)
  Resolves (sequence g ts) = (collection_tag 1 (written_tag 1 g) ≡ Ok g) × ResolvesAll ts
  Resolves (mapping g ps) = (collection_tag 2 (written_tag 2 g) ≡ Ok g) × ResolvesPairs ps

  pub ResolvesAll : Trees → Type 0
  ResolvesAll end = Unit {0}
  ResolvesAll (item t ts) = Resolves t × ResolvesAll ts

  pub ResolvesPairs : Pairs → Type 0
  ResolvesPairs done = Unit {0}
  ResolvesPairs (entry k v ps) = Resolves k × Resolves v × ResolvesPairs ps

module _ (short : Tree → Bool) (repeated : List Tree) where
  abbrev table_of : List Tree → List Tree → Table
  table_of w xs = rows (length (anchored repeated w)) (anchored repeated xs)

  abbrev AllAnchored : List Tree → Type 0
  AllAnchored xs = list_all (is_anchored repeated) xs ≡ true

  longer : (w xs : List Tree) → length (anchored repeated w) + length (anchored repeated xs) ≡ length (anchored repeated (w ++ xs))
  longer w xs = sym (ap length (filter-append (is_anchored repeated) w xs) ∙ length-append (anchored repeated w) (anchored repeated xs))

  table_of-append : (w xs ys : List Tree) → table_of w (xs ++ ys) ≡ table_of w xs ++ table_of (w ++ xs) ys
  table_of-append w xs ys = ap (rows (length (anchored repeated w))) (filter-append (is_anchored repeated) xs ys)
      ∙ rows-append (length (anchored repeated w)) (length (anchored repeated (w ++ xs))) (anchored repeated xs) (anchored repeated ys) (longer w xs)

  -- a node that is the same as an earlier one has that one among the anchored
  among : (t : Tree) (xs : List Tree) → IsArranged t → AllNeat xs → is_anchored repeated t ≡ true → list_any (same t) xs ≡ true → list_any (same t) (anchored repeated xs) ≡ true
  among t [] n m a h = h
  among t (x ∷ xs) n m a h = by (λ g. among t xs n m.1 a g) (same t x) refl h
    where
      kept : list_any (same t) (anchored repeated xs) ≡ true → list_any (same t) (anchored repeated (x ∷ xs)) ≡ true
      kept i = elim (is_anchored repeated x) as (λ b. list_any (same t) (cond b (x ∷ anchored repeated xs) (anchored repeated xs)) ≡ true)
          [ true ↦ or_right (same t x) (list_any (same t) (anchored repeated xs)) i | false ↦ i ]

      by : (list_any (same t) xs ≡ true → list_any (same t) (anchored repeated xs) ≡ true) → (b : Bool) → same t x ≡ b → (b || list_any (same t) xs) ≡ true → list_any (same t) (anchored repeated (x ∷ xs)) ≡ true
      by ih true s g =
          let q : is_anchored repeated x ≡ true = subst (λ z. is_anchored repeated z ≡ true) (neat_same t x n m.0 s) a in
          subst (λ b. list_any (same t) (cond b (x ∷ anchored repeated xs) (anchored repeated xs)) ≡ true) (sym q) (or_left (same t x) (list_any (same t) (anchored repeated xs)) s)
      by ih false s g = kept (ih g)

  anchored_neat : (xs : List Tree) → AllNeat xs → AllNeat (anchored repeated xs)
  anchored_neat [] n = tt
  anchored_neat (x ∷ xs) n = elim (is_anchored repeated x) as (λ b. AllNeat (cond b (x ∷ anchored repeated xs) (anchored repeated xs)))
      [ true ↦ (n.0, anchored_neat xs n.1) | false ↦ anchored_neat xs n.1 ]

  -- a node, again or first
  visit : (t : Tree) (w : List Tree) (e : Table) (at : ℕ) → IsArranged t → AllNeat w → Known (suc (height t)) 0 (anchored repeated w) e
      → (b : Bool) → is_again short t w ≡ b → (m : SerialNode) (n : List Place) → AllAnchored (agains (cond b (again t ∷ []) (first t ∷ n)))
      → (AllAnchored (agains n) → unfold_node m e at ≡ Ok (t, e ++ table_of w (t ∷ firsts n)))
      → unfold_node (cond b (alias_at (alias_of repeated t w)) m) e at ≡ Ok (t, e ++ table_of w (firsts (cond b (again t ∷ []) (first t ∷ n))))
  unfolding unfold_node
  visit t w e at n m k true s mk p a h =
      let g = and_both (not (short t)) (list_any (same t) w) s in
      let i = and_both (is_anchored repeated t) true a in
      let f = found t 0 (anchored repeated w) e n (anchored_neat w m) k (among t w n m i.0 g.1) in
      let c : last_named (alias_of repeated t w) e ≡ Some (Some t) = subst (λ z. last_named (anchor_name (suc z)) e ≡ Some (Some t)) (zero-add (position_or_len (same t) (anchored repeated w))) f in
      ap (λ o. and_then {Y = Tree × Table} (placed at (tree_named o)) (λ t'. Ok (t', e))) c ∙ ap (λ z. Ok (t, z)) (sym (append-nil e))
  visit t w e at n m k false s mk p a h = h a

  -- a node written out, from what is inside
  finish : {X : Type 0} (make : X → Tree) (x : X) (w : List Tree) (e : Table) (n : List Tree) (u : Table → Outcome (X × Table))
      → Known (suc (height (make x))) 0 (anchored repeated w) e
      → ((f : Table) → Known (height (make x)) 0 (anchored repeated (w ++ (make x ∷ []))) f → u f ≡ Ok (x, f ++ table_of (w ++ (make x ∷ [])) n))
      → and_then {Y = Tree × Table} (u (opened (anchor_of repeated (make x) w) e)) (λ r. Ok (make r.0, closed (anchor_of repeated (make x) w) (length e) (make r.0) r.1)) ≡ Ok (make x, e ++ table_of w (make x ∷ n))
  finish {X} make x w e n u k h = by (is_anchored repeated (make x)) refl
    where
      name : List ℕ
      name = anchor_name (suc (length (anchored repeated w)))

      by : (b : Bool) → is_anchored repeated (make x) ≡ b
          → and_then {Y = Tree × Table} (u (opened (cond b (Some name) None) e)) (λ r. Ok (make r.0, closed (cond b (Some name) None) (length e) (make r.0) r.1))
          ≡ Ok (make x, e ++ rows (length (anchored repeated w)) (cond b (make x ∷ anchored repeated n) (anchored repeated n)))
      by true q =
          let l = Known-less (suc (height (make x))) (height (make x)) 0 (anchored repeated w) e (omega arith) k in
          let g = Known-append (height (make x)) 0 (length (anchored repeated w)) (anchored repeated w) (make x ∷ []) e ((name, None) ∷ []) (omega arith) l (refl, λ m. absurd (omega arith), tt) in
          let c : anchored repeated (w ++ (make x ∷ [])) ≡ anchored repeated w ++ (make x ∷ []) = filter-append (is_anchored repeated) w (make x ∷ []) ∙ ap (λ b. anchored repeated w ++ cond b (make x ∷ []) []) q in
          let i = h (e ++ ((name, None) ∷ [])) (subst (λ z. Known (height (make x)) 0 z (e ++ ((name, None) ∷ []))) (sym c) g) in
          let d : length (anchored repeated (w ++ (make x ∷ []))) ≡ suc (length (anchored repeated w)) = omega (arith, ap length c, length-append (anchored repeated w) (make x ∷ [])) in
          rw i (ap (λ z. Ok (make x, z)) (set-append e (table_of (w ++ (make x ∷ [])) n) (name, None) (name, Some (make x))
          ∙ ap (λ z. e ++ ((name, Some (make x)) ∷ rows z (anchored repeated n))) d))
      by false q =
          let l = Known-less (suc (height (make x))) (height (make x)) 0 (anchored repeated w) e (omega arith) k in
          let c : anchored repeated (w ++ (make x ∷ [])) ≡ anchored repeated w = filter-append (is_anchored repeated) w (make x ∷ []) ∙ (ap (λ b. anchored repeated w ++ cond b (make x ∷ []) []) q ∙ append-nil (anchored repeated w)) in
          let i = h e (subst (λ z. Known (height (make x)) 0 z e) (sym c) l) in
          rw (i, c)

  after : (h : ℕ) (w : List Tree) (e : Table) (xs : List Tree) → Known h 0 (anchored repeated w) e → Known h 0 (anchored repeated (w ++ xs)) (e ++ table_of w xs)
  after h w e xs k =
      subst (λ z. Known h 0 z (e ++ table_of w xs)) (sym (filter-append (is_anchored repeated) w xs))
      (Known-append h 0 (length (anchored repeated w)) (anchored repeated w) (anchored repeated xs) e (table_of w xs) (omega arith) k (Known-whole h (length (anchored repeated w)) (anchored repeated xs)))

  chosen : (b : Bool) (t : Tree) (p : List Place) → IsArranged t → AllNeat (firsts p) → AllNeat (firsts (cond b (again t ∷ []) (first t ∷ p)))
  chosen true t p n m = tt
  chosen false t p n m = (n, m)

  joined : (p q : List Place) → AllNeat (firsts p) → AllNeat (firsts q) → AllNeat (firsts (p ++ q))
  joined p q m n = rw (firsts-append p q) (AllNeat-append (firsts p) (firsts q) m n)

  mutual
    unfolding walk serialize

    news_neat : (t : Tree) (w : List Tree) → IsArranged t → AllNeat (firsts (walk short t w))
    news_neat (scalar a x) w n = chosen (is_again short (scalar a x) w) (scalar a x) [] n tt
    news_neat (sequence a ts) w n = chosen (is_again short (sequence a ts) w) (sequence a ts) (walk_trees short ts (w ++ (sequence a ts ∷ []))) n (news_neat_trees ts (w ++ (sequence a ts ∷ [])) n)
    news_neat (mapping a ps) w n = chosen (is_again short (mapping a ps) w) (mapping a ps) (walk_pairs short ps (w ++ (mapping a ps ∷ []))) n (news_neat_pairs ps (w ++ (mapping a ps ∷ [])) n)

    news_neat_trees : (ts : Trees) (w : List Tree) → AreArranged ts → AllNeat (firsts (walk_trees short ts w))
    news_neat_trees end w n = tt
    news_neat_trees (item t ts) w n = joined (walk short t w) (walk_trees short ts (w ++ firsts (walk short t w))) (news_neat t w n.0) (news_neat_trees ts (w ++ firsts (walk short t w)) n.1)

    news_neat_pairs : (ps : Pairs) (w : List Tree) → ArePairsArranged ps → AllNeat (firsts (walk_pairs short ps w))
    news_neat_pairs done w n = tt
    news_neat_pairs (entry k v ps) w n =
        let u : List Tree = w ++ firsts (walk short k w) in
        let s : List Tree = u ++ firsts (walk short v u) in
        joined (walk short k w) (walk short v u ++ walk_pairs short ps s) (news_neat k w n.0)
        (joined (walk short v u) (walk_pairs short ps s) (news_neat v u n.1) (news_neat_pairs ps s n.3))

  -- two parts of a walk, one after the other
  parts : (p q : List Place) → AllAnchored (agains (p ++ q)) → AllAnchored (agains p) × AllAnchored (agains q)
  parts p q g = all-append (is_anchored repeated) (agains p) (agains q) (rw (agains-append p q) at g)

  both : (e : Table) (w : List Tree) (p q : List Place) → (e ++ table_of w (firsts p)) ++ table_of (w ++ firsts p) (firsts q) ≡ e ++ table_of w (firsts (p ++ q))
  both e w p q = append_assoc e (table_of w (firsts p)) (table_of (w ++ firsts p) (firsts q)) ∙ ap (λ z. e ++ z) (sym (table_of-append w (firsts p) (firsts q)) ∙ ap (table_of w) (sym (firsts-append p q)))

  both3 : (e : Table) (w : List Tree) (p q r : List Place)
      → ((e ++ table_of w (firsts p)) ++ table_of (w ++ firsts p) (firsts q)) ++ table_of ((w ++ firsts p) ++ firsts q) (firsts r) ≡ e ++ table_of w (firsts (p ++ (q ++ r)))
  both3 e w p q r = both (e ++ table_of w (firsts p)) (w ++ firsts p) q r ∙ both e w p (q ++ r)

  mutual
    unfolding walk serialize unfold_node

    pub unfold_tree : (t : Tree) (w : List Tree) (e : Table) (at : ℕ) → IsArranged t → Resolves t → AllNeat w → Known (suc (height t)) 0 (anchored repeated w) e → AllAnchored (agains (walk short t w))
        → unfold_node (serialize short repeated t w) e at ≡ Ok (t, e ++ table_of w (firsts (walk short t w)))
    unfold_tree (scalar a x) w e at n c m k g =
        visit (scalar a x) w e at n m k (is_again short (scalar a x) w) refl (scalar_at (anchor_of repeated (scalar a x) w) (written_tag 0 a) double x) [] g
        (λ i. ap (λ z. and_then {Y = Tree × Table} (placed at z) (λ r. Ok (scalar r.0 r.1, closed (anchor_of repeated (scalar a x) w) (length e) (scalar r.0 r.1) (opened (anchor_of repeated (scalar a x) w) e)))) c
        ∙ finish (λ (z : Unit {0}). scalar a x) tt w e [] (λ f. Ok (tt, f)) k (λ f l. ap (λ z. Ok (tt, z)) (sym (append-nil f))))
    unfold_tree (sequence a ts) w e at n c m k g =
        let u : List Tree = w ++ (sequence a ts ∷ []) in
        let o = anchor_of repeated (sequence a ts) w in
        visit (sequence a ts) w e at n m k (is_again short (sequence a ts) w) refl (sequence_at o (written_tag 1 a) true (serialize_all short repeated ts u)) (walk_trees short ts u) g
        (λ i. ap (λ z. and_then {Y = Tree × Table} (placed at z) (λ h. and_then (unfold_all (serialize_all short repeated ts u) (opened o e) (suc at)) (λ r. Ok (sequence h r.0, closed o (length e) (sequence h r.0) r.1)))) c.0
        ∙ finish (sequence a) ts w e (firsts (walk_trees short ts u)) (λ f. unfold_all (serialize_all short repeated ts u) f (suc at)) k
        (λ f l. unfold_trees ts u f (suc at) n c.1 (AllNeat-append w (sequence a ts ∷ []) m (n, tt)) l i))
    unfold_tree (mapping a ps) w e at n c m k g =
        let u : List Tree = w ++ (mapping a ps ∷ []) in
        let o = anchor_of repeated (mapping a ps) w in
        visit (mapping a ps) w e at n m k (is_again short (mapping a ps) w) refl (mapping_at o (written_tag 2 a) true (serialize_pairs short repeated ps u)) (walk_pairs short ps u) g
        (λ i. ap (λ z. and_then {Y = Tree × Table} (placed at z) (λ h. and_then (unfold_pairs (serialize_pairs short repeated ps u) (opened o e) (suc at)) (λ r. Ok (mapping h r.0, closed o (length e) (mapping h r.0) r.1)))) c.0
        ∙ finish (mapping a) ps w e (firsts (walk_pairs short ps u)) (λ f. unfold_pairs (serialize_pairs short repeated ps u) f (suc at)) k
        (λ f l. unfold_entries ps u f (suc at) n c.1 (AllNeat-append w (mapping a ps ∷ []) m (n, tt)) l i))

    unfold_trees : (ts : Trees) (w : List Tree) (e : Table) (at : ℕ) → AreArranged ts → ResolvesAll ts → AllNeat w → Known (heights ts) 0 (anchored repeated w) e → AllAnchored (agains (walk_trees short ts w))
        → unfold_all (serialize_all short repeated ts w) e at ≡ Ok (ts, e ++ table_of w (firsts (walk_trees short ts w)))
    unfold_trees end w e at n c m k g = ap (λ z. Ok (end, z)) (sym (append-nil e))
    unfold_trees (item t ts) w e at n c m k g =
        let p : List Place = walk short t w in
        let u : List Tree = w ++ firsts p in
        let q : List Place = walk_trees short ts u in
        let h = parts p q g in
        let i = unfold_tree t w e at n.0 c.0 m (Known-less (max (suc (height t)) (heights ts)) (suc (height t)) 0 (anchored repeated w) e (omega arith) k) h.0 in
        let l = after (heights ts) w e (firsts p) (Known-less (max (suc (height t)) (heights ts)) (heights ts) 0 (anchored repeated w) e (omega arith) k) in
        let j = unfold_trees ts u (e ++ table_of w (firsts p)) (at + event_count (serialize short repeated t w)) n.1 c.1 (AllNeat-append w (firsts p) m (news_neat t w n.0)) l h.1 in
        rw (i, j) (ap (λ z. Ok (item t ts, z)) (both e w p q))

    unfold_entries : (ps : Pairs) (w : List Tree) (e : Table) (at : ℕ) → ArePairsArranged ps → ResolvesPairs ps → AllNeat w → Known (heights_of_pairs ps) 0 (anchored repeated w) e → AllAnchored (agains (walk_pairs short ps w))
        → unfold_pairs (serialize_pairs short repeated ps w) e at ≡ Ok (ps, e ++ table_of w (firsts (walk_pairs short ps w)))
    unfold_entries done w e at n c m k g = ap (λ z. Ok (done, z)) (sym (append-nil e))
    unfold_entries (entry x v ps) w e at n c m k g =
        let p : List Place = walk short x w in
        let u : List Tree = w ++ firsts p in
        let q : List Place = walk short v u in
        let s : List Tree = u ++ firsts q in
        let r : List Place = walk_pairs short ps s in
        let h = parts p (q ++ r) g in
        let hh = parts q r h.1 in
        let top : ℕ = heights_of_pairs (entry x v ps) in
        let f : Table = e ++ table_of w (firsts p) in
        let b : ℕ = at + event_count (serialize short repeated x w) in
        let i = unfold_tree x w e at n.0 c.0 m (Known-less top (suc (height x)) 0 (anchored repeated w) e (omega arith) k) h.0 in
        let l = after top w e (firsts p) k in
        let mu = AllNeat-append w (firsts p) m (news_neat x w n.0) in
        let j = unfold_tree v u f b n.1 c.1 mu (Known-less top (suc (height v)) 0 (anchored repeated u) f (omega arith) l) hh.0 in
        let ll = after (heights_of_pairs ps) u f (firsts q) (Known-less top (heights_of_pairs ps) 0 (anchored repeated u) f (omega arith) l) in
        let o = unfold_entries ps s (f ++ table_of u (firsts q)) (b + event_count (serialize short repeated v u)) n.3 c.2 (AllNeat-append u (firsts q) mu (news_neat v u n.1)) ll hh.1 in
        rw (i, j, o) (ap (λ z. Ok (entry x v ps, z)) (both3 e w p q r))

-- ---- whole documents

abbrev marks_of : (Tree → Bool) → Tree → SerialNode
marks_of short t = serialize short (agains (walk short t [])) t []

all-themselves : (xs ys : List Tree) → ((x : Tree) → list_any (same x) ys ≡ true → list_any (same x) xs ≡ true) → list_all (is_anchored xs) ys ≡ true
all-themselves xs [] h = refl
all-themselves xs (y ∷ ys) h = both_and (is_anchored xs y) (list_all (is_anchored xs) ys) (h y (or_left (same y y) (list_any (same y) ys) (same-refl y)))
    (all-themselves xs ys (λ x i. h x (or_right (same x y) (list_any (same x) ys) i)))

pub marks_unfold : (short : Tree → Bool) (t : Tree) (at : ℕ) → IsArranged t → Resolves t
    → unfold_node (marks_of short t) [] at ≡ Ok (t, rows 0 (anchored (agains (walk short t [])) (firsts (walk short t []))))
marks_unfold short t at n c = unfold_tree short (agains (walk short t [])) t [] [] at n c tt tt (all-themselves (agains (walk short t [])) (agains (walk short t [])) (λ x i. i))

found_first : {X Y E : Type 0} (x y : X) (z w : Y) → ◌≡◌ {A = Result (X × Y) E} (Ok (x, z)) (Ok (y, w)) → x ≡ y
found_first {X} {Y} x y z w e = let q : ◌≡◌ {A = X × Y} (x, z) (y, w) = cc in ap (λ p. p.0) q

-- neat trees with the same marks are one
pub marks_one : (short : Tree → Bool) (t u : Tree) → IsArranged t → IsArranged u → Resolves t → Resolves u → marks_of short t ≡ marks_of short u → t ≡ u
marks_one short t u n m c d e =
    let a = marks_unfold short t 0 n c in
    let b = marks_unfold short u 0 m d in
    found_first t u _ _ (sym a ∙ (ap (λ z. unfold_node z [] 0) e ∙ b))
