-- Of the nodes that a walk writes out, those that are not short are never the same.
use Rattle.std.proofs.Common.{◌≡◌, ℕ, ◌≤◌, Bool, true, false, not, cond, ◌&&◌, ◌⊎◌, inl, inr, List, [], ◌∷◌, ◌++◌, refl, sym, ◌∙◌, ap, subst}
use Rattle.std.specs.List.{list_any}
use Rattle.yaml_definitions.specs.model.Tree.{Tree, Trees, Pairs, scalar, sequence, mapping, end, item, done, entry}
use Rattle.yaml_definitions.specs.model.Same.{same}
use Rattle.yaml_definitions.specs.canonical.Walk.{Place, first, again, firsts, is_again, walk, walk_trees, walk_pairs}
use Rattle.yaml_definitions.proofs.Members.{or_left, or_right}
use Rattle.yaml_definitions.proofs.Equivalence.{same_refl}
use Rattle.law_length.proofs.Sums.{Among, Apart, AllAmong, total, total-among, among_left, among_right, among_either, apart_join}

same_any : (t : Tree) (l : List Tree) → Among t l → list_any (same t) l ≡ true
same_any t [] i = absurd i
same_any t (u ∷ l) (inl e) = or_left (same t u) (list_any (same t) l) (subst (λ z. same t z ≡ true) e (same_refl t))
same_any t (u ∷ l) (inr i) = or_right (same t u) (list_any (same t) l) (same_any t l i)

-- the tree and all trees inside it stand in the list
abbrev mutual
  pub Inside : List Tree → Tree → Type 0
  Inside s (scalar g x) = Among (scalar g x) s
  Inside s (sequence g ts) = Among (sequence g ts) s × InsideAll s ts
  Inside s (mapping g ps) = Among (mapping g ps) s × InsidePairs s ps

  pub InsideAll : List Tree → Trees → Type 0
  InsideAll s end = Unit {0}
  InsideAll s (item t ts) = Inside s t × InsideAll s ts

  pub InsidePairs : List Tree → Pairs → Type 0
  InsidePairs s done = Unit {0}
  InsidePairs s (entry k v ps) = Inside s k × Inside s v × InsidePairs s ps

module _ (short : Tree → Bool) where
  -- those written out that are not short
  unfoldable pub longs : List Place → List Tree
  longs [] = []
  longs (first t ∷ w) = cond (short t) (longs w) (t ∷ longs w)
  longs (again t ∷ w) = longs w

  pub nothing : longs [] ≡ []
  unfolding longs
  nothing = refl

  pub longs_join : (v w : List Place) → longs (v ++ w) ≡ longs v ++ longs w
  unfolding longs
  longs_join [] w = refl
  longs_join (first t ∷ v) w = elim (short t) as (λ b. cond b (longs (v ++ w)) (t ∷ longs (v ++ w)) ≡ cond b (longs v) (t ∷ longs v) ++ longs w) [ true ↦ longs_join v w | false ↦ ap (λ z. t ∷ z) (longs_join v w) ]
  longs_join (again t ∷ v) w = longs_join v w

  long_first : (t u : Tree) (v : List Tree) (F : Type 0) (b : Bool) → (Among t v → F) → Among t (cond b v (u ∷ v)) → (t ≡ u) ⊎ F
  long_first t u v F true k j = inr (k j)
  long_first t u v F false k (inl e) = inl e
  long_first t u v F false k (inr j) = inr (k j)

  pub longs_firsts : (w : List Place) (t : Tree) → Among t (longs w) → Among t (firsts w)
  unfolding longs
  longs_firsts [] t i = i
  longs_firsts (first u ∷ w) t i = long_first t u (longs w) (Among t (firsts w)) (short u) (λ j. longs_firsts w t j) i
  longs_firsts (again u ∷ w) t i = longs_firsts w t i

  -- ---- what is written out and not short, is new

  -- none of these stood before, and no two are one
  pub record New (before l : List Tree) : Type 0 where
    pub apart : Apart l
    pub new : (t : Tree) → Among t l → Among t before → ⊥

  none_new : (before : List Tree) → New before []
  none_new before = record { apart = tt; new = λ t i j. i }

  join_new : (before : List Tree) (v w : List Place) → New before (longs v) → New (before ++ firsts v) (longs w) → New before (longs (v ++ w))
  join_new before v w a b = subst (New before) (sym (longs_join v w)) (record {
    apart = apart_join (longs v) (longs w) a.apart b.apart (λ t i j. b.new t j (among_right t before (firsts v) (longs_firsts v t i)));
    new = λ t i j. elim (among_either t (longs v) (longs w) i) [ inl k ↦ a.new t k j | inr k ↦ b.new t k (among_left t before (firsts v) j) ];
  })

  pub longs_here : (t : Tree) (w : List Place) (b : Bool) → longs (cond b (again t ∷ []) (first t ∷ w)) ≡ cond b [] (cond (short t) (longs w) (t ∷ longs w))
  unfolding longs
  longs_here t w true = refl
  longs_here t w false = refl

  new_by : (t : Tree) (before l : List Tree) → New (before ++ (t ∷ [])) l → (s a : Bool) → list_any (same t) before ≡ a → New before (cond (not s && a) [] (cond s l (t ∷ l)))
  new_by t before l h true a e = record { apart = h.apart; new = λ u i j. h.new u i (among_left u before (t ∷ []) j) }
  new_by t before l h false true e = none_new before
  new_by t before l h false false e = record {
    apart = (λ i. h.new t i (among_right t before (t ∷ []) (inl refl)), h.apart);
    new = λ u i j. elim i [
      | inl q ↦ absurd (let x : true ≡ false = sym (same_any t before (subst (λ z. Among z before) q j)) ∙ e in cc)
      | inr k ↦ h.new u k (among_left u before (t ∷ []) j)
    ];
  }

  -- a node: again, short, or new itself
  here_new : (t : Tree) (before : List Tree) (w : List Place) → New (before ++ (t ∷ [])) (longs w) → New before (longs (cond (is_again short t before) (again t ∷ []) (first t ∷ w)))
  here_new t before w h = subst (New before) (sym (longs_here t w (is_again short t before))) (new_by t before (longs w) h (short t) (list_any (same t) before) refl)

  mutual
    unfolding walk

    pub walk_new : (t : Tree) (before : List Tree) → New before (longs (walk short t before))
    walk_new (scalar g x) before = here_new (scalar g x) before [] (subst (New (before ++ (scalar g x ∷ []))) (sym nothing) (none_new (before ++ (scalar g x ∷ []))))
    walk_new (sequence g ts) before = here_new (sequence g ts) before (walk_trees short ts (before ++ (sequence g ts ∷ []))) (trees_new ts (before ++ (sequence g ts ∷ [])))
    walk_new (mapping g ps) before = here_new (mapping g ps) before (walk_pairs short ps (before ++ (mapping g ps ∷ []))) (pairs_new ps (before ++ (mapping g ps ∷ [])))

    trees_new : (ts : Trees) (before : List Tree) → New before (longs (walk_trees short ts before))
    trees_new end before = subst (New before) (sym nothing) (none_new before)
    trees_new (item t ts) before = join_new before (walk short t before) (walk_trees short ts (before ++ firsts (walk short t before))) (walk_new t before) (trees_new ts (before ++ firsts (walk short t before)))

    pairs_new : (ps : Pairs) (before : List Tree) → New before (longs (walk_pairs short ps before))
    pairs_new done before = subst (New before) (sym nothing) (none_new before)
    pairs_new (entry k v ps) before =
        let after_key = before ++ firsts (walk short k before) in
        let after_both = after_key ++ firsts (walk short v after_key) in
        join_new before (walk short k before) (walk short v after_key ++ walk_pairs short ps after_both) (walk_new k before)
        (join_new after_key (walk short v after_key) (walk_pairs short ps after_both) (walk_new v after_key) (pairs_new ps after_both))

  -- ---- what is written out stands inside

  join_inside : (s : List Tree) (v w : List Place) → AllAmong (longs v) s → AllAmong (longs w) s → AllAmong (longs (v ++ w)) s
  join_inside s v w a b t i = elim (among_either t (longs v) (longs w) (subst (Among t) (longs_join v w) i)) [ inl j ↦ a t j | inr j ↦ b t j ]

  inside_by : (s : List Tree) (t : Tree) (l : List Tree) → Among t s → AllAmong l s → (a b : Bool) → AllAmong (cond a [] (cond b l (t ∷ l))) s
  inside_by s t l m h true b u i = absurd i
  inside_by s t l m h false true u i = h u i
  inside_by s t l m h false false u (inl e) = subst (λ z. Among z s) (sym e) m
  inside_by s t l m h false false u (inr i) = h u i

  here_inside : (s : List Tree) (t : Tree) (w : List Place) (b : Bool) → Among t s → AllAmong (longs w) s → AllAmong (longs (cond b (again t ∷ []) (first t ∷ w))) s
  here_inside s t w b m h = subst (λ z. AllAmong z s) (sym (longs_here t w b)) (inside_by s t (longs w) m h b (short t))

  none_inside : (s : List Tree) → AllAmong (longs []) s
  none_inside s t i = absurd (subst (Among t) nothing i)

  mutual
    unfolding walk

    pub walk_inside : (s : List Tree) (t : Tree) (before : List Tree) → Inside s t → AllAmong (longs (walk short t before)) s
    walk_inside s (scalar g x) before h = here_inside s (scalar g x) [] (is_again short (scalar g x) before) h (none_inside s)
    walk_inside s (sequence g ts) before h =
        here_inside s (sequence g ts) (walk_trees short ts (before ++ (sequence g ts ∷ []))) (is_again short (sequence g ts) before) h.0 (trees_inside s ts (before ++ (sequence g ts ∷ [])) h.1)
    walk_inside s (mapping g ps) before h =
        here_inside s (mapping g ps) (walk_pairs short ps (before ++ (mapping g ps ∷ []))) (is_again short (mapping g ps) before) h.0 (pairs_inside s ps (before ++ (mapping g ps ∷ [])) h.1)

    trees_inside : (s : List Tree) (ts : Trees) (before : List Tree) → InsideAll s ts → AllAmong (longs (walk_trees short ts before)) s
    trees_inside s end before h = none_inside s
    trees_inside s (item t ts) before h =
        join_inside s (walk short t before) (walk_trees short ts (before ++ firsts (walk short t before))) (walk_inside s t before h.0) (trees_inside s ts (before ++ firsts (walk short t before)) h.1)

    pairs_inside : (s : List Tree) (ps : Pairs) (before : List Tree) → InsidePairs s ps → AllAmong (longs (walk_pairs short ps before)) s
    pairs_inside s done before h = none_inside s
    pairs_inside s (entry k v ps) before h =
        let after_key = before ++ firsts (walk short k before) in
        let after_both = after_key ++ firsts (walk short v after_key) in
        join_inside s (walk short k before) (walk short v after_key ++ walk_pairs short ps after_both) (walk_inside s k before h.0)
        (join_inside s (walk short v after_key) (walk_pairs short ps after_both) (walk_inside s v after_key h.1) (pairs_inside s ps after_both h.2))

-- What a walk writes out and is not short weighs no more than a list in which the tree and all inside it stand.
pub walk_weight : (short : Tree → Bool) (w : Tree → ℕ) (s : List Tree) (t : Tree) → Inside s t → total w (longs short (walk short t [])) ≤ total w s
walk_weight short w s t h = total-among w (longs short (walk short t [])) s (walk_new short t []).apart (walk_inside short s t [] h)
