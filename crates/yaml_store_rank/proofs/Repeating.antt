-- The first node with two equal keys.
use Rattle.std.proofs.Common.{◌≡◌, ℕ, ◌<◌, ◌≤◌, true, List, [], length, map, get_or, slice_index, refl, sym, ◌∙◌, ap, subst, arith}
use Rattle.std.specs.Prelude.{Some}
use Rattle.std.specs.List.{slice_get, All}
use Rattle.std.specs.declared.cmp.Ordering.TheVariants.{Equal}
use Rattle.std.specs.Ordering.{nat_cmp}
use Rattle.std.proofs.lemmas.Cmp.{nat_cmp_total, tied_itself}
use Rattle.std.proofs.lemmas.List.{length-map}
use Rattle.std.proofs.lemmas.Option.{get_or_from_slice_get}
use Rattle.yaml_definitions.specs.model.Tree.{height}
use Rattle.yaml_definitions.specs.model.Order.{tree_cmp, arranged}
use Rattle.yaml_definitions.specs.model.Same.{Same, keyed}
use Rattle.yaml_definitions.proofs.OrderLaws.{tree_cmp-total, tree_same}
use Rattle.yaml_definitions.proofs.SameLaws.{same_to, same_from}
use Rattle.yaml_tree.specs.Levels.{Levels, level_of, LevelsBy}
use Rattle.yaml_tree.specs.Places.{IsFirstEqual}
use Rattle.yaml_tree.specs.View.{View, Inside, content, items, entries, entries_in, inside_tree, InsideBelow, Lower, Ranks, IsFirst}
use Rattle.yaml_tree.proofs.Lists.{get_or-map, take-get}
use Rattle.yaml_tree.proofs.Numbers.{equal-cmp}
use Rattle.yaml_tree.proofs.Numbering.{get-there, get-within}
use Rattle.yaml_tree.proofs.ViewLaws.{first-one}
use Rattle.yaml_store.specs.declared.nodes.Node.{Node}
use Rattle.yaml_store.specs.declared.nodes.Place.{Place}
use Rattle.yaml_store.specs.declared.nodes.Place.TheVariants.{Scalar, Sequence, Mapping}
use Rattle.yaml_text.specs.declared.fault.Fault.{Fault}
use Rattle.yaml_text.specs.declared.fault.Fault.TheVariants.{EqualKeys, OutOfMemory}
use Rattle.yaml_store.specs.StoreModel.{place_of, height_at, inside_of}
use Rattle.yaml_store_rank.specs.PartsModel.{PartsRanked, key_ranks, LevelEquals, RefusesLevel}
use Rattle.yaml_store_rank.specs.Ranking.{Stored}
use Rattle.yaml_store_rank.specs.Refused.{FirstRepeats, RefusesView}
use Rattle.yaml_store_rank.proofs.NodeLaws.{pairs-all, node-fitted}
use Rattle.yaml_store_rank.proofs.Standing.{Standing, is-level, node-of}

-- ---- keys of one rank are equal keys

module _ (v : View) (rank : ℕ → ℕ) (h : ℕ) (right : Ranks v rank h) where
  rank-same : (i j : ℕ) → Lower v h i → Lower v h j → rank i ≡ rank j → Same (v.tree i) (v.tree j)
  rank-same i j a b e = same_from (v.tree i) (v.tree j) (tree_same (arranged (v.tree i)) (arranged (v.tree j)) (sym (right.agrees i j a b) ∙ subst (λ z. nat_cmp (rank i) z ≡ Equal) e (tied_itself nat_cmp_total (rank i))))

  same-rank : (i j : ℕ) → Lower v h i → Lower v h j → Same (v.tree i) (v.tree j) → rank i ≡ rank j
  same-rank i j a b e =
      let q = same_to (v.tree i) (v.tree j) (right.keyed i a) (right.keyed j b) e in
      equal-cmp (rank i) (rank j) (right.agrees i j a b ∙ subst (λ z. tree_cmp (arranged (v.tree i)) z ≡ Equal) q (tied_itself tree_cmp-total (arranged (v.tree i))))

  module _ (m : ℕ) (within : m < v.count) (low : height (v.tree m) ≤ h) where
    abbrev parts : List (ℕ × ℕ)
    parts = entries_in (v.inside m)

    -- keys and values are lower than their mapping
    parts-lower : All (λ p. Lower v h p.0 × Lower v h p.1) parts
    parts-lower = by (v.inside m) (v.made m within) (v.below m within)
      where
        by : (inside : Inside) → v.tree m ≡ inside_tree v.tree (v.tag m) inside → InsideBelow m inside → All (λ p. Lower v h p.0 × Lower v h p.1) (entries_in inside)
        by (content x) e b k d l = absurd (omega arith)
        by (items is) e b k d l = absurd (omega arith)
        by (entries es) e b k d l = pairs-all v rank h right m es within b.1 (let f = ap height e in omega arith) k d l

    rank-at : (i : ℕ) → i < length parts → slice_index (key_ranks rank (v.inside m)) i ≡ rank (get_or parts i (0, 0)).0
    rank-at i l = get_or-map (λ p. rank p.0) parts i (0, 0) 0 l

    pub first-repeats : (first second : ℕ) → IsFirstEqual (key_ranks rank (v.inside m)) first second → FirstRepeats v m first second
    first-repeats first second q =
        let long = length-map parts (λ p. rank p.0) in
        let w : second < length parts = omega (arith, q.within) in
        let u : first < length parts = omega (arith, q.in_order) in
        record {
          is = record {
            within = within;
            in_order = q.in_order;
            earlier = get_or parts first (0, 0);
            later = get_or parts second (0, 0);
            earlier_is = get-there parts first (0, 0) u;
            later_is = get-there parts second (0, 0) w;
            equal = rank-same (get_or parts first (0, 0)).0 (get_or parts second (0, 0)).0 (parts-lower first (0, 0) u).0 (parts-lower second (0, 0) w).0 (sym (rank-at first u) ∙ (q.equal ∙ rank-at second w));
          };
          before = λ f s e.
              let a = get-within parts f e.earlier e.earlier_is in
              let b = get-within parts s e.later e.later_is in
              let x : get_or parts f (0, 0) ≡ e.earlier = get_or_from_slice_get parts f e.earlier (0, 0) e.earlier_is in
              let y : get_or parts s (0, 0) ≡ e.later = get_or_from_slice_get parts s e.later (0, 0) e.later_is in
              let same : Same (v.tree (get_or parts f (0, 0)).0) (v.tree (get_or parts s (0, 0)).0) = subst (λ (z : ℕ × ℕ). Same (v.tree z.0) (v.tree (get_or parts s (0, 0)).0)) (sym x) (subst (λ (z : ℕ × ℕ). Same (v.tree e.earlier.0) (v.tree z.0)) (sym y) e.equal) in
              let r = same-rank (get_or parts f (0, 0)).0 (get_or parts s (0, 0)).0 (parts-lower f (0, 0) a).0 (parts-lower s (0, 0) b).0 same in
              q.before f s e.in_order (omega arith) (rank-at f a ∙ (r ∙ sym (rank-at s b)));
        }

-- ---- a level that repeats a key

entries-alone : (text is : List ℕ) (es : List (ℕ × ℕ)) (place : Place) → entries_in (inside_of [] is es place) ≡ entries_in (inside_of text is es place)
entries-alone text is es (Scalar s) = refl
entries-alone text is es (Sequence s) = refl
entries-alone text is es (Mapping s) = refl

module _ (v : View) (nodes : List Node) (text olds : List ℕ) (pairs : List (ℕ × ℕ)) (places : List ℕ) (store : Stored v nodes text olds pairs places) (levels : Levels) (are : LevelsBy (height_at nodes) (length nodes) levels) (high : ℕ) (level : List ℕ) (level-is : level ≡ level_of levels high)
    (is : List ℕ) (es : List (ℕ × ℕ)) (ranks first : List ℕ) (before : Standing v nodes text olds pairs is es ranks first high) where
  abbrev R : ℕ → ℕ
  R = slice_index ranks

  node-high : (k i : ℕ) → slice_get level k ≡ Some i → (i < v.count) × (height (v.tree i) ≡ high)
  node-high = (is-level v nodes text olds pairs places store levels are high level level-is).sound

  module _ (node one two : ℕ) (t : LevelEquals R nodes level is es node one two) where
    keyed-before : (j i : ℕ) → j < t.place → slice_get level j ≡ Some i → keyed (v.tree i) ≡ true
    keyed-before j i l a =
        let n = node-high j i a in
        let s = node-of v nodes text olds pairs places store i n.0 in
        let here : PartsRanked R (inside_of text is es (place_of s.0)) (inside_of text t.js t.fs (place_of s.0)) = t.before.here text j i s.0 (take-get level t.place j i l a) s.1 in
        (node-fitted v R high before.stands.settled i n.0 (let q = n.1 in omega arith) (inside_of text t.js t.fs (place_of s.0))
        (subst (λ z. PartsRanked R z (inside_of text t.js t.fs (place_of s.0))) (before.left i s.0 s.1 (let q = n.1 in omega arith)) here)).0

    level-equals : FirstRepeats v node one two × IsFirst v node
    level-equals =
        let n = node-high t.place node t.stands in
        let whole : entries_in (inside_of [] is es (place_of t.stored)) ≡ entries_in (v.inside node) = entries-alone text is es (place_of t.stored) ∙ ap entries_in (before.left node t.stored t.stored_is (let q = n.1 in omega arith)) in (
          first-repeats v R high before.stands.settled node n.0 (let q = n.1 in omega arith) one two (subst (λ z. IsFirstEqual (map (λ p. R p.0) z) one two) whole t.equal),
          first-one v high level (is-level v nodes text olds pairs places store levels are high level level-is) R (length first) before.stands node one two (record { place = t.place; is = t.stands; before = keyed-before }),
        )

  pub level-refused : (fault : Fault) → RefusesLevel R nodes level is es fault → RefusesView v fault
  level-refused (EqualKeys node first second) t = level-equals node first second t
  level-refused OutOfMemory t = tt
  level-refused _ t = absurd t
