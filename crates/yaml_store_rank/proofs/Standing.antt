-- The ranks after some levels.
use Rattle.std.proofs.Common.{◌≡◌, inl, inr, ℕ, zero, suc, ◌+◌, ◌<◌, ◌≤◌, true, List, [], ◌∷◌, length, map, get_or, slice_index, refl, sym, ◌∙◌, ap, subst, arith}
use Rattle.std.specs.Prelude.{Some}
use Rattle.std.specs.List.{slice_get, All}
use Rattle.std.specs.List.Sorted.{IsPermutation}
use Rattle.std.specs.Ordering.{nat_cmp}
use Rattle.yaml_definitions.specs.model.Tree.{Tree, height}
use Rattle.yaml_definitions.specs.model.Order.{tree_cmp, arranged}
use Rattle.yaml_definitions.proofs.MeansLaws.{height_arranged}
use Rattle.yaml_tree.specs.Levels.{Levels, level_of, LevelsBy}
use Rattle.yaml_tree.specs.Numbered.{AgreeBy}
use Rattle.yaml_tree.specs.View.{View, Inside, content, items, entries, InsideBelow, Lower, Ranks, IsLevel, LevelDone, Stands}
use Rattle.yaml_tree.proofs.Numbers.{below_or}
use Rattle.yaml_tree.proofs.Numbering.{get-there, get-within, one-there}
use Rattle.yaml_tree.proofs.Lists.{get-some}
use Rattle.yaml_tree.proofs.ViewLaws.{here-or, stands-more, stands-none, all-ranked}
use Rattle.yaml_store.specs.declared.nodes.Node.{Node}
use Rattle.yaml_store.specs.declared.nodes.Place.{Place}
use Rattle.yaml_store.specs.declared.nodes.Place.TheVariants.{Scalar, Sequence, Mapping}
use Rattle.yaml_store.specs.StoreModel.{place_of, height_at, node_height, inside_of, Within, NodesWithin, PartsWithin}
use Rattle.yaml_store_rank.specs.KeyModel.{key_cmp, RanksFit}
use Rattle.yaml_store_rank.specs.PartsModel.{two_ranks, PartsRanked, Rising, LevelBelow, LevelSettled}
use Rattle.yaml_store_rank.specs.LevelModel.{InOrder, LevelFits, LevelNumbered}
use Rattle.yaml_store_rank.specs.Ranking.{Stored, AllRanked}
use Rattle.yaml_store_rank.proofs.NodeLaws.{LowItems, LowPairs, Fitted, items-low, pairs-all, pairs-low, node-fitted, ranks-fit}
use Rattle.yaml_store_rank.proofs.KeyLaws.{key-order}

-- The nodes lower than `high` are ranked and their parts overwritten; the parts of the others stand as they did.
pub record Standing (v : View) (nodes : List Node) (text olds : List ℕ) (pairs : List (ℕ × ℕ)) (is : List ℕ) (es : List (ℕ × ℕ)) (ranks first : List ℕ) (high : ℕ) : Type 0 where
  pub long : length ranks ≡ length nodes
  pub wide : length is ≡ length olds
  pub wider : length es ≡ length pairs
  pub few : length first < 4294967296
  pub stands : Stands v (slice_index ranks) high (length first)
  pub firsts : (r i : ℕ) → slice_get first r ≡ Some i → Lower v high i × (slice_index ranks i ≡ r)
  pub done : (i : ℕ) (s : Node) → slice_get nodes i ≡ Some s → height (v.tree i) < high → PartsRanked (slice_index ranks) (v.inside i) (inside_of text is es (place_of s))
  pub left : (i : ℕ) (s : Node) → slice_get nodes i ≡ Some s → high ≤ height (v.tree i) → inside_of text is es (place_of s) ≡ v.inside i

-- ---- parts, whatever the text

below-more : (m n : ℕ) (inside : Inside) → m ≤ n → InsideBelow m inside → InsideBelow n inside
below-more m n inside l b = (λ k d o. let a = b.0 k d o in omega arith, λ k d o. let a = b.1 k d o in let x = a.0 in let y = a.1 in (omega arith, omega arith))

textless : (n : ℕ) (text is : List ℕ) (es : List (ℕ × ℕ)) (place : Place) → InsideBelow n (inside_of text is es place) → InsideBelow n (inside_of [] is es place)
textless n text is es (Scalar s) b = b
textless n text is es (Sequence s) b = b
textless n text is es (Mapping s) b = b

pub parts-within : (text is : ℕ) (es : ℕ) (place : Place) → Within text is es place → PartsWithin is es place
parts-within text is es (Scalar s) w = tt
parts-within text is es (Sequence s) w = w
parts-within text is es (Mapping s) w = w

-- ---- ranks that stay where they are told

module _ (v : View) (rank new : ℕ → ℕ) (h : ℕ) (right : Ranks v rank h) (same : (i : ℕ) → Lower v h i → new i ≡ rank i) where
  items-still : (is : List ℕ) → LowItems v rank h right is → map new is ≡ map rank is
  items-still [] a = refl
  items-still (i ∷ is) a = λ z. same i a.0 z ∷ items-still is a.1 z

  entries-still : (es : List (ℕ × ℕ)) → LowPairs v rank h right es → map (two_ranks new) es ≡ map (two_ranks rank) es
  entries-still [] a = refl
  entries-still (p ∷ es) a = λ z. (same p.0 a.0.0 z, same p.1 a.0.1 z) ∷ entries-still es a.1 z

  pub parts-still : (i : ℕ) → i < v.count → height (v.tree i) ≤ h → (inside : Inside) → PartsRanked rank (v.inside i) inside → PartsRanked new (v.inside i) inside
  parts-still i within low inside p = by (v.inside i) inside (v.made i within) (v.below i within) p
    where
      by : (old made : Inside) → v.tree i ≡ Rattle.yaml_tree.specs.View.inside_tree v.tree (v.tag i) old → InsideBelow i old → PartsRanked rank old made → PartsRanked new old made
      by (content x) (content y) e b p = p
      by (items is) (items rs) e b p = p ∙ sym (items-still is (items-low v rank h right i is within b.0 (let f = ap height e in omega arith)))
      by (entries es) (entries rs) e b p = (subst (λ z. IsPermutation z rs) (sym (entries-still es (pairs-low v rank h right es (pairs-all v rank h right i es within b.1 (let f = ap height e in omega arith))))) p.0, p.1)
      by (content x) (items rs) e b p = p
      by (content x) (entries rs) e b p = p
      by (items is) (content y) e b p = p
      by (items is) (entries rs) e b p = p
      by (entries es) (content y) e b p = p
      by (entries es) (items rs) e b p = p

module _ (v : View) (nodes : List Node) (text olds : List ℕ) (pairs : List (ℕ × ℕ)) (places : List ℕ) (store : Stored v nodes text olds pairs places) where
  pub node-of : (i : ℕ) → i < v.count → (s : Node) × (slice_get nodes i ≡ Some s)
  node-of i l = get-some nodes i (omega (arith, store.count))

  pub high-of : (i : ℕ) → i < v.count → height_at nodes i ≡ height (v.tree i)
  high-of i l = let s = node-of i l in ap node_height s.1 ∙ store.high i s.0 s.1

  module _ (levels : Levels) (are : LevelsBy (height_at nodes) (length nodes) levels) (high : ℕ) (level : List ℕ) (level-is : level ≡ level_of levels high) where
    level-node : (k i : ℕ) → slice_get level k ≡ Some i → (i < v.count) × (height (v.tree i) ≡ high)
    level-node k i e =
        let s = are.sound high k i (subst (λ z. slice_get z k ≡ Some i) level-is e) in
        let w : i < v.count = omega (arith, s.0, store.count) in
        (w, sym (high-of i w) ∙ s.1)

    pub is-level : IsLevel v high level
    is-level = record {
      sound = level-node;
      whole = λ i l e. let w = are.whole i (omega (arith, store.count)) in (w.0, subst (λ z. slice_get z w.0 ≡ Some i) (ap (level_of levels) (high-of i l ∙ e) ∙ sym level-is) w.1);
      rises = λ j k x y l a b. are.rises high j k x y l (subst (λ z. slice_get z j ≡ Some x) level-is a) (subst (λ z. slice_get z k ≡ Some y) level-is b);
    }

    pub level-numbers : All (λ i. i < length nodes) level
    level-numbers k d l = let n = (level-node k (get_or level k d) (get-there level k d l)).0 in omega (arith, store.count)

    pub level-rising : Rising level
    level-rising = is-level.rises

    module _ (is : List ℕ) (es : List (ℕ × ℕ)) (ranks first : List ℕ) (before : Standing v nodes text olds pairs is es ranks first high) where
      pub nodes-within : NodesWithin (length text) (length is) (length es) (length places) nodes
      nodes-within i s e = let w = store.within i s e in (subst (λ n. Within (length text) n (length es) (place_of s)) (sym before.wide) (subst (λ n. Within (length text) (length olds) n (place_of s)) (sym before.wider) w.0), w.1)

      pub all-parts-within : (i : ℕ) (s : Node) → slice_get nodes i ≡ Some s → PartsWithin (length is) (length es) (place_of s)
      all-parts-within i s e = parts-within (length text) (length is) (length es) (place_of s) (nodes-within i s e).0

      pub level-below : LevelBelow (length ranks) nodes level is es
      level-below k i s a e =
          let n = level-node k i a in
          let b = subst (InsideBelow i) (sym (before.left i s e (let q = n.1 in omega arith))) (v.below i n.0) in
          textless (length ranks) text is es (place_of s) (below-more i (length ranks) (inside_of text is es (place_of s)) (let q = n.0 in omega (arith, before.long, store.count)) b)

      module _ (js : List ℕ) (fs : List (ℕ × ℕ)) (settled : LevelSettled (slice_index ranks) nodes level is es js fs) where
        abbrev R : ℕ → ℕ
        R = slice_index ranks

        abbrev A : ℕ → Tree
        A i = arranged (v.tree i)

        right : Ranks v R high
        right = before.stands.settled

        parts-here : (k i : ℕ) (s : Node) → slice_get level k ≡ Some i → slice_get nodes i ≡ Some s → PartsRanked R (v.inside i) (inside_of text js fs (place_of s))
        parts-here k i s a e = subst (λ z. PartsRanked R z (inside_of text js fs (place_of s))) (before.left i s e (let q = (level-node k i a).1 in omega arith)) (settled.here text k i s a e)

        fitted : (k i : ℕ) (s : Node) → slice_get level k ≡ Some i → slice_get nodes i ≡ Some s → (Rattle.yaml_definitions.specs.model.Same.keyed (v.tree i) ≡ true) × Fitted v R high right (v.tag i) (inside_of text js fs (place_of s)) (A i)
        fitted k i s a e = let n = level-node k i a in node-fitted v R high right i n.0 (let q = n.1 in omega arith) (inside_of text js fs (place_of s)) (parts-here k i s a e)

        fit : (k i : ℕ) (s : Node) → slice_get level k ≡ Some i → slice_get nodes i ≡ Some s → RanksFit (inside_of text js fs (place_of s))
        fit k i s a e = ranks-fit v R high right (v.tag i) (inside_of text js fs (place_of s)) (A i) (λ j l. let b = before.stands.below j l in let c = before.few in omega arith) (fitted k i s a e).1

        pub level-fits : LevelFits nodes text js fs level
        level-fits = fit

        pub settled-within : NodesWithin (length text) (length js) (length fs) (length places) nodes
        settled-within i s e = let w = nodes-within i s e in (subst (λ n. Within (length text) n (length fs) (place_of s)) (sym settled.long) (subst (λ n. Within (length text) (length is) n (place_of s)) (sym settled.wide) w.0), w.1)

        module _ (next after : List ℕ) (num : LevelNumbered nodes text js fs places level ranks next first after) where
          abbrev N : ℕ → ℕ
          N = slice_index next

          agree : AgreeBy key_cmp A num.keys
          agree j k x y a b =
              let p = num.sorted.sound j x a in
              let q = num.sorted.sound k y b in
              let m = level-node p.0 x.1 p.1 in
              let n = level-node q.0 y.1 q.1 in
              let s = node-of x.1 m.0 in
              let t = node-of y.1 n.0 in
              key-order v R high right (slice_index places s.0.tag) (slice_index places t.0.tag) (v.tag x.1) (v.tag y.1) (inside_of text js fs (place_of s.0)) (inside_of text js fs (place_of t.0)) x.0 y.0 (A x.1) (A y.1)
              (store.placed x.1 y.1 s.0 t.0 s.1 t.1) (num.sorted.are j x s.0 a s.1) (num.sorted.are k y t.0 b t.1) (fitted p.0 x.1 s.0 p.1 s.1).1 (fitted q.0 y.1 t.0 q.1 t.1).1 (fit p.0 x.1 s.0 p.1 s.1) (fit q.0 y.1 t.0 q.1 t.1)
              (height_arranged (v.tree x.1) ∙ (m.1 ∙ (sym n.1 ∙ sym (height_arranged (v.tree y.1)))))

          order : InOrder A num.keys next first after
          order = num.numbered.in_order A agree num.sorted.rises

          others : (i : ℕ) → ((k : ℕ) → slice_get level k ≡ Some i → ⊥) → N i ≡ R i
          others i n = num.numbered.others i (λ a. let p = num.sorted.sound a.0 a.1 a.2 in n p.0 (p.1 ∙ ap Some a.3))

          level-done : LevelDone v (length first) level R N
          level-done = record {
            keyed = λ k i a. let s = node-of i (level-node k i a).0 in (fitted k i s.0 a s.1).0;
            others = others;
            ordered = λ j k p q a b.
                let x = num.sorted.whole j p a in
                let y = num.sorted.whole k q b in
                (λ z. nat_cmp (N (sym x.3 z)) (N (sym y.3 z))) ∙ (order.numbered.ordered x.0 y.0 x.1 y.1 (get-within num.keys x.0 x.1 x.2) (get-within num.keys y.0 y.1 y.2) x.2 y.2 ∙ (λ z. tree_cmp (A (x.3 z)) (A (y.3 z))));
            within = λ k i a.
                let x = num.sorted.whole k i a in
                let l = get-within num.keys x.0 x.1 x.2 in
                let f = subst (λ m. length first ≤ N m) x.3 (order.numbered.from x.0 x.1 l x.2) in
                let b = subst (λ m. N m < length first + length num.keys) x.3 (order.numbered.below x.0 x.1 l x.2) in
                (f, omega (arith, num.sorted.count));
          }

          not-here : (i : ℕ) → Lower v high i → (k : ℕ) → slice_get level k ≡ Some i → ⊥
          not-here i l k e = let n = (level-node k i e).1 in let m = l.1 in omega arith

          still : (i : ℕ) → Lower v high i → N i ≡ R i
          still i l = others i (not-here i l)

          new-below : (i : ℕ) → Lower v (suc high) i → N i < length after
          new-below i l = elim (here-or v high level is-level i l) [
            | inl a ↦ (let e = still i a in let b = before.stands.below i a in let g = num.numbered.grown in omega arith)
            | inr a ↦ (let x = num.sorted.whole a.0 i a.1 in subst (λ m. N m < length after) x.3 (order.below x.0 x.1 x.2))
          ]

          pub standing-more : Standing v nodes text olds pairs js fs next after (suc high)
          standing-more = record {
            long = num.numbered.long ∙ before.long;
            wide = settled.long ∙ before.wide;
            wider = settled.wide ∙ before.wider;
            few = num.numbered.small;
            stands = record { settled = (stands-more v high level is-level R N (length first) before.stands level-done).settled; below = new-below };
            firsts = firsts;
            done = done;
            left = λ i s e l. settled.others text i s e (λ k a. let n = (level-node k i a).1 in omega arith) ∙ before.left i s e (omega arith);
          }
            where
              firsts : (r i : ℕ) → slice_get after r ≡ Some i → Lower v (suc high) i × (N i ≡ r)
              firsts r i e = elim (below_or r (length first)) [
                | inl l ↦ (let j = get-some first r l in
                    let q : j.0 ≡ i = one-there after r j.0 i (num.numbered.kept r j.0 j.1) e in
                    let f = before.firsts r j.0 j.1 in
                    let w = f.0 in
                    let low : Lower v (suc high) j.0 = (w.0, (let m = w.1 in omega arith)) in
                    subst (λ z. Lower v (suc high) z × (N z ≡ r)) q (low, still j.0 w ∙ f.1))
                | inr l ↦ (let t = order.told r i l e in
                    let p = num.sorted.sound t.0 t.1 t.3 in
                    let n = level-node p.0 i (p.1 ∙ ap Some t.4) in
                    ((n.0, (let q = n.1 in omega arith)), t.5))
              ]

              done : (i : ℕ) (s : Node) → slice_get nodes i ≡ Some s → height (v.tree i) < suc high → PartsRanked N (v.inside i) (inside_of text js fs (place_of s))
              done i s e l =
                  let w : i < v.count = omega (arith, get-within nodes i s e, store.count) in
                  elim (here-or v high level is-level i (w, l)) [
                    | inl a ↦ parts-still v R N high right still i w (omega arith) (inside_of text js fs (place_of s)) (subst (PartsRanked R (v.inside i)) (sym (settled.others text i s e (not-here i a))) (before.done i s e a.1))
                    | inr a ↦ parts-still v R N high right still i w (omega arith) (inside_of text js fs (place_of s)) (parts-here a.0 i s a.1 e)
                  ]

  -- ---- the beginning and the end

  pub standing-none : (ranks first : List ℕ) → length ranks ≡ length nodes → first ≡ [] → Standing v nodes text olds pairs olds pairs ranks first 0
  standing-none ranks first long e = record {
    long = long;
    wide = refl;
    wider = refl;
    few = let l = ap length e in omega arith;
    stands = record { settled = (stands-none v (slice_index ranks)).settled; below = λ i a. absurd (omega (arith, a.1)) };
    firsts = λ r i a. let l = get-within first r i a in absurd (omega (arith, ap length e));
    done = λ i s a l. absurd (omega arith);
    left = λ i s a l. sym (store.inside i s a);
  }

  pub standing-done : (is : List ℕ) (es : List (ℕ × ℕ)) (ranks first : List ℕ) (high : ℕ) → Standing v nodes text olds pairs is es ranks first high → ((i : ℕ) → i < v.count → height (v.tree i) < high) → AllRanked v nodes text is es ranks first
  standing-done is es ranks first high s low = record {
    long = s.long ∙ sym store.count;
    ranked = all-ranked v (slice_index ranks) high s.stands.settled low;
    keyed = λ i l. s.stands.settled.keyed i (l, low i l);
    within = λ i l. s.stands.below i (l, low i l);
    firsts = λ r i e. let f = s.firsts r i e in (f.0.0, f.1);
    placed = λ i t e. let w = store.within i t e in subst (λ n. Within (length text) n (length es) (place_of t)) (sym s.wide) (subst (λ n. Within (length text) (length olds) n (place_of t)) (sym s.wider) w.0);
    parts = λ i t e. s.done i t e (low i (omega (arith, get-within nodes i t e, store.count)));
  }

  level-within : (ls : Levels) (h k i : ℕ) → slice_get (level_of ls h) k ≡ Some i → h < length ls
  level-within [] h k i e = absurd (cc)
  level-within (w ∷ ls) zero k i e = omega arith
  level-within (w ∷ ls) (suc h) k i e = let r = level-within ls h k i e in omega arith

  -- no node is as high as there are levels
  pub levels-end : (levels : Levels) → LevelsBy (height_at nodes) (length nodes) levels → (i : ℕ) → i < v.count → height (v.tree i) < length levels
  levels-end levels are i l =
      let w = are.whole i (omega (arith, store.count)) in
      subst (λ z. z < length levels) (high-of i l) (level-within levels (height_at nodes i) w.0 i w.1)
