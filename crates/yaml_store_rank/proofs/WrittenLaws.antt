-- The nodes of a store, with their entries as they are written.
use Rattle.std.proofs.Common.{◌≡◌, inl, inr, ℕ, zero, suc, ◌-◌, ◌<◌, ◌≤◌, true, false, eqb, List, [], ◌∷◌, length, map, drop, get_or, slice_index, refl, sym, ◌∙◌, ap, subst, arith}
use Rattle.std.specs.Prelude.{◌↔◌, Some}
use Rattle.std.specs.List.{slice_get, slice_range, All}
use Rattle.std.proofs.lemmas.Bool.{eqb-true}
use Rattle.std.proofs.lemmas.Bool.Decides.{eqb_tells}
use Rattle.std.proofs.lemmas.Map.Keys.{IsDistinct-from_apart}
use Rattle.std.proofs.lemmas.Map.Steps.{length-le_from_distinct_below}
use Rattle.std.proofs.lemmas.Map.Views.{Contains-from_any}
use Rattle.std.proofs.lemmas.List.{length-map}
use Rattle.std.proofs.lemmas.List.Elements.{All-cons, All-take, All-drop, All-nil}
use Rattle.yaml_definitions.specs.model.Limits.{height_limit}
use Rattle.yaml_definitions.specs.model.Tree.{Tree, height}
use Rattle.yaml_definitions.specs.model.Order.{Before}
use Rattle.yaml_definitions.specs.model.Same.{Same, Keyed}
use Rattle.yaml_tree.specs.TreeLists.{tree_at}
use Rattle.yaml_tree.specs.View.{View, entries, entries_in, InsideBelow}
use Rattle.yaml_tree.specs.Insides.{Held, HeldBelow, trees_held}
use Rattle.yaml_tree.proofs.Lists.{get-map, get-unmap, get-some, get_or-map}
use Rattle.yaml_tree.proofs.Numbering.{get-there, get-within}
use Rattle.yaml_tree.proofs.ViewLaws.{view-none}
use Rattle.yaml_store.specs.declared.store.Store.{Store}
use Rattle.yaml_store.specs.declared.nodes.Node.{Node}
use Rattle.yaml_store.specs.declared.nodes.Span.{Span}
use Rattle.yaml_store.specs.declared.nodes.Place.{Place}
use Rattle.yaml_store.specs.declared.nodes.Place.TheVariants.{Scalar, Sequence, Mapping}
use Rattle.yaml_store.specs.TextModel.{text_of, border, AllWhole}
use Rattle.yaml_store.specs.StoreModel.{place_of, inside_of, node_held, SpanWithin, share, start_of, end_of, room_of}
use Rattle.yaml_store.specs.StoreGrows.{Good, IsLow, Sound, tags_of}
use Rattle.yaml_store.specs.StoreView.{view_of, tree_of, inside_at}
use Rattle.yaml_store.proofs.Growing.{uncut-at}
use Rattle.yaml_store_rank.specs.PartsModel.{Differ}
use Rattle.yaml_store_rank.specs.Ranking.{AllRanked}
use Rattle.yaml_store_rank.specs.Forests.{Forests, count, rank, tree, entries_at, entries_held, InKeyOrder, IsRanked, cut_from, AreEnds}
use Rattle.yaml_store_rank.specs.KeyOrder.{numbers, number_pairs, ranks_of_keys, IsOrder, MappingAt, CanOrder, OrderedUpto}
use Rattle.yaml_store_rank.specs.Written.{forests_of, Holds}
use Rattle.yaml_store_rank.specs.declared.forests.RankedForests.TheInside as held_inside
use Rattle.yaml_store_rank.proofs.KeyOrderLaws.{sorted, sorted-from}

-- ---- what is inside a mapping

texted : (n : ℕ) (text is : List ℕ) (es : List (ℕ × ℕ)) (p : Place) → InsideBelow n (inside_of [] is es p) → InsideBelow n (inside_of text is es p)
texted n text is es (Scalar s) b = b
texted n text is es (Sequence s) b = b
texted n text is es (Mapping s) b = b

-- ---- cut roots

pub ends-cut : (xs : List ℕ) (P : ℕ → Type 0) → All P xs → (start : ℕ) (ends : List ℕ) → All (All P) (cut_from xs start ends)
ends-cut xs P all start [] = All-nil (All P)
ends-cut xs P all start (end ∷ ends) = All-cons (All P) (slice_range xs start end) (cut_from xs end ends) (All-take P (end - start) (drop start xs) (All-drop P start xs all)) (ends-cut xs P all end ends)

pub cut-at : (xs : List ℕ) (start : ℕ) (ends : List ℕ) (k : ℕ) → k < length ends → slice_get (cut_from xs start ends) k ≡ Some (slice_range xs (slice_index (start ∷ ends) k) (slice_index ends k))
cut-at xs start [] k l = absurd (omega arith)
cut-at xs start (end ∷ ends) zero l = refl
cut-at xs start (end ∷ ends) (suc k) l = cut-at xs end ends k (omega arith)

pub cut-length : (xs : List ℕ) (start : ℕ) (ends : List ℕ) → length (cut_from xs start ends) ≡ length ends
cut-length xs start [] = refl
cut-length xs start (end ∷ ends) = ap suc (cut-length xs end ends)

pub end-within : (most start : ℕ) (ends : List ℕ) → AreEnds most start ends → (k : ℕ) → k < length ends → (slice_index (start ∷ ends) k ≤ slice_index ends k) × (slice_index ends k ≤ most)
end-within most start [] a k l = absurd (omega arith)
end-within most start (end ∷ ends) a zero l = (a.0, a.1)
end-within most start (end ∷ ends) a (suc k) l = end-within most end ends a.2 k (omega arith)

-- ---- nodes that can be put in order

module _ (s : Store) (good : Good s) (ranks first : List ℕ) (text is : List ℕ) (es : List (ℕ × ℕ)) (nodes : List Node) (ranked : AllRanked (view_of s good) nodes text is es ranks first) where
  abbrev v : View
  v = view_of s good

  abbrev pairs : List (ℕ × ℕ)
  pairs = s.entries.items

  abbrev part : Span → List (ℕ × ℕ)
  part p = slice_range pairs p.start p.end

  inside-there : (i : ℕ) (p : Span) → MappingAt s.nodes.items i p → v.inside i ≡ entries (part p)
  inside-there i p m = ap (inside_at (text_of s.text) s.items.items pairs) m.1 ∙ ap (inside_of (text_of s.text) s.items.items pairs) m.2

  count-there : (i : ℕ) (p : Span) → MappingAt s.nodes.items i p → i < v.count
  count-there i p m = get-within s.nodes.items i m.0 m.1

  span-within : (i : ℕ) (p : Span) → MappingAt s.nodes.items i p → SpanWithin (length pairs) p
  span-within i p m = let q = good.placed i m.0 m.1 in (subst (λ (z : Place). start_of z ≤ end_of z) m.2 q.0, subst (λ (z : Place). end_of z ≤ room_of (length (text_of s.text)) (length s.items.items) (length pairs) z) m.2 q.1)

  parts-below : (i : ℕ) (p : Span) → MappingAt s.nodes.items i p → All (λ (e : ℕ × ℕ). (e.0 < i) × (e.1 < i)) (part p)
  parts-below i p m = (subst (InsideBelow i) (ap (inside_of [] s.items.items pairs) m.2) (good.below i m.0 m.1)).1

  differ-there : (i : ℕ) (p : Span) → MappingAt s.nodes.items i p → Differ (ranks_of_keys (slice_index ranks) (part p))
  differ-there i p m j k l h e =
      let n = length-map (part p) (λ (q : ℕ × ℕ). slice_index ranks q.0) in
      let b : k < length (part p) = omega (arith, h, n) in
      let a : j < length (part p) = omega arith in
      let w = count-there i p m in
      let x : ℕ × ℕ = get_or (part p) j (0, 0) in
      let y : ℕ × ℕ = get_or (part p) k (0, 0) in
      let c : x.0 < v.count = omega (arith, w, (parts-below i p m j (0, 0) a).0) in
      let d : y.0 < v.count = omega (arith, w, (parts-below i p m k (0, 0) b).0) in
      let f : slice_index ranks x.0 ≡ slice_index ranks y.0 = sym (get_or-map (λ (q : ℕ × ℕ). slice_index ranks q.0) (part p) j (0, 0) 0 a) ∙ (e ∙ get_or-map (λ (q : ℕ × ℕ). slice_index ranks q.0) (part p) k (0, 0) 0 b) in
      view-none v i j k (ranked.keyed i w) (record {
        within = w;
        in_order = l;
        earlier = x;
        later = y;
        earlier_is = ap (λ z. slice_get (entries_in z) j) (inside-there i p m) ∙ get-there (part p) j (0, 0) a;
        later_is = ap (λ z. slice_get (entries_in z) k) (inside-there i p m) ∙ get-there (part p) k (0, 0) b;
        equal = (ranked.ranked x.0 y.0 c d).0.0 f;
      })

  pub can-order : CanOrder s.nodes.items pairs ranks
  can-order = record {
    within = span-within;
    apart = λ i j p q l m o. subst (λ (z : Place). end_of z ≤ q.start) m.2 (subst (λ (z : Place). end_of (place_of m.0) ≤ start_of z) o.2 (good.apart i j m.0 o.0 l m.1 o.1 (shared m.2 o.2)));
    below = λ i p m k d l. let b = (parts-below i p m k d l).0 in let w = count-there i p m in let n = ranked.long in omega arith;
    differ = differ-there;
  }
    where
      shared : {x y : Place} {p q : Span} → x ≡ Mapping p → y ≡ Mapping q → share x y ≡ true
      shared e f = (λ z. share (e z) (f z))

-- ---- ranks are below the number of nodes

module _ (v : View) (nodes : List Node) (text is : List ℕ) (es : List (ℕ × ℕ)) (ranks first : List ℕ) (r : AllRanked v nodes text is es ranks first) where
  differs : (i j d : ℕ) → i < j → j < length first → eqb (get_or first i d) (get_or first j d) ≡ false
  differs i j d l m = elim (eqb_tells (get_or first i d) (get_or first j d)) [
    | inl a ↦ (
        let x = (r.firsts i (get_or first i d) (get-there first i d (omega arith))).1 in
        let y = (r.firsts j (get_or first j d) (get-there first j d m)).1 in
        let z : slice_index ranks (get_or first i d) ≡ slice_index ranks (get_or first j d) = ap (slice_index ranks) a.1 in
        absurd (omega arith))
    | inr a ↦ a.0
  ]

  few-first : length first ≤ v.count
  few-first = length-le_from_distinct_below first v.count (IsDistinct-from_apart eqb first differs) (λ q h. let c = Contains-from_any eqb-true q first h in subst (λ z. z < v.count) c.2 (r.firsts c.0 (get_or first c.0 q) (get-there first c.0 q c.1)).0)

  rank-below : (i : ℕ) → i < v.count → slice_index ranks i < v.count
  rank-below i l = let w = r.within i l in let f = few-first in omega arith

-- ---- the laws of what a store holds

-- what ranks tell of two trees
abbrev Tells : ℕ → ℕ → Tree → Tree → Type 0
Tells a b t u = ((a ≡ b) ↔ Same t u) × ((a < b) ↔ Before t u)

no-entries : (rank : ℕ → ℕ) → InKeyOrder rank [] []
no-entries rank = record { count = refl; sound = λ p c. c; whole = λ p c. c; rises = λ j k d l m. absurd (omega arith) }

module _ (s : Store) (good : Good s) (low : IsLow s) (ranks first : List ℕ) (text is : List ℕ) (es : List (ℕ × ℕ)) (nodes : List Node) (ranked : AllRanked (view_of s good) nodes text is es ranks first)
    (f : Forests) (nodes-are : f.nodes ≡ map (node_held (text_of s.text) s.items.items s.entries.items (tags_of s)) s.nodes.items) (ranks-are : f.ranks ≡ ranks) where
  abbrev held : Node → Held
  held = node_held (text_of s.text) s.items.items s.entries.items (tags_of s)

  abbrev R : ℕ → ℕ
  R = slice_index ranks

  tree-is : (i : ℕ) → tree f i ≡ tree_of s i
  tree-is i = ap (λ ns. tree_at (trees_held ns) i) nodes-are

  count-is : count f ≡ length s.nodes.items
  count-is = ap length nodes-are ∙ length-map s.nodes.items held

  rank-is : (i : ℕ) → rank f i ≡ R i
  rank-is i = ap (λ z. slice_index z i) ranks-are

  held-below : HeldBelow f.nodes
  held-below k n e =
      let m = get-unmap held s.nodes.items k n (subst (λ z. slice_get z k ≡ Some n) nodes-are e) in
      subst (λ (z : Held). InsideBelow k z.1) m.2 (texted k (text_of s.text) s.items.items s.entries.items (place_of m.0) (good.below k m.0 m.1))

  tells : (i j : ℕ) → i < count f → j < count f → Tells (rank f i) (rank f j) (tree f i) (tree f j)
  tells i j a b =
      let w : Tells (R i) (R j) (tree_of s i) (tree_of s j) = ranked.ranked i j (omega (arith, a, count-is)) (omega (arith, b, count-is)) in
      subst (λ z. Tells z (rank f j) (tree f i) (tree f j)) (sym (rank-is i)) (subst (λ z. Tells (R i) z (tree f i) (tree f j)) (sym (rank-is j))
      (subst (λ z. Tells (R i) (R j) z (tree f j)) (sym (tree-is i)) (subst (λ z. Tells (R i) (R j) (tree_of s i) z) (sym (tree-is j)) w)))

  low-tree : (i : ℕ) → i < count f → height (tree f i) ≤ height_limit
  low-tree i l =
      let n = get-some s.nodes.items i (omega (arith, l, count-is)) in
      let q = uncut-at s good low i n.0 n.1 in
      let a = q.0 in
      let b = q.1 in
      subst (λ t. height t ≤ height_limit) (sym (tree-is i)) (omega arith)

  entries-is : (i : ℕ) (n : Node) → slice_get s.nodes.items i ≡ Some n → entries_at f i ≡ entries_in (inside_of (text_of s.text) s.items.items s.entries.items (place_of n))
  entries-is i n e = ap entries_held (ap (λ z. slice_get z i) nodes-are ∙ get-map held s.nodes.items i n e)

  module _ (order : List ℕ) (ordered : OrderedUpto (length s.nodes.items) R s.entries.items s.nodes.items order) where
    in-order-at : (i : ℕ) (n : Node) → slice_get s.nodes.items i ≡ Some n → (p : Place) → place_of n ≡ p → (sorted : List (ℕ × ℕ)) × InKeyOrder (rank f) (entries_in (inside_of (text_of s.text) s.items.items s.entries.items p)) sorted
    in-order-at i n e (Scalar p) a = ([], no-entries (rank f))
    in-order-at i n e (Sequence p) a = ([], no-entries (rank f))
    in-order-at i n e (Mapping p) a =
        let part = slice_range s.entries.items p.start p.end in
        let places = slice_range order p.start p.end in
        let o : IsOrder R part places = ordered.ordered i p (get-within s.nodes.items i n e) (n, e, a) in
        (sorted R part places o, subst (λ z. InKeyOrder (slice_index z) part (sorted R part places o)) (sym ranks-are) (sorted-from R part places o))

    in-order : (i : ℕ) → i < count f → (sorted : List (ℕ × ℕ)) × InKeyOrder (rank f) (entries_at f i) sorted
    in-order i l =
        let n = get-some s.nodes.items i (omega (arith, l, count-is)) in
        subst (λ z. (sorted : List (ℕ × ℕ)) × InKeyOrder (rank f) z sorted) (sym (entries-is i n.0 n.1)) (in-order-at i n.0 n.1 (place_of n.0) refl)

    pub is-ranked : (roots ends : List ℕ) → f.streams ≡ cut_from roots 0 ends → All (λ i. i < length s.nodes.items) roots → IsRanked f
    is-ranked roots ends e all = record {
      below = held-below;
      long = ap length ranks-are ∙ (ranked.long ∙ sym count-is);
      within = λ i l. let b = rank-below (view_of s good) nodes text is es ranks first ranked i (omega (arith, l, count-is)) in omega (arith, b, rank-is i, count-is);
      ranked = tells;
      keyed = λ i l. subst Keyed (sym (tree-is i)) (ranked.keyed i (omega (arith, l, count-is)));
      low = low-tree;
      rooted = subst (All (All (λ i. i < count f))) (sym e) (ends-cut roots (λ i. i < count f) (subst (λ n. All (λ i. i < n) roots) (sym count-is) all) 0 ends);
      ordered = in-order;
    }

-- ---- the lists that are held

pub sound-as : (tags tags2 : List (List ℕ)) (text text2 is is2 : List ℕ) (es es2 : List (ℕ × ℕ)) (nodes nodes2 : List Node) → Sound tags text is es nodes → tags2 ≡ tags → text2 ≡ text → is2 ≡ is → es2 ≡ es → nodes2 ≡ nodes → Sound tags2 text2 is2 es2 nodes2
sound-as tags tags2 text text2 is is2 es es2 nodes nodes2 h a b c d e =
    subst (λ z. Sound z text2 is2 es2 nodes2) (sym a) (subst (λ z. Sound tags z is2 es2 nodes2) (sym b) (subst (λ z. Sound tags text z es2 nodes2) (sym c) (subst (λ z. Sound tags text is z nodes2) (sym d) (subst (Sound tags text is es) (sym e) h))))

module _ (s : Store) (good : Good s) (low : IsLow s) (v : held_inside.Inside) (roots : List ℕ) where
  pub nodes-shown : v.tags ≡ tags_of s → text_of v.text ≡ text_of s.text → numbers v.items.items ≡ s.items.items → number_pairs v.entries.items ≡ s.entries.items → v.nodes.items ≡ s.nodes.items
      → (forests_of v).nodes ≡ map (node_held (text_of s.text) s.items.items s.entries.items (tags_of s)) s.nodes.items
  nodes-shown et ex ei ee en = λ z. map (node_held (ex z) (ei z) (ee z) (et z)) (en z)

  pub holds-from : (text is first : List ℕ) (es : List (ℕ × ℕ)) (nodes : List Node) → v.tags ≡ tags_of s → text_of v.text ≡ text_of s.text → numbers v.items.items ≡ s.items.items → number_pairs v.entries.items ≡ s.entries.items → v.nodes.items ≡ s.nodes.items
      → AllRanked (view_of s good) nodes text is es v.ranks.items first → AllWhole (border v.text) v.nodes.items → OrderedUpto (length v.nodes.items) (slice_index v.ranks.items) (number_pairs v.entries.items) v.nodes.items v.order.items
      → numbers v.roots.items ≡ roots → All (λ i. i < length s.nodes.items) roots → AreEnds (length roots) 0 v.ends.items → Holds v
  holds-from text is first es nodes et ex ei ee en ranked whole ordered er all ends =
      let placed : OrderedUpto (length s.nodes.items) (slice_index v.ranks.items) s.entries.items s.nodes.items v.order.items =
      subst (λ z. OrderedUpto (length z) (slice_index v.ranks.items) s.entries.items z v.order.items) en (subst (λ z. OrderedUpto (length v.nodes.items) (slice_index v.ranks.items) z v.nodes.items v.order.items) ee ordered) in
      record {
        sound = sound-as _ _ _ _ _ _ _ _ _ _ good et ex ei ee en;
        whole = whole;
        ranked = is-ranked s good low v.ranks.items first text is es nodes ranked (forests_of v) (nodes-shown et ex ei ee en) refl v.order.items placed roots v.ends.items (ap (λ z. cut_from z 0 v.ends.items) er) all;
        ordered = ordered;
        ends = subst (λ n. AreEnds n 0 v.ends.items) (sym (ap length er) ∙ length-map v.roots.items (λ i. i.0)) ends;
      }

-- ---- lists that are borrowed

pub can-order-as : (nodes nodes2 : List Node) (es es2 : List (ℕ × ℕ)) (ranks ranks2 : List ℕ) → CanOrder nodes es ranks → nodes2 ≡ nodes → es2 ≡ es → ranks2 ≡ ranks → CanOrder nodes2 es2 ranks2
can-order-as nodes nodes2 es es2 ranks ranks2 h a b c = subst (λ z. CanOrder z es2 ranks2) (sym a) (subst (λ z. CanOrder nodes z ranks2) (sym b) (subst (CanOrder nodes es) (sym c) h))

pub ordered-as : (nodes nodes2 : List Node) (es es2 : List (ℕ × ℕ)) (ranks ranks2 order : List ℕ) → OrderedUpto (length nodes) (slice_index ranks) es nodes order → nodes ≡ nodes2 → es ≡ es2 → ranks ≡ ranks2 → OrderedUpto (length nodes2) (slice_index ranks2) es2 nodes2 order
ordered-as nodes nodes2 es es2 ranks ranks2 order h a b c =
    subst (λ z. OrderedUpto (length z) (slice_index ranks2) es2 z order) a (subst (λ z. OrderedUpto (length nodes) (slice_index ranks2) z nodes order) b (subst (λ z. OrderedUpto (length nodes) (slice_index z) es nodes order) c h))
