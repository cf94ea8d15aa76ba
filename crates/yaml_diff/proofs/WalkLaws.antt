-- The walk of two trees, step by step.
use Rattle.std.proofs.Common.{◌≡◌, ℕ, zero, suc, ◌+◌, ◌-◌, ◌<◌, ◌≤◌, Bool, true, false, ◌&&◌, ◌⊎◌, List, [], ◌∷◌, ◌++◌, map, take, length, inl, inr, refl, sym, ◌∙◌, ap, subst, arith}
use Rattle.std.specs.Prelude.{Option, Some, None, Result, Ok, Err, IfOk}
use Rattle.std.specs.Borrow.{Bor}
use Rattle.std.specs.List.{slice_get}
use Rattle.std.specs.Option.{is_some}
use Rattle.std.specs.declared.alloc.AllocError.{AllocError}
use Rattle.std.proofs.lemmas.List.{length-map}
use Rattle.std.proofs.lemmas.Option.{slice_get_within}
use Rattle.yaml_definitions.specs.model.Tree.{Tree}
use Rattle.yaml_definitions.specs.model.Same.{same}
use Rattle.yaml_definitions.proofs.Equivalence.{same_refl, same_sym, same_trans}
use Rattle.yaml_tree.specs.declared.node.NodeId.{NodeId}
use Rattle.yaml_tree.specs.declared.shown.Inside.TheVariants.{Scalar}
use Rattle.yaml_tree.specs.declared.shown.Shown.{Shown}
use Rattle.yaml_store_rank.specs.Forests.{Forests, count, tree, rank, entries_at, held_shown, IsRanked}
use Rattle.yaml_store_rank.proofs.ForestTrees.{scalar-shown}
use Rattle.yaml_path.specs.Path.{head, part, head_of}
use Rattle.yaml_path.specs.Path as plain
use Rattle.yaml_path.specs.Ways.{Step, at_places, at_key, Pairing, Allows, AlikeStep, left_part, right_part, placed, left_place, right_place}
use Rattle.yaml_path.specs.declared.places.Places.{Places}
use Rattle.yaml_diff.specs.declared.difference.Step.TheVariants.{Value}
use Rattle.yaml_diff.specs.declared.difference.Found.{Found}
use Rattle.yaml_diff.specs.Lines.{Line, line_of, trees_of, sequence_of, under}
use Rattle.yaml_diff.specs.Moves.{MoveLine, move_line_of, here, moved_under}
use Rattle.yaml_diff.specs.Listing.{Lists, ListsSome, LeftEntries, EntriesBelow, LeftCovers, RightCovers}
use Rattle.yaml_diff.specs.Found.{lines_of, moves_of, Finds, FindsItems, HasItems, IsValueOf, AllWithin, Within, item_of, size, top, greater}
use Rattle.yaml_diff.proofs.WayLaws.{none-part, part-like, turn, turn-pairs, turn-settles, turn-order, calm, put}
use Rattle.yaml_diff.proofs.Lists.{add-some, lists-done, lists-none, lists-cut, some-none}
use Rattle.yaml_diff.proofs.MoveLists.{done-moves, none-moved}
use Rattle.yaml_diff.proofs.ItemLaws.{match-turn, bare-nowhere}
use Rattle.yaml_diff.proofs.KeyLaws.{no-item, no-items, no-ends, key-before, right-key-before}
use Rattle.yaml_diff.proofs.Shapes.{IsMapping, items-tree, items-below, items-there, entry-below, value-there, value-some, value-ranked, keys-apart}

-- ---- trees

option-cases : {X : Type 0} (o : Option X) → (o ≡ None) ⊎ ((v : X) × (o ≡ Some v))
option-cases None = inl refl
option-cases (Some v) = inr (v, refl)

-- ---- answers

pub one-head : (t u : Tree) → head_of (Some t) ≡ head_of (Some u) → head t ≡ head u
one-head t u h = cc

pub none-places : (g : Forests) (l r : Option NodeId) (room : ℕ) (f : Found) → l ≡ None → r ≡ None → lines_of f ≡ [] → moves_of f ≡ [] → f.whole ≡ true → Finds g (trees_of g l) (trees_of g r) room f
none-places g l r room f a b x m y = (turn _ _, calm, lists-none g (trees_of g l) (trees_of g r) room (lines_of f) (moves_of f) f.whole x m y (λ q d. none-part (turn _ _) q (trees_of g l) (trees_of g r) (ap (trees_of g) a) (ap (trees_of g) b) d))

pub cut-found : (g : Forests) (t u : Option Tree) (room : ℕ) (f : Found) → lines_of f ≡ [] → moves_of f ≡ [] → f.whole ≡ false → room ≡ 0 → Finds g t u room f
cut-found g t u room f a m b z = (turn t u, calm, lists-cut g t u room (lines_of f) (moves_of f) f.whole a m b z)

pub of-places : (g : Forests) (l m r s : Option NodeId) (room : ℕ) (f : Found) → l ≡ m → r ≡ s → Finds g (trees_of g l) (trees_of g r) room f → Finds g (trees_of g m) (trees_of g s) room f
of-places g l m r s room f a b h = subst (λ z. Finds g (trees_of g z) (trees_of g s) room f) a (subst (λ z. Finds g (trees_of g l) (trees_of g z) room f) b h)

-- no move is added to none
pub none-more : {X : Type 0} (f : X → X) (old more all : List X) → old ≡ [] → more ≡ [] → all ≡ old ++ map f more → all ≡ []
none-more f old more all a b e = e ∙ ap (λ z. z ++ map f more) a ∙ ap (map f) b

-- nor is one where no pair has moved
pub none-moved-here : (moved list : List Places) (old all : List MoveLine) (n : ℕ) → moved ≡ [] → list ≡ moved → old ≡ [] → all ≡ old ++ map here (take n list) → all ≡ []
none-moved-here moved list old all n a l o e = e ∙ ap (λ z. z ++ map here (take n list)) o ∙ ap (λ z. map here (take n z)) (l ∙ a) ∙ ap (map here) (take-none n)
  where
    none : List Places
    none = []

    take-none : (k : ℕ) → take k none ≡ none
    take-none zero = refl
    take-none (suc k) = refl

pub lines-length : (f : Found) → length (lines_of f) ≡ length f.list.items
lines-length f = length-map f.list.items line_of

pub moves-length : (f : Found) → length (moves_of f) ≡ length f.moves.items
moves-length f = length-map f.moves.items move_line_of

-- where a value is missing, none is found
pub none-key : (g : Forests) (es : List (ℕ × ℕ)) (r : ℕ) (result : Option NodeId) → is_some result ≡ false → IsValueOf g es r result → IsValueOf g es r None
none-key g es r None s w = w
none-key g es r (Some v) s w = absurd (cc)

pub some-key : (g : Forests) (es : List (ℕ × ℕ)) (r : ℕ) (result : Option NodeId) → is_some result ≡ true → IsValueOf g es r result → (v : NodeId) × IsValueOf g es r (Some v)
some-key g es r (Some v) s w = (v, w)
some-key g es r None s w = absurd (cc)

pub weaker : (g : Forests) (P M : Pairing) (t u : Option Tree) (room : ℕ) (old new : Step → Type 0) (lines : List Line) (moves : List MoveLine) (w : Bool) → ((s : Step) → new s → old s) → ((s : Step) → old s → new s) → ListsSome g P M t u room old lines moves w → ListsSome g P M t u room new lines moves w
weaker g P M t u room old new lines moves w f up l = record {
  pairs = l.pairs;
  each = l.each;
  few = l.few;
  whole = λ p s q n d. l.whole p s q (f s n) d;
  cut = l.cut;
  apart = l.apart;
  ordered = l.ordered;
  covered = λ k d e. let x = l.covered k d e in (x.0, x.1, x.2, up x.0 x.3);
  moved = record {
    settles = l.moved.settles;
    in_order = l.moved.in_order;
    each = l.moved.each;
    whole = λ e s q p n r a. l.moved.whole e s q p (f s n) r a;
    apart = l.moved.apart;
    covered = λ k d e. let x = l.moved.covered k d e in (x.0, x.1, x.2, up x.0 x.3);
  };
}

-- ---- numbers of items

greater-least : (a b c : ℕ) → a ≤ c → b ≤ c → greater a b ≤ c
greater-least zero b c l m = m
greater-least (suc a) zero c l m = l
greater-least (suc a) (suc b) zero l m = absurd (omega (arith, l))
greater-least (suc a) (suc b) (suc c) l m = let n = greater-least a b c (omega (arith, l)) (omega (arith, m)) in omega (arith, n)

greater-left : (a b : ℕ) → a ≤ greater a b
greater-left zero b = omega arith
greater-left (suc a) zero = omega arith
greater-left (suc a) (suc b) = let n = greater-left a b in omega (arith, n)

greater-right : (a b : ℕ) → b ≤ greater a b
greater-right zero b = omega arith
greater-right (suc a) zero = omega arith
greater-right (suc a) (suc b) = let n = greater-right a b in omega (arith, n)

pub top-least : (items : List NodeId) (n : ℕ) → ((k : ℕ) (i : NodeId) → slice_get items k ≡ Some i → i.0 < n) → top items ≤ n
top-least [] n f = omega arith
top-least (i ∷ items) n f = let a = f 0 i refl in greater-least (i.0 + 1) (top items) n (omega (arith, a)) (top-least items n (λ k x e. f (suc k) x e))

top-most : (items : List NodeId) (k : ℕ) (i : NodeId) → slice_get items k ≡ Some i → i.0 + 1 ≤ top items
top-most [] k i e = absurd (cc)
top-most (x ∷ items) zero i e = let f : x ≡ i = cc in let a = greater-left (x.0 + 1) (top items) in let n : x.0 ≡ i.0 = ap (λ z. z.0) f in omega (arith, a, n)
top-most (x ∷ items) (suc k) i e = let a = greater-right (x.0 + 1) (top items) in let b = top-most items k i e in omega (arith, a, b)

pub size-top : (items : List NodeId) (o : Option ℕ) (result : Option NodeId) → result ≡ item_of items o → size result ≤ top items
size-top items o None e = omega arith
size-top items None (Some i) e = absurd (cc)
size-top items (Some k) (Some i) e = top-most items k i (sym e)

pub item-within : (g : Forests) (items : List NodeId) (o : Option ℕ) (result : Option NodeId) → AllWithin g items → result ≡ item_of items o → Within g result
item-within g items o None w e = tt
item-within g items None (Some i) w e = absurd (cc)
item-within g items (Some k) (Some i) w e = w k i (sym e)

-- ---- mappings

split : (k n : ℕ) → k < n + 1 → (k < n) ⊎ (k ≡ n)
split zero zero l = inr refl
split zero (suc n) l = inl (omega arith)
split (suc k) zero l = absurd (omega arith)
split (suc k) (suc n) l = elim (split k n (omega arith)) [ inl a ↦ inl (omega arith) | inr e ↦ inr (ap suc e) ]

some-is : {X : Type 0} {x y : X} → Some x ≡ Some y → x ≡ y
some-is e = cc

pub size-within : (g : Forests) (o : Option NodeId) (j : ℕ) → size o ≤ j → j < count g → Within g o
size-within g None j a b = tt
size-within g (Some i) j a b = omega arith

module _ (g : Forests) (are : IsRanked g) where
  pub equal-found : (i j room : ℕ) (f : Found) → i < count g → j < count g → rank g i ≡ rank g j → lines_of f ≡ [] → moves_of f ≡ [] → f.whole ≡ true → Finds g (Some (tree g i)) (Some (tree g j)) room f
  equal-found i j room f a b h x m y =
      let t = Some (tree g i) in
      let u = Some (tree g j) in
      (turn t u, calm, lists-none g t u room (lines_of f) (moves_of f) f.whole x m y (λ q d. match-turn q t u ((are.ranked i j a b).0.0 h, are.keyed i a, are.keyed j b) d))

  pub scalar-found : (i j room : ℕ) (f : Found) (s : Shown NodeId) (text : Bor (List ℕ)) → slice_get g.nodes i ≡ Some (held_shown s) → s.inside ≡ Scalar text → head (tree g i) ≡ head (tree g j) → lines_of f ≡ [] → moves_of f ≡ [] → f.whole ≡ true → Finds g (Some (tree g i)) (Some (tree g j)) room f
  scalar-found i j room f s text e k h x m y =
      let t = Some (tree g i) in
      let u = Some (tree g j) in
      (turn t u, calm, lists-none g t u room (lines_of f) (moves_of f) f.whole x m y (bare-nowhere (tree g i) (tree g j) s.tag.now text.now (turn t u) (ap head (scalar-shown g are i s e text k)) h))

  -- the items of a node stand below it
  pub all-within : (i : ℕ) (list : List NodeId) → HasItems g i list → AllWithin g list
  all-within i list h k x e = let a = items-below g are i list h k x e in let b = items-there g i list h in omega (arith, a, b)

  pub top-below : (i : ℕ) (list : List NodeId) → HasItems g i list → top list ≤ i
  top-below i list h = top-least list i (items-below g are i list h)

  -- what was found of their items is found of two nodes
  pub items-found : (i j room : ℕ) (lefts rights : List NodeId) (f : Found) → HasItems g i lefts → HasItems g j rights → head (tree g i) ≡ head (tree g j) → FindsItems g lefts rights room f → Finds g (Some (tree g i)) (Some (tree g j)) room f
  items-found i j room lefts rights f hl hr h m =
      let x = items-tree g are i lefts hl in
      let y = items-tree g are j rights hr in
      let q : hl.tag ≡ hr.tag = tag-is (sym (ap head x) ∙ h ∙ ap head y) in
      subst (λ z. Finds g z (Some (tree g j)) room f) (sym (ap Some x)) (subst (λ z. Finds g (sequence_of g hl.tag lefts) z room f) (sym (ap Some y)) (subst (λ z. Finds g (sequence_of g hl.tag lefts) (sequence_of g z rights) room f) q (m hl.tag)))
    where
      tag-is : {a b : List ℕ} → plain.sequence_head a ≡ plain.sequence_head b → a ≡ b
      tag-is e = cc

  pub ok-items : (i j room : ℕ) (lefts rights : List NodeId) (answer : Result Found AllocError) → HasItems g i lefts → HasItems g j rights → head (tree g i) ≡ head (tree g j) → IfOk answer (FindsItems g lefts rights room) → IfOk answer (Finds g (Some (tree g i)) (Some (tree g j)) room)
  ok-items i j room lefts rights (Ok f) hl hr h m = items-found i j room lefts rights f hl hr h m
  ok-items i j room lefts rights (Err e) hl hr h m = tt

  pub value-size : (j r : ℕ) (result : Option NodeId) → j < count g → IsValueOf g (entries_at g j) r result → size result ≤ j
  value-size j r None l w = omega arith
  value-size j r (Some v) l w = let b = entry-below g are j l w.0 w.1 w.2 in omega (arith, b.1, w.4)

  -- of the keys below the next place: one below this place, or this entry's
  keys-split : (i at : ℕ) (p : ℕ × ℕ) → slice_get (entries_at g i) at ≡ Some p → (s : Step) → EntriesBelow g i (at + 1) s → EntriesBelow g i at s ⊎ AlikeStep (at_key (tree g p.0)) s
  keys-split i at p e (at_places k) c = absurd c
  keys-split i at p e (at_key x) c = elim (split c.0 at c.2) [
    | inl l ↦ inl (c.0, c.1, l, c.3, c.4)
    | inr q ↦
        let f : c.1 ≡ p = some-is (sym c.3 ∙ ap (slice_get (entries_at g i)) q ∙ e) in
        inr (subst (λ z. same (tree g z.0) x ≡ true) f c.4)
  ]

  keys-up : (i at : ℕ) (s : Step) → EntriesBelow g i at s → EntriesBelow g i (at + 1) s
  keys-up i at (at_places k) c = c
  keys-up i at (at_key x) c = (c.0, c.1, omega (arith, c.2), c.3, c.4)

  -- no key stands twice
  keys-fresh : (i at : ℕ) (p : ℕ × ℕ) → i < count g → slice_get (entries_at g i) at ≡ Some p → (s : Step) → EntriesBelow g i at s → AlikeStep s (at_key (tree g p.0)) → ⊥
  keys-fresh i at p l e (at_places k) c a = absurd c
  keys-fresh i at p l e (at_key x) c a = keys-apart g are i l c.0 at c.1 p c.2 c.3 e (same_trans (tree g c.1.0) x (tree g p.0) c.4 a)

  -- of the parts that were told of, at the next place
  rights-split : (i j at : ℕ) (p : ℕ × ℕ) → slice_get (entries_at g j) at ≡ Some p → (s : Step) → RightCovers g i j (at + 1) s → RightCovers g i j at s ⊎ AlikeStep (at_key (tree g p.0)) s
  rights-split i j at p e s (inl c) = inl (inl c)
  rights-split i j at p e s (inr c) = elim (keys-split j at p e s c) [ inl a ↦ inl (inr a) | inr a ↦ inr a ]

  rights-up : (i j at : ℕ) (s : Step) → RightCovers g i j at s → RightCovers g i j (at + 1) s
  rights-up i j at s (inl c) = inl c
  rights-up i j at s (inr c) = inr (keys-up j at s c)

  left-fresh : (i : ℕ) (key : Tree) → part (tree g i) (plain.at_key key) ≡ None → (s : Step) → LeftCovers g i s → AlikeStep s (at_key key) → ⊥
  left-fresh i key n (at_places k) c a = absurd c
  left-fresh i key n (at_key x) c a = let q : None ≡ Some c.0 = sym n ∙ sym (part-like (tree g i) x key a) ∙ c.1 in absurd (cc)

  rights-fresh : (i j at : ℕ) (p : ℕ × ℕ) → j < count g → slice_get (entries_at g j) at ≡ Some p → part (tree g i) (plain.at_key (tree g p.0)) ≡ None → (s : Step) → RightCovers g i j at s → AlikeStep s (at_key (tree g p.0)) → ⊥
  rights-fresh i j at p l e n s (inl c) a = left-fresh i (tree g p.0) n s c a
  rights-fresh i j at p l e n s (inr c) a = keys-fresh j at p l e s c a

  -- what is told of some parts of two nodes
  abbrev pub Tells : ℕ → ℕ → ℕ → (Step → Type 0) → List Line → List MoveLine → Bool → Type 0
  Tells i j room covers lines moves w = (P M : Pairing) × ListsSome g P M (Some (tree g i)) (Some (tree g j)) room covers lines moves w

  pub entries-first : (i j room : ℕ) (lines : List Line) (moves : List MoveLine) (w : Bool) → lines ≡ [] → moves ≡ [] → w ≡ true → Tells i j room (EntriesBelow g i 0) lines moves w
  entries-first i j room lines moves w e m f = (turn _ _, calm, some-none g (turn _ _) calm (Some (tree g i)) (Some (tree g j)) room (EntriesBelow g i 0) lines moves w (turn-pairs _ _) (turn-settles _ _) (turn-order _ _) e m f none)
    where
      none : (s : Step) → EntriesBelow g i 0 s → ⊥
      none (at_places k) c = c
      none (at_key x) c = absurd (omega (arith, c.2))

  -- before the first entry of the right mapping: the parts that the left one has
  pub rights-first : (i j room : ℕ) (lines : List Line) (moves : List MoveLine) (w : Bool) → LeftEntries g i j room lines moves w → Tells i j room (RightCovers g i j 0) lines moves w
  rights-first i j room lines moves w o = (o.0, o.1, weaker g o.0 o.1 (Some (tree g i)) (Some (tree g j)) room (LeftCovers g i) (RightCovers g i j 0) lines moves w down (λ s c. inl c) o.2)
    where
      down : (s : Step) → RightCovers g i j 0 s → LeftCovers g i s
      down s (inl c) = c
      down (at_places k) (inr c) = absurd c
      down (at_key x) (inr c) = absurd (omega (arith, c.2))

  pub left-covered : (i j at room : ℕ) (lines : List Line) (moves : List MoveLine) (w : Bool) → i < count g → length (entries_at g i) ≤ at → Tells i j room (EntriesBelow g i at) lines moves w → Tells i j room (LeftCovers g i) lines moves w
  left-covered i j at room lines moves w l m o = (o.0, o.1, weaker g o.0 o.1 (Some (tree g i)) (Some (tree g j)) room (EntriesBelow g i at) (LeftCovers g i) lines moves w by up o.2)
    where
      up : (s : Step) → EntriesBelow g i at s → LeftCovers g i s
      up (at_places k) c = absurd c
      up (at_key x) c = (tree g c.1.1, value-there g are i l x c.0 c.1 c.3 (same_sym (tree g c.1.0) x c.4))

      by : (s : Step) → LeftCovers g i s → EntriesBelow g i at s
      by (at_places k) c = absurd c
      by (at_key x) c =
          let f = value-some g are i l x c.0 c.1 in
          let n = slice_get_within (entries_at g i) f.0 f.1 f.2 in
          (f.0, f.1, omega (arith, n, m), f.2, same_sym x (tree g f.1.0) f.3)

  -- ---- two mappings of one tag

  module _ (i j : ℕ) (li : i < count g) (lj : j < count g) (h : head (tree g i) ≡ head (tree g j)) (map_right : IsMapping (tree g j)) where
    abbrev t : Option Tree
    t = Some (tree g i)

    abbrev u : Option Tree
    u = Some (tree g j)

    map_left : IsMapping (tree g i)
    map_left = (map_right.0, h ∙ map_right.1)

    pub entries-next : (at room : ℕ) (p : NodeId × NodeId) (other : Option NodeId) (lines more all : List Line) (moves more_moves all_moves : List MoveLine) (w v b : Bool) → slice_get (entries_at g i) at ≡ Some (p.0.0, p.1.0) → IsValueOf g (entries_at g j) (rank g p.0.0) other → Tells i j room (EntriesBelow g i at) lines moves w
        → ((Q N : Pairing) × Lists g Q N (Some (tree g p.1.0)) (trees_of g other) (room - (length lines + length moves)) more more_moves v) → all ≡ lines ++ map (under (Value p.0)) more → all_moves ≡ moves ++ map (moved_under (Value p.0)) more_moves → b ≡ (w && v)
        → Tells i j room (EntriesBelow g i (at + 1)) all all_moves b
    entries-next at room p other lines more all moves more_moves all_moves w v b e k o m ea ma eb =
        let q : ℕ × ℕ = (p.0.0, p.1.0) in
        let s : Step = at_key (tree g p.0.0) in
        let P = o.0 in
        let M = o.1 in
        let Q = m.0 in
        let N = m.1 in
        let left_room = room - (length lines + length moves) in
        let lk = entry-below g are i li at q e in
        let left : left_part t s ≡ Some (tree g p.1.0) = value-there g are i li (tree g p.0.0) at q e (same_refl (tree g p.0.0)) in
        let right : right_part u s ≡ trees_of g other = value-ranked g are j lj p.0.0 (omega (arith, lk.0, li)) other k in
        let x : Lists g Q N (left_part t s) (right_part u s) left_room more more_moves v = subst (λ z. Lists g Q N z (right_part u s) left_room more more_moves v) (sym left) (subst (λ z. Lists g Q N (Some (tree g p.1.0)) z left_room more more_moves v) (sym right) m.2) in
        (put P s Q, put M s N, add-some g P Q M N t u room (EntriesBelow g i at) (EntriesBelow g i (at + 1)) lines more all moves more_moves all_moves w v b (Value p.0) (ap Some h) tt (no-ends (tree g i) (tree g j) map_left (P [])) o.2 x ea ma eb (keys-split i at q e) (keys-up i at) (at, q, omega arith, e, same_refl (tree g p.0.0)) (keys-fresh i at q li e) (key-before g are i j at li lj q e (P [])))

    pub rights-next : (at room : ℕ) (p : NodeId × NodeId) (lines more all : List Line) (moves more_moves all_moves : List MoveLine) (w v b : Bool) → slice_get (entries_at g j) at ≡ Some (p.0.0, p.1.0) → IsValueOf g (entries_at g i) (rank g p.0.0) None → Tells i j room (RightCovers g i j at) lines moves w
        → ((Q N : Pairing) × Lists g Q N None (Some (tree g p.1.0)) (room - (length lines + length moves)) more more_moves v) → all ≡ lines ++ map (under (Value p.0)) more → all_moves ≡ moves ++ map (moved_under (Value p.0)) more_moves → b ≡ (w && v)
        → Tells i j room (RightCovers g i j (at + 1)) all all_moves b
    rights-next at room p lines more all moves more_moves all_moves w v b e k o m ea ma eb =
        let q : ℕ × ℕ = (p.0.0, p.1.0) in
        let s : Step = at_key (tree g p.0.0) in
        let P = o.0 in
        let M = o.1 in
        let Q = m.0 in
        let N = m.1 in
        let left_room = room - (length lines + length moves) in
        let lk = entry-below g are j lj at q e in
        let left : left_part t s ≡ None = value-ranked g are i li p.0.0 (omega (arith, lk.0, lj)) None k in
        let right : right_part u s ≡ Some (tree g p.1.0) = value-there g are j lj (tree g p.0.0) at q e (same_refl (tree g p.0.0)) in
        let x : Lists g Q N (left_part t s) (right_part u s) left_room more more_moves v = subst (λ z. Lists g Q N z (right_part u s) left_room more more_moves v) (sym left) (subst (λ z. Lists g Q N None z left_room more more_moves v) (sym right) m.2) in
        (put P s Q, put M s N, add-some g P Q M N t u room (RightCovers g i j at) (RightCovers g i j (at + 1)) lines more all moves more_moves all_moves w v b (Value p.0) (ap Some h) tt (no-ends (tree g i) (tree g j) map_left (P [])) o.2 x ea ma eb (rights-split i j at q e) (rights-up i j at) (inr (at, q, omega arith, e, same_refl (tree g p.0.0))) (rights-fresh i j at q lj e left) (right-key-before g are i j at li lj q e left (P [])))

    -- nothing is added for a key that the left side has
    pub rights-skip : (at room : ℕ) (p : ℕ × ℕ) (value : NodeId) (lines : List Line) (moves : List MoveLine) (w : Bool) → slice_get (entries_at g j) at ≡ Some p → IsValueOf g (entries_at g i) (rank g p.0) (Some value) → Tells i j room (RightCovers g i j at) lines moves w → Tells i j room (RightCovers g i j (at + 1)) lines moves w
    rights-skip at room p value lines moves w e k o =
        let lk = entry-below g are j lj at p e in
        let left = value-ranked g are i li p.0 (omega (arith, lk.0, lj)) (Some value) k in
        (o.0, o.1, weaker g o.0 o.1 t u room (RightCovers g i j at) (RightCovers g i j (at + 1)) lines moves w (λ s c. elim (rights-split i j at p e s c) [ inl a ↦ a | inr a ↦ inl (has left s a) ]) (rights-up i j at) o.2)
      where
        has : part (tree g i) (plain.at_key (tree g p.0)) ≡ Some (tree g value.0) → (s : Step) → AlikeStep (at_key (tree g p.0)) s → LeftCovers g i s
        has left (at_key x) a = (tree g value.0, part-like (tree g i) x (tree g p.0) (same_sym (tree g p.0) x a) ∙ left)
        has left (at_places q) a = absurd (cc)

    pub rights-done : (at room : ℕ) (f : Found) → length (entries_at g j) ≤ at → Tells i j room (RightCovers g i j at) (lines_of f) (moves_of f) f.whole → Finds g t u room f
    rights-done at room f l o = (
      o.0,
      o.1,
      lists-done g o.0 o.1 t u room (RightCovers g i j at) (lines_of f) (moves_of f) (moves_of f) f.whole f.whole (ap Some h) o.2 (λ s a. by s) o.2.few (λ e. e) o.2.cut
          (done-moves g o.0 o.1 t u (RightCovers g i j at) (moves_of f) f.whole o.2.pairs none o.2.moved (λ s a. by s)),
    )
      where
        none : (p : Places) → Allows (o.1 []) (at_places p) → ⊥
        none p a = none-moved (o.0 []) (o.1 []) t u p (o.2.pairs []) (o.2.moved.settles []) (no-items (tree g i) map_left) a

        none-at : (v : Tree) → IsMapping v → (q : Option ℕ) → placed (Some v) q ≡ None
        none-at v m None = refl
        none-at v m (Some k) = no-item v m k

        by : (s : Step) → RightCovers g i j at s ⊎ ((left_part t s ≡ None) × (right_part u s ≡ None))
        by (at_places p) = inr (none-at (tree g i) map_left (left_place p), none-at (tree g j) map_right (right_place p))
        by (at_key x) = elim (option-cases (part (tree g i) (plain.at_key x))) [
          | inr v ↦ inl (inl v)
          | inl a ↦ elim (option-cases (part (tree g j) (plain.at_key x))) [
            | inl b ↦ inr (a, b)
            | inr v ↦
                let f = value-some g are j lj x v.0 v.1 in
                let m = slice_get_within (entries_at g j) f.0 f.1 f.2 in
                inl (inr (f.0, f.1, omega (arith, m, l), f.2, same_sym x (tree g f.1.0) f.3))
          ]
        ]
