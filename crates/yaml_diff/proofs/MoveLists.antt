-- Lists of moves, as they grow.
use Rattle.std.proofs.Common.{◌≡◌, ℕ, zero, suc, ◌+◌, ◌≤◌, Bool, true, false, ◌&&◌, ◌⊎◌, List, [], ◌∷◌, ◌++◌, map, take, length, inl, inr, refl, sym, ◌∙◌, ap, subst, arith}
use Rattle.std.specs.Prelude.{Option, Some, None}
use Rattle.std.specs.List.{slice_get}
use Rattle.yaml_definitions.specs.model.Tree.{Tree}
use Rattle.yaml_definitions.proofs.Members.{and_both}
use Rattle.yaml_store_rank.specs.Forests.{Forests}
use Rattle.yaml_tree.proofs.Lists.{get-more}
use Rattle.yaml_path.specs.Path.{head_of}
use Rattle.yaml_path.specs.Ways.{Step, Way, Pairing, PairsAll, Settles, SettlesAll, InOrderAll, Takes, Reaches, Allows, EndsPaired, EndsAlong, AlikeStep, alike_step, AlikeWay, at_places, count, left_part, right_part, left_end, right_end}
use Rattle.yaml_path.specs.declared.places.Places.{Places}
use Rattle.yaml_path.specs.declared.places.Places.TheVariants.{Both}
use Rattle.yaml_diff.specs.declared.difference.Step as code
use Rattle.yaml_diff.specs.Lines.{step_of, Line, way_of, Begins}
use Rattle.yaml_diff.specs.Moves.{MoveLine, here, moved_under, IsMoved, MoveListed, MovesApart, ListsMoves, ListsSomeMoves}
use Rattle.yaml_diff.proofs.ListParts.{get-nth, get-side, get-map, map-get, way-under, way-back, cross}
use Rattle.yaml_diff.proofs.WayLaws.{not-so, step-self, step-back, left-alike, right-alike, none-left, turn, calm, turn-settles, turn-order, put, put-same, put-other, put-settles, put-order}

pub no-line : {X : Type 0} (k : ℕ) (x : X) → slice_get [] k ≡ Some x → ⊥
no-line k x e = absurd (cc)

-- the line of a move whose nodes are left out
abbrev line : MoveLine → Line
line m = (m.0, (None, None))

move-way : (g : Forests) (s : code.Step) (m : MoveLine) → way_of g (moved_under s m).0 ≡ step_of g s ∷ way_of g m.0
move-way g s m = way-under g s (line m)

-- ---- one step more

module _ (g : Forests) (t u : Option Tree) where
  -- a move behind a step
  moved-under : (P Q M N : Pairing) (s : code.Step) (m : MoveLine) → head_of t ≡ head_of u → Allows (P []) (step_of g s) → EndsPaired (P []) t u → IsMoved g Q N (left_part t (step_of g s)) (right_part u (step_of g s)) m
      → IsMoved g (put P (step_of g s) Q) (put M (step_of g s) N) t u (moved_under s m)
  moved-under P Q M N s m h a n i =
      let e = move-way g s m in
      let b = put-same P (step_of g s) Q (step_of g s) (step-self (step_of g s)) in
      let c = put-same M (step_of g s) N (step_of g s) (step-self (step_of g s)) in
      let w = way_of g m.0 in
      let end = at_places m.1 ∷ [] in
      let x : Reaches (put P (step_of g s) Q) (step_of g s ∷ w) t u = (h, a, subst (λ z. Reaches z w (left_part t (step_of g s)) (right_part u (step_of g s))) (sym b) i.reaches) in
      let y : Allows (put M (step_of g s) N (step_of g s ∷ w)) (at_places m.1) = subst (λ z. Allows (z w) (at_places m.1)) (sym c) i.moved in
      let v : EndsAlong (put P (step_of g s) Q) (step_of g s ∷ (w ++ end)) t u = (n, subst (λ z. EndsAlong z (w ++ end) (left_part t (step_of g s)) (right_part u (step_of g s))) (sym b) i.ends) in
      record {
        reaches = subst (λ z. Reaches (put P (step_of g s) Q) z t u) (sym e) x;
        moved = subst (λ z. Allows (put M (step_of g s) N z) (at_places m.1)) (sym e) y;
        ends = subst (λ z. EndsAlong (put P (step_of g s) Q) (z ++ end) t u) (sym e) v;
      }

  -- a move whose way begins with another step
  moved-other : (P Q M N : Pairing) (s : Step) (m : MoveLine) (r : Step) (q : Way) → way_of g m.0 ≡ r ∷ q → alike_step r s ≡ false → IsMoved g P M t u m → IsMoved g (put P s Q) (put M s N) t u m
  moved-other P Q M N s m r q e n i =
      let b = put-other P s Q r n in
      let c = put-other M s N r n in
      let end = at_places m.1 ∷ [] in
      let x : Reaches P (r ∷ q) t u = subst (λ w. Reaches P w t u) e i.reaches in
      let y : Allows (M (r ∷ q)) (at_places m.1) = subst (λ w. Allows (M w) (at_places m.1)) e i.moved in
      let z : EndsAlong P (r ∷ (q ++ end)) t u = subst (λ w. EndsAlong P (w ++ end) t u) e i.ends in
      let xx : Reaches (put P s Q) (r ∷ q) t u = (x.0, x.1, subst (λ k. Reaches k q (left_part t r) (right_part u r)) (sym b) x.2) in
      let yy : Allows (put M s N (r ∷ q)) (at_places m.1) = subst (λ k. Allows (k q) (at_places m.1)) (sym c) y in
      let zz : EndsAlong (put P s Q) (r ∷ (q ++ end)) t u = (z.0, subst (λ k. EndsAlong k (q ++ end) (left_part t r) (right_part u r)) (sym b) z.1) in
      record {
        reaches = subst (λ w. Reaches (put P s Q) w t u) (sym e) xx;
        moved = subst (λ w. Allows (put M s N w) (at_places m.1)) (sym e) yy;
        ends = subst (λ w. EndsAlong (put P s Q) (w ++ end) t u) (sym e) zz;
      }

moves-apart-more : (g : Forests) (old : Step → Type 0) (s : code.Step) (moves more : List MoveLine) → MovesApart g moves → MovesApart g more → ((k : ℕ) (m : MoveLine) → slice_get moves k ≡ Some m → Begins old (way_of g m.0))
    → ((r : Step) → old r → AlikeStep r (step_of g s) → ⊥) → MovesApart g (moves ++ map (moved_under s) more)
moves-apart-more g old s moves more o m b f j k d e p q a h = elim (get-side moves (map (moved_under s) more) j d p) [
  | inl x ↦ elim (get-side moves (map (moved_under s) more) k e q) [
    | inl y ↦ o j k d e x y a h
    | inr y ↦ let z = get-map (moved_under s) more y.0 e y.2 in absurd (cross g old s (line d) (line z.0) (b j d x) f (subst (λ w. AlikeWay (way_of g d.0) (way_of g w.0)) (sym z.2) a))
  ]
  | inr x ↦ let v = get-map (moved_under s) more x.0 d x.2 in elim (get-side moves (map (moved_under s) more) k e q) [
    | inl y ↦ absurd (cross g old s (line e) (line v.0) (b k e y) f (subst (λ w. AlikeWay (way_of g e.0) (way_of g w.0)) (sym v.2) (way-back (way_of g d.0) (way_of g e.0) a)))
    | inr y ↦
        let z = get-map (moved_under s) more y.0 e y.2 in
        let l : AlikeWay (way_of g (moved_under s v.0).0) (way_of g (moved_under s z.0).0) = subst (λ w. AlikeWay (way_of g w.0) (way_of g (moved_under s z.0).0)) (sym v.2) (subst (λ w. AlikeWay (way_of g d.0) (way_of g w.0)) (sym z.2) a) in
        let i : AlikeWay (step_of g s ∷ way_of g v.0.0) (step_of g s ∷ way_of g z.0.0) = subst (λ w. AlikeWay w (step_of g s ∷ way_of g z.0.0)) (move-way g s v.0) (subst (AlikeWay (way_of g (moved_under s v.0).0)) (move-way g s z.0) l) in
        let c : v.0.1 ≡ z.0.1 = ap (λ w. w.1) v.2 ∙ h ∙ ap (λ w. w.1) (sym z.2) in
        let n = m x.0 y.0 v.0 z.0 v.1 z.1 i.1 c in
        omega (arith, x.1, y.1, n)
  ]
]

-- the moves behind a step are added
pub add-some-moves : (g : Forests) (P Q M N : Pairing) (t u : Option Tree) (old new : Step → Type 0) (moves more : List MoveLine) (w v : Bool) (s : code.Step) → head_of t ≡ head_of u → Allows (P []) (step_of g s) → EndsPaired (P []) t u
    → ListsSomeMoves g P M t u old moves w → ListsMoves g Q N (left_part t (step_of g s)) (right_part u (step_of g s)) more v
    → ((r : Step) → new r → old r ⊎ AlikeStep (step_of g s) r) → ((r : Step) → old r → new r) → new (step_of g s) → ((r : Step) → old r → AlikeStep r (step_of g s) → ⊥)
    → ListsSomeMoves g (put P (step_of g s) Q) (put M (step_of g s) N) t u new (moves ++ map (moved_under s) more) (w && v)
add-some-moves g P Q M N t u old new moves more w v s h allow ends o m c up here fresh = record {
  settles = put-settles P M (step_of g s) Q N o.settles m.settles;
  in_order = put-order P M (step_of g s) Q N o.in_order m.in_order;
  each = λ k d e. elim (get-side moves (map (moved_under s) more) k d e) [
    | inl f ↦ let x = o.covered k d f in moved-other g t u P Q M N (step_of g s) d x.0 x.1 x.2 (not-so (alike_step x.0 (step_of g s)) (fresh x.0 x.3)) (o.each k d f)
    | inr f ↦ let x = get-map (moved_under s) more f.0 d f.2 in subst (IsMoved g (put P (step_of g s) Q) (put M (step_of g s) N) t u) x.2 (moved-under g t u P Q M N s x.0 h allow ends (m.each f.0 x.0 x.1))
  ];
  whole = λ e r q p n d l. let a = and_both w v e in elim (c r n) [
    | inl i ↦
        let f = not-so (alike_step r (step_of g s)) (fresh r i) in
        let x : Reaches P (r ∷ q) t u = (d.0, d.1, subst (λ z. Reaches z q (left_part t r) (right_part u r)) (put-other P (step_of g s) Q r f) d.2) in
        let y : Allows (M (r ∷ q)) (at_places p) = subst (λ z. Allows (z q) (at_places p)) (put-other M (step_of g s) N r f) l in
        let k = o.whole a.0 r q p i x y in
        (k.0, k.1, get-more moves (map (moved_under s) more) k.0 k.1 k.2, k.3, k.4)
    | inr i ↦
        let j = step-back (step_of g s) r i in
        let x : Reaches Q q (left_part t r) (right_part u r) = subst (λ z. Reaches z q (left_part t r) (right_part u r)) (put-same P (step_of g s) Q r j) d.2 in
        let y : Reaches Q q (left_part t (step_of g s)) (right_part u (step_of g s)) = subst (λ z. Reaches Q q z (right_part u (step_of g s))) (left-alike t r (step_of g s) j) (subst (λ z. Reaches Q q (left_part t r) z) (right-alike u r (step_of g s) j) x) in
        let z : Allows (N q) (at_places p) = subst (λ b. Allows (b q) (at_places p)) (put-same M (step_of g s) N r j) l in
        let k = m.whole a.1 q p y z in
        (length moves + k.0, moved_under s k.1, get-nth moves (map (moved_under s) more) k.0 ∙ map-get (moved_under s) more k.0 k.1 k.2, subst (λ b. AlikeWay b (r ∷ q)) (sym (move-way g s k.1)) (i, k.3), k.4)
  ];
  apart = moves-apart-more g old s moves more o.apart m.apart o.covered fresh;
  covered = λ k d e. elim (get-side moves (map (moved_under s) more) k d e) [
    | inl f ↦ let x = o.covered k d f in (x.0, x.1, x.2, up x.0 x.3)
    | inr f ↦ let x = get-map (moved_under s) more f.0 d f.2 in (step_of g s, way_of g x.0.0, ap (λ z. way_of g z.0) (sym x.2) ∙ move-way g s x.0, here)
  ];
}

-- ---- no moves

pub some-no-moves : (g : Forests) (P M : Pairing) (t u : Option Tree) (covers : Step → Type 0) → SettlesAll P M → InOrderAll P M → ((s : Step) → covers s → ⊥) → ListsSomeMoves g P M t u covers [] true
some-no-moves g P M t u covers s o c = record {
  settles = s;
  in_order = o;
  each = λ k d e. absurd (no-line k d e);
  whole = λ p r q x i d. absurd (c r i);
  apart = λ j k d e a. absurd (no-line j d a);
  covered = λ k d e. absurd (no-line k d e);
}

pub calm-moves : (g : Forests) (t u : Option Tree) (w : Bool) → ListsMoves g (turn t u) calm t u [] w
calm-moves g t u w = record {
  settles = turn-settles t u;
  in_order = turn-order t u;
  each = λ k d e. absurd (no-line k d e);
  whole = λ p q x r a. absurd (no-line a.0 x a.1);
  apart = λ j k d e a. absurd (no-line j d a);
}

-- ---- moves of the trees themselves

get-take : {X : Type 0} (n : ℕ) (xs : List X) (k : ℕ) (x : X) → slice_get (take n xs) k ≡ Some x → slice_get xs k ≡ Some x
get-take zero xs k x e = absurd (no-line k x e)
get-take (suc n) [] k x e = absurd (no-line k x e)
get-take (suc n) (y ∷ xs) zero x e = e
get-take (suc n) (y ∷ xs) (suc k) x e = get-take n xs k x e

take-get : {X : Type 0} (n : ℕ) (xs : List X) (k : ℕ) (x : X) → length xs ≤ n → slice_get xs k ≡ Some x → slice_get (take n xs) k ≡ Some x
take-get n [] k x l e = absurd (no-line k x e)
take-get zero (y ∷ xs) k x l e = absurd (omega (arith, l))
take-get (suc n) (y ∷ xs) zero x l e = e
take-get (suc n) (y ∷ xs) (suc k) x l e = take-get n xs k x (omega (arith, l)) e

-- no step covers the trees themselves
here-begins : (g : Forests) (covers : Step → Type 0) (p : Places) → Begins covers (way_of g (here p).0) → ⊥
here-begins g covers p b = let e : [] ≡ b.0 ∷ b.1 = b.2 in absurd (cc)

no-way : (g : Forests) (m : MoveLine) (covers : Step → Type 0) → Begins covers (way_of g m.0) → AlikeWay (way_of g m.0) [] → ⊥
no-way g m covers b a = let e : AlikeWay (b.0 ∷ b.1) [] = subst (λ z. AlikeWay z []) b.2 a in e

way-no : (g : Forests) (m : MoveLine) (covers : Step → Type 0) → Begins covers (way_of g m.0) → AlikeWay [] (way_of g m.0) → ⊥
way-no g m covers b a = let e : AlikeWay [] (b.0 ∷ b.1) = subst (AlikeWay []) b.2 a in e

-- where there are no items, none has moved
pub none-moved : (ps moved : List Places) (t u : Option Tree) (p : Places) → Takes ps t u → Settles ps moved → count t ≡ 0 → Allows moved (at_places p) → ⊥
none-moved ps moved t u p a s e m =
    let x = s.pairs m.0 p m.1 in
    let y : Allows ps (at_places (Both x.0 x.1)) = subst (λ z. Allows ps (at_places z)) x.2 x.3 in
    let l = a.lefts.within y.0 (Both x.0 x.1) x.0 y.1 refl in
    omega (arith, l, e)

none-end : (q : Way) → left_end None q ≡ None
none-end [] = refl
none-end (s ∷ q) = ap (λ z. left_end z q) (none-left s) ∙ none-end q

none-below : (P M : Pairing) (t u : Option Tree) (s : Step) (q : Way) (p : Places) → PairsAll P t u → SettlesAll P M → left_part t s ≡ None → Allows (M (s ∷ q)) (at_places p) → ⊥
none-below P M t u s q p a m e x = none-moved (P (s ∷ q)) (M (s ∷ q)) (left_end t (s ∷ q)) (right_end u (s ∷ q)) p (a (s ∷ q)) (m (s ∷ q)) (ap (λ z. count (left_end z q)) e ∙ ap count (none-end q)) x

-- the moves of all steps, where none of the trees themselves has moved
pub done-moves : (g : Forests) (P M : Pairing) (t u : Option Tree) (covers : Step → Type 0) (moves : List MoveLine) (w : Bool) → PairsAll P t u → ((p : Places) → Allows (M []) (at_places p) → ⊥) → ListsSomeMoves g P M t u covers moves w
    → ((s : Step) → Allows (P []) s → covers s ⊎ ((left_part t s ≡ None) × (right_part u s ≡ None))) → ListsMoves g P M t u moves w
done-moves g P M t u covers moves w pairs none o c = record {
  settles = o.settles;
  in_order = o.in_order;
  each = o.each;
  whole = λ e q p r a. by e q p r a;
  apart = o.apart;
}
  where
    by : w ≡ true → (q : Way) (p : Places) → Reaches P q t u → Allows (M q) (at_places p) → MoveListed g q p moves
    by e [] p r a = absurd (none p a)
    by e (s ∷ q) p r a = elim (c s r.1) [ inl x ↦ o.whole e s q p x r a | inr x ↦ absurd (none-below P M t u s q p pairs o.settles x.0 a) ]

-- the first so many pairs of the trees themselves are added to the moves of all steps
pub add-own-moves : (g : Forests) (P M : Pairing) (t u : Option Tree) (covers : Step → Type 0) (moves : List MoveLine) (moved : List Places) (n : ℕ) (w b : Bool) → PairsAll P t u → head_of t ≡ head_of u → EndsPaired (P []) t u → M [] ≡ moved
    → ((j k : ℕ) (p : Places) → slice_get moved j ≡ Some p → slice_get moved k ≡ Some p → j ≡ k) → ListsSomeMoves g P M t u covers moves w
    → ((s : Step) → Allows (P []) s → covers s ⊎ ((left_part t s ≡ None) × (right_part u s ≡ None))) → (b ≡ true → (w ≡ true) × (length moved ≤ n)) → ListsMoves g P M t u (moves ++ map here (take n moved)) b
add-own-moves g P M t u covers moves moved n w b pairs h ends i once o c f = record {
  settles = o.settles;
  in_order = o.in_order;
  each = λ k d e. elim (get-side moves (map here (take n moved)) k d e) [
    | inl x ↦ o.each k d x
    | inr x ↦
        let y = get-map here (take n moved) x.0 d x.2 in
        let a : Allows (M []) (at_places y.0) = subst (λ z. Allows z (at_places y.0)) (sym i) (x.0, get-take n moved x.0 y.0 y.1) in
        subst (IsMoved g P M t u) y.2 (record { reaches = h; moved = a; ends = (ends, tt) })
  ];
  whole = λ e q p r a. by q p (f e) r a;
  apart = λ j k d e p q a l. elim (get-side moves (map here (take n moved)) j d p) [
    | inl x ↦ elim (get-side moves (map here (take n moved)) k e q) [
      | inl y ↦ o.apart j k d e x y a l
      | inr y ↦ let z = get-map here (take n moved) y.0 e y.2 in absurd (no-way g d covers (o.covered j d x) (subst (λ v. AlikeWay (way_of g d.0) (way_of g v.0)) (sym z.2) a))
    ]
    | inr x ↦ let v = get-map here (take n moved) x.0 d x.2 in elim (get-side moves (map here (take n moved)) k e q) [
      | inl y ↦ absurd (way-no g e covers (o.covered k e y) (subst (λ z. AlikeWay (way_of g z.0) (way_of g e.0)) (sym v.2) a))
      | inr y ↦
          let z = get-map here (take n moved) y.0 e y.2 in
          let same : z.0 ≡ v.0 = ap (λ m. m.1) z.2 ∙ sym l ∙ ap (λ m. m.1) (sym v.2) in
          let one = once x.0 y.0 v.0 (get-take n moved x.0 v.0 v.1) (subst (λ m. slice_get moved y.0 ≡ Some m) same (get-take n moved y.0 z.0 z.1)) in
          omega (arith, x.1, y.1, one)
    ]
  ];
}
  where
    by : (q : Way) (p : Places) → (w ≡ true) × (length moved ≤ n) → Reaches P q t u → Allows (M q) (at_places p) → MoveListed g q p (moves ++ map here (take n moved))
    by [] p l r a =
        let m : Allows moved (at_places p) = subst (λ z. Allows z (at_places p)) i a in
        (length moves + m.0, here p, get-nth moves (map here (take n moved)) m.0 ∙ map-get here (take n moved) m.0 p (take-get n moved m.0 p l.1 m.1), tt, refl)
    by (s ∷ q) p l r a = elim (c s r.1) [
      | inl x ↦ let k = o.whole l.0 s q p x r a in (k.0, k.1, get-more moves (map here (take n moved)) k.0 k.1 k.2, k.3, k.4)
      | inr x ↦ absurd (none-below P M t u s q p pairs o.settles x.0 a)
    ]
