-- Lists of differences and moves, as they grow.
use Rattle.std.proofs.Common.{◌≡◌, ◌≢◌, ℕ, zero, suc, ◌+◌, ◌-◌, ◌<◌, ◌≤◌, Bool, true, false, ◌&&◌, ◌⊎◌, List, [], ◌∷◌, ◌++◌, map, length, inl, inr, refl, sym, ◌∙◌, ap, subst, arith, length-append}
use Rattle.std.specs.Prelude.{Option, Some, None, Result, Ok, Err, IfOk}
use Rattle.std.specs.List.{slice_get}
use Rattle.std.proofs.lemmas.List.{length-map}
use Rattle.std.proofs.lemmas.Option.{slice_get_within}
use Rattle.yaml_definitions.specs.model.Tree.{Tree}
use Rattle.yaml_definitions.proofs.Members.{and_both}
use Rattle.yaml_tree.specs.declared.node.NodeId.{NodeId}
use Rattle.yaml_store_rank.specs.Forests.{Forests}
use Rattle.yaml_tree.proofs.Lists.{get-more}
use Rattle.yaml_path.specs.Path.{head_of}
use Rattle.yaml_path.specs.Ways.{Step, Way, Pairing, PairsAll, SettlesAll, InOrderAll, below, Allows, Differs, EndsPaired, EndsAlong, AlikeStep, alike_step, AlikeWay, StepBefore, WayBefore, left_part, right_part, left_end, right_end}
use Rattle.yaml_diff.specs.declared.difference.Step as code
use Rattle.yaml_diff.specs.Lines.{trees_of, step_of, Line, way_of, under, IsTold, Listed, Apart, Ordered, Begins}
use Rattle.yaml_diff.specs.Moves.{MoveLine, moved_under, ListsMoves}
use Rattle.yaml_diff.specs.Listing.{Lists, ListsSome}
use Rattle.std.specs.declared.alloc.AllocError.{AllocError}
use Rattle.yaml_diff.specs.declared.difference.Found.{Found}
use Rattle.yaml_diff.specs.Found.{lines_of, moves_of, Finds}
use Rattle.yaml_diff.proofs.ListParts.{get-nth, get-side, get-map, map-get, some-is, way-under, way-back, cross}
use Rattle.yaml_diff.proofs.WayLaws.{not-so, step-self, step-back, left-alike, right-alike, none-part, turn, turn-pairs, calm, put, put-same, put-other, put-pairs}
use Rattle.yaml_diff.proofs.MoveLists.{add-some-moves, some-no-moves, calm-moves, no-line}

module _ (g : Forests) (t u : Option Tree) where
  -- a line behind a step
  told-under : (P Q : Pairing) (s : code.Step) (d : Line) → head_of t ≡ head_of u → Allows (P []) (step_of g s) → EndsPaired (P []) t u → IsTold g Q (left_part t (step_of g s)) (right_part u (step_of g s)) d → IsTold g (put P (step_of g s) Q) t u (under s d)
  told-under P Q s d h a n i =
      let e = way-under g s d in
      let b = put-same P (step_of g s) Q (step_of g s) (step-self (step_of g s)) in
      record {
        differs = subst (λ w. Differs (put P (step_of g s) Q) w t u) (sym e) (h, a, subst (λ z. Differs z (way_of g d.0) (left_part t (step_of g s)) (right_part u (step_of g s))) (sym b) i.differs);
        left = subst (λ w. left_end t w ≡ trees_of g d.1.0) (sym e) i.left;
        right = subst (λ w. right_end u w ≡ trees_of g d.1.1) (sym e) i.right;
        ends = subst (λ w. EndsAlong (put P (step_of g s) Q) w t u) (sym e) (n, subst (λ z. EndsAlong z (way_of g d.0) (left_part t (step_of g s)) (right_part u (step_of g s))) (sym b) i.ends);
      }

  -- a line that begins with another step
  told-other : (P Q : Pairing) (s : Step) (d : Line) (r : Step) (q : Way) → way_of g d.0 ≡ r ∷ q → alike_step r s ≡ false → IsTold g P t u d → IsTold g (put P s Q) t u d
  told-other P Q s d r q e n i =
      let b = put-other P s Q r n in
      let x : Differs P (r ∷ q) t u = subst (λ w. Differs P w t u) e i.differs in
      let y : EndsAlong P (r ∷ q) t u = subst (λ w. EndsAlong P w t u) e i.ends in
      record {
        differs = subst (λ w. Differs (put P s Q) w t u) (sym e) (x.0, x.1, subst (λ z. Differs z q (left_part t r) (right_part u r)) (sym b) x.2);
        left = i.left;
        right = i.right;
        ends = subst (λ w. EndsAlong (put P s Q) w t u) (sym e) (y.0, subst (λ z. EndsAlong z q (left_part t r) (right_part u r)) (sym b) y.1);
      }

  before-other : (P Q : Pairing) (s : Step) (p o : Way) (r : Step) (q : Way) → p ≡ r ∷ q → alike_step r s ≡ false → (v : Step) (w : Way) → o ≡ v ∷ w → WayBefore P t u p o → WayBefore (put P s Q) t u p o
  before-other P Q s p o r q e n v w f b =
      let x : WayBefore P t u (r ∷ q) (v ∷ w) = subst (λ z. WayBefore P t u z (v ∷ w)) e (subst (WayBefore P t u p) f b) in
      let y : WayBefore (put P s Q) t u (r ∷ q) (v ∷ w) = elim x [ inl c ↦ inl c | inr c ↦ inr (c.0, subst (λ z. WayBefore z (left_part t r) (right_part u r) q w) (sym (put-other P s Q r n)) c.1) ] in
      subst (λ z. WayBefore (put P s Q) t u z o) (sym e) (subst (WayBefore (put P s Q) t u (r ∷ q)) (sym f) y)

apart-more : (g : Forests) (old : Step → Type 0) (s : code.Step) (lines more : List Line) → Apart g lines → Apart g more → ((k : ℕ) (d : Line) → slice_get lines k ≡ Some d → Begins old (way_of g d.0))
    → ((r : Step) → old r → AlikeStep r (step_of g s) → ⊥) → Apart g (lines ++ map (under s) more)
apart-more g old s lines more o m b f j k d e p q a = elim (get-side lines (map (under s) more) j d p) [
  | inl x ↦ elim (get-side lines (map (under s) more) k e q) [
    | inl y ↦ o j k d e x y a
    | inr y ↦ let z = get-map (under s) more y.0 e y.2 in absurd (cross g old s d z.0 (b j d x) f (subst (λ w. AlikeWay (way_of g d.0) (way_of g w.0)) (sym z.2) a))
  ]
  | inr x ↦ let v = get-map (under s) more x.0 d x.2 in elim (get-side lines (map (under s) more) k e q) [
    | inl y ↦ absurd (cross g old s e v.0 (b k e y) f (subst (λ w. AlikeWay (way_of g e.0) (way_of g w.0)) (sym v.2) (way-back (way_of g d.0) (way_of g e.0) a)))
    | inr y ↦
        let z = get-map (under s) more y.0 e y.2 in
        let h : AlikeWay (way_of g (under s v.0).0) (way_of g (under s z.0).0) = subst (λ w. AlikeWay (way_of g w.0) (way_of g (under s z.0).0)) (sym v.2) (subst (λ w. AlikeWay (way_of g d.0) (way_of g w.0)) (sym z.2) a) in
        let i : AlikeWay (step_of g s ∷ way_of g v.0.0) (step_of g s ∷ way_of g z.0.0) = subst (λ w. AlikeWay w (step_of g s ∷ way_of g z.0.0)) (way-under g s v.0) (subst (AlikeWay (way_of g (under s v.0).0)) (way-under g s z.0) h) in
        let n = m x.0 y.0 v.0 z.0 v.1 z.1 i.1 in
        omega (arith, x.1, y.1, n)
  ]
]

-- lines behind a new step stand in order behind the old ones
ordered-more : (g : Forests) (P Q : Pairing) (t u : Option Tree) (old : Step → Type 0) (s : code.Step) (lines more : List Line) → Ordered g P t u lines → Ordered g Q (left_part t (step_of g s)) (right_part u (step_of g s)) more
    → ((k : ℕ) (d : Line) → slice_get lines k ≡ Some d → Begins old (way_of g d.0)) → ((r : Step) → old r → AlikeStep r (step_of g s) → ⊥) → ((r : Step) → old r → StepBefore (P []) t u r (step_of g s))
    → Ordered g (put P (step_of g s) Q) t u (lines ++ map (under s) more)
ordered-more g P Q t u old s lines more o m b f n j k d e l p q = elim (get-side lines (map (under s) more) j d p) [
  | inl x ↦ elim (get-side lines (map (under s) more) k e q) [
    | inl y ↦
        let c = b j d x in
        let a = b k e y in
        before-other g t u P Q (step_of g s) (way_of g d.0) (way_of g e.0) c.0 c.1 c.2 (not-so (alike_step c.0 (step_of g s)) (f c.0 c.3)) a.0 a.1 a.2 (o j k d e l x y)
    | inr y ↦
        let z = get-map (under s) more y.0 e y.2 in
        let c = b j d x in
        let w : WayBefore (put P (step_of g s) Q) t u (c.0 ∷ c.1) (step_of g s ∷ way_of g z.0.0) = inl (n c.0 c.3) in
        let v : WayBefore (put P (step_of g s) Q) t u (way_of g d.0) (way_of g (under s z.0).0) = subst (λ i. WayBefore (put P (step_of g s) Q) t u i (way_of g (under s z.0).0)) (sym c.2) (subst (WayBefore (put P (step_of g s) Q) t u (c.0 ∷ c.1)) (sym (way-under g s z.0)) w) in
        subst (λ i. WayBefore (put P (step_of g s) Q) t u (way_of g d.0) (way_of g i.0)) z.2 v
  ]
  | inr x ↦ elim (get-side lines (map (under s) more) k e q) [
    | inl y ↦ absurd (let i = slice_get_within lines k e y in omega (arith, x.1, i, l))
    | inr y ↦
        let v = get-map (under s) more x.0 d x.2 in
        let z = get-map (under s) more y.0 e y.2 in
        let r = m x.0 y.0 v.0 z.0 (omega (arith, x.1, y.1, l)) v.1 z.1 in
        let i : WayBefore (put P (step_of g s) Q) t u (step_of g s ∷ way_of g v.0.0) (step_of g s ∷ way_of g z.0.0) =
        inr (step-self (step_of g s), subst (λ c. WayBefore c (left_part t (step_of g s)) (right_part u (step_of g s)) (way_of g v.0.0) (way_of g z.0.0)) (sym (put-same P (step_of g s) Q (step_of g s) (step-self (step_of g s)))) r) in
        let h : WayBefore (put P (step_of g s) Q) t u (way_of g (under s v.0).0) (way_of g (under s z.0).0) =
        subst (λ c. WayBefore (put P (step_of g s) Q) t u c (way_of g (under s z.0).0)) (sym (way-under g s v.0)) (subst (WayBefore (put P (step_of g s) Q) t u (step_of g s ∷ way_of g v.0.0)) (sym (way-under g s z.0)) i) in
        subst (λ c. WayBefore (put P (step_of g s) Q) t u (way_of g c.0) (way_of g e.0)) v.2 (subst (λ c. WayBefore (put P (step_of g s) Q) t u (way_of g (under s v.0).0) (way_of g c.0)) z.2 h)
  ]
]

-- the differences and moves behind a step are added
pub add-some : (g : Forests) (P Q M N : Pairing) (t u : Option Tree) (room : ℕ) (old new : Step → Type 0) (lines more all : List Line) (moves more_moves all_moves : List MoveLine) (w v b : Bool) (s : code.Step) → head_of t ≡ head_of u → Allows (P []) (step_of g s) → EndsPaired (P []) t u
    → ListsSome g P M t u room old lines moves w → Lists g Q N (left_part t (step_of g s)) (right_part u (step_of g s)) (room - (length lines + length moves)) more more_moves v → all ≡ lines ++ map (under s) more → all_moves ≡ moves ++ map (moved_under s) more_moves → b ≡ (w && v)
    → ((r : Step) → new r → old r ⊎ AlikeStep (step_of g s) r) → ((r : Step) → old r → new r) → new (step_of g s) → ((r : Step) → old r → AlikeStep r (step_of g s) → ⊥)
    → ((r : Step) → old r → StepBefore (P []) t u r (step_of g s)) → ListsSome g (put P (step_of g s) Q) (put M (step_of g s) N) t u room new all all_moves b
add-some g P Q M N t u room old new lines more all moves more_moves all_moves w v b s h allow ends o m ea ma eb c up here fresh before = subst (λ z. ListsSome g R K t u room new z all_moves b) (sym ea) (subst (λ z. ListsSome g R K t u room new (lines ++ map (under s) more) z b) (sym ma) (subst (λ z. ListsSome g R K t u room new (lines ++ map (under s) more) (moves ++ map (moved_under s) more_moves) z) (sym eb) (record {
  pairs = put-pairs P (step_of g s) Q t u o.pairs m.pairs;
  each = λ k d e. elim (get-side lines (map (under s) more) k d e) [
    | inl f ↦ let x = o.covered k d f in told-other g t u P Q (step_of g s) d x.0 x.1 x.2 (not-so (alike_step x.0 (step_of g s)) (fresh x.0 x.3)) (o.each k d f)
    | inr f ↦ let x = get-map (under s) more f.0 d f.2 in subst (IsTold g R t u) x.2 (told-under g t u P Q s x.0 h allow ends (m.each f.0 x.0 x.1))
  ];
  few = omega (arith, total, total_moves, o.few, m.few);
  whole = λ p r q n d. let a = and_both w v p in elim (c r n) [
    | inl i ↦
        let x : Differs P (r ∷ q) t u = (d.0, d.1, subst (λ z. Differs z q (left_part t r) (right_part u r)) (put-other P (step_of g s) Q r (not-so (alike_step r (step_of g s)) (fresh r i))) d.2) in
        let l = o.whole a.0 r q i x in
        (l.0, l.1, get-more lines (map (under s) more) l.0 l.1 l.2, l.3)
    | inr i ↦
        let j = step-back (step_of g s) r i in
        let x : Differs Q q (left_part t r) (right_part u r) = subst (λ z. Differs z q (left_part t r) (right_part u r)) (put-same P (step_of g s) Q r j) d.2 in
        let y : Differs Q q (left_part t (step_of g s)) (right_part u (step_of g s)) = subst (λ z. Differs Q q z (right_part u (step_of g s))) (left-alike t r (step_of g s) j) (subst (λ z. Differs Q q (left_part t r) z) (right-alike u r (step_of g s) j) x) in
        let l = m.whole a.1 q y in
        (length lines + l.0, under s l.1, get-nth lines (map (under s) more) l.0 ∙ map-get (under s) more l.0 l.1 l.2, subst (λ z. AlikeWay z (r ∷ q)) (sym (way-under g s l.1)) (i, l.3))
  ];
  cut = λ p. by w v p o.cut m.cut;
  apart = apart-more g old s lines more o.apart m.apart o.covered fresh;
  ordered = ordered-more g P Q t u old s lines more o.ordered m.ordered o.covered fresh before;
  covered = λ k d e. elim (get-side lines (map (under s) more) k d e) [
    | inl f ↦ let x = o.covered k d f in (x.0, x.1, x.2, up x.0 x.3)
    | inr f ↦ let x = get-map (under s) more f.0 d f.2 in (step_of g s, way_of g x.0.0, ap (λ z. way_of g z.0) (sym x.2) ∙ way-under g s x.0, here)
  ];
  moved = add-some-moves g P Q M N t u old new moves more_moves w v s h allow ends o.moved m.moved c up here fresh;
})))
  where
    R : Pairing
    R = put P (step_of g s) Q

    K : Pairing
    K = put M (step_of g s) N

    total : length (lines ++ map (under s) more) ≡ length lines + length more
    total = omega (arith, length-append lines (map (under s) more), length-map more (under s))

    total_moves : length (moves ++ map (moved_under s) more_moves) ≡ length moves + length more_moves
    total_moves = omega (arith, length-append moves (map (moved_under s) more_moves), length-map more_moves (moved_under s))

    by : (w v : Bool) → (w && v) ≡ false → (w ≡ false → length lines + length moves ≡ room) → (v ≡ false → length more + length more_moves ≡ room - (length lines + length moves)) → length (lines ++ map (under s) more) + length (moves ++ map (moved_under s) more_moves) ≡ room
    by false v p f k = omega (arith, total, total_moves, o.few, m.few, f refl)
    by true false p f k = omega (arith, total, total_moves, o.few, m.few, k refl)
    by true true p f k = absurd (cc)

-- ---- the ends

-- all steps are covered, and these moves of the two themselves are added
pub lists-done : (g : Forests) (P M : Pairing) (t u : Option Tree) (room : ℕ) (covers : Step → Type 0) (lines : List Line) (moves all : List MoveLine) (w b : Bool) → head_of t ≡ head_of u → ListsSome g P M t u room covers lines moves w
    → ((s : Step) → Allows (P []) s → covers s ⊎ ((left_part t s ≡ None) × (right_part u s ≡ None))) → length lines + length all ≤ room → (b ≡ true → w ≡ true) → (b ≡ false → length lines + length all ≡ room) → ListsMoves g P M t u all b → Lists g P M t u room lines all b
lists-done g P M t u room covers lines moves all w b h l c few on cut a = record {
  pairs = l.pairs;
  each = l.each;
  few = few;
  whole = λ p q d. by q (on p) d;
  cut = cut;
  apart = l.apart;
  ordered = l.ordered;
  moved = a;
}
  where
    by : (q : Way) → w ≡ true → Differs P q t u → Listed g q lines
    by [] p d = absurd (d h)
    by (s ∷ q) p d = elim (c s d.1) [
      | inl i ↦ l.whole p s q i d
      | inr i ↦ absurd (none-part (below P s) q (left_part t s) (right_part u s) i.0 i.1 d.2)
    ]

pub some-none : (g : Forests) (P M : Pairing) (t u : Option Tree) (room : ℕ) (covers : Step → Type 0) (lines : List Line) (moves : List MoveLine) (w : Bool) → PairsAll P t u → SettlesAll P M → InOrderAll P M → lines ≡ [] → moves ≡ [] → w ≡ true → ((s : Step) → covers s → ⊥) → ListsSome g P M t u room covers lines moves w
some-none g P M t u room covers lines moves w a m o e n f c = subst (λ z. ListsSome g P M t u room covers z moves w) (sym e) (subst (λ z. ListsSome g P M t u room covers [] z w) (sym n) (subst (λ z. ListsSome g P M t u room covers [] [] z) (sym f) (record {
  pairs = a;
  each = λ k d e. absurd (no-line k d e);
  few = omega arith;
  whole = λ p s q i d. absurd (c s i);
  cut = λ p. absurd (cc);
  apart = λ j k d e a. absurd (no-line j d a);
  ordered = λ j k d e l a. absurd (no-line j d a);
  covered = λ k d e. absurd (no-line k d e);
  moved = some-no-moves g P M t u covers m o c;
})))

-- no differences
pub lists-none : (g : Forests) (t u : Option Tree) (room : ℕ) (lines : List Line) (moves : List MoveLine) (w : Bool) → lines ≡ [] → moves ≡ [] → w ≡ true → ((q : Way) → Differs (turn t u) q t u → ⊥) → Lists g (turn t u) calm t u room lines moves w
lists-none g t u room lines moves w e m f n = subst (λ z. Lists g (turn t u) calm t u room z moves w) (sym e) (subst (λ z. Lists g (turn t u) calm t u room [] z w) (sym m) (subst (λ z. Lists g (turn t u) calm t u room [] [] z) (sym f) (record {
  pairs = turn-pairs t u;
  each = λ k d e. absurd (no-line k d e);
  few = omega arith;
  whole = λ p q d. absurd (n q d);
  cut = λ p. absurd (cc);
  apart = λ j k d e a. absurd (no-line j d a);
  ordered = λ j k d e l a. absurd (no-line j d a);
  moved = calm-moves g t u true;
})))

-- no room
pub lists-cut : (g : Forests) (t u : Option Tree) (room : ℕ) (lines : List Line) (moves : List MoveLine) (w : Bool) → lines ≡ [] → moves ≡ [] → w ≡ false → room ≡ 0 → Lists g (turn t u) calm t u room lines moves w
lists-cut g t u room lines moves w e m f z = subst (λ y. Lists g (turn t u) calm t u room y moves w) (sym e) (subst (λ y. Lists g (turn t u) calm t u room [] y w) (sym m) (subst (λ y. Lists g (turn t u) calm t u room [] [] y) (sym f) (record {
  pairs = turn-pairs t u;
  each = λ k d e. absurd (no-line k d e);
  few = omega arith;
  whole = λ p q d. absurd (cc);
  cut = λ p. omega (arith, z);
  apart = λ j k d e a. absurd (no-line j d a);
  ordered = λ j k d e l a. absurd (no-line j d a);
  moved = calm-moves g t u false;
})))

-- one difference, at the roots
pub lists-one : (g : Forests) (t u : Option Tree) (l r : Option NodeId) (room : ℕ) (lines : List Line) (moves : List MoveLine) (w : Bool) → lines ≡ ([], (l, r)) ∷ [] → moves ≡ [] → w ≡ true → 0 < room → head_of t ≢ head_of u → t ≡ trees_of g l → u ≡ trees_of g r → Lists g (turn t u) calm t u room lines moves w
lists-one g t u l r room lines moves w e v f m n a b = subst (λ z. Lists g (turn t u) calm t u room z moves w) (sym e) (subst (λ z. Lists g (turn t u) calm t u room (([], (l, r)) ∷ []) z w) (sym v) (subst (λ z. Lists g (turn t u) calm t u room (([], (l, r)) ∷ []) [] z) (sym f) (record {
  pairs = turn-pairs t u;
  each = λ k d h. by k d h;
  few = omega (arith, m);
  whole = λ p q d. at q d;
  cut = λ p. absurd (cc);
  apart = single;
  ordered = lone;
  moved = calm-moves g t u true;
})))
  where
    single : Apart g (([], (l, r)) ∷ [])
    single zero zero d e p q a = refl
    single (suc j) k d e p q a = absurd (no-line j d p)
    single zero (suc k) d e p q a = absurd (no-line k e q)

    lone : Ordered g (turn t u) t u (([], (l, r)) ∷ [])
    lone j zero d e x p q = absurd (omega arith)
    lone j (suc k) d e x p q = absurd (no-line k e q)

    told : IsTold g (turn t u) t u ([], (l, r))
    told = record { differs = n; left = a; right = b; ends = tt }

    by : (k : ℕ) (d : Line) → slice_get (([], (l, r)) ∷ []) k ≡ Some d → IsTold g (turn t u) t u d
    by zero d h = let q : ([], (l, r)) ≡ d = some-is h in subst (IsTold g (turn t u) t u) q told
    by (suc k) d h = absurd (no-line k d h)

    at : (q : Way) → Differs (turn t u) q t u → Listed g q (([], (l, r)) ∷ [])
    at [] d = (0, ([], (l, r)), refl, tt)
    at (s ∷ q) d = absurd (n d.0)

pub one-ok : (g : Forests) (t u : Option Tree) (l r : Option NodeId) (room : ℕ) (answer : Result Found AllocError) → IfOk answer (λ f. lines_of f ≡ ([], (l, r)) ∷ []) → IfOk answer (λ f. moves_of f ≡ []) → IfOk answer (λ f. f.whole ≡ true) → 0 < room → head_of t ≢ head_of u → t ≡ trees_of g l → u ≡ trees_of g r → IfOk answer (Finds g t u room)
one-ok g t u l r room (Ok f) a v b m n p q = (turn t u, calm, lists-one g t u l r room (lines_of f) (moves_of f) f.whole a v b m n p q)
one-ok g t u l r room (Err e) a v b m n p q = tt
