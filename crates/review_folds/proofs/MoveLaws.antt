-- Groups of moves, one move or group after another.
use Rattle.std.proofs.Common.{◌≡◌, ℕ, suc, ◌+◌, ◌-◌, ◌<◌, ◌&&◌, Bool, true, false, inl, inr, List, [], ◌∷◌, ◌++◌, length, get_or, refl, sym, ◌∙◌, ap, subst, arith}
use Rattle.std.specs.Prelude.{Option, Some, None, IfSome}
use Rattle.std.specs.List.{slice_get}
use Rattle.yaml_path.specs.declared.places.Places.{Places}
use Rattle.yaml_path.specs.declared.places.Places.TheVariants.{Both, Left, Right}
use Rattle.yaml_diff.specs.declared.difference.Step.{Step}
use Rattle.yaml_diff.specs.declared.difference.Move.{Move}
use Rattle.yaml_diff.specs.declared.difference.Found.{Found}
use Rattle.review_folds.specs.Lists.{IsSpan}
use Rattle.review_folds.specs.Moves.{places_up, IsRange, OfOneList, IsSpanOf, IsWhole, Tells, Groups}
use Rattle.review_folds.specs.declared.lists.Span.{Span}
use Rattle.review_folds.proofs.ListLaws.{at_index, near, some-is}
use Rattle.review_folds.specs.declared.moves.Group.{Group}

-- ---- neighbours

up-none : (p : Places) → places_up 0 p ≡ p
up-none (Both j k) = let a : j + 0 ≡ j = omega arith in let b : k + 0 ≡ k = omega arith in ap (λ z. Both z (k + 0)) a ∙ ap (λ z. Both j z) b
up-none (Left j) = let a : j + 0 ≡ j = omega arith in ap Left a
up-none (Right k) = let a : k + 0 ≡ k = omega arith in ap Right a

up-more : (n m : ℕ) (p : Places) → m ≡ n + 1 → places_up 1 (places_up n p) ≡ places_up m p
up-more n m (Both j k) e = let a : (j + n) + 1 ≡ j + m = omega (arith, e) in let b : (k + n) + 1 ≡ k + m = omega (arith, e) in ap (λ z. Both z ((k + n) + 1)) a ∙ ap (λ z. Both (j + m) z) b
up-more n m (Left j) e = let a : (j + n) + 1 ≡ j + m = omega (arith, e) in ap Left a
up-more n m (Right k) e = let a : (k + n) + 1 ≡ k + m = omega (arith, e) in ap Right a

-- one move is a range
pub range_one : (moves : List Move) (first end : ℕ) → end ≡ first + 1 → IsRange moves first end
range_one moves first end q n a b l h k =
    let z : n ≡ 0 = omega (arith, l, q) in
    let w : first + n ≡ first = omega (arith, z) in
    let e : a ≡ b = some-is (sym h ∙ ap (slice_get moves) (sym w) ∙ k) in
    (ap (λ m. m.path.items) (sym e), ap (λ m. m.places) (sym e) ∙ sym (up-none a.places) ∙ ap (λ i. places_up i a.places) (sym z))

-- and the next one may be its next
pub range_more : (moves : List Move) (first next : ℕ) (p q : Move) → first < next → slice_get moves (next - 1) ≡ Some p → slice_get moves next ≡ Some q → q.path.items ≡ p.path.items → q.places ≡ places_up 1 p.places → IsRange moves first next → IsRange moves first (next + 1)
range_more moves first next p q l hp hq path places r n a b m h k = by (next - 1 - first) refl
  where
    by : (i : ℕ) → i ≡ next - 1 - first → (b.path.items ≡ a.path.items) × (b.places ≡ places_up n a.places)
    by i e = elim (near (first + n) next (omega (arith, m))) [
      | inl c ↦ r n a b c h k
      | inr c ↦
          let is : b ≡ q = some-is (sym k ∙ ap (slice_get moves) c ∙ hq) in
          let w : first + i ≡ next - 1 = omega (arith, e, l) in
          let before = r i a p (omega (arith, w, l)) h (ap (slice_get moves) w ∙ hp) in
          let u : n ≡ i + 1 = omega (arith, e, l, c) in
          (ap (λ z. z.path.items) is ∙ path ∙ before.0, ap (λ z. z.places) is ∙ places ∙ ap (places_up 1) before.1 ∙ up-more i n a.places u)
    ]

-- ---- moves of one list

pub one_none : (moves : List Move) (first : ℕ) → OfOneList moves first first
one_none moves first k a b l m h g = absurd (omega (arith, l, m))

pub one_more : (moves : List Move) (first number : ℕ) (p q : Move) → slice_get moves first ≡ Some p → slice_get moves number ≡ Some q → q.path.items ≡ p.path.items → OfOneList moves first number → OfOneList moves first (number + 1)
one_more moves first number p q hp hq e o k a b l m h g = elim (near k number m) [
  | inl c ↦ o k a b l c h g
  | inr c ↦
      let x : a ≡ p = some-is (sym h ∙ hp) in
      let y : b ≡ q = some-is (sym g ∙ ap (slice_get moves) c ∙ hq) in
      ap (λ z. z.path.items) y ∙ e ∙ ap (λ z. z.path.items) (sym x)
]

-- the span of the list of a move that is read
pub span_moved : (f : Found) (path : List Step) (first : ℕ) (x : Move) (r : Option Span) → first < length f.moves.items → x ≡ get_or f.moves.items first x → path ≡ x.path.items → IfSome r (IsSpan f path) → IfSome r (IsSpanOf f first)
span_moved f path first x None l e p h = tt
span_moved f path first x (Some s) l e p h = λ a q.
    let same : x ≡ a = some-is (sym (at_index f.moves.items first x l e) ∙ q) in
    subst (λ z. IsSpan f z s) (p ∙ ap (λ z. z.path.items) same) h

-- all that is at or below a list are these moves
pub whole_is : (f : Found) (first end : ℕ) (s : Span) → IsSpanOf f first s → f.whole ≡ true → s.first ≡ first → first < s.last → s.last < length f.moves.items → end ≡ s.last + 1 → OfOneList f.moves.items first end → IsWhole f first end
whole_is f first end s span w front several last e one = record {
  all = w;
  several = omega (arith, several, e);
  one = one;
  alone = λ k a b g h below. let in-span = (span a g).moves k b h below in (omega (arith, in-span.0, front), omega (arith, in-span.1, e));
  calm = λ k a d g h below. let behind = (span a g).differences k d h below in omega (arith, behind, last);
}

pub range_at : (xs ys : List Move) (first end : ℕ) → xs ≡ ys → IsRange xs first end → IsRange ys first end
range_at xs ys first end e h = subst (λ z. IsRange z first end) e h

pub one_at : (xs ys : List Move) (first end : ℕ) → xs ≡ ys → OfOneList xs first end → OfOneList ys first end
one_at xs ys first end e h = subst (λ z. OfOneList z first end) e h

-- ---- groups

pub tells_whole : (ranges whole : Bool) (f : Found) (first end : ℕ) → whole ≡ true → IsWhole f first end → Tells true ranges f whole first end
tells_whole ranges whole f first end e h = subst (λ z. Tells true ranges f z first end) (sym e) (refl, h)

pub tells_range : (folds ranges whole : Bool) (f : Found) (first end : ℕ) → whole ≡ false → IsRange f.moves.items first end → (suc first < end → (folds && ranges) ≡ true) → Tells folds ranges f whole first end
tells_range folds ranges whole f first end e h k = subst (λ z. Tells folds ranges f z first end) (sym e) (h, k)

pub groups_more : (folds ranges : Bool) (f : Found) (from mid : ℕ) (gs new : List Group) (g : Group) → Groups folds ranges f from mid gs → g.first ≡ mid → g.first < g.end → Tells folds ranges f g.whole g.first g.end → new ≡ gs ++ (g ∷ []) → Groups folds ranges f from g.end new
groups_more folds ranges f from mid gs new g h e l t q = subst (Groups folds ranges f from g.end) (sym q) (more from gs h)
  where
    more : (at : ℕ) (xs : List Group) → Groups folds ranges f at mid xs → Groups folds ranges f at g.end (xs ++ (g ∷ []))
    more at [] i = (e ∙ sym i, l, t, refl)
    more at (x ∷ xs) i = (i.0, i.1, i.2, more x.end xs i.3)
