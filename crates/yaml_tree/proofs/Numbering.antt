-- Nodes numbered in the order of their keys.
use Rattle.std.proofs.Common.{◌≡◌, ◌⊎◌, inl, inr, ℕ, zero, suc, ◌+◌, ◌-◌, ◌<◌, ◌≤◌, Bool, true, false, List, [], ◌∷◌, length, get_or, set, slice_index, refl, sym, ◌∙◌, ap, subst, arith, get_or-set_other, get_or-set_same}
use Rattle.std.specs.Prelude.{Some}
use Rattle.std.specs.List.{slice_get}
use Rattle.std.specs.declared.cmp.Ordering.{Ordering}
use Rattle.std.specs.declared.cmp.Ordering.TheVariants.{Less, Equal, Greater}
use Rattle.std.specs.Ordering.{nat_cmp, is_lt, ordering_reverse}
use Rattle.std.proofs.lemmas.Cmp.{tied_itself, nat_cmp_total}
use Rattle.std.proofs.Math.ListN.{length-set}
use Rattle.std.proofs.lemmas.Option.{get_or_from_slice_get}
use Rattle.yaml_definitions.specs.model.Tree.{Tree}
use Rattle.yaml_definitions.specs.model.Order.{tree_cmp}
use Rattle.yaml_definitions.proofs.OrderLaws.{tree_cmp-total, tree_same}
use Rattle.yaml_tree.specs.Numbered.{RisesBy, AgreeBy, Among, NumberedUpto}
use Rattle.yaml_tree.proofs.Numbers.{cmp-less, less-cmp, equal-cmp, greater-cmp}

-- The ranks once the keys before `end` are numbered, of which the last has the rank `rank`.
pub record Numbering {K : Type 0} (cmp : K → K → Ordering) (old : List ℕ) (start : ℕ) (keys : List (K × ℕ)) (end rank : ℕ) (ranks : List ℕ) : Type 0 where
  pub long : length ranks ≡ length old
  pub inside : end ≤ length keys
  pub others : (i : ℕ) → (Among i keys → ⊥) → slice_index ranks i ≡ slice_index old i
  pub first : end ≡ 0 → rank ≡ start
  pub low : start ≤ rank
  pub high : 0 < end → rank < start + end
  pub last : (k : ℕ) (x : K × ℕ) → k + 1 ≡ end → slice_get keys k ≡ Some x → slice_index ranks x.1 ≡ rank
  pub numbered : (a : ℕ → Tree) → AgreeBy cmp a keys → RisesBy cmp keys → NumberedUpto a start end keys ranks
  pub upto : (a : ℕ → Tree) → AgreeBy cmp a keys → RisesBy cmp keys → (k : ℕ) (x : K × ℕ) → k < end → slice_get keys k ≡ Some x → slice_index ranks x.1 ≤ rank

-- an element that is there, by `slice_get`
pub get-there : {X : Type 0} (xs : List X) (i : ℕ) (d : X) → i < length xs → slice_get xs i ≡ Some (get_or xs i d)
get-there [] i d h = absurd (omega arith)
get-there (x ∷ xs) zero d h = refl
get-there (x ∷ xs) (suc i) d h = get-there xs i d (omega arith)

pub get-within : {X : Type 0} (xs : List X) (i : ℕ) (x : X) → slice_get xs i ≡ Some x → i < length xs
get-within [] i x h = absurd (cc)
get-within (y ∷ xs) zero x h = omega arith
get-within (y ∷ xs) (suc i) x h = let r = get-within xs i x h in omega arith

pub one-there : {X : Type 0} (xs : List X) (i : ℕ) (x y : X) → slice_get xs i ≡ Some x → slice_get xs i ≡ Some y → x ≡ y
one-there xs i x y h k = let e : Some x ≡ Some y = sym h ∙ k in cc

module _ {K : Type 0} (cmp : K → K → Ordering) where
  -- ---- one more key

  module _ (old : List ℕ) (start : ℕ) (keys : List (K × ℕ)) (k rank new : ℕ) (ranks : List ℕ) (x : K × ℕ) (there : slice_get keys k ≡ Some x) (within : x.1 < length old) (before : Numbering cmp old start keys k rank ranks) where
    abbrev pub more : List ℕ
    more = set ranks x.1 new

    pub at-new : slice_index more x.1 ≡ new
    at-new = let l : x.1 < length ranks = omega (arith, before.long) in rw get_or-set_same refl

    at-other : (i : ℕ) → (i ≡ x.1 → ⊥) → slice_index more i ≡ slice_index ranks i
    at-other i n = let m : i ≡ x.1 → ⊥ = n in rw get_or-set_other refl

    -- the rank stays, and its key is that of the one before; or it is above all those before
    abbrev pub Goes : Type 0
    Goes = ((new ≡ rank) × ((0 < k) → (p : K × ℕ) → slice_get keys (k - 1) ≡ Some p → is_lt (cmp p.0 x.0) ≡ false)) ⊎ ((0 < k) × ((rank < new) × (new ≤ start + k)) × ((p : K × ℕ) → slice_get keys (k - 1) ≡ Some p → is_lt (cmp p.0 x.0) ≡ true))

    -- the last key before this one
    abbrev before_it : K × ℕ
    before_it = get_or keys (k - 1) x

    before-there : 0 < k → slice_get keys (k - 1) ≡ Some before_it
    before-there h = get-there keys (k - 1) x (omega (arith, get-within keys k x there))

    before-rank : 0 < k → slice_index ranks before_it.1 ≡ rank
    before-rank h = before.last (k - 1) before_it (omega arith) (before-there h)

    new-low : Goes → start ≤ new
    new-low (inl g) = let l = before.low in let q = g.0 in omega arith
    new-low (inr g) = let l = before.low in let q = g.1 in omega arith

    new-high : Goes → new < start + (k + 1)
    new-high (inl g) = by k refl
      where
        by : (m : ℕ) → m ≡ k → new < start + (k + 1)
        by zero e = let q = before.first (sym e) in let r = g.0 in omega arith
        by (suc m) e = let q = before.high (omega arith) in let r = g.0 in omega arith
    new-high (inr g) = let q = g.1 in omega arith

    rank-upto : Goes → rank ≤ new
    rank-upto (inl g) = let q = g.0 in omega arith
    rank-upto (inr g) = let q = g.1 in let h = before.high g.0 in omega arith

    module _ (goes : Goes) (a : ℕ → Tree) (agree : AgreeBy cmp a keys) (rises : RisesBy cmp keys) where
      numbered : NumberedUpto a start k keys ranks
      numbered = before.numbered a agree rises

      -- where the rank stays, the trees are one
      one_tree : 0 < k → is_lt (cmp before_it.0 x.0) ≡ false → a before_it.1 ≡ a x.1
      one_tree h e = tree_same (a before_it.1) (a x.1) (sym (agree (k - 1) k before_it x (before-there h) there) ∙ tied (cmp before_it.0 x.0) (cmp x.0 before_it.0) e (rises (k - 1) before_it x (before-there h) (subst (λ m. slice_get keys m ≡ Some x) (omega arith) there)) turned)
        where
          turned : cmp before_it.0 x.0 ≡ ordering_reverse (cmp x.0 before_it.0)
          turned =
              agree (k - 1) k before_it x (before-there h) there
              ∙ (tree_cmp-total.antisymm (a before_it.1) (a x.1) ∙ ap ordering_reverse (sym (agree k (k - 1) x before_it there (before-there h))))

          tied : (o r : Ordering) → is_lt o ≡ false → is_lt r ≡ false → o ≡ ordering_reverse r → o ≡ Equal
          tied Less r f g w = absurd (cc)
          tied Equal r f g w = refl
          tied Greater Less f g w = absurd (cc)
          tied Greater Equal f g w = absurd (cc)
          tied Greater Greater f g w = absurd (cc)

      is_less : (o : Ordering) → is_lt o ≡ true → o ≡ Less
      is_less Less e = refl
      is_less Equal e = absurd (cc)
      is_less Greater e = absurd (cc)

      less_tree : 0 < k → is_lt (cmp before_it.0 x.0) ≡ true → tree_cmp (a before_it.1) (a x.1) ≡ Less
      less_tree h e = sym (agree (k - 1) k before_it x (before-there h) there) ∙ is_less (cmp before_it.0 x.0) e

      module _ (j : ℕ) (y : K × ℕ) (l : j < k) (at : slice_get keys j ≡ Some y) where
        some : 0 < k
        some = omega arith

        -- against the last key before this one
        against : nat_cmp (slice_index ranks y.1) rank ≡ tree_cmp (a y.1) (a before_it.1)
        against = ap (nat_cmp (slice_index ranks y.1)) (sym (before-rank some)) ∙ numbered.ordered j (k - 1) y before_it l (omega arith) at (before-there some)

        rank-is : Goes → y.1 ≡ x.1 → slice_index ranks y.1 ≡ new
        rank-is (inl g) e =
            let t : a before_it.1 ≡ a y.1 = one_tree some (g.1 some before_it (before-there some)) ∙ ap a (sym e) in
            equal-cmp (slice_index ranks y.1) rank (against ∙ subst (λ z. tree_cmp (a y.1) z ≡ Equal) (sym t) (tied_itself tree_cmp-total (a y.1))) ∙ sym g.0
        rank-is (inr g) e =
            let t : tree_cmp (a before_it.1) (a y.1) ≡ Less = subst (λ z. tree_cmp (a before_it.1) (a z) ≡ Less) (sym e) (less_tree some (g.2 before_it (before-there some))) in
            let h : rank < slice_index ranks y.1 = greater-cmp (slice_index ranks y.1) rank (against ∙ (tree_cmp-total.antisymm (a y.1) (a before_it.1) ∙ ap ordering_reverse t)) in
            let u = before.upto a agree rises j y l at in
            absurd (omega arith)

        pub keeps : slice_index more y.1 ≡ slice_index ranks y.1
        keeps = by (nat_cmp y.1 x.1) refl
          where
            by : (o : Ordering) → nat_cmp y.1 x.1 ≡ o → slice_index more y.1 ≡ slice_index ranks y.1
            by Less e = let h = less-cmp y.1 x.1 e in at-other y.1 (λ q. absurd (omega arith))
            by Equal e = let q = equal-cmp y.1 x.1 e in ap (slice_index more) q ∙ (at-new ∙ sym (rank-is goes q))
            by Greater e = let h = greater-cmp y.1 x.1 e in at-other y.1 (λ q. absurd (omega arith))

        compares : Goes → nat_cmp (slice_index ranks y.1) new ≡ tree_cmp (a y.1) (a x.1)
        compares (inl g) = ap (nat_cmp (slice_index ranks y.1)) g.0 ∙ (against ∙ ap (tree_cmp (a y.1)) (one_tree some (g.1 some before_it (before-there some))))
        compares (inr g) = cmp-less (slice_index ranks y.1) new (let u = before.upto a agree rises j y l at in let h = before.high g.0 in let q = g.1 in omega arith) ∙ sym (by (nat_cmp (slice_index ranks y.1) rank) refl)
          where
            less : tree_cmp (a before_it.1) (a x.1) ≡ Less
            less = less_tree some (g.2 before_it (before-there some))

            by : (o : Ordering) → nat_cmp (slice_index ranks y.1) rank ≡ o → tree_cmp (a y.1) (a x.1) ≡ Less
            by Less e = tree_cmp-total.trans (a y.1) (a before_it.1) (a x.1) (sym against ∙ e) less
            by Equal e = subst (λ z. tree_cmp z (a x.1) ≡ Less) (sym (tree_same (a y.1) (a before_it.1) (sym against ∙ e))) less
            by Greater e = let h = greater-cmp (slice_index ranks y.1) rank e in let u = before.upto a agree rises j y l at in absurd (omega arith)

        compares-more : nat_cmp (slice_index more y.1) (slice_index more x.1) ≡ tree_cmp (a y.1) (a x.1)
        compares-more = (λ z. nat_cmp (keeps z) (at-new z)) ∙ compares goes

      -- each key up to this one is before it, or is this one
      split : (j : ℕ) (y : K × ℕ) → j < k + 1 → slice_get keys j ≡ Some y → (j < k) ⊎ (y ≡ x)
      split j y l at = by (nat_cmp j k) refl
        where
          by : (o : Ordering) → nat_cmp j k ≡ o → (j < k) ⊎ (y ≡ x)
          by Less e = inl (less-cmp j k e)
          by Equal e = let q = equal-cmp j k e in inr (one-there keys k y x (subst (λ m. slice_get keys m ≡ Some y) q at) there)
          by Greater e = let h = greater-cmp j k e in absurd (omega arith)

      more-ordered : (i j : ℕ) (y z : K × ℕ) → i < k + 1 → j < k + 1 → slice_get keys i ≡ Some y → slice_get keys j ≡ Some z → nat_cmp (slice_index more y.1) (slice_index more z.1) ≡ tree_cmp (a y.1) (a z.1)
      more-ordered i j y z l m p q = by (split i y l p) (split j z m q)
        where
          by : (i < k) ⊎ (y ≡ x) → (j < k) ⊎ (z ≡ x) → nat_cmp (slice_index more y.1) (slice_index more z.1) ≡ tree_cmp (a y.1) (a z.1)
          by (inl g) (inl h) = (λ w. nat_cmp (keeps i y g p w) (keeps j z h q w)) ∙ numbered.ordered i j y z g h p q
          by (inl g) (inr e) = subst (λ w. nat_cmp (slice_index more y.1) (slice_index more w.1) ≡ tree_cmp (a y.1) (a w.1)) (sym e) (compares-more i y g p)
          by (inr e) (inl h) = subst (λ w. nat_cmp (slice_index more w.1) (slice_index more z.1) ≡ tree_cmp (a w.1) (a z.1)) (sym e)
              (nat_cmp_total.antisymm (slice_index more x.1) (slice_index more z.1) ∙ (ap ordering_reverse (compares-more j z h q) ∙ sym (tree_cmp-total.antisymm (a x.1) (a z.1))))
          by (inr e) (inr f) = (λ w. nat_cmp (slice_index more (e w).1) (slice_index more (f w).1)) ∙ (tied_itself nat_cmp_total (slice_index more x.1) ∙ (sym (tied_itself tree_cmp-total (a x.1)) ∙ (λ w. tree_cmp (a (sym e w).1) (a (sym f w).1))))

      more-numbered : NumberedUpto a start (k + 1) keys more
      more-numbered = record {
        ordered = more-ordered;
        from = λ j y l at. elim (split j y l at) [
          | inl h ↦ subst (λ w. start ≤ w) (sym (keeps j y h at)) (numbered.from j y h at)
          | inr e ↦ subst (λ w. start ≤ slice_index more w.1) (sym e) (subst (λ w. start ≤ w) (sym at-new) (new-low goes))
        ];
        below = λ j y l at. elim (split j y l at) [
          | inl h ↦ subst (λ w. w < start + (k + 1)) (sym (keeps j y h at)) (let b = numbered.below j y h at in omega arith)
          | inr e ↦ subst (λ w. slice_index more w.1 < start + (k + 1)) (sym e) (subst (λ w. w < start + (k + 1)) (sym at-new) (new-high goes))
        ];
      }

      more-upto : (j : ℕ) (y : K × ℕ) → j < k + 1 → slice_get keys j ≡ Some y → slice_index more y.1 ≤ new
      more-upto j y l at = elim (split j y l at) [
        | inl h ↦ subst (λ w. w ≤ new) (sym (keeps j y h at)) (let u = before.upto a agree rises j y h at in let r = rank-upto goes in omega arith)
        | inr e ↦ subst (λ w. slice_index more w.1 ≤ new) (sym e) (subst (λ w. w ≤ new) (sym at-new) (omega arith))
      ]

    pub numbering-more : Goes → Numbering cmp old start keys (k + 1) new more
    numbering-more goes = record {
      long = length-set ranks x.1 new ∙ before.long;
      inside = omega (arith, get-within keys k x there);
      others = λ i n. at-other i (λ e. n (k, x, there, sym e)) ∙ before.others i n;
      first = λ e. absurd (omega arith);
      low = new-low goes;
      high = λ h. new-high goes;
      last = λ j y e at. let q : j ≡ k = omega arith in subst (λ w. slice_index more w.1 ≡ new) (sym (one-there keys k y x (subst (λ m. slice_get keys m ≡ Some y) q at) there)) at-new;
      numbered = λ a agree rises. more-numbered goes a agree rises;
      upto = λ a agree rises. more-upto goes a agree rises;
    }

  pub numbering-none : (old : List ℕ) (start : ℕ) (keys : List (K × ℕ)) → Numbering cmp old start keys 0 start old
  numbering-none old start keys = record {
    long = refl;
    inside = omega arith;
    others = λ i n. refl;
    first = λ e. refl;
    low = omega arith;
    high = λ h. absurd (omega arith);
    last = λ j y e at. absurd (omega arith);
    numbered = λ a agree rises. record { ordered = λ i j y z l m p q. absurd (omega arith); from = λ j y l at. absurd (omega arith); below = λ j y l at. absurd (omega arith) };
    upto = λ a agree rises j y l at. absurd (omega arith);
  }

  -- what the test on the last key before this one says of that key
  pub tested : (keys : List (K × ℕ)) (i : ℕ) (d p : K × ℕ) (y : K) (b v : Bool) → slice_get keys i ≡ Some p → b ≡ is_lt (cmp (get_or keys i d).0 y) → b ≡ v → is_lt (cmp p.0 y) ≡ v
  tested keys i d p y b v h e q = ap (λ z. is_lt (cmp z.0 y)) (sym (get_or_from_slice_get keys i p d h)) ∙ (sym e ∙ q)

  -- all keys are numbered
  pub finished : (old : List ℕ) (start : ℕ) (keys : List (K × ℕ)) (end rank : ℕ) (ranks : List ℕ) → Numbering cmp old start keys end rank ranks → length keys ≤ end → (a : ℕ → Tree) → AgreeBy cmp a keys → RisesBy cmp keys → NumberedUpto a start (length keys) keys ranks
  finished old start keys end rank ranks n l a agree rises =
      let m = n.numbered a agree rises in
      record {
        ordered = λ i j y z p q g h. m.ordered i j y z (omega arith) (omega arith) g h;
        from = λ j y p g. m.from j y (omega arith) g;
        below = λ j y p g. let b = m.below j y (omega arith) g in let i = n.inside in omega arith;
      }
