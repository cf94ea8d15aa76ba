-- Lists of places, as they grow.
use Rattle.std.proofs.Common.{◌≡◌, ℕ, zero, suc, ◌+◌, ◌-◌, ◌<◌, ◌≤◌, ◌⊎◌, inl, inr, List, [], ◌∷◌, ◌++◌, length, get_or, refl, sym, ◌∙◌, ap, subst, arith}
use Rattle.std.specs.Prelude.{Option, Some, None, Result, Ok, Err, OnOk}
use Rattle.std.specs.declared.alloc.AllocError.{AllocError}
use Rattle.std.specs.List.{slice_get}
use Rattle.std.proofs.lemmas.List.{append_assoc}
use Rattle.yaml_tree.specs.declared.node.NodeId.{NodeId}
use Rattle.yaml_tree.proofs.Lists.{get-more}
use Rattle.yaml_path.specs.Ways.{left_place, right_place, put_before, places_by, numbers, turns}
use Rattle.yaml_path.specs.declared.places.Places.{Places}
use Rattle.yaml_path.specs.declared.places.Places.TheVariants.{Both, Left, Right}
use Rattle.std.proofs.lemmas.Option.{slice_get_within, get_or_from_slice_get, slice_get-get_or}
use Rattle.yaml_store_rank.specs.Forests.{Forests, rank}
use Rattle.yaml_diff.specs.Found.{Aligns, SameRanks}
use Rattle.yaml_diff.specs.Aligning.{IsFront, IsBack, AlignsFrom}
use Rattle.yaml_diff.proofs.ListParts.{get-behind}
use Rattle.yaml_diff.proofs.WayLaws.{turns-left, turns-right, takes-each, rising-settles, rising-order, no-step}

-- ---- one more

abbrev by-ends : List Places → (l r n m : ℕ) → List Places
by-ends list l r n m = list ++ turns l r (n - l) (m - r)

pub step_both : (list : List Places) (l r n m : ℕ) → l < n → r < m → (list ++ (Both l r ∷ [])) ++ turns (l + 1) (r + 1) (n - (l + 1)) (m - (r + 1)) ≡ list ++ turns l r (n - l) (m - r)
step_both list l r n m a b =
    let p : n - l ≡ suc (n - (l + 1)) = omega (arith, a) in
    let q : m - r ≡ suc (m - (r + 1)) = omega (arith, b) in
    let x : suc l ≡ l + 1 = omega arith in
    let y : suc r ≡ r + 1 = omega arith in
    let z : turns l r (n - l) (m - r) ≡ Both l r ∷ turns (suc l) (suc r) (n - (l + 1)) (m - (r + 1)) = ap (λ i. turns l r i (m - r)) p ∙ ap (λ i. turns l r (suc (n - (l + 1))) i) q in
    let w : turns (suc l) (suc r) (n - (l + 1)) (m - (r + 1)) ≡ turns (l + 1) (r + 1) (n - (l + 1)) (m - (r + 1)) = ap (λ i. turns i (suc r) (n - (l + 1)) (m - (r + 1))) x ∙ ap (λ i. turns (l + 1) i (n - (l + 1)) (m - (r + 1))) y in
    append_assoc list (Both l r ∷ []) (turns (l + 1) (r + 1) (n - (l + 1)) (m - (r + 1))) ∙ ap (λ i. list ++ i) (sym (z ∙ ap (λ i. Both l r ∷ i) w))

pub step_left : (list : List Places) (l r n m : ℕ) → l < n → r ≡ m → (list ++ (Left l ∷ [])) ++ turns (l + 1) r (n - (l + 1)) (m - r) ≡ list ++ turns l r (n - l) (m - r)
step_left list l r n m a b =
    let p : n - l ≡ suc (n - (l + 1)) = omega (arith, a) in
    let q : m - r ≡ 0 = omega (arith, b) in
    let x : suc l ≡ l + 1 = omega arith in
    let z : turns l r (n - l) (m - r) ≡ Left l ∷ turns (suc l) r (n - (l + 1)) 0 = ap (λ i. turns l r i (m - r)) p ∙ ap (λ i. turns l r (suc (n - (l + 1))) i) q in
    let w : turns (suc l) r (n - (l + 1)) 0 ≡ turns (l + 1) r (n - (l + 1)) (m - r) = ap (λ i. turns i r (n - (l + 1)) 0) x ∙ ap (λ i. turns (l + 1) r (n - (l + 1)) i) (sym q) in
    append_assoc list (Left l ∷ []) (turns (l + 1) r (n - (l + 1)) (m - r)) ∙ ap (λ i. list ++ i) (sym (z ∙ ap (λ i. Left l ∷ i) w))

pub step_right : (list : List Places) (l r n m : ℕ) → l ≡ n → r < m → (list ++ (Right r ∷ [])) ++ turns l (r + 1) (n - l) (m - (r + 1)) ≡ list ++ turns l r (n - l) (m - r)
step_right list l r n m a b =
    let p : n - l ≡ 0 = omega (arith, a) in
    let q : m - r ≡ suc (m - (r + 1)) = omega (arith, b) in
    let y : suc r ≡ r + 1 = omega arith in
    let z : turns l r (n - l) (m - r) ≡ Right r ∷ turns l (suc r) 0 (m - (r + 1)) = ap (λ i. turns l r i (m - r)) p ∙ ap (λ i. turns l r 0 i) q in
    let w : turns l (suc r) 0 (m - (r + 1)) ≡ turns l (r + 1) (n - l) (m - (r + 1)) = ap (λ i. turns l i 0 (m - (r + 1))) y ∙ ap (λ i. turns l (r + 1) i (m - (r + 1))) (sym p) in
    append_assoc list (Right r ∷ []) (turns l (r + 1) (n - l) (m - (r + 1))) ∙ ap (λ i. list ++ i) (sym (z ∙ ap (λ i. Right r ∷ i) w))

pub turns_done : (list old : List Places) (l r n m : ℕ) → n ≤ l → m ≤ r → list ++ turns l r (n - l) (m - r) ≡ old → list ≡ old
turns_done list old l r n m a b e =
    let p : n - l ≡ 0 = omega (arith, a) in
    let q : m - r ≡ 0 = omega (arith, b) in
    sym (none list) ∙ sym (ap (λ i. list ++ turns l r i (m - r)) p ∙ ap (λ i. list ++ turns l r 0 i) q) ∙ e
  where
    none : (list : List Places) → list ++ [] ≡ list
    none [] = refl
    none (p ∷ ps) = ap (λ z. p ∷ z) (none ps)

-- ---- lists put together

put-append : (o : Option ℕ) (xs ys : List ℕ) → put_before o (xs ++ ys) ≡ put_before o xs ++ ys
put-append None xs ys = refl
put-append (Some k) xs ys = refl

pub places-append : (side : Places → Option ℕ) (xs ys : List Places) → places_by side (xs ++ ys) ≡ places_by side xs ++ places_by side ys
places-append side [] ys = refl
places-append side (x ∷ xs) ys = ap (put_before (side x)) (places-append side xs ys) ∙ put-append (side x) (places_by side xs) (places_by side ys)

numbers-append : (j p q : ℕ) → numbers j p ++ numbers (j + p) q ≡ numbers j (p + q)
numbers-append j zero q = let e : j + 0 ≡ j = omega arith in let f : q ≡ 0 + q = omega arith in ap (λ z. numbers z q) e ∙ ap (numbers j) f
numbers-append j (suc p) q =
    let e : j + suc p ≡ suc j + p = omega arith in
    let f : suc (p + q) ≡ suc p + q = omega arith in
    ap (λ z. j ∷ (numbers (suc j) p ++ numbers z q)) e ∙ ap (λ z. j ∷ z) (numbers-append (suc j) p q) ∙ ap (numbers j) f

numbers-on : (j a n : ℕ) → j ≤ a → a ≤ n → numbers j (a - j) ++ numbers a (n - a) ≡ numbers j (n - j)
numbers-on j a n l m =
    let e : a ≡ j + (a - j) = omega (arith, l) in
    let f : (a - j) + (n - a) ≡ n - j = omega (arith, l, m) in
    ap (λ z. numbers j (a - j) ++ numbers z (n - a)) e ∙ numbers-append j (a - j) (n - a) ∙ ap (numbers j) f

pub from_turns : (old new : List Places) (j k n m : ℕ) → new ≡ old ++ turns j k (n - j) (m - k) → AlignsFrom old j k n m new
from_turns old new j k n m e = record { more = turns j k (n - j) (m - k); is = e; left = turns-left j k (n - j) (m - k); right = turns-right j k (n - j) (m - k) }

pub from_here : (old : List Places) (j k : ℕ) → AlignsFrom old j k j k old
from_here old j k =
    let p : j - j ≡ 0 = omega arith in
    let q : k - k ≡ 0 = omega arith in
    record { more = []; is = sym (none old); left = ap (numbers j) (sym p); right = ap (numbers k) (sym q) }
  where
    none : (list : List Places) → list ++ [] ≡ list
    none [] = refl
    none (p ∷ ps) = ap (λ z. p ∷ z) (none ps)

pub from_on : (old mid new : List Places) (j k a b n m : ℕ) → j ≤ a → a ≤ n → k ≤ b → b ≤ m → AlignsFrom old j k a b mid → AlignsFrom mid a b n m new → AlignsFrom old j k n m new
from_on old mid new j k a b n m la ln lb lm x y = record {
  more = x.more ++ y.more;
  is = y.is ∙ ap (λ z. z ++ y.more) x.is ∙ append_assoc old x.more y.more;
  left = places-append left_place x.more y.more ∙ ap (λ z. z ++ places_by left_place y.more) x.left ∙ ap (λ z. numbers j (a - j) ++ z) y.left ∙ numbers-on j a n la ln;
  right = places-append right_place x.more y.more ∙ ap (λ z. z ++ places_by right_place y.more) x.right ∙ ap (λ z. numbers k (b - k) ++ z) y.right ∙ numbers-on k b m lb lm;
}

-- the last items
pub from_end : {V : Type 0} (result : Result V AllocError) (old list new : List Places) (j k a b n m : ℕ) → j ≤ a → a ≤ n → k ≤ b → b ≤ m → AlignsFrom old j k a b list → OnOk result (new ≡ list ++ turns a b (n - a) (m - b)) → OnOk result (AlignsFrom old j k n m new)
from_end (Ok v) old list new j k a b n m la ln lb lm x e = from_on old list new j k a b n m la ln lb lm x (from_turns list new a b n m e)
from_end (Err f) old list new j k a b n m la ln lb lm x e = tt

-- an anchor behind the items before it
pub from_anchor : (old list mid new : List Places) (j k a b l r n m : ℕ) → j ≤ a → k ≤ b → a ≤ l → b ≤ r → AlignsFrom old j k a b list → mid ≡ list ++ turns a b (l - a) (r - b) → new ≡ mid ++ turns l r (l + 1 - l) (r + 1 - r) → AlignsFrom old j k (l + 1) (r + 1) new
from_anchor old list mid new j k a b l r n m ja kb al br x e f =
    from_on old mid new j k l r (l + 1) (r + 1) (omega (arith, ja, al)) (omega arith) (omega (arith, kb, br)) (omega arith)
    (from_on old list mid j k a b l r ja al kb br x (from_turns list mid a b l r e)) (from_turns mid new l r (l + 1) (r + 1) f)

turns-get : (j k n m i : ℕ) → i < n → i < m → slice_get (turns j k n m) i ≡ Some (Both (j + i) (k + i))
turns-get j k zero m i a b = absurd (omega (arith, a))
turns-get j k (suc n) zero i a b = absurd (omega (arith, b))
turns-get j k (suc n) (suc m) zero a b = let e : j ≡ j + 0 = omega arith in let f : k ≡ k + 0 = omega arith in ap (λ z. Some (Both z k)) e ∙ ap (λ z. Some (Both (j + 0) z)) f
turns-get j k (suc n) (suc m) (suc i) a b =
    let e : suc j + i ≡ j + suc i = omega arith in
    let f : suc k + i ≡ k + suc i = omega arith in
    turns-get (suc j) (suc k) n m i (omega (arith, a)) (omega (arith, b)) ∙ ap (λ z. Some (Both z (suc k + i))) e ∙ ap (λ z. Some (Both (j + suc i) z)) f

less-none : (n : ℕ) → n - 0 ≡ n
less-none n = omega arith

-- the pairs at the front of a list of three parts, and those at its back
pub in-front : (front : ℕ) (one more two last all : List Places) → one ≡ turns 0 0 (front - 0) (front - 0) → two ≡ one ++ more → all ≡ two ++ last → (i : ℕ) → i < front → slice_get all i ≡ Some (Both i i)
in-front front one more two last all eo et ea i l =
    let x : slice_get (turns 0 0 (front - 0) (front - 0)) i ≡ Some (Both (0 + i) (0 + i)) = turns-get 0 0 (front - 0) (front - 0) i (omega (arith, l)) (omega (arith, l)) in
    let z : 0 + i ≡ i = omega arith in
    let y : slice_get one i ≡ Some (Both i i) = ap (λ v. slice_get v i) eo ∙ x ∙ ap (λ v. Some (Both v v)) z in
    let w : slice_get two i ≡ Some (Both i i) = ap (λ v. slice_get v i) et ∙ get-more one more i (Both i i) y in
    ap (λ v. slice_get v i) ea ∙ get-more two last i (Both i i) w

pub in-back : (n m back e d : ℕ) (two all : List Places) → back ≤ n → back ≤ m → e ≡ n - back → d ≡ m - back → all ≡ two ++ turns e d (n - e) (m - d) → (i j k : ℕ) → i < back → i + suc j ≡ n → i + suc k ≡ m → slice_get all (length two + (back - suc i)) ≡ Some (Both j k)
in-back n m back e d two all bl br ee dd ea i j k l p q =
    let x = turns-get e d (n - e) (m - d) (back - suc i) (omega (arith, ee, bl, l)) (omega (arith, dd, br, l)) in
    let y : e + (back - suc i) ≡ j = omega (arith, ee, bl, l, p) in
    let z : d + (back - suc i) ≡ k = omega (arith, dd, br, l, q) in
    let w : slice_get (turns e d (n - e) (m - d)) (back - suc i) ≡ Some (Both j k) = x ∙ ap (λ v. Some (Both v (d + (back - suc i)))) y ∙ ap (λ v. Some (Both j v)) z in
    ap (λ v. slice_get v (length two + (back - suc i))) ea ∙ get-behind two (turns e d (n - e) (m - d)) (back - suc i) (Both j k) w

-- the three parts of a list
pub aligned : (g : Forests) (lefts rights : List NodeId) (front back e d : ℕ) (one two all : List Places) → IsFront g lefts rights front → IsBack g lefts rights front back → e ≡ length lefts - back → d ≡ length rights - back
    → one ≡ [] ++ turns 0 0 (front - 0) (front - 0) → AlignsFrom one front front e d two → all ≡ two ++ turns e d (length lefts - e) (length rights - d) → Aligns g lefts rights all []
aligned g lefts rights front back e d one two all f b ee dd eo at ea = record {
  left = takes-each left_place all (length lefts) lefts-rise;
  right = takes-each right_place all (length rights) rights-rise;
  settles = rising-settles all (length lefts) (length rights) lefts-rise rights-rise;
  in_order = rising-order all (length lefts) (length rights) lefts-rise rights-rise;
  once = λ j k p x y. absurd (no-step j p x);
  front = front;
  fronts = λ i l. (f.same i l, (i, in-front front one at.more two (turns e d (length lefts - e) (length rights - d)) all eo at.is ea i l));
  front_end = f.ends;
  back = back;
  backs = λ i j k l m n. (b.same i j k l m n, (length two + (back - suc i), in-back (length lefts) (length rights) back e d two all (omega (arith, b.left)) (omega (arith, b.right)) ee dd ea i j k l m n));
  back_end = b.ends;
}
  where
    n : ℕ
    n = length lefts

    m : ℕ
    m = length rights

    first : AlignsFrom [] 0 0 front front one
    first = from_turns [] one 0 0 front front eo

    second : AlignsFrom [] 0 0 e d two
    second = from_on [] one two 0 0 front front e d (omega arith) (omega (arith, ee, b.left)) (omega arith) (omega (arith, dd, b.right)) first at

    third : AlignsFrom [] 0 0 n m all
    third = from_on [] two all 0 0 e d n m (omega arith) (omega (arith, ee)) (omega arith) (omega (arith, dd)) second (from_turns two all e d n m ea)

    lefts-rise : places_by left_place all ≡ numbers 0 n
    lefts-rise = ap (places_by left_place) third.is ∙ third.left ∙ ap (numbers 0) (less-none n)

    rights-rise : places_by right_place all ≡ numbers 0 m
    rights-rise = ap (places_by right_place) third.is ∙ third.right ∙ ap (numbers 0) (less-none m)

-- ---- equal ends

below-next : (k n : ℕ) → k < n + 1 → (k < n) ⊎ (k ≡ n)
below-next zero zero l = inr refl
below-next zero (suc n) l = inl (omega arith)
below-next (suc k) zero l = absurd (omega (arith, l))
below-next (suc k) (suc n) l = elim (below-next k n (omega (arith, l))) [ inl a ↦ inl (omega (arith, a)) | inr e ↦ inr (ap suc e) ]

module _ (g : Forests) (lefts rights : List NodeId) where
  pub same-here : (j k : ℕ) → j < length lefts → k < length rights → rank g (get_or lefts j (record { 0 = 0 })).0 ≡ rank g (get_or rights k (record { 0 = 0 })).0 → SameRanks g lefts rights j k
  same-here j k l m e = (get_or lefts j (record { 0 = 0 }), get_or rights k (record { 0 = 0 }), slice_get-get_or lefts j (record { 0 = 0 }) l, slice_get-get_or rights k (record { 0 = 0 }) m, e)

  pub here-same : (j k : ℕ) → SameRanks g lefts rights j k → rank g (get_or lefts j (record { 0 = 0 })).0 ≡ rank g (get_or rights k (record { 0 = 0 })).0
  here-same j k s =
      let x : get_or lefts j (record { 0 = 0 }) ≡ s.0 = get_or_from_slice_get lefts j s.0 (record { 0 = 0 }) s.2 in
      let y : get_or rights k (record { 0 = 0 }) ≡ s.1 = get_or_from_slice_get rights k s.1 (record { 0 = 0 }) s.3 in
      ap (λ z. rank g z.0) x ∙ s.4 ∙ ap (λ z. rank g z.0) (sym y)

  pub left-within : (j k : ℕ) → SameRanks g lefts rights j k → j < length lefts
  left-within j k s = slice_get_within lefts j s.0 s.2

  pub right-within : (j k : ℕ) → SameRanks g lefts rights j k → k < length rights
  right-within j k s = slice_get_within rights k s.1 s.3

  pub front-next : (front : ℕ) → SameRanks g lefts rights front front → ((i : ℕ) → i < front → SameRanks g lefts rights i i) → (i : ℕ) → i < front + 1 → SameRanks g lefts rights i i
  front-next front s f i l = elim (below-next i front l) [ inl a ↦ f i a | inr e ↦ subst (λ z. SameRanks g lefts rights z z) (sym e) s ]

  pub back-next : (left right : ℕ) → 0 < left → 0 < right → left ≤ length lefts → right ≤ length rights → left + length rights ≡ right + length lefts → SameRanks g lefts rights (left - 1) (right - 1)
      → ((i j k : ℕ) → i < length lefts - left → i + suc j ≡ length lefts → i + suc k ≡ length rights → SameRanks g lefts rights j k) → (i j k : ℕ) → i < length lefts - (left - 1) → i + suc j ≡ length lefts → i + suc k ≡ length rights → SameRanks g lefts rights j k
  back-next left right a b m n e s f i j k l p q = elim (below-next i (length lefts - left) (omega (arith, a, l, m))) [
    | inl h ↦ f i j k h p q
    | inr h ↦
        let x : left - 1 ≡ j = omega (arith, a, m, p, h) in
        let y : right - 1 ≡ k = omega (arith, b, m, n, e, q, h) in
        subst (λ z. SameRanks g lefts rights z k) x (subst (λ z. SameRanks g lefts rights (left - 1) z) y s)
  ]

  pub back-done : (front left right : ℕ) → left ≤ length lefts → right ≤ length rights → front ≤ left → front ≤ right → left + length rights ≡ right + length lefts
      → ((i j k : ℕ) → i < length lefts - left → i + suc j ≡ length lefts → i + suc k ≡ length rights → SameRanks g lefts rights j k)
      → (front < left → front < right → SameRanks g lefts rights (left - 1) (right - 1) → ⊥) → IsBack g lefts rights front (length lefts - left)
  back-done front left right m n a b e f last = record {
    left = omega (arith, m, a);
    right = omega (arith, m, n, a, b, e);
    same = f;
    ends = λ j k p q x y s.
        let u : j ≡ left - 1 = omega (arith, m, p) in
        let v : k ≡ right - 1 = omega (arith, m, n, e, q) in
        last (omega (arith, m, p, x)) (omega (arith, m, n, e, q, y)) (subst (λ z. SameRanks g lefts rights z (right - 1)) u (subst (λ z. SameRanks g lefts rights j z) v s));
  }
