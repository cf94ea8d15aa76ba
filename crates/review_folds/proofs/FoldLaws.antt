-- Tellers and counts, one difference after another.
use Rattle.std.proofs.Common.{◌≡◌, ◌≢◌, ℕ, zero, suc, ◌+◌, ◌<◌, ◌≤◌, ◌==◌, Bool, true, false, cond, ◌⊎◌, inl, inr, List, [], ◌∷◌, ◌++◌, length, take, get_or, set, refl, sym, ◌∙◌, ap, subst, arith}
use Rattle.std.specs.Prelude.{Some, None}
use Rattle.std.specs.List.{slice_get}
use Rattle.std.proofs.lemmas.Bool.{eqb-true, eq-eqb}
use Rattle.std.proofs.lemmas.List.{take_more, take_all, length-set, length-take-le}
use Rattle.std.proofs.lemmas.Option.{slice_get-get_or, get_or_from_slice_get}
use Rattle.yaml_diff.specs.declared.difference.Difference.{Difference}
use Rattle.review_folds.specs.Folds.{OfSameAt, TellsFor, times, Counted, Filled}

some-is : {X : Type 0} {x y : X} → Some x ≡ Some y → x ≡ y
some-is e = cc

none-some : {X : Type 0} {x : X} → None ≡ Some x → ⊥
none-some e = absurd (cc)

-- an element of a list that is longer by one
at-more : {X : Type 0} (xs : List X) (t x : X) (k : ℕ) → slice_get (xs ++ (t ∷ [])) k ≡ Some x → (slice_get xs k ≡ Some x) ⊎ ((k ≡ length xs) × (x ≡ t))
at-more [] t x zero e = inr (refl, sym (some-is e))
at-more [] t x (suc k) e = absurd (none-some e)
at-more (y ∷ xs) t x zero e = inl e
at-more (y ∷ xs) t x (suc k) e = elim (at-more xs t x k e) [ inl h ↦ inl h | inr h ↦ inr (ap suc h.0, h.1) ]

in-more : {X : Type 0} (xs : List X) (t x : X) (k : ℕ) → slice_get xs k ≡ Some x → slice_get (xs ++ (t ∷ [])) k ≡ Some x
in-more [] t x k e = absurd (none-some e)
in-more (y ∷ xs) t x zero e = e
in-more (y ∷ xs) t x (suc k) e = in-more xs t x k e

last-more : {X : Type 0} (xs : List X) (t : X) → slice_get (xs ++ (t ∷ [])) (length xs) ≡ Some t
last-more [] t = refl
last-more (y ∷ xs) t = last-more xs t

longer : (xs : List ℕ) (t : ℕ) → length (xs ++ (t ∷ [])) ≡ length xs + 1
longer [] t = refl
longer (x ∷ xs) t = let h = longer xs t in omega (arith, h)

-- ---- tellers

pub level_more : (xs new : List ℕ) (n t : ℕ) → length xs ≡ n → new ≡ xs ++ (t ∷ []) → length new ≡ n + 1
level_more xs new n t l e = ap length e ∙ longer xs t ∙ ap (λ z. z + 1) l

same-at : (list : List Difference) (k : ℕ) → OfSameAt list k k
same-at list k d e f g = let h : d ≡ e = some-is (sym f ∙ g) in (ap (λ z. z.left) h, ap (λ z. z.right) h)

abbrev pub SoFar : List Difference → List ℕ → Type 0
SoFar list tellers = (k i : ℕ) → slice_get tellers k ≡ Some i → TellsFor list tellers k i

kept : (list : List Difference) (xs : List ℕ) (t k i : ℕ) → TellsFor list xs k i → TellsFor list (xs ++ (t ∷ [])) k i
kept list xs t k i h = record { before = h.before; own = in-more xs t i i h.own; nodes = h.nodes }

-- one teller more
pub tellers_more : (list : List Difference) (xs new : List ℕ) (n t : ℕ) → SoFar list xs → length xs ≡ n → (t ≡ n) ⊎ TellsFor list xs n t → new ≡ xs ++ (t ∷ []) → SoFar list new
tellers_more list xs new n t h l o e = subst (SoFar list) (sym e) more
  where
    own : (k i : ℕ) → k ≡ length xs → i ≡ t → TellsFor list (xs ++ (t ∷ [])) k i
    own k i a b = elim o [
      | inl q ↦
          let z : i ≡ length xs = b ∙ q ∙ sym l in
          let m : i ≡ k = z ∙ sym a in
          record {
            before = omega (arith, m);
            own = ap (slice_get (xs ++ (t ∷ []))) z ∙ last-more xs t ∙ ap Some (sym b);
            nodes = subst (λ y. OfSameAt list k y) (sym m) (same-at list k);
          }
      | inr q ↦ subst (λ y. TellsFor list (xs ++ (t ∷ [])) y i) (sym (a ∙ l)) (subst (λ y. TellsFor list (xs ++ (t ∷ [])) n y) (sym b) (kept list xs t n t q))
    ]

    more : SoFar list (xs ++ (t ∷ []))
    more k i f = elim (at-more xs t i k f) [ inl g ↦ kept list xs t k i (h k i g) | inr g ↦ own k i g.0 g.1 ]

-- ---- places of a list that are set

set-here : {X : Type 0} (xs : List X) (j : ℕ) (v : X) → j < length xs → slice_get (set xs j v) j ≡ Some v
set-here [] j v l = absurd (omega (arith, l))
set-here (x ∷ xs) zero v l = refl
set-here (x ∷ xs) (suc j) v l = set-here xs j v (omega (arith, l))

set-there : {X : Type 0} (xs : List X) (j i : ℕ) (v : X) → i ≢ j → slice_get (set xs j v) i ≡ slice_get xs i
set-there [] j i v n = refl
set-there (x ∷ xs) zero zero v n = absurd (n refl)
set-there (x ∷ xs) zero (suc i) v n = refl
set-there (x ∷ xs) (suc j) zero v n = refl
set-there (x ∷ xs) (suc j) (suc i) v n = set-there xs j i v (λ e. n (ap suc e))

-- ---- how often

times_more : (n t : ℕ) (xs : List ℕ) → times n (xs ++ (t ∷ [])) ≡ times n xs + cond (t == n) 1 0
times_more n t [] = by (t == n)
  where
    by : (b : Bool) → cond b 1 0 ≡ 0 + cond b 1 0
    by true = refl
    by false = refl
times_more n t (x ∷ xs) = by (x == n) (t == n) (times_more n t xs)
  where
    by : (b c : Bool) → times n (xs ++ (t ∷ [])) ≡ times n xs + cond c 1 0 → cond b (suc (times n (xs ++ (t ∷ [])))) (times n (xs ++ (t ∷ []))) ≡ cond b (suc (times n xs)) (times n xs) + cond c 1 0
    by true c h = grind (arith, h)
    by false c h = h

times_few : (n : ℕ) (xs : List ℕ) → times n xs ≤ length xs
times_few n [] = omega arith
times_few n (x ∷ xs) = by (x == n) (times_few n xs)
  where
    by : (b : Bool) → times n xs ≤ length xs → cond b (suc (times n xs)) (times n xs) ≤ suc (length xs)
    by true h = omega (arith, h)
    by false h = omega (arith, h)

abbrev pub CountedTo : List ℕ → ℕ → List ℕ → Type 0
CountedTo list k counts = (length counts ≡ length list) × ((n : ℕ) → n < length list → slice_get counts n ≡ Some (times n (take k list)))

pub counted_none : (list counts : List ℕ) → Filled 0 (length list) counts → CountedTo list 0 counts
counted_none list counts f = (f.0, λ n l. let e = slice_get-get_or counts n 0 (omega (arith, l, f.0)) in e ∙ ap Some (f.1 n (get_or counts n 0) e))

pub counted_few : (list counts : List ℕ) (k n d : ℕ) → CountedTo list k counts → n < length counts → k ≤ length list → get_or counts n d ≤ k
counted_few list counts k n d c l m =
    let e : get_or counts n d ≡ times n (take k list) = get_or_from_slice_get counts n (times n (take k list)) d (c.1 n (omega (arith, l, c.0))) in
    let f = times_few n (take k list) in
    let t : length (take k list) ≡ k = length-take-le k list m in
    omega (arith, e, f, t)

-- one number more
module _ (list counts : List ℕ) (k t d : ℕ) (c : CountedTo list k counts) (l : k < length list) (is : t ≡ get_or list k d) where
  taken : take (k + 1) list ≡ take k list ++ (t ∷ [])
  taken = take_more list k d l ∙ ap (λ z. take k list ++ (z ∷ [])) (sym is)

  more : (n : ℕ) → times n (take (k + 1) list) ≡ times n (take k list) + cond (t == n) 1 0
  more n = ap (times n) taken ∙ times_more n t (take k list)

  pub counted_more : (old : ℕ) (new : List ℕ) → t < length counts → old ≡ get_or counts t 0 → new ≡ set counts t (old + 1) → CountedTo list (k + 1) new
  counted_more old new m o e = subst (CountedTo list (k + 1)) (sym e) (length-set counts t (old + 1) ∙ c.0, λ n q. by n q (t == n) refl)
    where
      before : old ≡ times t (take k list)
      before = o ∙ get_or_from_slice_get counts t (times t (take k list)) 0 (c.1 t (omega (arith, m, c.0)))

      by : (n : ℕ) → n < length list → (b : Bool) → (t == n) ≡ b → slice_get (set counts t (old + 1)) n ≡ Some (times n (take (k + 1) list))
      by n q true f =
          let g : t ≡ n = eqb-true t n f in
          ap (slice_get (set counts t (old + 1))) (sym g) ∙ set-here counts t (old + 1) m ∙ ap Some (ap (λ z. z + 1) before ∙ ap (λ z. times z (take k list) + 1) g ∙ ap (λ b. times n (take k list) + cond b 1 0) (sym f) ∙ sym (more n))
      by n q false f =
          set-there counts t n (old + 1) (λ g. absurd (apart n f g)) ∙ c.1 n q ∙ ap Some (plus-none (times n (take k list)) ∙ ap (λ b. times n (take k list) + cond b 1 0) (sym f) ∙ sym (more n))
        where
          apart : (n : ℕ) → (t == n) ≡ false → n ≡ t → ⊥
          apart n f g = let h = eq-eqb t t refl in let i : (t == t) ≡ false = ap (λ z. t == z) (sym g) ∙ f in absurd (cc)

          plus-none : (x : ℕ) → x ≡ x + 0
          plus-none x = omega arith

  pub counted_past : length counts ≤ t → CountedTo list (k + 1) counts
  counted_past m = (c.0, λ n q. by n q (t == n) refl)
    where
      by : (n : ℕ) → n < length list → (b : Bool) → (t == n) ≡ b → slice_get counts n ≡ Some (times n (take (k + 1) list))
      by n q true f = let g : t ≡ n = eqb-true t n f in absurd (omega (arith, g, q, m, c.0))
      by n q false f = c.1 n q ∙ ap Some (plus-none (times n (take k list)) ∙ ap (λ b. times n (take k list) + cond b 1 0) (sym f) ∙ sym (more n))
        where
          plus-none : (x : ℕ) → x ≡ x + 0
          plus-none x = omega arith

pub counted_all : (list counts : List ℕ) (k : ℕ) → length list ≤ k → CountedTo list k counts → Counted list counts
counted_all list counts k l c = record { level = c.0; each = λ n m. c.1 n m ∙ ap (λ z. Some (times n z)) (take_all k list l) }

-- ---- a list of one number

pub filled_more : (n count : ℕ) (xs new : List ℕ) → Filled n count xs → new ≡ xs ++ (n ∷ []) → Filled n (count + 1) new
filled_more n count xs new f e = subst (Filled n (count + 1)) (sym e) (longer xs n ∙ ap (λ z. z + 1) f.0, λ k m g. elim (at-more xs n m k g) [ inl h ↦ f.1 k m h | inr h ↦ h.1 ])
