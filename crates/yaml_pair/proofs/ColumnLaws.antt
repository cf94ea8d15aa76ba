-- Columns of places, as they are read.
use Rattle.std.proofs.Common.{◌≡◌, ◌≢◌, ℕ, zero, suc, ◌+◌, ◌<◌, ◌≤◌, true, false, ◌⊎◌, List, [], ◌∷◌, length, get_or, set, inl, inr, refl, sym, ◌∙◌, ap, subst, arith}
use Rattle.std.specs.Prelude.{Option, Some, None, is_some}
use Rattle.std.specs.List.{slice_get}
use Rattle.std.proofs.lemmas.Option.{slice_get_within, slice_get-get_or, get_or_from_slice_get}
use Rattle.yaml_pair.specs.Columns.{EachOf, Seen, Rising, Falls, Behind, RisesTo}

pub below-or : (a b : ℕ) → (a < b) ⊎ ((b < a) ⊎ (a ≡ b))
below-or zero zero = inr (inr refl)
below-or zero (suc b) = inl (omega arith)
below-or (suc a) zero = inr (inl (omega arith))
below-or (suc a) (suc b) = elim (below-or a b) [ inl l ↦ inl (omega (arith, l)) | inr x ↦ elim x [ inl l ↦ inr (inl (omega (arith, l))) | inr q ↦ inr (inr (ap suc q)) ] ]

some-is : {X : Type 0} {x y : X} → Some x ≡ Some y → x ≡ y
some-is e = cc

none-some : {X : Type 0} {x : X} → None ≡ Some x → ⊥
none-some e = absurd (cc)

set-here : {X : Type 0} (xs : List X) (j : ℕ) (v : X) → j < length xs → slice_get (set xs j v) j ≡ Some v
set-here [] j v l = absurd (omega (arith, l))
set-here (x ∷ xs) zero v l = refl
set-here (x ∷ xs) (suc j) v l = set-here xs j v (omega (arith, l))

set-there : {X : Type 0} (xs : List X) (j i : ℕ) (v : X) → i ≢ j → slice_get (set xs j v) i ≡ slice_get xs i
set-there [] j i v n = refl
set-there (x ∷ xs) zero zero v n = absurd (n refl)
set-there (x ∷ xs) zero (suc i) v n = refl
set-there (x ∷ xs) (suc j) zero v n = refl
set-there (x ∷ xs) (suc j) (suc i) v n = set-there xs j i v (λ e. n (ap suc e))

less-or : (k n : ℕ) → k < n + 1 → (k < n) ⊎ (k ≡ n)
less-or k n l = elim (below-or k n) [ inl a ↦ inl a | inr x ↦ elim x [ inl a ↦ absurd (omega (arith, a, l)) | inr e ↦ inr e ] ]

none-stands : (o : Option ℕ) → is_some o ≡ false → o ≡ None
none-stands None e = refl
none-stands (Some k) e = absurd (cc)

-- a step without a place
pub seen-skip : (column seen : List (Option ℕ)) (index n : ℕ) → Seen column seen index n → index < length column → get_or column index None ≡ None → Seen column seen (index + 1) n
seen-skip column seen index n s l e = record {
  within = λ k i m f. elim (less-or k index m) [ inl a ↦ s.within k i a f | inr a ↦ absurd (none i k a f) ];
  noted = λ k i m f. elim (less-or k index m) [ inl a ↦ s.noted k i a f | inr a ↦ absurd (none i k a f) ];
  stands = s.stands;
}
  where
    none : (i k : ℕ) → k ≡ index → slice_get column k ≡ Some (Some i) → ⊥
    none i k a f = none-some (sym e ∙ ap (λ z. get_or column z None) (sym a) ∙ get_or_from_slice_get column k (Some i) None f)

-- a step with a place that was not seen
pub seen-next : (column seen : List (Option ℕ)) (index n at : ℕ) (old : Option ℕ) → Seen column seen index n → index < length column → get_or column index None ≡ Some at → at < n → at < length seen → old ≡ get_or seen at old → is_some old ≡ false → Seen column (set seen at (Some index)) (index + 1) n
seen-next column seen index n at old s l e w v o z = record {
  within = λ k i m f. elim (less-or k index m) [ inl a ↦ s.within k i a f | inr a ↦ let g = same i k a f in omega (arith, g, w) ];
  noted = λ k i m f. elim (less-or k index m) [
    | inl a ↦ set-there seen at i (Some index) (λ g. fresh k (subst (λ y. slice_get seen y ≡ Some (Some k)) g (s.noted k i a f))) ∙ s.noted k i a f
    | inr a ↦ ap (slice_get (set seen at (Some index))) (same i k a f) ∙ set-here seen at (Some index) v ∙ ap (λ y. Some (Some y)) (sym a)
  ];
  stands = λ k i f. elim (below-or i at) [
    | inl a ↦ s.stands k i (sym (set-there seen at i (Some index) (λ g. absurd (omega (arith, a, g)))) ∙ f)
    | inr x ↦ elim x [
      | inl a ↦ s.stands k i (sym (set-there seen at i (Some index) (λ g. absurd (omega (arith, a, g)))) ∙ f)
      | inr g ↦
          let y : index ≡ k = some-is (some-is (sym (set-here seen at (Some index) v) ∙ ap (slice_get (set seen at (Some index))) (sym g) ∙ f)) in
          ap (slice_get column) (sym y) ∙ slice_get-get_or column index None l ∙ ap Some e ∙ ap (λ d. Some (Some d)) (sym g)
    ]
  ];
}
  where
    same : (i k : ℕ) → k ≡ index → slice_get column k ≡ Some (Some i) → i ≡ at
    same i k a f = some-is (sym (get_or_from_slice_get column k (Some i) None f) ∙ ap (λ y. get_or column y None) a ∙ e)

    fresh : (k : ℕ) → slice_get seen at ≡ Some (Some k) → ⊥
    fresh k f = none-some (sym (none-stands old z) ∙ o ∙ get_or_from_slice_get seen at (Some k) old f)

pub next-some : (items : List (Option ℕ)) (index : ℕ) → ((i : ℕ) → i < index → slice_get items i ≡ Some None → ⊥) → index < length items → is_some (get_or items index None) ≡ true → (i : ℕ) → i < index + 1 → slice_get items i ≡ Some None → ⊥
next-some items index f l e i m g = elim (less-or i index m) [
  | inl a ↦ f i a g
  | inr a ↦ let h : get_or items index None ≡ None = ap (λ z. get_or items z None) (sym a) ∙ get_or_from_slice_get items i None None g in let b : false ≡ true = sym (ap is_some h) ∙ e in absurd (cc)
]

-- where all were read and each was seen
pub each-seen : (column seen : List (Option ℕ)) (index n count : ℕ) → Seen column seen index n → length column ≤ index → length seen ≤ count → length seen ≡ n → ((i : ℕ) → i < count → slice_get seen i ≡ Some None → ⊥) → EachOf column n
each-seen column seen index n count s l c e f = record {
  within = λ k i g. s.within k i (before k i g) g;
  there = λ i m. by i (get_or seen i None) (slice_get-get_or seen i None (omega (arith, m, e))) (omega (arith, m, e, c));
  once = λ j k i g h. some-is (some-is (sym (s.noted j i (before j i g) g) ∙ s.noted k i (before k i h) h));
}
  where
    before : (k i : ℕ) → slice_get column k ≡ Some (Some i) → k < index
    before k i g = let w = slice_get_within column k (Some i) g in omega (arith, w, l)

    by : (i : ℕ) (o : Option ℕ) → slice_get seen i ≡ Some o → i < count → (k : ℕ) × (slice_get column k ≡ Some (Some i))
    by i None g m = absurd (f i m g)
    by i (Some k) g m = (k, s.stands k i g)

-- ---- places that rise

module _ (column : List (Option ℕ)) (index : ℕ) (l : index < length column) where
  here : (i k : ℕ) (o : Option ℕ) → k ≡ index → get_or column index None ≡ o → slice_get column k ≡ Some (Some i) → o ≡ Some i
  here i k o a e f = sym e ∙ ap (λ z. get_or column z None) (sym a) ∙ get_or_from_slice_get column k (Some i) None f

  -- a step without a place
  pub rises-skip : (last : Option ℕ) → RisesTo column index last → get_or column index None ≡ None → RisesTo column (index + 1) last
  rises-skip last r e = record {
    low = λ k i at m f b. elim (less-or k index m) [ inl a ↦ r.low k i at a f b | inr a ↦ absurd (none-some (here i k None a e f)) ];
    rise = λ a b i j m n f g. elim (less-or b index n) [ inl c ↦ r.rise a b i j m c f g | inr c ↦ absurd (none-some (here j b None c e g)) ];
    there = λ v f. let x = r.there v f in (x.0, omega (arith, x.1), x.2);
  }

  -- a step whose place stands behind the last one
  pub rises-next : (last : Option ℕ) (at : ℕ) → RisesTo column index last → get_or column index None ≡ Some at → Behind last at → RisesTo column (index + 1) (Some at)
  rises-next last at r e b = record {
    low = λ k i more m f c. elim (less-or k index m) [
      | inl a ↦ let z = r.low k i at a f b in omega (arith, z, c)
      | inr a ↦ let z : at ≡ i = some-is (here i k (Some at) a e f) in omega (arith, z, c)
    ];
    rise = λ a d i j m n f g. elim (less-or d index n) [
      | inl c ↦ r.rise a d i j m c f g
      | inr c ↦ let z : at ≡ j = some-is (here j d (Some at) c e g) in let v = r.low a i at (omega (arith, m, c)) f b in omega (arith, z, v)
    ];
    there = λ v f. (index, omega arith, slice_get-get_or column index None l ∙ ap Some (e ∙ f));
  }

  -- a step whose place does not
  pub falls-here : (last : Option ℕ) (at : ℕ) → RisesTo column index last → get_or column index None ≡ Some at → (Behind last at → ⊥) → Falls column
  falls-here None at r e n = absurd (n tt)
  falls-here (Some before) at r e n = let x = r.there before refl in (x.0, index, before, at, x.1, x.2, slice_get-get_or column index None l ∙ ap Some e, not-less before at n)
    where
      not-less : (a b : ℕ) → (a < b → ⊥) → b ≤ a
      not-less a b n = elim (below-or a b) [ inl c ↦ absurd (n c) | inr x ↦ elim x [ inl c ↦ omega (arith, c) | inr c ↦ omega (arith, c) ] ]

pub rises-none : (column : List (Option ℕ)) → RisesTo column 0 None
rises-none column = record {
  low = λ k i at m f b. absurd (omega (arith, m));
  rise = λ a b i j m n f g. absurd (omega (arith, n));
  there = λ v f. absurd (none-some f);
}

pub rises-all : (column : List (Option ℕ)) (index : ℕ) (last : Option ℕ) → RisesTo column index last → length column ≤ index → Rising column
rises-all column index last r l a b i j m f g = r.rise a b i j m (let w = slice_get_within column b (Some j) g in omega (arith, w, l)) f g
