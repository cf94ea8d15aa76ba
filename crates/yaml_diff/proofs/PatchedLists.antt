-- The lines of one list make either side of the other.
use Rattle.std.proofs.Common.{◌≡◌, ℕ, zero, suc, ◌+◌, ◌<◌, ◌≤◌, Bool, true, false, cond, ◌⊎◌, List, [], ◌∷◌, ◌++◌, length, inl, inr, refl, sym, ◌∙◌, ap, subst, arith}
use Rattle.std.specs.Prelude.{Option, Some, None}
use Rattle.std.specs.List.{slice_get}
use Rattle.std.proofs.lemmas.Bool.{eqb-true, eq-eqb}
use Rattle.std.proofs.lemmas.Option.{slice_get_within, slice_get-get_or}
use Rattle.yaml_definitions.specs.model.Tree.{Tree, scalar}
use Rattle.yaml_path.specs.Ways.{Each, Stays, Settles, Allows, at_places, left_place, right_place, alike_places}
use Rattle.yaml_path.specs.declared.places.Places.{Places}
use Rattle.yaml_path.specs.declared.places.Places.TheVariants.{Both, Left, Right}
use Rattle.yaml_diff.proofs.WayLaws.{either-way, not-so, places-is, places-self, below-or, some-is, none-some, one-there}
use Rattle.yaml_diff.proofs.MoveLists.{no-line}
use Rattle.yaml_diff.specs.Patch.{Told, HasLine, is_at, named, rest, brought, put_at, next, behind, fill, patch, Tells}

option-cases : {X : Type 0} (o : Option X) → (o ≡ None) ⊎ ((v : X) × (o ≡ Some v))
option-cases None = inl refl
option-cases (Some v) = inr (v, refl)

true-false : true ≡ false → ⊥
true-false e = absurd (cc)

-- ---- lists of which some items stay

module _ (away : ℕ → Bool) (put : ℕ → Option Tree) (S : ℕ → ℕ → Type 0) (xs ys : List Tree) (up : (i k m n : ℕ) → S i k → S m n → i < m → k < n) (back : (i k m n : ℕ) → S i k → S m n → k < n → i < m)
    (here : (i k : ℕ) → S i k → away i ≡ false) (there : (i k : ℕ) → S i k → put k ≡ None) (like : (i k : ℕ) → S i k → slice_get xs i ≡ slice_get ys k)
    (left : (i : ℕ) → i < length xs → away i ≡ false → (k : ℕ) × S i k) (right : (k : ℕ) → k < length ys → put k ≡ None → (i : ℕ) × S i k) (said : (k : ℕ) (y : Tree) → put k ≡ Some y → slice_get ys k ≡ Some y) where
  rest-next : (zs : List Tree) (i0 i k : ℕ) (y : Tree) → ((m : ℕ) → slice_get zs m ≡ slice_get xs (i0 + m)) → i0 ≤ i → S i k → slice_get xs i ≡ Some y → ((j : ℕ) → i0 ≤ j → j < i → j < length xs → away j ≡ false → ⊥)
      → (vs : List Tree) × (rest away i0 zs ≡ y ∷ rest away (suc i) vs) × ((m : ℕ) → slice_get vs m ≡ slice_get xs (suc i + m))
  rest-next [] i0 i k y z l s e f =
      let g = below-or i0 (suc i) in
      let d : slice_get [] (difference i0 i l).0 ≡ Some y = z (difference i0 i l).0 ∙ ap (slice_get xs) (difference i0 i l).1 ∙ e in
      absurd (no-line (difference i0 i l).0 y d)
    where
      difference : (a b : ℕ) → a ≤ b → (d : ℕ) × (a + d ≡ b)
      difference zero b l = (b, omega arith)
      difference (suc a) zero l = absurd (omega (arith, l))
      difference (suc a) (suc b) l = let r = difference a b (omega (arith, l)) in (r.0, omega (arith, r.1))
  rest-next (v ∷ zs) i0 i k y z l s e f =
      let w : slice_get xs i0 ≡ Some v = ap (slice_get xs) (at-zero i0) ∙ sym (z 0) in
      elim (either-way (away i0)) [
        | inl t ↦
            let b : i0 < i = elim (below-or i0 i) [ inl c ↦ c | inr c ↦ elim c [ inl c ↦ absurd (omega (arith, c, l)) | inr c ↦ absurd (true-false (sym t ∙ ap away c ∙ here i k s)) ] ] in
            let r = rest-next zs (suc i0) i k y (λ m. z (suc m) ∙ ap (slice_get xs) (on i0 m)) (omega (arith, b)) s e (λ j a b. f j (omega (arith, a)) b) in
            (r.0, ap (λ o. cond o (rest away (suc i0) zs) (v ∷ rest away (suc i0) zs)) t ∙ r.1, r.2)
        | inr t ↦ elim (below-or i0 i) [
          | inl c ↦ absurd (f i0 (omega arith) c (slice_get_within xs i0 v w) t)
          | inr c ↦ elim c [
            | inl c ↦ absurd (omega (arith, c, l))
            | inr c ↦
                let n : v ≡ y = some-is (sym w ∙ ap (slice_get xs) c ∙ e) in
                (zs, ap (λ o. cond o (rest away (suc i0) zs) (v ∷ rest away (suc i0) zs)) t ∙ ap (λ o. o ∷ rest away (suc i0) zs) n ∙ ap (λ o. y ∷ rest away (suc o) zs) c, λ m. z (suc m) ∙ ap (slice_get xs) (on i0 m ∙ ap (λ o. suc o + m) c))
          ]
        ]
      ]
    where
      at-zero : (a : ℕ) → a ≡ a + 0
      at-zero a = omega arith

      on : (a m : ℕ) → a + suc m ≡ suc a + m
      on a m = omega arith

  pub fill-is : (ws zs : List Tree) (at i0 : ℕ) → ((m : ℕ) → slice_get ws m ≡ slice_get ys (at + m)) → ((m : ℕ) → slice_get zs m ≡ slice_get xs (i0 + m)) → ((i k : ℕ) → S i k → k < at → i < i0) → ((i k : ℕ) → S i k → at ≤ k → i0 ≤ i) → fill put at (length ws) (rest away i0 zs) ≡ ws
  fill-is [] zs at i0 f g low high = refl
  fill-is (w ∷ ws) zs at i0 f g low high =
      let stay = rest away i0 zs in
      let n = length ws in
      let v : slice_get ys at ≡ Some w = ap (slice_get ys) (at-zero at) ∙ sym (f 0) in
      elim (option-cases (put at)) [
        | inr o ↦
            let z : o.0 ≡ w = some-is (sym (said at o.0 o.1) ∙ v) in
            let ih = fill-is ws zs (suc at) i0 (λ m. f (suc m) ∙ ap (slice_get ys) (on at m)) g
            (λ i k s l. elim (below-or k at) [ inl c ↦ low i k s c | inr c ↦ elim c [ inl c ↦ absurd (omega (arith, c, l)) | inr c ↦ absurd (none-some (sym (there i k s) ∙ ap put c ∙ o.1)) ] ])
            (λ i k s l. high i k s (omega (arith, l))) in
            ap (λ x. next x stay ++ fill put (suc at) n (behind x stay)) o.1 ∙ ap (λ x. x ∷ fill put (suc at) n stay) z ∙ ap (λ x. w ∷ x) ih
        | inl e ↦
            let s = right at (slice_get_within ys at w v) e in
            let h = high s.0 at s.1 (omega arith) in
            let r = rest-next zs i0 s.0 at w g h s.1 (like s.0 at s.1 ∙ v) (λ j a b c d. let q = left j c d in let x = up j q.0 s.0 at q.1 s.1 b in let y = low j q.0 q.1 x in omega (arith, y, a)) in
            let ih = fill-is ws r.0 (suc at) (suc s.0) (λ m. f (suc m) ∙ ap (slice_get ys) (on at m)) r.2
            (λ i k x l. elim (below-or s.0 i) [ inl c ↦ absurd (let y = up s.0 at i k s.1 x c in omega (arith, y, l)) | inr c ↦ elim c [ inl c ↦ omega (arith, c) | inr c ↦ omega (arith, c) ] ])
            (λ i k x l. let y = back s.0 at i k s.1 x (omega (arith, l)) in omega (arith, y)) in
            ap (λ x. next x stay ++ fill put (suc at) n (behind x stay)) e ∙ ap (λ x. next None x ++ fill put (suc at) n (behind None x)) r.1 ∙ ap (λ x. w ∷ x) ih
      ]
    where
      at-zero : (a : ℕ) → a ≡ a + 0
      at-zero a = omega arith

      on : (a m : ℕ) → a + suc m ≡ suc a + m
      on a m = omega arith

-- ---- what lines name and put

at-is : (o : Option ℕ) (k : ℕ) → is_at o k ≡ true → o ≡ Some k
at-is None k e = absurd (cc)
at-is (Some i) k e = ap Some (eqb-true i k e)

is-there : (o : Option ℕ) (k : ℕ) → o ≡ Some k → is_at o k ≡ true
is-there None k e = absurd (none-some e)
is-there (Some i) k e = eq-eqb i k (some-is e)

named-line : (side : Places → Option ℕ) (ls : List (Told Tree)) (i : ℕ) → named side ls i ≡ true → (k : ℕ) × (l : Told Tree) × (slice_get ls k ≡ Some l) × (side l.0 ≡ Some i)
named-line side [] i e = absurd (cc)
named-line side (l ∷ ls) i e = elim (either-way (is_at (side l.0) i)) [
  | inl h ↦ (0, l, refl, at-is (side l.0) i h)
  | inr h ↦ let r = named-line side ls i (ap (λ b. cond b true (named side ls i)) (sym h) ∙ e) in (suc r.0, r.1, r.2, r.3)
]

line-named : (side : Places → Option ℕ) (ls : List (Told Tree)) (i k : ℕ) (l : Told Tree) → slice_get ls k ≡ Some l → side l.0 ≡ Some i → named side ls i ≡ true
line-named side [] i k l e f = absurd (no-line k l e)
line-named side (m ∷ ls) i zero l e f = ap (λ b. cond b true (named side ls i)) (is-there (side m.0) i (ap (λ z. side z.0) (some-is e) ∙ f))
line-named side (m ∷ ls) i (suc k) l e f = elim (either-way (is_at (side m.0) i)) [
  | inl h ↦ ap (λ b. cond b true (named side ls i)) h
  | inr h ↦ ap (λ b. cond b true (named side ls i)) h ∙ line-named side ls i k l e f
]

put-line : (a b : Places → Option ℕ) (xs : List Tree) (ls : List (Told Tree)) (k : ℕ) (y : Tree) → put_at a b xs ls k ≡ Some y → (c : ℕ) × (l : Told Tree) × (slice_get ls c ≡ Some l) × (b l.0 ≡ Some k) × (brought xs (a l.0) l.1 ≡ Some y)
put-line a b xs [] k y e = absurd (none-some e)
put-line a b xs (l ∷ ls) k y e = elim (either-way (is_at (b l.0) k)) [
  | inl h ↦ (0, l, refl, at-is (b l.0) k h, ap (λ z. cond z (brought xs (a l.0) l.1) (put_at a b xs ls k)) (sym h) ∙ e)
  | inr h ↦ let r = put-line a b xs ls k y (ap (λ z. cond z (brought xs (a l.0) l.1) (put_at a b xs ls k)) (sym h) ∙ e) in (suc r.0, r.1, r.2, r.3, r.4)
]

line-put : (a b : Places → Option ℕ) (xs : List Tree) (ls : List (Told Tree)) (k : ℕ) → ((c : ℕ) (l : Told Tree) → slice_get ls c ≡ Some l → brought xs (a l.0) l.1 ≡ None → ⊥) → (c : ℕ) (l : Told Tree) → slice_get ls c ≡ Some l → b l.0 ≡ Some k → put_at a b xs ls k ≡ None → ⊥
line-put a b xs [] k f c l e g n = no-line c l e
line-put a b xs (m ∷ ls) k f c l e g n = elim (either-way (is_at (b m.0) k)) [
  | inl h ↦ f 0 m refl (ap (λ z. cond z (brought xs (a m.0) m.1) (put_at a b xs ls k)) (sym h) ∙ n)
  | inr h ↦ by c e h (line-put a b xs ls k (λ d x y. f (suc d) x y)) (ap (λ z. cond z (brought xs (a m.0) m.1) (put_at a b xs ls k)) (sym h) ∙ n)
]
  where
    by : (c : ℕ) → slice_get (m ∷ ls) c ≡ Some l → is_at (b m.0) k ≡ false → ((d : ℕ) (x : Told Tree) → slice_get ls d ≡ Some x → b x.0 ≡ Some k → put_at a b xs ls k ≡ None → ⊥) → put_at a b xs ls k ≡ None → ⊥
    by zero e h f n = true-false (sym (is-there (b m.0) k (ap (λ z. b z.0) (some-is e) ∙ g)) ∙ h)
    by (suc d) e h f n = f d l e g n

allows-either : (ps : List Places) (p : Places) → Allows ps (at_places p) ⊎ (Allows ps (at_places p) → ⊥)
allows-either [] p = inr (λ z. no-line z.0 p z.1)
allows-either (q ∷ ps) p = elim (either-way (alike_places q p)) [
  | inl h ↦ inl (0, ap Some (places-is q p h))
  | inr h ↦ elim (allows-either ps p) [
    | inl y ↦ inl (suc y.0, y.1)
    | inr n ↦ inr (λ z. by z.0 z.1 h n)
  ]
]
  where
    by : (k : ℕ) → slice_get (q ∷ ps) k ≡ Some p → alike_places q p ≡ false → (Allows ps (at_places p) → ⊥) → ⊥
    by zero e h n = true-false (sym (subst (λ z. alike_places z p ≡ true) (sym (some-is e)) (places-self p)) ∙ h)
    by (suc k) e h n = n (k, e)

-- ---- from one side to the other

-- a pair that has not moved
abbrev pub Kept : (Places → Option ℕ) → (Places → Option ℕ) → List Places → List Places → ℕ → ℕ → Type 0
Kept a b ps moved i k = (p : Places) × Allows ps (at_places p) × (a p ≡ Some i) × (b p ≡ Some k) × (Allows moved (at_places p) → ⊥)

module _ (a b : Places → Option ℕ) (xs ys : List Tree) (ps moved : List Places) (ls : List (Told Tree)) (ea : Each a ps (length xs)) (eb : Each b ps (length ys))
    (like : (p : Places) (i k : ℕ) → Allows ps (at_places p) → a p ≡ Some i → b p ≡ Some k → slice_get xs i ≡ slice_get ys k)
    (of : (k : ℕ) (l : Told Tree) → slice_get ls k ≡ Some l → Allows ps (at_places l.0))
    (two : (k : ℕ) (l : Told Tree) (i j : ℕ) → slice_get ls k ≡ Some l → a l.0 ≡ Some i → b l.0 ≡ Some j → Allows moved (at_places l.0))
    (alone : (k : ℕ) (l : Told Tree) (j : ℕ) → slice_get ls k ≡ Some l → b l.0 ≡ Some j → a l.0 ≡ None → slice_get ys j ≡ Some l.1)
    (las : (p : Places) → Allows ps (at_places p) → b p ≡ None → HasLine p ls) (lbs : (p : Places) → Allows ps (at_places p) → a p ≡ None → HasLine p ls) (lms : (p : Places) → Allows moved (at_places p) → HasLine p ls)
    (rise : (i k m n : ℕ) → Kept a b ps moved i k → Kept a b ps moved m n → i < m → k < n) where
  k-same : (side : Places → Option ℕ) (n : ℕ) → Each side ps n → (p q : Places) (i : ℕ) → Allows ps (at_places p) → Allows ps (at_places q) → side p ≡ Some i → side q ≡ Some i → p ≡ q
  k-same side n e p q i x y f g = one-there ps x.0 y.0 p q x.1 y.1 (e.once x.0 y.0 p q i x.1 y.1 f g)

  k-back : (i k m n : ℕ) → Kept a b ps moved i k → Kept a b ps moved m n → k < n → i < m
  k-back i k m n x y l = elim (below-or i m) [
    | inl c ↦ c
    | inr c ↦ elim c [
      | inl c ↦ absurd (let z = rise m n i k y x c in omega (arith, z, l))
      | inr c ↦
          let z = k-same a (length xs) ea x.0 y.0 m x.1 y.1 (x.2 ∙ ap Some c) y.2 in
          absurd (let w : k ≡ n = some-is (sym x.3 ∙ ap b z ∙ y.3) in omega (arith, w, l))
    ]
  ]

  -- no line names a place of a pair that stays
  no-named : (i k : ℕ) (c : ℕ) (l : Told Tree) (p : Places) → slice_get ls c ≡ Some l → l.0 ≡ p → a p ≡ Some i → b p ≡ Some k → (Allows moved (at_places p) → ⊥) → ⊥
  no-named i k c l p e f g h n = n (subst (λ z. Allows moved (at_places z)) f (two c l i k e (ap a f ∙ g) (ap b f ∙ h)))

  k-here : (i k : ℕ) → Kept a b ps moved i k → named a ls i ≡ false
  k-here i k x = not-so (named a ls i) (λ e. let r = named-line a ls i e in no-named i k r.0 r.1 x.0 r.2 (k-same a (length xs) ea r.1.0 x.0 i (of r.0 r.1 r.2) x.1 r.3 x.2) x.2 x.3 x.4)

  k-there : (i k : ℕ) → Kept a b ps moved i k → put_at a b xs ls k ≡ None
  k-there i k x = elim (option-cases (put_at a b xs ls k)) [
    | inl e ↦ e
    | inr e ↦ let r = put-line a b xs ls k e.0 e.1 in absurd (no-named i k r.0 r.1 x.0 r.2 (k-same b (length ys) eb r.1.0 x.0 k (of r.0 r.1 r.2) x.1 r.3 x.3) x.2 x.3 x.4)
  ]

  k-left : (i : ℕ) → i < length xs → named a ls i ≡ false → (k : ℕ) × Kept a b ps moved i k
  k-left i l e =
      let x = ea.there i l in
      let told = λ (h : HasLine x.1 ls). true-false (sym (line-named a ls i h.0 h.1 h.2 (ap a h.3 ∙ x.3)) ∙ e) in
      elim (option-cases (b x.1)) [
        | inl n ↦ absurd (told (las x.1 (x.0, x.2) n))
        | inr k ↦ elim (allows-either moved x.1) [
          | inl y ↦ absurd (told (lms x.1 y))
          | inr n ↦ (k.0, (x.1, (x.0, x.2), x.3, k.1, n))
        ]
      ]

  k-none : (c : ℕ) (l : Told Tree) → slice_get ls c ≡ Some l → brought xs (a l.0) l.1 ≡ None → ⊥
  k-none c l e n = elim (option-cases (a l.0)) [
    | inl f ↦ none-some (sym (ap (λ z. brought xs z l.1) (sym f) ∙ n))
    | inr f ↦
        let y = of c l e in
        let w = ea.within y.0 l.0 f.0 y.1 f.1 in
        let g = slice_get-get_or xs f.0 (scalar [] []) w in
        none-some (sym (ap (λ z. brought xs z l.1) (sym f.1) ∙ n) ∙ g)
  ]

  k-right : (k : ℕ) → k < length ys → put_at a b xs ls k ≡ None → (i : ℕ) × Kept a b ps moved i k
  k-right k l e =
      let x = eb.there k l in
      let told = λ (h : HasLine x.1 ls). line-put a b xs ls k k-none h.0 h.1 h.2 (ap b h.3 ∙ x.3) e in
      elim (option-cases (a x.1)) [
        | inl n ↦ absurd (told (lbs x.1 (x.0, x.2) n))
        | inr i ↦ elim (allows-either moved x.1) [
          | inl y ↦ absurd (told (lms x.1 y))
          | inr n ↦ (i.0, (x.1, (x.0, x.2), i.1, x.3, n))
        ]
      ]

  k-said : (k : ℕ) (y : Tree) → put_at a b xs ls k ≡ Some y → slice_get ys k ≡ Some y
  k-said k y e =
      let r = put-line a b xs ls k y e in
      elim (option-cases (a r.1.0)) [
        | inl f ↦ alone r.0 r.1 k r.2 r.3 f ∙ ap (λ z. brought xs z r.1.1) (sym f) ∙ r.4
        | inr f ↦ sym (like r.1.0 f.0 k (of r.0 r.1 r.2) f.1 r.3) ∙ ap (λ z. brought xs z r.1.1) (sym f.1) ∙ r.4
      ]

  from-zero : (zs : List Tree) (m : ℕ) → slice_get zs m ≡ slice_get zs (0 + m)
  from-zero zs m = ap (slice_get zs) (omega arith)

  pub one-way : patch a b ls (length ys) xs ≡ ys
  one-way = fill-is (named a ls) (put_at a b xs ls) (Kept a b ps moved) xs ys rise k-back k-here k-there (λ i k x. like x.0 i k x.1 x.2 x.3) k-left k-right k-said ys xs 0 0 (from-zero ys) (from-zero xs) (λ i k x l. absurd (omega (arith, l))) (λ i k x l. omega arith)

is-both : (p : Places) (i k : ℕ) → left_place p ≡ Some i → right_place p ≡ Some k → p ≡ Both i k
is-both (Both m n) i k e f = ap (λ z. Both z n) (some-is e) ∙ ap (λ z. Both i z) (some-is f)
is-both (Left m) i k e f = absurd (none-some f)
is-both (Right n) i k e f = absurd (none-some e)

pub list-patch : (xs ys : List Tree) (ps moved : List Places) (ls : List (Told Tree)) → Each left_place ps (length xs) → Each right_place ps (length ys) → Settles ps moved
    → ((i j : ℕ) → Allows ps (at_places (Both i j)) → slice_get xs i ≡ slice_get ys j) → Tells xs ys ps moved ls
    → (patch left_place right_place ls (length ys) xs ≡ ys) × (patch right_place left_place ls (length xs) ys ≡ xs)
list-patch xs ys ps moved ls ea eb s like t = (
  one-way left_place right_place xs ys ps moved ls ea eb (λ p i k x e f. like i k (pair p i k x e f)) t.of t.two t.right t.lefts t.rights t.moves rise,
  one-way right_place left_place ys xs ps moved ls eb ea (λ p k i x e f. sym (like i k (pair p i k x f e))) t.of (λ k l i j e f g. t.two k l j i e g f) t.left t.rights t.lefts t.moves fall,
)
  where
    pair : (p : Places) (i k : ℕ) → Allows ps (at_places p) → left_place p ≡ Some i → right_place p ≡ Some k → Allows ps (at_places (Both i k))
    pair p i k x e f = subst (λ z. Allows ps (at_places z)) (is-both p i k e f) x

    stays : (i k : ℕ) → Kept left_place right_place ps moved i k → Stays ps moved i k
    stays i k x = record { pair = pair x.0 i k x.1 x.2 x.3; still = λ z. x.4 (subst (λ v. Allows moved (at_places v)) (sym (is-both x.0 i k x.2 x.3)) z) }

    rise : (i k m n : ℕ) → Kept left_place right_place ps moved i k → Kept left_place right_place ps moved m n → i < m → k < n
    rise i k m n x y l = s.rise i k m n (stays i k x) (stays m n y) l

    turned : (i k : ℕ) → Kept right_place left_place ps moved i k → Kept left_place right_place ps moved k i
    turned i k x = (x.0, x.1, x.3, x.2, x.4)

    fall : (i k m n : ℕ) → Kept right_place left_place ps moved i k → Kept right_place left_place ps moved m n → i < m → k < n
    fall i k m n x y l = elim (below-or k n) [
      | inl c ↦ c
      | inr c ↦ elim c [
        | inl c ↦ absurd (let z = rise n m k i (turned m n y) (turned i k x) c in omega (arith, z, l))
        | inr c ↦ absurd (once c)
      ]
    ]
      where
        once : k ≡ n → ⊥
        once c =
            let z = one-there ps x.1.0 y.1.0 x.0 y.0 x.1.1 y.1.1 (ea.once x.1.0 y.1.0 x.0 y.0 n x.1.1 y.1.1 (x.3 ∙ ap Some c) y.3) in
            let w : i ≡ m = some-is (sym x.2 ∙ ap right_place z ∙ y.2) in
            omega (arith, w, l)
