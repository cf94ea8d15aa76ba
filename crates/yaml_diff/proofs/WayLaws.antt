-- Steps of ways, and pairings put together.
use Rattle.std.proofs.Common.{◌≡◌, ℕ, zero, suc, ◌+◌, ◌<◌, ◌≤◌, Bool, true, false, cond, ◌⊎◌, List, [], ◌∷◌, inl, inr, refl, sym, ◌∙◌, ap, subst, arith}
use Rattle.std.specs.Prelude.{◌==◌, Option, Some, None}
use Rattle.std.specs.List.{slice_get}
use Rattle.std.proofs.lemmas.Bool.{eqb-true, eq-eqb}
use Rattle.yaml_definitions.specs.model.Tree.{Tree, Pairs, scalar, sequence, mapping, done, entry}
use Rattle.yaml_definitions.specs.model.Same.{same}
use Rattle.yaml_definitions.proofs.Members.{and_both, both_and}
use Rattle.yaml_definitions.proofs.Equivalence.{same_refl, same_sym, same_like}
use Rattle.yaml_path.specs.Path.{part, part_of, head_of, value_in}
use Rattle.yaml_path.specs.Path as plain
use Rattle.yaml_path.specs.Ways.{Step, at_places, at_key, Way, Pairing, below, Each, Takes, PairsAll, Rises, Settles, InOrder, SettlesAll, InOrderAll, Differs, left_place, right_place, placed, left_part, right_part, left_end, right_end, put_before, places_by, numbers, count, turns, alike_places, alike_step, AlikeStep}
use Rattle.yaml_path.specs.declared.places.Places.{Places}
use Rattle.yaml_path.specs.declared.places.Places.TheVariants.{Both, Left, Right}

pub either-way : (b : Bool) → (b ≡ true) ⊎ (b ≡ false)
either-way true = inl refl
either-way false = inr refl

pub not-so : (b : Bool) → (b ≡ true → ⊥) → b ≡ false
not-so true n = absurd (n refl)
not-so false n = refl

-- ---- steps

pub places-is : (p q : Places) → alike_places p q ≡ true → p ≡ q
places-is (Both j k) (Both m n) e =
    let a = and_both (j == m) (k == n) e in
    let x : j ≡ m = eqb-true j m a.0 in
    let y : k ≡ n = eqb-true k n a.1 in
    cc
places-is (Left j) (Left m) e = ap Left (eqb-true j m e)
places-is (Right k) (Right n) e = ap Right (eqb-true k n e)
places-is (Both j k) (Left m) e = absurd (cc)
places-is (Both j k) (Right n) e = absurd (cc)
places-is (Left j) (Both m n) e = absurd (cc)
places-is (Left j) (Right n) e = absurd (cc)
places-is (Right k) (Both m n) e = absurd (cc)
places-is (Right k) (Left m) e = absurd (cc)

pub places-self : (p : Places) → alike_places p p ≡ true
places-self (Both j k) = both_and (j == j) (k == k) (eq-eqb j j refl) (eq-eqb k k refl)
places-self (Left j) = eq-eqb j j refl
places-self (Right k) = eq-eqb k k refl

pub step-self : (s : Step) → alike_step s s ≡ true
step-self (at_places p) = places-self p
step-self (at_key x) = same_refl x

pub step-back : (s r : Step) → AlikeStep s r → AlikeStep r s
step-back (at_places p) (at_places q) e = subst (λ z. alike_places z p ≡ true) (places-is p q e) (places-self p)
step-back (at_key x) (at_key y) e = same_sym x y e
step-back (at_places p) (at_key y) e = absurd (cc)
step-back (at_key x) (at_places q) e = absurd (cc)

value-like : (ps : Pairs) (x y : Tree) → same x y ≡ true → value_in ps x ≡ value_in ps y
value-like done x y h = refl
value-like (entry k v ps) x y h = (λ z. cond (same_like x y k h z) (Some v) (value_in ps x)) ∙ ap (λ z. cond (same y k) (Some v) z) (value-like ps x y h)

pub part-like : (t : Tree) (x y : Tree) → same x y ≡ true → part t (plain.at_key x) ≡ part t (plain.at_key y)
part-like (scalar a z) x y h = refl
part-like (sequence a ts) x y h = refl
part-like (mapping a ps) x y h = value-like ps x y h

part-of-like : (t : Option Tree) (x y : Tree) → same x y ≡ true → part_of t (plain.at_key x) ≡ part_of t (plain.at_key y)
part-of-like None x y h = refl
part-of-like (Some t) x y h = part-like t x y h

pub left-alike : (t : Option Tree) (s r : Step) → AlikeStep s r → left_part t s ≡ left_part t r
left-alike t (at_places p) (at_places q) e = ap (λ z. placed t (left_place z)) (places-is p q e)
left-alike t (at_key x) (at_key y) e = part-of-like t x y e
left-alike t (at_places p) (at_key y) e = absurd (cc)
left-alike t (at_key x) (at_places q) e = absurd (cc)

pub right-alike : (u : Option Tree) (s r : Step) → AlikeStep s r → right_part u s ≡ right_part u r
right-alike u (at_places p) (at_places q) e = ap (λ z. placed u (right_place z)) (places-is p q e)
right-alike u (at_key x) (at_key y) e = part-of-like u x y e
right-alike u (at_places p) (at_key y) e = absurd (cc)
right-alike u (at_key x) (at_places q) e = absurd (cc)

none-placed : (o : Option ℕ) → placed None o ≡ None
none-placed None = refl
none-placed (Some k) = refl

pub none-left : (s : Step) → left_part None s ≡ None
none-left (at_places p) = none-placed (left_place p)
none-left (at_key x) = refl

pub none-right : (s : Step) → right_part None s ≡ None
none-right (at_places p) = none-placed (right_place p)
none-right (at_key x) = refl

-- nothing differs where nothing is
pub none-differ : (P : Pairing) (q : Way) → Differs P q None None → ⊥
none-differ P [] d = d refl
none-differ P (s ∷ q) d = none-differ (below P s) q (subst (λ z. Differs (below P s) q z None) (none-left s) (subst (λ z. Differs (below P s) q (left_part None s) z) (none-right s) d.2))

pub none-part : (P : Pairing) (q : Way) (t u : Option Tree) → t ≡ None → u ≡ None → Differs P q t u → ⊥
none-part P q t u e f d = none-differ P q (subst (λ z. Differs P q z None) e (subst (λ z. Differs P q t z) f d))

-- ---- places

pub turns-left : (j k n m : ℕ) → places_by left_place (turns j k n m) ≡ numbers j n
turns-left j k zero zero = refl
turns-left j k (suc n) (suc m) = ap (λ z. j ∷ z) (turns-left (suc j) (suc k) n m)
turns-left j k (suc n) zero = ap (λ z. j ∷ z) (turns-left (suc j) k n zero)
turns-left j k zero (suc m) = turns-left j (suc k) zero m

pub turns-right : (j k n m : ℕ) → places_by right_place (turns j k n m) ≡ numbers k m
turns-right j k zero zero = refl
turns-right j k (suc n) (suc m) = ap (λ z. k ∷ z) (turns-right (suc j) (suc k) n m)
turns-right j k (suc n) zero = turns-right (suc j) k n zero
turns-right j k zero (suc m) = ap (λ z. k ∷ z) (turns-right j (suc k) zero m)

head-is : {X : Type 0} {x y : X} {xs ys : List X} → x ∷ xs ≡ y ∷ ys → x ≡ y
head-is e = cc

tail-is : {X : Type 0} {x y : X} {xs ys : List X} → x ∷ xs ≡ y ∷ ys → xs ≡ ys
tail-is e = cc

pub some-is : {X : Type 0} {x y : X} → Some x ≡ Some y → x ≡ y
some-is e = cc

pub none-some : {X : Type 0} {x : X} → None ≡ Some x → ⊥
none-some e = absurd (cc)

pub below-or : (a b : ℕ) → (a < b) ⊎ ((b < a) ⊎ (a ≡ b))
below-or zero zero = inr (inr refl)
below-or zero (suc b) = inl (omega arith)
below-or (suc a) zero = inr (inl (omega arith))
below-or (suc a) (suc b) = elim (below-or a b) [ inl l ↦ inl (omega (arith, l)) | inr x ↦ elim x [ inl l ↦ inr (inl (omega (arith, l))) | inr q ↦ inr (inr (ap suc q)) ] ]

-- what stands at equal places of a list
pub one-there : {X : Type 0} (ps : List X) (j k : ℕ) (p q : X) → slice_get ps j ≡ Some p → slice_get ps k ≡ Some q → j ≡ k → p ≡ q
one-there ps j k p q e f h = some-is (sym e ∙ ap (slice_get ps) h ∙ f)

pub both-left : {i j m n : ℕ} → Both i j ≡ Both m n → i ≡ m
both-left e = cc

pub both-right : {i j m n : ℕ} → Both i j ≡ Both m n → j ≡ n
both-right e = cc

pub no-step : (k : ℕ) (p : Places) → slice_get [] k ≡ Some p → ⊥
no-step k p e = absurd (cc)

module _ (side : Places → Option ℕ) where
  -- the places of a list stand between the first number and the last
  pub places-within : (ps : List Places) (at n b : ℕ) (r : Places) (i : ℕ) → places_by side ps ≡ numbers at n → slice_get ps b ≡ Some r → side r ≡ Some i → (at ≤ i) × (i < at + n)
  places-within [] at n b r i e g h = absurd (cc)
  places-within (p ∷ ps) at n b r i e g h = by (side p) refl n e b g (λ m c n x y. places-within ps m n c r i x y h)
    where
      by : (o : Option ℕ) → side p ≡ o → (n : ℕ) → put_before o (places_by side ps) ≡ numbers at n → (b : ℕ) → slice_get (p ∷ ps) b ≡ Some r
          → ((m c n : ℕ) → places_by side ps ≡ numbers m n → slice_get ps c ≡ Some r → (m ≤ i) × (i < m + n)) → (at ≤ i) × (i < at + n)
      by None q n e zero g f = absurd (none-some (sym q ∙ ap side (some-is g) ∙ h))
      by None q n e (suc b) g f = f at b n e g
      by (Some k) q zero e b g f = absurd (cc)
      by (Some k) q (suc n) e zero g f = let x : k ≡ at = head-is e in let y : k ≡ i = some-is (sym q ∙ ap side (some-is g) ∙ h) in (omega arith, omega arith)
      by (Some k) q (suc n) e (suc b) g f = let m = f (suc at) b n (tail-is e) g in (omega (arith, m.0), omega (arith, m.1))

  -- and rise
  pub places-rise : (ps : List Places) (at n a b : ℕ) (p r : Places) (i j : ℕ) → places_by side ps ≡ numbers at n → a < b → slice_get ps a ≡ Some p → slice_get ps b ≡ Some r → side p ≡ Some i → side r ≡ Some j → i < j
  places-rise [] at n a b p r i j e l f g h k = absurd (cc)
  places-rise (q ∷ ps) at n a b p r i j e l f g h k = by (side q) refl n e a b l f g (λ m c d n x y z v. places-rise ps m n c d p r i j x y z v h k)
    where
      by : (o : Option ℕ) → side q ≡ o → (n : ℕ) → put_before o (places_by side ps) ≡ numbers at n → (a b : ℕ) → a < b → slice_get (q ∷ ps) a ≡ Some p → slice_get (q ∷ ps) b ≡ Some r
          → ((m c d n : ℕ) → places_by side ps ≡ numbers m n → c < d → slice_get ps c ≡ Some p → slice_get ps d ≡ Some r → i < j) → i < j
      by o x n e a zero l f g z = absurd (omega (arith, l))
      by None x n e zero (suc b) l f g z = absurd (none-some (sym x ∙ ap side (some-is f) ∙ h))
      by None x n e (suc a) (suc b) l f g z = z at a b n e (omega (arith, l)) f g
      by (Some y) x zero e a (suc b) l f g z = absurd (cc)
      by (Some y) x (suc n) e zero (suc b) l f g w =
          let z : y ≡ at = head-is e in
          let v : y ≡ i = some-is (sym x ∙ ap side (some-is f) ∙ h) in
          let m = places-within ps (suc at) n b r j (tail-is e) g k in
          omega (arith, m.0)
      by (Some y) x (suc n) e (suc a) (suc b) l f g z = z (suc at) a b n (tail-is e) (omega (arith, l)) f g

  -- no place is taken twice
  pub places-once : (ps : List Places) (at n a b : ℕ) (p r : Places) (i : ℕ) → places_by side ps ≡ numbers at n → slice_get ps a ≡ Some p → slice_get ps b ≡ Some r → side p ≡ Some i → side r ≡ Some i → a ≡ b
  places-once ps at n a b p r i e f g h k = elim (below-or a b) [
    | inl l ↦ absurd (let m = places-rise ps at n a b p r i i e l f g h k in omega (arith, m))
    | inr x ↦ elim x [
      | inl l ↦ absurd (let m = places-rise ps at n b a r p i i e l g f k h in omega (arith, m))
      | inr q ↦ q
    ]
  ]

  places-there : (ps : List Places) (at n i : ℕ) → places_by side ps ≡ numbers at n → at ≤ i → i < at + n → (k : ℕ) × (p : Places) × (slice_get ps k ≡ Some p) × (side p ≡ Some i)
  places-there [] at zero i e l m = absurd (omega (arith, l, m))
  places-there [] at (suc n) i e l m = absurd (cc)
  places-there (p ∷ ps) at n i e l m = by (side p) refl n e m (λ b c f x y. places-there ps b c i f x y)
    where
      by : (o : Option ℕ) → side p ≡ o → (n : ℕ) → put_before o (places_by side ps) ≡ numbers at n → i < at + n
          → ((b c : ℕ) → places_by side ps ≡ numbers b c → b ≤ i → i < b + c → (k : ℕ) × (q : Places) × (slice_get ps k ≡ Some q) × (side q ≡ Some i)) → (k : ℕ) × (q : Places) × (slice_get (p ∷ ps) k ≡ Some q) × (side q ≡ Some i)
      by None s n e m f = let r = f at n e l m in (suc r.0, r.1, r.2, r.3)
      by (Some x) s zero e m f = absurd (cc)
      by (Some x) s (suc n) e m f =
          let h : x ≡ at = head-is e in
          elim (below-or at i) [
            | inl b ↦ let r = f (suc at) n (tail-is e) (omega (arith, b)) (omega (arith, m)) in (suc r.0, r.1, r.2, r.3)
            | inr b ↦ elim b [
              | inl c ↦ absurd (omega (arith, l, c))
              | inr c ↦ (0, p, refl, s ∙ ap Some (h ∙ c))
            ]
          ]

  pub takes-each : (ps : List Places) (n : ℕ) → places_by side ps ≡ numbers 0 n → Each side ps n
  takes-each ps n e = record {
    within = λ k p i f g. let w = places-within ps 0 n k p i e f g in omega (arith, w.1);
    there = λ i l. places-there ps 0 n i e (omega arith) (omega (arith, l));
    once = λ j k p q i f g h x. places-once ps 0 n j k p q i e f g h x;
  }

-- an element of a list that takes each place once stands there once
pub taken-once : (ps : List Places) (n m a b : ℕ) (p : Places) → Each left_place ps n → Each right_place ps m → slice_get ps a ≡ Some p → slice_get ps b ≡ Some p → a ≡ b
taken-once ps n m a b (Both j k) e f g h = e.once a b (Both j k) (Both j k) j g h refl refl
taken-once ps n m a b (Left j) e f g h = e.once a b (Left j) (Left j) j g h refl refl
taken-once ps n m a b (Right k) e f g h = f.once a b (Right k) (Right k) k g h refl refl

-- ---- lists of which the places of both sides rise: no two pairs cross, and so none has moved

rising-rise : (ps : List Places) (n m : ℕ) → places_by left_place ps ≡ numbers 0 n → places_by right_place ps ≡ numbers 0 m → Rises ps
rising-rise ps n m e f i j a b x y l = elim (below-or x.0 y.0) [
  | inl c ↦ places-rise right_place ps 0 m x.0 y.0 (Both i j) (Both a b) j b f c x.1 y.1 refl refl
  | inr c ↦ elim c [
    | inl d ↦ absurd (let z = places-rise left_place ps 0 n y.0 x.0 (Both a b) (Both i j) a i e d y.1 x.1 refl refl in omega (arith, z, l))
    | inr d ↦ absurd (let z : i ≡ a = both-left (one-there ps x.0 y.0 (Both i j) (Both a b) x.1 y.1 d) in omega (arith, z, l))
  ]
]

pub rising-settles : (ps : List Places) (n m : ℕ) → places_by left_place ps ≡ numbers 0 n → places_by right_place ps ≡ numbers 0 m → Settles ps []
rising-settles ps n m e f = record {
  pairs = λ k p g. absurd (no-step k p g);
  rise = λ i j a b x y l. rising-rise ps n m e f i j a b x.pair y.pair l;
  calm = λ r k p g. no-step k p g;
}

pub rising-order : (ps : List Places) (n m : ℕ) → places_by left_place ps ≡ numbers 0 n → places_by right_place ps ≡ numbers 0 m → InOrder ps []
rising-order ps n m e f = record {
  rights = λ x y p q i j l g h a b. places-rise right_place ps 0 m x y p q i j f l g h a b;
  lefts = λ x y p q i j l g h v w a b. places-rise left_place ps 0 n x y p q i j e l g h a b;
}

-- each item of either side is taken once, in the order of both sides
pub record TakesInTurn (ps : List Places) (t u : Option Tree) : Type 0 where
  pub lefts : places_by left_place ps ≡ numbers 0 (count t)
  pub rights : places_by right_place ps ≡ numbers 0 (count u)

abbrev pub InTurn : Pairing → Option Tree → Option Tree → Type 0
InTurn P t u = (w : Way) → TakesInTurn (P w) (left_end t w) (right_end u w)

pub turn-takes : (ps : List Places) (t u : Option Tree) → TakesInTurn ps t u → Takes ps t u
turn-takes ps t u a = record { lefts = takes-each left_place ps (count t) a.lefts; rights = takes-each right_place ps (count u) a.rights }

-- ---- pairings

-- items in turn everywhere
abbrev pub turn : Option Tree → Option Tree → Pairing
turn t u w = turns 0 0 (count (left_end t w)) (count (right_end u w))

pub turn-in-turn : (t u : Option Tree) → InTurn (turn t u) t u
turn-in-turn t u w = record { lefts = turns-left 0 0 (count (left_end t w)) (count (right_end u w)); rights = turns-right 0 0 (count (left_end t w)) (count (right_end u w)) }

pub turn-pairs : (t u : Option Tree) → PairsAll (turn t u) t u
turn-pairs t u w = turn-takes (turn t u w) (left_end t w) (right_end u w) (turn-in-turn t u w)

-- nothing has moved
abbrev pub calm : Pairing
calm w = []

pub turn-settles : (t u : Option Tree) → SettlesAll (turn t u) calm
turn-settles t u w = let a = turn-in-turn t u w in rising-settles (turn t u w) (count (left_end t w)) (count (right_end u w)) a.lefts a.rights

pub turn-order : (t u : Option Tree) → InOrderAll (turn t u) calm
turn-order t u w = let a = turn-in-turn t u w in rising-order (turn t u w) (count (left_end t w)) (count (right_end u w)) a.lefts a.rights

-- this list here, and items in turn everywhere below
abbrev pub begin : List Places → Option Tree → Option Tree → Pairing
begin ps t u [] = ps
begin ps t u (s ∷ w) = turn (left_part t s) (right_part u s) w

pub begin-pairs : (ps : List Places) (t u : Option Tree) → Takes ps t u → PairsAll (begin ps t u) t u
begin-pairs ps t u h [] = h
begin-pairs ps t u h (s ∷ w) = turn-pairs (left_part t s) (right_part u s) w

-- these have moved here, and nothing below
abbrev pub begin-moved : List Places → Pairing
begin-moved moved [] = moved
begin-moved moved (s ∷ w) = []

pub begin-settles : (ps moved : List Places) (t u : Option Tree) → Settles ps moved → SettlesAll (begin ps t u) (begin-moved moved)
begin-settles ps moved t u h [] = h
begin-settles ps moved t u h (s ∷ w) = turn-settles (left_part t s) (right_part u s) w

pub begin-order : (ps moved : List Places) (t u : Option Tree) → InOrder ps moved → InOrderAll (begin ps t u) (begin-moved moved)
begin-order ps moved t u h [] = h
begin-order ps moved t u h (s ∷ w) = turn-order (left_part t s) (right_part u s) w

-- another pairing behind a step
abbrev pub put : Pairing → Step → Pairing → Pairing
put P s Q [] = P []
put P s Q (r ∷ w) = cond (alike_step r s) (Q w) (P (r ∷ w))

pub put-same : (P : Pairing) (s : Step) (Q : Pairing) (r : Step) → alike_step r s ≡ true → below (put P s Q) r ≡ Q
put-same P s Q r e = λ z. λ w. cond (e z) (Q w) (P (r ∷ w))

pub put-other : (P : Pairing) (s : Step) (Q : Pairing) (r : Step) → alike_step r s ≡ false → below (put P s Q) r ≡ below P r
put-other P s Q r e = λ z. λ w. cond (e z) (Q w) (P (r ∷ w))

pub put-pairs : (P : Pairing) (s : Step) (Q : Pairing) (t u : Option Tree) → PairsAll P t u → PairsAll Q (left_part t s) (right_part u s) → PairsAll (put P s Q) t u
put-pairs P s Q t u p q [] = p []
put-pairs P s Q t u p q (r ∷ w) = elim (either-way (alike_step r s)) [
  | inl e ↦
      let x : Takes (Q w) (left_end (left_part t r) w) (right_end (right_part u r) w) =
      subst (λ z. Takes (Q w) (left_end z w) (right_end (right_part u r) w)) (sym (left-alike t r s e)) (subst (λ z. Takes (Q w) (left_end (left_part t s) w) (right_end z w)) (sym (right-alike u r s e)) (q w)) in
      subst (λ z. Takes (z w) (left_end (left_part t r) w) (right_end (right_part u r) w)) (sym (put-same P s Q r e)) x
  | inr e ↦ subst (λ z. Takes (z w) (left_end (left_part t r) w) (right_end (right_part u r) w)) (sym (put-other P s Q r e)) (p (r ∷ w))
]

-- what holds of two pairings at each way holds of them with others behind a step
put-both : (F : List Places → List Places → Type 0) (P M : Pairing) (s : Step) (Q N : Pairing) → ((w : Way) → F (P w) (M w)) → ((w : Way) → F (Q w) (N w)) → (w : Way) → F (put P s Q w) (put M s N w)
put-both F P M s Q N p q [] = p []
put-both F P M s Q N p q (r ∷ w) = elim (either-way (alike_step r s)) [
  | inl e ↦ subst (λ z. F (z w) (put M s N (r ∷ w))) (sym (put-same P s Q r e)) (subst (λ z. F (Q w) (z w)) (sym (put-same M s N r e)) (q w))
  | inr e ↦ subst (λ z. F (z w) (put M s N (r ∷ w))) (sym (put-other P s Q r e)) (subst (λ z. F (P (r ∷ w)) (z w)) (sym (put-other M s N r e)) (p (r ∷ w)))
]

pub put-settles : (P M : Pairing) (s : Step) (Q N : Pairing) → SettlesAll P M → SettlesAll Q N → SettlesAll (put P s Q) (put M s N)
put-settles = put-both Settles

pub put-order : (P M : Pairing) (s : Step) (Q N : Pairing) → InOrderAll P M → InOrderAll Q N → InOrderAll (put P s Q) (put M s N)
put-order = put-both InOrder
