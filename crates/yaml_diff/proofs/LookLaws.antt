-- Steps that were looked at take the items of two lists for each other.
use Rattle.std.proofs.Common.{◌≡◌, ℕ, zero, suc, ◌+◌, ◌<◌, ◌≤◌, Bool, true, false, cond, ◌⊎◌, List, [], ◌∷◌, ◌++◌, map, take, length, get_or, inl, inr, refl, sym, ◌∙◌, ap, subst, arith}
use Rattle.std.specs.Prelude.{Option, Some, None, Result, Ok, Err, IfOk}
use Rattle.std.specs.declared.alloc.AllocError.{AllocError}
use Rattle.std.specs.List.{slice_get}
use Rattle.std.proofs.lemmas.List.{take_more, take_all}
use Rattle.yaml_path.specs.Ways.{Each, StayersRise, Rises, Settles, InOrder, Allows, at_places, left_place, right_place}
use Rattle.yaml_path.specs.declared.places.Places.{Places}
use Rattle.yaml_path.specs.declared.places.Places.TheVariants.{Both, Left, Right}
use Rattle.yaml_pair.specs.Columns.{EachOf, Rising, Falls}
use Rattle.yaml_diff.specs.Looks.{place_of, left_of, right_of, moves, has_moved, stayer_of, pair_left, pair_of, places_in, moved_in, IsRight, Checked}
use Rattle.yaml_diff.proofs.ListParts.{get-map, map-get, map-end}
use Rattle.yaml_diff.proofs.WayLaws.{some-is, none-some, below-or, one-there, both-left, no-step, taken-once}

abbrev Steps : Type 0
Steps = List (Places × Bool)

no-one : {X : Type 0} (k : ℕ) (x : X) → slice_get [] k ≡ Some x → ⊥
no-one k x e = absurd (cc)

-- ---- lists of steps, as they are read

pub map_more : {X Y : Type 0} (f : X → Y) (xs : List X) (k : ℕ) (d : X) (ys new : List Y) → k < length xs → ys ≡ map f (take k xs) → new ≡ ys ++ (f (get_or xs k d) ∷ []) → new ≡ map f (take (k + 1) xs)
map_more f xs k d ys new l e n = n ∙ ap (λ z. z ++ (f (get_or xs k d) ∷ [])) e ∙ sym (map-end f (take k xs) (get_or xs k d)) ∙ ap (map f) (sym (take_more xs k d l))

pub map_whole : {X Y : Type 0} (f : X → Y) (xs : List X) (k : ℕ) (ys : List Y) → length xs ≤ k → ys ≡ map f (take k xs) → ys ≡ map f xs
map_whole f xs k ys l e = e ∙ ap (map f) (take_all k xs l)

moved-end : (xs : Steps) (s : Places × Bool) → moved_in (xs ++ (s ∷ [])) ≡ moved_in xs ++ cond (has_moved s) (s.0 ∷ []) []
moved-end [] s = by (has_moved s)
  where
    by : (b : Bool) → cond b (s.0 ∷ []) [] ≡ [] ++ cond b (s.0 ∷ []) []
    by true = refl
    by false = refl
moved-end (x ∷ xs) s = by (has_moved x) (moved-end xs s)
  where
    by : (b : Bool) → moved_in (xs ++ (s ∷ [])) ≡ moved_in xs ++ cond (has_moved s) (s.0 ∷ []) [] → cond b (x.0 ∷ moved_in (xs ++ (s ∷ []))) (moved_in (xs ++ (s ∷ []))) ≡ cond b (x.0 ∷ moved_in xs) (moved_in xs) ++ cond (has_moved s) (s.0 ∷ []) []
    by true e = ap (λ z. x.0 ∷ z) e
    by false e = e

nothing-more : {X : Type 0} (xs : List X) → xs ++ [] ≡ xs
nothing-more [] = refl
nothing-more (x ∷ xs) = ap (λ z. x ∷ z) (nothing-more xs)

pub moved_more : (xs : Steps) (k : ℕ) (d : Places × Bool) (ys new : List Places) → k < length xs → ys ≡ moved_in (take k xs) → has_moved (get_or xs k d) ≡ true → new ≡ ys ++ ((get_or xs k d).0 ∷ []) → new ≡ moved_in (take (k + 1) xs)
moved_more xs k d ys new l e h n = n ∙ ap (λ z. z ++ ((get_or xs k d).0 ∷ [])) e ∙ sym (ap moved_in (take_more xs k d l) ∙ moved-end (take k xs) (get_or xs k d) ∙ ap (λ b. moved_in (take k xs) ++ cond b ((get_or xs k d).0 ∷ []) []) h)

pub moved_skip : (xs : Steps) (k : ℕ) (d : Places × Bool) (ys : List Places) → k < length xs → ys ≡ moved_in (take k xs) → has_moved (get_or xs k d) ≡ false → ys ≡ moved_in (take (k + 1) xs)
moved_skip xs k d ys l e h = e ∙ sym (ap moved_in (take_more xs k d l) ∙ moved-end (take k xs) (get_or xs k d) ∙ ap (λ b. moved_in (take k xs) ++ cond b ((get_or xs k d).0 ∷ []) []) h ∙ nothing-more (moved_in (take k xs)))

pub moved_whole : (xs : Steps) (k : ℕ) (ys : List Places) → length xs ≤ k → ys ≡ moved_in (take k xs) → ys ≡ moved_in xs
moved_whole xs k ys l e = e ∙ ap moved_in (take_all k xs l)

-- ---- what moved

moved-from : (ss : Steps) (k : ℕ) (p : Places) → slice_get (moved_in ss) k ≡ Some p → (a : ℕ) × (s : Places × Bool) × (slice_get ss a ≡ Some s) × (has_moved s ≡ true) × (s.0 ≡ p)
moved-from [] k p e = absurd (no-one k p e)
moved-from (s ∷ ss) k p e = by (has_moved s) refl k e (λ j f. moved-from ss j p f)
  where
    by : (b : Bool) → has_moved s ≡ b → (k : ℕ) → slice_get (cond b (s.0 ∷ moved_in ss) (moved_in ss)) k ≡ Some p
        → ((j : ℕ) → slice_get (moved_in ss) j ≡ Some p → (a : ℕ) × (r : Places × Bool) × (slice_get ss a ≡ Some r) × (has_moved r ≡ true) × (r.0 ≡ p)) → (a : ℕ) × (r : Places × Bool) × (slice_get (s ∷ ss) a ≡ Some r) × (has_moved r ≡ true) × (r.0 ≡ p)
    by true h zero e more = (0, s, refl, h, some-is e)
    by true h (suc k) e more = let x = more k e in (suc x.0, x.1, x.2, x.3, x.4)
    by false h k e more = let x = more k e in (suc x.0, x.1, x.2, x.3, x.4)

moved-there : (ss : Steps) (a : ℕ) (s : Places × Bool) → slice_get ss a ≡ Some s → has_moved s ≡ true → (k : ℕ) × (slice_get (moved_in ss) k ≡ Some s.0)
moved-there [] a s e h = absurd (no-one a s e)
moved-there (r ∷ ss) zero s e h =
    let q : r ≡ s = some-is e in
    let m : has_moved r ≡ true = ap has_moved q ∙ h in
    (0, subst (λ b. slice_get (cond b (r.0 ∷ moved_in ss) (moved_in ss)) 0 ≡ Some s.0) (sym m) (ap (λ z. Some z.0) q))
moved-there (r ∷ ss) (suc a) s e h = by (has_moved r) (moved-there ss a s e h)
  where
    by : (b : Bool) → (k : ℕ) × (slice_get (moved_in ss) k ≡ Some s.0) → (k : ℕ) × (slice_get (cond b (r.0 ∷ moved_in ss) (moved_in ss)) k ≡ Some s.0)
    by true x = (suc x.0, x.1)
    by false x = x

moved-once : (ss : Steps) → ((a b : ℕ) (s r : Places × Bool) → slice_get ss a ≡ Some s → slice_get ss b ≡ Some r → s.0 ≡ r.0 → a ≡ b) → (j k : ℕ) (p : Places) → slice_get (moved_in ss) j ≡ Some p → slice_get (moved_in ss) k ≡ Some p → j ≡ k
moved-once [] d j k p e f = absurd (no-one j p e)
moved-once (s ∷ ss) d j k p e f = by (has_moved s) j k e f (moved-once ss (λ a b x y v w z. less (d (suc a) (suc b) x y v w z)))
  where
    less : {a b : ℕ} → suc a ≡ suc b → a ≡ b
    less e = omega (arith, e)

    alone : (k : ℕ) → slice_get (moved_in ss) k ≡ Some p → s.0 ≡ p → ⊥
    alone k f q = let x = moved-from ss k p f in let z : 0 ≡ suc x.0 = d 0 (suc x.0) s x.1 refl x.2 (q ∙ sym x.4) in omega (arith, z)

    by : (b : Bool) (j k : ℕ) → slice_get (cond b (s.0 ∷ moved_in ss) (moved_in ss)) j ≡ Some p → slice_get (cond b (s.0 ∷ moved_in ss) (moved_in ss)) k ≡ Some p
        → ((j k : ℕ) (p : Places) → slice_get (moved_in ss) j ≡ Some p → slice_get (moved_in ss) k ≡ Some p → j ≡ k) → j ≡ k
    by true zero zero e f more = refl
    by true zero (suc k) e f more = absurd (alone k f (some-is e))
    by true (suc j) zero e f more = absurd (alone j e (some-is f))
    by true (suc j) (suc k) e f more = ap suc (more j k p e f)
    by false j k e f more = more j k p e f

moved-pair : (p : Places) (b : Bool) → moves p b ≡ true → (i : ℕ) × (j : ℕ) × (p ≡ Both i j)
moved-pair (Both i j) b e = (i, j, refl)
moved-pair (Left i) b e = absurd (cc)
moved-pair (Right j) b e = absurd (cc)

pair-is : (p : Places) (i : ℕ) → pair_left p ≡ Some i → (j : ℕ) × (p ≡ Both i j)
pair-is (Both i j) k e = let f : i ≡ k = some-is e in (j, ap (λ z. Both z j) f)
pair-is (Left i) k e = absurd (none-some e)
pair-is (Right j) k e = absurd (none-some e)

-- ---- columns of the steps, and the places

pub column-each : (side : Places → Option ℕ) (ss : Steps) (n : ℕ) → EachOf (map (λ s. side s.0) ss) n → Each side (places_in ss) n
column-each side ss n c = record {
  within = λ k p i e f. let x = there k p e in c.within k i (at k x.0 p i x.1 x.2 f);
  there = λ i l. let x = c.there i l in let y = get-map (λ s. side s.0) ss x.0 (Some i) x.1 in (x.0, y.0.0, map-get place_of ss x.0 y.0 y.1, y.2);
  once = λ j k p q i e f g h. let x = there j p e in let y = there k q f in c.once j k i (at j x.0 p i x.1 x.2 g) (at k y.0 q i y.1 y.2 h);
}
  where
    there : (k : ℕ) (p : Places) → slice_get (places_in ss) k ≡ Some p → (s : Places × Bool) × (slice_get ss k ≡ Some s) × (s.0 ≡ p)
    there k p e = get-map place_of ss k p e

    at : (k : ℕ) (s : Places × Bool) (p : Places) (i : ℕ) → slice_get ss k ≡ Some s → s.0 ≡ p → side p ≡ Some i → slice_get (map (λ s. side s.0) ss) k ≡ Some (Some i)
    at k s p i e q f = map-get (λ s. side s.0) ss k s e ∙ ap Some (ap side q ∙ f)

module _ (ss : Steps) (moved : List Places) (n m : ℕ) (is : moved ≡ moved_in ss) (r : IsRight ss moved n m) where
  pub left-each : Each left_place (places_in ss) n
  left-each = column-each left_place ss n r.left

  pub right-each : Each right_place (places_in ss) m
  right-each = column-each right_place ss m r.right

  step-there : (k : ℕ) (p : Places) → slice_get (places_in ss) k ≡ Some p → (s : Places × Bool) × (slice_get ss k ≡ Some s) × (s.0 ≡ p)
  step-there k p e = get-map place_of ss k p e

  -- a step that is not among what moved has its left place in the column of those that stay
  stays-at : (k : ℕ) (p : Places) (i : ℕ) → slice_get (places_in ss) k ≡ Some p → (Allows moved (at_places p) → ⊥) → left_place p ≡ Some i → slice_get (map stayer_of ss) k ≡ Some (Some i)
  stays-at k p i e n f =
      let x = step-there k p e in
      map-get stayer_of ss k x.0 x.1 ∙ ap Some (by x.0 x.1 x.2 (has_moved x.0) refl)
    where
      by : (s : Places × Bool) → slice_get ss k ≡ Some s → s.0 ≡ p → (b : Bool) → has_moved s ≡ b → cond (has_moved s) None (left_of s) ≡ Some i
      by s e q true h =
          let y = moved-there ss k s e h in
          absurd (n (y.0, ap (λ z. slice_get z y.0) is ∙ y.1 ∙ ap Some q))
      by s e q false h = ap (λ b. cond b None (left_of s)) h ∙ ap left_place q ∙ f

  right-at : (k : ℕ) (p : Places) (j : ℕ) → slice_get (places_in ss) k ≡ Some p → right_place p ≡ Some j → slice_get (map right_of ss) k ≡ Some (Some j)
  right-at k p j e f = let x = step-there k p e in map-get right_of ss k x.0 x.1 ∙ ap Some (ap right_place x.2 ∙ f)

  pub in-order : InOrder (places_in ss) moved
  in-order = record {
    rights = λ a b p q i j l e f g h. r.order a b i j l (right-at a p i e g) (right-at b q j f h);
    lefts = λ a b p q i j l e f u v g h. r.rise a b i j l (stays-at a p i e u g) (stays-at b q j f v h);
  }

  stayers-rise : StayersRise (places_in ss) moved
  stayers-rise i j c d x y l = elim (below-or x.pair.0 y.pair.0) [
    | inl b ↦ in-order.rights x.pair.0 y.pair.0 (Both i j) (Both c d) j d b x.pair.1 y.pair.1 refl refl
    | inr b ↦ elim b [
      | inl b ↦ absurd (let z = in-order.lefts y.pair.0 x.pair.0 (Both c d) (Both i j) c i b y.pair.1 x.pair.1 y.still x.still refl refl in omega (arith, z, l))
      | inr b ↦ absurd (let z : i ≡ c = both-left (one-there (places_in ss) x.pair.0 y.pair.0 (Both i j) (Both c d) x.pair.1 y.pair.1 b) in omega (arith, z, l))
    ]
  ]

  pub settled : Settles (places_in ss) moved
  settled = record {
    pairs = λ k p e.
        let x = moved-from ss k p (ap (λ z. slice_get z k) (sym is) ∙ e) in
        let y = moved-pair x.1.0 x.1.1 x.3 in
        (y.0, y.1, sym x.4 ∙ y.2, (x.0, map-get place_of ss x.0 x.1 x.2 ∙ ap Some x.4));
    rise = stayers-rise;
    calm = λ rises k p e. elim r.crosses [
      | inl none ↦ no-step k p (ap (λ z. slice_get z k) (sym none) ∙ e)
      | inr c ↦ crossed rises c
    ];
  }
    where
      crossed : Rises (places_in ss) → Falls (map pair_of ss) → ⊥
      crossed rises c =
          let x = get-map pair_of ss c.0 (Some c.2) c.5 in
          let y = get-map pair_of ss c.1 (Some c.3) c.6 in
          let u = pair-is x.0.0 c.2 x.2 in
          let v = pair-is y.0.0 c.3 y.2 in
          let first : slice_get (places_in ss) c.0 ≡ Some (Both c.2 u.0) = map-get place_of ss c.0 x.0 x.1 ∙ ap Some u.1 in
          let second : slice_get (places_in ss) c.1 ≡ Some (Both c.3 v.0) = map-get place_of ss c.1 y.0 y.1 ∙ ap Some v.1 in
          let onward = in-order.rights c.0 c.1 (Both c.2 u.0) (Both c.3 v.0) u.0 v.0 c.4 first second refl refl in
          elim (below-or c.3 c.2) [
            | inl b ↦ let z = rises c.3 v.0 c.2 u.0 (c.1, second) (c.0, first) b in omega (arith, z, onward)
            | inr b ↦ elim b [
              | inl b ↦ omega (arith, b, c.7)
              | inr b ↦
                  let z = left-each.once c.0 c.1 (Both c.2 u.0) (Both c.3 v.0) c.2 first second refl (ap Some b) in
                  omega (arith, z, c.4)
            ]
          ]

  pub moves-once : (j k : ℕ) (p : Places) → slice_get moved j ≡ Some p → slice_get moved k ≡ Some p → j ≡ k
  moves-once j k p e f = moved-once ss distinct j k p (ap (λ z. slice_get z j) (sym is) ∙ e) (ap (λ z. slice_get z k) (sym is) ∙ f)
    where
      distinct : (a b : ℕ) (s t : Places × Bool) → slice_get ss a ≡ Some s → slice_get ss b ≡ Some t → s.0 ≡ t.0 → a ≡ b
      distinct a b s t e f q = taken-once (places_in ss) n m a b s.0 left-each right-each (map-get place_of ss a s e) (map-get place_of ss b t f ∙ ap Some (sym q))

pub looked : (ss : Steps) (moved : List Places) (n m : ℕ) (answer : Result Bool AllocError) → EachOf (map left_of ss) n → Rising (map right_of ss) → Rising (map stayer_of ss) → (moved ≡ []) ⊎ Falls (map pair_of ss) → IfOk answer (λ yes. yes ≡ true → EachOf (map right_of ss) m) → IfOk answer (λ yes. yes ≡ true → IsRight ss moved n m)
looked ss moved n m (Ok b) l o r c e = λ t. record { left = l; right = e t; order = o; rise = r; crosses = c }
looked ss moved n m (Err f) l o r c e = tt

pub none-of : {X : Type 0} (xs : List X) → length xs ≡ 0 → xs ≡ []
none-of [] e = refl
none-of (x ∷ xs) e = absurd (omega (arith, e))

-- nothing moved, or pairs cross
pub none_moved : (steps : Steps) (moved : List Places) → length moved ≡ 0 → (moved ≡ []) ⊎ Falls (map pair_of steps)
none_moved steps moved e = inl (none-of moved e)

pub pairs_cross : (steps : Steps) (moved : List Places) (column : List (Option ℕ)) → column ≡ map pair_of steps → Falls column → (moved ≡ []) ⊎ Falls (map pair_of steps)
pairs_cross steps moved column e f = inr (subst Falls e f)

-- steps that are right, with the places that were read of them
pub checked_is : (steps : Steps) (list moved : List Places) (n m : ℕ) → IsRight steps moved n m → list ≡ places_in steps → moved ≡ moved_in steps → Checked steps list moved n m
checked_is steps list moved n m r l e = record { is_right = r; all = l; are = e }
