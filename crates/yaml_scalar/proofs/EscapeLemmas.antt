-- Escapes: what one is made of, and that a place has one at most.
use Rattle.std.proofs.Common.{◌≡◌, ◌≢◌, ℕ, zero, suc, ◌+◌, ◌*◌, ◌^◌, ◌<◌, ◌≤◌, ◌⊎◌, inl, inr, List, Option, Some, None, Bool, true, false, refl, sym, ◌∙◌, ap, subst, arith, add-one}
use Rattle.std.specs.Prelude.{slice_get, slice_range, ◌||◌}
use Rattle.std.specs.Int.{is_in_range}
use Rattle.std.specs.Char.{IsScalar, is_ascii_hexdigit, digit_value}
use Rattle.std.specs.Str.Parse.{digits_value}
use Rattle.std.proofs.lemmas.Int.Digits.{digits_value_push}
use Rattle.std.proofs.Math.Nat.{pow-suc}
use Rattle.std.proofs.lemmas.Bool.{cases_eq}
use Rattle.yaml_text.specs.LeafAnswer.{Unread}
use Rattle.yaml_definitions.specs.grammar.Rules.{exactly, Stands}
use Rattle.yaml_definitions.specs.grammar.Characters.{is_nb, is_break, short_escape, numbered, c-ns-esc-char as escape}
use Rattle.yaml_text.proofs.PlaceLemmas.{slice_none, slice_snoc}
use Rattle.yaml_scalar.specs.Chains.{digit_count}
use Rattle.yaml_text.proofs.Runs.{same_char, run_none, run_more}

no_count : (c : ℕ) → c ≢ 120 → c ≢ 117 → c ≢ 85 → digit_count c ≡ None
unfolding digit_count
no_count c a b d = grind (arith, a, b, d)

some_same : {x y : ℕ} → Some x ≡ Some y → x ≡ y
some_same e = cc

-- ---- hexadecimal digits

either : (x y : Bool) → (x || y) ≡ true → (x ≡ true) ⊎ (y ≡ true)
either true y p = inl refl
either false y p = inr p

in_range : (a b c : ℕ) → is_in_range a b c ≡ true → (a ≤ c) × (c ≤ b)
in_range a b c p = (grind (arith, p), grind (arith, p))

digit_low : (c : ℕ) → 48 ≤ c → c ≤ 57 → digit_value c < 16
digit_low c a b = grind (arith, a, b)

digit_upper : (c : ℕ) → 65 ≤ c → c ≤ 70 → digit_value c < 16
digit_upper c a b = grind (arith, a, b)

digit_lower : (c : ℕ) → 97 ≤ c → c ≤ 102 → digit_value c < 16
digit_lower c a b = grind (arith, a, b)

pub hex_small : (c : ℕ) → digit_value c < 16 → is_ascii_hexdigit c ≡ true
hex_small c p = grind (arith, p)

pub small_hex : (c : ℕ) → is_ascii_hexdigit c ≡ true → digit_value c < 16
small_hex c p = go (either (is_in_range 48 57 c || is_in_range 65 70 c) (is_in_range 97 102 c) p)
  where
    low : (is_in_range 48 57 c ≡ true) ⊎ (is_in_range 65 70 c ≡ true) → digit_value c < 16
    low (inl q) = (let b = in_range 48 57 c q in digit_low c b.0 b.1)
    low (inr q) = (let b = in_range 65 70 c q in digit_upper c b.0 b.1)

    go : ((is_in_range 48 57 c || is_in_range 65 70 c) ≡ true) ⊎ (is_in_range 97 102 c ≡ true) → digit_value c < 16
    go (inl q) = low (either (is_in_range 48 57 c) (is_in_range 65 70 c) q)
    go (inr q) = (let b = in_range 97 102 c q in digit_lower c b.0 b.1)

hex_no_break : (c : ℕ) → is_ascii_hexdigit c ≡ true → (c ≢ 10) × (c ≢ 13)
hex_no_break c p = ((λ e. grind (arith, p, e)), λ e. grind (arith, p, e))

pub power_small : (d : ℕ) → d < 8 → 16 ^ d ≤ 268435456
power_small zero l = omega arith
power_small (suc zero) l = omega arith
power_small (suc (suc zero)) l = omega arith
power_small (suc (suc (suc zero))) l = omega arith
power_small (suc (suc (suc (suc zero)))) l = omega arith
power_small (suc (suc (suc (suc (suc zero))))) l = omega arith
power_small (suc (suc (suc (suc (suc (suc zero)))))) l = omega arith
power_small (suc (suc (suc (suc (suc (suc (suc zero))))))) l = omega arith
power_small (suc (suc (suc (suc (suc (suc (suc (suc d)))))))) l = absurd (omega (arith, l))

pub power_more : (n d x : ℕ) → x < 16 → n < 16 ^ d → n * 16 + x < 16 ^ (d + 1)
power_more n d x l h =
    let e : 16 ^ (d + 1) ≡ 16 ^ d * 16 = ap (λ m. 16 ^ m) (add-one d) ∙ pow-suc 16 d in
    omega (arith, e, l, h)

pub count_few : (c n : ℕ) → digit_count c ≡ Some n → n ≤ 8
unfolding digit_count
count_few c n p = grind (arith, p)

module _ (cs : List ℕ) where
  pub no_hex : (i c : ℕ) → slice_get cs i ≡ Some c → (digit_value c < 16 → ⊥) → Stands cs is_ascii_hexdigit i → ⊥
  no_hex i c h none (d, g, t) = none (subst (λ x. digit_value x < 16) (same_char cs i d c g h) (small_hex d t))

  pub digits_none : (i : ℕ) → exactly cs 0 is_ascii_hexdigit i i × (0 ≡ digits_value 16 (slice_range cs i i))
  digits_none i = ((run_none cs is_ascii_hexdigit i, omega arith), sym (ap (digits_value 16) (slice_none cs i)))

  pub digits_more : (n i j k c m : ℕ) → exactly cs n is_ascii_hexdigit i j → m ≡ digits_value 16 (slice_range cs i j) → slice_get cs j ≡ Some c → digit_value c < 16 → k ≡ j + 1 →
      exactly cs (n + 1) is_ascii_hexdigit i k × (m * 16 + digit_value c ≡ digits_value 16 (slice_range cs i k))
  digits_more n i j k c m (r, e) v h s f = (
    (run_more cs is_ascii_hexdigit i j k c r h (hex_small c s) f, omega (arith, e, f)),
    ap (λ x. x * 16 + digit_value c) v ∙ sym (digits_value_push 16 (slice_range cs i j) c) ∙ sym (ap (digits_value 16) (slice_snoc cs i j k c r.0 h f)),
  )

  -- fewer digits than are wanted
  pub digits_stop : (n count i j : ℕ) → exactly cs n is_ascii_hexdigit i j → n < count → (Stands cs is_ascii_hexdigit j → ⊥) → Unread (numbered cs count) i
  unfolding numbered
  digits_stop n count i j (r, e) l none k v (s, (a, ((q, f), g), h)) = none (q.1 j r.0 (omega (arith, e, f, l)))

  pub numbered_is : (count n i j v : ℕ) → n ≡ count → exactly cs n is_ascii_hexdigit i j → v ≡ digits_value 16 (slice_range cs i j) → IsScalar v → numbered cs count i j v
  unfolding numbered
  numbered_is count n i j v f r e s = (s, (slice_range cs i j, (subst (λ x. exactly cs x is_ascii_hexdigit i j) f r, refl), e))

  pub no_scalar : (count n i j m : ℕ) → n ≡ count → exactly cs n is_ascii_hexdigit i j → m ≡ digits_value 16 (slice_range cs i j) → (IsScalar m → ⊥) → Unread (numbered cs count) i
  unfolding numbered
  no_scalar count n i j m f (r, e) g none k v (s, (a, ((q, b), d), h)) =
      let at : k ≡ j = omega (arith, e, b, f) in
      none (subst IsScalar (h ∙ ap (digits_value 16) (d ∙ ap (slice_range cs i) at) ∙ sym g) s)

  numbered_same : (count i j k v w : ℕ) → numbered cs count i j v → numbered cs count i k w → (j ≡ k) × (v ≡ w)
  unfolding numbered
  numbered_same count i j k v w (s, (a, ((r, e), f), g)) (t, (b, ((q, d), h), l)) =
      let at : j ≡ k = e ∙ sym d in (at, g ∙ ap (digits_value 16) (f ∙ ap (slice_range cs i) at ∙ sym h) ∙ sym l)

  -- ---- a whole escape

  -- the character after the backslash, and what follows it
  pub record Parts (i j v : ℕ) : Type 0 where
    pub mark : slice_get cs i ≡ Some 92
    pub c : ℕ
    pub is : slice_get cs (i + 1) ≡ Some c
    pub rest : ((short_escape c ≡ Some v) × (j ≡ i + 2)) ⊎ ((n : ℕ) × (digit_count c ≡ Some n) × numbered cs n (i + 2) j v)

  counts : (digit_count 120 ≡ Some 2) × (digit_count 117 ≡ Some 4) × (digit_count 85 ≡ Some 8)
  unfolding digit_count
  counts = (refl, refl, refl)

  pub escape_parts : (i j v : ℕ) → escape cs i j v → Parts i j v
  unfolding escape
  escape_parts i j v (k, (h, e), inl (c, (g, b, f), s)) =
      record { mark = h; c = c; is = subst (λ x. slice_get cs x ≡ Some c) e g; rest = inl (s, omega (arith, e, f)) }
  escape_parts i j v (k, (h, e), inr (inl (m, (g, f), n))) =
      record { mark = h; c = 120; is = subst (λ x. slice_get cs x ≡ Some 120) e g; rest = inr (2, counts.0, subst (λ x. numbered cs 2 x j v) (omega (arith, e, f)) n) }
  escape_parts i j v (k, (h, e), inr (inr (inl (m, (g, f), n)))) =
      record { mark = h; c = 117; is = subst (λ x. slice_get cs x ≡ Some 117) e g; rest = inr (4, counts.1, subst (λ x. numbered cs 4 x j v) (omega (arith, e, f)) n) }
  escape_parts i j v (k, (h, e), inr (inr (inr (m, (g, f), n)))) =
      record { mark = h; c = 85; is = subst (λ x. slice_get cs x ≡ Some 85) e g; rest = inr (8, counts.2, subst (λ x. numbered cs 8 x j v) (omega (arith, e, f)) n) }

  none_some : {A : Type 0} (o : Option ℕ) (x : ℕ) → o ≡ Some x → o ≡ None → A
  none_some o x p q = let h : ◌≡◌ {A = Option ℕ} None (Some x) = sym q ∙ p in cc

  break_escapes : (short_escape 10 ≡ None) × (short_escape 13 ≡ None) × (digit_count 10 ≡ None) × (digit_count 13 ≡ None)
  unfolding short_escape digit_count
  break_escapes = (refl, refl, refl, refl)

  count_escapes : (short_escape 120 ≡ None) × (short_escape 117 ≡ None) × (short_escape 85 ≡ None)
  unfolding short_escape
  count_escapes = (refl, refl, refl)

  pub count_is : (c n : ℕ) → digit_count c ≡ Some n → ((c ≡ 120) × (n ≡ 2)) ⊎ ((c ≡ 117) × (n ≡ 4)) ⊎ ((c ≡ 85) × (n ≡ 8))
  count_is c n p = elim (cases_eq c 120) [
    | inl e ↦ inl (e, some (sym p ∙ ap digit_count e ∙ counts.0))
    | inr a ↦ elim (cases_eq c 117) [
      | inl e ↦ inr (inl (e, some (sym p ∙ ap digit_count e ∙ counts.1)))
      | inr b ↦ elim (cases_eq c 85) [
        | inl e ↦ inr (inr (e, some (sym p ∙ ap digit_count e ∙ counts.2)))
        | inr d ↦ none_some (digit_count c) n p (no_count c a b d)
      ]
    ]
  ]
    where
      some : {x y : ℕ} → Some x ≡ Some y → x ≡ y
      some e = cc

  -- neither is a break
  short_no_break : (c x : ℕ) → short_escape c ≡ Some x → (c ≢ 10) × (c ≢ 13)
  short_no_break c x p = ((λ e. none_some (short_escape c) x p (ap short_escape e ∙ break_escapes.0)), λ e. none_some (short_escape c) x p (ap short_escape e ∙ break_escapes.1))

  count_no_break : (c n : ℕ) → digit_count c ≡ Some n → (c ≢ 10) × (c ≢ 13)
  count_no_break c n p = ((λ e. none_some (digit_count c) n p (ap digit_count e ∙ break_escapes.2)), λ e. none_some (digit_count c) n p (ap digit_count e ∙ break_escapes.3))

  not_both : {A : Type 0} (c x n : ℕ) → short_escape c ≡ Some x → digit_count c ≡ Some n → A
  not_both {A} c x n p q = go (count_is c n q)
    where
      go : ((c ≡ 120) × (n ≡ 2)) ⊎ ((c ≡ 117) × (n ≡ 4)) ⊎ ((c ≡ 85) × (n ≡ 8)) → A
      go (inl (e, f)) = none_some (short_escape c) x p (ap short_escape e ∙ count_escapes.0)
      go (inr (inl (e, f))) = none_some (short_escape c) x p (ap short_escape e ∙ count_escapes.1)
      go (inr (inr (e, f))) = none_some (short_escape c) x p (ap short_escape e ∙ count_escapes.2)

  nb_is : (c : ℕ) → c ≢ 10 → c ≢ 13 → is_nb c ≡ true
  unfolding is_nb is_break
  nb_is c a b = grind (arith, a, b)

  pub escape_short : (i k j c v : ℕ) → slice_get cs i ≡ Some 92 → k ≡ i + 1 → slice_get cs k ≡ Some c → short_escape c ≡ Some v → j ≡ k + 1 → escape cs i j v
  unfolding escape
  escape_short i k j c v h e g s f = let n = short_no_break c v s in (k, (h, e), inl (c, (g, nb_is c n.0 n.1, f), s))

  pub escape_long : (i k l j c n v : ℕ) → slice_get cs i ≡ Some 92 → k ≡ i + 1 → slice_get cs k ≡ Some c → digit_count c ≡ Some n → l ≡ k + 1 → numbered cs n l j v → escape cs i j v
  unfolding escape
  escape_long i k l j c n v h e g s f p = go (count_is c n s)
    where
      go : ((c ≡ 120) × (n ≡ 2)) ⊎ ((c ≡ 117) × (n ≡ 4)) ⊎ ((c ≡ 85) × (n ≡ 8)) → escape cs i j v
      go (inl (a, b)) = (k, (h, e), inr (inl (l, (g ∙ ap Some a, f), subst (λ x. numbered cs x l j v) b p)))
      go (inr (inl (a, b))) = (k, (h, e), inr (inr (inl (l, (g ∙ ap Some a, f), subst (λ x. numbered cs x l j v) b p))))
      go (inr (inr (a, b))) = (k, (h, e), inr (inr (inr (l, (g ∙ ap Some a, f), subst (λ x. numbered cs x l j v) b p))))

  pub no_escape_mark : (i : ℕ) → slice_get cs i ≢ Some 92 → Unread (escape cs) i
  no_escape_mark i n j v p = n (escape_parts i j v p).mark

  pub no_escape_end : (i k : ℕ) → k ≡ i + 1 → slice_get cs k ≡ None → Unread (escape cs) i
  no_escape_end i k e n j v p =
      let q = escape_parts i j v p in
      let h : ◌≡◌ {A = Option ℕ} None (Some q.c) = sym n ∙ ap (slice_get cs) e ∙ q.is in cc

  -- at a character that begins neither kind, or where the number is none
  escape_not_here : (i k c : ℕ) → k ≡ i + 1 → slice_get cs k ≡ Some c → short_escape c ≡ None → ((n : ℕ) → digit_count c ≡ Some n → Unread (numbered cs n) (i + 2)) → Unread (escape cs) i
  escape_not_here i k c e g s none j v p =
      let q = escape_parts i j v p in
      let at : q.c ≡ c = same_char cs (i + 1) q.c c q.is (subst (λ x. slice_get cs x ≡ Some c) e g) in
      go q.c at q.rest
    where
      go : (d : ℕ) → d ≡ c → ((short_escape d ≡ Some v) × (j ≡ i + 2)) ⊎ ((n : ℕ) × (digit_count d ≡ Some n) × numbered cs n (i + 2) j v) → ⊥
      go d at (inl (t, f)) = none_some (short_escape c) v (ap short_escape (sym at) ∙ t) s
      go d at (inr (n, t, f)) = none n (ap digit_count (sym at) ∙ t) j v f

  pub no_escape_count : (i k c : ℕ) → k ≡ i + 1 → slice_get cs k ≡ Some c → short_escape c ≡ None → digit_count c ≡ None → Unread (escape cs) i
  no_escape_count i k c e g s t = escape_not_here i k c e g s (λ n u. none_some (digit_count c) n u t)

  pub no_escape_here : (i k l c n : ℕ) → k ≡ i + 1 → slice_get cs k ≡ Some c → l ≡ k + 1 → short_escape c ≡ None → digit_count c ≡ Some n → Unread (numbered cs n) l → Unread (escape cs) i
  no_escape_here i k l c n e g f s t none =
      escape_not_here i k c e g s (λ m u. subst (λ x. Unread (numbered cs x) (i + 2)) (some_same (sym t ∙ u)) (subst (Unread (numbered cs n)) (omega (arith, e, f)) none))

  pub escape_same : (i j k v w : ℕ) → escape cs i j v → escape cs i k w → (j ≡ k) × (v ≡ w)
  escape_same i j k v w p q =
      let a = escape_parts i j v p in
      let b = escape_parts i k w q in
      go a.c b.c (same_char cs (i + 1) a.c b.c a.is b.is) a.rest b.rest
    where
      some : {x y : ℕ} → Some x ≡ Some y → x ≡ y
      some e = cc

      go : (c d : ℕ) → c ≡ d → ((short_escape c ≡ Some v) × (j ≡ i + 2)) ⊎ ((n : ℕ) × (digit_count c ≡ Some n) × numbered cs n (i + 2) j v) →
          ((short_escape d ≡ Some w) × (k ≡ i + 2)) ⊎ ((n : ℕ) × (digit_count d ≡ Some n) × numbered cs n (i + 2) k w) → (j ≡ k) × (v ≡ w)
      go c d at (inl (s, e)) (inl (t, f)) = (e ∙ sym f, some (sym s ∙ ap short_escape at ∙ t))
      go c d at (inl (s, e)) (inr (n, t, f)) = not_both d v n (ap short_escape (sym at) ∙ s) t
      go c d at (inr (n, t, f)) (inl (s, e)) = not_both d w n s (ap digit_count (sym at) ∙ t)
      go c d at (inr (n, s, e)) (inr (m, t, f)) =
          let q : n ≡ m = some (sym s ∙ ap digit_count at ∙ t) in
          numbered_same m (i + 2) j k v w (subst (λ x. numbered cs x (i + 2) j v) q e) f

  -- no character of an escape is a break
  pub escape_characters : (i j v : ℕ) → escape cs i j v → (i + 2 ≤ j) × ((k : ℕ) → i ≤ k → k < j → (c : ℕ) × (slice_get cs k ≡ Some c) × (c ≢ 10) × (c ≢ 13))
  unfolding numbered
  escape_characters i j v p = let q = escape_parts i j v p in go q.c q.is q.mark q.rest
    where
      go : (d : ℕ) → slice_get cs (i + 1) ≡ Some d → slice_get cs i ≡ Some 92 → ((short_escape d ≡ Some v) × (j ≡ i + 2)) ⊎ ((n : ℕ) × (digit_count d ≡ Some n) × numbered cs n (i + 2) j v) →
          (i + 2 ≤ j) × ((k : ℕ) → i ≤ k → k < j → (c : ℕ) × (slice_get cs k ≡ Some c) × (c ≢ 10) × (c ≢ 13))
      go d h m (inl (s, e)) = (
        omega (arith, e),
        λ k a b. elim (cases_eq k i) [
          | inl f ↦ (92, subst (λ x. slice_get cs x ≡ Some 92) (sym f) m, (omega arith), (omega arith))
          | inr n ↦ (d, subst (λ x. slice_get cs x ≡ Some d) (let g : i + 1 ≡ k = omega (arith, a, b, e, n) in g) h, (short_no_break d v s).0, (short_no_break d v s).1)
        ],
      )
      go d h m (inr (n, t, (s, (a, ((r, e), f), g)))) = (
        r.0,
        λ k x y. elim (cases_eq k i) [
          | inl q ↦ (92, subst (λ x. slice_get cs x ≡ Some 92) (sym q) m, (omega arith), (omega arith))
          | inr z ↦ elim (cases_eq k (i + 1)) [
            | inl q ↦ (d, subst (λ x. slice_get cs x ≡ Some d) (sym q) h, (count_no_break d n t).0, (count_no_break d n t).1)
            | inr w ↦ digit k (r.1 k (omega (arith, x, z, w)) y)
          ]
        ],
      )
        where
          digit : (k : ℕ) → Stands cs is_ascii_hexdigit k → (c : ℕ) × (slice_get cs k ≡ Some c) × (c ≢ 10) × (c ≢ 13)
          digit k (c, l, q) = (c, l, (hex_no_break c q).0, (hex_no_break c q).1)
