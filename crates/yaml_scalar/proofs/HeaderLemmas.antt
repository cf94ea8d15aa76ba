-- A block scalar's header: from a place one at most.
use Rattle.std.proofs.Common.{◌≡◌, ◌≢◌, ℕ, ◌+◌, ◌-◌, ◌⊎◌, inl, inr, List, Option, Some, None, Bool, true, false, ◌||◌, refl, sym, ◌∙◌, ap, subst, arith}
use Rattle.std.specs.Prelude.{slice_get, ◌==◌}
use Rattle.std.specs.Int.{is_in_range}
use Rattle.yaml_definitions.specs.grammar.Rules.{Stands}
use Rattle.yaml_definitions.specs.grammar.Characters.{is_space, is_nb, is_break}
use Rattle.yaml_definitions.specs.grammar.Separation.{s-separate-in-line as sep, s-b-comment as s_b_comment}
use Rattle.yaml_definitions.specs.grammar.BlockScalars.{Chomp, strip, clip, keep, Header, c-indentation-indicator as indentation_indicator, c-chomping-indicator as chomping_indicator, c-b-block-header as header}
use Rattle.yaml_scalar.specs.BlockRules.{is_sign, indicators, EndIndicators}
use Rattle.yaml_text.specs.Lines.{Inside, blank_rest}
use Rattle.yaml_text.proofs.Runs.{same_char, no_stand}
use Rattle.yaml_text.proofs.LineRuns.{inside_no_line, line_end_stops}
use Rattle.yaml_text.proofs.RestLemmas.{space_hash, blank_rest_same, blank_rest_stops, from_s_b}

digit_nb : (c : ℕ) → is_in_range 49 57 c ≡ true → is_nb c ≡ true
unfolding is_nb is_break
digit_nb c t = grind (arith, t)

sign_code : (c : ℕ) → is_sign c ≡ true → (c ≡ 45) ⊎ (c ≡ 43)
sign_code c t = go (c == 45) (c == 43) refl refl t
  where
    go : (a b : Bool) → (c == 45) ≡ a → (c == 43) ≡ b → (a || b) ≡ true → (c ≡ 45) ⊎ (c ≡ 43)
    go true b e f t = inl (grind (arith, e))
    go false true e f t = inr (grind (arith, f))
    go false false e f t = let h : false ≡ true = t in cc

module _ (cs : List ℕ) where
  -- ---- the indicators

  abbrev pub Digit : ℕ → Type 0
  Digit = Stands cs (is_in_range 49 57)

  abbrev pub Sign : ℕ → Type 0
  Sign = Stands cs is_sign

  data Digits (i j : ℕ) (d : Option ℕ) : Type 0 where
    bare : j ≡ i → d ≡ None → Digits i j d
    digit : (c : ℕ) → slice_get cs i ≡ Some c → is_in_range 49 57 c ≡ true → j ≡ i + 1 → d ≡ Some (c - 48) → Digits i j d

  digits_of : (i j : ℕ) (d : Option ℕ) → indentation_indicator cs i j d → Digits i j d
  unfolding indentation_indicator
  digits_of i j d (inl (e, f)) = bare e f
  digits_of i j d (inr (c, (h, t, e), f)) = digit c h t e f

  data Signs (i j : ℕ) (s : Chomp) : Type 0 where
    bare : j ≡ i → s ≡ clip → Signs i j s
    minus : slice_get cs i ≡ Some 45 → j ≡ i + 1 → s ≡ strip → Signs i j s
    plus : slice_get cs i ≡ Some 43 → j ≡ i + 1 → s ≡ keep → Signs i j s

  signs_of : (i j : ℕ) (s : Chomp) → chomping_indicator cs i j s → Signs i j s
  unfolding chomping_indicator
  signs_of i j s (inl (e, f)) = Signs.bare e f
  signs_of i j s (inr (inl (k, (h, e), (f, g)))) = minus h (f ∙ e) g
  signs_of i j s (inr (inr (k, (h, e), (f, g)))) = plus h (f ∙ e) g

  digits_same : (i j k : ℕ) (d e : Option ℕ) → Digits i j d → (Digit j → ⊥) → Digits i k e → (Digit k → ⊥) → (j ≡ k) × (d ≡ e)
  digits_same i j k d e (bare a b) n (bare x y) m = (a ∙ sym x, b ∙ sym y)
  digits_same i j k d e (bare a b) n (digit c h t x y) m = absurd (n (subst Digit (sym a) (c, h, t)))
  digits_same i j k d e (digit c h t a b) n (bare x y) m = absurd (m (subst Digit (sym x) (c, h, t)))
  digits_same i j k d e (digit c h t a b) n (digit f g u x y) m = (a ∙ sym x, b ∙ ap (λ v. Some (v - 48)) (same_char cs i c f h g) ∙ sym y)

  sign_45 : (i : ℕ) → slice_get cs i ≡ Some 45 → Sign i
  sign_45 i h = (45, h, refl)

  sign_43 : (i : ℕ) → slice_get cs i ≡ Some 43 → Sign i
  sign_43 i h = (43, h, refl)

  minus_or_plus : (i : ℕ) → slice_get cs i ≡ Some 45 → slice_get cs i ≡ Some 43 → ⊥
  minus_or_plus i h g = let e : 45 ≡ 43 = same_char cs i 45 43 h g in omega (arith, e)

  signs_same : (i j k : ℕ) (s t : Chomp) → Signs i j s → (Sign j → ⊥) → Signs i k t → (Sign k → ⊥) → (j ≡ k) × (s ≡ t)
  signs_same i j k s t (Signs.bare a b) n (Signs.bare x y) m = (a ∙ sym x, b ∙ sym y)
  signs_same i j k s t (Signs.bare a b) n (minus h x y) m = absurd (n (subst Sign (sym a) (sign_45 i h)))
  signs_same i j k s t (Signs.bare a b) n (plus h x y) m = absurd (n (subst Sign (sym a) (sign_43 i h)))
  signs_same i j k s t (minus h a b) n (Signs.bare x y) m = absurd (m (subst Sign (sym x) (sign_45 i h)))
  signs_same i j k s t (minus h a b) n (minus g x y) m = (a ∙ sym x, b ∙ sym y)
  signs_same i j k s t (minus h a b) n (plus g x y) m = absurd (minus_or_plus i h g)
  signs_same i j k s t (plus h a b) n (Signs.bare x y) m = absurd (m (subst Sign (sym x) (sign_43 i h)))
  signs_same i j k s t (plus h a b) n (minus g x y) m = absurd (minus_or_plus i g h)
  signs_same i j k s t (plus h a b) n (plus g x y) m = (a ∙ sym x, b ∙ sym y)

  no_both : (i : ℕ) → Digit i → Sign i → ⊥
  no_both i (c, h, t) (d, g, u) = let e : c ≡ d = same_char cs i c d h g in grind (arith, t, u, e)

  -- what stands at the second indicator's place
  digits_no_sign : (i j : ℕ) (d : Option ℕ) → Digits i j d → (Sign j → ⊥) → Sign i → ⊥
  digits_no_sign i j d (bare a b) n s = n (subst Sign (sym a) s)
  digits_no_sign i j d (digit c h t a b) n s = no_both i (c, h, t) s

  signs_no_digit : (i j : ℕ) (s : Chomp) → Signs i j s → (Digit j → ⊥) → Digit i → ⊥
  signs_no_digit i j s (Signs.bare a b) n d = n (subst Digit (sym a) d)
  signs_no_digit i j s (minus h a b) n d = no_both i d (sign_45 i h)
  signs_no_digit i j s (plus h a b) n d = no_both i d (sign_43 i h)

  -- the two in either order
  data Both (i j : ℕ) (h : Header) : Type 0 where
    digit_first : (k : ℕ) (d : Option ℕ) (s : Chomp) → Digits i k d → Signs k j s → h ≡ record { digit = d; chomp = s } → Both i j h
    sign_first : (k : ℕ) (d : Option ℕ) (s : Chomp) → Signs i k s → Digits k j d → h ≡ record { digit = d; chomp = s } → Both i j h

  both_of : (i j : ℕ) (h : Header) → header cs i j h → (k : ℕ) × Both i k h × s_b_comment cs k j
  unfolding header
  both_of i j h (k, inl (m, d, a, (s, b, e)), t) = (k, digit_first m d s (digits_of i m d a) (signs_of m k s b) e, t)
  both_of i j h (k, inr (m, s, b, (d, a, e)), t) = (k, sign_first m d s (signs_of i m s b) (digits_of m k d a) e, t)

  -- ---- what the code reads

  pub digit_none : (i : ℕ) → indentation_indicator cs i i None
  unfolding indentation_indicator
  digit_none i = inl (refl, refl)

  pub digit_some : (i j c d : ℕ) → slice_get cs i ≡ Some c → is_in_range 49 57 c ≡ true → j ≡ i + 1 → d ≡ c - 48 → indentation_indicator cs i j (Some d)
  unfolding indentation_indicator
  digit_some i j c d h t e f = inr (c, (h, t, e), ap Some f)

  pub sign_none : (i : ℕ) → chomping_indicator cs i i clip
  unfolding chomping_indicator
  sign_none i = inl (refl, refl)

  pub sign_minus : (i j : ℕ) → slice_get cs i ≡ Some 45 → j ≡ i + 1 → chomping_indicator cs i j strip
  unfolding chomping_indicator
  sign_minus i j h e = inr (inl (j, (h, e), (refl, refl)))

  pub sign_plus : (i j : ℕ) → slice_get cs i ≡ Some 43 → j ≡ i + 1 → chomping_indicator cs i j keep
  unfolding chomping_indicator
  sign_plus i j h e = inr (inr (j, (h, e), (refl, refl)))

  pub no_sign : (i : ℕ) → slice_get cs i ≢ Some 45 → slice_get cs i ≢ Some 43 → Sign i → ⊥
  no_sign i a b (c, h, t) = go (sign_code c t)
    where
      go : (c ≡ 45) ⊎ (c ≡ 43) → ⊥
      go (inl e) = a (h ∙ ap Some e)
      go (inr e) = b (h ∙ ap Some e)

  pub digit_first_is : (i k j : ℕ) (d : Option ℕ) (s : Chomp) → indentation_indicator cs i k d → chomping_indicator cs k j s → indicators cs i j (record { digit = d; chomp = s })
  unfolding indicators
  digit_first_is i k j d s a b = inl (k, d, a, (s, b, refl))

  pub no_digit_first : (i k : ℕ) → indentation_indicator cs i k None → k ≡ i
  unfolding indentation_indicator
  no_digit_first i k (inl (e, f)) = e
  no_digit_first i k (inr (c, (h, t, e), f)) = let g : ◌≡◌ {A = Option ℕ} None (Some (c - 48)) = f in cc

  sign_first_is : (i k j : ℕ) (d : Option ℕ) (s : Chomp) → chomping_indicator cs i k s → indentation_indicator cs k j d → indicators cs i j (record { digit = d; chomp = s })
  unfolding indicators
  sign_first_is i k j d s b a = inr (k, s, b, (d, a, refl))

  -- the whole header
  pub header_is : (i k j : ℕ) (h : Header) → indicators cs i k h → s_b_comment cs k j → header cs i j h
  unfolding indicators header
  header_is i k j h r t = (k, r, t)

  pub header_parts : (i j : ℕ) (h : Header) → header cs i j h → (k : ℕ) × indicators cs i k h × s_b_comment cs k j
  unfolding indicators header
  header_parts i j h r = r

  both_in : (i j : ℕ) (h : Header) → indicators cs i j h → Both i j h
  unfolding indicators
  both_in i j h (inl (m, d, a, (s, b, e))) = digit_first m d s (digits_of i m d a) (signs_of m j s b) e
  both_in i j h (inr (m, s, b, (d, a, e))) = sign_first m d s (signs_of i m s b) (digits_of m j d a) e

  -- a reading that took an indicator where one stands ends where another ends
  signs_meet : (i m k : ℕ) (s t : Chomp) → Signs i m s → (m ≡ i → Sign i → ⊥) → Signs i k t → (Sign k → ⊥) → k ≡ m
  signs_meet i m k s t a none (Signs.bare x y) n = go a
    where
      go : Signs i m s → k ≡ m
      go (Signs.bare p q) = x ∙ sym p
      go (minus h p q) = absurd (n (subst Sign (sym x) (sign_45 i h)))
      go (plus h p q) = absurd (n (subst Sign (sym x) (sign_43 i h)))
  signs_meet i m k s t (Signs.bare p q) none (minus h x y) n = absurd (none p (sign_45 i h))
  signs_meet i m k s t (minus g p q) none (minus h x y) n = x ∙ sym p
  signs_meet i m k s t (plus g p q) none (minus h x y) n = x ∙ sym p
  signs_meet i m k s t (Signs.bare p q) none (plus h x y) n = absurd (none p (sign_43 i h))
  signs_meet i m k s t (minus g p q) none (plus h x y) n = x ∙ sym p
  signs_meet i m k s t (plus g p q) none (plus h x y) n = x ∙ sym p

  digits_meet : (i m k : ℕ) (d e : Option ℕ) → Digits i m d → (m ≡ i → Digit i → ⊥) → Digits i k e → (Digit k → ⊥) → k ≡ m
  digits_meet i m k d e (bare p q) none (bare x y) n = x ∙ sym p
  digits_meet i m k d e (digit c h t p q) none (bare x y) n = absurd (n (subst Digit (sym x) (c, h, t)))
  digits_meet i m k d e (bare p q) none (digit c h t x y) n = absurd (none p (c, h, t))
  digits_meet i m k d e (digit b g u p q) none (digit c h t x y) n = x ∙ sym p

  -- where a digit was read first
  digit_meets : (i m j k d : ℕ) (s : Chomp) (h : Header) → Digits i m (Some d) → Signs m j s → (j ≡ m → Sign m → ⊥) → Both i k h → (Digit k → ⊥) → (Sign k → ⊥) → k ≡ j
  digit_meets i m j k d s h (bare p q) b none r x y = let f : ◌≡◌ {A = Option ℕ} None (Some d) = sym q in cc
  digit_meets i m j k d s h (digit c g u p q) b none (digit_first n e t (bare v w) o z) x y =
      absurd (go (subst (λ a. Signs a k t) v o))
    where
      go : Signs i k t → ⊥
      go (Signs.bare a b) = x (subst Digit (sym a) (c, g, u))
      go (minus a b d) = no_both i (c, g, u) (sign_45 i a)
      go (plus a b d) = no_both i (c, g, u) (sign_43 i a)
  digit_meets i m j k d s h (digit c g u p q) b none (digit_first n e t (digit a f l v w) o z) x y =
      signs_meet m j k s t b none (subst (λ r. Signs r k t) (v ∙ sym p) o) y
  digit_meets i m j k d s h (digit c g u p q) b none (sign_first n e t (Signs.bare v w) o z) x y =
      signs_meet m j k s clip b none (Signs.bare at refl) y
    where
      at : k ≡ m
      at = digits_meet i m k (Some d) e (digit c g u p q) (λ f. absurd (omega (arith, f, p))) (subst (λ r. Digits r k e) v o) x
  digit_meets i m j k d s h (digit c g u p q) b none (sign_first n e t (minus v w r) o z) x y = absurd (no_both i (c, g, u) (sign_45 i v))
  digit_meets i m j k d s h (digit c g u p q) b none (sign_first n e t (plus v w r) o z) x y = absurd (no_both i (c, g, u) (sign_43 i v))

  -- where none stood first
  sign_meets : (i m j k : ℕ) (d : Option ℕ) (s : Chomp) (h : Header) → (Digit i → ⊥) → Signs i m s → (m ≡ i → Sign i → ⊥) → Digits m j d → (j ≡ m → Digit m → ⊥) →
      Both i k h → (Digit k → ⊥) → (Sign k → ⊥) → k ≡ j
  sign_meets i m j k d s h free a none b last (digit_first n e t (digit c g u v w) o z) x y = absurd (free (c, g, u))
  sign_meets i m j k d s h free a none b last (digit_first n e t (bare v w) o z) x y =
      digits_meet m j k d None b last (bare (signs_meet i m k s t a none (subst (λ r. Signs r k t) v o) y) refl) x
  sign_meets i m j k d s h free a none b last (sign_first n e t o r z) x y = go o r
    where
      meet : Signs i n t → Digit n → n ≡ m
      meet o q = signs_meet i m n s t a none o (no_both n q)

      go : Signs i n t → Digits n k e → k ≡ j
      go o (bare v w) = digits_meet m j k d None b last (bare (signs_meet i m k s t a none (subst (λ l. Signs i l t) (sym v) o) y) refl) x
      go (Signs.bare f l) (digit c g u v w) = absurd (free (subst Digit f (c, g, u)))
      go (minus f l p) (digit c g u v w) =
          digits_meet m j k d e b last (subst (λ q. Digits q k e) (meet (minus f l p) (c, g, u)) (digit c g u v w)) x
      go (plus f l p) (digit c g u v w) =
          digits_meet m j k d e b last (subst (λ q. Digits q k e) (meet (plus f l p) (c, g, u)) (digit c g u v w)) x

  pub digit_only : (i m j d : ℕ) (s : Chomp) → indentation_indicator cs i m (Some d) → chomping_indicator cs m j s → (j ≡ m → Sign m → ⊥) → EndIndicators cs i j
  digit_only i m j d s a b none k h r x y = digit_meets i m j k d s h (digits_of i m (Some d) a) (signs_of m j s b) none (both_in i k h r) x y

  pub sign_only : (i o m j : ℕ) (d : Option ℕ) (s : Chomp) → o ≡ i → (o ≡ i → Digit i → ⊥) → chomping_indicator cs o m s → (m ≡ o → Sign o → ⊥) → indentation_indicator cs m j d → (j ≡ m → Digit m → ⊥) → EndIndicators cs i j
  sign_only i o m j d s at free a none b last k h r x y =
      sign_meets o m j k d s h (λ q. free at (subst Digit at q)) (signs_of o m s a) none (digits_of m j d b) last (subst (λ v. Both v k h) (sym at) (both_in i k h r)) x y

  pub sign_first_from : (i o k j : ℕ) (d : Option ℕ) (s : Chomp) → o ≡ i → chomping_indicator cs o k s → indentation_indicator cs k j d → indicators cs i j (record { digit = d; chomp = s })
  sign_first_from i o k j d s at b a = subst (λ v. indicators cs v j (record { digit = d; chomp = s })) at (sign_first_is o k j d s b a)

  abbrev Plain : ℕ → Type 0
  Plain i = (Digit i → ⊥) × (Sign i → ⊥)

  same_header : (d e : Option ℕ) (s t : Chomp) → d ≡ e → s ≡ t → {h g : Header} → h ≡ record { digit = d; chomp = s } → g ≡ record { digit = e; chomp = t } → h ≡ g
  same_header d e s t p q {h} {g} a b =
      a ∙ ap (λ x. let r : Header = record { digit = x; chomp = s } in r) p ∙ ap (λ x. let r : Header = record { digit = e; chomp = x } in r) q ∙ sym b

  crossed : (i j k m n : ℕ) (d e : Option ℕ) (s t : Chomp) → Digits i m d → Signs m j s → Plain j → Signs i n t → Digits n k e → Plain k → (j ≡ k) × (d ≡ e) × (s ≡ t)
  crossed i j k m n d e s t (bare a b) q x r u y =
      let one = signs_same i j n s t (subst (λ v. Signs v j s) a q) x.1 r (digits_no_sign n k e u y.1) in
      let two = digits_same j j k None e (bare refl refl) x.0 (subst (λ v. Digits v k e) (sym one.0) u) y.0 in
      (two.0, b ∙ two.1, one.1)
  crossed i j k m n d e s t (digit c h o a b) q x (Signs.bare f g) u y =
      let one = digits_same i m k d e (digit c h o a b) (signs_no_digit m j s q x.0) (subst (λ v. Digits v k e) f u) y.0 in
      let two = signs_same k j k s clip (subst (λ v. Signs v j s) one.0 q) x.1 (Signs.bare refl refl) y.1 in
      (two.0, one.1, two.1 ∙ sym g)
  crossed i j k m n d e s t (digit c h o a b) q x (minus f g p) u y = absurd (no_both i (c, h, o) (sign_45 i f))
  crossed i j k m n d e s t (digit c h o a b) q x (plus f g p) u y = absurd (no_both i (c, h, o) (sign_43 i f))

  both_same : (i j k : ℕ) (h g : Header) → Both i j h → Plain j → Both i k g → Plain k → (j ≡ k) × (h ≡ g)
  both_same i j k h g (digit_first m d s p q a) x (digit_first n e t r u b) y =
      let one = digits_same i m n d e p (signs_no_digit m j s q x.0) r (signs_no_digit n k t u y.0) in
      let two = signs_same n j k s t (subst (λ v. Signs v j s) one.0 q) x.1 u y.1 in
      (two.0, same_header d e s t one.1 two.1 a b)
  both_same i j k h g (sign_first m d s p q a) x (sign_first n e t r u b) y =
      let one = signs_same i m n s t p (digits_no_sign m j d q x.1) r (digits_no_sign n k e u y.1) in
      let two = digits_same n j k d e (subst (λ v. Digits v j d) one.0 q) x.0 u y.0 in
      (two.0, same_header d e s t two.1 one.1 a b)
  both_same i j k h g (digit_first m d s p q a) x (sign_first n e t r u b) y =
      let all = crossed i j k m n d e s t p q x r u y in
      (all.0, same_header d e s t all.1 all.2 a b)
  both_same i j k h g (sign_first m d s p q a) x (digit_first n e t r u b) y =
      let all = crossed i k j n m e d t s r u y p q x in
      (sym all.0, same_header d e s t (sym all.1) (sym all.2) a b)

  tail_plain : (i j : ℕ) → s_b_comment cs i j → Plain i
  tail_plain i j t =
      (blank_rest_stops cs (is_in_range 49 57) refl refl refl refl i j (from_s_b cs i j t), blank_rest_stops cs is_sign refl refl refl refl i j (from_s_b cs i j t))

  -- one header at most
  pub header_same : (i j k : ℕ) (h g : Header) → header cs i j h → header cs i k g → (j ≡ k) × (h ≡ g)
  header_same i j k h g p q = go (both_of i j h p) (both_of i k g q)
    where
      go : (m : ℕ) × Both i m h × s_b_comment cs m j → (n : ℕ) × Both i n g × s_b_comment cs n k → (j ≡ k) × (h ≡ g)
      go (m, a, t) (n, b, u) =
          let one = both_same i m n h g a (tail_plain m j t) b (tail_plain n k u) in
          (blank_rest_same cs n j k (subst (λ x. blank_rest cs x j) one.0 (from_s_b cs m j t)) (from_s_b cs n k u), one.1)

  -- a header's rest of line begins where the indicators end
  pub no_header : (i e : ℕ) → EndIndicators cs i e → ((j : ℕ) → s_b_comment cs e j → ⊥) → (j : ℕ) (h : Header) → header cs i j h → ⊥
  no_header i e only none j h r =
      let p = header_parts i j h r in
      let plain = tail_plain p.0 j p.2 in
      let at : p.0 ≡ e = only p.0 h p.1 plain.0 plain.1 in
      none j (subst (λ x. s_b_comment cs x j) at p.2)

  -- a comment right after the indicators is none
  pub hash_no_rest : (i : ℕ) → Inside cs i → slice_get cs i ≡ Some 35 → (j : ℕ) → s_b_comment cs i j → ⊥
  unfolding s_b_comment sep
  hash_no_rest i n h j (k, inl e, l) = line_end_stops cs (λ c. c == 35) refl refl k j l (subst (Stands cs (λ c. c == 35)) (sym e) (35, h, refl))
  hash_no_rest i n h j (k, inr (m, inl (r, lt), c), l) = no_stand cs is_space i 35 h space_hash (r.1 i (omega arith) lt)
  hash_no_rest i n h j (k, inr (m, inr (e, s), c), l) = inside_no_line cs i n s

  -- just after an indicator
  digits_inside : (i j : ℕ) (d : Option ℕ) → Digits i j d → Inside cs i → Inside cs j
  digits_inside i j d (bare a b) n = subst (Inside cs) (sym a) n
  digits_inside i j d (digit c h t a b) n = (i, a, (c, h, digit_nb c t))

  signs_inside : (i j : ℕ) (s : Chomp) → Signs i j s → Inside cs i → Inside cs j
  unfolding is_nb is_break
  signs_inside i j s (Signs.bare a b) n = subst (Inside cs) (sym a) n
  signs_inside i j s (minus h a b) n = (i, a, (45, h, refl))
  signs_inside i j s (plus h a b) n = (i, a, (43, h, refl))

  pub indicators_inside : (i j : ℕ) (h : Header) → indicators cs i j h → Inside cs i → Inside cs j
  indicators_inside i j h r n = go (both_in i j h r)
    where
      go : Both i j h → Inside cs j
      go (digit_first k d s a b e) = signs_inside k j s b (digits_inside i k d a n)
      go (sign_first k d s b a e) = digits_inside k j d a (signs_inside i k s b n)
