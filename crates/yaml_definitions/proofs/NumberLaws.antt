-- Decimals have one canonical content exactly if they are equal as numbers.
use Rattle.std.proofs.Common.{◌≡◌, ◌<◌, ℕ, zero, suc, ◌+◌, ◌-◌, ◌*◌, ◌/◌, ◌%◌, ◌^◌, ◌==◌, nat_lt, Bool, true, false, cond, ◌&&◌, ◌⊎◌, inl, inr, Some, List, [], ◌∷◌, ◌++◌, length, replicate, get_or, ℤ, pos, negsuc, neg_ℤ, ◌+ℤ◌, ◌-ℤ◌, refl, sym, ◌∙◌, ap, subst, arith}
use Rattle.std.proofs.Math.IntN.{pos-+ℤ-pos, +ℤ-neg_ℤ_cancel, -ℤ-+ℤ_cancel, +ℤ_assoc, +ℤ_comm, +ℤ_idr, +ℤ_invl, +ℤ_invr, neg_ℤ-+ℤ}
use Rattle.std.proofs.Math.Nat.{pow-suc, pow-succ', mul_assoc, zero-mul}
use Rattle.std.proofs.lemmas.Nat.{pow-add}
use Rattle.std.proofs.lemmas.Bool.{cond_both, eqb-true, ne_eqb, ltb-true}
use Rattle.std.specs.Int.Digits.{digits_of, number_from_digits, number_from_digits_after, AllBelowBase}
use Rattle.std.proofs.lemmas.Int.Digits.{digits_of_step, all_below_base_digits_of, number_digits_of, first_digits_of, number_after_append}
use Rattle.yaml_definitions.specs.model.Core.{Value, decimal_value, is_empty, signed, split_at, decimal_of, trimmed, exponent, digits_text, decimal_text, content_of}
use Rattle.yaml_definitions.specs.model.Number.{or_zero, lowered}
use Rattle.yaml_definitions.proofs.Members.{and_both}
use Rattle.yaml_definitions.proofs.ResolveLaws.{number, content_is}
use Rattle.yaml_definitions.proofs.FloatLaws.{sign_text, decimal_back, trimmed_again, trimmed_below, trimmed_first}

-- ---- integers

-- the difference of two that stand above one by i and j
apart : (e : ℤ) (i j : ℕ) → (e +ℤ pos i) -ℤ (e +ℤ pos j) ≡ pos i -ℤ pos j
apart e i j =
    ap (λ z. (e +ℤ pos i) +ℤ z) (neg_ℤ-+ℤ e (pos j))
    ∙ (ap (λ z. z +ℤ (neg_ℤ e +ℤ neg_ℤ (pos j))) (+ℤ_comm e (pos i))
    ∙ (+ℤ_assoc (pos i) e (neg_ℤ e +ℤ neg_ℤ (pos j))
    ∙ ap (λ z. pos i +ℤ z) (sym (+ℤ_assoc e (neg_ℤ e) (neg_ℤ (pos j))) ∙ (ap (λ z. z +ℤ neg_ℤ (pos j)) (+ℤ_invr e) ∙ (+ℤ_comm (pos 0) (neg_ℤ (pos j)) ∙ +ℤ_idr (neg_ℤ (pos j)))))))

natural_difference : (i j : ℕ) → or_zero (pos i -ℤ pos j) ≡ i - j
natural_difference i zero = omega arith
natural_difference i (suc j) =
    cond_both (nat_lt i (suc j)) (negsuc (suc j - suc i)) (pos (i - suc j)) (λ z. or_zero z ≡ i - suc j) (λ e. let l = ltb-true i (suc j) e in omega arith) (λ e. refl)

-- by how much the one exponent is above the other
above : (k l e : ℤ) (i j : ℕ) → k ≡ e +ℤ pos i → l ≡ e +ℤ pos j → or_zero (k -ℤ l) ≡ i - j
above k l e i j p q = (λ z. or_zero (p z -ℤ q z)) ∙ (ap or_zero (apart e i j) ∙ natural_difference i j)

-- two exponents, each so much above the lesser
pub record Common (k l : ℤ) : Type 0 where
  pub least : ℤ
  pub i : ℕ
  pub j : ℕ
  pub left : k ≡ least +ℤ pos i
  pub right : l ≡ least +ℤ pos j
  pub one : (i ≡ 0) ⊎ (j ≡ 0)

common : (k l : ℤ) → Common k l
common k l = by (k -ℤ l) refl
  where
    back_up : (d : ℤ) → k -ℤ l ≡ d → k ≡ l +ℤ d
    back_up d e = sym (-ℤ-+ℤ_cancel k l) ∙ (ap (λ z. z +ℤ l) e ∙ +ℤ_comm d l)

    by : (d : ℤ) → k -ℤ l ≡ d → Common k l
    by (pos n) e = record { least = l; i = n; j = 0; left = back_up (pos n) e; right = sym (+ℤ_idr l); one = inr refl }
    by (negsuc n) e =
        let p : k +ℤ pos (suc n) ≡ l = ap (λ z. z +ℤ pos (suc n)) (back_up (negsuc n) e) ∙ (+ℤ_assoc l (negsuc n) (pos (suc n)) ∙ (ap (λ z. l +ℤ z) (+ℤ_invl (pos (suc n))) ∙ +ℤ_idr l)) in
        record { least = k; i = 0; j = suc n; left = sym (+ℤ_idr k); right = sym p; one = inl refl }

-- two whole numbers, signed, are one
pub same_signed : (a b : Bool) (m n : ℕ) → signed a m ≡ signed b n → (m ≡ n) × ((m ≡ 0) ⊎ (a ≡ b))
same_signed true true zero zero e = (refl, inr refl)
same_signed true true zero (suc n) e = absurd (cc)
same_signed true true (suc m) zero e = absurd (cc)
same_signed true true (suc m) (suc n) e = (let q : m ≡ n = cc in ap suc q, inr refl)
same_signed false false m n e = (let q : m ≡ n = cc in q, inr refl)
same_signed true false zero n e = (let q : 0 ≡ n = cc in q, inl refl)
same_signed true false (suc m) n e = absurd (cc)
same_signed false true m zero e = let q : m ≡ 0 = cc in (q, inl q)
same_signed false true m (suc n) e = absurd (cc)

-- ---- a number with a zero more at its end

zero_more : (q : ℕ) → 0 < q → digits_of 10 (q * 10) ≡ digits_of 10 q ++ (0 ∷ [])
zero_more q p =
    let a : (q * 10) / 10 ≡ q = omega arith in
    let b : (q * 10) % 10 ≡ 0 = omega arith in
    digits_of_step 10 (q * 10) (omega arith) (omega arith) ∙ (λ z. digits_of 10 (a z) ++ (b z ∷ []))

trimmed_zero : (ds : List ℕ) → trimmed (ds ++ (0 ∷ [])) ≡ trimmed ds
unfolding trimmed
trimmed_zero [] = refl
trimmed_zero (d ∷ ds) = ap (λ z. cond (d == 0 && is_empty z) [] (d ∷ z)) (trimmed_zero ds)

length_zero : (ds : List ℕ) → length (ds ++ (0 ∷ [])) ≡ suc (length ds)
length_zero [] = refl
length_zero (d ∷ ds) = ap suc (length_zero ds)

one_up : (k : ℤ) (n : ℕ) → (k +ℤ pos (suc n)) -ℤ pos 1 ≡ ((k +ℤ pos 1) +ℤ pos n) -ℤ pos 1
one_up k n =
    let e : suc n ≡ 1 + n = omega arith in
    ap (λ z. z -ℤ pos 1) (ap (λ z. k +ℤ pos z) e ∙ (ap (λ z. k +ℤ z) (sym (pos-+ℤ-pos 1 n)) ∙ sym (+ℤ_assoc k (pos 1) (pos n))))

-- times ten, with the exponent one lower
shift_one : (a : Bool) (q : ℕ) (k : ℤ) → decimal_text a (q * 10) k ≡ decimal_text a q (k +ℤ pos 1)
unfolding decimal_text exponent
shift_one a zero k = refl
shift_one a (suc q) k =
    let p : 0 < suc q = omega arith in
    let d = zero_more (suc q) p in
    let n : (suc q * 10 == 0) ≡ (suc q == 0) = ne_eqb (suc q * 10) 0 (λ e. omega arith) ∙ sym (ne_eqb (suc q) 0 (λ e. omega arith)) in
    let t : trimmed (digits_of 10 (suc q * 10)) ≡ trimmed (digits_of 10 (suc q)) = ap trimmed d ∙ trimmed_zero (digits_of 10 (suc q)) in
    let x : (k +ℤ pos (length (digits_of 10 (suc q * 10)))) -ℤ pos 1 ≡ ((k +ℤ pos 1) +ℤ pos (length (digits_of 10 (suc q)))) -ℤ pos 1 =
    ap (λ z. (k +ℤ pos z) -ℤ pos 1) (ap length d ∙ length_zero (digits_of 10 (suc q))) ∙ one_up k (length (digits_of 10 (suc q))) in
    λ z. cond (n z) (48 ∷ []) (sign_text a ++ digits_text (t z) (x z))

-- times a power of ten, with the exponent so much lower
shifted : (a : Bool) (m i : ℕ) (k : ℤ) → decimal_text a (m * 10 ^ i) k ≡ decimal_text a m (k +ℤ pos i)
shifted a m zero k = let e : m * 1 ≡ m = omega arith in ap (λ z. decimal_text a z k) e ∙ ap (decimal_text a m) (sym (+ℤ_idr k))
shifted a m (suc i) k =
    let e : m * 10 ^ suc i ≡ m * 10 ^ i * 10 = ap (λ z. m * z) (pow-suc 10 i) ∙ sym (mul_assoc m (10 ^ i) 10) in
    let f : (k +ℤ pos 1) +ℤ pos i ≡ k +ℤ pos (suc i) = +ℤ_assoc k (pos 1) (pos i) ∙ ap (λ z. k +ℤ z) (pos-+ℤ-pos 1 i ∙ (let g : 1 + i ≡ suc i = omega arith in ap pos g)) in
    ap (λ z. decimal_text a z k) e ∙ (shift_one a (m * 10 ^ i) k ∙ (shifted a m i (k +ℤ pos 1) ∙ ap (decimal_text a m) f))

-- ---- equal numbers have one content

at_one_exponent : (a b : Bool) (m n : ℕ) (k : ℤ) → signed a m ≡ signed b n → decimal_text a m k ≡ decimal_text b n k
unfolding decimal_text
at_one_exponent a b m n k e = by (same_signed a b m n e)
  where
    by : (m ≡ n) × ((m ≡ 0) ⊎ (a ≡ b)) → decimal_text a m k ≡ decimal_text b n k
    by (p, inl z) = let q : n ≡ 0 = sym p ∙ z in rw (z, q) refl
    by (p, inr s) = λ z. decimal_text (s z) (p z) k

pub content_from_equal : (a b : Bool) (m n : ℕ) (k l : ℤ) → lowered a m k l ≡ lowered b n l k → decimal_text a m k ≡ decimal_text b n l
content_from_equal a b m n k l e =
    let c = common k l in
    let x : or_zero (k -ℤ l) ≡ c.i = above k l c.least c.i c.j c.left c.right ∙ elim c.one [ inl p ↦ omega (arith, p) | inr p ↦ omega (arith, p) ] in
    let y : or_zero (l -ℤ k) ≡ c.j = above l k c.least c.j c.i c.right c.left ∙ elim c.one [ inl p ↦ omega (arith, p) | inr p ↦ omega (arith, p) ] in
    let f : signed a (m * 10 ^ c.i) ≡ signed b (n * 10 ^ c.j) = ap (λ z. signed a (m * 10 ^ z)) (sym x) ∙ (e ∙ ap (λ z. signed b (n * 10 ^ z)) y) in
    ap (decimal_text a m) c.left ∙ (sym (shifted a m c.i c.least) ∙ (at_one_exponent a b (m * 10 ^ c.i) (n * 10 ^ c.j) c.least f ∙ (shifted b n c.j c.least ∙ ap (decimal_text b n) (sym c.right))))

-- ---- a number without the zeros at its end

-- a number's digits but for the zeros at its end, and how many these are
pub record Normal (m : ℕ) : Type 0 where
  pub first : ℕ
  pub later : List ℕ
  pub zeros : ℕ
  pub some : 0 < first
  pub below : AllBelowBase 10 (first ∷ later)
  pub done : trimmed (first ∷ later) ≡ first ∷ later
  pub is : m ≡ number_from_digits 10 (first ∷ later) * 10 ^ zeros

abbrev Padded : List ℕ → List ℕ → Type 0
Padded ds xs = (t : ℕ) × (ds ≡ xs ++ replicate t 0)

no_more : (xs : List ℕ) → is_empty xs ≡ true → xs ≡ []
no_more [] e = refl
no_more (x ∷ xs) e = absurd (cc)

padded : (ds : List ℕ) → Padded ds (trimmed ds)
unfolding trimmed
padded [] = (0, refl)
padded (d ∷ ds) = by (padded ds)
  where
    by : Padded ds (trimmed ds) → Padded (d ∷ ds) (cond (d == 0 && is_empty (trimmed ds)) [] (d ∷ trimmed ds))
    by (t, e) =
        cond_both (d == 0 && is_empty (trimmed ds)) [] (d ∷ trimmed ds) (Padded (d ∷ ds))
        (λ h. let p = and_both (d == 0) (is_empty (trimmed ds)) h in
        let q : d ≡ 0 = eqb-true d 0 p.0 in
        let r : ds ≡ replicate t 0 = e ∙ ap (λ z. z ++ replicate t 0) (no_more (trimmed ds) p.1) in
        (suc t, λ z. q z ∷ r z))
        (λ h. (t, λ z. d ∷ e z))

zeros_worth : (c t : ℕ) → number_from_digits_after 10 c (replicate t 0) ≡ c * 10 ^ t
zeros_worth c zero = omega arith
zeros_worth c (suc t) =
    let p : c * 10 + 0 ≡ c * 10 = omega arith in
    let q : c * 10 * 10 ^ t ≡ c * 10 ^ suc t = mul_assoc c 10 (10 ^ t) ∙ ap (λ z. c * z) (sym (pow-succ' 10 t)) in
    ap (λ z. number_from_digits_after 10 z (replicate t 0)) p ∙ (zeros_worth (c * 10) t ∙ q)

normal : (m : ℕ) → 0 < m → Normal m
normal m p = by (digits_of 10 m) refl
  where
    by : (ds : List ℕ) → digits_of 10 m ≡ ds → Normal m
    by [] q = let z : 0 ≡ m = ap (number_from_digits 10) (sym q) ∙ number_digits_of 10 m (omega arith) in absurd (omega arith)
    by (d ∷ ds) q =
        let f : 0 < d = subst (λ z. 0 < get_or z 0 0) q (first_digits_of 10 m (omega arith) p) in
        let b : AllBelowBase 10 (d ∷ ds) = subst (AllBelowBase 10) q (all_below_base_digits_of 10 m (omega arith)) in
        let t = trimmed_first d ds f in
        let r = padded ds in
        record {
          first = d;
          later = trimmed ds;
          zeros = r.0;
          some = f;
          below = subst (AllBelowBase 10) t (trimmed_below (d ∷ ds) b);
          done = ap trimmed (sym t) ∙ (trimmed_again (d ∷ ds) ∙ t);
          is = sym (number_digits_of 10 m (omega arith)) ∙ (ap (number_from_digits 10) q ∙ (ap (λ z. number_from_digits 10 (d ∷ z)) r.1
              ∙ (number_after_append 10 (0 * 10 + d) (trimmed ds) (replicate r.0 0) ∙ zeros_worth (number_from_digits_after 10 (0 * 10 + d) (trimmed ds)) r.0)));
        }

-- such a number's content denotes it
read_back : (a : Bool) (d : ℕ) (ds : List ℕ) (e : ℤ) → 0 < d → AllBelowBase 10 (d ∷ ds) → trimmed (d ∷ ds) ≡ d ∷ ds
    → decimal_of (decimal_text a (number_from_digits 10 (d ∷ ds)) e) ≡ Some (decimal_value a (number_from_digits 10 (d ∷ ds)) e)
unfolding content_of number
read_back a d ds e f b t =
    let x : ℤ = e +ℤ pos (length ds) in
    let q : x -ℤ pos (length ds) ≡ e = +ℤ-neg_ℤ_cancel e (pos (length ds)) in
    ap (λ z. decimal_of (decimal_text a (number_from_digits 10 (d ∷ ds)) z)) (sym q)
    ∙ (ap decimal_of (content_is a d ds x f b t) ∙ (decimal_back a d ds x b ∙ ap (λ z. Some (decimal_value a (number_from_digits 10 (d ∷ ds)) z)) q))

-- what the content of a number denotes
denoted : (a : Bool) (m : ℕ) (k : ℤ) (s : Normal m) → decimal_of (decimal_text a m k) ≡ Some (decimal_value a (number_from_digits 10 (s.first ∷ s.later)) (k +ℤ pos s.zeros))
denoted a m k s =
    ap (λ z. decimal_of (decimal_text a z k)) s.is
    ∙ (ap decimal_of (shifted a (number_from_digits 10 (s.first ∷ s.later)) s.zeros k) ∙ read_back a s.first s.later (k +ℤ pos s.zeros) s.some s.below s.done)

decimal_parts : (a b : Bool) (m n : ℕ) (k l : ℤ) → Some (decimal_value a m k) ≡ Some (decimal_value b n l) → (a ≡ b) × (m ≡ n) × (k ≡ l)
decimal_parts a b m n k l e = (cc, cc, cc)

zero_content : (a : Bool) (k : ℤ) → decimal_of (decimal_text a 0 k) ≡ Some (decimal_value false 0 (pos 0))
unfolding decimal_of decimal_text split_at
zero_content a k = refl

signed_zero : (a : Bool) → signed a 0 ≡ pos 0
signed_zero true = refl
signed_zero false = refl

lowered_zero : (a : Bool) (k l : ℤ) → lowered a 0 k l ≡ pos 0
lowered_zero a k l = ap (signed a) (zero-mul (10 ^ or_zero (k -ℤ l))) ∙ signed_zero a

-- a number that is not 0 denotes no 0
not_zero : (b : Bool) (n : ℕ) (l : ℤ) → Some (decimal_value false 0 (pos 0)) ≡ decimal_of (decimal_text b (suc n) l) → ⊥
not_zero b n l e =
    let s = normal (suc n) (omega arith) in
    let p = decimal_parts false b 0 (number_from_digits 10 (s.first ∷ s.later)) (pos 0) (l +ℤ pos s.zeros) (e ∙ denoted b (suc n) l s) in
    let q : suc n ≡ 0 = s.is ∙ (ap (λ z. z * 10 ^ s.zeros) (sym p.1) ∙ zero-mul (10 ^ s.zeros)) in
    omega arith

raised : (c t u : ℕ) → c * 10 ^ t * 10 ^ u ≡ c * 10 ^ (t + u)
raised c t u = mul_assoc c (10 ^ t) (10 ^ u) ∙ ap (λ z. c * z) (sym (pow-add 10 t u))

-- a decimal's content denotes something
pub is_decimal : (a : Bool) (m : ℕ) (k : ℤ) → (v : Value) × (decimal_of (decimal_text a m k) ≡ Some v)
is_decimal a zero k = (decimal_value false 0 (pos 0), zero_content a k)
is_decimal a (suc m) k = let s = normal (suc m) (omega arith) in (decimal_value a (number_from_digits 10 (s.first ∷ s.later)) (k +ℤ pos s.zeros), denoted a (suc m) k s)

pub equal_from_content : (a b : Bool) (m n : ℕ) (k l : ℤ) → decimal_text a m k ≡ decimal_text b n l → lowered a m k l ≡ lowered b n l k
equal_from_content a b zero zero k l e = lowered_zero a k l ∙ sym (lowered_zero b l k)
equal_from_content a b zero (suc n) k l e = absurd (not_zero b n l (sym (zero_content a k) ∙ ap decimal_of e))
equal_from_content a b (suc m) zero k l e = absurd (not_zero a m k (sym (zero_content b l) ∙ ap decimal_of (sym e)))
equal_from_content a b (suc m) (suc n) k l e =
    let s = normal (suc m) (omega arith) in
    let t = normal (suc n) (omega arith) in
    let c : ℕ = number_from_digits 10 (s.first ∷ s.later) in
    let o : ℕ = number_from_digits 10 (t.first ∷ t.later) in
    let p = decimal_parts a b c o (k +ℤ pos s.zeros) (l +ℤ pos t.zeros) (sym (denoted a (suc m) k s) ∙ (ap decimal_of e ∙ denoted b (suc n) l t)) in
    let least : ℤ = k -ℤ pos t.zeros in
    let left : k ≡ least +ℤ pos t.zeros = sym (-ℤ-+ℤ_cancel k (pos t.zeros)) in
    let right : l ≡ least +ℤ pos s.zeros =
    sym (+ℤ-neg_ℤ_cancel l (pos t.zeros)) ∙ (ap (λ z. z -ℤ pos t.zeros) (sym p.2) ∙ (+ℤ_assoc k (pos s.zeros) (neg_ℤ (pos t.zeros))
    ∙ (ap (λ z. k +ℤ z) (+ℤ_comm (pos s.zeros) (neg_ℤ (pos t.zeros))) ∙ sym (+ℤ_assoc k (neg_ℤ (pos t.zeros)) (pos s.zeros))))) in
    let x : or_zero (k -ℤ l) ≡ t.zeros - s.zeros = above k l least t.zeros s.zeros left right in
    let y : or_zero (l -ℤ k) ≡ s.zeros - t.zeros = above l k least s.zeros t.zeros right left in
    let w : s.zeros + (t.zeros - s.zeros) ≡ t.zeros + (s.zeros - t.zeros) = omega arith in
    let f : suc m * 10 ^ or_zero (k -ℤ l) ≡ c * 10 ^ (s.zeros + (t.zeros - s.zeros)) = (λ z. s.is z * 10 ^ x z) ∙ raised c s.zeros (t.zeros - s.zeros) in
    let g : suc n * 10 ^ or_zero (l -ℤ k) ≡ o * 10 ^ (t.zeros + (s.zeros - t.zeros)) = (λ z. t.is z * 10 ^ y z) ∙ raised o t.zeros (s.zeros - t.zeros) in
    let h : c * 10 ^ (s.zeros + (t.zeros - s.zeros)) ≡ o * 10 ^ (t.zeros + (s.zeros - t.zeros)) = λ z. p.1 z * 10 ^ w z in
    (λ z. signed (p.0 z) ((f ∙ (h ∙ sym g)) z))
