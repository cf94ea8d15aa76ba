-- Breaks and characters from an offset to another.
use Rattle.std.proofs.Common.{◌≡◌, ◌⊎◌, ℕ, zero, suc, ◌+◌, ◌-◌, ◌<◌, ◌≤◌, Bool, true, false, cond, List, get_or, inl, inr, refl, ◌∙◌, ap, arith}
use Rattle.yaml_path.specs.LineModel.{ends_break, starts_char, breaks, chars_from, IsPlace}

abbrev one-if : Bool → ℕ
one-if b = cond b 1 0

-- ---- the next byte

pub one-break : (text : List ℕ) (at : ℕ) (b : Bool) → ends_break text at ≡ b → breaks text (at + 1) ≡ breaks text at + cond b 1 0
one-break text at b e =
    let q : suc at ≡ at + 1 = omega arith in
    let f : breaks text (suc at) ≡ one-if b + breaks text at = ap (λ z. one-if z + breaks text at) e in
    omega (arith, ap (breaks text) q, f)

pub one-char : (text : List ℕ) (from at : ℕ) (b : Bool) → from ≤ at → starts_char (get_or text at 0) ≡ b → chars_from text from (at + 1 - from) ≡ chars_from text from (at - from) + cond b 1 0
one-char text from at b l e =
    let n = at - from in
    let q : suc n ≡ at + 1 - from = omega arith in
    let h : from + n ≡ at = omega arith in
    let f : one-if (starts_char (get_or text (from + n) 0)) ≡ one-if b = ap (λ z. one-if (starts_char (get_or text z 0))) h ∙ ap one-if e in
    omega (arith, ap (chars_from text from) q, f)

-- ---- a stretch behind another

chars-append : (text : List ℕ) (start n m : ℕ) → chars_from text start (n + m) ≡ chars_from text start n + chars_from text (start + n) m
chars-append text start n zero = let e : n + 0 ≡ n = omega arith in omega (arith, ap (chars_from text start) e)
chars-append text start n (suc m) =
    let e : n + suc m ≡ suc (n + m) = omega arith in
    let q : start + (n + m) ≡ start + n + m = omega arith in
    omega (arith, ap (chars_from text start) e, chars-append text start n m, ap (λ z. one-if (starts_char (get_or text z 0))) q)

pub chars-joined : (text : List ℕ) (from mid to : ℕ) → from ≤ mid → mid ≤ to → chars_from text from (to - from) ≡ chars_from text from (mid - from) + chars_from text mid (to - mid)
chars-joined text from mid to l m =
    let e : mid - from + (to - mid) ≡ to - from = omega arith in
    let q : from + (mid - from) ≡ mid = omega arith in
    omega (arith, ap (chars_from text from) e, chars-append text from (mid - from) (to - mid), ap (λ z. chars_from text z (to - mid)) q)

breaks-grow : (text : List ℕ) (from n : ℕ) → breaks text from ≤ breaks text (from + n)
breaks-grow text from zero = let e : from + 0 ≡ from = omega arith in omega (arith, ap (breaks text) e)
breaks-grow text from (suc n) = let e : from + suc n ≡ suc (from + n) = omega arith in omega (arith, breaks-grow text from n, ap (breaks text) e)

breaks-rise : (text : List ℕ) (from to : ℕ) → from ≤ to → breaks text from ≤ breaks text to
breaks-rise text from to l = let q : from + (to - from) ≡ to = omega arith in omega (arith, breaks-grow text from (to - from), ap (breaks text) q)

none-ends : (text : List ℕ) (from to k : ℕ) → breaks text to ≡ breaks text from → from ≤ k → k < to → ends_break text k ≡ false
none-ends text from to k e l m = by (ends_break text k) refl
  where
    by : (b : Bool) → ends_break text k ≡ b → ends_break text k ≡ false
    by true h =
        let f : breaks text (suc k) ≡ 1 + breaks text k = ap (λ z. one-if z + breaks text k) h in
        absurd (omega (arith, e, breaks-rise text from k l, breaks-rise text (suc k) to (omega arith), f))
    by false h = h

-- ---- places

below-or-not : (k n : ℕ) → (k < n) ⊎ (n ≤ k)
below-or-not k zero = inr (omega arith)
below-or-not zero (suc n) = inl (omega arith)
below-or-not (suc k) (suc n) = elim (below-or-not k n) [ inl a ↦ inl (omega arith) | inr b ↦ inr (omega arith) ]

-- on the same line
pub same-line : (text : List ℕ) (from to row col more : ℕ) → from ≤ to → IsPlace text from row col → breaks text to ≡ breaks text from → more ≡ chars_from text from (to - from) → IsPlace text to row (col + more)
same-line text from to row col more l p e m = record {
  line = omega (arith, p.line, e);
  start = p.start;
  starts = record {
    before = omega (arith, p.starts.before);
    first = p.starts.first;
    unbroken = λ k a b. elim (below-or-not k from) [ inl s ↦ p.starts.unbroken k a s | inr s ↦ none-ends text from to k e s b ];
  };
  count = p.count + (to - from);
  counted = omega (arith, p.counted);
  column = omega (arith, p.column, m, chars-append text p.start p.count (to - from), ap (λ z. chars_from text z (to - from)) p.counted);
}

-- ---- bounds

one-at-most : (b : Bool) → cond b 1 0 ≤ 1
one-at-most true = omega arith
one-at-most false = omega arith

pub breaks-few : (text : List ℕ) (n : ℕ) → breaks text n ≤ n
breaks-few text zero = omega arith
breaks-few text (suc n) = omega (arith, breaks-few text n, one-at-most (ends_break text n))

pub chars-few : (text : List ℕ) (start n : ℕ) → chars_from text start n ≤ n
chars-few text start zero = omega arith
chars-few text start (suc n) = omega (arith, chars-few text start n, one-at-most (starts_char (get_or text (start + n) 0)))
