-- Bytes that begin characters.
use Rattle.std.proofs.Common.{◌≡◌, ℕ, zero, suc, ◌+◌, ◌/◌, ◌%◌, ◌<◌, ◌≤◌, Bool, true, false, cond, ◌||◌, List, [], ◌∷◌, ◌++◌, length, refl, sym, ◌∙◌, ap, arith, length-append, append_assoc}
use Rattle.std.specs.Prelude.{slice_index, nat_lt, nat_le}
use Rattle.std.specs.Char.{encode_utf8}
use Rattle.std.specs.Str.{encode_utf8_all}
use Rattle.std.proofs.lemmas.Bool.{le-leb, lt-leb, ltb-true}
use Rattle.std.proofs.lemmas.Nat.{mod_below}
use lib.Utf8.{next}
use Rattle.yaml_path.specs.LineModel.{starts_char, chars_from}

abbrev one-if : Bool → ℕ
one-if b = cond b 1 0

abbrev starts : List ℕ → ℕ
starts [] = 0
starts (b ∷ bs) = one-if (starts_char b) + starts bs

starts-append : (xs ys : List ℕ) → starts (xs ++ ys) ≡ starts xs + starts ys
starts-append [] ys = omega arith
starts-append (x ∷ xs) ys = omega (arith, starts-append xs ys)

-- the first of some bytes counted by itself
first-apart : (text : List ℕ) (start n : ℕ) → chars_from text start (suc n) ≡ one-if (starts_char (slice_index text start)) + chars_from text (suc start) n
first-apart text start zero = let e : start + 0 ≡ start = omega arith in omega (arith, ap (λ z. one-if (starts_char (slice_index text z))) e)
first-apart text start (suc n) =
    let e : start + suc n ≡ suc start + n = omega arith in
    omega (arith, first-apart text start n, ap (λ z. one-if (starts_char (slice_index text z))) e)

stands-there : (front : List ℕ) (b : ℕ) (rest : List ℕ) → slice_index (front ++ (b ∷ rest)) (length front) ≡ b
stands-there [] b rest = refl
stands-there (x ∷ front) b rest = stands-there front b rest

among : (front mid back : List ℕ) → chars_from (front ++ (mid ++ back)) (length front) (length mid) ≡ starts mid
among front [] back = refl
among front (b ∷ mid) back =
    let text = front ++ (b ∷ (mid ++ back)) in
    let e : slice_index text (length front) ≡ b = stands-there front b (mid ++ back) in
    let f : length (front ++ (b ∷ [])) ≡ suc (length front) = length-append front (b ∷ []) ∙ omega arith in
    let h : (front ++ (b ∷ [])) ++ (mid ++ back) ≡ text = append_assoc front (b ∷ []) (mid ++ back) in
    let i : chars_from text (suc (length front)) (length mid) ≡ starts mid = ap (λ z. chars_from text z (length mid)) (sym f) ∙ ap (λ z. chars_from z (length (front ++ (b ∷ []))) (length mid)) (sym h) ∙ among (front ++ (b ∷ [])) mid back in
    omega (arith, first-apart text (length front) (length mid), ap (λ z. one-if (starts_char z)) e, i)

not-so : (b : Bool) → (b ≡ true → ⊥) → b ≡ false
not-so true n = absurd (n refl)
not-so false n = refl

or-right : (a b : Bool) → b ≡ true → (a || b) ≡ true
or-right true b e = refl
or-right false b e = e

neither : (a b : Bool) → a ≡ false → b ≡ false → (a || b) ≡ false
neither true b e f = absurd (cc)
neither false b e f = f

high : (n : ℕ) → 192 ≤ n → one-if (starts_char n) ≡ 1
high n l = ap one-if (or-right (nat_lt n 128) (nat_le 192 n) (le-leb 192 n l))

low : (n : ℕ) → nat_lt n 128 ≡ true → one-if (starts_char n) ≡ 1
low n e = ap (λ z. one-if (z || nat_le 192 n)) e

within : (x : ℕ) → x % 64 < 64
within x = mod_below x 64 (omega arith)

more : (x : ℕ) → one-if (starts_char (next x)) ≡ 0
more x = ap one-if (neither (nat_lt (next x) 128) (nat_le 192 (next x)) (not-so (nat_lt (next x) 128) (λ e. let l = ltb-true (next x) 128 e in omega (arith, l))) (lt-leb 192 (next x) (let l = within x in omega (arith, l))))

-- one byte of a character begins it
one-start : (c : ℕ) → starts (encode_utf8 c) ≡ 1
unfolding encode_utf8
one-start c = by (nat_lt c 128) refl (nat_lt c 2048) (nat_lt c 65536)
  where
    by : (a : Bool) → nat_lt c 128 ≡ a → (b d : Bool) → starts (cond a (c ∷ []) (cond b ((192 + c / 64) ∷ next c ∷ []) (cond d ((224 + c / 4096) ∷ next (c / 64) ∷ next c ∷ []) ((240 + c / 262144) ∷ next (c / 4096) ∷ next (c / 64) ∷ next c ∷ [])))) ≡ 1
    by true e b d = omega (arith, low c e)
    by false e true d = let h = high (192 + c / 64) (omega arith) in omega (arith, h, more c)
    by false e false true = let h = high (224 + c / 4096) (omega arith) in omega (arith, h, more (c / 64), more c)
    by false e false false = let h = high (240 + c / 262144) (omega arith) in omega (arith, h, more (c / 4096), more (c / 64), more c)

all-start : (cs : List ℕ) → starts (encode_utf8_all cs) ≡ length cs
all-start [] = refl
all-start (c ∷ cs) = omega (arith, starts-append (encode_utf8 c) (encode_utf8_all cs), one-start c, all-start cs)

pub counted : (front back cs : List ℕ) → chars_from (front ++ (encode_utf8_all cs ++ back)) (length front) (length (encode_utf8_all cs)) ≡ length cs
counted front back cs = among front (encode_utf8_all cs) back ∙ all-start cs
