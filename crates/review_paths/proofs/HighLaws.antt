-- Characters beyond ASCII have no byte that is escaped.
use Rattle.std.proofs.Common.{◌≡◌, ◌==◌, ◌<◌, ◌≤◌, ℕ, ◌+◌, ◌/◌, Bool, true, false, List, [], ◌∷◌, ◌++◌, cond, refl, sym, ◌∙◌, ap, arith, append-nil}
use Rattle.std.specs.Prelude.{nat_lt}
use Rattle.std.specs.List.{flat_map}
use Rattle.std.specs.Char.{encode_utf8}
use Rattle.std.specs.Str.{encode_utf8_all}
use Rattle.std.proofs.lemmas.Bool.{ltb-true}
use Rattle.std.proofs.lemmas.Bool.Decides.{nat_tests}
use Rattle.std.proofs.lemmas.Str.{encode_ascii}
use lib.Utf8.{next}
use Rattle.review_paths.specs.Pasted.{escaped_char}

-- ---- below 128

one : (a : ℕ) → a < 128 → encode_utf8_all (a ∷ []) ≡ a ∷ []
one a l = ap (λ z. z ++ []) (encode_ascii a l)

two : (a b : ℕ) → a < 128 → b < 128 → encode_utf8_all (a ∷ b ∷ []) ≡ a ∷ b ∷ []
two a b l h = ap (λ z. z ++ encode_utf8_all (b ∷ [])) (encode_ascii a l) ∙ ap (λ z. a ∷ z) (one b h)

low_text : (f : Bool) (c : ℕ) → c < 128 → encode_utf8_all (escaped_char f c) ≡ escaped_char f c
low_text true c l = by (c == 34) (c == 92)
  where
    by : (p q : Bool) → encode_utf8_all (cond p (92 ∷ 34 ∷ []) (cond q (92 ∷ 92 ∷ []) (c ∷ []))) ≡ cond p (92 ∷ 34 ∷ []) (cond q (92 ∷ 92 ∷ []) (c ∷ []))
    by true q = two 92 34 (omega arith) (omega arith)
    by false true = two 92 92 (omega arith) (omega arith)
    by false false = one c l
low_text false c l = by (c == 126) (c == 47)
  where
    by : (p q : Bool) → encode_utf8_all (cond p (126 ∷ 48 ∷ []) (cond q (126 ∷ 49 ∷ []) (c ∷ []))) ≡ cond p (126 ∷ 48 ∷ []) (cond q (126 ∷ 49 ∷ []) (c ∷ []))
    by true q = two 126 48 (omega arith) (omega arith)
    by false true = two 126 49 (omega arith) (omega arith)
    by false false = one c l

-- ---- from there on

pub own : (f : Bool) (c : ℕ) → 128 ≤ c → escaped_char f c ≡ c ∷ []
own true c h =
    let e : (c == 34) ≡ false = grind (arith, nat_tests, h) in
    let i : (c == 92) ≡ false = grind (arith, nat_tests, h) in
    ap (λ z. cond z (92 ∷ 34 ∷ []) (cond (c == 92) (92 ∷ 92 ∷ []) (c ∷ []))) e ∙ ap (λ z. cond z (92 ∷ 92 ∷ []) (c ∷ [])) i
own false c h =
    let e : (c == 126) ≡ false = grind (arith, nat_tests, h) in
    let i : (c == 47) ≡ false = grind (arith, nat_tests, h) in
    ap (λ z. cond z (126 ∷ 48 ∷ []) (cond (c == 47) (126 ∷ 49 ∷ []) (c ∷ []))) e ∙ ap (λ z. cond z (126 ∷ 49 ∷ []) (c ∷ [])) i

more : (f : Bool) (b : ℕ) (xs : List ℕ) → 128 ≤ b → flat_map (escaped_char f) xs ≡ xs → flat_map (escaped_char f) (b ∷ xs) ≡ b ∷ xs
more f b xs l h = ap (λ z. z ++ flat_map (escaped_char f) xs) (own f b l) ∙ ap (λ z. b ∷ z) h

last : (f : Bool) (x : ℕ) → flat_map (escaped_char f) (next x ∷ []) ≡ next x ∷ []
last f x = more f (next x) [] (omega arith) refl

then_next : (f : Bool) (x : ℕ) (xs : List ℕ) → flat_map (escaped_char f) xs ≡ xs → flat_map (escaped_char f) (next x ∷ xs) ≡ next x ∷ xs
then_next f x xs h = more f (next x) xs (omega arith) h

high_text : (f : Bool) (c : ℕ) → 128 ≤ c → flat_map (escaped_char f) (encode_utf8 c) ≡ encode_utf8 c
unfolding encode_utf8
high_text f c h = by (nat_lt c 128) refl (nat_lt c 2048) (nat_lt c 65536)
  where
    bytes : Bool → Bool → Bool → List ℕ
    bytes a b d = cond a (c ∷ []) (cond b ((192 + c / 64) ∷ next c ∷ []) (cond d ((224 + c / 4096) ∷ next (c / 64) ∷ next c ∷ []) ((240 + c / 262144) ∷ next (c / 4096) ∷ next (c / 64) ∷ next c ∷ [])))

    by : (a : Bool) → nat_lt c 128 ≡ a → (b d : Bool) → flat_map (escaped_char f) (bytes a b d) ≡ bytes a b d
    by true e b d = absurd (omega (arith, ltb-true c 128 e, h))
    by false e true d = more f (192 + c / 64) (next c ∷ []) (omega arith) (last f c)
    by false e false true = more f (224 + c / 4096) (next (c / 64) ∷ next c ∷ []) (omega arith) (then_next f (c / 64) (next c ∷ []) (last f c))
    by false e false false =
        more f (240 + c / 262144) (next (c / 4096) ∷ next (c / 64) ∷ next c ∷ []) (omega arith) (then_next f (c / 4096) (next (c / 64) ∷ next c ∷ []) (then_next f (c / 64) (next c ∷ []) (last f c)))

-- the bytes of a character, escaped one by one
pub char_same : (f : Bool) (c : ℕ) → flat_map (escaped_char f) (encode_utf8 c) ≡ encode_utf8_all (escaped_char f c)
char_same f c = by (nat_lt c 128) refl
  where
    by : (a : Bool) → nat_lt c 128 ≡ a → flat_map (escaped_char f) (encode_utf8 c) ≡ encode_utf8_all (escaped_char f c)
    by true e =
        let l : c < 128 = ltb-true c 128 e in
        ap (flat_map (escaped_char f)) (encode_ascii c l) ∙ append-nil (escaped_char f c) ∙ sym (low_text f c l)
    by false e =
        let h : 128 ≤ c = grind (arith, nat_tests, e) in
        high_text f c h ∙ sym (append-nil (encode_utf8 c)) ∙ ap encode_utf8_all (sym (own f c h))
