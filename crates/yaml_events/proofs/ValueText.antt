-- A value, byte by byte.
use Rattle.std.proofs.Common.{◌≡◌, ◌<◌, ◌≤◌, ◌-◌, ◌+◌, ℕ, zero, suc, List, [], ◌∷◌, ◌++◌, length, subst, take, drop, get_or, refl, sym, ap, ◌∙◌, arith, append_assoc, length-append, take-append-drop}
use Rattle.std.proofs.lemmas.List.{append-nil, take_more, length-drop, get_or-drop}
use Rattle.std.proofs.lemmas.Grind.{common_steps}
use Rattle.std.proofs.Math.Seq.{take-length}
use Rattle.yaml_definitions.specs.model.EventText.{value_byte, value_text}

pub value_append : (xs ys : List ℕ) → value_text (xs ++ ys) ≡ value_text xs ++ value_text ys
value_append [] ys = refl
value_append (x ∷ xs) ys = ap (λ z. value_byte x ++ z) (value_append xs ys) ∙ sym (append_assoc (value_byte x) (value_text xs) (value_text ys))

-- a byte more of a text, and of the run from `start` to `i`
pub value_more : (text : List ℕ) (i : ℕ) → i < length text → value_text (take (i + 1) text) ≡ value_text (take i text) ++ value_byte (get_or text i 0)
value_more text i h =
    ap value_text (take_more text i 0 h) ∙ value_append (take i text) (get_or text i 0 ∷ []) ∙ ap (λ z. value_text (take i text) ++ z) (append-nil (value_byte (get_or text i 0)))

pub run_more : (text : List ℕ) (start i : ℕ) → start ≤ i → i < length text → take (i + 1 - start) (drop start text) ≡ take (i - start) (drop start text) ++ (get_or text i 0 ∷ [])
run_more text start i h k =
    let n : i + 1 - start ≡ (i - start) + 1 = omega arith in
    let m : i - start < length (drop start text) = omega (arith, length-drop start text) in
    let p : start + (i - start) ≡ i = omega arith in
    ap (λ z. take z (drop start text)) n ∙ take_more (drop start text) (i - start) 0 m
    ∙ ap (λ z. take (i - start) (drop start text) ++ (z ∷ [])) (get_or-drop start text (i - start) 0 ∙ ap (λ z. get_or text z 0) p)

-- what is written of a text with the run that is not written yet, a byte further: one that stands for itself, and an escape
pub spelled_on : (text old out : List ℕ) (start i : ℕ) → start ≤ i → i < length text → value_byte (get_or text i 0) ≡ get_or text i 0 ∷ []
    → out ++ take (i - start) (drop start text) ≡ old ++ value_text (take i text) → out ++ take (i + 1 - start) (drop start text) ≡ old ++ value_text (take (i + 1) text)
spelled_on text old out start i h k v e =
    ap (λ z. out ++ z) (run_more text start i h k) ∙ sym (append_assoc out (take (i - start) (drop start text)) (get_or text i 0 ∷ []))
    ∙ ap (λ z. z ++ (get_or text i 0 ∷ [])) e ∙ append_assoc old (value_text (take i text)) (get_or text i 0 ∷ [])
    ∙ ap (λ z. old ++ z) (ap (λ z. value_text (take i text) ++ z) (sym v) ∙ sym (value_more text i k))

-- the same, so many bytes further
pub spelled_run : (text old out : List ℕ) (start at n : ℕ) → start ≤ at → at + n ≤ length text → ((k : ℕ) → k < n → value_byte (get_or text (at + k) 0) ≡ get_or text (at + k) 0 ∷ [])
    → out ++ take (at - start) (drop start text) ≡ old ++ value_text (take at text) → out ++ take (at + n - start) (drop start text) ≡ old ++ value_text (take (at + n) text)
spelled_run text old out start at zero h l v e = subst (λ i. out ++ take (i - start) (drop start text) ≡ old ++ value_text (take i text)) (let here : at ≡ at + zero = omega arith in here) e
spelled_run text old out start at (suc n) h l v e =
    subst (λ i. out ++ take (i - start) (drop start text) ≡ old ++ value_text (take i text)) (let here : at + n + 1 ≡ at + suc n = omega arith in here)
    (spelled_on text old out start (at + n) (omega (arith, h)) (omega (arith, l)) (v n (omega arith)) (spelled_run text old out start at n h (omega (arith, l)) (λ k f. v k (omega (arith, f))) e))

whole_rest : (i : ℕ) (xs : List ℕ) → take (length xs - i) (drop i xs) ≡ drop i xs
whole_rest i xs = grind (arith, common_steps)

-- the rest of the bytes of a text
abbrev pub rest_of : List ℕ → ℕ → List ℕ
rest_of bytes at = take (length bytes - at) (drop at bytes)

pub front_ends : (text bytes : List ℕ) (at n : ℕ) → bytes ≡ text → at ≤ length text → n ≤ length (rest_of bytes at) → at + n ≤ length text
front_ends text bytes at n b w l =
    let len : length (rest_of bytes at) ≡ length text - at = ap length (whole_rest at bytes) ∙ length-drop at bytes ∙ ap (λ xs. length xs - at) b in
    omega (arith, w, l, len)

-- the same, where the bytes that stand for themselves are the front of the rest
pub spelled_front : (text bytes old out : List ℕ) (start at n : ℕ) → bytes ≡ text → start ≤ at → at ≤ length text → n ≤ length (rest_of bytes at)
    → ((k : ℕ) → k < n → value_byte (get_or (rest_of bytes at) k 0) ≡ get_or (rest_of bytes at) k 0 ∷ [])
    → out ++ take (at - start) (drop start text) ≡ old ++ value_text (take at text) → out ++ take (at + n - start) (drop start text) ≡ old ++ value_text (take (at + n) text)
spelled_front text bytes old out start at n b h w l v e =
    spelled_run text old out start at n h (front_ends text bytes at n b w l)
    (λ k f. subst (λ x. value_byte x ≡ x ∷ []) (ap (λ xs. get_or xs k 0) (whole_rest at bytes) ∙ get_or-drop at bytes k 0 ∙ ap (λ xs. get_or xs (at + k) 0) b) (v k f)) e

pub spelled_escape : (text old out run escape pushed new : List ℕ) (start i : ℕ) → i < length text → escape ≡ value_byte (get_or text i 0) → run ≡ take (i - start) (drop start text)
    → out ++ take (i - start) (drop start text) ≡ old ++ value_text (take i text) → pushed ≡ out ++ run → new ≡ pushed ++ escape
    → new ++ take (i + 1 - (i + 1)) (drop (i + 1) text) ≡ old ++ value_text (take (i + 1) text)
spelled_escape text old out run escape pushed new start i k v r e p q =
    let z : i + 1 - (i + 1) ≡ 0 = omega arith in
    ap (λ n. new ++ take n (drop (i + 1) text)) z ∙ append-nil new ∙ q ∙ ap (λ x. x ++ escape) (p ∙ ap (λ x. out ++ x) r ∙ e)
    ∙ append_assoc old (value_text (take i text)) escape ∙ ap (λ x. old ++ x) (ap (λ x. value_text (take i text) ++ x) v ∙ sym (value_more text i k))

-- what is written of a text's front is no longer than the text's value
pub front_within : (text : List ℕ) (i : ℕ) → length (value_text (take i text)) ≤ length (value_text text)
front_within text i =
    omega (arith, ap length (ap value_text (sym (take-append-drop i text)) ∙ value_append (take i text) (drop i text)), length-append (value_text (take i text)) (value_text (drop i text)))

-- what is written with an escape, and with all that is left
pub escape_joined : (text old out run escape pushed : List ℕ) (i : ℕ) → i < length text → escape ≡ value_byte (get_or text i 0) → out ++ run ≡ old ++ value_text (take i text) → pushed ≡ out ++ run → pushed ++ escape ≡ old ++ value_text (take (i + 1) text)
escape_joined text old out run escape pushed i k v e p =
    ap (λ x. x ++ escape) (p ∙ e) ∙ append_assoc old (value_text (take i text)) escape ∙ ap (λ x. old ++ x) (ap (λ x. value_text (take i text) ++ x) v ∙ sym (value_more text i k))

pub rest_joined : (text old out : List ℕ) (start i : ℕ) → i ≡ length text → out ++ take (i - start) (drop start text) ≡ old ++ value_text (take i text) → out ++ drop start text ≡ old ++ value_text text
rest_joined text old out start i n e =
    ap (λ z. out ++ z) (sym (whole_rest start text) ∙ ap (λ m. take (m - start) (drop start text)) (sym n)) ∙ e ∙ ap (λ m. old ++ value_text (take m text)) n ∙ ap (λ z. old ++ value_text z) (take-length text)
