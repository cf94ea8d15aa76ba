-- A text is cut at the first character of a kind; zeros at the end.
use Rattle.std.proofs.Common.{◌≡◌, ◌<◌, ◌≤◌, ℕ, ◌+◌, ◌-◌, ◌==◌, ◌&&◌, Bool, true, false, cond, Option, Some, None, List, [], ◌∷◌, ◌++◌, length, take, drop, get_or, refl, sym, ◌∙◌, ap, arith, append_assoc, append-nil, drop-cons, add-one}
use Rattle.std.specs.Prelude.{slice_range}
use Rattle.std.proofs.lemmas.Bool.{ne_eqb}
use Rattle.std.proofs.lemmas.List.{take_more, drop_all, take_all}
use Rattle.yaml_definitions.specs.model.Core.{is_empty, split_at}
use Rattle.yaml_core.proofs.StateLemmas.{and_false}
use Rattle.yaml_core.specs.Digits.{without_last_zeros}

-- ---- cuts

-- a text put in front of one that is cut
abbrev pub after_front : List ℕ → List ℕ × Option (List ℕ) → List ℕ × Option (List ℕ)
after_front x p = (x ++ p.0, p.1)

-- what is left begins with the character that stands there
pub next : (xs : List ℕ) (i : ℕ) → i < length xs → drop i xs ≡ get_or xs i 0 ∷ drop (i + 1) xs
next xs i h = rw add-one (drop-cons xs i 0 h)

cut_no : (f : ℕ → Bool) (c : ℕ) (r : List ℕ) → f c ≡ false → split_at f (c ∷ r) ≡ (c ∷ (split_at f r).0, (split_at f r).1)
unfolding split_at
cut_no f c r h = rw h refl

cut_yes : (f : ℕ → Bool) (c : ℕ) (r : List ℕ) → f c ≡ true → split_at f (c ∷ r) ≡ ([], Some r)
unfolding split_at
cut_yes f c r h = rw h refl

pub cut_more : (f : ℕ → Bool) (xs : List ℕ) (i : ℕ) → i < length xs → f (get_or xs i 0) ≡ false
    → after_front (take i xs) (split_at f (drop i xs)) ≡ after_front (take (i + 1) xs) (split_at f (drop (i + 1) xs))
cut_more f xs i l h =
    let c : ℕ = get_or xs i 0 in
    let r : List ℕ = drop (i + 1) xs in
    ap (λ d. after_front (take i xs) (split_at f d)) (next xs i l)
    ∙ (ap (after_front (take i xs)) (cut_no f c r h)
    ∙ (λ z. ((sym (append_assoc (take i xs) (c ∷ []) (split_at f r).0) ∙ ap (λ t. t ++ (split_at f r).0) (sym (take_more xs i 0 l))) z, (split_at f r).1)))

pub cut_here : (f : ℕ → Bool) (xs : List ℕ) (i : ℕ) → i < length xs → f (get_or xs i 0) ≡ true
    → after_front (take i xs) (split_at f (drop i xs)) ≡ (take i xs, Some (drop (i + 1) xs))
cut_here f xs i l h =
    let c : ℕ = get_or xs i 0 in
    let r : List ℕ = drop (i + 1) xs in
    ap (λ d. after_front (take i xs) (split_at f d)) (next xs i l)
    ∙ (ap (after_front (take i xs)) (cut_yes f c r h) ∙ (λ z. (append-nil (take i xs) z, Some r)))

pub cut_nowhere : (f : ℕ → Bool) (xs : List ℕ) (i : ℕ) → length xs ≤ i → after_front (take i xs) (split_at f (drop i xs)) ≡ (xs, None)
unfolding split_at
cut_nowhere f xs i l =
    ap (λ d. after_front (take i xs) (split_at f d)) (drop_all i xs l) ∙ (λ z. ((append-nil (take i xs) ∙ take_all i xs l) z, None))

-- ---- zeros at the end

zero_last : (xs : List ℕ) → without_last_zeros (xs ++ (48 ∷ [])) ≡ without_last_zeros xs
unfolding without_last_zeros
zero_last [] = refl
zero_last (c ∷ xs) = ap (λ z. cond (c == 48 && is_empty z) [] (c ∷ z)) (zero_last xs)

pushed_some : (xs : List ℕ) (c : ℕ) → is_empty (xs ++ (c ∷ [])) ≡ false
pushed_some [] c = refl
pushed_some (d ∷ xs) c = refl

pub other_last : (xs : List ℕ) (c : ℕ) → (c == 48) ≡ false → without_last_zeros (xs ++ (c ∷ [])) ≡ xs ++ (c ∷ [])
unfolding without_last_zeros
other_last [] c h = rw h refl
other_last (d ∷ xs) c h = let i = other_last xs c h in rw (i, pushed_some xs c, and_false (d == 48)) refl

front : (xs : List ℕ) (n : ℕ) → 0 < n → n ≤ length xs → take n xs ≡ take (n - 1) xs ++ (get_or xs (n - 1) 0 ∷ [])
front xs n p l = let e : n - 1 + 1 ≡ n = omega arith in ap (λ m. take m xs) (sym e) ∙ take_more xs (n - 1) 0 (omega arith)

pub last_zero : (xs : List ℕ) (n : ℕ) → 0 < n → n ≤ length xs → get_or xs (n - 1) 0 ≡ 48 → without_last_zeros (take n xs) ≡ without_last_zeros (take (n - 1) xs)
last_zero xs n p l h = ap without_last_zeros (front xs n p l ∙ ap (λ c. take (n - 1) xs ++ (c ∷ [])) h) ∙ zero_last (take (n - 1) xs)

pub last_other : (xs : List ℕ) (n : ℕ) → 0 < n → n ≤ length xs → (get_or xs (n - 1) 0 ≡ 48 → ⊥) → without_last_zeros (take n xs) ≡ take n xs
last_other xs n p l h =
    ap without_last_zeros (front xs n p l) ∙ (other_last (take (n - 1) xs) (get_or xs (n - 1) 0) (ne_eqb (get_or xs (n - 1) 0) 48 h) ∙ sym (front xs n p l))

pub last_none : (xs : List ℕ) (n : ℕ) → n ≤ 0 → without_last_zeros (take n xs) ≡ take n xs
unfolding without_last_zeros
last_none xs n h = let e : n ≡ 0 = omega arith in ap (λ m. without_last_zeros (take m xs)) e ∙ ap (λ m. take m xs) (sym e)

pub range_front : (xs : List ℕ) (n : ℕ) → slice_range xs 0 n ≡ take n xs
range_front xs n = let e : n - 0 ≡ n = omega arith in ap (λ m. take m xs) e
