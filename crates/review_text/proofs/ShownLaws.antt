-- What is shown of a text.
use Rattle.std.proofs.Common.{inl, inr, ◌≡◌, ℕ, zero, suc, ◌+◌, ◌<◌, ◌≤◌, ◌==◌, true, false, cond, nat_lt, nat_le, List, [], ◌++◌, length, take, drop, refl, sym, ◌∙◌, ap, ap₂, subst, arith}
use Rattle.std.specs.Prelude.{slice_index, codes}
use Rattle.std.specs.Str.{IsUtf8, IsCharBoundary}
use Rattle.std.proofs.lemmas.Bool.{cond_both, cases_lt}
use Rattle.std.proofs.lemmas.Bool.Decides.{nat_tests}
use Rattle.std.proofs.lemmas.List.{take-take, get_or-take, length-take, length-take-le, take-append-drop}
use Rattle.std.proofs.lemmas.Str.{IsUtf8-take, IsUtf8-drop}
use Rattle.std.proofs.lemmas.List.{take_all}
use Rattle.yaml_path.specs.LineModel.{starts_char}
use Rattle.review_text.specs.Shown.{is_border, last_border, front, shown, IsLongFront}
use Rattle.review_text.specs.Fills.{Fills}
use Rattle.review_text.proofs.NodeLaws.{Alike}

-- ---- borders

border_true : (k n b : ℕ) → cond (nat_lt k n) (starts_char b) (k == n) ≡ true → (k ≤ n) × (k < n → 128 ≤ b → 192 ≤ b)
border_true k n b h = grind (arith, nat_tests)

border_false : (k n b : ℕ) → cond (nat_lt k n) (starts_char b) (k == n) ≡ false → k ≤ n → (k < n → 128 ≤ b → 192 ≤ b) → ⊥
border_false k n b h l f = grind (arith, nat_tests)

pub last_is : (text : List ℕ) (room k : ℕ) → k ≤ room → IsCharBoundary text k → ((i : ℕ) → k < i → i ≤ room → ¬ (IsCharBoundary text i)) → last_border text room ≡ k
last_is text zero k l b f = omega arith
last_is text (suc m) k l b f =
    cond_both (is_border text (suc m)) (suc m) (last_border text m) (λ z. z ≡ k)
    (λ e. elim (cases_lt k (suc m)) [ inl q ↦ absurd (f (suc m) q (omega arith) (border_true (suc m) (length text) (slice_index text (suc m)) e)) | inr q ↦ omega arith ])
    (λ e. elim (cases_lt k (suc m)) [
      | inl q ↦ last_is text m k (omega arith) b (λ i p r. f i p (omega arith))
      | inr q ↦ let n : k ≡ suc m = omega arith in let c = subst (IsCharBoundary text) n b in absurd (border_false (suc m) (length text) (slice_index text (suc m)) e c.0 c.1)
    ])

pub front_is : (text : List ℕ) (room k : ℕ) → k ≤ room → IsCharBoundary text k → ((i : ℕ) → k < i → i ≤ room → ¬ (IsCharBoundary text i)) → take k text ≡ front room text
front_is text room k l b f = ap (λ z. take z text) (sym (last_is text room k l b f))

pub long_front_is : (text : List ℕ) (room k : ℕ) → IsUtf8 text → (room ≤ length text → room ≤ k) → IsCharBoundary text k → (length text < room → k ≡ length text) → IsLongFront room text (take k text)
long_front_is text room k u l b f = record {
  rest = drop k text;
  is = sym (take-append-drop k text);
  whole = IsUtf8-take text k u b;
  others = IsUtf8-drop text k u b;
  long = elim (cases_lt (length text) room) [
    | inl q ↦ inr (take_all k text (let e = f q in omega (arith, e)))
    | inr q ↦ inl (let e = length-take-le k text b.0 in let r = l q in omega (arith, e, r))
  ];
}

-- ---- what is shown

pub whole_shown : (room : ℕ) (t : List ℕ) → length t ≤ room → t ≡ shown room t
whole_shown room t l = cond_both (nat_le (length t) room) t (front room t ++ codes "...") (λ z. t ≡ z) (λ e. refl) (λ e. absurd (grind (arith, nat_tests)))

pub cut_shown : (room : ℕ) (t : List ℕ) → room < length t → front room t ++ codes "..." ≡ shown room t
cut_shown room t l = cond_both (nat_le (length t) room) t (front room t ++ codes "...") (λ z. front room t ++ codes "..." ≡ z) (λ e. absurd (grind (arith, nat_tests))) (λ e. refl)

both_longer : (room : ℕ) (a b : List ℕ) → Alike room a b → room < length a → room < length b
both_longer room a b h l =
    let e = length-take (room + 1) a in
    let f = length-take (room + 1) b in
    let g = ap length h in
    omega (arith, e, f, g)

same_border : (room : ℕ) (a b : List ℕ) → Alike room a b → room < length a → (k : ℕ) → k ≤ room → is_border a k ≡ is_border b k
same_border room a b h l k m =
    let byte : slice_index a k ≡ slice_index b k = sym (get_or-take (room + 1) a k 0 (omega arith)) ∙ ap (λ z. slice_index z k) h ∙ get_or-take (room + 1) b k 0 (omega arith) in
    let n = both_longer room a b h l in
    inside k (length a) (slice_index a k) (omega arith) ∙ ap starts_char byte ∙ sym (inside k (length b) (slice_index b k) (omega (arith, n)))
  where
    inside : (i n c : ℕ) → i < n → cond (nat_lt i n) (starts_char c) (i == n) ≡ starts_char c
    inside i n c q = cond_both (nat_lt i n) (starts_char c) (i == n) (λ z. z ≡ starts_char c) (λ e. refl) (λ e. absurd (grind (arith, nat_tests)))

same_last : (room : ℕ) (a b : List ℕ) → Alike room a b → room < length a → (k : ℕ) → k ≤ room → last_border a k ≡ last_border b k
same_last room a b h l zero m = refl
same_last room a b h l (suc k) m = ap₂ (λ t n. cond t (suc k) n) (same_border room a b h l (suc k) m) (same_last room a b h l k (omega arith))

last_low : (a : List ℕ) (k : ℕ) → last_border a k ≤ k
last_low a zero = omega arith
last_low a (suc k) = cond_both (is_border a (suc k)) (suc k) (last_border a k) (λ z. z ≤ suc k) (λ e. omega arith) (λ e. let r = last_low a k in omega (arith, r))

same_front : (room : ℕ) (a b : List ℕ) → Alike room a b → room < length a → front room a ≡ front room b
same_front room a b h l =
    let k = last_border a room in
    let n = last_low a room in
    sym (take-take k (room + 1) a (omega (arith, n))) ∙ ap (take k) h ∙ take-take k (room + 1) b (omega (arith, n)) ∙ ap (λ z. take z b) (same_last room a b h l room (omega arith))

-- what is shown depends on no more than one byte past the room
pub same_shown : (room : ℕ) (a b : List ℕ) → Alike room a b → shown room a ≡ shown room b
same_shown room a b h = elim (cases_lt room (length a)) [
  | inl l ↦ sym (cut_shown room a l) ∙ ap (λ z. z ++ codes "...") (same_front room a b h l) ∙ cut_shown room b (both_longer room a b h l)
  | inr l ↦ elim (cases_lt room (length b)) [
    | inl m ↦ absurd (let q = both_longer room b a (sym h) m in omega (arith, q))
    | inr m ↦ ap (shown room) (sym (take_all (room + 1) a (omega arith)) ∙ h ∙ take_all (room + 1) b (omega arith))
  ]
]

-- what was written into an empty text
pub shown_filled : (room : ℕ) (o a t : List ℕ) → o ≡ [] → Fills room o a t → shown room a ≡ shown room t
shown_filled room o a t e h = same_shown room a t (h ∙ ap (λ z. take (room + 1) (z ++ t)) e)
