-- The events that are aliases rise, so that a search finds each.
use Rattle.std.proofs.Common.{◌≡◌, ◌≢◌, inl, inr, ◌≤◌, ℕ, ◌+◌, ◌==◌, Bool, true, false, cond, List, [], ◌∷◌, ◌++◌, Result, Ok, Err, sym, arith, get_or}
use Rattle.std.specs.Ordering.{nat_cmp}
use Rattle.std.specs.Result.{is_ok}
use Rattle.std.specs.List.{All, list_any}
use Rattle.std.specs.List.Sorted.{IsNonDecreasing, IsBinarySearchResult}
use Rattle.std.proofs.lemmas.Bool.{cases_lt}
use Rattle.std.proofs.lemmas.Grind.{get_or_default_zero}
use Rattle.std.proofs.lemmas.List.Elements.{All-cons, All-nil}
use Rattle.std.proofs.lemmas.List.Folds.{list_any_at, list_any_none}
use Rattle.std.proofs.lemmas.List.Sorted.{searched, IsNonDecreasingBy-insert}
use Rattle.review_places.specs.declared.trace.Shape.{Shape}
use Rattle.review_places.specs.Nodes.{is_alias, aliases_from}

low-by : (b : Bool) (i : ℕ) (rest : List ℕ) → All (λ a. i + 1 ≤ a) rest → All (λ a. i ≤ a) (cond b (i ∷ []) [] ++ rest)
low-by true i rest h = All-cons (λ a. i ≤ a) i rest (omega arith) (λ k d l. let g = h k d l in omega (arith, g))
low-by false i rest h = λ k d l. let g = h k d l in omega (arith, g)

rise-by : (b : Bool) (i : ℕ) (rest : List ℕ) → All (λ a. i + 1 ≤ a) rest → IsNonDecreasing rest → IsNonDecreasing (cond b (i ∷ []) [] ++ rest)
rise-by true i rest low h = IsNonDecreasingBy-insert (λ x. x) rest 0 i h (omega arith) (λ k d l. absurd (omega (arith, l))) (λ k d m l. let g = low k d l in omega (arith, g))
rise-by false i rest low h = h

same-number : (a x : ℕ) → a ≡ x → (a == x) ≡ true
same-number a x e = grind arith

other-number : (a x : ℕ) → a ≢ x → (a == x) ≡ false
other-number a x d = grind arith

-- what a search of numbers that rise finds
pub is-found : (xs : List ℕ) (x : ℕ) (r : Result ℕ ℕ) → IsNonDecreasing xs → IsBinarySearchResult (λ y. nat_cmp y x) xs r → is_ok r ≡ list_any (λ a. a == x) xs
is-found xs x (Ok i) h s = let g = searched xs x (Ok i) s (λ j k l m. h j k 0 l m) in sym (list_any_at (λ a. a == x) xs i 0 g.0 (same-number (get_or xs i 0) x g.1))
is-found xs x (Err i) h s =
    let g = searched xs x (Err i) s (λ j k l m. h j k 0 l m) in
    sym (list_any_none (λ a. a == x) xs (λ k d l.
    let e : get_or xs k d ≡ get_or xs k 0 = get_or_default_zero xs k d l in
    other-number (get_or xs k d) x (elim (cases_lt k i) [ inl a ↦ (λ q. let b = g.1 k a in omega (arith, e, q, b)) | inr a ↦ (λ q. let b = g.2 k a l in omega (arith, e, q, b)) ])))

-- ---- the aliases of events

aliases-low : (i : ℕ) (s : List Shape) → All (λ a. i ≤ a) (aliases_from i s)
aliases-low i [] = All-nil (λ a. i ≤ a)
aliases-low i (x ∷ s) = low-by (is_alias x) i (aliases_from (i + 1) s) (aliases-low (i + 1) s)

pub aliases-rise : (i : ℕ) (s : List Shape) → IsNonDecreasing (aliases_from i s)
aliases-rise i [] = λ j k d l m. absurd (omega (arith, m))
aliases-rise i (x ∷ s) = rise-by (is_alias x) i (aliases_from (i + 1) s) (aliases-low (i + 1) s) (aliases-rise (i + 1) s)
