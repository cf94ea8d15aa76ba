-- Differences that are found one by one.
use Rattle.std.proofs.Common.{◌≡◌, ℕ, ◌+◌, ◌<◌, List, [], ◌∷◌, ◌++◌, length, take, get_or, refl, sym, ap, subst}
use Rattle.std.proofs.lemmas.List.{take_more}
use Rattle.review_formats.specs.declared.finding.Finding.{Finding}
use Rattle.review_lines.specs.declared.lines.Line.{Line}
use Rattle.review_reports.specs.Differences.{IsDifference, AreDifferences}

module _ (left right : List ℕ) where
  are_more : (ls : List Line) (list : List Finding) (l : Line) (one : Finding) → AreDifferences left right ls list → IsDifference left right l one → AreDifferences left right (ls ++ (l ∷ [])) (list ++ (one ∷ []))
  are_more [] list l one h f = (one, [], f, refl, ap (λ z. z ++ (one ∷ [])) h)
  are_more (v ∷ ls) list l one (first, rest, g, r, e) f = (first, rest ++ (one ∷ []), g, are_more ls rest l one r f, ap (λ z. z ++ (one ∷ [])) e)

  found_more : (ls more : List Line) (list new : List Finding) (l : Line) (one : Finding) → more ≡ ls ++ (l ∷ []) → new ≡ list ++ (one ∷ []) → AreDifferences left right ls list → IsDifference left right l one → AreDifferences left right more new
  found_more ls more list new l one m n h f =
      subst (λ z. AreDifferences left right z new) (sym m) (subst (AreDifferences left right (ls ++ (l ∷ []))) (sym n) (are_more ls list l one h f))

  -- the same of a list, by the number of the next one
  pub found_next : (ls : List Line) (i : ℕ) (d : Line) (list new : List Finding) (one : Finding) → i < length ls → new ≡ list ++ (one ∷ []) → IsDifference left right (get_or ls i d) one → AreDifferences left right (take i ls) list → AreDifferences left right (take (i + 1) ls) new
  found_next ls i d list new one l n f h = found_more (take i ls) (take (i + 1) ls) list new (get_or ls i d) one (take_more ls i d l) n h f
