-- Labels and words.
use Rattle.std.proofs.Common.{◌≡◌, ℕ, ◌&&◌, List, [], ◌∷◌, ◌++◌, refl, ◌∙◌, ap, eq-eqb}
use Rattle.std.specs.Prelude.{bytes_eq}

-- texts that begin alike are equal if the rest is
pub same_behind : (front x y : List ℕ) → bytes_eq (front ++ x) (front ++ y) ≡ bytes_eq x y
same_behind [] x y = refl
same_behind (c ∷ front) x y = ap (λ z. z && bytes_eq (front ++ x) (front ++ y)) (eq-eqb c c refl) ∙ same_behind front x y
