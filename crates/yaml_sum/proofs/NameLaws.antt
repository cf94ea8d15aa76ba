-- The names of a list, piece by piece.
use Rattle.std.proofs.Common.{◌≡◌, ◌==◌, ◌||◌, ◌++◌, ℕ, Bool, true, false, cond, List, [], ◌∷◌, refl, sym, ◌∙◌, ap, arith, append_assoc, append-nil}
use Rattle.std.proofs.lemmas.Bool.Decides.{nat_tests}
use Rattle.std.specs.List.{list_any}
use Rattle.yaml_sum.specs.Names.{named, with_byte, pieces, all_named, IsOne}

left : (a b : Bool) → (a || b) ≡ false → a ≡ false
left false b e = refl
left true b e = e

right : (a b : Bool) → (a || b) ≡ false → b ≡ false
right false b e = e
right true b e = let x : true ≡ false = e in cc

self : (n : ℕ) → (n == n) ≡ true
self n = grind (arith, nat_tests)

-- a piece and its end come off the front
pub pieces_cut : (end : ℕ) (xs ys : List ℕ) → IsOne end xs → pieces end (xs ++ (end ∷ ys)) ≡ xs ∷ pieces end ys
pieces_cut end [] ys e = ap (λ b. cond b ([] ∷ pieces end ys) (with_byte end (pieces end ys))) (self end)
pieces_cut end (x ∷ xs) ys e =
    ap (λ b. cond b ([] ∷ pieces end (xs ++ (end ∷ ys))) (with_byte x (pieces end (xs ++ (end ∷ ys))))) (left (x == end) (list_any (λ b. b == end) xs) e)
    ∙ ap (with_byte x) (pieces_cut end xs ys (right (x == end) (list_any (λ b. b == end) xs) e))

-- and the last one is all that is left
pub pieces_last : (end : ℕ) (xs : List ℕ) → IsOne end xs → pieces end xs ≡ xs ∷ []
pieces_last end [] e = refl
pieces_last end (x ∷ xs) e =
    ap (λ b. cond b ([] ∷ pieces end xs) (with_byte x (pieces end xs))) (left (x == end) (list_any (λ b. b == end) xs) e)
    ∙ ap (with_byte x) (pieces_last end xs (right (x == end) (list_any (λ b. b == end) xs) e))

-- the names before a piece that comes off, and that piece's own
pub names_more : (end : ℕ) (rest piece more : List ℕ) (all before now : List (List ℕ)) → IsOne end piece → rest ≡ piece ++ (end ∷ more) → all ≡ before ++ all_named (pieces end rest) → now ≡ before ++ named piece
    → all ≡ now ++ all_named (pieces end more)
names_more end rest piece more all before now one e f g =
    f
    ∙ ap (λ z. before ++ all_named (pieces end z)) e
    ∙ ap (λ z. before ++ all_named z) (pieces_cut end piece more one)
    ∙ sym (append_assoc before (named piece) (all_named (pieces end more)))
    ∙ ap (λ z. z ++ all_named (pieces end more)) (sym g)

pub names_last : (end : ℕ) (rest piece : List ℕ) (all before now : List (List ℕ)) → IsOne end piece → rest ≡ piece → all ≡ before ++ all_named (pieces end rest) → now ≡ before ++ named piece → all ≡ now
names_last end rest piece all before now one e f g =
    f
    ∙ ap (λ z. before ++ all_named (pieces end z)) e
    ∙ ap (λ z. before ++ all_named z) (pieces_last end piece one)
    ∙ ap (λ z. before ++ z) (append-nil (named piece))
    ∙ sym g
