-- A loop that adds one element for each that it has passed.
use Rattle.std.proofs.Common.{add-one, ◌≡◌, ◌∙◌, ◌<◌, ◌≤◌, ◌+◌, ℕ, List, [], ◌∷◌, ◌++◌, map, take, length, get_or, refl, sym, ap, ap₂}
use Rattle.std.proofs.Math.Seq.{take-suc}
use Rattle.std.proofs.lemmas.List.{map-append, take_all}

pub take_next : {X Z : Type 0} (g : X → Z) (xs : List X) (i : ℕ) (d : X) → i < length xs → map g (take (i + 1) xs) ≡ map g (take i xs) ++ g (get_or xs i d) ∷ []
take_next g xs i d l = ap (λ (n : ℕ). map g (take n xs)) (add-one i) ∙ ap (map g) (take-suc xs i d l) ∙ map-append g (take i xs) (get_or xs i d ∷ [])

-- one more element
pub map_added : {X Z : Type 0} (f : X → Z) (old new : List X) (x : X) (z : Z) → new ≡ old ++ (x ∷ []) → f x ≡ z → map f new ≡ map f old ++ (z ∷ [])
map_added f old new x z e is = ap (map f) e ∙ map-append f old (x ∷ []) ∙ ap (λ y. map f old ++ (y ∷ [])) is

pub map_next : {X Y Z : Type 0} (f : Y → Z) (g : X → Z) (xs : List X) (i : ℕ) (d : X) (old new : List Y) (y : Y) → i < length xs → map f old ≡ map g (take i xs)
    → new ≡ old ++ y ∷ [] → f y ≡ g (get_or xs i d) → map f new ≡ map g (take (i + 1) xs)
map_next {X} {Y} {Z} f g xs i d old new y l h e is =
    ap (map f) e ∙ map-append f old (y ∷ []) ∙ ap₂ (λ (a : List Z) (b : Z). a ++ b ∷ []) h is ∙ sym (take_next g xs i d l)

pub map_all : {X Y Z : Type 0} (f : Y → Z) (g : X → Z) (xs : List X) (i : ℕ) (ys : List Y) → length xs ≤ i → map f ys ≡ map g (take i xs) → map f ys ≡ map g xs
map_all f g xs i ys l h = h ∙ ap (map g) (take_all i xs l)

pub map_twice : {X Y Z : Type 0} (g : Y → Z) (f : X → Y) (xs : List X) → map (λ x. g (f x)) xs ≡ map g (map f xs)
map_twice g f [] = refl
map_twice {X} {Y} {Z} g f (x ∷ xs) = ap (λ (zs : List Z). g (f x) ∷ zs) (map_twice g f xs)
