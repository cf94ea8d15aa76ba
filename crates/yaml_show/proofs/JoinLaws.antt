-- Lines that are written one after another.
use Rattle.std.proofs.Common.{◌≡◌, ℕ, ◌+◌, ◌<◌, ◌≤◌, List, [], ◌∷◌, ◌++◌, drop, length, map, get_or, refl, sym, ◌∙◌, ap, add-one}
use Rattle.std.specs.Prelude.{flat_map}
use Rattle.std.proofs.Math.Seq.{drop-cons}
use Rattle.std.proofs.Math.ListN.{drop_of_length-le}
use Rattle.std.proofs.lemmas.List.{append_assoc, append-nil}

drop_next : {X : Type 0} (xs : List X) (i : ℕ) (d : X) → i < length xs → drop i xs ≡ get_or xs i d ∷ drop (i + 1) xs
drop_next xs i d l = rw add-one (drop-cons xs i d l)

pub flat_next : {X : Type 0} (f : X → List ℕ) (xs : List X) (i : ℕ) (d : X) (o a whole : List ℕ) → i < length xs → o ++ flat_map f (drop i xs) ≡ whole → a ≡ o ++ f (get_or xs i d) → a ++ flat_map f (drop (i + 1) xs) ≡ whole
flat_next f xs i d o a whole l h e =
    let r = flat_map f (drop (i + 1) xs) in
    ap (λ z. z ++ r) e ∙ append_assoc o (f (get_or xs i d)) r ∙ ap (λ z. o ++ flat_map f z) (sym (drop_next xs i d l)) ∙ h

pub flat_all : {X : Type 0} (f : X → List ℕ) (xs : List X) (i : ℕ) (o whole : List ℕ) → length xs ≤ i → o ++ flat_map f (drop i xs) ≡ whole → o ≡ whole
flat_all f xs i o whole l h = sym (append-nil o) ∙ ap (λ z. o ++ flat_map f z) (sym (drop_of_length-le xs l)) ∙ h

pub flat_mapped : {X Y : Type 0} (f : Y → List ℕ) (g : X → Y) (xs : List X) → flat_map (λ x. f (g x)) xs ≡ flat_map f (map g xs)
flat_mapped f g [] = refl
flat_mapped f g (x ∷ xs) = ap (λ z. f (g x) ++ z) (flat_mapped f g xs)
