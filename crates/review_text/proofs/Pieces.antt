-- Texts that are written piece by piece, where each is written.
use Rattle.std.proofs.Common.{◌≡◌, ℕ, ◌+◌, ◌<◌, ◌≤◌, List, ◌∷◌, ◌++◌, drop, length, get_or, Result, Ok, Err, OnOk, sym, ◌∙◌, ap, add-one}
use Rattle.std.specs.Prelude.{flat_map, Some}
use Rattle.std.specs.List.{slice_get}
use Rattle.std.proofs.lemmas.Option.{slice_get_within, get_or_from_slice_get}
use Rattle.std.proofs.Math.Seq.{drop-cons}
use Rattle.std.proofs.Math.ListN.{drop_of_length-le}
use Rattle.std.proofs.lemmas.List.{append_assoc, append-nil}

pub on_ok : {T E P Q : Type 0} (r : Result T E) → OnOk r P → (P → Q) → OnOk r Q
on_ok (Ok x) h f = f h
on_ok (Err e) h f = h

-- one piece behind another
pub then_more : (o x y p q : List ℕ) → x ≡ o ++ p → y ≡ x ++ q → y ≡ o ++ (p ++ q)
then_more o x y p q e h = h ∙ ap (λ z. z ++ q) e ∙ append_assoc o p q

pub five_put : (o s a b c d x1 x2 x3 x4 x5 : List ℕ) → x1 ≡ o ++ s → x2 ≡ x1 ++ a → x3 ≡ x2 ++ b → x4 ≡ x3 ++ c → x5 ≡ x4 ++ d → x5 ≡ o ++ (s ++ (a ++ (b ++ (c ++ d))))
five_put o s a b c d x1 x2 x3 x4 x5 h1 h2 h3 h4 h5 = then_more o x1 x5 s _ h1 (then_more x1 x2 x5 a _ h2 (then_more x2 x3 x5 b _ h3 (then_more x3 x4 x5 c d h4 h5)))

pub six_put : (o s a b c d e x1 x2 x3 x4 x5 x6 : List ℕ) → x1 ≡ o ++ s → x2 ≡ x1 ++ a → x3 ≡ x2 ++ b → x4 ≡ x3 ++ c → x5 ≡ x4 ++ d → x6 ≡ x5 ++ e → x6 ≡ o ++ (s ++ (a ++ (b ++ (c ++ (d ++ e)))))
six_put o s a b c d e x1 x2 x3 x4 x5 x6 h1 h2 h3 h4 h5 h6 =
    then_more o x1 x6 s _ h1 (then_more x1 x2 x6 a _ h2 (then_more x2 x3 x6 b _ h3 (then_more x3 x4 x6 c _ h4 (then_more x4 x5 x6 d e h5 h6))))

pub drop_next : {X : Type 0} (xs : List X) (i : ℕ) (d : X) → i < length xs → drop i xs ≡ get_or xs i d ∷ drop (i + 1) xs
drop_next xs i d l = rw add-one (drop-cons xs i d l)

-- the same of what stands there
pub drop_at : {X : Type 0} (xs : List X) (i : ℕ) (x : X) → slice_get xs i ≡ Some x → drop i xs ≡ x ∷ drop (i + 1) xs
drop_at xs i x h = drop_next xs i x (slice_get_within xs i x h) ∙ ap (λ z. z ∷ drop (i + 1) xs) (get_or_from_slice_get xs i x x h)

pub flat_next : {X : Type 0} (f : X → List ℕ) (xs : List X) (i : ℕ) (d : X) (o a whole : List ℕ) → i < length xs → o ++ flat_map f (drop i xs) ≡ whole → a ≡ o ++ f (get_or xs i d) → a ++ flat_map f (drop (i + 1) xs) ≡ whole
flat_next f xs i d o a whole l h e =
    let r = flat_map f (drop (i + 1) xs) in
    ap (λ z. z ++ r) e ∙ append_assoc o (f (get_or xs i d)) r ∙ ap (λ z. o ++ flat_map f z) (sym (drop_next xs i d l)) ∙ h

pub flat_all : {X : Type 0} (f : X → List ℕ) (xs : List X) (i : ℕ) (o whole : List ℕ) → length xs ≤ i → o ++ flat_map f (drop i xs) ≡ whole → o ≡ whole
flat_all f xs i o whole l h = sym (append-nil o) ∙ ap (λ z. o ++ flat_map f z) (sym (drop_of_length-le xs l)) ∙ h
