-- Pieces, one behind the other.
use Rattle.std.proofs.Common.{◌≡◌, ℕ, zero, suc, ◌+◌, ◌<◌, ◌≤◌, List, [], ◌∷◌, ◌++◌, map, drop, length, get_or, refl, sym, ◌∙◌, ap, subst, add-one}
use Rattle.std.specs.Prelude.{Result, Ok, Err, OnOk, codes}
use Rattle.std.specs.Fmt.{decimal}
use Rattle.std.specs.List.{flat_map, push}
use Rattle.std.proofs.Math.Seq.{drop-cons}
use Rattle.std.proofs.Math.ListN.{drop_of_length-le}
use Rattle.std.proofs.lemmas.List.{append_assoc, append-nil}
use Rattle.review_formats.specs.declared.piece.Piece.{Piece}
use Rattle.review_formats.specs.Findings.{others_text}
use Rattle.review_formats.specs.Pieces.{piece_text, pieces_text}

-- how many others aliases show, if there are some
pub others_none : (n : ℕ) (o : List ℕ) → n ≡ 0 → o ≡ o ++ others_text n
others_none n o e = subst (λ z. o ≡ o ++ others_text z) (sym e) (sym (append-nil o))

pub others_some : (n : ℕ) (o b : List ℕ) → (n ≡ 0 → ⊥) → b ≡ o ++ (codes " (and " ++ (decimal n ++ codes " more through aliases)")) → b ≡ o ++ others_text n
others_some zero o b h e = absurd (h refl)
others_some (suc n) o b h e = e

pub drop_next : {X : Type 0} (xs : List X) (i : ℕ) (d : X) → i < length xs → drop i xs ≡ get_or xs i d ∷ drop (i + 1) xs
drop_next xs i d l = rw add-one (drop-cons xs i d l)

-- one piece more is written
pub pieces_next : (ps : List Piece) (i : ℕ) (d : Piece) (o a whole : List ℕ) → i < length ps → o ++ pieces_text (drop i ps) ≡ whole → a ≡ o ++ piece_text (get_or ps i d) → a ++ pieces_text (drop (i + 1) ps) ≡ whole
pieces_next ps i d o a whole l h e =
    let r = pieces_text (drop (i + 1) ps) in
    ap (λ z. z ++ r) e ∙ append_assoc o (piece_text (get_or ps i d)) r ∙ ap (λ z. o ++ pieces_text z) (sym (drop_next ps i d l)) ∙ h

pub pieces_all : (ps : List Piece) (i : ℕ) (o whole : List ℕ) → length ps ≤ i → o ++ pieces_text (drop i ps) ≡ whole → o ≡ whole
pieces_all ps i o whole l h = sym (append-nil o) ∙ ap (λ z. o ++ pieces_text z) (sym (drop_of_length-le ps l)) ∙ h

-- ---- lists, one behind the other, of which one more is written

pub flat_next : {X Y : Type 0} (f : X → List Y) (xs : List X) (i : ℕ) (d : X) (o a whole : List Y) → i < length xs → o ++ flat_map f (drop i xs) ≡ whole → a ≡ o ++ f (get_or xs i d) → a ++ flat_map f (drop (i + 1) xs) ≡ whole
flat_next f xs i d o a whole l h e =
    let r = flat_map f (drop (i + 1) xs) in
    ap (λ z. z ++ r) e ∙ append_assoc o (f (get_or xs i d)) r ∙ ap (λ z. o ++ flat_map f z) (sym (drop_next xs i d l)) ∙ h

pub flat_all : {X Y : Type 0} (f : X → List Y) (xs : List X) (i : ℕ) (o whole : List Y) → length xs ≤ i → o ++ flat_map f (drop i xs) ≡ whole → o ≡ whole
flat_all f xs i o whole l h = sym (append-nil o) ∙ ap (λ z. o ++ flat_map f z) (sym (drop_of_length-le xs l)) ∙ h

-- ---- some texts, one behind the other

pub two_put : (o a b e f : List ℕ) → a ≡ o ++ e → b ≡ a ++ f → b ≡ o ++ (e ++ f)
two_put o a b e f h k = k ∙ ap (λ z. z ++ f) h ∙ append_assoc o e f

pub three_put : (o a b c e f g : List ℕ) → a ≡ o ++ e → b ≡ a ++ f → c ≡ b ++ g → c ≡ o ++ (e ++ (f ++ g))
three_put o a b c e f g h k l = two_put o a c e (f ++ g) h (two_put a b c f g k l)

pub four_put : (o a b c d e f g i : List ℕ) → a ≡ o ++ e → b ≡ a ++ f → c ≡ b ++ g → d ≡ c ++ i → d ≡ o ++ (e ++ (f ++ (g ++ i)))
four_put o a b c d e f g i h k l m = two_put o a d e (f ++ (g ++ i)) h (three_put a b c d f g i k l m)

-- a text behind another one, where it is written
pub then_ok : {X E : Type 0} (r : Result X E) (o a b e f : List ℕ) → a ≡ o ++ e → OnOk r (b ≡ a ++ f) → OnOk r (b ≡ o ++ (e ++ f))
then_ok (Ok x) o a b e f h k = two_put o a b e f h k
then_ok (Err x) o a b e f h k = tt

-- ---- what a walk has yielded, of which one more is written

pub yield_next : {X Y : Type 0} (f : Y → List ℕ) (v : X → Y) (xs : List X) (x : X) (o a b : List ℕ) → a ≡ o ++ flat_map f (map v xs) → b ≡ a ++ f (v x) → b ≡ o ++ flat_map f (map v (push xs x))
yield_next f v xs x o a b h k =
    k ∙ ap (λ z. z ++ f (v x)) h ∙ append_assoc o (flat_map f (map v xs)) (f (v x)) ∙ ap (λ z. o ++ z) (sym (flat_pushed f v xs x))
  where
    flat_pushed : {X Y : Type 0} (f : Y → List ℕ) (v : X → Y) (xs : List X) (x : X) → flat_map f (map v (push xs x)) ≡ flat_map f (map v xs) ++ f (v x)
    flat_pushed f v [] x = append-nil (f (v x))
    flat_pushed f v (y ∷ xs) x = ap (λ z. f (v y) ++ z) (flat_pushed f v xs x) ∙ sym (append_assoc (f (v y)) (flat_map f (map v xs)) (f (v x)))
