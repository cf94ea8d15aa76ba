-- Offsets that are moved on, one after the other.
use Rattle.std.proofs.Common.{◌≡◌, ◌≤◌, ◌<◌, ℕ, zero, suc, ◌+◌, List, [], ◌∷◌, ◌++◌, length, map, take, drop, set, get_or, refl, sym, ◌∙◌, ap, arith, add-one, length-append, take-append-drop}
use Rattle.std.specs.List.{insert}
use Rattle.std.proofs.lemmas.List.{length-map}
use Rattle.std.proofs.Math.Seq.{take-append_seam, drop-append_seam}

moved_step : (f : ℕ → ℕ) (old : List ℕ) (i d y : ℕ) → i < length old → y ≡ f (get_or (map f (take i old) ++ drop i old) i d) → set (map f (take i old) ++ drop i old) i y ≡ map f (take (suc i) old) ++ drop (suc i) old
moved_step f [] i d y l e = absurd (omega (arith, l))
moved_step f (x ∷ old) zero d y l e = ap (λ z. z ∷ old) e
moved_step f (x ∷ old) (suc i) d y l e = ap (λ zs. f x ∷ zs) (moved_step f old i d y (omega arith) e)

pub moved_more : (f : ℕ → ℕ) (old now : List ℕ) (i d y : ℕ) → i < length old → now ≡ map f (take i old) ++ drop i old → y ≡ f (get_or now i d) → set now i y ≡ map f (take (i + 1) old) ++ drop (i + 1) old
moved_more f old now i d y l e q =
    ap (λ z. set z i y) e ∙ (moved_step f old i d y l (q ∙ ap (λ z. f (get_or z i d)) e) ∙ (λ z. map f (take (sym (add-one i) z) old) ++ drop (sym (add-one i) z) old))

pub moved_count : (f : ℕ → ℕ) (old now : List ℕ) (i : ℕ) → now ≡ map f (take i old) ++ drop i old → length now ≡ length old
moved_count f old now i e =
    omega (arith, ap length e, length-append (map f (take i old)) (drop i old), length-map (take i old) f, ap length (take-append-drop i old), length-append (take i old) (drop i old))

-- the front of a list
pub front_length : (xs : List ℕ) (k : ℕ) → k ≤ length xs → k ≡ length (take k xs)
front_length xs zero l = refl
front_length [] (suc k) l = absurd (omega (arith, l))
front_length (x ∷ xs) (suc k) l = ap suc (front_length xs k (omega (arith, l)))

pub put_before_moved : (xs ys : List ℕ) (k at : ℕ) → k ≤ length xs → insert (take k xs ++ ys) k at ≡ take k xs ++ at ∷ ys
put_before_moved xs ys k at l =
    let a = take k xs in
    ap (λ n. take n (a ++ ys) ++ at ∷ drop n (a ++ ys)) (front_length xs k l) ∙ ap (λ v. v ++ at ∷ drop (length a) (a ++ ys)) (take-append_seam a ys) ∙ ap (λ v. a ++ at ∷ v) (drop-append_seam a ys)
