-- Lists: what stands at a place, as a list grows, changes or is mapped; members.
use Rattle.std.proofs.Common.{◌≡◌, inl, inr, ℕ, zero, suc, ◌+◌, ◌<◌, List, [], ◌∷◌, ◌++◌, length, map, take, get_or, refl, sym, ◌∙◌, ap, subst, arith, add-one, ◌⊎◌, ◌≤◌, set, drop}
use Rattle.std.proofs.Math.Seq.{take-suc}
use Rattle.std.proofs.lemmas.List.{map-append}
use Rattle.std.specs.List.{Contains, slice_get}
use Rattle.std.specs.Prelude.{Some}

-- ---- lists that grow at their end

pub get-more : {X : Type 0} (xs ys : List X) (i : ℕ) (x : X) → slice_get xs i ≡ Some x → slice_get (xs ++ ys) i ≡ Some x
get-more [] ys i x h = absurd (cc)
get-more (y ∷ xs) ys zero x h = h
get-more (y ∷ xs) ys (suc i) x h = get-more xs ys i x h

pub get-end : {X : Type 0} (xs : List X) (x : X) → slice_get (xs ++ (x ∷ [])) (length xs) ≡ Some x
get-end [] x = refl
get-end (y ∷ xs) x = get-end xs x

-- the last, or one of those before
pub get-push : {X : Type 0} (P : ℕ → X → Type 0) (xs : List X) (x : X) → ((i : ℕ) (y : X) → slice_get xs i ≡ Some y → P i y) → P (length xs) x → (i : ℕ) (y : X) → slice_get (xs ++ (x ∷ [])) i ≡ Some y → P i y
get-push P [] x old new zero y e = let q : x ≡ y = cc in subst (P 0) q new
get-push P [] x old new (suc i) y e = absurd (cc)
get-push P (z ∷ xs) x old new zero y e = old zero y e
get-push P (z ∷ xs) x old new (suc i) y e = get-push (λ n. P (suc n)) xs x (λ n. old (suc n)) new i y e

-- ---- elements of lists that change

pub push-get : {X : Type 0} (xs : List X) (y x : X) (k : ℕ) → slice_get (xs ++ (y ∷ [])) k ≡ Some x → (slice_get xs k ≡ Some x) ⊎ ((k ≡ length xs) × (x ≡ y))
push-get [] y x zero h = inr (refl, (let e : y ≡ x = cc in sym e))
push-get [] y x (suc k) h = absurd (cc)
push-get (z ∷ xs) y x zero h = inl h
push-get (z ∷ xs) y x (suc k) h = elim (push-get xs y x k h) [ inl e ↦ inl e | inr e ↦ inr (ap suc e.0, e.1) ]

pub set-get : {X : Type 0} (xs : List X) (j : ℕ) (v w : X) (i : ℕ) → slice_get (set xs j v) i ≡ Some w → ((i ≡ j) × (w ≡ v)) ⊎ (slice_get xs i ≡ Some w)
set-get [] j v w i h = inr h
set-get (x ∷ xs) zero v w zero h = inl (refl, (let e : v ≡ w = cc in sym e))
set-get (x ∷ xs) zero v w (suc i) h = inr h
set-get (x ∷ xs) (suc j) v w zero h = inr h
set-get (x ∷ xs) (suc j) v w (suc i) h = elim (set-get xs j v w i h) [ inl e ↦ inl (ap suc e.0, e.1) | inr e ↦ inr e ]

-- nothing is written past the end
pub set-past : {X : Type 0} (xs : List X) (j : ℕ) (v : X) → length xs ≤ j → set xs j v ≡ xs
set-past [] j v l = refl
set-past (x ∷ xs) zero v l = absurd (omega arith)
set-past (x ∷ xs) (suc j) v l = ap (λ z. x ∷ z) (set-past xs j v (omega arith))

pub get-some : {X : Type 0} (xs : List X) (i : ℕ) → i < length xs → (x : X) × (slice_get xs i ≡ Some x)
get-some [] i l = absurd (omega arith)
get-some (x ∷ xs) zero l = (x, refl)
get-some (x ∷ xs) (suc i) l = get-some xs i (omega arith)

pub take-get : {X : Type 0} (xs : List X) (n i : ℕ) (x : X) → i < n → slice_get xs i ≡ Some x → slice_get (take n xs) i ≡ Some x
take-get [] n i x l h = absurd (cc)
take-get (y ∷ xs) zero i x l h = absurd (omega arith)
take-get (y ∷ xs) (suc n) zero x l h = h
take-get (y ∷ xs) (suc n) (suc i) x l h = take-get xs n i x (omega arith) h

-- ---- a list changed place by place

raise-step : {X : Type 0} (f : X → X) (old : List X) (i : ℕ) (d y : X) → i < length old → y ≡ f (get_or (map f (take i old) ++ drop i old) i d) → set (map f (take i old) ++ drop i old) i y ≡ map f (take (suc i) old) ++ drop (suc i) old
raise-step f [] i d y l e = absurd (omega arith)
raise-step f (x ∷ old) zero d y l e = ap (λ z. z ∷ old) e
raise-step f (x ∷ old) (suc i) d y l e = ap (λ zs. f x ∷ zs) (raise-step f old i d y (omega arith) e)

pub raise-more : {X : Type 0} (f : X → X) (old now : List X) (i : ℕ) (d y : X) → i < length old → now ≡ map f (take i old) ++ drop i old → y ≡ f (get_or now i d) → set now i y ≡ map f (take (i + 1) old) ++ drop (i + 1) old
raise-more f old now i d y l e q =
    ap (λ z. set z i y) e ∙ (raise-step f old i d y l (q ∙ ap (λ z. f (get_or z i d)) e) ∙ (λ z. map f (take (sym (add-one i) z) old) ++ drop (sym (add-one i) z) old))

-- ---- maps, and other ways to look

pub get_or-any : {X : Type 0} (xs : List X) (i : ℕ) (c d : X) → i < length xs → get_or xs i c ≡ get_or xs i d
get_or-any [] i c d h = absurd (omega arith)
get_or-any (z ∷ xs) zero c d h = refl
get_or-any (z ∷ xs) (suc i) c d h = get_or-any xs i c d (omega arith)

pub get_or-map : {X Y : Type 0} (f : X → Y) (xs : List X) (i : ℕ) (c : X) (d : Y) → i < length xs → get_or (map f xs) i d ≡ f (get_or xs i c)
get_or-map f [] i c d h = absurd (omega arith)
get_or-map f (x ∷ xs) zero c d h = refl
get_or-map f (x ∷ xs) (suc i) c d h = get_or-map f xs i c d (omega arith)

pub map-more : {X Y : Type 0} (f : X → Y) (xs : List X) (i : ℕ) (d : X) → i < length xs → map f (take (i + 1) xs) ≡ map f (take i xs) ++ (f (get_or xs i d) ∷ [])
map-more f xs i d h = ap (λ n. map f (take n xs)) (add-one i) ∙ (ap (map f) (take-suc xs i d h) ∙ map-append f (take i xs) (get_or xs i d ∷ []))

pub get-map : {X Y : Type 0} (f : X → Y) (xs : List X) (k : ℕ) (x : X) → slice_get xs k ≡ Some x → slice_get (map f xs) k ≡ Some (f x)
get-map f [] k x e = absurd (cc)
get-map f (y ∷ xs) zero x e = let q : y ≡ x = cc in ap (λ z. Some (f z)) q
get-map f (y ∷ xs) (suc k) x e = get-map f xs k x e

pub get-unmap : {X Y : Type 0} (f : X → Y) (xs : List X) (k : ℕ) (y : Y) → slice_get (map f xs) k ≡ Some y → (x : X) × (slice_get xs k ≡ Some x) × (f x ≡ y)
get-unmap f [] k y e = absurd (cc)
get-unmap f (x ∷ xs) zero y e = (x, refl, cc)
get-unmap f (x ∷ xs) (suc k) y e = get-unmap f xs k y e

-- ---- members

abbrev pub Has : {X : Type 0} → X → List X → Type 0
Has x [] = ⊥
Has x (y ∷ ys) = (x ≡ y) ⊎ Has x ys

has-at : {X : Type 0} (xs : List X) (i : ℕ) (d : X) → i < length xs → Has (get_or xs i d) xs
has-at [] i d h = absurd (omega arith)
has-at (x ∷ xs) zero d h = inl refl
has-at (x ∷ xs) (suc i) d h = inr (has-at xs i d (omega arith))

pub contains-has : {X : Type 0} (xs : List X) (x : X) → Contains xs x → Has x xs
contains-has xs x c = subst (λ z. Has z xs) c.2 (has-at xs c.0 x c.1)

pub has-contains : {X : Type 0} (xs : List X) (x : X) → Has x xs → Contains xs x
has-contains [] x h = absurd h
has-contains (y ∷ xs) x (inl e) = (0, omega arith, sym e)
has-contains (y ∷ xs) x (inr h) = let r = has-contains xs x h in (suc r.0, omega (arith, r.1), r.2)
