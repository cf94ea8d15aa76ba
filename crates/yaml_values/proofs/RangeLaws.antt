-- Lists that grow, and what stands in them.
use Rattle.std.proofs.Common.{◌≡◌, ℕ, zero, suc, ◌+◌, ◌<◌, ◌≤◌, List, [], ◌∷◌, ◌++◌, length, take, get_or, refl, sym, ◌∙◌, ap, subst, arith, length-append, append_assoc}
use Rattle.std.proofs.lemmas.List.{append-nil, take_more, take_all}
use Rattle.std.specs.List.{All}
use Rattle.std.proofs.lemmas.List.Elements.{All-append}
use Rattle.yaml_store.proofs.Growing.{range-grown, range-new}
use Rattle.yaml_values.specs.Ranges.{IsRange, Grows, Puts, in_turn}

pub grows-none : {X : Type 0} (xs : List X) → Grows xs xs
grows-none xs = record { more = []; is = sym (append-nil xs) }

pub grows-more : {X : Type 0} (xs ys zs : List X) → Grows xs ys → Grows ys zs → Grows xs zs
grows-more xs ys zs g h = record { more = g.more ++ h.more; is = h.is ∙ (ap (λ z. z ++ h.more) g.is ∙ append_assoc xs g.more h.more) }

pub range-stays : {X : Type 0} (old new : List X) (s e : ℕ) (ys : List X) → Grows old new → IsRange old s e ys → IsRange new s e ys
range-stays old new s e ys g r =
    let l = length-append old g.more in
    subst (λ z. IsRange z s e ys) (sym g.is) (record {
      in_order = r.in_order;
      within = omega (arith, r.within, l);
      is = range-grown old g.more s e r.in_order r.within ∙ r.is;
    })

-- elements that were put at the end
pub puts-new : {X : Type 0} (old new ys : List X) (s e : ℕ) → new ≡ old ++ ys → s ≡ length old → e ≡ length new → Puts old new s e ys
puts-new old new ys s e n a b =
    let l = length-append old ys in
    let b2 : e ≡ length (old ++ ys) = b ∙ ap length n in
    subst (λ z. Puts old z s e ys) (sym n) (record {
      grows = record { more = ys; is = refl };
      range = record { in_order = omega (arith, a, b2, l); within = omega (arith, b2); is = range-new old ys s e a b2 };
    })

-- elements that stood there already
pub puts-none : {X : Type 0} (xs ys : List X) (s e : ℕ) → IsRange xs s e ys → Puts xs xs s e ys
puts-none xs ys s e r = record { grows = grows-none xs; range = r }

pub in_turn-append : (ps qs : List (ℕ × ℕ)) → in_turn (ps ++ qs) ≡ in_turn ps ++ in_turn qs
in_turn-append [] qs = refl
in_turn-append (p ∷ ps) qs = ap (λ z. p.0 ∷ p.1 ∷ z) (in_turn-append ps qs)

-- one entry more
pub in_turn-more : (es : List (ℕ × ℕ)) (i : ℕ) (d : ℕ × ℕ) (old a b : List ℕ) (k v : ℕ) → i < length es → a ≡ old ++ in_turn (take i es) → k ≡ (get_or es i d).0 → v ≡ (get_or es i d).1 → b ≡ (a ++ (k ∷ [])) ++ (v ∷ []) → b ≡ old ++ in_turn (take (i + 1) es)
in_turn-more es i d old a b k v l ea ek ev eb =
    let p = get_or es i d in
    let own : List ℕ = p.0 ∷ p.1 ∷ [] in
    let one : b ≡ a ++ (k ∷ v ∷ []) = eb ∙ append_assoc a (k ∷ []) (v ∷ []) in
    let two : a ++ (k ∷ v ∷ []) ≡ a ++ own = λ z. a ++ (ek z ∷ ev z ∷ []) in
    let three : a ++ own ≡ old ++ (in_turn (take i es) ++ own) = ap (λ z. z ++ own) ea ∙ append_assoc old (in_turn (take i es)) own in
    one ∙ (two ∙ (three ∙ ap (λ z. old ++ z) (sym (in_turn-append (take i es) (p ∷ [])) ∙ ap in_turn (sym (take_more es i d l)))))

pub in_turn-all : (es : List (ℕ × ℕ)) (i : ℕ) (old a : List ℕ) → length es ≤ i → a ≡ old ++ in_turn (take i es) → a ≡ old ++ in_turn es
in_turn-all es i old a l e = e ∙ ap (λ z. old ++ in_turn z) (take_all i es l)

all-one : {X : Type 0} (P : X → Type 0) (x : X) → P x → All P (x ∷ [])
all-one P x p zero d l = p
all-one P x p (suc k) d l = absurd (omega (arith, l))

-- one element more
pub all-next : {X : Type 0} (P : X → Type 0) (xs : List X) (i : ℕ) (d : X) → i < length xs → All P (take i xs) → P (get_or xs i d) → All P (take (i + 1) xs)
all-next P xs i d l h p = subst (All P) (sym (take_more xs i d l)) (All-append P (take i xs) (get_or xs i d ∷ []) h (all-one P (get_or xs i d) p))

pub all-whole : {X : Type 0} (P : X → Type 0) (xs : List X) (i : ℕ) → length xs ≤ i → All P (take i xs) → All P xs
all-whole P xs i l h = subst (All P) (take_all i xs l) h
