-- Pairs among steps, one right place after the other.
use Rattle.std.proofs.Common.{◌≡◌, ℕ, ◌+◌, ◌-◌, ◌*◌, ◌^◌, ◌<◌, ◌≤◌, Bool, List, [], ◌∷◌, ◌++◌, length, inl, inr, refl, sym, ◌∙◌, ap, subst, arith, append-nil, append_assoc, min, max}
use Rattle.std.specs.Prelude.{Option, Some, None}
use Rattle.std.specs.List.{slice_get}
use Rattle.std.proofs.lemmas.Option.{slice_get_within}
use Rattle.yaml_tree.proofs.Lists.{get-more, get-end, get-push}
use Rattle.yaml_store_rank.specs.Forests.{Forests, count}
use Rattle.yaml_tree.specs.declared.node.NodeId.{NodeId}
use Rattle.yaml_path.specs.declared.places.Places.{Places}
use Rattle.yaml_path.specs.declared.places.Places.TheVariants.{Both, Left, Right}
use Rattle.yaml_pair.specs.declared.partners.Partners.{Partners}
use Rattle.yaml_pair.specs.Names.{Naming}
use Rattle.yaml_pair.specs.Named.{weight_of, IsWeighty, Keeps, HasPairs, PairsBy, HasPair, Agrees, OneToOne, TellsPairs, GoesOn, IsTold, StepsTo, StepsOf}
use Rattle.yaml_pair.proofs.Parts.{some-is, less-or}

abbrev Steps : Type 0
Steps = List (Places × Bool)

pub goes-same : (s : Steps) → GoesOn s s
goes-same s = record { more = []; on = sym (append-nil s); no_pair = λ a b h. h }

-- ---- steps that are no pairs

abbrev IsNoPair : Places × Bool → Type 0
IsNoPair x = (a b : ℕ) (m : Bool) → x ≡ (Both a b, m) → ⊥

no-more : (s : Steps) (x : Places × Bool) → IsNoPair x → (a b : ℕ) → HasPair (s ++ (x ∷ [])) a b → HasPair s a b
no-more s x f a b h = get-push (λ i y. y ≡ (Both a b, h.1) → HasPair s a b) s x (λ i y e q. (i, h.1, e ∙ ap Some q)) (λ q. absurd (f a b h.1 q)) h.0 (Both a b, h.1) h.2 refl

goes-put : (s t u : Steps) (x : Places × Bool) → IsNoPair x → GoesOn s t → u ≡ t ++ (x ∷ []) → GoesOn s u
goes-put s t u x f g e = record {
  more = g.more ++ (x ∷ []);
  on = e ∙ ap (λ z. z ++ (x ∷ [])) g.on ∙ append_assoc s g.more (x ∷ []);
  no_pair = λ a b h. g.no_pair a b (no-more t x f a b (subst (λ z. HasPair z a b) e h));
}

left-no-pair : (n : ℕ) (m : Bool) → IsNoPair (Left n, m)
left-no-pair n m a b k e = let q : Left n ≡ Both a b = ap (λ (z : Places × Bool). z.0) e in absurd (cc)

right-no-pair : (n : ℕ) (m : Bool) → IsNoPair (Right n, m)
right-no-pair n m a b k e = let q : Right n ≡ Both a b = ap (λ (z : Places × Bool). z.0) e in absurd (cc)

pub goes-left : (s t u : Steps) (n : ℕ) (m : Bool) → GoesOn s t → u ≡ t ++ ((Left n, m) ∷ []) → GoesOn s u
goes-left s t u n m g e = goes-put s t u (Left n, m) (left-no-pair n m) g e

pub goes-right : (s t u : Steps) (n : ℕ) (m : Bool) → GoesOn s t → u ≡ t ++ ((Right n, m) ∷ []) → GoesOn s u
goes-right s t u n m g e = goes-put s t u (Right n, m) (right-no-pair n m) g e

-- ---- pairs so far

has-more : (s t : Steps) (j k : ℕ) → HasPair s j k → GoesOn s t → HasPair t j k
has-more s t j k h g = (h.0, h.1, subst (λ z. slice_get z h.0 ≡ Some (Both j k, h.1)) (sym g.on) (get-more s g.more h.0 (Both j k, h.1) h.2))

has-none : (a b : ℕ) → HasPair [] a b → ⊥
has-none a b h = let e = h.2 in absurd (cc)

has-last : (t : Steps) (j k : ℕ) (moved : Bool) → HasPair (t ++ ((Both j k, moved) ∷ [])) j k
has-last t j k moved = (length t, moved, get-end t (Both j k, moved))

has-before : (t : Steps) (x : Places × Bool) (j k : ℕ) → HasPair t j k → HasPair (t ++ (x ∷ [])) j k
has-before t x j k h = (h.0, h.1, get-more t (x ∷ []) h.0 (Both j k, h.1) h.2)

both-parts : (x y a b : ℕ) → Both x y ≡ Both a b → (x ≡ a) × (y ≡ b)
both-parts x y a b e = (cc, cc)

module _ (first : ℕ) (p : Partners) where
  pub steps-none : StepsTo first p 0 []
  steps-none = record { has = λ j k l q a b. absurd (omega (arith, l)); only = λ a b h. absurd (has-none a b h) }

  pub steps-more : (upto : ℕ) (s t : Steps) → StepsTo first p upto s → GoesOn s t → StepsTo first p upto t
  steps-more upto s t h g = record {
    has = λ j k l q a b. has-more s t (first + j) (first + k) (h.has j k l q a b) g;
    only = λ a b x. h.only a b (g.no_pair a b x);
  }

  -- the right place has no partner
  pub steps-right : (upto n : ℕ) (m : Bool) (s t : Steps) → slice_get p.rights.items upto ≡ Some None → StepsTo first p upto s → t ≡ s ++ ((Right n, m) ∷ []) → StepsTo first p (upto + 1) t
  steps-right upto n m s t e h et = record {
    has = λ j k l q a b. elim (less-or k upto l) [
      | inl c ↦ has-more s t (first + j) (first + k) (h.has j k c q a b) g
      | inr c ↦ let f : Some None ≡ Some (Some j) = sym e ∙ ap (slice_get p.rights.items) (sym c) ∙ q in absurd (cc)
    ];
    only = λ a b x. h.only a b (g.no_pair a b x);
  }
    where
      g : GoesOn s t
      g = goes-right s s t n m (goes-same s) et

  -- the right place and its partner are the next pair
  pub steps-pair : (upto left x y : ℕ) (moved : Bool) (s t u : Steps) → slice_get p.rights.items upto ≡ Some (Some left) → StepsTo first p upto s → GoesOn s t → x ≡ min (left + first) (2 ^ 64 - 1) → y ≡ min (upto + first) (2 ^ 64 - 1)
      → u ≡ t ++ ((Both x y, moved) ∷ []) → StepsTo first p (upto + 1) u
  steps-pair upto left x y moved s t u e h g ex ey eu = record {
    has = λ j k l q a b. subst (λ z. HasPair z (first + j) (first + k)) (sym eu) (elim (less-or k upto l) [
      | inl c ↦ has-before t (Both x y, moved) (first + j) (first + k) (has-more s t (first + j) (first + k) (h.has j k c q a b) g)
      | inr c ↦
          let f : left ≡ j = some-is (some-is (sym e ∙ ap (slice_get p.rights.items) (sym c) ∙ q)) in
          let fx : x ≡ first + j = omega (arith, ex, f, a) in
          let fy : y ≡ first + k = omega (arith, ey, c, b) in
          subst (λ z. HasPair (t ++ ((Both x y, moved) ∷ [])) z (first + k)) fx (subst (λ z. HasPair (t ++ ((Both x y, moved) ∷ [])) x z) fy (has-last t x y moved))
    ]);
    only = λ a b z. told a b (subst (λ v. HasPair v a b) eu z);
  }
    where
      last : (a b : ℕ) (m : Bool) (v : Places × Bool) → v ≡ (Both x y, moved) → v ≡ (Both a b, m) → IsTold first p a b
      last a b m v f q =
          let w = both-parts x y a b (ap (λ (z : Places × Bool). z.0) (sym f ∙ q)) in
          record { j = left; k = upto; is = e; left = sym w.0 ∙ ex; right = sym w.1 ∙ ey }

      told : (a b : ℕ) → HasPair (t ++ ((Both x y, moved) ∷ [])) a b → IsTold first p a b
      told a b z =
          get-push (λ i v. v ≡ (Both a b, z.1) → IsTold first p a b) t (Both x y, moved) (λ i v f q. h.only a b (g.no_pair a b (i, z.1, f ∙ ap Some q))) (last a b z.1 (Both x y, moved) refl) z.0 (Both a b, z.1) z.2 refl

-- the lists are too heavy
pub heavy : (g : Forests) (ls rs : List NodeId) (w n : ℕ) → w ≤ weight_of g ls rs → w < 2 ^ 64 → n ≡ count g → max (min (n * 2) (2 ^ 64 - 1)) 1048576 < w → IsWeighty g ls rs
heavy g ls rs w n le fits e m = (omega (arith, m, le), omega (arith, m, le, fits, e))

-- a place of a pair that fits
fits : (x y n first : ℕ) (xs : List (Option ℕ)) → slice_get xs x ≡ Some (Some y) → length xs ≡ n → first + n < 2 ^ 64 → first + x < 2 ^ 64
fits x y n first xs e l f = let w = slice_get_within xs x (Some y) e in omega (arith, w, l, f)

-- pairs that are noted on both sides take no place twice
once : (first n m : ℕ) (p : Partners) (steps : Steps) → Agrees p → length p.lefts.items ≡ n → length p.rights.items ≡ m → first + n < 2 ^ 64 → first + m < 2 ^ 64 → StepsOf first p steps → OneToOne steps
once first n m p steps agrees ln lm fl fr s = record {
  left = λ a b c h i.
      let x = s.only a b h in
      let y = s.only a c i in
      let u = (agrees x.j x.k).1 x.is in
      let v = (agrees y.j y.k).1 y.is in
      let fx = fits x.j x.k n first p.lefts.items u ln fl in
      let fy = fits y.j y.k n first p.lefts.items v ln fl in
      let e : x.j ≡ y.j = omega (arith, fx, fy, x.left, y.left) in
      let k : x.k ≡ y.k = some-is (some-is (sym u ∙ ap (slice_get p.lefts.items) e ∙ v)) in
      x.right ∙ ap (λ z. min (z + first) (2 ^ 64 - 1)) k ∙ sym y.right;
  right = λ a b c h i.
      let x = s.only a c h in
      let y = s.only b c i in
      let fx = fits x.k x.j m first p.rights.items x.is lm fr in
      let fy = fits y.k y.j m first p.rights.items y.is lm fr in
      let e : x.k ≡ y.k = omega (arith, fx, fy, x.right, y.right) in
      let j : x.j ≡ y.j = some-is (some-is (sym x.is ∙ ap (slice_get p.rights.items) e ∙ y.is)) in
      x.left ∙ ap (λ z. min (z + first) (2 ^ 64 - 1)) j ∙ sym y.left;
}

-- just these pairs are noted on both sides
has-agrees : (p : Partners) (n m : ℕ) (P : ℕ → ℕ → Type 0) → HasPairs p n m P → Agrees p
has-agrees p n m P h j k = (λ e. (h.right j k).1 ((h.left j k).0 e), λ e. (h.left j k).1 ((h.right j k).0 e))

-- the pairs of names are among the steps of what keeps them
pub pairs-told : (g : Forests) (ls rs : List NodeId) (first : ℕ) (cs : List Naming) (a b c : Partners) (steps : Steps) → HasPairs a (length ls) (length rs) (PairsBy g ls rs cs) → Keeps a b → Keeps b c → StepsOf first c steps
    → first + length ls < 2 ^ 64 → first + length rs < 2 ^ 64 → TellsPairs first steps (PairsBy g ls rs cs)
pairs-told g ls rs first cs a b c steps h kb kc s fl fr = record {
  has = λ j k p.
      let q = kc.right j k (kb.right j k ((h.right j k).1 p)) in
      let u = kc.left j k (kb.left j k ((h.left j k).1 p)) in
      s.has j k (slice_get_within c.rights.items k (Some j) q) q (fits j k (length ls) first c.lefts.items u ln fl) (fits k j (length rs) first c.rights.items q rn fr);
  once = once first (length ls) (length rs) c steps (kc.agrees (kb.agrees (has-agrees a (length ls) (length rs) (PairsBy g ls rs cs) h))) ln rn fl fr s;
}
  where
    ln : length c.lefts.items ≡ length ls
    ln = kc.lefts_len ∙ kb.lefts_len ∙ h.lefts_len

    rn : length c.rights.items ≡ length rs
    rn = kc.rights_len ∙ kb.rights_len ∙ h.rights_len
