-- The keys of the nodes of one height.
use Rattle.std.proofs.Common.{◌≡◌, ◌⊎◌, inl, inr, ℕ, ◌+◌, ◌<◌, ◌≤◌, List, [], ◌∷◌, ◌++◌, length, take, get_or, slice_index, refl, sym, ◌∙◌, ap, subst, arith, add-one, length-append, length-take}
use Rattle.std.specs.Prelude.{Some}
use Rattle.std.proofs.Math.Seq.{take-suc}
use Rattle.std.specs.List.{slice_get, All}
use Rattle.std.specs.List.Sorted.{IsPermutation}
use Rattle.std.proofs.lemmas.List.{take_all}
use Rattle.std.proofs.lemmas.List.Sorted.{Contains-permutation, IsPermutation-sym, length_permutation}
use Rattle.std.proofs.lemmas.Option.{slice_get_read, get_or_from_slice_get}
use Rattle.yaml_tree.proofs.Numbering.{get-within}
use Rattle.yaml_tree.proofs.Lists.{push-get, get-some}
use Rattle.yaml_store.specs.declared.nodes.Node.{Node}
use Rattle.yaml_store.specs.StoreModel.{place_of, inside_of}
use Rattle.yaml_store_rank.specs.KeyModel.{Key, Keys, Rises, KeyIs}
use Rattle.yaml_store_rank.specs.LevelModel.{KeysMade, KeysSorted}

module _ (nodes : List Node) (text is : List ℕ) (es : List (ℕ × ℕ)) (places level : List ℕ) where
  pub keys-none : KeysMade nodes text is es places (take 0 level) []
  keys-none = record {
    count = omega (arith, length-take 0 level);
    numbers = λ k x i a b. absurd (cc);
    are = λ k x s a b. absurd (cc);
  }

  -- one more key
  module _ (i : ℕ) (keys : Keys) (key : Key) (s : Node) (within : i < length level) (before : KeysMade nodes text is es places (take i level) keys) (there : slice_get nodes (get_or level i 0) ≡ Some s) (made : KeyIs (slice_index places s.tag) (inside_of text is es (place_of s)) key) where
    abbrev p : ℕ
    p = get_or level i 0

    abbrev new : Key × ℕ
    new = (key, p)

    taken : length (take i level) ≡ i
    taken = omega (arith, length-take i level)

    more-level : take (i + 1) level ≡ take i level ++ (p ∷ [])
    more-level = ap (λ n. take n level) (add-one i) ∙ take-suc level i 0 within

    is-key : (x : Key × ℕ) (t : Node) → x ≡ new → slice_get nodes x.1 ≡ Some t → KeyIs (slice_index places t.tag) (inside_of text is es (place_of t)) x.0
    is-key x t q w =
        let a : slice_get nodes p ≡ Some t = subst (λ (z : Key × ℕ). slice_get nodes z.1 ≡ Some t) q w in
        let b : s ≡ t = (let z : Some s ≡ Some t = sym there ∙ a in cc) in
        subst (λ (z : Key × ℕ). KeyIs (slice_index places t.tag) (inside_of text is es (place_of t)) z.0) (sym q) (subst (λ (z : Node). KeyIs (slice_index places z.tag) (inside_of text is es (place_of z)) key) b made)

    pushed : KeysMade nodes text is es places (take i level ++ (p ∷ [])) (keys ++ (new ∷ []))
    pushed = record {
      count = omega (arith, before.count, length-append keys (new ∷ []), length-append (take i level) (p ∷ []));
      numbers = λ k x q a b. number k x q (push-get keys new x k a) (push-get (take i level) p q k b);
      are = λ k x t a w. elim (push-get keys new x k a) [ inl h ↦ before.are k x t h w | inr h ↦ is-key x t h.1 w ];
    }
      where
        number : (k : ℕ) (x : Key × ℕ) (q : ℕ) → (slice_get keys k ≡ Some x) ⊎ ((k ≡ length keys) × (x ≡ new)) → (slice_get (take i level) k ≡ Some q) ⊎ ((k ≡ length (take i level)) × (q ≡ p)) → x.1 ≡ q
        number k x q (inl a) (inl b) = before.numbers k x q a b
        number k x q (inl a) (inr b) = let l = get-within keys k x a in let e = b.0 in absurd (omega (arith, before.count))
        number k x q (inr a) (inl b) = let l = get-within (take i level) k q b in let e = a.0 in absurd (omega (arith, before.count))
        number k x q (inr a) (inr b) = ap (λ z. z.1) a.1 ∙ sym b.1

    pub keys-more : (more : Keys) → more ≡ keys ++ (new ∷ []) → KeysMade nodes text is es places (take (i + 1) level) more
    keys-more more e = subst (λ z. KeysMade nodes text is es places z more) (sym more-level) (subst (KeysMade nodes text is es places (take i level ++ (p ∷ []))) (sym e) pushed)

  pub keys-all : (i : ℕ) (keys : Keys) → length level ≤ i → KeysMade nodes text is es places (take i level) keys → KeysMade nodes text is es places level keys
  keys-all i keys l made = subst (λ z. KeysMade nodes text is es places z keys) (take_all i level l) made

  module _ (found sorted : Keys) (made : KeysMade nodes text is es places level found) (permuted : IsPermutation found sorted) where
    -- where a key stood before it was sorted
    found-at : (k : ℕ) (x : Key × ℕ) → slice_get sorted k ≡ Some x → (j : ℕ) × (slice_get found j ≡ Some x)
    found-at k x at =
        let c = Contains-permutation sorted found x (IsPermutation-sym found sorted permuted) (k, get-within sorted k x at, get_or_from_slice_get sorted k x x at) in
        (c.0, slice_get_read found (length found) c.0 x refl c.1 (sym c.2))

    sound : (k : ℕ) (x : Key × ℕ) → slice_get sorted k ≡ Some x → (j : ℕ) × (slice_get level j ≡ Some x.1)
    sound k x at =
        let f = found-at k x at in
        let p = get-some level f.0 (omega (arith, get-within found f.0 x f.1, made.count)) in
        (f.0, p.1 ∙ ap Some (sym (made.numbers f.0 x p.0 f.1 p.1)))

    whole : (j i : ℕ) → slice_get level j ≡ Some i → (k : ℕ) × (x : Key × ℕ) × (slice_get sorted k ≡ Some x) × (x.1 ≡ i)
    whole j i at =
        let x = get-some found j (omega (arith, get-within level j i at, made.count)) in
        let c = Contains-permutation found sorted x.0 permuted (j, get-within found j x.0 x.1, get_or_from_slice_get found j x.0 x.0 x.1) in
        (c.0, x.0, slice_get_read sorted (length sorted) c.0 x.0 refl c.1 (sym c.2), made.numbers j x.0 i x.1 at)

    pub keys-sorted : Rises sorted → KeysSorted nodes text is es places level sorted
    keys-sorted rises = record {
      count = length_permutation found sorted permuted ∙ made.count;
      rises = rises;
      are = λ k x s at w. let f = found-at k x at in made.are f.0 x s f.1 w;
      sound = sound;
      whole = whole;
    }

  pub sorted-within : (keys : Keys) → KeysSorted nodes text is es places level keys → (n : ℕ) → All (λ i. i < n) level → All (λ (x : Key × ℕ). x.1 < n) keys
  sorted-within keys sorted n all k d l =
      let x = get-some keys k l in
      let p = sorted.sound k x.0 x.1 in
      let w : x.0.1 < n = subst (λ z. z < n) (get_or_from_slice_get level p.0 x.0.1 0 p.1) (all p.0 0 (get-within level p.0 x.0.1 p.1)) in
      subst (λ (z : Key × ℕ). z.1 < n) (sym (get_or_from_slice_get keys k x.0 d x.1)) w
