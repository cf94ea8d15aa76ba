-- Numbers of nodes, as one more node closes.
use Rattle.std.proofs.Common.{◌≡◌, ◌⊎◌, inl, inr, ◌<◌, ◌≤◌, ℕ, List, [], ◌∷◌, ◌++◌, length, refl, sym, ◌∙◌, ap, subst, arith, length-append}
use Rattle.std.specs.Prelude.{Some}
use Rattle.std.specs.List.{slice_get}
use Rattle.yaml_definitions.specs.model.Tree.{Tree}
use Rattle.yaml_tree.specs.Numbers.{Numbers}
use Rattle.yaml_tree.proofs.Lists.{get-more, get-end, push-get, get-some}
use Rattle.yaml_tree.proofs.Numbering.{get-within}

pub no-numbers : Numbers [] [] []
no-numbers = record { long = refl; stands = λ i k t a b. absurd (cc); rises = λ i j k l h a b. absurd (cc); covers = λ k t a. absurd (cc) }

module _ (trees : List Tree) (numbers : List ℕ) (closed : List Tree) (n : Numbers trees numbers closed) where
  -- a number is one of a closed node
  number-below : (i k : ℕ) → slice_get numbers i ≡ Some k → k < length closed
  number-below i k e =
      let t = get-some trees i (omega (arith, get-within numbers i k e, n.long)) in
      get-within closed k t.0 (n.stands i k t.0 e t.1)

  -- a node closes that one of those before it stands for
  pub closes-again : (i : ℕ) (t : Tree) → slice_get trees i ≡ Some t → Numbers trees numbers (closed ++ (t ∷ []))
  closes-again i t is = record {
    long = n.long;
    stands = λ j k u a b. get-more closed (t ∷ []) k u (n.stands j k u a b);
    rises = n.rises;
    covers = λ k u a. covered k u (push-get closed t u k a);
  }
    where
      covered : (k : ℕ) (u : Tree) → (slice_get closed k ≡ Some u) ⊎ ((k ≡ length closed) × (u ≡ t)) → (j : ℕ) × (l : ℕ) × (slice_get trees j ≡ Some u) × (slice_get numbers j ≡ Some l) × (l ≤ k)
      covered k u (inl a) = n.covers k u a
      covered k u (inr a) =
          let m = get-some numbers i (omega (arith, get-within trees i t is, n.long)) in
          let low = number-below i m.0 m.1 in
          (i, m.0, is ∙ ap Some (sym a.1), m.1, (let e = a.0 in omega arith))

  -- a node closes for which a new one stands
  pub closes-first : (t : Tree) → Numbers (trees ++ (t ∷ [])) (numbers ++ (length closed ∷ [])) (closed ++ (t ∷ []))
  closes-first t = record {
    long = omega (arith, n.long, length-append trees (t ∷ []), length-append numbers (length closed ∷ []));
    stands = λ j k u a b. standing j k u (push-get numbers (length closed) k j a) (push-get trees t u j b);
    rises = λ i j k l h a b. rising i j k l h (push-get numbers (length closed) k i a) (push-get numbers (length closed) l j b);
    covers = λ k u a. covered k u (push-get closed t u k a);
  }
    where
      standing : (j k : ℕ) (u : Tree) → (slice_get numbers j ≡ Some k) ⊎ ((j ≡ length numbers) × (k ≡ length closed)) → (slice_get trees j ≡ Some u) ⊎ ((j ≡ length trees) × (u ≡ t)) → slice_get (closed ++ (t ∷ [])) k ≡ Some u
      standing j k u (inl a) (inl b) = get-more closed (t ∷ []) k u (n.stands j k u a b)
      standing j k u (inl a) (inr b) = let e = b.0 in absurd (omega (arith, get-within numbers j k a, n.long))
      standing j k u (inr a) (inl b) = let e = a.0 in absurd (omega (arith, get-within trees j u b, n.long))
      standing j k u (inr a) (inr b) = ap (slice_get (closed ++ (t ∷ []))) a.1 ∙ get-end closed t ∙ ap Some (sym b.1)

      rising : (i j k l : ℕ) → i < j → (slice_get numbers i ≡ Some k) ⊎ ((i ≡ length numbers) × (k ≡ length closed)) → (slice_get numbers j ≡ Some l) ⊎ ((j ≡ length numbers) × (l ≡ length closed)) → k < l
      rising i j k l h (inl a) (inl b) = n.rises i j k l h a b
      rising i j k l h (inl a) (inr b) = let e = b.1 in omega (arith, number-below i k a)
      rising i j k l h (inr a) (inl b) = let e = a.0 in absurd (omega (arith, get-within numbers j l b))
      rising i j k l h (inr a) (inr b) = let e = a.0 in let f = b.0 in absurd (omega arith)

      covered : (k : ℕ) (u : Tree) → (slice_get closed k ≡ Some u) ⊎ ((k ≡ length closed) × (u ≡ t)) → (j : ℕ) × (l : ℕ) × (slice_get (trees ++ (t ∷ [])) j ≡ Some u) × (slice_get (numbers ++ (length closed ∷ [])) j ≡ Some l) × (l ≤ k)
      covered k u (inl a) = let c = n.covers k u a in (c.0, c.1, get-more trees (t ∷ []) c.0 u c.2, get-more numbers (length closed ∷ []) c.0 c.1 c.3, c.4)
      covered k u (inr a) = (
        length trees,
        length closed,
        get-end trees t ∙ ap Some (sym a.1),
        subst (λ j. slice_get (numbers ++ (length closed ∷ [])) j ≡ Some (length closed)) n.long (get-end numbers (length closed)),
        (let e = a.0 in omega arith),
      )
