-- Lists of names and counts, one place after the other.
use Rattle.std.proofs.Common.{◌≡◌, ℕ, ◌+◌, ◌<◌, ◌==◌, Bool, true, false, cond, get_or, List, [], ◌∷◌, ◌++◌, length, map, take, inl, inr, refl, sym, ◌∙◌, ap, subst, arith}
use Rattle.std.specs.Prelude.{Option, Some, None, Result, OnOk, count_by, unwrap_or}
use Rattle.std.specs.List.{slice_get}
use Rattle.std.specs.Ordering.{is_eq, nat_cmp}
use Rattle.std.proofs.lemmas.Bool.{eqb-true}
use Rattle.std.proofs.lemmas.List.{length_push, map_more}
use Rattle.std.proofs.lemmas.List.Sums.{count_by_more_yes, count_by_more_no}
use Rattle.std.proofs.lemmas.Option.{slice_get-get_or}
use Rattle.std.proofs.lemmas.Result.{IfOk-weaker}
use Rattle.yaml_tree.proofs.Lists.{get-more, get-end, get-push}
use Rattle.yaml_store_rank.specs.Forests.{Forests, count, tree, rank}
use Rattle.yaml_tree.specs.declared.node.NodeId.{NodeId}
use Rattle.yaml_pair.specs.Names.{Naming}
use Rattle.yaml_pair.specs.Named.{AllWithin, Name, IsName, AreNamesTo, IsCount, AreCounts}
use Rattle.yaml_pair.proofs.Parts.{some-is, less-or}
use Rattle.yaml_pair.proofs.NameLaws.{nat-eq}

get-last : {X : Type 0} (xs ys : List X) (x : X) (k n : ℕ) → ys ≡ xs ++ (x ∷ []) → length xs ≡ n → k ≡ n → slice_get ys k ≡ Some x
get-last xs ys x k n e l q = ap (slice_get ys) (q ∙ sym l) ∙ ap (λ z. slice_get z (length xs)) e ∙ get-end xs x

module _ (g : Forests) (c : Naming) (items : List NodeId) (places : List (Option ℕ)) where
  pub names-none : AreNamesTo g c items places 0 []
  names-none = record {
    long = refl;
    are = λ k i l e f w. absurd (omega (arith, l));
    only = λ k n e. absurd (cc);
  }

  pub names-push : (i : ℕ) (item : NodeId) (names more : List (Option Name)) (o : Option Name) → AreNamesTo g c items places i names → slice_get items i ≡ Some item → more ≡ names ++ (o ∷ [])
      → (slice_get places i ≡ Some None → item.0 < count g → IsName g c (tree g item.0) o) → ((n : Name) → o ≡ Some n → slice_get places i ≡ Some None) → AreNamesTo g c items places (i + 1) more
  names-push i item names more o h e m named free = record {
    long = omega (arith, ap length m, length_push names o, h.long);
    are = λ k x l f q w. elim (less-or k i l) [
      | inl a ↦ let y = h.are k x a f q w in (y.0, subst (λ z. slice_get z k ≡ Some y.0) (sym m) (get-more names (o ∷ []) k y.0 y.1), y.2)
      | inr a ↦
          let s : item ≡ x = some-is (sym e ∙ ap (slice_get items) (sym a) ∙ f) in
          (o, get-last names more o k i m h.long a, subst (λ z. IsName g c (tree g z.0) o) s (named (ap (slice_get places) (sym a) ∙ q) (subst (λ z. z.0 < count g) (sym s) w)))
    ];
    only = λ k n f. get-push (λ k o. (n : Name) → o ≡ Some n → slice_get places k ≡ Some None) names o (λ k y g n q. h.only k n (g ∙ ap Some q))
        (λ n q. ap (slice_get places) h.long ∙ free n q) k (Some n) (ap (λ z. slice_get z k) (sym m) ∙ f) n refl;
  }

pub counts-push : (ranks : List ℕ) (i : ℕ) (names more : List (Option Name)) (n : Name) → AreCounts ranks names i → more ≡ names ++ (Some n ∷ []) → IsCount ranks i n → AreCounts ranks more (i + 1)
counts-push ranks i names more n h m c = (
  omega (arith, ap length m, length_push names (Some n), h.0),
  λ k l. elim (less-or k i l) [
    | inl a ↦ let y = h.1 k a in (y.0, subst (λ z. slice_get z k ≡ Some (Some y.0)) (sym m) (get-more names (Some n ∷ []) k (Some y.0) y.1), y.2)
    | inr a ↦ (n, get-last names more (Some n) k i m h.0 a, subst (λ z. IsCount ranks z n) (sym a) c)
  ],
)

pub ok-then : {T E : Type 0} (r : Result T E) (P Q : Type 0) → (P → Q) → OnOk r P → OnOk r Q
ok-then r P Q f h = IfOk-weaker r (λ _. P) (λ _. Q) (λ x p. f p) h

-- a number more is counted
pub tally-more : (xs : List ℕ) (i d : ℕ) (old new : ℕ → Option ℕ) (count : ℕ) → i < length xs → ((q : ℕ) → unwrap_or (old q) 0 ≡ count_by (λ x. x == q) (take i xs))
    → ((q : ℕ) → new q ≡ cond (is_eq (nat_cmp (get_or xs i d) q)) (Some (count + 1)) (old q)) → count ≡ unwrap_or (old (get_or xs i d)) 0 → (q : ℕ) → unwrap_or (new q) 0 ≡ count_by (λ x. x == q) (take (i + 1) xs)
tally-more xs i d old new count l inv u c q = by (get_or xs i d == q) refl
  where
    by : (b : Bool) → (get_or xs i d == q) ≡ b → unwrap_or (new q) 0 ≡ count_by (λ x. x == q) (take (i + 1) xs)
    by true e =
        let a : unwrap_or (new q) 0 ≡ count + 1 = ap (λ z. unwrap_or z 0) (u q ∙ ap (λ z. cond z (Some (count + 1)) (old q)) (nat-eq (get_or xs i d) q ∙ e)) in
        let r : get_or xs i d ≡ q = eqb-true (get_or xs i d) q e in
        let n : count ≡ count_by (λ x. x == q) (take i xs) = c ∙ ap (λ z. unwrap_or (old z) 0) r ∙ inv q in
        a ∙ ap (λ z. z + 1) n ∙ sym (count_by_more_yes (λ x. x == q) xs i d l e)
    by false e =
        ap (λ z. unwrap_or z 0) (u q ∙ ap (λ z. cond z (Some (count + 1)) (old q)) (nat-eq (get_or xs i d) q ∙ e)) ∙ inv q ∙ sym (count_by_more_no (λ x. x == q) xs i d l e)

pub ranks-more : (g : Forests) (items : List NodeId) (i : ℕ) (d : NodeId) (old new : List ℕ) (r : ℕ) → AllWithin g items → i < length items → old ≡ map (λ x. rank g x.0) (take i items) → new ≡ old ++ (r ∷ [])
    → ((get_or items i d).0 < count g → r ≡ rank g (get_or items i d).0) → new ≡ map (λ x. rank g x.0) (take (i + 1) items)
ranks-more g items i d old new r w l e n is =
    n ∙ ap (λ z. z ++ (r ∷ [])) e ∙ ap (λ z. map (λ (x : NodeId). rank g x.0) (take i items) ++ (z ∷ [])) (is (w i (get_or items i d) (slice_get-get_or items i d l)))
    ∙ sym (map_more (λ (x : NodeId). rank g x.0) items i d l)
