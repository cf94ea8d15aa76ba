-- Plain scalars.
use Rattle.std.proofs.Common.{◌≡◌, ◌≢◌, ℕ, zero, suc, ◌+◌, ◌-◌, ◌<◌, ◌≤◌, ◌⊎◌, inl, inr, List, [], ◌∷◌, ◌++◌, Some, None, true, false, refl, sym, ◌∙◌, ap, subst, arith, append_assoc}
use Rattle.std.specs.Prelude.{slice_get, slice_range}
use Rattle.yaml_definitions.specs.grammar.Rules.{◌⨾◌, any, Any, done, then, Stands, run, where_both}
use Rattle.yaml_scalar.specs.Chains.{taken_at, folds, NoBreaks, NoPlainLine, breaks, gap, plain_inner, plain_head, plain_sign, Later, line_more, fold_more, plain_more, plain_chain, GoesOnBelow}
use Rattle.yaml_definitions.specs.grammar.Characters.{is_white, is_ns, is_nb, is_break, is_indicator}
use Rattle.yaml_definitions.specs.grammar.Separation.{DocumentMark, Unmarked}
use Rattle.yaml_definitions.specs.grammar.FlowScalars.{is_flow, plain_safe, PlainFirst}
use Rattle.yaml_text.specs.LeafAnswer.{Unread}
use Rattle.yaml_text.specs.LeafAnswer.{Furthest}
use Rattle.yaml_definitions.specs.grammar.Separation.{Ctx, flow_in}
use Rattle.yaml_text.proofs.PlaceLemmas.{slice_none, slice_one, slice_snoc, slice_join}
use Rattle.std.proofs.lemmas.Bool.{cases_eq}
use Rattle.yaml_scalar.proofs.AnyLemmas.{Same, Onward, any_none, any_snoc, any_onward, any_append, any_weaker, chain_furthest}
use Rattle.yaml_text.proofs.Runs.{same_char, run_same, no_stand, no_stand_end, run_none}
use Rattle.yaml_scalar.proofs.GapLemmas.{gap_then_same, folds_onward, folds_through, breaks_same, folds_is, gap_onward, blank_gap, unmarked_cuts, BeginsNs}
use Rattle.yaml_text.proofs.Breaks.{Ns, NoWhite, ns_stops, blank_white_run, unmarked_one, unmarked_join, unmarked_blank, AfterNs, after_ns, after_white, mark_starts}

-- what the classes of characters say of taken another
inner_ns : (c : Ctx) (x : ℕ) → plain_inner c x ≡ true → is_ns x ≡ true
unfolding plain_inner plain_safe
inner_ns c x p = grind (arith, p)

inner_colon : (c : Ctx) → plain_inner c 58 ≡ true → ⊥
unfolding plain_inner
inner_colon c p = grind (arith, p)

inner_hash : (c : Ctx) → plain_inner c 35 ≡ true → ⊥
unfolding plain_inner
inner_hash c p = grind (arith, p)

colon_ns : is_ns 58 ≡ true
unfolding is_ns is_nb is_break is_white
colon_ns = refl

pub hash_ns : is_ns 35 ≡ true
unfolding is_ns is_nb is_break is_white
hash_ns = refl

hash_no_white : is_white 35 ≡ false
unfolding is_white
hash_no_white = refl

head_ns : (x : ℕ) → plain_head x ≡ true → is_ns x ≡ true
unfolding plain_head
head_ns x p = grind (arith, p)

sign_ns : (x : ℕ) → plain_sign x ≡ true → is_ns x ≡ true
unfolding plain_sign is_ns is_nb is_break is_white
sign_ns x p = grind (arith, p)

head_no_sign : (x : ℕ) → plain_head x ≡ true → plain_sign x ≡ true → ⊥
unfolding plain_sign plain_head is_indicator
head_no_sign x p q = grind (arith, p, q)

-- what is plain in a flow collection is plain
pub inner_any : (c : Ctx) (x : ℕ) → plain_inner flow_in x ≡ true → plain_inner c x ≡ true
unfolding plain_inner plain_safe is_flow
inner_any c x p = grind (arith, p)

module _ (cs : List ℕ) where
  pub later_colon : (c : Ctx) (i j : ℕ) → slice_get cs i ≡ Some 58 → j ≡ i + 1 → Stands cs (plain_safe c) j → Later cs c i
  unfolding Later
  later_colon c i j h e s = inr (h, subst (Stands cs (plain_safe c)) e s)

  pub later_inner : (c : Ctx) (i x : ℕ) → slice_get cs i ≡ Some x → plain_inner c x ≡ true → Later cs c i
  unfolding Later
  later_inner c i x h p = inl (x, h, p)

  pub no_later_colon : (c : Ctx) (i j : ℕ) → slice_get cs i ≡ Some 58 → j ≡ i + 1 → (Stands cs (plain_safe c) j → ⊥) → Later cs c i → ⊥
  unfolding Later
  no_later_colon c i j h e n (inl (x, g, p)) = inner_colon c (ap (plain_inner c) (same_char cs i 58 x h g) ∙ p)
  no_later_colon c i j h e n (inr (g, s)) = n (subst (Stands cs (plain_safe c)) (sym e) s)

  pub no_later_inner : (c : Ctx) (i x : ℕ) → slice_get cs i ≡ Some x → x ≢ 58 → plain_inner c x ≡ false → Later cs c i → ⊥
  unfolding Later
  no_later_inner c i x h n p (inl s) = no_stand cs (plain_inner c) i x h p s
  no_later_inner c i x h n p (inr (g, s)) = n (same_char cs i x 58 h g)

  pub first_sign : (c : Ctx) (i j x : ℕ) → slice_get cs i ≡ Some x → plain_sign x ≡ true → j ≡ i + 1 → Stands cs (plain_safe c) j → PlainFirst cs c i
  unfolding PlainFirst plain_head plain_sign
  first_sign c i j x h p e s = inr ((x, h, p), subst (Stands cs (plain_safe c)) e s)

  pub first_head : (c : Ctx) (i x : ℕ) → slice_get cs i ≡ Some x → plain_head x ≡ true → PlainFirst cs c i
  unfolding PlainFirst plain_head plain_sign
  first_head c i x h p = inl (x, h, p)

  pub no_first_sign : (c : Ctx) (i j x : ℕ) → slice_get cs i ≡ Some x → plain_sign x ≡ true → j ≡ i + 1 → (Stands cs (plain_safe c) j → ⊥) → PlainFirst cs c i → ⊥
  unfolding PlainFirst plain_head plain_sign
  no_first_sign c i j x h p e n (inl (y, g, q)) = head_no_sign y q (ap plain_sign (same_char cs i y x g h) ∙ p)
  no_first_sign c i j x h p e n (inr (g, s)) = n (subst (Stands cs (plain_safe c)) (sym e) s)

  pub no_first_head : (c : Ctx) (i x : ℕ) → slice_get cs i ≡ Some x → plain_sign x ≡ false → plain_head x ≡ false → PlainFirst cs c i → ⊥
  unfolding PlainFirst plain_head plain_sign
  no_first_head c i x h p q (inl s) = no_stand cs plain_head i x h q s
  no_first_head c i x h p q (inr (s, t)) = no_stand cs plain_sign i x h p s

  pub later_ns : (c : Ctx) (i : ℕ) → Later cs c i → Ns cs i
  unfolding Later
  later_ns c i (inl (x, h, p)) = (x, h, inner_ns c x p)
  later_ns c i (inr (h, s)) = (58, h, colon_ns)

  pub first_ns : (c : Ctx) (i : ℕ) → PlainFirst cs c i → Ns cs i
  unfolding PlainFirst plain_head plain_sign
  first_ns c i (inl (x, h, p)) = (x, h, head_ns x p)
  first_ns c i (inr ((x, h, p), s)) = (x, h, sign_ns x p)

  pub later_no_hash : (c : Ctx) (i : ℕ) → Later cs c i → slice_get cs i ≡ Some 35 → ⊥
  unfolding Later
  later_no_hash c i (inl (x, h, p)) g = inner_hash c (ap (plain_inner c) (same_char cs i 35 x g h) ∙ p)
  later_no_hash c i (inr (h, s)) g = let e : 58 ≡ 35 = same_char cs i 58 35 h g in omega (arith, e)

  -- ---- on taken line

  pub line_hash : (c : Ctx) (i k j : ℕ) → slice_get cs i ≡ Some 35 → k ≡ i → j ≡ i + 1 → line_more cs c k j (slice_range cs k j)
  unfolding line_more
  line_hash c i k j h e f =
      let g : slice_get cs k ≡ Some 35 = subst (λ x. slice_get cs x ≡ Some 35) (sym e) h in
      inl (g, 35, g, omega (arith, e, f), slice_one cs k j 35 g (omega (arith, e, f)))

  pub line_later : (c : Ctx) (k i j x : ℕ) → run cs is_white k i → slice_get cs i ≡ Some x → Later cs c i → j ≡ i + 1 → line_more cs c k j (slice_range cs k j)
  unfolding line_more
  line_later c k i j x r h l e = inr (i, slice_range cs k i, x ∷ [], (r, refl), (l, x, h, e, refl), slice_snoc cs k i j x r.0 h e)

  inner_steps : (c : Ctx) (n k j : ℕ) → j ≡ k + n → run cs (plain_inner c) k j → any (line_more cs c) k j (slice_range cs k j)
  inner_steps c zero k j e r =
      subst (λ m. any (line_more cs c) k m (slice_range cs k m)) (let z : k ≡ j = omega (arith, e) in z)
      (subst (any (line_more cs c) k k) (sym (slice_none cs k)) any_none)
  inner_steps c (suc n) k j e r =
      let s = r.1 (k + n) (omega arith) (omega (arith, e)) in
      let before = inner_steps c n k (k + n) refl (omega arith, λ x a b. r.1 x a (omega (arith, b, e))) in
      let one = line_later c (k + n) (k + n) j s.0 (run_none cs is_white (k + n)) s.1 (later_inner c (k + n) s.0 s.1 s.2) (omega (arith, e)) in
      subst (any (line_more cs c) k j) (sym (slice_join cs k (k + n) j (omega arith) (omega (arith, e)))) (any_snoc before one)

  -- characters that need no look at their neighbours
  pub line_inner : (c : Ctx) (k j : ℕ) → run cs (plain_inner c) k j → any (line_more cs c) k j (slice_range cs k j)
  line_inner c k j r = inner_steps c (j - k) k j (let h : k ≤ j = r.0 in omega (arith, h)) r

  -- nothing of the scalar stands after the whites, and a # only after taken
  pub line_stop : (c : Ctx) (k i : ℕ) → run cs is_white k i → NoWhite cs i → (Later cs c i → ⊥) → (k ≡ i → slice_get cs i ≡ Some 35 → ⊥) → Unread (line_more cs c) k
  unfolding line_more
  line_stop c k i r stop none bare j xs (inl (h, x, g, e, f)) =
      let at : k ≡ i = run_same cs is_white k k i (run_none cs is_white k) r (no_stand cs is_white k 35 h hash_no_white) stop in
      bare at (subst (λ x. slice_get cs x ≡ Some 35) at h)
  line_stop c k i r stop none bare j xs (inr (m, us, vs, (s, e), (l, x, g, a, b), f)) =
      none (subst (Later cs c) (run_same cs is_white k m i s r (ns_stops cs m (later_ns c m l)) stop) l)

  pub hash_stop : (c : Ctx) (k i : ℕ) → run cs is_white k i → slice_get cs i ≡ Some 35 → k < i → Unread (line_more cs c) k
  hash_stop c k i r h l = line_stop c k i r (no_stand cs is_white i 35 h hash_no_white) (λ t. later_no_hash c i t h) (λ e. absurd (omega (arith, e, l)))

  pub no_later_end : (c : Ctx) (i : ℕ) → slice_get cs i ≡ None → Later cs c i → ⊥
  no_later_end c i h l = no_stand_end cs is_ns i h (later_ns c i l)

  pub line_onward : (c : Ctx) → Onward (line_more cs c)
  unfolding line_more
  line_onward c i j xs (inl (h, x, g, e, f)) = omega (arith, e)
  line_onward c i j xs (inr (m, us, vs, ((a, r), y), (l, x, g, e, f), z)) = omega (arith, a, e)

  -- ---- over a fold

  pub no_more_line : (n : ℕ) (c : Ctx) (i k : ℕ) → run cs is_white i k → NoWhite cs k → NoPlainLine cs n c k → Unread (fold_more cs n c) i
  unfolding fold_more
  no_more_line n c i k r stop none j xs (u, (m, us, vs, p, (t, x, g, e, d), h)) =
      let a : i < m = folds_onward cs n c i m us p in
      let q = folds_through cs n c i k r stop m us p in
      none m q.0 q.1 t (u m (omega (arith, a)) (omega (arith, e)))

  pub no_text_line : (n : ℕ) (c : Ctx) (i : ℕ) → NoBreaks cs n c i → NoPlainLine cs n c i
  no_text_line n c i none j xs p l m = none j xs p (later_ns c j l) m

  pub no_later_line : (n : ℕ) (c : Ctx) (i o : ℕ) (ws : List ℕ) → breaks cs n c i o ws → Ns cs o → (Later cs c o → ⊥) → NoPlainLine cs n c i
  no_later_line n c i o ws q s none j xs p l m =
      none (subst (Later cs c) (breaks_same cs n c i j o xs ws p (later_ns c j l) q s).0 l)

  -- ---- the whole scalar

  pub one_same : (P : ℕ → Type 0) → Same (taken_at cs P)
  one_same P i j k xs ys (p, x, h, e, f) (q, y, g, a, b) = (e ∙ sym a, f ∙ ap (λ v. v ∷ []) (same_char cs i x y h g) ∙ sym b)

  pub one_onward : (P : ℕ → Type 0) → Onward (taken_at cs P)
  one_onward P i j xs (p, x, h, e, f) = omega (arith, e)

  later_begins : (c : Ctx) → BeginsNs cs (taken_at cs (Later cs c))
  later_begins c i j xs p = later_ns c i p.0

  -- a gap and a later character do not begin with a #
  hash_apart : (n : ℕ) (c : Ctx) (i j : ℕ) (xs : List ℕ) → slice_get cs i ≡ Some 35 → (gap cs n c ⨾ taken_at cs (Later cs c)) i j xs → ⊥
  hash_apart n c i j xs h (m, us, vs, g, (l, x, t, e, f), d) =
      elim (cases_eq m i) [
        | inl q ↦ later_no_hash c m l (subst (λ y. slice_get cs y ≡ Some 35) (sym q) h)
        | inr q ↦ (let a : i ≤ m = gap_onward cs n c i m us g in
            blank_gap cs n c i m us g i (omega arith) (omega (arith, a, q)) (35, h, hash_ns))
      ]

  pub more_same : (n : ℕ) (c : Ctx) → Same (plain_more cs n c)
  unfolding plain_more
  more_same n c i j k xs ys (inl p) (inl q) = one_same (λ i. slice_get cs i ≡ Some 35) i j k xs ys p q
  more_same n c i j k xs ys (inl p) (inr q) = absurd (hash_apart n c i k ys p.0 q)
  more_same n c i j k xs ys (inr p) (inl q) = absurd (hash_apart n c i j xs q.0 p)
  more_same n c i j k xs ys (inr p) (inr q) =
      gap_then_same cs n c (taken_at cs (Later cs c)) (later_begins c) (one_same (Later cs c)) i j k xs ys p q

  pub more_onward : (n : ℕ) (c : Ctx) → Onward (plain_more cs n c)
  unfolding plain_more
  more_onward n c i j xs (inl (h, x, g, e, f)) = omega (arith, e)
  more_onward n c i j xs (inr (m, us, vs, p, (l, x, g, e, f), d)) = let a : i ≤ m = gap_onward cs n c i m us p in omega (arith, a, e)

  pub line_is_more : (n : ℕ) (c : Ctx) (i j : ℕ) (xs : List ℕ) → line_more cs c i j xs → plain_more cs n c i j xs
  unfolding line_more plain_more gap
  line_is_more n c i j xs (inl p) = inl p
  line_is_more n c i j xs (inr (m, us, vs, p, q, d)) = inr (m, us, vs, inl p, q, d)

  -- neither on the line nor after a fold
  no_more : (n : ℕ) (c : Ctx) (i : ℕ) → Unread (line_more cs c) i → Unread (fold_more cs n c) i → Unread (where_both (Unmarked cs) (plain_more cs n c)) i
  unfolding line_more fold_more plain_more gap
  no_more n c i p q j xs (u, inl r) = p j xs (inl r)
  no_more n c i p q j xs (u, inr (m, us, vs, inl s, t, d)) = p j xs (inr (m, us, vs, s, t, d))
  no_more n c i p q j xs (u, inr (m, us, vs, inr s, t, d)) = q j xs (u, (m, us, vs, s, t, d))

  line_after : (c : Ctx) (i j : ℕ) (xs : List ℕ) → line_more cs c i j xs → AfterNs cs i → Unmarked cs i j × AfterNs cs j
  unfolding line_more
  line_after c i j xs (inl (h, x, g, e, f)) a = (unmarked_one cs i j e (after_ns cs i a), (i, e, (35, h, hash_ns)))
  line_after c i j xs (inr (m, us, vs, (r, y), (l, x, g, e, f), d)) a =
      (unmarked_join cs i m j (unmarked_blank cs i m (blank_white_run cs i m r)) (unmarked_one cs m j e (here (cases_eq m i))), (m, e, later_ns c m l))
    where
      here : (m ≡ i) ⊎ (m ≡ i → ⊥) → DocumentMark cs m → ⊥
      here (inl q) = subst (λ y. DocumentMark cs y → ⊥) (sym q) (after_ns cs i a)
      here (inr q) = λ t. after_white cs i m r (let z : i ≤ m = r.0 in omega (arith, z, q)) (mark_starts cs m t)

  line_ends : (c : Ctx) {j i : ℕ} {xs : List ℕ} → Any (line_more cs c) j i xs → AfterNs cs i → Unmarked cs i j × AfterNs cs j
  line_ends c {j} {i} (done e f) a = ((λ k x y m. absurd (omega (arith, x, y, e))), subst (AfterNs cs) (sym e) a)
  line_ends c {j} {i} (then m ys zs r rest e) a =
      let b = line_after c i m ys r a in
      let d = line_ends c rest b.1 in
      (unmarked_join cs i m j b.0 d.0, d.1)

  -- what has been read of a plain scalar
  pub record Sofar (n : ℕ) (c : Ctx) (i j : ℕ) (xs : List ℕ) : Type 0 where
    pub is : (taken_at cs (PlainFirst cs c) ⨾ any (plain_more cs n c)) i j xs
    pub unmarked : Unmarked cs i j
    pub after : AfterNs cs j

  pub goes_below : (n : ℕ) (c : Ctx) (i k e l j : ℕ) (xs us : List ℕ) → k ≡ i + 1 → any (line_more cs c) k e xs → run cs is_white e l → breaks cs n c l j us → Later cs c j → GoesOnBelow cs n c i
  goes_below n c i k e l j xs us at line whites broken later =
      (e, j, xs, _, subst (λ v. any (line_more cs c) v e xs) at line, folds_is cs n c e l j us whites broken, later)

  pub sofar_start : (n : ℕ) (c : Ctx) (i k j x : ℕ) → PlainFirst cs c i → slice_get cs i ≡ Some x → (DocumentMark cs i → ⊥) → k ≡ i + 1 → any (line_more cs c) k j (slice_range cs k j) →
      Sofar n c i j (slice_range cs i j)
  sofar_start n c i k j x p h u e line =
      let a : AfterNs cs k = (i, e, first_ns c i p) in
      let b = line_ends c line a in
      let le : k ≤ j = any_onward (line_onward c) line in
      record {
        is = (
          k,
          x ∷ [],
          slice_range cs k j,
          (p, x, h, e, refl),
          any_weaker (line_is_more n c) line,
          slice_join cs i k j (omega (arith, e)) le ∙ ap (λ v. v ++ slice_range cs k j) (slice_one cs i k x h e),
        );
        unmarked = unmarked_join cs i k j (unmarked_one cs i k e u) b.0;
        after = b.1;
      }

  pub sofar_line : (n : ℕ) (c : Ctx) (i j s t k x : ℕ) (xs f : List ℕ) → Sofar n c i j xs → folds cs n c j s f → Later cs c s → slice_get cs s ≡ Some x → (DocumentMark cs s → ⊥) → t ≡ s + 1 →
      any (line_more cs c) t k (slice_range cs t k) → Sofar n c i k ((xs ++ f) ++ slice_range cs s k)
  unfolding plain_more gap
  sofar_line n c i j s t k x xs f so g l h u e line =
      let b = line_ends c line (s, e, later_ns c s l) in
      let le : t ≤ k = any_onward (line_onward c) line in
      let first : plain_more cs n c j t (f ++ x ∷ []) = inr (s, f, x ∷ [], inr g, (l, x, h, e, refl), refl) in
      let rest : any (plain_more cs n c) j k ((f ++ x ∷ []) ++ slice_range cs t k) = then t (f ++ x ∷ []) (slice_range cs t k) first (any_weaker (line_is_more n c) line) refl in
      let p = so.is in
      let text : slice_range cs s k ≡ x ∷ [] ++ slice_range cs t k = slice_join cs s t k (omega (arith, e)) le ∙ ap (λ v. v ++ slice_range cs t k) (slice_one cs s t x h e) in
      record {
        is = (
          p.0,
          p.1,
          p.2 ++ ((f ++ x ∷ []) ++ slice_range cs t k),
          p.3,
          any_append p.4 rest,
          ap (λ v. (v ++ f) ++ slice_range cs s k) p.5 ∙ ap (λ v. ((p.1 ++ p.2) ++ f) ++ v) text ∙ regroup p.1 p.2 f (x ∷ []) (slice_range cs t k),
        );
        unmarked = unmarked_join cs i j k so.unmarked (unmarked_join cs j s k (unmarked_blank cs j s (blank_gap cs n c j s f (inr g))) (unmarked_join cs s t k (unmarked_one cs s t e u) b.0));
        after = b.1;
      }
    where
      regroup : (a b c d e : List ℕ) → ((a ++ b) ++ c) ++ (d ++ e) ≡ a ++ (b ++ ((c ++ d) ++ e))
      regroup a b c d e = simp append_assoc

  pub sofar_end : (n : ℕ) (c : Ctx) (i j : ℕ) (xs : List ℕ) → Sofar n c i j xs → Unread (line_more cs c) j → Unread (fold_more cs n c) j → Furthest (plain_chain cs n c) i j xs
  unfolding plain_chain
  sofar_end n c i j xs so p q = record {
    is = (so.unmarked, so.is);
    furthest = λ k ys r. (both k ys r).0;
    only = λ ys r. (both j ys r).1 refl;
  }
    where
      both : (k : ℕ) (ys : List ℕ) → where_both (Unmarked cs) (taken_at cs (PlainFirst cs c) ⨾ any (plain_more cs n c)) i k ys → (k ≤ j) × (k ≡ j → ys ≡ xs)
      both k ys (u, (m, us, vs, f, r, e)) =
          let s = so.is in
          let same = one_same (PlainFirst cs c) i m s.0 us s.1 f s.3 in
          let r2 : any (plain_more cs n c) s.0 k vs = subst (λ x. any (plain_more cs n c) x k vs) same.0 r in
          let a : s.0 ≤ k = any_onward (more_onward n c) r2 in
          let at : i < s.0 = one_onward (PlainFirst cs c) i s.0 s.1 s.3 in
          let g = chain_furthest (more_same n c) (more_onward n c) (unmarked_cuts cs) s.4 (no_more n c j p q) r2 ((unmarked_cuts cs).back i s.0 k (omega (arith, at)) a u) in
          (g.0, λ h. e ∙ ap (λ v. v ++ vs) same.1 ∙ ap (λ v. s.1 ++ v) (g.1 h) ∙ sym s.5)

  pub no_plain_first : (n : ℕ) (c : Ctx) (i : ℕ) → (PlainFirst cs c i → ⊥) → Unread (plain_chain cs n c) i
  unfolding plain_chain
  no_plain_first n c i none j xs (u, (m, us, vs, f, r, d)) = none f.0

  pub no_plain_end : (n : ℕ) (c : Ctx) (i : ℕ) → slice_get cs i ≡ None → Unread (plain_chain cs n c) i
  no_plain_end n c i h = no_plain_first n c i (λ f. no_stand_end cs is_ns i h (first_ns c i f))

  pub no_plain_mark : (n : ℕ) (c : Ctx) (i : ℕ) → DocumentMark cs i → Unread (plain_chain cs n c) i
  unfolding plain_chain
  no_plain_mark n c i t j xs (u, (m, us, vs, (p, x, h, e, f), r, d)) =
      let a : m ≤ j = any_onward (more_onward n c) r in
      u i (omega arith) (omega (arith, a, e)) t
