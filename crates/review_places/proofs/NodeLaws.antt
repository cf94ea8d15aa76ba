-- Nodes, as one more event comes.
use Rattle.std.proofs.Common.{◌≡◌, ◌⊎◌, inl, inr, ◌<◌, ◌≤◌, ◌≢◌, ℕ, ◌+◌, List, [], ◌∷◌, ◌++◌, length, refl, sym, ap, subst, arith, append_assoc, append-nil}
use Rattle.std.specs.Prelude.{Some}
use Rattle.std.specs.List.{slice_get}
use Rattle.review_places.specs.declared.trace.Shape.{Shape}
use Rattle.review_places.specs.declared.trace.Shape.TheVariants.{Scalar, Alias, Opens, Closes, Other}
use Rattle.review_places.specs.Nodes.{Nodes, nothing, other, alias, scalar, collection, Open, ground, inside}
use Rattle.yaml_tree.proofs.Lists.{push-get}
use Rattle.review_places.proofs.Lists.{get-of, ends-same, not-empty}

module _ (s : List Shape) where
  -- ---- one more event

  grown : (j k : ℕ) (a : List ℕ) (b : List (ℕ × List ℕ)) → ((i : ℕ) (ns : List ℕ) (ds : List (ℕ × List ℕ)) → Nodes s i j ns ds → Nodes s i k (ns ++ a) (ds ++ b))
      → (outer : List (ℕ × ℕ)) (ns : List ℕ) (ds : List (ℕ × List ℕ)) → Open s j outer ns ds → Open s k outer (ns ++ a) (ds ++ b)
  grown j k a b f _ _ _ (ground {ns} {ds} n) = ground (f 0 ns ds n)
  grown j k a b f _ _ _ (inside {i} {outer} {ns} {ps} {ds} {es} t o n) =
      let g : Open s k (outer ++ ((i, length ns) ∷ [])) (ns ++ (ps ++ a)) (ds ++ (es ++ b)) = inside t o (f (i + 1) ps es n) in
      let h : Open s k (outer ++ ((i, length ns) ∷ [])) (ns ++ (ps ++ a)) ((ds ++ es) ++ b) = subst (λ z. Open s k (outer ++ ((i, length ns) ∷ [])) (ns ++ (ps ++ a)) z) (sym (append_assoc ds es b)) g in
      subst (λ z. Open s k (outer ++ ((i, length ns) ∷ [])) z ((ds ++ es) ++ b)) (sym (append_assoc ns ps a)) h

  pub open-other : (j : ℕ) (outer : List (ℕ × ℕ)) (ns : List ℕ) (ds : List (ℕ × List ℕ)) → slice_get s j ≡ Some Other → Open s j outer ns ds → Open s (j + 1) outer ns ds
  open-other j outer ns ds e t =
      let g : Open s (j + 1) outer (ns ++ []) (ds ++ []) = grown j (j + 1) [] [] (λ i ms fs n. subst (λ z. Nodes s i (j + 1) z (fs ++ [])) (sym (append-nil ms)) (subst (λ z. Nodes s i (j + 1) ms z) (sym (append-nil fs)) (other n e))) outer ns ds t in
      subst (λ z. Open s (j + 1) outer z ds) (append-nil ns) (subst (λ z. Open s (j + 1) outer (ns ++ []) z) (append-nil ds) g)

  pub open-alias : (j : ℕ) (outer : List (ℕ × ℕ)) (ns : List ℕ) (ds : List (ℕ × List ℕ)) → slice_get s j ≡ Some Alias → Open s j outer ns ds → Open s (j + 1) outer (ns ++ (j ∷ [])) ds
  open-alias j outer ns ds e t =
      let g : Open s (j + 1) outer (ns ++ (j ∷ [])) (ds ++ []) = grown j (j + 1) (j ∷ []) [] (λ i ms fs n. subst (λ z. Nodes s i (j + 1) (ms ++ (j ∷ [])) z) (sym (append-nil fs)) (alias n e)) outer ns ds t in
      subst (λ z. Open s (j + 1) outer (ns ++ (j ∷ [])) z) (append-nil ds) g

  pub open-scalar : (j : ℕ) (outer : List (ℕ × ℕ)) (ns : List ℕ) (ds : List (ℕ × List ℕ)) → slice_get s j ≡ Some Scalar → Open s j outer ns ds → Open s (j + 1) outer (ns ++ (j ∷ [])) (ds ++ ((j, []) ∷ []))
  open-scalar j outer ns ds e t = grown j (j + 1) (j ∷ []) ((j, []) ∷ []) (λ i ms fs n. scalar n e) outer ns ds t

  pub open-opens : (j : ℕ) (outer : List (ℕ × ℕ)) (ns : List ℕ) (ds : List (ℕ × List ℕ)) → slice_get s j ≡ Some Opens → Open s j outer ns ds → Open s (j + 1) (outer ++ ((j, length ns) ∷ [])) ns ds
  open-opens j outer ns ds e t =
      let g : Open s (j + 1) (outer ++ ((j, length ns) ∷ [])) (ns ++ []) (ds ++ []) = inside t e nothing in
      subst (λ z. Open s (j + 1) (outer ++ ((j, length ns) ∷ [])) z ds) (append-nil ns) (subst (λ z. Open s (j + 1) (outer ++ ((j, length ns) ∷ [])) (ns ++ []) z) (append-nil ds) g)

  -- ---- places of nodes

  pub nodes-within : (i j : ℕ) (ns : List ℕ) (ds : List (ℕ × List ℕ)) → Nodes s i j ns ds → (i ≤ j) × ((k e : ℕ) (ps : List ℕ) → slice_get ds k ≡ Some (e, ps) → (i ≤ e) × (e < j))
  nodes-within _ _ _ _ (nothing {i}) = (omega arith, λ k e ps h. absurd (cc))
  nodes-within _ _ _ _ (other {i} {j} {ns} {ds} n g) =
      let w = nodes-within i j ns ds n in
      let l : i ≤ j = w.0 in
      (omega arith, λ k e ps h. let v = w.1 k e ps h in (v.0, (let b = v.1 in omega arith)))
  nodes-within _ _ _ _ (alias {i} {j} {ns} {ds} n g) =
      let w = nodes-within i j ns ds n in
      let l : i ≤ j = w.0 in
      (omega arith, λ k e ps h. let v = w.1 k e ps h in (v.0, (let b = v.1 in omega arith)))
  nodes-within _ _ _ _ (scalar {i} {j} {ns} {ds} n g) =
      let w = nodes-within i j ns ds n in
      let l : i ≤ j = w.0 in
      (omega arith, λ k e ps h. by l w.1 k e ps (push-get ds (j, []) (e, ps) k h))
    where
      by : i ≤ j → ((k e : ℕ) (ps : List ℕ) → slice_get ds k ≡ Some (e, ps) → (i ≤ e) × (e < j)) → (k e : ℕ) (ps : List ℕ) → (slice_get ds k ≡ Some (e, ps)) ⊎ ((k ≡ length ds) × (◌≡◌ {A = ℕ × List ℕ} (e, ps) (j, []))) → (i ≤ e) × (e < j + 1)
      by l w k e ps (inl h) = let v = w k e ps h in (v.0, (let b = v.1 in omega arith))
      by l w k e ps (inr h) = let q : e ≡ j = ap (λ z. z.0) h.1 in (omega arith, omega arith)
  nodes-within _ _ _ _ (collection {i} {j} {k} {ns} {ps} {ds} {es} n o m c) =
      let w = nodes-within i j ns ds n in
      let v = nodes-within (j + 1) k ps es m in
      let l : i ≤ j = w.0 in
      let r : j + 1 ≤ k = v.0 in
      (omega arith, λ x e qs h. first l r w.1 v.1 x e qs (get-of ds (es ++ ((j, ps) ∷ [])) x (e, qs) h))
    where
      last : i ≤ j → j + 1 ≤ k → ((x e : ℕ) (qs : List ℕ) → slice_get es x ≡ Some (e, qs) → (j + 1 ≤ e) × (e < k)) → (x e : ℕ) (qs : List ℕ) → (slice_get es x ≡ Some (e, qs)) ⊎ ((x ≡ length es) × (◌≡◌ {A = ℕ × List ℕ} (e, qs) (j, ps))) → (i ≤ e) × (e < k + 1)
      last l r v x e qs (inl h) = let b = v x e qs h in (omega arith, omega arith)
      last l r v x e qs (inr h) = let q : e ≡ j = ap (λ z. z.0) h.1 in (omega arith, omega arith)

      first : i ≤ j → j + 1 ≤ k → ((x e : ℕ) (qs : List ℕ) → slice_get ds x ≡ Some (e, qs) → (i ≤ e) × (e < j)) → ((x e : ℕ) (qs : List ℕ) → slice_get es x ≡ Some (e, qs) → (j + 1 ≤ e) × (e < k))
          → (x e : ℕ) (qs : List ℕ) → (slice_get ds x ≡ Some (e, qs)) ⊎ ((y : ℕ) × (slice_get (es ++ ((j, ps) ∷ [])) y ≡ Some (e, qs))) → (i ≤ e) × (e < k + 1)
      first l r w v x e qs (inl h) = let b = w x e qs h in (omega arith, omega arith)
      first l r w v x e qs (inr h) = last l r v h.0 e qs (push-get es (j, ps) (e, qs) h.0 h.1)

  pub open-within : (j : ℕ) (outer : List (ℕ × ℕ)) (ns : List ℕ) (ds : List (ℕ × List ℕ)) → Open s j outer ns ds → (k e : ℕ) (ps : List ℕ) → slice_get ds k ≡ Some (e, ps) → e < j
  open-within _ _ _ _ (ground {j} {ns} {ds} n) k e ps h = ((nodes-within 0 j ns ds n).1 k e ps h).1
  open-within _ _ _ _ (inside {i} {j} {outer} {ns} {ps} {ds} {es} t o n) k e qs h = by (λ a. open-within i outer ns ds t k e qs a) (get-of ds es k (e, qs) h)
    where
      by : (slice_get ds k ≡ Some (e, qs) → e < i) → (slice_get ds k ≡ Some (e, qs)) ⊎ ((y : ℕ) × (slice_get es y ≡ Some (e, qs))) → e < j
      by f (inl a) = let b = f a in let w = (nodes-within (i + 1) j ps es n).0 in omega arith
      by f (inr a) = ((nodes-within (i + 1) j ps es n).1 a.0 e qs a.1).1

  -- ---- the innermost collection ends

  -- the nodes before its parts, its parts, and that it is no node that ended before
  pub record Closed (j : ℕ) (front : List (ℕ × ℕ)) (o m : ℕ) (ns : List ℕ) (ds : List (ℕ × List ℕ)) : Type 0 where
    pub before : List ℕ
    pub parts : List ℕ
    pub count : m ≡ length before
    pub low : o < j
    pub split : ns ≡ before ++ parts
    pub new : (k e : ℕ) (ps : List ℕ) → slice_get ds k ≡ Some (e, ps) → e ≢ o
    pub around : Open s (j + 1) front (before ++ (o ∷ [])) (ds ++ ((o, parts) ∷ []))

  pub open-closes : (j : ℕ) (all : List (ℕ × ℕ)) (ns : List ℕ) (ds : List (ℕ × List ℕ)) → Open s j all ns ds → slice_get s j ≡ Some Closes → (front : List (ℕ × ℕ)) (o m : ℕ) → all ≡ front ++ ((o, m) ∷ []) → Closed j front o m ns ds
  open-closes _ _ _ _ (ground n) c front o m q = absurd (not-empty front (o, m) q)
  open-closes _ _ _ _ (inside {i} {j} {outer} {ns} {ps} {ds} {es} t op n) c front o m q =
      let e = ends-same outer front (i, length ns) (o, m) q in
      let f : i ≡ o = ap (λ z. z.0) e.1 in
      let g : length ns ≡ m = ap (λ z. z.1) e.1 in
      let h : Open s (j + 1) outer (ns ++ (i ∷ [])) (ds ++ (es ++ ((i, ps) ∷ []))) = grown i (j + 1) (i ∷ []) (es ++ ((i, ps) ∷ [])) (λ x ms fs b. collection b op n c) outer ns ds t in
      let k : Open s (j + 1) outer (ns ++ (i ∷ [])) ((ds ++ es) ++ ((i, ps) ∷ [])) = subst (λ z. Open s (j + 1) outer (ns ++ (i ∷ [])) z) (sym (append_assoc ds es ((i, ps) ∷ []))) h in
      let w : i + 1 ≤ j = (nodes-within (i + 1) j ps es n).0 in
      record {
        before = ns;
        parts = ps;
        count = sym g;
        low = omega (arith, f, w);
        split = refl;
        new = λ x y qs a. apart f x y qs (get-of ds es x (y, qs) a);
        around = subst (λ z. Open s (j + 1) front (ns ++ (z ∷ [])) ((ds ++ es) ++ ((z, ps) ∷ []))) f (subst (λ z. Open s (j + 1) z (ns ++ (i ∷ [])) ((ds ++ es) ++ ((i, ps) ∷ []))) e.0 k);
      }
    where
      apart : i ≡ o → (x y : ℕ) (qs : List ℕ) → (slice_get ds x ≡ Some (y, qs)) ⊎ ((z : ℕ) × (slice_get es z ≡ Some (y, qs))) → y ≢ o
      apart f x y qs (inl a) = λ r. let b = open-within i outer ns ds t x y qs a in omega (arith, f, r, b)
      apart f x y qs (inr a) = λ r. let b = ((nodes-within (i + 1) j ps es n).1 a.0 y qs a.1).0 in omega (arith, f, r, b)

  -- no collection is open
  pub open-none : (j : ℕ) (all : List (ℕ × ℕ)) (ns : List ℕ) (ds : List (ℕ × List ℕ)) → Open s j all ns ds → all ≡ [] → Nodes s 0 j ns ds
  open-none _ _ _ _ (ground n) q = n
  open-none _ _ _ _ (inside {i} {j} {outer} {ns} {ps} {ds} {es} t op n) q = absurd (not-empty outer (i, length ns) (sym q))
