-- A plain scalar that ends as far on as any from its place goes on wherever one of them does.
use Rattle.std.proofs.Common.{◌≡◌, ℕ, ◌≤◌, ◌⊎◌, inl, inr, List, ◌++◌, sym, subst, arith}
use Rattle.yaml_definitions.specs.grammar.Rules.{Any, done, then, where_both}
use Rattle.yaml_definitions.specs.grammar.Separation.{Ctx, flow_out, Unmarked}
use Rattle.yaml_definitions.specs.grammar.FlowScalars.{ns-plain as plain, PlainFirst}
use Rattle.yaml_text.specs.Lines.{Inside}
use Rattle.yaml_scalar.specs.Chains.{plain_more, plain_chain}
use Rattle.yaml_scalar.proofs.AnyLemmas.{any_onward, any_chain}
use Rattle.yaml_scalar.proofs.GapLemmas.{unmarked_cuts}
use Rattle.yaml_scalar.proofs.PlainLemmas.{one_same, first_ns, more_same, more_onward}
use Rattle.yaml_scalar.proofs.PlainReadings.{plain_to_chain}
use Rattle.law_one_reading.specs.Readings.{At}
use Rattle.law_one_reading.proofs.BlockNodes.{colon_solid}
use Rattle.law_one_reading.specs.Follows.{EndsNode as F}
use Rattle.law_one_reading.proofs.PlainEnds.{stop_way, stop_rest, any_unmarked, any_after, after_inside, colon_no_later}
use Rattle.law_going_on.specs.GoingOn.{Goes}

module _ (cs : List ℕ) where
  module _ (n : ℕ) (c : Ctx) (Stop : ℕ → Type 0) (none : (j o : ℕ) (xs : List ℕ) → Inside cs j → Stop j → plain_more cs n c j o xs → Unmarked cs j o → ⊥) where
    -- a scalar that stops at its end is the furthest
    chain_far : (i j x : ℕ) (v w : List ℕ) → plain_chain cs n c i j v → Stop j → plain_chain cs n c i x w → x ≤ j
    unfolding plain_chain
    chain_far i j x v w (u, (m, us, vs, (p, y, h, e, f), r, d)) s (z, (l, ws, ts, (q, y2, g, a, b), t, o)) =
        let one = one_same cs (PlainFirst cs c) i m l us ws (p, y, h, e, f) (q, y2, g, a, b) in
        let cuts = unmarked_cuts cs in
        let r1 : m ≤ j = any_onward (more_onward cs n c) r in
        let t1 : l ≤ x = any_onward (more_onward cs n c) t in
        go (after_inside cs j (any_after cs n c r (i, e, first_ns cs c i p)))
        (any_chain {R = where_both (Unmarked cs) (plain_more cs n c)} (λ i j k v w (a, r) (b, s). more_same cs n c i j k v w r s)
        (any_unmarked cs n c r (cuts.back i m j (omega (arith, e)) r1 u))
        (subst (λ c2. Any (where_both (Unmarked cs) (plain_more cs n c)) x c2 ts) (sym one.0) (any_unmarked cs n c t (cuts.back i l x (omega (arith, a)) t1 z))))
      where
        go : Inside cs j → ((zs : List ℕ) × Any (where_both (Unmarked cs) (plain_more cs n c)) x j zs × (ts ≡ vs ++ zs)) ⊎ ((zs : List ℕ) × Any (where_both (Unmarked cs) (plain_more cs n c)) j x zs × (vs ≡ ts ++ zs)) → x ≤ j
        go b (inl (zs, done e f, h)) = omega (arith, e)
        go b (inl (zs, then k xs ys (u, r) rest f, h)) = absurd (none j k xs b s r u)
        go b (inr (zs, r, h)) = any_onward (λ i j xs (u, r). more_onward cs n c i j xs r) r

    -- the furthest goes on wherever any goes on
    pub plain_goes : (i x : ℕ) (w : List ℕ) → plain cs n c i x w → ((j : ℕ) (v : List ℕ) → plain cs n c i j v → j ≤ x) → Goes (plain cs n c) (At Stop) i (At Stop) x
    plain_goes i x w r far = record { goes = go }
      where
        go : (j m : ℕ) (v : List ℕ) → plain cs n c i j v → At Stop j m → At Stop x m
        go j m v s (e, d) =
            let a : x ≤ j = chain_far i j x v w (plain_to_chain cs n c i j v s) d (plain_to_chain cs n c i x w r) in
            let b : j ≤ x = far j v s in
            let h : j ≡ x = omega (arith, a, b) in
            subst (λ y. At Stop y m) h (e, d)

  -- at block level
  pub plain_block_goes : (col d i x : ℕ) (w : List ℕ) → plain cs col flow_out i x w → ((j : ℕ) (v : List ℕ) → plain cs col flow_out i j v → j ≤ x) → Goes (plain cs col flow_out) (At (F cs col d)) i (At (F cs col d)) x
  plain_block_goes col d = plain_goes col flow_out (F cs col d) go
    where
      go : (j o : ℕ) (xs : List ℕ) → Inside cs j → F cs col d j → plain_more cs col flow_out j o xs → Unmarked cs j o → ⊥
      go j o xs a (inl (m, p, (l, n))) r u = stop_rest cs col flow_out j m o xs r u a p l
      go j o xs a (inr (q, s, h, n)) r u = stop_way cs col flow_out j o q xs r a (inl (s, colon_solid cs q h)) (colon_no_later cs flow_out q h n)
