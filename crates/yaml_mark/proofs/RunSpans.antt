-- Runs of a class as spans of its characters and escapes.
use Rattle.std.proofs.Common.{◌≡◌, inl, ℕ, zero, suc, Bool, ◌+◌, ◌-◌, List, arith}
use Rattle.yaml_definitions.specs.grammar.Rules.{Spans, Throughout, Stands, run, any_span}
use Rattle.yaml_mark.specs.Parts.{char_or_escape}

module _ (cs : List ℕ) (p : ℕ → Bool) where
  each : (n i j : ℕ) → j ≡ i + n → Throughout (Stands cs p) i j → any_span (char_or_escape cs p) i j
  unfolding char_or_escape
  each zero i j e h = Spans.done (omega (arith, e))
  each (suc n) i j e h = Spans.then (i + 1) (inl (h i (omega arith) (omega (arith, e)), omega arith)) (each n (i + 1) j (omega (arith, e)) (λ k l m. h k (omega (arith, l)) m))

  -- a run of characters is a span of characters and escapes
  pub run_spans : (i j : ℕ) → run cs p i j → any_span (char_or_escape cs p) i j
  run_spans i j r = each (j - i) i j (let l = r.0 in omega (arith, l)) r.1
