-- A block scalar has one text, and one line to go on from.
use Rattle.std.proofs.Common.{◌≡◌, ℕ, ◌+◌, ◌≤◌, ◌<◌, ◌⊎◌, inl, inr, List, Bool, true, Some, refl, sym, subst, arith}
use Rattle.std.specs.Prelude.{slice_get}
use Rattle.std.proofs.Math.Nat.{eq-or-lt_of_le}
use Rattle.yaml_definitions.specs.grammar.Rules.{Any, done, then, Spans, run, maybe}
use Rattle.yaml_definitions.specs.grammar.Characters.{is_space, is_nb}
use Rattle.yaml_definitions.specs.grammar.Separation.{AtEnd, b-comment as line_end, c-nb-comment-text as comment, l-comment as l_comment, s-separate-in-line as sep, s-indent-less-than as less}
use Rattle.yaml_definitions.specs.grammar.BlockScalars.{Line, l-trail-comments as comment_lines, is_given}
use Rattle.yaml_text.specs.Lines.{AfterLine}
use Rattle.yaml_scalar.specs.BlockRules.{any_line}
use Rattle.yaml_scalar.specs.BlockModel.{styled}
use Rattle.yaml_scalar.proofs.BlockLemmas.{Parts, parts_of, meet}
use Rattle.yaml_scalar.proofs.HeaderLemmas.{header_parts}
use Rattle.yaml_scalar.proofs.LineLemmas.{Tail, blank_of, text_of, Over, chain_of}
use Rattle.yaml_text.proofs.LineRuns.{brk_after, line_end_onward, end_stops}
use Rattle.yaml_text.proofs.RestLemmas.{from_s_b, blank_after}
use Rattle.law_one_reading.specs.Readings.{Unique}
use Rattle.law_one_reading.proofs.Lines.{comments_same, comments_join}
use Rattle.law_one_reading.specs.Follows.{Comments, Stuck, Follow}
use Rattle.law_one_reading.specs.Follows as blocks

module _ (cs : List ℕ) where
  -- a comment of fewer spaces is a comment line
  one_line : (e b x c d : ℕ) → (e ≡ b) ⊎ (e < b) → AfterLine cs e → run cs is_space e b → slice_get cs b ≡ Some 35 → x ≡ b + 1 → run cs is_nb x c → line_end cs c d → l_comment cs e d
  unfolding l_comment sep comment
  one_line e b x c d (inr l) a r h f t n = let y : x ≤ c = t.0 in let z : c ≤ d = line_end_onward cs c d n in
      (omega (arith, l, f, y, z), (b, inl (r, l), (c, inr (x, (h, f), t), n)))
  one_line e b x c d (inl o) (inl s) r h f t n = let y : x ≤ c = t.0 in let z : c ≤ d = line_end_onward cs c d n in
      (omega (arith, o, f, y, z), (b, inr (sym o, s), (c, inr (x, (h, f), t), n)))
  one_line e b x c d (inl o) (inr s) r h f t n = absurd (end_stops cs (λ u. true) e s (35, subst (λ u. slice_get cs u ≡ Some 35) (sym o) h, refl))

  pub comments_of : (k e j : ℕ) → AfterLine cs e → maybe (comment_lines cs k) e j → Comments cs e j
  unfolding comment_lines less comment
  comments_of k e j a (inl h) = Spans.done h
  comments_of k e j a (inr (b, (l, r), (c, (x, (h, f), t), (d, n, s)))) =
      Spans.then d (line (eq-or-lt_of_le r.0) a) s
    where
      line : (e ≡ b) ⊎ (e < b) → AfterLine cs e → l_comment cs e d
      line o a = one_line e b x c d o a r h f t n

  line_after : (k i j : ℕ) (v : List Line) → any_line cs k i j v → AfterLine cs j
  line_after k i j v (inl r) = brk_after cs _ j (blank_of cs k i j v r).ends
  line_after k i j v (inr r) = go (text_of cs true k i j v r).ends
    where
      go : {q : ℕ} {xs : List ℕ} → Tail cs q j xs v → AfterLine cs j
      go {q} (Tail.broken b e) = brk_after cs q j b
      go {q} (Tail.last z f e) = inr (subst (AtEnd cs) (sym f) z)

  lines_after : (k : ℕ) {j i : ℕ} {v : List Line} → Any (any_line cs k) j i v → AfterLine cs i → AfterLine cs j
  lines_after k (done e f) a = subst (AfterLine cs) (sym e) a
  lines_after k (then o us vs r rest e) a = lines_after k rest (line_after k _ o us r)

  over_after : (k q j : ℕ) → Over cs k q j → AfterLine cs q → AfterLine cs j
  over_after k q j (Over.here l e) a = subst (AfterLine cs) (sym e) a
  over_after k q j (Over.spaces r l e) a = inr e

  pub after_end : (f : Bool) (col i j : ℕ) (v : List ℕ) (p : Parts cs f col i j v) → AfterLine cs p.end
  after_end f col i j v p =
      let (a, h, s) = header_parts cs (i + 1) p.first p.head p.header in
      let first : AfterLine cs p.first = blank_after cs a p.first (from_s_b cs a p.first s) in
      let (q, all, over) = chain_of cs (is_given p.head.digit) p.k p.first p.end p.list p.lines p.over in
      over_after p.k q p.end over (lines_after p.k all first)

  pub block_scalar_unique : (f : Bool) (col : ℕ) (X : ℕ → Type 0) → ((m : ℕ) → X m → Stuck cs m) → Unique (styled cs f col) (blocks.Over cs X)
  block_scalar_unique f col X stuck i j k m n v w r (c, x) s (d, y) =
      let p = parts_of cs f col i j v r in
      let q = meet cs f col i j k v w p (parts_of cs f col i k w s) in
      let a = after_end f col i j v p in
      (comments_same cs p.end m n (comments_join cs (comments_of p.k p.end j a p.comments) c) (stuck m x) (comments_join cs (comments_of p.k p.end k a q.0) d) (stuck n y), sym q.1)
