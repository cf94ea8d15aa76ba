-- A block scalar that ends as far on as any from its place ends where the text goes on.
use Rattle.std.proofs.Common.{◌≡◌, ℕ, ◌≤◌, ◌<◌, inl, inr, List, Bool, true, false, refl, sym, ◌∙◌, ap, subst, arith}
use Rattle.yaml_definitions.specs.grammar.Rules.{Spans, run, maybe, Stands}
use Rattle.yaml_definitions.specs.grammar.Characters.{is_space, is_nb}
use Rattle.yaml_definitions.specs.grammar.Separation.{c-nb-comment-text as comment, l-comment as l_comment, s-indent-less-than as less}
use Rattle.yaml_definitions.specs.grammar.BlockScalars.{c-l+literal as literal, c-l+folded as folded, block_content, l-trail-comments as comment_lines, LessIndented, LinesEnd}
use Rattle.yaml_text.specs.Lines.{AfterLine, blank_rest}
use Rattle.yaml_scalar.specs.BlockModel.{styled}
use Rattle.yaml_text.proofs.Runs.{run_same, same_char}
use Rattle.yaml_text.proofs.LineRuns.{line_end_stops}
use Rattle.yaml_text.proofs.RestLemmas.{from_l, comment_stops, l_comment_onward, nb_feed, nb_return, space_feed, space_return, space_hash}
use Rattle.law_one_reading.proofs.Lines.{comments_join, stuck_end, stuck_mark}
use Rattle.law_one_reading.specs.Follows.{Stuck, Over}
use Rattle.law_one_reading.proofs.BlockScalarEnds.{block_scalar_unique, comments_of, after_end}
use Rattle.law_one_reading.proofs.Documents.{after_comments}
use Rattle.yaml_scalar.proofs.BlockLemmas.{parts_of}
use Rattle.law_going_on.specs.GoingOn.{Goes, Here}
use Rattle.law_going_on.proofs.GoingOn.{goes_seen, goes_until}

false_true : (b : Bool) → b ≡ false → b ≡ true → ⊥
false_true b e f = grind (arith, e, f)

module _ (cs : List ℕ) where
  -- the comment line that would come next stands among the scalar's own
  first_comment : (k e j : ℕ) → LessIndented cs k e → l_comment cs e j → comment_lines cs k e j
  unfolding less comment_lines blank_rest
  first_comment k e j (n, (a, (o, m), (b, (l, r), (f, (c, h, t))))) u = go (from_l cs e j u)
    where
      shown : is_nb c ≡ true
      shown = grind (arith, t)

      other : is_space c ≡ false
      other = grind (arith, t)

      no_spaces : Stands cs is_space b → ⊥
      no_spaces (x, g, u) = let z : is_space c ≡ true = ap is_space (same_char cs b c x h g) ∙ u in false_true (is_space c) other z

      go : blank_rest cs e j → comment_lines cs k e j
      go (y, s, (z, d, w)) = held d
        where
          same : b ≡ y
          same = run_same cs is_space e b y (subst (λ x. run cs is_space x b) o r) s no_spaces (comment_stops cs is_space space_hash space_feed space_return y z j d w)

          held : maybe (comment cs) y z → comment_lines cs k e j
          held (inl g) = absurd (line_end_stops cs is_nb nb_feed nb_return z j w (subst (Stands cs is_nb) (same ∙ sym g) (c, h, shown)))
          held (inr g) = (y, ((let q : b ≡ y = same in omega (arith, q, l, o)), s), (z, g, (j, w, Spans.done refl)))

  -- what follows a furthest end is no comment line
  longer : (k e x j : ℕ) → LinesEnd cs k e → maybe (comment_lines cs k) e x → l_comment cs x j → comment_lines cs k e j
  unfolding comment_lines
  longer k e x j (inl a) (inl g) c = first_comment k e j a (subst (λ z. l_comment cs z j) g c)
  longer k e x j (inr (inl m)) (inl g) c = absurd (stuck_mark cs e m j (subst (λ z. l_comment cs z j) g c))
  longer k e x j (inr (inr a)) (inl g) c = absurd (stuck_end cs e a j (subst (λ z. l_comment cs z j) g c))
  longer k e x j o (inr r) c = added r
    where
      added : comment_lines cs k e x → comment_lines cs k e j
      added (b, l, (d, m, (f, n, s))) = (b, l, (d, m, (f, n, comments_join cs s (Spans.then j c (Spans.done refl)))))

  on : (f : Bool) (col i x j : ℕ) (v : List ℕ) → styled cs f col i x v → l_comment cs x j → styled cs f col i j v
  unfolding literal folded block_content
  on false col i x j v (s, g, (a, h, p, (b, k, q, (m, l, (n, (o, z), c))))) u = (s, g, (a, h, p, (b, k, q, (m, l, (n, (o, z), inr (subst (λ y. comment_lines cs k y j) (sym o) (longer k m x j z (subst (λ y. maybe (comment_lines cs k) y x) o c) u)))))))
  on true col i x j v (s, g, (a, h, p, (b, k, q, (m, l, (n, (o, z), c))))) u = (s, g, (a, h, p, (b, k, q, (m, l, (n, (o, z), inr (subst (λ y. comment_lines cs k y j) (sym o) (longer k m x j z (subst (λ y. maybe (comment_lines cs k) y x) o c) u)))))))

  pub furthest_stuck : (f : Bool) (col i x : ℕ) (v : List ℕ) → styled cs f col i x v → ((j : ℕ) (w : List ℕ) → styled cs f col i j w → j ≤ x) → Stuck cs x
  furthest_stuck f col i x v r far j c = let a : j ≤ x = far j v (on f col i x j v r c) in let l : x < j = l_comment_onward cs x j c in omega (arith, a, l)

  -- so the text goes on there, whatever follows
  pub block_scalar_goes : (f : Bool) (col : ℕ) (X : ℕ → Type 0) → ((m : ℕ) → X m → Stuck cs m) → (i x : ℕ) (v : List ℕ) → styled cs f col i x v → ((j : ℕ) (w : List ℕ) → styled cs f col i j w → j ≤ x) → Goes (styled cs f col) (Over cs X) i Here x
  block_scalar_goes f col X stuck i x v r far = goes_until (Over cs X) {F = Over cs (Stuck cs)} (λ j m (c, y). (c, stuck m y)) (goes_seen (block_scalar_unique cs f col (Stuck cs) (λ m s. s)) r (Spans.done refl, furthest_stuck f col i x v r far))

  -- and a line starts there, or the text ends
  pub scalar_after : (f : Bool) (col i j : ℕ) (v : List ℕ) → styled cs f col i j v → AfterLine cs j
  scalar_after f col i j v r =
      let p = parts_of cs f col i j v r in
      let a = after_end cs f col i j v p in after_comments cs (Unit {0}) 0 (comments_of cs p.k p.end j a p.comments) a
