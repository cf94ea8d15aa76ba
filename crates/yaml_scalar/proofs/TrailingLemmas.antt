-- The comment lines after a block scalar.
use Rattle.std.proofs.Common.{◌≡◌, ◌≢◌, ℕ, ◌+◌, ◌<◌, ◌≤◌, inl, inr, List, Some, refl, sym, ◌∙◌, ap, subst, arith}
use Rattle.std.specs.Prelude.{slice_get}
use Rattle.yaml_definitions.specs.grammar.Rules.{◌◆◌, run, Stands, maybe, any_span, furthest_span, Spans}
use Rattle.yaml_definitions.specs.grammar.Characters.{is_space}
use Rattle.yaml_definitions.specs.grammar.Separation.{s-indent as indent, s-indent-less-than as less, b-comment as line_end, c-nb-comment-text as comment, l-comment as l_comment}
use Rattle.yaml_definitions.specs.grammar.BlockScalars.{l-trail-comments as comment_lines}
use Rattle.yaml_text.specs.Lines.{AfterLine}
use Rattle.yaml_text.proofs.Runs.{no_stand, run_same}
use Rattle.yaml_text.proofs.LineRuns.{line_end_same, line_end_onward, line_end_after, indent_run, indent_place}
use Rattle.yaml_text.proofs.RestLemmas.{space_hash, comment_same, l_comment_same, l_comment_onward}
use Rattle.yaml_text.proofs.Repeats.{spans_onward, spans_furthest}

module _ (cs : List ℕ) where
  comment_hash : (i j : ℕ) → comment cs i j → slice_get cs i ≡ Some 35
  unfolding comment
  comment_hash i j (k, (h, e), r) = h

  comment_on : (i j : ℕ) → comment cs i j → i ≤ j
  unfolding comment
  comment_on i j (k, (h, e), r) = let l : k ≤ j = r.0 in omega (arith, l, e)

  -- where the comment begins
  record Trail (k i e : ℕ) : Type 0 where
    stop : ℕ
    spaces : run cs is_space i stop
    few : stop < i + k
    hash : slice_get cs stop ≡ Some 35
    after : ℕ
    line : (comment cs ◆ line_end cs) stop after
    more : any_span (l_comment cs) after e

  trail_of : (k i e : ℕ) → comment_lines cs k i e → Trail k i e
  unfolding comment_lines less
  trail_of k i e (b, (l, r), (c, h, (d, n, s))) =
      record { stop = b; spaces = r; few = l; hash = comment_hash b c h; after = d; line = (c, h, n); more = s }

  to_trail : (k i b d e : ℕ) → run cs is_space i b → b < i + k → (comment cs ◆ line_end cs) b d → any_span (l_comment cs) d e → comment_lines cs k i e
  unfolding comment_lines less
  to_trail k i b d e r l (c, h, n) s = (b, (l, r), (c, h, (d, n, s)))

  pub comment_after : (i j : ℕ) → (comment cs ◆ line_end cs) i j → AfterLine cs j
  comment_after i j (k, c, e) = line_end_after cs k j e

  hash_stops : (i : ℕ) → slice_get cs i ≡ Some 35 → Stands cs is_space i → ⊥
  hash_stops i h = no_stand cs is_space i 35 h space_hash

  only_here : (k i : ℕ) → ((e : ℕ) → Trail k i e → ⊥) → furthest_span (maybe (comment_lines cs k)) i i
  only_here k i none = (inl refl, λ e r. go e r)
    where
      go : (e : ℕ) → maybe (comment_lines cs k) i e → e ≤ i
      go e (inl h) = omega (arith, h)
      go e (inr t) = absurd (none e (trail_of k i e t))

  -- as many spaces as the content's
  pub full_indent : (n k i m : ℕ) → n ≡ k → indent cs n i m → furthest_span (maybe (comment_lines cs k)) i i
  full_indent n k i m e s = only_here k i (λ f t. hash_stops t.stop t.hash ((indent_run cs n i m s).1 t.stop t.spaces.0 (let p = indent_place cs n i m s in let l = t.few in omega (arith, p, l, e))))

  pub no_hash : (n k i m : ℕ) → indent cs n i m → (Stands cs is_space m → ⊥) → slice_get cs m ≢ Some 35 → furthest_span (maybe (comment_lines cs k)) i i
  no_hash n k i m s stop none = only_here k i (λ f t. none (let at : t.stop ≡ m = run_same cs is_space i t.stop m t.spaces (indent_run cs n i m s) (hash_stops t.stop t.hash) stop in ap (slice_get cs) (sym at) ∙ t.hash))

  line_same : (b d f : ℕ) → (comment cs ◆ line_end cs) b d → (comment cs ◆ line_end cs) b f → d ≡ f
  line_same b d f (c, h, n) (e, g, m) =
      let at : c ≡ e = comment_same cs b c e d f (inr h) n (inr g) m in
      line_end_same cs e d f (subst (λ x. line_end cs x d) at n) m

  line_on : (b d : ℕ) → (comment cs ◆ line_end cs) b d → b ≤ d
  line_on b d (c, h, n) = let x : b ≤ c = comment_on b c h in let y : c ≤ d = line_end_onward cs c d n in omega (arith, x, y)

  l_on : (i j : ℕ) → l_comment cs i j → i ≤ j
  l_on i j c = let l : i < j = l_comment_onward cs i j c in omega (arith, l)

  pub comments_end : (n k i m d e : ℕ) → indent cs n i m → n < k → (comment cs ◆ line_end cs) m d → any_span (l_comment cs) d e → ((j : ℕ) → l_comment cs e j → ⊥) →
      furthest_span (maybe (comment_lines cs k)) i e
  comments_end n k i m d e s l c more stop =
      (inr (to_trail k i m d e r (omega (arith, p, l)) c more), λ f t. go f t)
    where
      p : m ≡ i + n
      p = indent_place cs n i m s

      r : run cs is_space i m
      r = indent_run cs n i m s

      hash : slice_get cs m ≡ Some 35
      hash = comment_hash m c.0 c.1

      go : (f : ℕ) → maybe (comment_lines cs k) i f → f ≤ e
      go f (inl h) = let x : i ≤ m = r.0 in let y : m ≤ d = line_on m d c in let z : d ≤ e = spans_onward l_on more in omega (arith, h, x, y, z)
      go f (inr u) =
          let t = trail_of k i f u in
          let at : t.stop ≡ m = run_same cs is_space i t.stop m t.spaces r (hash_stops t.stop t.hash) (hash_stops m hash) in
          let to : t.after ≡ d = line_same m t.after d (subst (λ x. (comment cs ◆ line_end cs) x t.after) at t.line) c in
          spans_furthest (l_comment_same cs) l_on more stop (subst (λ x. Spans (l_comment cs) f x) to t.more)
