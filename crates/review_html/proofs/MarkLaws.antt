-- Marks of lines, as they are set.
use Rattle.std.proofs.Common.{◌≡◌, ◌<◌, ◌≤◌, ◌==◌, ◌&&◌, ℕ, zero, suc, ◌+◌, true, false, cond, Bool, List, ◌∷◌, drop, length, get_or, replicate, refl, sym, ◌∙◌, ap, arith, drop_of_length-le, ne_eqb}
use Rattle.std.proofs.lemmas.List.{length-replicate, get_or-replicate}
use Rattle.review_formats.proofs.PieceLaws.{drop_next}
use Rattle.review_formats.specs.declared.finding.Finding.{Finding}
use Rattle.review_html.specs.Marks.{place_on, is_at, finding_number, mark_from, AreMarks, SetsMark}
use Rattle.review_html.specs.declared.side.Side.{Side}

-- ---- no mark is 0

not-zero : (k : ℕ) → suc k == 0 ≡ false
not-zero k = ne_eqb (suc k) 0 (λ e. absurd (omega (arith, e)))

mark-stays : (k n : ℕ) → cond (suc k == 0) n (suc k) ≡ suc k
mark-stays k n = ap (λ z. cond z n (suc k)) (not-zero k)

zero-stays : (m : ℕ) → cond (m == 0) 0 m ≡ m
zero-stays zero = refl
zero-stays (suc m) = mark-stays m 0

-- A mark that is there stays. Where there is none, that of this finding comes before that of the rest.
one-more : (m mark rest : ℕ) (here : Bool) → 0 < mark → cond (cond ((m == 0) && here) mark m == 0) rest (cond ((m == 0) && here) mark m) ≡ cond (m == 0) (cond here mark rest) m
one-more zero zero rest true l = absurd (omega (arith, l))
one-more zero (suc k) rest true l = mark-stays k rest
one-more zero mark rest false l = refl
one-more (suc m) mark rest here l =
    ap (λ z. cond (cond (z && here) mark (suc m) == 0) rest (cond (z && here) mark (suc m))) (not-zero m) ∙ mark-stays m rest ∙ sym (mark-stays m (cond here mark rest))

-- ---- the marks of a list

module _ (side : Side) (before : ℕ) (list : List Finding) (lines : ℕ) where
  -- the marks of the findings before this place, from which the rest go on to the marks of all
  abbrev pub GoOn : ℕ → List ℕ → Type 0
  GoOn place marks =
      (length marks ≡ lines)
      × ((at : ℕ) → at < lines → cond (get_or marks at 0 == 0) (mark_from side before place (drop place list) at) (get_or marks at 0) ≡ mark_from side before 0 list at)

  pub marks-start : (marks : List ℕ) → marks ≡ replicate lines 0 → GoOn 0 marks
  marks-start marks e = (
    ap length e ∙ length-replicate lines 0,
    λ at l. ap (λ z. cond (z == 0) (mark_from side before 0 list at) z) (ap (λ z. get_or z at 0) e ∙ get_or-replicate lines at 0 0 l),
  )

  pub marks-step : (place mark : ℕ) (marks new : List ℕ) (one : Finding) → place < length list → one ≡ get_or list place one → GoOn place marks → mark ≡ finding_number before place → SetsMark marks (place_on side one) mark new → GoOn (place + 1) new
  marks-step place mark marks new one l is h e w = (
    w.0 ∙ h.0,
    λ at m.
        let old = get_or marks at 0 in
        let here = is_at (place_on side one) at in
        let rest = mark_from side before (place + 1) (drop (place + 1) list) at in
        let next : drop place list ≡ one ∷ drop (place + 1) list = drop_next list place one l ∙ ap (λ z. z ∷ drop (place + 1) list) (sym is) in
        let more : mark_from side before place (drop place list) at ≡ cond here mark rest = ap (λ z. mark_from side before place z at) next ∙ ap (λ z. cond here z rest) (sym e) in
        ap (λ z. cond (z == 0) rest z) (w.1 at (omega (arith, m, h.0))) ∙ one-more old mark rest here (omega (arith, e)) ∙ ap (λ z. cond (old == 0) z old) (sym more) ∙ h.1 at m,
  )

  pub marks-done : (place : ℕ) (marks : List ℕ) → length list ≤ place → GoOn place marks → AreMarks side before list lines marks
  marks-done place marks l h = (
    h.0,
    λ at m.
        let mark = get_or marks at 0 in
        sym (zero-stays mark) ∙ ap (λ z. cond (mark == 0) (mark_from side before place z at) mark) (sym (drop_of_length-le list l)) ∙ h.1 at m,
  )
