-- A line on which a node, a sequence of its parent or nothing stands: which of them is left, by its first character and its column.
use Rattle.std.proofs.Common.{◌≡◌, ℕ, ◌+◌, ◌≤◌, ◌<◌, inl, inr, List, subst, arith}
use Rattle.yaml_definitions.specs.grammar.Rules.{Rule, ◌▸◌, ◌∪◌, gives, given, some, Stands}
use Rattle.yaml_definitions.specs.grammar.Characters.{is_space}
use Rattle.yaml_definitions.specs.grammar.Separation.{s-indent as indent, AtEnd, DocumentMark}
use Rattle.yaml_definitions.specs.model.Event.{Event}
use Rattle.yaml_text.proofs.Runs.{run_same}
use Rattle.yaml_text.proofs.LineRuns.{indent_run, indent_place}
use Rattle.law_one_reading.specs.Readings.{End}
use Rattle.law_one_reading.specs.Follows.{Fresh, Stuck, DashHere, Over, Follow, KeyHere}
use Rattle.law_one_reading.proofs.Lines.{solid_no_space, comments_none, dash_fresh}
use Rattle.law_one_reading.proofs.BlockEntries.{follow_seq}
use Rattle.law_going_on.specs.GoingOn.{Goes, Rest, Here}
use Rattle.law_going_on.proofs.BlockLoops.{line_less}

-- X is a node that begins in column k, S a sequence
module _ (cs : List ℕ) (col d : ℕ) (X S : ℕ → Rule (List Event)) (n : List Event) where
  abbrev pub LineRest : Rule (List Event)
  LineRest = some (λ k. given (col ≤ k) (indent cs k ▸ X k)) ∪ some (λ k. given (d ≤ k) (indent cs k ▸ S k)) ∪ gives n

  abbrev AfterNode : End
  AfterNode = Over cs (Follow cs col d)

  module _ (starts : (k i j : ℕ) (v : List Event) → X k i j v → KeyHere cs i) (dashes : (k i j : ℕ) (v : List Event) → S k i j v → DashHere cs i)
      (s k x : ℕ) (ind : indent cs k s x) (whole : Stands cs is_space x → ⊥) (stuck : Stuck cs s) where
    -- what begins on the line begins there
    there : (l q : ℕ) → indent cs l s q → Fresh cs q → (l ≡ k) × (q ≡ x)
    there l q r f =
        let e : q ≡ x = run_same cs is_space s q x (indent_run cs l s q r) (indent_run cs k s x ind) (solid_no_space cs q f.0.0) whole in
        let a : q ≡ s + l = indent_place cs l s q r in
        let b : x ≡ s + k = indent_place cs k s x ind in
        (omega (arith, e, a, b), e)

    data Left (j : ℕ) (v : List Event) : Type 0 where
      node : col ≤ k → X k x j v → Left j v
      sequence : d ≤ k → S k x j v → Left j v
      nothing : j ≡ s → Left j v

    left : (j : ℕ) (v : List Event) → LineRest s j v → Left j v
    left j v (inl (l, (le, (q, r, t)))) =
        let h = there l q r (starts l q j v t).0 in
        node (subst (λ z. col ≤ z) h.0 le) (subst (λ z. X k z j v) h.1 (subst (λ z. X z q j v) h.0 t))
    left j v (inr (inl (l, (le, (q, r, t))))) =
        let h = there l q r (dash_fresh cs q (dashes l q j v t)) in
        sequence (subst (λ z. d ≤ z) h.0 le) (subst (λ z. S k z j v) h.1 (subst (λ z. S z q j v) h.0 t))
    left j v (inr (inr (e, f))) = nothing e

    here : (j m : ℕ) → j ≡ s → AfterNode j m → m ≡ s
    here j m e (c, f) = comments_none cs s m stuck (subst (λ z. Over cs (Follow cs col d) z m) e (c, f)).0

    -- no node and no sequence
    goes_nothing : ((j : ℕ) (v : List Event) → col ≤ k → X k x j v → ⊥) → ((j : ℕ) (v : List Event) → d ≤ k → S k x j v → ⊥) → Goes LineRest AfterNode s Here s
    goes_nothing f g = record { goes = λ j m v r e. go j m v e (left j v r) }
      where
        go : (j m : ℕ) (v : List Event) → AfterNode j m → Left j v → m ≡ s
        go j m v e (node le r) = absurd (f j v le r)
        go j m v e (sequence le r) = absurd (g j v le r)
        go j m v e (nothing h) = here j m h e

    pub line_over : (Fresh cs x → ⊥) → Goes LineRest AfterNode s Here s
    line_over n = goes_nothing (λ j v le r. n (starts k x j v r).0) (λ j v le r. n (dash_fresh cs x (dashes k x j v r)))

    pub dash_short : DashHere cs x → k < d → Goes LineRest AfterNode s Here s
    dash_short h lt = goes_nothing (λ j v le r. (starts k x j v r).1 h) (λ j v le r. let a : d ≤ k = le in omega (arith, a, lt))

    pub line_short : (DashHere cs x → ⊥) → k < col → Goes LineRest AfterNode s Here s
    line_short n lt = goes_nothing (λ j v le r. let a : col ≤ k = le in omega (arith, a, lt)) (λ j v le r. n (dashes k x j v r))

    pub dash_left : DashHere cs x → d ≤ k → col ≤ d + 1 → Rest LineRest AfterNode s (S k) AfterNode x
    dash_left h le narrow = record { rest = λ j m v r e. go j m v e (left j v r) }
      where
        go : (j m : ℕ) (v : List Event) → AfterNode j m → Left j v → (o : ℕ) × (w : List Event) × S k x o w × AfterNode o m
        go j m v e (node a r) = absurd ((starts k x j v r).1 h)
        go j m v e (sequence a r) = (j, v, r, e)
        go j m v e (nothing a) = absurd ((follow_seq cs col d k s (subst (Follow cs col d) (here j m a e) e.1) le narrow).1 (x, ind, h))

    pub node_left : (DashHere cs x → ⊥) → col ≤ k → (AtEnd cs s → ⊥) → (DocumentMark cs s → ⊥) → Rest LineRest AfterNode s (X k) AfterNode x
    node_left n le no_end no_mark = record { rest = λ j m v r e. go j m v e (left j v r) }
      where
        go : (j m : ℕ) (v : List Event) → AfterNode j m → Left j v → (o : ℕ) × (w : List Event) × X k x o w × AfterNode o m
        go j m v e (node a r) = (j, v, r, e)
        go j m v e (sequence a r) = absurd (n (dashes k x j v r))
        go j m v e (nothing a) = absurd (line_less cs col k s x ind whole le no_end no_mark (subst (Follow cs col d) (here j m a e) e.1).0)
