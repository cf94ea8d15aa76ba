-- Characters of a line, breaks, spaces, starts of lines and document marks: from a place one reading at most.
use Rattle.std.proofs.Common.{◌≡◌, ◌≢◌, ℕ, zero, suc, ◌+◌, ◌-◌, ◌<◌, ◌≤◌, ◌⊎◌, inl, inr, List, [], ◌∷◌, length, Option, Some, None, Bool, true, false, not, pred, refl, sym, ◌∙◌, ap, subst, arith}
use Rattle.std.specs.Prelude.{slice_get, ◌==◌, ◌&&◌}
use Rattle.std.proofs.lemmas.Option.{slice_get_past}
use Rattle.std.proofs.lemmas.Bool.{cases_lt, cases_eq}
use Rattle.yaml_definitions.specs.grammar.Rules.{Span, Stands, Behind, run}
use Rattle.yaml_definitions.specs.grammar.Characters.{is_white, is_ns, is_nb, is_break, is_space, b-break as brk}
use Rattle.yaml_definitions.specs.grammar.Separation.{StartsLine, DocumentMarkOf, DocumentMark, Unmarked, AtEnd, s-indent as indent}
use Rattle.yaml_text.specs.Lines.{line_brk, LooksLikeMarker, DashesOf}
use Rattle.yaml_text.proofs.Repeats.{SameEnd}
use Rattle.yaml_text.proofs.Runs.{same_char, run_none, run_more, no_stand, no_stand_end}

ns_no_white : (c : ℕ) → is_ns c ≡ true → is_white c ≡ true → ⊥
unfolding is_ns is_nb is_white
ns_no_white c p q = grind (arith, p, q)

break_no_white : is_white 10 ≡ false
unfolding is_white
break_no_white = refl

return_no_white : is_white 13 ≡ false
unfolding is_white
return_no_white = refl

pub space_white : is_white 32 ≡ true
unfolding is_white
space_white = refl

space_is_white : (c : ℕ) → is_space c ≡ true → is_white c ≡ true
unfolding is_space is_white
space_is_white c p = grind (arith, p)

space_here : is_space 32 ≡ true
unfolding is_space
space_here = refl

pub space_is : (c : ℕ) → is_space c ≡ true → c ≡ 32
unfolding is_space
space_is c p = grind (arith, p)

break_no_ns : is_ns 10 ≡ false
unfolding is_ns is_nb is_break is_white
break_no_ns = refl

return_no_ns : is_ns 13 ≡ false
unfolding is_ns is_nb is_break is_white
return_no_ns = refl

ns_break : (c : ℕ) → is_ns c ≡ true → is_break c ≡ true → ⊥
unfolding is_ns is_nb
ns_break c p q = grind (arith, p, q)

char_class : (c : ℕ) → (is_white c ≡ true) ⊎ (is_break c ≡ true) ⊎ (is_ns c ≡ true)
unfolding is_ns is_nb
char_class c = go (is_white c) (is_break c) refl refl
  where
    go : (w b : Bool) → is_white c ≡ w → is_break c ≡ b → (is_white c ≡ true) ⊎ (is_break c ≡ true) ⊎ ((not (is_break c) && not (is_white c)) ≡ true)
    go true b p q = inl p
    go false true p q = inr (inl q)
    go false false p q = inr (inr (ap (λ x. not x && not (is_white c)) q ∙ ap not p))

pub ns_no_return : (c : ℕ) → is_ns c ≡ true → c ≢ 13
unfolding is_ns is_nb is_break
ns_no_return c p e = grind (arith, p, e)

pub white_no_return : (c : ℕ) → is_white c ≡ true → c ≢ 13
unfolding is_white
white_no_return c p e = grind (arith, p, e)

ten : (c : ℕ) → (c == 10) ≡ true → c ≡ 10
ten c p = grind (arith, p)

pub thirteen : (c : ℕ) → (c == 13) ≡ true → c ≡ 13
thirteen c p = grind (arith, p)

slice_get_within : (cs : List ℕ) (i c : ℕ) → slice_get cs i ≡ Some c → i < length cs
slice_get_within [] i c h = absurd (let e : ◌≡◌ {A = Option ℕ} None (Some c) = h in cc)
slice_get_within (x ∷ xs) zero c h = omega arith
slice_get_within (x ∷ xs) (suc i) c h = let l : i < length xs = slice_get_within xs i c h in omega (arith, l)

at_end : (cs : List ℕ) (i : ℕ) → i ≤ length cs → slice_get cs i ≡ None → i ≡ length cs
at_end [] i l h = omega (arith, l)
at_end (x ∷ xs) zero l h = absurd (let e : ◌≡◌ {A = Option ℕ} None (Some x) = sym h in cc)
at_end (x ∷ xs) (suc i) l h = let e : i ≡ length xs = at_end xs i (omega (arith, l)) h in omega (arith, e)

module _ (cs : List ℕ) where
  abbrev pub NoWhite : ℕ → Type 0
  NoWhite i = Stands cs is_white i → ⊥

  abbrev pub Ns : ℕ → Type 0
  Ns = Stands cs is_ns

  pub ns_stops : (i : ℕ) → Ns i → NoWhite i
  ns_stops i (c, h, t) (d, g, u) = ns_no_white d (ap is_ns (same_char cs i d c g h) ∙ t) u

  pub brk_stops : (i j : ℕ) → line_brk cs i j → NoWhite i
  brk_stops i j (inl (h, e)) = no_stand cs is_white i 10 h break_no_white
  brk_stops i j (inr (inl (h, g, e))) = no_stand cs is_white i 13 h return_no_white
  brk_stops i j (inr (inr (h, g, e))) = no_stand cs is_white i 13 h return_no_white

  pub brk_no_ns : (i j : ℕ) → line_brk cs i j → Ns i → ⊥
  brk_no_ns i j (inl (h, e)) = no_stand cs is_ns i 10 h break_no_ns
  brk_no_ns i j (inr (inl (h, g, e))) = no_stand cs is_ns i 13 h return_no_ns
  brk_no_ns i j (inr (inr (h, g, e))) = no_stand cs is_ns i 13 h return_no_ns

  ns_no_break : (i : ℕ) → Ns i → Stands cs is_break i → ⊥
  ns_no_break i (c, h, t) (d, g, u) = ns_break d (ap is_ns (same_char cs i d c g h) ∙ t) u

  -- a character stands at a place, or none
  here_or_end : (i : ℕ) → (slice_get cs i ≡ None) ⊎ ((c : ℕ) × (slice_get cs i ≡ Some c))
  here_or_end i = go (slice_get cs i) refl
    where
      go : (o : Option ℕ) → slice_get cs i ≡ o → (slice_get cs i ≡ None) ⊎ ((c : ℕ) × (slice_get cs i ≡ Some c))
      go None e = inl e
      go (Some c) e = inr (c, e)

  after_is : (i : ℕ) → i ≤ length cs → (Ns i → ⊥) → Stands cs is_white i ⊎ Stands cs is_break i ⊎ AtEnd cs i
  after_is i le none = elim (here_or_end i) [
    | inl e ↦ inr (inr (at_end cs i le e))
    | inr s ↦ class s.0 s.1 (char_class s.0)
  ]
    where
      class : (c : ℕ) → slice_get cs i ≡ Some c → (is_white c ≡ true) ⊎ (is_break c ≡ true) ⊎ (is_ns c ≡ true) → Stands cs is_white i ⊎ Stands cs is_break i ⊎ AtEnd cs i
      class c h (inl w) = inl (c, h, w)
      class c h (inr (inl b)) = inr (inl (c, h, b))
      class c h (inr (inr n)) = absurd (none (c, h, n))

  abbrev AfterReturn : ℕ → Type 0
  AfterReturn i = (0 < i) × (slice_get cs (i - 1) ≡ Some 13)

  pub decide_behind : (i : ℕ) → AfterReturn i ⊎ (Behind cs (λ c. c == 13) i → ⊥)
  decide_behind zero = inr (λ b. (let h : 0 < 0 = b.0 in omega (arith, h)))
  decide_behind (suc i) = go (here_or_end (suc i - 1))
    where
      pick : (c : ℕ) → slice_get cs (suc i - 1) ≡ Some c → (c ≡ 13) ⊎ (c ≡ 13 → ⊥) → AfterReturn (suc i) ⊎ (Behind cs (λ c. c == 13) (suc i) → ⊥)
      pick c e (inl f) = inl (omega arith, e ∙ ap Some f)
      pick c e (inr n) = inr (λ (l, (d, q, t)). n (same_char cs (suc i - 1) c d e q ∙ thirteen d t))

      go : (slice_get cs (suc i - 1) ≡ None) ⊎ ((c : ℕ) × (slice_get cs (suc i - 1) ≡ Some c)) → AfterReturn (suc i) ⊎ (Behind cs (λ c. c == 13) (suc i) → ⊥)
      go (inl e) = inr (λ b. no_stand_end cs (λ c. c == 13) (suc i - 1) e b.1)
      go (inr (c, e)) = pick c e (cases_eq c 13)

  pub brk_onward : (i j : ℕ) → line_brk cs i j → i < j
  brk_onward i j (inl (h, e)) = omega (arith, e)
  brk_onward i j (inr (inl (h, g, e))) = omega (arith, e)
  brk_onward i j (inr (inr (h, g, e))) = omega (arith, e)

  apart_10_13 : (i : ℕ) → slice_get cs i ≡ Some 10 → slice_get cs i ≡ Some 13 → ⊥
  apart_10_13 i h g = let e : 10 ≡ 13 = same_char cs i 10 13 h g in omega (arith, e)

  pub brk_same : SameEnd (line_brk cs)
  brk_same i j k (inl (h, e)) (inl (g, f)) = e ∙ sym f
  brk_same i j k (inl (h, e)) (inr (inl (g, a, f))) = absurd (apart_10_13 i h g)
  brk_same i j k (inl (h, e)) (inr (inr (g, a, f))) = absurd (apart_10_13 i h g)
  brk_same i j k (inr (inl (h, b, e))) (inl (g, f)) = absurd (apart_10_13 i g h)
  brk_same i j k (inr (inl (h, b, e))) (inr (inl (g, a, f))) = e ∙ sym f
  brk_same i j k (inr (inl (h, b, e))) (inr (inr (g, a, f))) = absurd (a b)
  brk_same i j k (inr (inr (h, b, e))) (inl (g, f)) = absurd (apart_10_13 i g h)
  brk_same i j k (inr (inr (h, b, e))) (inr (inl (g, a, f))) = absurd (b a)
  brk_same i j k (inr (inr (h, b, e))) (inr (inr (g, a, f))) = e ∙ sym f

  space_stands : (i : ℕ) → Stands cs is_space i → Stands cs is_white i
  space_stands i (c, h, t) = (c, h, space_is_white c t)

  pub spaces_white : (i j : ℕ) → run cs is_space i j → run cs is_white i j
  spaces_white i j (h, s) = (h, λ k a b. space_stands k (s k a b))

  pub run_join : (p : ℕ → Bool) (i k j : ℕ) → run cs p i k → run cs p k j → run cs p i j
  run_join p i k j (a, f) (b, g) = (omega (arith, a, b), λ m x y. go m x y (f m x) (λ z. g m z y))
    where
      go : (m : ℕ) → i ≤ m → m < j → (m < k → Stands cs p m) → (k ≤ m → Stands cs p m) → Stands cs p m
      go m x y f g = grind (arith, f, g, x, y)

  pub spaces_none : (i : ℕ) → indent cs 0 i i
  unfolding indent
  spaces_none i = (run_none cs is_space i, omega arith)

  pub spaces_more : (n i j k : ℕ) → indent cs n i j → slice_get cs j ≡ Some 32 → k ≡ j + 1 → indent cs (n + 1) i k
  unfolding indent
  spaces_more n i j k (r, e) h f = (run_more cs is_space i j k 32 r h space_here f, omega (arith, e, f))

  return_breaks : (i : ℕ) → slice_get cs i ≡ Some 13 → ((j : ℕ) → line_brk cs i j → ⊥) → ⊥
  return_breaks i h none = none (i + 1) (inr (inr (h, (λ g. none (i + 2) (inr (inl (h, g, refl)))), refl)))

  not_white : (c : ℕ) → (is_white c ≡ true → ⊥) → c ≢ 10 → c ≢ 13 → is_ns c ≡ true
  unfolding is_white is_ns is_nb is_break
  not_white c w a b = grind (arith, w, a, b)

  pub ns_here : (i c : ℕ) → slice_get cs i ≡ Some c → NoWhite i → ((j : ℕ) → line_brk cs i j → ⊥) → Ns i
  ns_here i c h stop none =
      (c, h, not_white c (λ w. stop (c, h, w)) (λ e. none (i + 1) (inl (h ∙ ap Some e, refl))) (λ e. return_breaks i (h ∙ ap Some e) none))

  pub ns_nowhere : (i : ℕ) → slice_get cs i ≡ None → Ns i → ⊥
  ns_nowhere i h = no_stand_end cs is_ns i h

  pub brk_line : (i j : ℕ) → brk cs i j → line_brk cs i j
  unfolding brk
  brk_line i j (inl (k, (h, e), (g, f))) = inr (inl (h, subst (λ x. slice_get cs x ≡ Some 10) e g, omega (arith, e, f)))
  brk_line i j (inr (inl (k, (h, e), (f, n)))) = inr (inr (h, (λ g. n (subst (Stands cs (λ c. c == 10)) (sym e) (10, g, refl))), f ∙ e))
  brk_line i j (inr (inr (k, (f, n), (h, e)))) = inl (subst (λ x. slice_get cs x ≡ Some 10) f h, omega (arith, e, f))

  pub starts_line : (i j : ℕ) → line_brk cs i j → StartsLine cs j
  unfolding StartsLine brk
  starts_line i j (inl (h, e)) = elim (decide_behind i) [
    | inl b ↦ inr (i - 1, inl (i, (b.1, omega (arith, b.0)), (h, e)))
    | inr n ↦ inr (i, inr (inr (i, (refl, n), (h, e))))
  ]
  starts_line i j (inr (inl (h, g, e))) = inr (i, inl (i + 1, (h, refl), (g, omega (arith, e))))
  starts_line i j (inr (inr (h, g, e))) = inr (i, inr (inl (i + 1, (h, refl), (e, λ (c, q, t). g (q ∙ ap Some (ten c t))))))

  pub line_zero : (i : ℕ) → i ≡ 0 → StartsLine cs i
  unfolding StartsLine
  line_zero i e = inl e

  -- a line does not start after a white or a character of text
  pub inside_line : (i j : ℕ) → j ≡ i + 1 → (slice_get cs i ≡ Some 10 → ⊥) → (slice_get cs i ≡ Some 13 → ⊥) → StartsLine cs j → ⊥
  unfolding StartsLine
  inside_line i j e a b (inl z) = absurd (omega (arith, e, z))
  inside_line i j e a b (inr (k, r)) = go (brk_line k j r)
    where
      go : line_brk cs k j → ⊥
      go (inl (h, f)) = a (subst (λ x. slice_get cs x ≡ Some 10) (let g : k ≡ i = omega (arith, e, f) in g) h)
      go (inr (inl (h, g, f))) = a (subst (λ x. slice_get cs x ≡ Some 10) (let g : k + 1 ≡ i = omega (arith, e, f) in g) g)
      go (inr (inr (h, g, f))) = b (subst (λ x. slice_get cs x ≡ Some 13) (let g : k ≡ i = omega (arith, e, f) in g) h)

  pub after_white : (i j : ℕ) → run cs is_white i j → i < j → StartsLine cs j → ⊥
  after_white i j (a, f) l s =
      let d : i ≤ pred j = omega (arith, l) in
      let e : pred j < j = omega (arith, l) in
      let w = f (pred j) d e in
      inside_line (pred j) j (omega (arith, l)) (λ h. no_stand cs is_white (pred j) 10 h break_no_white w) (λ h. no_stand cs is_white (pred j) 13 h return_no_white w) s

  pub mark_starts : (i : ℕ) → DocumentMark cs i → StartsLine cs i
  unfolding DocumentMark DocumentMarkOf
  mark_starts i (inl m) = m.0
  mark_starts i (inr m) = m.0

  pub mark_dashes_of : (c i : ℕ) → DocumentMarkOf cs c i → DashesOf cs c i
  unfolding DocumentMarkOf
  mark_dashes_of c i (s, (j, (k, (h, e), (l, (g, f), (m, (d, t), u)))), after) =
      (h, subst (λ x. slice_get cs x ≡ Some c) e g, subst (λ x. slice_get cs x ≡ Some c) (let q : l ≡ i + 2 = omega (arith, e, f) in q) d, ends after)
    where
      ends : Stands cs is_white (i + 3) ⊎ Stands cs is_break (i + 3) ⊎ AtEnd cs (i + 3) → Stands cs is_ns (i + 3) → ⊥
      ends (inl w) s = ns_stops (i + 3) s w
      ends (inr (inl b)) s = ns_no_break (i + 3) s b
      ends (inr (inr e)) s = no_stand_end cs is_ns (i + 3) (slice_get_past cs (i + 3) (omega (arith, e))) s

  pub mark_is_of : (c i : ℕ) → StartsLine cs i → DashesOf cs c i → DocumentMarkOf cs c i
  unfolding DocumentMarkOf
  mark_is_of c i s (h, g, d, none) =
      (s, (i + 3, (i + 1, (h, refl), (i + 2, (g, omega arith), (i + 3, (d, omega arith), refl)))), after_is (i + 3) (let l = slice_get_within cs (i + 2) c d in omega (arith, l)) none)

  pub mark_dashes : (i : ℕ) → DocumentMark cs i → LooksLikeMarker cs i
  unfolding DocumentMark
  mark_dashes i (inl m) = inl (mark_dashes_of 45 i m)
  mark_dashes i (inr m) = inr (mark_dashes_of 46 i m)

  pub mark_is : (i : ℕ) → StartsLine cs i → LooksLikeMarker cs i → DocumentMark cs i
  unfolding DocumentMark
  mark_is i s (inl d) = inl (mark_is_of 45 i s d)
  mark_is i s (inr d) = inr (mark_is_of 46 i s d)

  -- what stands before the start of a line
  pub before_line : (j : ℕ) → 0 < j → StartsLine cs j → (i : ℕ) × (c : ℕ) × (slice_get cs i ≡ Some c) × (c < 128) × (j ≡ i + 1) × line_brk cs i j
  unfolding StartsLine
  before_line j l (inl e) = absurd (omega (arith, l, e))
  before_line j l (inr (k, r)) = go (brk_line k j r)
    where
      go : line_brk cs k j → (i : ℕ) × (c : ℕ) × (slice_get cs i ≡ Some c) × (c < 128) × (j ≡ i + 1) × line_brk cs i j
      go (inl (h, e)) = (k, 10, h, omega arith, e, inl (h, e))
      go (inr (inl (h, g, e))) = (k + 1, 10, g, omega arith, omega (arith, e), inl (g, omega (arith, e)))
      go (inr (inr (h, g, e))) = (k, 13, h, omega arith, e, inr (inr (h, g, e)))

  abbrev pub Blank : Span
  Blank i j = (k : ℕ) → i ≤ k → k < j → Ns k → ⊥

  pub blank_join : (i k j : ℕ) → Blank i k → Blank k j → Blank i j
  blank_join i k j f g m a b = go (f m a) (λ h. g m h b)
    where
      go : (m < k → Ns m → ⊥) → (k ≤ m → Ns m → ⊥) → Ns m → ⊥
      go f g s = elim (cases_lt m k) [ inl h ↦ f h s | inr h ↦ g h s ]

  pub blank_white_run : (i j : ℕ) → run cs is_white i j → Blank i j
  blank_white_run i j r k a b s = ns_stops k s (r.1 k a b)

  pub blank_brk : (i j : ℕ) → line_brk cs i j → Blank i j
  blank_brk i j (inl (h, e)) k a b = subst (λ x. Ns x → ⊥) (let f : i ≡ k = omega (arith, a, b, e) in f) (no_stand cs is_ns i 10 h break_no_ns)
  blank_brk i j (inr (inr (h, g, e))) k a b = subst (λ x. Ns x → ⊥) (let f : i ≡ k = omega (arith, a, b, e) in f) (no_stand cs is_ns i 13 h return_no_ns)
  blank_brk i j (inr (inl (h, g, e))) k a b =
      elim (cases_lt k (i + 1)) [
        | inl l ↦ subst (λ x. Ns x → ⊥) (let f : i ≡ k = omega (arith, a, l) in f) (no_stand cs is_ns i 13 h return_no_ns)
        | inr l ↦ subst (λ x. Ns x → ⊥) (let f : i + 1 ≡ k = omega (arith, b, l, e) in f) (no_stand cs is_ns (i + 1) 10 g break_no_ns)
      ]

  dash_ns : is_ns 45 ≡ true
  unfolding is_ns is_nb is_break is_white
  dash_ns = refl

  dot_ns : is_ns 46 ≡ true
  unfolding is_ns is_nb is_break is_white
  dot_ns = refl

  pub mark_ns : (i : ℕ) → DocumentMark cs i → Ns i
  mark_ns i m = go (mark_dashes i m)
    where
      go : LooksLikeMarker cs i → Ns i
      go (inl d) = (45, d.0, dash_ns)
      go (inr d) = (46, d.0, dot_ns)

  pub unmarked_blank : (i j : ℕ) → Blank i j → Unmarked cs i j
  unmarked_blank i j b k x y m = b k x y (mark_ns k m)

  pub unmarked_join : (i k j : ℕ) → Unmarked cs i k → Unmarked cs k j → Unmarked cs i j
  unmarked_join i k j f g m a b = go (f m a) (λ h. g m h b)
    where
      go : (m < k → DocumentMark cs m → ⊥) → (k ≤ m → DocumentMark cs m → ⊥) → DocumentMark cs m → ⊥
      go f g s = elim (cases_lt m k) [ inl h ↦ f h s | inr h ↦ g h s ]

  pub unmarked_one : (i j : ℕ) → j ≡ i + 1 → (DocumentMark cs i → ⊥) → Unmarked cs i j
  unmarked_one i j e n k a b = subst (λ x. DocumentMark cs x → ⊥) (let f : i ≡ k = omega (arith, a, b, e) in f) n

  -- the place just after a character of text
  abbrev pub AfterNs : ℕ → Type 0
  AfterNs j = (i : ℕ) × (j ≡ i + 1) × Ns i

  pub after_ns : (j : ℕ) → AfterNs j → DocumentMark cs j → ⊥
  after_ns j (i, e, s) m =
      inside_line i j e (λ h. no_stand cs is_ns i 10 h break_no_ns s) (λ h. no_stand cs is_ns i 13 h return_no_ns s) (mark_starts j m)
