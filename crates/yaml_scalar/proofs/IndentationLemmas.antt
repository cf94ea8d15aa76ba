-- The indentation of a block scalar's content: one at most.
use Rattle.std.proofs.Common.{◌≡◌, ◌≢◌, ℕ, ◌+◌, ◌-◌, ◌<◌, ◌≤◌, ◌⊎◌, inl, inr, List, [], ◌∷◌, ◌++◌, max, Option, Some, None, true, false, not, ◌&&◌, refl, sym, ◌∙◌, ap, subst, arith}
use Rattle.std.proofs.lemmas.List.{append-nil}
use Rattle.yaml_definitions.specs.grammar.Rules.{Rule, ◌◂◌, run, Stands, how_many, seen}
use Rattle.yaml_definitions.specs.grammar.Characters.{is_space, is_nb, is_break, b-break as brk}
use Rattle.yaml_definitions.specs.grammar.Separation.{AtEnd, DocumentMark, DocumentMarkOf, s-indent-less-than as less}
use Rattle.yaml_definitions.specs.grammar.BlockScalars.{space_lines, NoSpace, LessIndented, greatest, found_indentation, longest_indentation, indentation}
use Rattle.yaml_text.specs.LeafAnswer.{Unread}
use Rattle.yaml_text.proofs.Runs.{same_char, run_none, run_same}
use Rattle.yaml_text.proofs.LineRuns.{end_stops, brk_same, brk_stops, brk_no_end}
use Rattle.yaml_text.proofs.RestLemmas.{space_feed, space_return}
use Rattle.yaml_text.proofs.Repeats.{SameRule, any_to_stop}

no_space_class : (c : ℕ) → is_space c ≡ true → (is_nb c && not (is_space c)) ≡ true → ⊥
no_space_class c s t = grind (arith, s, t)

pub nb_no_space : (c : ℕ) → is_nb c ≡ true → is_space c ≡ false → (is_nb c && not (is_space c)) ≡ true
nb_no_space c s t = grind (arith, s, t)

dash_class : (is_nb 45 && not (is_space 45)) ≡ true
unfolding is_nb is_break is_space
dash_class = refl

dot_class : (is_nb 46 && not (is_space 46)) ≡ true
unfolding is_nb is_break is_space
dot_class = refl

feed_class : (is_nb 10 && not (is_space 10)) ≡ false
unfolding is_nb is_break is_space
feed_class = refl

return_class : (is_nb 13 && not (is_space 13)) ≡ false
unfolding is_nb is_break is_space
return_class = refl

-- the greatest of the numbers so far
pub greatest_push : (ms : List ℕ) (m : ℕ) → greatest (ms ++ m ∷ []) ≡ max (greatest ms) m
greatest_push [] m = omega arith
greatest_push (n ∷ ms) m = let h = greatest_push ms m in omega (arith, h)

module _ (cs : List ℕ) where
  abbrev pub space_line : Rule (List ℕ)
  space_line = seen (λ m. m ∷ []) (how_many cs is_space) ◂ brk cs

  -- a line is a line of spaces
  pub space_line_same : SameRule space_line
  space_line_same i j k v w (l, (m, (r, e), f), b) (n, (p, (s, g), h), c) =
      let at : l ≡ n = run_same cs is_space i l n r s (brk_stops cs is_space space_feed space_return l j b) (brk_stops cs is_space space_feed space_return n k c) in
      let num : m ≡ p = omega (arith, e, g, at) in
      (brk_same cs n j k (subst (λ x. brk cs x j) at b) c, f ∙ ap (λ x. x ∷ []) num ∙ sym h)

  pub no_space_stops : (q : ℕ) → NoSpace cs q → Stands cs is_space q → ⊥
  no_space_stops q (c, h, t) (d, g, s) = no_space_class c (ap is_space (same_char cs q c d h g) ∙ s) t

  -- after its spaces a line has another character, or ends with the stream
  abbrev pub Stuck : ℕ → Type 0
  Stuck i = (q : ℕ) × run cs is_space i q × (NoSpace cs q ⊎ AtEnd cs q)

  stuck_stops : (q : ℕ) → NoSpace cs q ⊎ AtEnd cs q → Stands cs is_space q → ⊥
  stuck_stops q (inl n) = no_space_stops q n
  stuck_stops q (inr e) = end_stops cs is_space q e

  pub no_space_no_brk : (q j : ℕ) → NoSpace cs q → brk cs q j → ⊥
  no_space_no_brk q j n b = brk_stops cs (λ c. is_nb c && not (is_space c)) feed_class return_class q j b n

  pub no_space_no_end : (q : ℕ) → NoSpace cs q → AtEnd cs q → ⊥
  no_space_no_end q n e = end_stops cs (λ c. is_nb c && not (is_space c)) q e n

  pub stuck_no_line : (i j : ℕ) (v : List ℕ) → space_line i j v → Stuck i → ⊥
  stuck_no_line i j v (l, (m, (r, e), f), b) (q, s, n) =
      let at : l ≡ q = run_same cs is_space i l q r s (brk_stops cs is_space space_feed space_return l j b) (stuck_stops q n) in
      go n (subst (λ x. brk cs x j) at b)
    where
      go : NoSpace cs q ⊎ AtEnd cs q → brk cs q j → ⊥
      go (inl n) b = no_space_no_brk q j n b
      go (inr e) b = brk_no_end cs q j b e

  pub mark_no_space : (i : ℕ) → DocumentMark cs i → NoSpace cs i
  unfolding DocumentMark DocumentMarkOf
  mark_no_space i (inl (s, (j, (k, (h, e), w)), t)) = (45, h, dash_class)
  mark_no_space i (inr (s, (j, (k, (h, e), w)), t)) = (46, h, dot_class)

  pub mark_stuck : (i : ℕ) → DocumentMark cs i → Stuck i
  mark_stuck i m = (i, run_none cs is_space i, inl (mark_no_space i m))

  -- fewer than k spaces and then another character
  pub less_is : (k i : ℕ) → LessIndented cs k i → (q : ℕ) × run cs is_space i q × (q < i + k) × NoSpace cs q
  unfolding less
  less_is k i (e, (a, (f, m), (b, (l, r), (g, n)))) =
      (b, subst (λ x. run cs is_space x b) f r, omega (arith, l, f), n)

  pub less_stuck : (k i : ℕ) → LessIndented cs k i → Stuck i
  less_stuck k i l = let d = less_is k i l in (d.0, d.1, inl d.3)

  pub to_less : (k i q : ℕ) → (DocumentMark cs i → ⊥) → run cs is_space i q → q < i + k → NoSpace cs q → LessIndented cs k i
  unfolding less
  to_less k i q m r l n = (q, (i, (refl, m), (q, (l, r), (refl, n))))

  -- ---- the two ways to find it

  -- where the search ends, with what it gives
  pub data Found (col i k : ℕ) : Type 0 where
    at_line : (p q : ℕ) (ms : List ℕ) → space_lines cs i p ms → col ≤ k → greatest ms ≤ k → (DocumentMark cs p → ⊥) →
        run cs is_space p q → q ≡ p + k → NoSpace cs q → Found col i k
    at_less : (p : ℕ) (ms : List ℕ) → space_lines cs i p ms → LessIndented cs col p → k ≡ max col (greatest ms) → Found col i k
    at_mark : (p : ℕ) (ms : List ℕ) → space_lines cs i p ms → DocumentMark cs p → k ≡ max col (greatest ms) → Found col i k
    at_end : (p q : ℕ) (ms : List ℕ) → space_lines cs i p ms → run cs is_space p q → AtEnd cs q → k ≡ max (max col (greatest ms)) (q - p) → Found col i k

  pub found_of : (col i j k : ℕ) → indentation cs col None i j k → Found col i k
  unfolding indentation found_indentation longest_indentation
  found_of col i j k (e, f, inl (p, ms, a, ((b, c), (o, (x, m), (q, (r, y), (z, n)))))) =
      at_line p q ms a b c m (subst (λ v. run cs is_space v q) x r) (omega (arith, x, y)) n
  found_of col i j k (e, f, inr (p, ns, (l, ms, os, a, b, g), (q, (x, c), (y, z)))) = last b c
    where
      whole : os ≡ [] → ns ≡ ms
      whole h = g ∙ ap (λ v. ms ++ v) h ∙ append-nil ms

      pick : l ≡ p → greatest ns ≡ greatest ms → LessIndented cs col p ⊎ DocumentMark cs p ⊎ AtEnd cs p → Found col i k
      pick h u (inl d) = at_less l ms a (subst (LessIndented cs col) (sym h) d) (z ∙ ap (max col) u)
      pick h u (inr (inl d)) = at_mark l ms a (subst (DocumentMark cs) (sym h) d) (z ∙ ap (max col) u)
      pick h u (inr (inr d)) = at_end l l ms a (run_none cs is_space l) (h ∙ d) (omega (arith, z, u))

      last : ((p ≡ l) × (os ≡ [])) ⊎ ((t : ℕ) × ((m : ℕ) × (run cs is_space l t × (t ≡ l + m)) × (os ≡ m ∷ [])) × ((p ≡ t) × AtEnd cs t)) →
          LessIndented cs col p ⊎ DocumentMark cs p ⊎ AtEnd cs p → Found col i k
      last (inl (h, u)) c = pick (sym h) (ap greatest (whole u)) c
      last (inr (t, (m, (r, h), u), (v, w))) c =
          let big : greatest ns ≡ max (greatest ms) m = ap greatest (g ∙ ap (λ d. ms ++ d) u) ∙ greatest_push ms m in
          at_end l t ms a r w (omega (arith, z, big, h))

  -- the first line that is no line of spaces
  stuck_at : (col i k : ℕ) → Found col i k → (p : ℕ) × (ms : List ℕ) × space_lines cs i p ms × Stuck p
  stuck_at col i k (at_line p q ms a b c m r e n) = (p, ms, a, (q, r, inl n))
  stuck_at col i k (at_less p ms a l e) = (p, ms, a, less_stuck col p l)
  stuck_at col i k (at_mark p ms a m e) = (p, ms, a, mark_stuck p m)
  stuck_at col i k (at_end p q ms a r n e) = (p, ms, a, (q, r, inr n))

  pub found_lines : (i p o : ℕ) (ms ns : List ℕ) → space_lines cs i p ms → Stuck p → space_lines cs i o ns → Stuck o → (p ≡ o) × (ms ≡ ns)
  found_lines i p o ms ns a s b t = any_to_stop space_line_same Stuck stuck_no_line a s b t

  -- whatever stands there is one of the four
  same_place : (col k l p q r : ℕ) → run cs is_space p q → NoSpace cs q ⊎ AtEnd cs q → run cs is_space p r → NoSpace cs r ⊎ AtEnd cs r → q ≡ r
  same_place col k l p q r s a t b = run_same cs is_space p q r s t (stuck_stops q a) (stuck_stops r b)

  not_both : (q : ℕ) → NoSpace cs q → AtEnd cs q → ⊥
  not_both q n e = no_space_no_end q n e

  -- the same lines before
  gather : (col i k l p o : ℕ) (ms ns : List ℕ) → p ≡ o → ms ≡ ns → k ≡ max col (greatest ms) → l ≡ max col (greatest ns) → k ≡ l
  gather col i k l p o ms ns e f a b = a ∙ ap (λ x. max col (greatest x)) f ∙ sym b

  -- no line that ends the search is another
  pub line_less : (col k p q : ℕ) → col ≤ k → run cs is_space p q → q ≡ p + k → NoSpace cs q → LessIndented cs col p → ⊥
  line_less col k p q c r e n l =
      let d = less_is col p l in
      let at : q ≡ d.0 = same_place 0 0 0 p q d.0 r (inl n) d.1 (inl d.3) in
      let less : d.0 < p + col = d.2 in
      omega (arith, at, less, e, c)

  pub line_end_apart : (p q r : ℕ) → run cs is_space p q → NoSpace cs q → run cs is_space p r → AtEnd cs r → ⊥
  line_end_apart p q r s n t e = let at : q ≡ r = same_place 0 0 0 p q r s (inl n) t (inr e) in not_both r (subst (NoSpace cs) at n) e

  found_same : (col i k l : ℕ) → Found col i k → Found col i l → k ≡ l
  found_same col i k l a b =
      let s = stuck_at col i k a in
      let t = stuck_at col i l b in
      go a b (λ p o ms ns x y z w. found_lines i p o ms ns x y z w)
    where
      go : Found col i k → Found col i l →
          ((p o : ℕ) (ms ns : List ℕ) → space_lines cs i p ms → Stuck p → space_lines cs i o ns → Stuck o → (p ≡ o) × (ms ≡ ns)) → k ≡ l
      go (at_line p q ms a b c m r e n) (at_line o u ns f g h x s y z) same =
          let one = same p o ms ns a (q, r, inl n) f (u, s, inl z) in
          let at : q ≡ u = same_place 0 0 0 o q u (subst (λ v. run cs is_space v q) one.0 r) (inl n) s (inl z) in
          omega (arith, at, one.0, e, y)
      go (at_line p q ms a b c m r e n) (at_less o ns f d y) same =
          let one = same p o ms ns a (q, r, inl n) f (less_stuck col o d) in
          absurd (line_less col k p q b r e n (subst (LessIndented cs col) (sym one.0) d))
      go (at_line p q ms a b c m r e n) (at_mark o ns f d y) same =
          let one = same p o ms ns a (q, r, inl n) f (mark_stuck o d) in
          absurd (m (subst (DocumentMark cs) (sym one.0) d))
      go (at_line p q ms a b c m r e n) (at_end o u ns f s z y) same =
          let one = same p o ms ns a (q, r, inl n) f (u, s, inr z) in
          absurd (line_end_apart p q u r n (subst (λ v. run cs is_space v u) (sym one.0) s) z)
      go (at_less p ms a d e) (at_line o u ns f g h x s y z) same =
          let one = same p o ms ns a (less_stuck col p d) f (u, s, inl z) in
          absurd (line_less col l o u g s y z (subst (LessIndented cs col) one.0 d))
      go (at_less p ms a d e) (at_less o ns f c y) same =
          let one = same p o ms ns a (less_stuck col p d) f (less_stuck col o c) in gather col i k l p o ms ns one.0 one.1 e y
      go (at_less p ms a d e) (at_mark o ns f c y) same =
          let one = same p o ms ns a (less_stuck col p d) f (mark_stuck o c) in gather col i k l p o ms ns one.0 one.1 e y
      go (at_less p ms a d e) (at_end o u ns f s z y) same =
          let one = same p o ms ns a (less_stuck col p d) f (u, s, inr z) in
          let w = less_is col p d in
          absurd (line_end_apart p w.0 u w.1 w.3 (subst (λ v. run cs is_space v u) (sym one.0) s) z)
      go (at_mark p ms a d e) (at_line o u ns f g h x s y z) same =
          let one = same p o ms ns a (mark_stuck p d) f (u, s, inl z) in
          absurd (x (subst (DocumentMark cs) one.0 d))
      go (at_mark p ms a d e) (at_less o ns f c y) same =
          let one = same p o ms ns a (mark_stuck p d) f (less_stuck col o c) in gather col i k l p o ms ns one.0 one.1 e y
      go (at_mark p ms a d e) (at_mark o ns f c y) same =
          let one = same p o ms ns a (mark_stuck p d) f (mark_stuck o c) in gather col i k l p o ms ns one.0 one.1 e y
      go (at_mark p ms a d e) (at_end o u ns f s z y) same =
          let one = same p o ms ns a (mark_stuck p d) f (u, s, inr z) in
          absurd (line_end_apart p p u (run_none cs is_space p) (mark_no_space p d) (subst (λ v. run cs is_space v u) (sym one.0) s) z)
      go (at_end p q ms a r n e) (at_line o u ns f g h x s y z) same =
          let one = same p o ms ns a (q, r, inr n) f (u, s, inl z) in
          absurd (line_end_apart o u q s z (subst (λ v. run cs is_space v q) one.0 r) n)
      go (at_end p q ms a r n e) (at_less o ns f c y) same =
          let one = same p o ms ns a (q, r, inr n) f (less_stuck col o c) in
          let w = less_is col o c in
          absurd (line_end_apart o w.0 q w.1 w.3 (subst (λ v. run cs is_space v q) one.0 r) n)
      go (at_end p q ms a r n e) (at_mark o ns f c y) same =
          let one = same p o ms ns a (q, r, inr n) f (mark_stuck o c) in
          absurd (line_end_apart o o q (run_none cs is_space o) (mark_no_space o c) (subst (λ v. run cs is_space v q) one.0 r) n)
      go (at_end p q ms a r n e) (at_end o u ns f s z y) same =
          let one = same p o ms ns a (q, r, inr n) f (u, s, inr z) in
          let at : q ≡ u = omega (arith, n, z) in
          let big : greatest ms ≡ greatest ns = ap greatest one.1 in
          omega (arith, at, one.0, big, e, y)

  found_here : (col i j k : ℕ) → indentation cs col None i j k → j ≡ i
  unfolding indentation
  found_here col i j k (e, f, r) = e

  given_here : (col d i j k : ℕ) → indentation cs col (Some d) i j k → (j ≡ i) × (0 < col) × (k ≡ col - 1 + d)
  unfolding indentation
  given_here col d i j k (o, (e, l), (f, g)) = (f ∙ e, l, g)

  pub indentation_same : (col : ℕ) (d : Option ℕ) (i j e k l : ℕ) → indentation cs col d i j k → indentation cs col d i e l → (j ≡ e) × (k ≡ l)
  indentation_same col None i j e k l a b =
      (found_here col i j k a ∙ sym (found_here col i e l b), found_same col i k l (found_of col i j k a) (found_of col i e l b))
  indentation_same col (Some d) i j e k l a b =
      let x = given_here col d i j k a in
      let y = given_here col d i e l b in
      (x.0 ∙ sym y.0, x.2 ∙ sym y.2)

  pub indentation_here : (col : ℕ) (d : Option ℕ) (i j k : ℕ) → indentation cs col d i j k → j ≡ i
  indentation_here col None i j k a = found_here col i j k a
  indentation_here col (Some d) i j k a = (given_here col d i j k a).0

  -- by a digit
  pub given_is : (col d i : ℕ) (o : Option ℕ) → o ≡ Some d → col ≢ 0 → indentation cs col o i i (col - 1 + d)
  unfolding indentation
  given_is col d i o e n = subst (λ v. indentation cs col v i i (col - 1 + d)) (sym e) (i, (refl, omega (arith, n)), (refl, refl))

  -- a digit on a root
  pub given_none : (col d i : ℕ) (o : Option ℕ) → o ≡ Some d → col ≡ 0 → Unread (indentation cs col o) i
  given_none col d i o e z j k r = let x = (given_here col d i j k (subst (λ v. indentation cs col v i j k) e r)).1 in omega (arith, x, z)
