-- Where the lines of a block scalar begin, and what each line is, from what the code reads.
use Rattle.std.proofs.Common.{◌≡◌, ℕ, ◌+◌, ◌<◌, ◌≤◌, ◌⊎◌, inl, inr, List, [], ◌∷◌, ◌++◌, max, length, replicate, Some, None, Bool, true, false, refl, sym, ◌∙◌, ap, subst, arith, length-append}
use Rattle.std.specs.Prelude.{slice_get, slice_range}
use Rattle.std.proofs.lemmas.List.{append-nil}
use Rattle.yaml_definitions.specs.grammar.Rules.{run, Stands, Any, done, then}
use Rattle.yaml_definitions.specs.grammar.Characters.{is_space, is_nb, b-break as brk}
use Rattle.yaml_definitions.specs.grammar.Separation.{AtEnd, DocumentMark, s-indent as indent, b-comment as line_end}
use Rattle.yaml_definitions.specs.grammar.BlockScalars.{Line, blank, content_line, NoSpace, LessIndented, space_lines, greatest, found_indentation, longest_indentation, indentation, blank_line, text_line}
use Rattle.yaml_text.specs.LeafAnswer.{Unread}
use Rattle.yaml_text.specs.Lines.{line_brk}
use Rattle.yaml_scalar.specs.BlockRules.{NoSpaceLine, lines_over}
use Rattle.yaml_text.specs.Lines.{Uncut}
use Rattle.yaml_text.proofs.Runs.{run_same}
use Rattle.yaml_text.proofs.LineRuns.{indent_run, indent_place, spaces_uncut, to_brk, nb_here, line_end_stops, brk_onward, end_stops}
use Rattle.yaml_text.proofs.Breaks.{run_join}
use Rattle.yaml_text.proofs.RestLemmas.{nb_feed, nb_return, space_feed, space_return}
use Rattle.yaml_text.proofs.Repeats.{any_push, any_start}
use Rattle.yaml_scalar.proofs.IndentationLemmas.{space_line, greatest_push, nb_no_space, to_less, Found, at_line, at_less, at_mark, at_end, found_of, found_lines, less_stuck, mark_stuck, line_less, line_end_apart, no_space_stops, no_space_no_brk, no_space_no_end}
use Rattle.yaml_scalar.proofs.LineLemmas.{Blank, Text, Tail, broken, last, blank_of, to_blank, text_of, to_text, no_blank_at, no_blank_end, tail_stops}

module _ (cs : List ℕ) where
  -- ---- the search for the indentation

  -- the lines of spaces so far, with the greatest number and how many there are
  pub record Searched (col i here longest count : ℕ) : Type 0 where
    pub widths : List ℕ
    pub lines : space_lines cs i here widths
    pub longest_is : longest ≡ max col (greatest widths)
    pub count_is : count ≡ length widths

  pub search_start : (col i : ℕ) → Searched col i i col 0
  search_start col i = record { widths = []; lines = any_start; longest_is = omega arith; count_is = refl }

  pub search_more : (col i p q j n longest count : ℕ) → Searched col i p longest count → indent cs n p q → Uncut cs p → line_brk cs q j →
      Searched col i j (max longest n) (count + 1)
  search_more col i p q j n longest count s d u b = record {
    widths = s.widths ++ n ∷ [];
    lines = any_push s.lines (q, (n, (indent_run cs n p q d, indent_place cs n p q d), refl), to_brk cs q j (spaces_uncut cs p q (indent_run cs n p q d) u) b);
    longest_is = let h = s.longest_is in omega (arith, h, greatest_push s.widths n);
    count_is = let h = s.count_is in omega (arith, h, length-append s.widths (n ∷ []));
  }

  -- what stands after the spaces of the first other line
  pub no_space_at : (m c : ℕ) → slice_get cs m ≡ Some c → (Stands cs is_space m → ⊥) → ((j : ℕ) → line_brk cs m j → ⊥) → NoSpace cs m
  no_space_at m c h stop none = go (nb_here cs m c h none)
    where
      go : Stands cs is_nb m → NoSpace cs m
      go (d, g, t) = (d, g, nb_no_space d t (no_class (is_space d) refl))
        where
          no_class : (b : Bool) → is_space d ≡ b → is_space d ≡ false
          no_class true e = absurd (stop (d, g, e))
          no_class false e = e

  pub found_end : (col i p q n longest count k : ℕ) → Searched col i p longest count → indent cs n p q → AtEnd cs q → k ≡ max longest n → indentation cs col None i i k
  unfolding indentation longest_indentation
  found_end col i p q n longest count k s d e f = (
    refl,
    q,
    inr (
      q,
      s.widths ++ n ∷ [],
      (p, s.widths, n ∷ [], s.lines, inr (q, (n, (indent_run cs n p q d, indent_place cs n p q d), refl), (refl, e)), refl),
      (q, (refl, inr (inr e)), (refl, omega (arith, f, h, greatest_push s.widths n))),
    ),
  )
    where
      h : longest ≡ max col (greatest s.widths)
      h = s.longest_is

  longest_at : (col i p longest count : ℕ) → Searched col i p longest count → LessIndented cs col p ⊎ DocumentMark cs p ⊎ AtEnd cs p → indentation cs col None i i longest
  unfolding indentation longest_indentation
  longest_at col i p longest count s e =
      (refl, p, inr (p, s.widths, (p, s.widths, [], s.lines, inl (refl, refl), sym (append-nil s.widths)), (p, (refl, e), (refl, s.longest_is))))

  pub found_mark : (col i p longest count : ℕ) → Searched col i p longest count → DocumentMark cs p → indentation cs col None i i longest
  found_mark col i p longest count s m = longest_at col i p longest count s (inr (inl m))

  pub found_less : (col i p q n longest count : ℕ) → Searched col i p longest count → indent cs n p q → n < col → NoSpace cs q → (DocumentMark cs p → ⊥) → indentation cs col None i i longest
  found_less col i p q n longest count s d l e m =
      longest_at col i p longest count s (inl (to_less cs col p q m (indent_run cs n p q d) (let h = indent_place cs n p q d in omega (arith, h, l)) e))

  pub found_line : (col i p q n longest count : ℕ) → Searched col i p longest count → indent cs n p q → col ≤ n → longest ≤ n → NoSpace cs q → (DocumentMark cs p → ⊥) → indentation cs col None i i n
  unfolding indentation found_indentation
  found_line col i p q n longest count s d l w e m =
      (refl, q, inl (p, s.widths, s.lines, ((l, omega (arith, w, h)), (p, (refl, m), (q, (indent_run cs n p q d, indent_place cs n p q d), (refl, e))))))
    where
      h : longest ≡ max col (greatest s.widths)
      h = s.longest_is

  -- a longer line of spaces stands before
  pub not_found : (col i p q n longest count : ℕ) → Searched col i p longest count → indent cs n p q → col ≤ n → n < longest → NoSpace cs q → (DocumentMark cs p → ⊥) → Unread (indentation cs col None) i
  not_found col i p q n longest count s d l w e m j k r = go (found_of cs col i j k r)
    where
      h : longest ≡ max col (greatest s.widths)
      h = s.longest_is

      r0 : run cs is_space p q
      r0 = indent_run cs n p q d

      at : q ≡ p + n
      at = indent_place cs n p q d

      go : Found cs col i k → ⊥
      go (at_line o u ns f g x y t z v) =
          let one = found_lines cs i p o s.widths ns s.lines (q, r0, inl e) f (u, t, inl v) in
          let to : q ≡ u = run_same cs is_space o q u (subst (λ b. run cs is_space b q) one.0 r0) t (no_space_stops cs q e) (no_space_stops cs u v) in
          let big : greatest s.widths ≡ greatest ns = ap greatest one.1 in
          omega (arith, one.0, to, big, x, z, at, h, w, l)
      go (at_less o ns f t z) =
          let one = found_lines cs i p o s.widths ns s.lines (q, r0, inl e) f (less_stuck cs col o t) in
          line_less cs col n p q l r0 at e (subst (LessIndented cs col) (sym one.0) t)
      go (at_mark o ns f t z) =
          let one = found_lines cs i p o s.widths ns s.lines (q, r0, inl e) f (mark_stuck cs o t) in
          m (subst (DocumentMark cs) (sym one.0) t)
      go (at_end o u ns f t z v) =
          let one = found_lines cs i p o s.widths ns s.lines (q, r0, inl e) f (u, t, inr z) in
          line_end_apart cs p q u r0 e (subst (λ b. run cs is_space b u) (sym one.0) t) z

  -- ---- what stands where the search ends

  solid : (k i q : ℕ) → run cs is_space i q → NoSpace cs q ⊎ (AtEnd cs q × (q ≤ i + k)) → NoSpaceLine cs k i
  solid k i q r e = (λ j v b. no_empty j v (blank_of cs k i j v b) e, λ j v t. to_text cs false k i j v (text_of cs true k i j v t) (inr (λ s. all_spaces j v (text_of cs true k i j v t) s e)))
    where
      stops : NoSpace cs q ⊎ (AtEnd cs q × (q ≤ i + k)) → Stands cs is_space q → ⊥
      stops (inl n) = no_space_stops cs q n
      stops (inr (z, l)) = end_stops cs is_space q z

      no_empty : (j : ℕ) (v : List Line) → Blank cs k i j v → NoSpace cs q ⊎ (AtEnd cs q × (q ≤ i + k)) → ⊥
      no_empty j v b (inl n) = no_blank_at cs k i j q v b r n
      no_empty j v b (inr (z, l)) = no_blank_end cs k i j q v b r z

      all_spaces : (j : ℕ) (v : List Line) (t : Text cs k i j v) → run cs is_space (i + k) t.stop → NoSpace cs q ⊎ (AtEnd cs q × (q ≤ i + k)) → ⊥
      all_spaces j v t s e = go e
        where
          at : t.stop ≡ q
          at = run_same cs is_space i t.stop q (run_join cs is_space i (i + k) t.stop t.spaces s) r (tail_stops cs is_space space_feed space_return t.stop j _ v t.ends) (stops e)

          ends : NoSpace cs q → Tail cs t.stop j (slice_range cs (i + k) t.stop) v → ⊥
          ends n (broken b f) = no_space_no_brk cs q j n (subst (λ x. brk cs x j) at b)
          ends n (last z f g) = no_space_no_end cs q n (sym at ∙ z)

          go : NoSpace cs q ⊎ (AtEnd cs q × (q ≤ i + k)) → ⊥
          go (inl n) = ends n t.ends
          go (inr (z, l)) = let m = t.some in omega (arith, at, m, l)

  pub solid_line : (k i q n : ℕ) → indent cs n i q → NoSpace cs q → NoSpaceLine cs k i
  solid_line k i q n d e = solid k i q (indent_run cs n i q d) (inl e)

  pub solid_end : (k i q n : ℕ) → indent cs n i q → n ≤ k → AtEnd cs q → NoSpaceLine cs k i
  solid_end k i q n d l e = solid k i q (indent_run cs n i q d) (inr (e, let h = indent_place cs n i q d in omega (arith, h, l)))

  -- ---- the lines of spaces are empty lines

  widths_empty : (k : ℕ) {p i : ℕ} {ms : List ℕ} → Any (space_line cs) p i ms → greatest ms ≤ k → Any (blank_line cs k) p i (replicate (length ms) blank)
  widths_empty k {p} {i} {ms} (done a b) l = done a (ap (λ v. replicate (length v) blank) b)
  widths_empty k {p} {i} {ms} (then m us vs (q, (n, (r, e), f), b) rest g) l =
      then m (blank ∷ []) (replicate (length vs) blank) (to_blank cs k i m (blank ∷ []) line) (widths_empty k rest (omega (arith, l, big)))
      (ap (λ v. replicate (length v) blank) whole)
    where
      whole : ms ≡ n ∷ vs
      whole = g ∙ ap (λ v. v ++ vs) f

      big : greatest ms ≡ max n (greatest vs)
      big = ap greatest whole

      line : Blank cs k i m (blank ∷ [])
      line = record { stop = q; spaces = r; few = omega (arith, e, l, big); ends = b; is = refl }

  pub searched_empty : (col i p longest count k : ℕ) → Searched col i p longest count → longest ≤ k → Any (blank_line cs k) p i (replicate count blank)
  searched_empty col i p longest count k s l =
      subst (λ n. Any (blank_line cs k) p i (replicate n blank)) (sym s.count_is)
      (widths_empty k s.lines (let h = s.longest_is in omega (arith, h, l)))

  -- ---- one line

  pub empty_is : (k i m j n : ℕ) → indent cs n i m → n ≤ k → Uncut cs i → line_brk cs m j → blank_line cs k i j (blank ∷ [])
  empty_is k i m j n d l u b = to_blank cs k i j (blank ∷ []) (record {
    stop = m;
    spaces = indent_run cs n i m d;
    few = let h = indent_place cs n i m d in omega (arith, h, l);
    ends = to_brk cs m j (spaces_uncut cs i m (indent_run cs n i m d) u) b;
    is = refl;
  })

  pub over_mark : (k i : ℕ) → DocumentMark cs i → lines_over cs k i i
  over_mark k i m = (i, inl refl, (refl, inr (inl m)))

  pub over_less : (k i m n : ℕ) → indent cs n i m → n < k → NoSpace cs m → (DocumentMark cs i → ⊥) → lines_over cs k i i
  over_less k i m n d l e f =
      (i, inl refl, (refl, inl (to_less cs k i m f (indent_run cs n i m d) (let h = indent_place cs n i m d in omega (arith, h, l)) e)))

  pub over_end : (k i m n : ℕ) → indent cs n i m → n ≤ k → AtEnd cs m → lines_over cs k i m
  over_end k i m n d l e =
      (m, inr (m, (let h = indent_place cs n i m d in omega (arith, h, l), indent_run cs n i m d), (refl, e)), (refl, inr (inr e)))

  -- a line of content, and whether its break stands there
  pub record Reads (k i m q j : ℕ) : Type 0 where
    pub some : m < q
    pub ended : Bool
    pub line : text_line cs true k i j (content_line ended (slice_range cs m q) ∷ [])
    pub broken : ended ≡ true → q < j
    pub last : ended ≡ false → (j ≡ q) × AtEnd cs j

  pub text_is : (k i m q j n : ℕ) → indent cs n i m → n ≡ k → (DocumentMark cs i → ⊥) → Stands cs is_nb m → run cs is_nb m q → line_end cs q j → Reads k i m q j
  unfolding line_end
  text_is k i m q j n d e f s r l = go l
    where
      at : m ≡ i + k
      at = let h = indent_place cs n i m d in omega (arith, h, e)

      more : m < q
      more = let none : ¬ (m ≡ q) = λ h. line_end_stops cs is_nb nb_feed nb_return q j l (subst (Stands cs is_nb) h s) in let le : m ≤ q = r.0 in omega (arith, none, le)

      line : (v : List Line) → Tail cs q j (slice_range cs (i + k) q) v → text_line cs true k i j v
      line v t = to_text cs true k i j v (record {
        unmarked = f;
        spaces = subst (run cs is_space i) at (indent_run cs n i m d);
        stop = q;
        chars = subst (λ x. run cs is_nb x q) at r;
        some = omega (arith, more, at);
        ends = t;
      }) (inl refl)

      here : (b : Bool) → content_line b (slice_range cs m q) ∷ [] ≡ content_line b (slice_range cs (i + k) q) ∷ []
      here b = ap (λ x. content_line b (slice_range cs x q) ∷ []) at

      go : brk cs q j ⊎ ((j ≡ q) × AtEnd cs q) → Reads k i m q j
      go (inl b) = record {
        some = more;
        ended = true;
        line = line _ (broken b (here true));
        broken = λ x. brk_onward cs q j b;
        last = λ x. let y : true ≡ false = x in cc;
      }
      go (inr (x, z)) = record {
        some = more;
        ended = false;
        line = line _ (last z x (here false));
        broken = λ y. let w : false ≡ true = y in cc;
        last = λ y. (x, x ∙ z);
      }
