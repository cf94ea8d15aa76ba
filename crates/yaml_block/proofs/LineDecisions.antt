-- What looks at a line and at the characters after a node decide.
use Rattle.std.proofs.Common.{◌≡◌, ◌≢◌, ℕ, ◌+◌, ◌<◌, ◌⊎◌, inl, inr, List, Some, true, length, refl, sym, ◌∙◌, subst, arith}
use Rattle.std.specs.Prelude.{slice_get}
use Rattle.std.proofs.Math.Nat.{eq-or-lt_of_le}
use Rattle.std.proofs.lemmas.Option.{slice_get_within}
use Rattle.yaml_text.specs.Source.{text_of, place_of}
use Rattle.yaml_text.specs.declared.chars.Chars.{Chars}
use Rattle.yaml_text.specs.Lines.{AfterLine, Inside, LooksLikeMarker}
use Rattle.yaml_definitions.specs.grammar.Rules.{run, Stands}
use Rattle.yaml_definitions.specs.grammar.Characters.{is_ns, is_space, is_nb, is_break}
use Rattle.yaml_definitions.specs.grammar.Separation.{s-indent as indent, AtEnd, DocumentMark, StartsLine, s-l-comments as s_l_comments}
use Rattle.yaml_text.proofs.Breaks.{mark_dashes, mark_is}
use Rattle.yaml_text.proofs.Runs.{run_same, same_char}
use Rattle.yaml_text.proofs.LineRuns.{indent_run, indent_place, end_stops}
use Rattle.law_one_reading.specs.Follows.{Fresh, DashHere, Dash}
use Rattle.yaml_text.proofs.RestLemmas.{from_s_b, blank_after}
use Rattle.law_one_reading.proofs.Documents.{after_comments}
use Rattle.law_one_reading.proofs.Lines.{solid_no_space, dash_fresh}
use Rattle.law_one_reading.proofs.BlockNodes.{colon_solid}
use Rattle.yaml_layout.specs.Keys.{IsKeySized}
use Rattle.yaml_layout.specs.Lines.{IsLine, IsDash}
use Rattle.yaml_layout.specs.declared.line.Line.{Line}
use Rattle.yaml_block.specs.BlockEnds.{NoneIn, IsNoKey}

nb_dash : is_nb 45 ≡ true
unfolding is_nb is_break
nb_dash = refl

nb_colon : is_nb 58 ≡ true
unfolding is_nb is_break
nb_colon = refl

module _ (cs : List ℕ) where
  -- ---- keys

  pub no_colon_key : (i j q : ℕ) → run cs is_space j q → (Stands cs is_space q → ⊥) → (slice_get cs q ≢ Some 58) → IsNoKey cs i j
  no_colon_key i j q r w n k (m, t, (h, e), sized) =
      n (subst (λ z. slice_get cs z ≡ Some 58) (run_same cs is_space j m q t r (solid_no_space cs m (colon_solid cs m h).0) w) h)

  pub no_sized_key : (i j q : ℕ) → run cs is_space j q → slice_get cs q ≡ Some 58 → (IsKeySized cs i q → ⊥) → IsNoKey cs i j
  no_sized_key i j q r g n k (m, t, (h, e), sized) =
      n (subst (IsKeySized cs i) (run_same cs is_space j m q t r (solid_no_space cs m (colon_solid cs m h).0) (solid_no_space cs q (colon_solid cs q g).0)) sized)

  pub colon_inside : (q k : ℕ) → slice_get cs q ≡ Some 58 → k ≡ q + 1 → Inside cs k
  colon_inside q k h e = (q, e, (58, h, nb_colon))

  pub comments_after : (i j : ℕ) → s_l_comments cs i j → AfterLine cs j
  unfolding s_l_comments
  comments_after i j (a, inl b, c) = after_comments cs (Unit {0}) 0 c (blank_after cs i a (from_s_b cs i a b))
  comments_after i j (a, inr (e, s), c) = after_comments cs (Unit {0}) 0 c (inl (subst (StartsLine cs) (sym e) s))

module _ (s : Chars) (line : Line) (is : IsLine s line) where
  abbrev Cs : List ℕ
  Cs = text_of s

  abbrev Start : ℕ
  Start = place_of s line.start

  abbrev First : ℕ
  First = place_of s line.first

  -- what begins on the line begins at its first character
  pub line_same : (k p : ℕ) → indent Cs k Start p → Fresh Cs p → (k ≡ line.column) × (p ≡ First)
  line_same k p r f =
      let e : p ≡ First = run_same Cs is_space Start p First (indent_run Cs k Start p r) (indent_run Cs line.column Start First is.spaces) (solid_no_space Cs p f.0.0) is.all in
      let a : p ≡ Start + k = indent_place Cs k Start p r in
      let b : First ≡ Start + line.column = indent_place Cs line.column Start First is.spaces in
      (omega (arith, e, a, b), e)

  pub none_here : (k : ℕ) → (Fresh Cs First → ⊥) → NoneIn s line k
  none_here k n p r f = n (subst (Fresh Cs) (line_same k p r f).1 f)

  pub none_left : (k : ℕ) → line.column < k → NoneIn s line k
  none_left k lt p r f = let h : k ≡ line.column = (line_same k p r f).0 in omega (arith, h, lt)

  -- ---- no content

  dashes_char : (i : ℕ) → LooksLikeMarker Cs i → (c : ℕ) × (slice_get Cs i ≡ Some c) × (c ≡ 32 → ⊥)
  dashes_char i (inl (h, r, t, n)) = (45, h, λ e. omega (arith, e))
  dashes_char i (inr (h, r, t, n)) = (46, h, λ e. omega (arith, e))

  dashes_first : LooksLikeMarker Cs Start → First ≡ Start
  unfolding is_space
  dashes_first d = go (eq-or-lt_of_le (indent_run Cs line.column Start First is.spaces).0)
    where
      go : (Start ≡ First) ⊎ (Start < First) → First ≡ Start
      go (inl e) = sym e
      go (inr lt) = no_space ((indent_run Cs line.column Start First is.spaces).1 Start (omega arith) lt) (dashes_char Start d)
        where
          no_space : Stands Cs is_space Start → (c : ℕ) × (slice_get Cs Start ≡ Some c) × (c ≡ 32 → ⊥) → First ≡ Start
          no_space (x, h, t) (c, g, n) = let e : c ≡ x = same_char Cs Start c x g h in let y : x ≡ 32 = grind (arith, t) in absurd (n (e ∙ y))

  pub no_content : AfterLine Cs Start → (First ≡ length Cs) ⊎ LooksLikeMarker Cs Start → Fresh Cs First → ⊥
  no_content a (inl e) f = end_stops Cs is_ns First e f.0.0
  no_content (inl st) (inr d) f = f.1 (subst (DocumentMark Cs) (sym (dashes_first d)) (mark_is Cs Start st d))
  no_content (inr e) (inr d) f = let (c, h, n) = dashes_char Start d in let l : Start < length Cs = slice_get_within Cs Start c h in omega (arith, e, l)

  -- ---- content

  pub no_end : (First ≢ length Cs) → AtEnd Cs Start → ⊥
  no_end n e = go (eq-or-lt_of_le (indent_run Cs line.column Start First is.spaces).0)
    where
      go : (Start ≡ First) ⊎ (Start < First) → ⊥
      go (inl f) = n (sym f ∙ e)
      go (inr lt) = end_stops Cs is_space Start e ((indent_run Cs line.column Start First is.spaces).1 Start (omega arith) lt)

  pub no_mark : (LooksLikeMarker Cs Start → ⊥) → DocumentMark Cs Start → ⊥
  no_mark n m = n (mark_dashes Cs Start m)

  -- ---- dashes

  pub no_dash_in : (k : ℕ) → NoneIn s line k → Dash Cs k Start → ⊥
  no_dash_in k n (p, r, d) = n p r (dash_fresh Cs p d)

  pub no_dash_first : (k : ℕ) → (DashHere Cs First → ⊥) → Dash Cs k Start → ⊥
  no_dash_first k n (p, r, d) = n (subst (DashHere Cs) (line_same k p r (dash_fresh Cs p d)).1 d)

module _ (s : Chars) (at after : ℕ) (d : IsDash s at after) where
  pub dash_here : DashHere (text_of s) (place_of s at)
  dash_here = (d.dash.is, subst (λ z. Stands (text_of s) is_ns z → ⊥) d.dash.next d.apart)

  pub dash_inside : Inside (text_of s) (place_of s after)
  dash_inside = (place_of s at, d.dash.next, (45, d.dash.is, nb_dash))
