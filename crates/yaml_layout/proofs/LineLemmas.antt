-- Comments, line by line.
use Rattle.std.proofs.Common.{◌≡◌, ℕ, length, subst, ◌-◌, ◌<◌, List, Some, sym, ◌∙◌, ap, refl, arith, inl, inr, ◌⊎◌, true, false, nat_eq}
use Rattle.std.proofs.Math.Nat.{eq-or-lt_of_le}
use Rattle.std.specs.Prelude.{◌==◌}
use Rattle.std.specs.Prelude.{slice_get}
use Rattle.std.proofs.lemmas.Str.{IsUtf8-had}
use Rattle.yaml_text.specs.declared.chars.Chars.{Chars}
use Rattle.yaml_text.specs.Source.{text_of, place_of, IsBorder}
use Rattle.yaml_text.proofs.PlaceLemmas.{before_ascii}
use Rattle.yaml_definitions.specs.grammar.Rules.{Spans, any_span, Behind, Stands, run, maybe}
use Rattle.yaml_definitions.specs.grammar.Characters.{is_space}
use Rattle.yaml_definitions.specs.grammar.Separation.{Ctx, block_out, block_in, flow_out, flow_in, block_key, flow_key, s-separate as separate, s-separate-lines as separate_lines, StartsLine, DocumentMark, s-indent as indent, s-l-comments as s_l_comments, l-comment as l_comment, s-separate-in-line as sep}
use Rattle.yaml_text.specs.Lines.{Uncut, AfterLine, LooksLikeMarker}
use Rattle.std.proofs.lemmas.Option.{slice_get_within}
use Rattle.yaml_text.proofs.Breaks.{mark_is}
use Rattle.yaml_text.proofs.Runs.{no_stand}
use Rattle.yaml_text.proofs.LineRuns.{line_end_after, indent_run, indent_place}
use Rattle.yaml_text.proofs.RestLemmas.{blank_after, from_s_b}
use Rattle.yaml_text.specs.Lines.{is_key}

equal : (a b : ℕ) → nat_eq a b ≡ true → a ≡ b
equal a b t = grind (arith, t)

-- where a carriage return stands just before a border
pub return_before : (s : Chars) (at : ℕ) → IsBorder s at → Behind (text_of s) (λ c. c == 13) (place_of s at) → IsBorder s (at - 1) × (slice_get (text_of s) (place_of s (at - 1)) ≡ Some 13)
return_before s at p (some, (c, is, t)) =
    let e : c ≡ 13 = equal c 13 t in
    let h : slice_get (text_of s) (place_of s at - 1) ≡ Some 13 = is ∙ ap Some e in
    let q = before_ascii s.text.now at (place_of s at - 1) 13 (IsUtf8-had s.text.now s.utf8) p (omega (arith, some)) h (omega arith) in
    (q.0, ap (slice_get (text_of s)) q.1 ∙ h)

dash_no_space : is_space 45 ≡ false
unfolding is_space
dash_no_space = refl

dot_no_space : is_space 46 ≡ false
unfolding is_space
dot_no_space = refl

module _ (cs : List ℕ) where
  pub uncut : (i : ℕ) → (Behind cs (λ c. c == 13) i → slice_get cs i ≡ Some 10 → ⊥) → Uncut cs i
  unfolding Uncut
  uncut i f b (c, is, t) = f b (is ∙ ap Some (equal c 10 t))

  -- a line that is indented begins with no mark
  pub indented_no_mark : (n i j : ℕ) → 0 < n → indent cs n i j → LooksLikeMarker cs i → ⊥
  indented_no_mark n i j l s = go
    where
      space : Stands cs is_space i
      space = (indent_run cs n i j s).1 i (omega arith) (let e = indent_place cs n i j s in omega (arith, e, l))

      go : LooksLikeMarker cs i → ⊥
      go (inl d) = no_stand cs is_space i 45 d.0 dash_no_space space
      go (inr d) = no_stand cs is_space i 46 d.0 dot_no_space space

  pub no_lines : (i : ℕ) → StartsLine cs i → s_l_comments cs i i
  unfolding s_l_comments
  no_lines i s = (i, inr (refl, s), Spans.done refl)

  -- ---- separation inside a flow collection

  pub key_apart : (n : ℕ) (c : Ctx) (i j : ℕ) → is_key c ≡ true → run cs is_space i j → i < j → separate cs n c i j
  unfolding separate sep
  key_apart n block_key i j t r l = inl (r, l)
  key_apart n flow_key i j t r l = inl (r, l)
  key_apart n block_out i j t r l = let h : false ≡ true = t in cc
  key_apart n block_in i j t r l = let h : false ≡ true = t in cc
  key_apart n flow_out i j t r l = let h : false ≡ true = t in cc
  key_apart n flow_in i j t r l = let h : false ≡ true = t in cc

  pub lines_apart : (n : ℕ) (c : Ctx) (i j : ℕ) → is_key c ≡ false → separate_lines cs n i j → separate cs n c i j
  unfolding separate
  lines_apart n block_key i j t s = let h : true ≡ false = t in cc
  lines_apart n flow_key i j t s = let h : true ≡ false = t in cc
  lines_apart n block_out i j t s = s
  lines_apart n block_in i j t s = s
  lines_apart n flow_out i j t s = s
  lines_apart n flow_in i j t s = s

  pub spaces_apart : (n : ℕ) (c : Ctx) (i j : ℕ) → run cs is_space i j → i < j → separate cs n c i j
  unfolding separate separate_lines sep
  spaces_apart n block_key i j r l = inl (r, l)
  spaces_apart n flow_key i j r l = inl (r, l)
  spaces_apart n block_out i j r l = inr (inl (r, l))
  spaces_apart n block_in i j r l = inr (inl (r, l))
  spaces_apart n flow_out i j r l = inr (inl (r, l))
  spaces_apart n flow_in i j r l = inr (inl (r, l))

  pub spaces_maybe : (n : ℕ) (c : Ctx) (i j : ℕ) → run cs is_space i j → maybe (separate cs n c) i j
  spaces_maybe n c i j r = pick (eq-or-lt_of_le r.0)
    where
      pick : (i ≡ j) ⊎ (i < j) → maybe (separate cs n c) i j
      pick (inl e) = inl (sym e)
      pick (inr l) = inr (spaces_apart n c i j r l)

  -- ---- lines of comments

  pub after_lines : (j i : ℕ) → AfterLine cs i → any_span (l_comment cs) i j → AfterLine cs j
  unfolding l_comment
  after_lines j i a (Spans.done e) = subst (AfterLine cs) (sym e) a
  after_lines j i a (Spans.then k (l, (m, s, (n, c, e))) more) = after_lines j k (line_end_after cs n k e) more

  pub starts_line : (i : ℕ) → AfterLine cs i → (i ≡ length cs → ⊥) → StartsLine cs i
  starts_line i (inl s) n = s
  starts_line i (inr e) n = absurd (n e)

  pub comments_after : (i j : ℕ) → s_l_comments cs i j → AfterLine cs j
  unfolding s_l_comments
  comments_after i j (a, inl b, lines) = after_lines j a (blank_after cs i a (from_s_b cs i a b)) lines
  comments_after i j (a, inr (e, s), lines) = after_lines j a (inl (subst (StartsLine cs) (sym e) s)) lines

  -- after a line's end three dashes, or dots, are a document mark
  pub dashes_mark : (i : ℕ) → AfterLine cs i → LooksLikeMarker cs i → DocumentMark cs i
  dashes_mark i a d = mark_is cs i (starts_line i a (within d)) d
    where
      within : LooksLikeMarker cs i → i ≡ length cs → ⊥
      within (inl h) e = let l : i < length cs = slice_get_within cs i 45 h.0 in omega (arith, l, e)
      within (inr h) e = let l : i < length cs = slice_get_within cs i 46 h.0 in omega (arith, l, e)
