-- Runs of spaces as indentation and as separation.
use Rattle.std.proofs.Common.{◌≡◌, ℕ, ◌+◌, ◌<◌, ◌≤◌, List, Some, refl, sym, arith, inl, inr, ◌⊎◌}
use Rattle.std.specs.Prelude.{slice_get, length}
use Rattle.std.proofs.lemmas.Option.{slice_get_within}
use Rattle.std.proofs.Math.Nat.{eq-or-lt_of_le}
use Rattle.yaml_definitions.specs.grammar.Rules.{◌◆◌, run, maybe}
use Rattle.yaml_definitions.specs.grammar.Characters.{is_space}
use Rattle.yaml_definitions.specs.grammar.Separation.{Ctx, block_in, block_out, flow_out, s-indent as indent, s-separate-in-line as sep, s-separate as separate, s-separate-lines as separate_lines, s-l-comments as s_l_comments}
use Rattle.yaml_layout.specs.Lines.{IsBlock}

module _ (cs : List ℕ) where
  -- ---- spaces

  pub in_text : (m e : ℕ) → e ≤ m → slice_get cs m ≡ Some 58 → e < length cs
  in_text m e l h = let x : m < length cs = slice_get_within cs m 58 h in omega (arith, l, x)

  -- the first spaces of an indentation, and the others
  pub indent_split : (n k i j : ℕ) → n ≤ k → indent cs k i j → (indent cs n ◆ run cs is_space) i j
  unfolding indent
  indent_split n k i j le (r, e) =
      (i + n, ((omega arith, λ m a b. r.1 m a (omega (arith, e, b, le))), refl), (omega (arith, e, le), λ m a b. r.1 m (omega (arith, a)) b))

  pub spaces_sep : (i j : ℕ) → run cs is_space i j → i < j → sep cs i j
  unfolding sep
  spaces_sep i j r l = inl (r, l)

  pub maybe_sep : (i j : ℕ) → run cs is_space i j → maybe (sep cs) i j
  maybe_sep i j r = pick (eq-or-lt_of_le r.0)
    where
      pick : (i ≡ j) ⊎ (i < j) → maybe (sep cs) i j
      pick (inl e) = inl (sym e)
      pick (inr l) = inr (spaces_sep i j r l)

  pub lines_separate : (n k i p q : ℕ) → n ≤ k → s_l_comments cs i p → indent cs k p q → separate_lines cs n i q
  unfolding separate_lines
  lines_separate n k i p q le comments ind = inl (p, comments, indent_split n k p q le ind)

  pub sep_separate : (n i q : ℕ) → run cs is_space i q → i < q → separate_lines cs n i q
  unfolding separate_lines
  sep_separate n i q r l = inr (spaces_sep i q r l)

  pub flow_separate : (n i q : ℕ) → separate_lines cs n i q → separate cs n flow_out i q
  unfolding separate
  flow_separate n i q s = s

  pub block_separate : (n : ℕ) (c : Ctx) (i q : ℕ) → IsBlock c → separate_lines cs n i q → separate cs n c i q
  unfolding separate
  block_separate n block_in i q b s = s
  block_separate n block_out i q b s = s
  block_separate n _ i q b s = absurd b
