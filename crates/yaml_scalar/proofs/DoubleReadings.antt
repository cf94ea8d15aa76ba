-- Double-quoted scalars: the chain form has the readings of the grammar.
use Rattle.std.proofs.Common.{ℕ, ◌+◌, ◌-◌, ◌≤◌, inl, inr, List, refl, arith}
use Rattle.std.specs.Prelude.{slice_range}
use Rattle.yaml_text.specs.LeafAnswer.{Only}
use Rattle.yaml_text.specs.LeafAnswer.{Unread}
use Rattle.yaml_definitions.specs.grammar.Separation.{Ctx}
use Rattle.yaml_definitions.specs.grammar.FlowScalars.{several, s-flow-folded as fold, s-double-escaped as escaped_break, ns-double-char as double_char, c-double-quoted as double}
use Rattle.yaml_scalar.specs.Chains.{gap, escaped_end, double_gap, double_rest, double_chain}
use Rattle.yaml_text.proofs.Breaks.{ns_no_return, thirteen}
use Rattle.yaml_scalar.proofs.Readings.{Clear, clear_after, fold_chain, fold_grammar, escaped_chain, escaped_grammar}
use Rattle.yaml_scalar.proofs.QuotedReadings.{Gaps, Kinds, lines_pieces, lines_of}
use Rattle.yaml_scalar.proofs.EscapeLemmas.{escape_characters}
use Rattle.yaml_scalar.proofs.DoubleLemmas.{letter_ns, double_chain_same}
use Rattle.yaml_scalar.proofs.AnyLemmas.{Same}

module _ (cs : List ℕ) where
  double_gaps : (n : ℕ) (c : Ctx) → Gaps cs (double_char cs) (several cs c (fold cs n)) (several cs c (escaped_break cs n)) (double_gap cs n c)
  unfolding gap double_gap escaped_end
  double_gaps n c = record {
    whites = λ i j r. inl (inl (r, refl));
    fold = λ i j xs p. inl (inr (fold_chain cs n c i j xs p));
    escaped = λ i k j xs r p. (let (m, h, e, b) = escaped_chain cs n c k j xs p in inr (k, slice_range cs i k, xs, (r, refl), (m, (h, e), b), refl));
  }

  double_kinds : (n : ℕ) (c : Ctx) (i j : ℕ) (xs : List ℕ) → Clear cs i → double_gap cs n c i j xs → Kinds cs (double_char cs) (several cs c (fold cs n)) (several cs c (escaped_break cs n)) (double_gap cs n c) i j xs
  unfolding gap double_gap escaped_end
  double_kinds n c i j xs w (inl (inl p)) = inl p
  double_kinds n c i j xs w (inl (inr p)) = inr (inl (fold_grammar cs n c i j xs w p))
  double_kinds n c i j xs w (inr (m, us, vs, p, (k, (h, e), b), f)) = inr (inr (m, us, vs, p, escaped_grammar cs n c m k j vs h e b, f))

  double_clear : (i j : ℕ) (xs : List ℕ) → double_char cs i j xs → Clear cs j
  unfolding double_char
  double_clear i j xs (x, inl (h, v, e), f) = clear_after cs i j x h e (ns_no_return x (letter_ns x v))
  double_clear i j xs (x, inr p, f) =
      let q = escape_characters cs i j x p in
      let l : i + 2 ≤ j = q.0 in
      let (c, h, ten, thirteen) = q.1 (j - 1) (omega (arith, l)) (omega (arith, l)) in
      clear_after cs (j - 1) j c h (omega (arith, l)) thirteen

  double_to_chain : (n : ℕ) (c : Ctx) (i j : ℕ) (xs : List ℕ) → double cs n c i j xs → double_chain cs n c i j xs
  unfolding double double_chain double_rest
  double_to_chain n c i j xs (u, (k, q, (l, p, close))) =
      let (o, us, vs, chain, g, t) = lines_pieces cs (double_char cs) (several cs c (fold cs n)) (several cs c (escaped_break cs n)) (double_gap cs n c) (double_gaps n c) k l xs p in
      (u, (k, q, (o, us, vs, chain, (l, g, close), t)))

  double_from_chain : (n : ℕ) (c : Ctx) (i j : ℕ) (xs : List ℕ) → double_chain cs n c i j xs → double cs n c i j xs
  unfolding double double_chain double_rest
  double_from_chain n c i j xs (u, (k, (q, a), (o, us, vs, chain, (l, g, close), t))) =
      (u, (k, (q, a), (l, lines_of cs (double_char cs) (several cs c (fold cs n)) (several cs c (escaped_break cs n)) (double_gap cs n c) (double_kinds n c) double_clear k l xs (clear_after cs i k 34 q a (omega arith)) (o, us, vs, chain, g, t), close)))

  pub double_only : (n : ℕ) (c : Ctx) (i j : ℕ) (xs : List ℕ) → Only (double_chain cs n c) i j xs → Only (double cs n c) i j xs
  double_only n c i j xs best = record {
    is = double_from_chain n c i j xs best.is;
    only = λ k ys r. best.only k ys (double_to_chain n c i k ys r);
  }

  pub double_unread : (n : ℕ) (c : Ctx) (i : ℕ) → Unread (double_chain cs n c) i → Unread (double cs n c) i
  double_unread n c i none j xs r = none j xs (double_to_chain n c i j xs r)

  pub double_same : (n : ℕ) (c : Ctx) → Same (double cs n c)
  double_same n c i j k xs ys r q = double_chain_same cs n c i j k xs ys (double_to_chain n c i j xs r) (double_to_chain n c i k ys q)
