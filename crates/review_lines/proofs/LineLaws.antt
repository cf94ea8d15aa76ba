-- The lines of a comparison.
use Rattle.std.proofs.Common.{◌≡◌, List, ◌++◌, ℕ, zero, suc, ◌-◌, refl, sym, ◌∙◌, ap, subst, arith}
use Rattle.std.proofs.lemmas.List.{append_assoc, append-nil}
use Rattle.std.specs.Prelude.{codes}
use Rattle.std.specs.Fmt.{decimal}
use Rattle.review_text.proofs.Pieces.{then_more, six_put}
use Rattle.review_lines.specs.Lines.{others_text, told_text}

pub eight_put : (o s a b c d e f g x1 x2 x3 x4 x5 x6 x7 x8 : List ℕ) → x1 ≡ o ++ s → x2 ≡ x1 ++ a → x3 ≡ x2 ++ b → x4 ≡ x3 ++ c → x5 ≡ x4 ++ d → x6 ≡ x5 ++ e → x7 ≡ x6 ++ f → x8 ≡ x7 ++ g → x8 ≡ o ++ (s ++ (a ++ (b ++ (c ++ (d ++ (e ++ (f ++ g)))))))
eight_put o s a b c d e f g x1 x2 x3 x4 x5 x6 x7 x8 h1 h2 h3 h4 h5 h6 h7 h8 =
    then_more o x1 x8 s _ h1 (then_more x1 x2 x8 a _ h2 (six_put x2 b c d e f g x3 x4 x5 x6 x7 x8 h3 h4 h5 h6 h7 h8))

pub ten_put : (o s a b c d e f g h i x1 x2 x3 x4 x5 x6 x7 x8 x9 x10 : List ℕ) → x1 ≡ o ++ s → x2 ≡ x1 ++ a → x3 ≡ x2 ++ b → x4 ≡ x3 ++ c → x5 ≡ x4 ++ d → x6 ≡ x5 ++ e → x7 ≡ x6 ++ f → x8 ≡ x7 ++ g → x9 ≡ x8 ++ h → x10 ≡ x9 ++ i
    → x10 ≡ o ++ (s ++ (a ++ (b ++ (c ++ (d ++ (e ++ (f ++ (g ++ (h ++ i)))))))))
ten_put o s a b c d e f g h i x1 x2 x3 x4 x5 x6 x7 x8 x9 x10 h1 h2 h3 h4 h5 h6 h7 h8 h9 h10 =
    then_more o x1 x10 s _ h1 (then_more x1 x2 x10 a _ h2 (eight_put x2 b c d e f g h i x3 x4 x5 x6 x7 x8 x9 x10 h3 h4 h5 h6 h7 h8 h9 h10))

-- ---- a line that tells several differences

pub others_none : (n : ℕ) (o : List ℕ) → n ≡ 0 → o ≡ o ++ others_text n
others_none n o e = subst (λ z. o ≡ o ++ others_text z) (sym e) (sym (append-nil o))

pub others_some : (n : ℕ) (o b : List ℕ) → (n ≡ 0 → ⊥) → b ≡ o ++ (codes "\t(and " ++ (decimal n ++ codes " more through aliases)\n")) → b ≡ o ++ others_text n
others_some zero o b h e = absurd (h refl)
others_some (suc n) o b h e = e

pub told_none : (n : ℕ) (text o : List ℕ) → n ≡ 0 → o ≡ o ++ told_text n text
told_none n text o e = subst (λ z. o ≡ o ++ told_text z text) (sym e) (sym (append-nil o))

pub told_some : (n : ℕ) (text o a b : List ℕ) → (n ≡ 0 → ⊥) → a ≡ o ++ text → b ≡ a ++ others_text (n - 1) → b ≡ o ++ told_text n text
told_some zero text o a b h e f = absurd (h refl)
told_some (suc k) text o a b h e f =
    let q : suc k - 1 ≡ k = omega arith in
    f ∙ ap (λ z. a ++ others_text z) q ∙ ap (λ z. z ++ others_text k) e ∙ append_assoc o text (others_text k)
