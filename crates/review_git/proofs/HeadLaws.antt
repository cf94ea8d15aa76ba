-- Lines of git on a renamed file.
use Rattle.std.specs.Prelude.{◌↔◌, MatchBool}
use Rattle.std.proofs.Common.{◌≡◌, ◌++◌, ℕ, Bool, true, false, List, ◌∷◌, Some, Bor, codes, eqb, inl, inr, refl, sym, ◌∙◌, ap, subst, append_assoc}
use Rattle.std.proofs.lemmas.Bool.{iff_false, true≢false}
use Rattle.std.specs.List.{starts_with}
use Rattle.std.specs.Str.Iter.{HasSubslice}
use Rattle.review_text.specs.Terminal.{terminal}
use Rattle.review_git.specs.declared.asked.Pair.{Pair}
use Rattle.review_git.specs.Heads.{IsRenamed, IsRenamedLine}
use Rattle.review_git.specs.Sides.{HasLine, IsChange}

no_line : (start lines : List ℕ) → starts_with eqb lines start ≡ false → (HasSubslice lines (10 ∷ start) → ⊥) → HasLine start lines → ⊥
no_line start lines n h (inl e) = true≢false (sym e ∙ n)
no_line start lines n h (inr s) = h s

-- a text that does not begin so has such a line if the words stand behind a line feed
pub line_behind : (found : Bool) (start lines : List ℕ) → starts_with eqb lines start ≡ false → (found ≡ true) ↔ HasSubslice lines (10 ∷ start) → MatchBool found (HasLine start lines) (HasLine start lines → ⊥)
line_behind true start lines n h = inr (h.0 refl)
line_behind false start lines n h = no_line start lines n (iff_false h refl)

-- the line of a file that was renamed or copied, written in three parts
pub renamed_line : (pair : Pair) (r : Bor (List ℕ) × Bor (List ℕ)) (out a b d words : List ℕ) → pair.renamed ≡ Some r → IsChange r.1.now words → a ≡ out ++ words → b ≡ a ++ terminal pair.path.now → d ≡ b ++ codes "\n"
    → (x : List ℕ) × (d ≡ out ++ x) × IsRenamedLine pair x
renamed_line pair r out a b d words e h p q s =
    let path = terminal pair.path.now in
    let line = words ++ (path ++ codes "\n") in (
      line,
      s ∙ ap (λ z. z ++ codes "\n") (q ∙ ap (λ z. z ++ path) p) ∙ append_assoc (out ++ words) path (codes "\n") ∙ append_assoc out words (path ++ codes "\n"),
      subst (λ z. IsRenamed pair.path.now z line) (sym e) (words, h, refl),
    )
