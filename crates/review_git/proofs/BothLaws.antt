-- Two sides of a file.
use Rattle.std.proofs.Common.{◌≡◌, ◌++◌, ℕ, List, [], Option, refl, sym, ◌∙◌, ap, append_assoc}
use Rattle.std.proofs.lemmas.List.{append-nil}
use Rattle.review_git.specs.Heads.{IsRenamedLine}
use Rattle.review_git.specs.Sides.{modes_line, AreEqual}
use Rattle.review_git.specs.Texts.{OfBoth}
use Rattle.review_git.specs.declared.asked.Pair.{Pair}
use Rattle.review_git.proofs.ShownLaws.{Behind}

-- they are known to be the same
pub both_equal : (holds : List ℕ → Option (List ℕ)) (pair : Pair) (out a b : List ℕ) → AreEqual pair.left pair.right → a ≡ out ++ modes_line pair.left.mode.now pair.right.mode.now → Behind a b (IsRenamedLine pair)
    → Behind out b (OfBoth holds pair)
both_equal holds pair out a b same e r =
    let modes = modes_line pair.left.mode.now pair.right.mode.now in (
      modes ++ r.0,
      r.1 ∙ ap (λ z. z ++ r.0) e ∙ append_assoc out modes r.0,
      record {
        renamed = r.0;
        changes = [];
        renamed_is = r.2;
        equal = λ _. refl;
        different = λ n. absurd (n same);
        is = ap (λ z. modes ++ z) (sym (append-nil r.0));
      },
    )
