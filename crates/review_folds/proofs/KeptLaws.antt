-- Differences and moves that are kept one by one.
use Rattle.std.proofs.Common.{◌≡◌, ℕ, zero, suc, Bool, true, false, ◌&&◌, nat_le, nat_lt, List, [], ◌∷◌, ◌++◌, length, take, refl, ◌∙◌, ap, arith}
use Rattle.yaml_store_rank.specs.Forests.{Forests}
use Rattle.yaml_diff.specs.declared.difference.Difference.{Difference}
use Rattle.yaml_diff.specs.declared.difference.Move.{Move}
use Rattle.yaml_diff.specs.declared.difference.Step as code
use Rattle.review_patterns.specs.declared.pattern.Pattern.{Pattern}
use Rattle.review_folds.specs.Ignored.{is_ignored, outside, moves_outside}

-- ---- without patterns

-- none is ignored
pub none_ignored : (g : Forests) (ps : List Pattern) (path : List code.Step) (answer : Bool) → length ps ≡ 0 → answer ≡ false → answer ≡ is_ignored g ps path
none_ignored g [] path answer n e = e
none_ignored g (p ∷ ps) path answer n e = absurd (omega (arith, n))

-- so all are kept
pub outside_none : (g : Forests) (ps : List Pattern) (ds : List Difference) → ps ≡ [] → outside g ps ds ≡ ds
outside_none g [] [] e = refl
outside_none g [] (d ∷ ds) e = ap (λ z. d ∷ z) (outside_none g [] ds refl)
outside_none g (p ∷ ps) ds e = absurd (cc)

pub moves_none : (g : Forests) (ps : List Pattern) (ms : List Move) → ps ≡ [] → moves_outside g ps ms ≡ ms
moves_none g [] [] e = refl
moves_none g [] (m ∷ ms) e = ap (λ z. m ∷ z) (moves_none g [] ms refl)
moves_none g (p ∷ ps) ms e = absurd (cc)

-- ---- as many as there is room for: review_faults lists warnings so

-- there is room for one more
pub more_list : {X : Type 0} (xs kept : List X) (room : ℕ) (d : X) → kept ≡ take room xs → take room (kept ++ (d ∷ [])) ≡ take room (xs ++ (d ∷ []))
more_list xs kept room d h = ap (λ z. take room (z ++ (d ∷ []))) h ∙ twice xs room d
  where
    twice : {X : Type 0} (xs : List X) (room : ℕ) (d : X) → take room (take room xs ++ (d ∷ [])) ≡ take room (xs ++ (d ∷ []))
    twice xs zero d = refl
    twice [] (suc room) d = refl
    twice (x ∷ xs) (suc room) d = ap (λ z. x ∷ z) (twice xs room d)

pub more_whole : {X : Type 0} (xs kept : List X) (room : ℕ) (d : X) (whole : Bool) → kept ≡ take room xs → ((whole && nat_le (length xs) room) && nat_lt (length kept) room) ≡ (whole && nat_le (length (xs ++ (d ∷ []))) room)
more_whole xs kept room d false h = refl
more_whole xs kept room d true h = ap (λ z. nat_le (length xs) room && nat_lt (length z) room) h ∙ counted xs room d
  where
    counted : {X : Type 0} (xs : List X) (room : ℕ) (d : X) → (nat_le (length xs) room && nat_lt (length (take room xs)) room) ≡ nat_le (length (xs ++ (d ∷ []))) room
    counted [] zero d = refl
    counted [] (suc room) d = grind arith
    counted (x ∷ xs) zero d = grind arith
    counted (x ∷ xs) (suc room) d = let h = counted xs room d in grind (arith, h)
