-- Steps that may cross, between equal ends.
use Rattle.std.proofs.Common.{◌≡◌, ℕ, suc, ◌+◌, ◌-◌, ◌<◌, Bool, false, List, [], ◌∷◌, ◌++◌, map, length, refl, sym, ◌∙◌, ap, subst, arith}
use Rattle.std.specs.Prelude.{Option, Some, None, Result, Ok, Err, IfOk, IfSome}
use Rattle.std.specs.declared.alloc.AllocError.{AllocError}
use Rattle.yaml_diff.specs.declared.align.Aligned.{Aligned}
use Rattle.yaml_tree.specs.declared.node.NodeId.{NodeId}
use Rattle.yaml_store_rank.specs.Forests.{Forests}
use Rattle.yaml_path.specs.Ways.{turns}
use Rattle.yaml_path.specs.declared.places.Places.{Places}
use Rattle.yaml_path.specs.declared.places.Places.TheVariants.{Both}
use Rattle.yaml_diff.specs.Found.{Aligns}
use Rattle.yaml_diff.specs.Aligning.{IsFront, IsBack}
use Rattle.yaml_diff.specs.Looks.{place_of, places_in, Checked}
use Rattle.yaml_diff.proofs.AlignLaws.{in-front, in-back, step_both}
use Rattle.yaml_diff.proofs.LookLaws.{left-each, right-each, in-order, settled, moves-once}

map-append : {X Y : Type 0} (f : X → Y) (xs ys : List X) → map f (xs ++ ys) ≡ map f xs ++ map f ys
map-append f [] ys = refl
map-append f (x ∷ xs) ys = ap (λ z. f x ∷ z) (map-append f xs ys)

-- a pair more at the end of the steps
pub pair_step : (old new : List (Places × Bool)) (l r n m : ℕ) → l < n → r < m → new ≡ old ++ ((Both l r, false) ∷ []) → places_in new ++ turns (l + 1) (r + 1) (n - (l + 1)) (m - (r + 1)) ≡ places_in old ++ turns l r (n - l) (m - r)
pair_step old new l r n m a b e =
    let rest = turns (l + 1) (r + 1) (n - (l + 1)) (m - (r + 1)) in
    ap (λ z. places_in z ++ rest) e ∙ ap (λ z. z ++ rest) (map-append place_of old ((Both l r, false) ∷ [])) ∙ step_both (places_in old) l r n m a b

-- steps of three parts that are right: equal fronts, what was put together, and equal backs
pub crossed : (g : Forests) (lefts rights : List NodeId) (front back e d : ℕ) (one two all middle : List (Places × Bool)) (list moved : List Places) → IsFront g lefts rights front → IsBack g lefts rights front back → e ≡ length lefts - back → d ≡ length rights - back
    → places_in one ≡ turns 0 0 (front - 0) (front - 0) → two ≡ one ++ middle → places_in all ≡ places_in two ++ turns e d (length lefts - e) (length rights - d) → Checked all list moved (length lefts) (length rights) → Aligns g lefts rights list moved
crossed g lefts rights front back e d one two all middle list moved f b ee dd eo et ea c = subst (λ z. Aligns g lefts rights z moved) (sym c.all) (record {
  left = left-each all moved (length lefts) (length rights) c.are c.is_right;
  right = right-each all moved (length lefts) (length rights) c.are c.is_right;
  settles = settled all moved (length lefts) (length rights) c.are c.is_right;
  in_order = in-order all moved (length lefts) (length rights) c.are c.is_right;
  once = moves-once all moved (length lefts) (length rights) c.are c.is_right;
  front = front;
  fronts = λ i l. (f.same i l, (i, in-front front (places_in one) (places_in middle) (places_in two) (turns e d (length lefts - e) (length rights - d)) (places_in all) eo parts ea i l));
  front_end = f.ends;
  back = back;
  backs = λ i j k l m n. (b.same i j k l m n, (length (places_in two) + (back - suc i), in-back (length lefts) (length rights) back e d (places_in two) (places_in all) (omega (arith, b.left)) (omega (arith, b.right)) ee dd ea i j k l m n));
  back_end = b.ends;
})
  where
    parts : places_in two ≡ places_in one ++ places_in middle
    parts = ap places_in et ∙ map-append place_of one middle

pub crossed-answer : (g : Forests) (lefts rights : List NodeId) (front back e d : ℕ) (one two all middle : List (Places × Bool)) (answer : Result (Option Aligned) AllocError) → IsFront g lefts rights front → IsBack g lefts rights front back → e ≡ length lefts - back → d ≡ length rights - back
    → places_in one ≡ turns 0 0 (front - 0) (front - 0) → two ≡ one ++ middle → places_in all ≡ places_in two ++ turns e d (length lefts - e) (length rights - d) → IfOk answer (λ it. IfSome it (λ a. Checked all a.list.items a.moved.items (length lefts) (length rights))) → IfOk answer (λ it. IfSome it (λ a. Aligns g lefts rights a.list.items a.moved.items))
crossed-answer g lefts rights front back e d one two all middle (Ok (Some a)) f b ee dd eo et ea c = crossed g lefts rights front back e d one two all middle a.list.items a.moved.items f b ee dd eo et ea c
crossed-answer g lefts rights front back e d one two all middle (Ok None) f b ee dd eo et ea c = tt
crossed-answer g lefts rights front back e d one two all middle (Err x) f b ee dd eo et ea c = tt
