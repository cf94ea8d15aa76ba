-- The walk of two sequences, item by item.
use Rattle.std.proofs.Common.{◌≡◌, ℕ, zero, suc, ◌+◌, ◌-◌, ◌<◌, ◌≤◌, Bool, true, false, ◌&&◌, ◌⊎◌, List, [], ◌∷◌, ◌++◌, map, take, length, length-append, inl, inr, refl, sym, ◌∙◌, ap, subst, arith}
use Rattle.std.specs.Prelude.{Option, Some, None}
use Rattle.std.specs.List.{slice_get}
use Rattle.std.specs.Prelude.{nat_le}
use Rattle.std.proofs.lemmas.Bool.{leb-true, leb-false}
use Rattle.std.proofs.lemmas.List.{length-map}
use Rattle.yaml_definitions.proofs.Members.{and_both}
use Rattle.std.proofs.lemmas.Option.{slice_get_within}
use Rattle.yaml_definitions.specs.model.Tree.{Tree}
use Rattle.yaml_tree.specs.declared.node.NodeId.{NodeId}
use Rattle.yaml_store_rank.specs.Forests.{Forests, IsRanked}
use Rattle.yaml_path.specs.Ways.{Step, at_places, at_key, Pairing, Allows, EndsPaired, AlikeStep, StepBefore, left_part, right_part, placed, left_place, right_place}
use Rattle.yaml_path.specs.declared.places.Places.{Places}
use Rattle.yaml_diff.specs.declared.difference.Step.TheVariants.{Item}
use Rattle.yaml_diff.specs.declared.difference.Found.{Found}
use Rattle.yaml_diff.specs.Lines.{Line, trees_of, sequence_of, under}
use Rattle.yaml_diff.specs.Moves.{MoveLine, here, moved_under}
use Rattle.yaml_diff.specs.Listing.{Lists, ListsSome, PlacesBelow}
use Rattle.yaml_diff.specs.Found.{lines_of, moves_of, count_of, FindsItems, AllWithin, item_of, Aligns}
use Rattle.yaml_diff.proofs.WayLaws.{places-is, places-self, taken-once, begin, begin-pairs, begin-moved, begin-settles, begin-order, put}
use Rattle.yaml_diff.proofs.Lists.{add-some, lists-done, some-none}
use Rattle.yaml_diff.proofs.MoveLists.{add-own-moves}
use Rattle.yaml_diff.proofs.ItemLaws.{item-here, aligned-ends, aligned-takes}

below-next : (k n : ℕ) → k < n + 1 → (k < n) ⊎ (k ≡ n)
below-next zero zero l = inr refl
below-next zero (suc n) l = inl (omega arith)
below-next (suc k) zero l = absurd (omega arith)
below-next (suc k) (suc n) l = elim (below-next k n (omega arith)) [ inl a ↦ inl (omega arith) | inr e ↦ inr (ap suc e) ]

-- the differences of two sequences, as far as so many places of a list go
abbrev pub SomeItems : Forests → List NodeId → List NodeId → List Places → List Places → ℕ → ℕ → List Line → List MoveLine → Bool → Type 0
SomeItems g lefts rights ps moved at room lines moves w = (tag : List ℕ) → (P M : Pairing) × (P [] ≡ ps) × (M [] ≡ moved) × ListsSome g P M (sequence_of g tag lefts) (sequence_of g tag rights) room (PlacesBelow at ps) lines moves w

pub items-first : (g : Forests) (lefts rights : List NodeId) (ps moved : List Places) (room : ℕ) (lines : List Line) (moves : List MoveLine) (w : Bool) → Aligns g lefts rights ps moved → lines ≡ [] → moves ≡ [] → w ≡ true → SomeItems g lefts rights ps moved 0 room lines moves w
items-first g lefts rights ps moved room lines moves w a e m f tag =
    let t = sequence_of g tag lefts in
    let u = sequence_of g tag rights in
    (begin ps t u, begin-moved moved, refl, refl, some-none g (begin ps t u) (begin-moved moved) t u room (PlacesBelow 0 ps) lines moves w (begin-pairs ps t u (aligned-takes g tag lefts rights ps moved a)) (begin-settles ps moved t u a.settles) (begin-order ps moved t u a.in_order) e m f none)
  where
    none : (s : Step) → PlacesBelow 0 ps s → ⊥
    none (at_places p) c = absurd (omega (arith, c.1))
    none (at_key x) c = c

pub items-next : (g : Forests) → IsRanked g → (lefts rights : List NodeId) (ps moved : List Places) (at room : ℕ) (p : Places) (lines more all : List Line) (moves more_moves all_moves : List MoveLine) (w v b : Bool) → AllWithin g lefts → AllWithin g rights → Aligns g lefts rights ps moved → slice_get ps at ≡ Some p
    → SomeItems g lefts rights ps moved at room lines moves w → ((Q N : Pairing) × Lists g Q N (trees_of g (item_of lefts (left_place p))) (trees_of g (item_of rights (right_place p))) (room - (length lines + length moves)) more more_moves v)
    → all ≡ lines ++ map (under (Item p)) more → all_moves ≡ moves ++ map (moved_under (Item p)) more_moves → b ≡ (w && v) → SomeItems g lefts rights ps moved (at + 1) room all all_moves b
items-next g are lefts rights ps moved at room p lines more all moves more_moves all_moves w v b wl wr a e o m ea ma eb tag =
    let t = sequence_of g tag lefts in
    let u = sequence_of g tag rights in
    let P = (o tag).0 in
    let M = (o tag).1 in
    let i : P [] ≡ ps = (o tag).2 in
    let Q = m.0 in
    let N = m.1 in
    let left = room - (length lines + length moves) in
    let x : Lists g Q N (placed t (left_place p)) (placed u (right_place p)) left more more_moves v =
    subst (λ z. Lists g Q N z (placed u (right_place p)) left more more_moves v) (sym (item-here g tag lefts (left_place p))) (subst (λ z. Lists g Q N (trees_of g (item_of lefts (left_place p))) z left more more_moves v) (sym (item-here g tag rights (right_place p))) m.2) in
    let ends : EndsPaired (P []) t u = subst (λ z. EndsPaired z t u) (sym i) (aligned-ends g are tag lefts rights wl wr ps moved a) in
    let allow : Allows (P []) (at_places p) = subst (λ z. Allows z (at_places p)) (sym i) (at, e) in
    (put P (at_places p) Q, put M (at_places p) N, i, (o tag).3, add-some g P Q M N t u room (PlacesBelow at ps) (PlacesBelow (at + 1) ps) lines more all moves more_moves all_moves w v b (Item p) refl allow ends (o tag).4 x ea ma eb split up (at, omega arith, e) fresh (λ s c. subst (λ z. StepBefore z t u s (at_places p)) (sym i) (before s c)))
  where
    some-is : {x y : Places} → Some x ≡ Some y → x ≡ y
    some-is e = cc

    split : (s : Step) → PlacesBelow (at + 1) ps s → PlacesBelow at ps s ⊎ AlikeStep (at_places p) s
    split (at_places q) c = elim (below-next c.0 at c.1) [
      | inl l ↦ inl (c.0, l, c.2)
      | inr f ↦ let h : p ≡ q = some-is (sym e ∙ ap (slice_get ps) (sym f) ∙ c.2) in inr (subst (λ z. AlikeStep (at_places p) (at_places z)) h (places-self p))
    ]
    split (at_key x) c = absurd c

    up : (s : Step) → PlacesBelow at ps s → PlacesBelow (at + 1) ps s
    up (at_places q) c = (c.0, omega (arith, c.1), c.2)
    up (at_key x) c = c

    fresh : (s : Step) → PlacesBelow at ps s → AlikeStep s (at_places p) → ⊥
    fresh (at_places q) c h =
        let f : q ≡ p = places-is q p h in
        let same_place : c.0 ≡ at = taken-once ps (length lefts) (length rights) c.0 at p a.left a.right (c.2 ∙ ap Some f) e in
        absurd (omega (arith, c.1, same_place))
    fresh (at_key x) c h = c

    before : (s : Step) → PlacesBelow at ps s → StepBefore ps (sequence_of g tag lefts) (sequence_of g tag rights) s (at_places p)
    before (at_places q) c = (c.0, at, c.1, c.2, e)
    before (at_key x) c = c

take-most : {X : Type 0} (n : ℕ) (xs : List X) → length (take n xs) ≤ n
take-most zero xs = omega arith
take-most (suc n) [] = omega arith
take-most (suc n) (x ∷ xs) = let l = take-most n xs in omega (arith, l)

take-full : {X : Type 0} (n : ℕ) (xs : List X) → n < length xs → length (take n xs) ≡ n
take-full zero xs l = refl
take-full (suc n) [] l = absurd (omega (arith, l))
take-full (suc n) (x ∷ xs) l = ap suc (take-full n xs (omega (arith, l)))

-- what is left of the room is taken by the pairs of the two sequences themselves that have moved
pub items-done : (g : Forests) → IsRanked g → (lefts rights : List NodeId) (ps moved : List Places) (at room : ℕ) (f new : Found) → AllWithin g lefts → AllWithin g rights → Aligns g lefts rights ps moved → length ps ≤ at → SomeItems g lefts rights ps moved at room (lines_of f) (moves_of f) f.whole
    → lines_of new ≡ lines_of f → moves_of new ≡ moves_of f ++ map here (take (room - count_of f) moved) → new.whole ≡ (f.whole && nat_le (length moved) (room - count_of f)) → FindsItems g lefts rights room new
items-done g are lefts rights ps moved at room f new wl wr a l o e m n tag = (P, M, subst (λ z. Lists g P M t u room z (moves_of new) new.whole) (sym e) (subst (λ z. Lists g P M t u room (lines_of f) z new.whole) (sym m) whole))
  where
    t : Option Tree
    t = sequence_of g tag lefts

    u : Option Tree
    u = sequence_of g tag rights

    P : Pairing
    P = (o tag).0

    M : Pairing
    M = (o tag).1

    s : ListsSome g P M t u room (PlacesBelow at ps) (lines_of f) (moves_of f) f.whole
    s = (o tag).4

    left : ℕ
    left = room - count_of f

    left-is : left ≡ room - (length (lines_of f) + length (moves_of f))
    left-is = refl

    all : List MoveLine
    all = moves_of f ++ map here (take left moved)

    total : length all ≡ length (moves_of f) + length (take left moved)
    total = omega (arith, length-append (moves_of f) (map here (take left moved)), length-map (take left moved) here)

    on : new.whole ≡ true → (f.whole ≡ true) × (length moved ≤ left)
    on h = let b = and_both f.whole (nat_le (length moved) left) (sym n ∙ h) in (b.0, leb-true (length moved) left b.1)

    cut : (v w : Bool) → f.whole ≡ v → nat_le (length moved) left ≡ w → new.whole ≡ false → length (lines_of f) + length all ≡ room
    cut false w x y h = let c = s.cut x in let k = take-most left moved in omega (arith, c, k, total, left-is)
    cut true false x y h = let c = leb-false (length moved) left y in let k = take-full left moved c in omega (arith, k, total, s.few, left-is)
    cut true true x y h = let z : (f.whole && nat_le (length moved) left) ≡ true = ap (λ b. b && nat_le (length moved) left) x ∙ y in absurd (let q : true ≡ false = sym z ∙ sym n ∙ h in cc)

    by : (s : Step) → Allows (P []) s → PlacesBelow at ps s ⊎ ((left_part t s ≡ None) × (right_part u s ≡ None))
    by (at_places p) c = let d = subst (λ z. Allows z (at_places p)) (o tag).2 c in let m = slice_get_within ps d.0 p d.1 in inl (d.0, omega (arith, m, l), d.1)
    by (at_key x) c = inr (refl, refl)

    whole : Lists g P M t u room (lines_of f) all new.whole
    whole = lists-done g P M t u room (PlacesBelow at ps) (lines_of f) (moves_of f) all f.whole new.whole refl s by (let k = take-most left moved in omega (arith, k, total, s.few, left-is)) (λ h. (on h).0) (λ h. cut f.whole (nat_le (length moved) left) refl refl h)
        (add-own-moves g P M t u (PlacesBelow at ps) (moves_of f) moved left f.whole new.whole s.pairs refl (subst (λ z. EndsPaired z t u) (sym (o tag).2) (aligned-ends g are tag lefts rights wl wr ps moved a)) (o tag).3 a.once s.moved by on)
