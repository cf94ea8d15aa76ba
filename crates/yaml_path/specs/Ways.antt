-- Ways that lead through two trees at once, where items of sequences may have other places on one side than on the other.
use Rattle.std.specs.Prelude.{◌≡◌, ◌≢◌, ◌⊎◌, ℕ, zero, suc, ◌+◌, ◌<◌, ◌≤◌, Bool, true, false, cond, ◌&&◌, ◌==◌, List, [], ◌∷◌, Option, Some, None}
use Rattle.std.specs.List.{slice_get}
use Rattle.yaml_definitions.specs.model.Tree.{Tree, Trees, Pairs, sequence, mapping, end, item, done, entry}
use Rattle.yaml_definitions.specs.model.Same.{Same, same}
use Rattle.yaml_path.specs.Path.{item_in, value_in, part_of, head_of}
use Rattle.yaml_path.specs.Path as plain
use Rattle.yaml_path.specs.declared.places.Places.{Places}
use Rattle.yaml_path.specs.declared.places.Places.TheVariants.{Both, Left, Right}

-- One step down on both sides: to the items at these places, or to the values of this key.
pub data Step : Type 0 where
  at_places : Places → Step
  at_key : Tree → Step

abbrev pub Way : Type 0
Way = List Step

abbrev pub left_place : Places → Option ℕ
left_place (Both j k) = Some j
left_place (Left j) = Some j
left_place (Right k) = None

abbrev pub right_place : Places → Option ℕ
right_place (Both j k) = Some k
right_place (Left j) = None
right_place (Right k) = Some k

-- the item at the place, if there is a place
abbrev pub placed : Option Tree → Option ℕ → Option Tree
placed t None = None
placed t (Some k) = part_of t (plain.at_item k)

abbrev pub left_part : Option Tree → Step → Option Tree
left_part t (at_places p) = placed t (left_place p)
left_part t (at_key x) = part_of t (plain.at_key x)

abbrev pub right_part : Option Tree → Step → Option Tree
right_part u (at_places p) = placed u (right_place p)
right_part u (at_key x) = part_of u (plain.at_key x)

-- the trees to which a way leads
abbrev pub left_end : Option Tree → Way → Option Tree
left_end t [] = t
left_end t (s ∷ w) = left_end (left_part t s) w

abbrev pub right_end : Option Tree → Way → Option Tree
right_end u [] = u
right_end u (s ∷ w) = right_end (right_part u s) w

-- ---- which items are taken for which

abbrev pub put_before : Option ℕ → List ℕ → List ℕ
put_before None ks = ks
put_before (Some k) ks = k ∷ ks

-- the places on one side, in the order of the list
abbrev pub places_by : (Places → Option ℕ) → List Places → List ℕ
places_by side [] = []
places_by side (p ∷ ps) = put_before (side p) (places_by side ps)

-- so many numbers from this one on
abbrev pub numbers : ℕ → ℕ → List ℕ
numbers at zero = []
numbers at (suc n) = at ∷ numbers (suc at) n

abbrev pub count_in : Trees → ℕ
count_in end = 0
count_in (item t ts) = suc (count_in ts)

-- how many items a sequence has; others have none
abbrev pub count : Option Tree → ℕ
count (Some (sequence a ts)) = count_in ts
count _ = 0

-- Each place of this side stands in one step of the list, and no other place does.
pub record Each (side : Places → Option ℕ) (ps : List Places) (n : ℕ) : Type 0 where
  pub within : (k : ℕ) (p : Places) (i : ℕ) → slice_get ps k ≡ Some p → side p ≡ Some i → i < n
  pub there : (i : ℕ) → i < n → (k : ℕ) × (p : Places) × (slice_get ps k ≡ Some p) × (side p ≡ Some i)
  pub once : (j k : ℕ) (p q : Places) (i : ℕ) → slice_get ps j ≡ Some p → slice_get ps k ≡ Some q → side p ≡ Some i → side q ≡ Some i → j ≡ k

-- Each item of either side is taken once. Pairs may cross.
pub record Takes (ps : List Places) (t u : Option Tree) : Type 0 where
  pub lefts : Each left_place ps (count t)
  pub rights : Each right_place ps (count u)

-- At each way, how the items of the two sequences to which it leads are taken.
abbrev pub Pairing : Type 0
Pairing = Way → List Places

-- the pairing behind a step
abbrev pub below : Pairing → Step → Pairing
below P s w = P (s ∷ w)

abbrev pub PairsAll : Pairing → Option Tree → Option Tree → Type 0
PairsAll P t u = (w : Way) → Takes (P w) (left_end t w) (right_end u w)

-- a step of the pairing, or to any key
abbrev pub Allows : List Places → Step → Type 0
Allows ps (at_places p) = (k : ℕ) × (slice_get ps k ≡ Some p)
Allows ps (at_key x) = Unit {0}

abbrev pub AllowsWay : Pairing → Way → Type 0
AllowsWay P [] = Unit {0}
AllowsWay P (s ∷ w) = Allows (P []) s × AllowsWay (below P s) w

-- ---- which pairs have moved

-- the places are a pair of the list that does not stand in the other one
pub record Stays (ps moved : List Places) (i j : ℕ) : Type 0 where
  pub pair : Allows ps (at_places (Both i j))
  pub still : Allows moved (at_places (Both i j)) → ⊥

-- no two of the pairs that stay cross
abbrev pub StayersRise : List Places → List Places → Type 0
StayersRise ps moved = (i j m n : ℕ) → Stays ps moved i j → Stays ps moved m n → i < m → j < n

-- no two pairs cross
abbrev pub Rises : List Places → Type 0
Rises ps = (i j m n : ℕ) → Allows ps (at_places (Both i j)) → Allows ps (at_places (Both m n)) → i < m → j < n

-- Which pairs of the list have moved: some of them, without which no two cross; none where none do.
pub record Settles (ps moved : List Places) : Type 0 where
  pub pairs : (k : ℕ) (p : Places) → slice_get moved k ≡ Some p → (i : ℕ) × (j : ℕ) × (p ≡ Both i j) × Allows ps (at_places p)
  pub rise : StayersRise ps moved
  pub calm : Rises ps → (k : ℕ) (p : Places) → slice_get moved k ≡ Some p → ⊥

-- The order in which the steps stand: right places rise, and so do the left ones of the steps that have not moved.
pub record InOrder (ps moved : List Places) : Type 0 where
  pub rights : (a b : ℕ) (p q : Places) (i j : ℕ) → a < b → slice_get ps a ≡ Some p → slice_get ps b ≡ Some q → right_place p ≡ Some i → right_place q ≡ Some j → i < j
  pub lefts : (a b : ℕ) (p q : Places) (i j : ℕ) → a < b → slice_get ps a ≡ Some p → slice_get ps b ≡ Some q → (Allows moved (at_places p) → ⊥) → (Allows moved (at_places q) → ⊥) → left_place p ≡ Some i → left_place q ≡ Some j → i < j

-- at each way, which pairs have moved
abbrev pub SettlesAll : Pairing → Pairing → Type 0
SettlesAll P M = (w : Way) → Settles (P w) (M w)

abbrev pub InOrderAll : Pairing → Pairing → Type 0
InOrderAll P M = (w : Way) → InOrder (P w) (M w)

-- items in turn from these places on, so many of each side, and those of the longer side alone behind them
abbrev pub turns : (j k n m : ℕ) → List Places
turns j k zero zero = []
turns j k (suc n) (suc m) = Both j k ∷ turns (suc j) (suc k) n m
turns j k (suc n) zero = Left j ∷ turns (suc j) k n zero
turns j k zero (suc m) = Right k ∷ turns j (suc k) zero m

-- ---- equal ends

-- the items at these places are the same
abbrev pub SameItems : Option Tree → Option Tree → ℕ → ℕ → Type 0
SameItems t u j k = (x y : Tree) × (part_of t (plain.at_item j) ≡ Some x) × (part_of u (plain.at_item k) ≡ Some y) × Same x y

-- All items that are the same from the front on are pairs, and of those behind them all that are the same from the back on.
pub record EndsPaired (ps : List Places) (t u : Option Tree) : Type 0 where
  pub front : ℕ
  pub fronts : (i : ℕ) → i < front → SameItems t u i i × Allows ps (at_places (Both i i))
  pub front_end : SameItems t u front front → ⊥
  pub back : ℕ
  pub backs : (i j k : ℕ) → i < back → i + suc j ≡ count t → i + suc k ≡ count u → SameItems t u j k × Allows ps (at_places (Both j k))
  pub back_end : (j k : ℕ) → back + suc j ≡ count t → back + suc k ≡ count u → front ≤ j → front ≤ k → SameItems t u j k → ⊥

-- the same at each sequence through which a way leads
abbrev pub EndsAlong : Pairing → Way → Option Tree → Option Tree → Type 0
EndsAlong P [] t u = Unit {0}
EndsAlong P (s ∷ w) t u = EndsPaired (P []) t u × EndsAlong (below P s) w (left_part t s) (right_part u s)

-- ---- differences

-- Under this pairing the two show different things at the end of the way, and the same above it.
abbrev pub Differs : Pairing → Way → Option Tree → Option Tree → Type 0
Differs P [] t u = head_of t ≢ head_of u
Differs P (s ∷ w) t u = (head_of t ≡ head_of u) × Allows (P []) s × Differs (below P s) w (left_part t s) (right_part u s)

-- the two show the same at each tree that the way goes through, and at its end
abbrev pub Reaches : Pairing → Way → Option Tree → Option Tree → Type 0
Reaches P [] t u = head_of t ≡ head_of u
Reaches P (s ∷ w) t u = (head_of t ≡ head_of u) × Allows (P []) s × Reaches (below P s) w (left_part t s) (right_part u s)

abbrev pub alike_places : Places → Places → Bool
alike_places (Both j k) (Both m n) = (j == m) && (k == n)
alike_places (Left j) (Left m) = j == m
alike_places (Right k) (Right n) = k == n
alike_places _ _ = false

-- to the same places, or to keys that are the same
abbrev pub alike_step : Step → Step → Bool
alike_step (at_places p) (at_places q) = alike_places p q
alike_step (at_key x) (at_key y) = same x y
alike_step _ _ = false

abbrev pub AlikeStep : Step → Step → Type 0
AlikeStep s r = alike_step s r ≡ true

abbrev pub AlikeWay : Way → Way → Type 0
AlikeWay [] [] = Unit {0}
AlikeWay (s ∷ p) (r ∷ q) = AlikeStep s r × AlikeWay p q
AlikeWay _ _ = ⊥

-- ---- the order of differences

abbrev pub join : Pairs → Pairs → Pairs
join done qs = qs
join (entry k v ps) qs = entry k v (join ps qs)

-- the place of a key among those of the pairs
abbrev pub key_place : Pairs → Tree → ℕ
key_place done x = 0
key_place (entry k v ps) x = cond (same x k) 0 (suc (key_place ps x))

abbrev pub pairs_in : Option Tree → Pairs
pairs_in (Some (mapping a ps)) = ps
pairs_in _ = done

-- Items stand in the order of the pairing; keys in the order of the left mapping, and those of the right alone behind them in its order.
abbrev pub StepBefore : List Places → Option Tree → Option Tree → Step → Step → Type 0
StepBefore ps t u (at_places p) (at_places q) = (j k : ℕ) × (j < k) × (slice_get ps j ≡ Some p) × (slice_get ps k ≡ Some q)
StepBefore ps t u (at_key x) (at_key y) = key_place (join (pairs_in t) (pairs_in u)) x < key_place (join (pairs_in t) (pairs_in u)) y
StepBefore ps t u _ _ = ⊥

abbrev pub WayBefore : Pairing → Option Tree → Option Tree → Way → Way → Type 0
WayBefore P t u (s ∷ p) (r ∷ q) = StepBefore (P []) t u s r ⊎ (AlikeStep s r × WayBefore (below P s) (left_part t s) (right_part u s) p q)
WayBefore P t u _ _ = ⊥
