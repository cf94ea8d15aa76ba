-- What the passes that make pairs say of names, as they compare them, and of the pairs so far.
use Rattle.std.specs.Prelude.{◌≡◌, ◌⊎◌, ◌↔◌, ℕ, zero, suc, ◌+◌, ◌-◌, ◌*◌, ◌<◌, ◌^◌, min, Bool, true, cond, is_some, List, [], ◌++◌, map, length, take, sum_by, count_by, ◌==◌, slice_set, codes, Option, Some, None, IfSome}
use Rattle.std.specs.Borrow.{Bor}
use Rattle.std.specs.declared.cmp.Ordering.{Ordering}
use Rattle.std.specs.Ordering.{ordering_then, nat_cmp, eq_by_cmp}
use Rattle.std.specs.Cmp.Lexicographic.{slice_cmp}
use Rattle.std.specs.List.{slice_get}
use Rattle.std.specs.Option.{option_map, option_cmp}
use Rattle.yaml_definitions.specs.model.Tree.{Tree, Trees, Pairs, scalar, sequence, mapping, end, item, done, entry}
use Rattle.yaml_tree.specs.declared.node.NodeId.{NodeId}
use Rattle.yaml_store_rank.specs.Forests.{Forests, count, tree, rank, item_trees}
use Rattle.yaml_path.specs.declared.places.Places.{Places}
use Rattle.yaml_path.specs.declared.places.Places.TheVariants.{Both}
use Rattle.yaml_pair.specs.Names.{Naming, by_object, by_path, scalar_at, group_of, EqualPair, ByNames}
use Rattle.yaml_pair.specs.declared.names.Column.{Column}
use Rattle.yaml_pair.specs.declared.names.Column.TheVariants as columns
use Rattle.yaml_pair.specs.declared.partners.Partners.{Partners}

-- ---- nodes

abbrev pub AllWithin : Forests → List NodeId → Type 0
AllWithin g items = (k : ℕ) (i : NodeId) → slice_get items k ≡ Some i → i.0 < count g

abbrev pub EntriesWithin : Forests → List (NodeId × NodeId) → Type 0
EntriesWithin g entries = (k : ℕ) (p : NodeId × NodeId) → slice_get entries k ≡ Some p → (p.0.0 < count g) × (p.1.0 < count g)

-- the node, if there is one, stands for the tree, if there is one
pub record IsFound (g : Forests) (t : Option Tree) (o : Option NodeId) : Type 0 where
  pub is : option_map (λ i. tree g i.0) o ≡ t
  pub within : IfSome o (λ i. i.0 < count g)

-- the rank of a node that stands for the tree, if there is one
abbrev pub IsScalarRank : Forests → Option Tree → Option ℕ → Type 0
IsScalarRank g t None = t ≡ None
IsScalarRank g t (Some n) = (i : ℕ) × (i < count g) × (t ≡ Some (tree g i)) × (n ≡ rank g i)

abbrev pub how_many : Trees → ℕ
how_many end = zero
how_many (item t ts) = suc (how_many ts)

abbrev pub how_many_pairs : Pairs → ℕ
how_many_pairs done = zero
how_many_pairs (entry k v ps) = suc (how_many_pairs ps)

-- how many items or entries a tree has
abbrev pub width : Tree → ℕ
width (scalar a x) = zero
width (sequence a ts) = how_many ts
width (mapping a ps) = how_many_pairs ps

-- how many items and entries the items of two lists have
abbrev pub weight_of : Forests → List NodeId → List NodeId → ℕ
weight_of g lefts rights = sum_by (λ i. width (tree g i.0)) lefts + sum_by (λ i. width (tree g i.0)) rights

-- the items have more entries than are looked at, and more than twice as many as there are nodes
abbrev pub IsWeighty : Forests → List NodeId → List NodeId → Type 0
IsWeighty g lefts rights = (1048576 < weight_of g lefts rights) × (2 * count g < weight_of g lefts rights)

-- ---- names

abbrev pub naming_of : Column → Naming
naming_of columns.Object = by_object
naming_of (columns.Path path) = by_path path.now

-- the texts behind references
abbrev pub texts_of : List (Bor (List ℕ)) → List (List ℕ)
texts_of xs = map (λ x. x.now) xs

-- a name as it is compared
abbrev pub Name : Type 0
Name = Bor (List ℕ) × ℕ × Option ℕ × ℕ

abbrev pub name_cmp : Name → Name → Ordering
name_cmp x y = ordering_then (ordering_then (ordering_then (slice_cmp nat_cmp x.0.now y.0.now) (nat_cmp x.1 y.1)) (option_cmp nat_cmp x.2 y.2)) (nat_cmp x.3 y.3)

abbrev pub is_one : Name → Name → Bool
is_one = eq_by_cmp name_cmp

-- the name of an object, as it is compared; none where a part of it is missing
abbrev pub IsObjectName : Forests → Tree → Option Name → Type 0
IsObjectName g t None = (group_of t ≡ None) ⊎ ((scalar_at t (codes "kind") ≡ None) ⊎ (scalar_at t (codes "metadata.name") ≡ None))
IsObjectName g t (Some n) =
    (group_of t ≡ Some n.0.now) × IsScalarRank g (scalar_at t (codes "kind")) (Some n.1) × IsScalarRank g (scalar_at t (codes "metadata.namespace")) n.2 × IsScalarRank g (scalar_at t (codes "metadata.name")) (Some n.3)

abbrev pub IsPathName : Forests → Option Tree → Option Name → Type 0
IsPathName g t None = t ≡ None
IsPathName g t (Some n) = (n.0.now ≡ []) × IsScalarRank g t (Some n.1) × (n.2 ≡ None) × (n.3 ≡ 0)

-- the name that a tree has there, as it is compared
abbrev pub IsName : Forests → Naming → Tree → Option Name → Type 0
IsName g by_object t o = IsObjectName g t o
IsName g (by_path path) t o = IsPathName g (scalar_at t path) o

-- the first so many items that are in no pair have their names, and no other place has one
pub record AreNamesTo (g : Forests) (c : Naming) (items : List NodeId) (places : List (Option ℕ)) (upto : ℕ) (names : List (Option Name)) : Type 0 where
  pub long : length names ≡ upto
  pub are : (k : ℕ) (i : NodeId) → k < upto → slice_get items k ≡ Some i → slice_get places k ≡ Some None → i.0 < count g → (o : Option Name) × (slice_get names k ≡ Some o) × IsName g c (tree g i.0) o
  pub only : (k : ℕ) (n : Name) → slice_get names k ≡ Some (Some n) → slice_get places k ≡ Some None

abbrev pub AreNames : Forests → Naming → List NodeId → List (Option ℕ) → List (Option Name) → Type 0
AreNames g c items places names = AreNamesTo g c items places (length items) names

-- the ranks of items
abbrev pub AreRanks : Forests → List NodeId → List ℕ → Type 0
AreRanks g items ranks = (length ranks ≡ length items) × (AllWithin g items → ranks ≡ map (λ i. rank g i.0) items)

-- a rank, how many of the ranks are the same, and how many of these stand before this place
pub record IsCount (ranks : List ℕ) (k : ℕ) (n : Name) : Type 0 where
  pub bare : n.0.now ≡ []
  pub is : slice_get ranks k ≡ Some n.1
  pub often : n.2 ≡ Some (count_by (λ x. x == n.1) ranks)
  pub before : n.3 ≡ count_by (λ x. x == n.1) (take k ranks)

abbrev pub AreCounts : List ℕ → List (Option Name) → ℕ → Type 0
AreCounts ranks names upto = (length names ≡ upto) × ((k : ℕ) → k < upto → (n : Name) × (slice_get names k ≡ Some (Some n)) × IsCount ranks k n)

-- ---- places of names

-- several of the first so many names are this one
pub record Several {N : Type 0} (one : N → N → Bool) (names : List (Option N)) (upto : ℕ) (q : N) : Type 0 where
  pub first : ℕ
  pub second : ℕ
  pub first_name : N
  pub second_name : N
  pub apart : first < second
  pub within : second < upto
  pub first_is : slice_get names first ≡ Some (Some first_name)
  pub first_one : one first_name q ≡ true
  pub second_is : slice_get names second ≡ Some (Some second_name)
  pub second_one : one second_name q ≡ true

-- of the first so many names, the one at this place alone is this one
pub record Alone {N : Type 0} (one : N → N → Bool) (names : List (Option N)) (upto : ℕ) (q : N) (place : ℕ) : Type 0 where
  pub within : place < upto
  pub name : N
  pub is : slice_get names place ≡ Some (Some name)
  pub alike : one name q ≡ true
  pub lone : (k : ℕ) (n : N) → k < upto → slice_get names k ≡ Some (Some n) → one n q ≡ true → k ≡ place

abbrev pub StandsSome : {N : Type 0} → (N → N → Bool) → List (Option N) → ℕ → N → Option ℕ → Type 0
StandsSome one names upto q None = Several one names upto q
StandsSome one names upto q (Some place) = Alone one names upto q place

-- of the first so many names, none is this one, or several are, or one is
abbrev pub Stands : {N : Type 0} → (N → N → Bool) → List (Option N) → ℕ → N → Option (Option ℕ) → Type 0
Stands {N} one names upto q None = (k : ℕ) (n : N) → k < upto → slice_get names k ≡ Some (Some n) → one n q ≡ true → ⊥
Stands {N} one names upto q (Some place) = StandsSome one names upto q place

-- the one place, if there is one
abbrev pub flat : Option (Option ℕ) → Option ℕ
flat (Some place) = place
flat None = None

-- the right place of a left name that stands once in either list
abbrev pub partner_in : {N : Type 0} → (N → Option (Option ℕ)) → (N → Option (Option ℕ)) → Option N → Option ℕ
partner_in lefts rights None = None
partner_in lefts rights (Some n) = cond (is_some (flat (lefts n))) (flat (rights n)) None

-- the names at these places are the same, and no other of either list is
pub record LoneNames {N : Type 0} (one : N → N → Bool) (lefts rights : List (Option N)) (j k : ℕ) : Type 0 where
  pub left : N
  pub right : N
  pub left_is : slice_get lefts j ≡ Some (Some left)
  pub right_is : slice_get rights k ≡ Some (Some right)
  pub alike : one right left ≡ true
  pub left_lone : (i : ℕ) (n : N) → slice_get lefts i ≡ Some (Some n) → one n left ≡ true → i ≡ j
  pub right_lone : (i : ℕ) (n : N) → slice_get rights i ≡ Some (Some n) → one n left ≡ true → i ≡ k

-- ---- pairs so far

abbrev pub Partner : List (Option ℕ) → ℕ → ℕ → Type 0
Partner places j k = slice_get places j ≡ Some (Some k)

-- names stand at places that are in no pair
abbrev pub OnlyFree : List (Option Name) → List (Option ℕ) → Type 0
OnlyFree names places = (k : ℕ) (n : Name) → slice_get names k ≡ Some (Some n) → slice_get places k ≡ Some None

-- each pair is noted on both sides
abbrev pub Agrees : Partners → Type 0
Agrees p = (j k : ℕ) → (Partner p.lefts.items j k) ↔ (Partner p.rights.items k j)

-- pairs are kept, and stay noted on both sides
pub record Keeps (old new : Partners) : Type 0 where
  pub lefts_len : length new.lefts.items ≡ length old.lefts.items
  pub rights_len : length new.rights.items ≡ length old.rights.items
  pub left : (j k : ℕ) → Partner old.lefts.items j k → Partner new.lefts.items j k
  pub right : (j k : ℕ) → Partner old.rights.items k j → Partner new.rights.items k j
  pub agrees : Agrees old → Agrees new

-- these places are a pair now, and nothing else changed
pub record Takes (old new : Partners) (left right : ℕ) : Type 0 where
  pub lefts : new.lefts.items ≡ slice_set old.lefts.items left (Some right)
  pub rights : new.rights.items ≡ slice_set old.rights.items right (Some left)

-- of the names at the first so many left places, those that stand once on either side make pairs now, and nothing else changed
pub record JoinsTo (lefts rights : List (Option Name)) (upto : ℕ) (old new : Partners) : Type 0 where
  pub lefts_len : length new.lefts.items ≡ length old.lefts.items
  pub rights_len : length new.rights.items ≡ length old.rights.items
  pub left : (j k : ℕ) → (Partner new.lefts.items j k) ↔ (Partner old.lefts.items j k ⊎ ((j < upto) × LoneNames is_one lefts rights j k))
  pub right : (j k : ℕ) → (Partner new.rights.items k j) ↔ (Partner old.rights.items k j ⊎ ((j < upto) × LoneNames is_one lefts rights j k))

-- no pairs of lists of these lengths
pub record IsNone (p : Partners) (lefts rights : ℕ) : Type 0 where
  pub lefts_len : length p.lefts.items ≡ lefts
  pub rights_len : length p.rights.items ≡ rights
  pub left : (k : ℕ) → k < lefts → slice_get p.lefts.items k ≡ Some None
  pub right : (k : ℕ) → k < rights → slice_get p.rights.items k ≡ Some None

-- just these pairs of lists of these lengths
pub record HasPairs (p : Partners) (lefts rights : ℕ) (Pairs : ℕ → ℕ → Type 0) : Type 0 where
  pub lefts_len : length p.lefts.items ≡ lefts
  pub rights_len : length p.rights.items ≡ rights
  pub left : (j k : ℕ) → (Partner p.lefts.items j k) ↔ (Pairs j k)
  pub right : (j k : ℕ) → (Partner p.rights.items k j) ↔ (Pairs j k)

abbrev pub EqualPairs : Forests → List NodeId → List NodeId → ℕ → ℕ → Type 0
EqualPairs g lefts rights = EqualPair (item_trees g lefts) (item_trees g rights)

abbrev pub PairsBy : Forests → List NodeId → List NodeId → List Naming → ℕ → ℕ → Type 0
PairsBy g lefts rights = ByNames (item_trees g lefts) (item_trees g rights)

abbrev pub Within : Forests → List NodeId → List NodeId → Type 0
Within g lefts rights = AllWithin g lefts × AllWithin g rights

-- ---- steps

-- the places are a pair among the steps
abbrev pub HasPair : List (Places × Bool) → ℕ → ℕ → Type 0
HasPair steps j k = (i : ℕ) × (moved : Bool) × (slice_get steps i ≡ Some (Both j k, moved))

-- The pairs of the lists are among the steps, whose places begin at this one.
abbrev pub HasPairsFrom : ℕ → List (Places × Bool) → (ℕ → ℕ → Type 0) → Type 0
HasPairsFrom first steps Pairs = (j k : ℕ) → Pairs j k → HasPair steps (first + j) (first + k)

-- no place of either list is in two pairs among the steps
pub record OneToOne (steps : List (Places × Bool)) : Type 0 where
  pub left : (a b c : ℕ) → HasPair steps a b → HasPair steps a c → b ≡ c
  pub right : (a b c : ℕ) → HasPair steps a c → HasPair steps b c → a ≡ b

-- These pairs of the lists are among the steps, whose places begin at this one, and no place is in two pairs.
pub record TellsPairs (first : ℕ) (steps : List (Places × Bool)) (Pairs : ℕ → ℕ → Type 0) : Type 0 where
  pub has : HasPairsFrom first steps Pairs
  pub once : OneToOne steps

-- the list goes on, without a pair more
pub record GoesOn (old new : List (Places × Bool)) : Type 0 where
  pub more : List (Places × Bool)
  pub on : new ≡ old ++ more
  pub no_pair : (a b : ℕ) → HasPair new a b → HasPair old a b

-- a pair whose places begin at this one, or are the greatest number where they do not fit
pub record IsTold (first : ℕ) (p : Partners) (a b : ℕ) : Type 0 where
  pub j : ℕ
  pub k : ℕ
  pub is : Partner p.rights.items k j
  pub left : a ≡ min (j + first) (2 ^ 64 - 1)
  pub right : b ≡ min (k + first) (2 ^ 64 - 1)

-- The pairs at the first so many right places are among the steps, whose places begin at this one and fit, and no others are.
pub record StepsTo (first : ℕ) (p : Partners) (upto : ℕ) (steps : List (Places × Bool)) : Type 0 where
  pub has : (j k : ℕ) → k < upto → Partner p.rights.items k j → first + j < 2 ^ 64 → first + k < 2 ^ 64 → HasPair steps (first + j) (first + k)
  pub only : (a b : ℕ) → HasPair steps a b → IsTold first p a b

abbrev pub StepsOf : ℕ → Partners → List (Places × Bool) → Type 0
StepsOf first p steps = StepsTo first p (length p.rights.items) steps

-- Items that are equal and equally often in either list are pairs, and then those that one naming after the other makes pairs, unless the
-- items have too many entries. No item is in two pairs.
abbrev pub PairsNamed : Forests → List NodeId → List NodeId → ℕ → List Naming → List (Places × Bool) → Type 0
PairsNamed g lefts rights first cs steps =
    Within g lefts rights → (IsWeighty g lefts rights → ⊥) → first + length lefts < 2 ^ 64 → first + length rights < 2 ^ 64 → TellsPairs first steps (PairsBy g lefts rights cs)
