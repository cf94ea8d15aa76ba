-- What the calls answer.
use Rattle.std.specs.Prelude.{◌≡◌, ℕ, zero, suc, ◌+◌, ◌<◌, ◌≤◌, Bool, true, false, bytes_eq, List, [], ◌∷◌, map, length, Option, Some, None}
use Rattle.std.specs.List.{slice_get}
use Rattle.yaml_definitions.specs.model.Tree.{Tree}
use Rattle.yaml_store_rank.specs.Forests.{Forests, count, rank}
use Rattle.yaml_store_rank.specs.KeyOrder.{numbers, number_pairs}
use Rattle.yaml_tree.specs.View as view
use Rattle.yaml_tree.specs.declared.node.NodeId.{NodeId}
use Rattle.yaml_path.specs.Ways.{Pairing, Each, Settles, InOrder, left_place, right_place}
use Rattle.yaml_path.specs.declared.places.Places.{Places}
use Rattle.yaml_path.specs.declared.places.Places.TheVariants.{Both}
use Rattle.yaml_diff.specs.Lines.{Line, line_of, sequence_of}
use Rattle.yaml_diff.specs.Moves.{MoveLine, move_line_of}
use Rattle.yaml_diff.specs.Listing.{Lists}
use Rattle.yaml_diff.specs.declared.difference.Found.{Found}

abbrev pub lines_of : Found → List Line
lines_of f = map line_of f.list.items

abbrev pub moves_of : Found → List MoveLine
moves_of f = map move_line_of f.moves.items

-- how many differences and moves there are
abbrev pub count_of : Found → ℕ
count_of f = length (lines_of f) + length (moves_of f)

-- the differences and moves of two trees under some pairing of their items, of which some pairs have moved
abbrev pub Finds : Forests → Option Tree → Option Tree → ℕ → Found → Type 0
Finds g t u room f = (P M : Pairing) × Lists g P M t u room (lines_of f) (moves_of f) f.whole

-- the differences of two sequences of these items, and so of two streams of these documents
abbrev pub FindsItems : Forests → List NodeId → List NodeId → ℕ → Found → Type 0
FindsItems g lefts rights room f = (tag : List ℕ) → Finds g (sequence_of g tag lefts) (sequence_of g tag rights) room f

-- these are nodes
abbrev pub AllWithin : Forests → List NodeId → Type 0
AllWithin g items = (k : ℕ) (i : NodeId) → slice_get items k ≡ Some i → i.0 < count g

-- the items at these places have the same rank
abbrev pub SameRanks : Forests → List NodeId → List NodeId → ℕ → ℕ → Type 0
SameRanks g lefts rights j k = (x y : NodeId) × (slice_get lefts j ≡ Some x) × (slice_get rights k ≡ Some y) × (rank g x.0 ≡ rank g y.0)

-- Each place of either side is taken once, and these pairs have moved, each once; equal ends are pairs.
pub record Aligns (g : Forests) (lefts rights : List NodeId) (ps moved : List Places) : Type 0 where
  pub left : Each left_place ps (length lefts)
  pub right : Each right_place ps (length rights)
  pub settles : Settles ps moved
  pub in_order : InOrder ps moved
  pub once : (j k : ℕ) (p : Places) → slice_get moved j ≡ Some p → slice_get moved k ≡ Some p → j ≡ k
  pub front : ℕ
  pub fronts : (i : ℕ) → i < front → SameRanks g lefts rights i i × ((k : ℕ) × (slice_get ps k ≡ Some (Both i i)))
  pub front_end : SameRanks g lefts rights front front → ⊥
  pub back : ℕ
  pub backs : (i j k : ℕ) → i < back → i + suc j ≡ length lefts → i + suc k ≡ length rights → SameRanks g lefts rights j k × ((n : ℕ) × (slice_get ps n ≡ Some (Both j k)))
  pub back_end : (j k : ℕ) → back + suc j ≡ length lefts → back + suc k ≡ length rights → front ≤ j → front ≤ k → SameRanks g lefts rights j k → ⊥

-- the value of the key of this rank, among entries by number
abbrev pub IsValueOf : Forests → List (ℕ × ℕ) → ℕ → Option NodeId → Type 0
IsValueOf g es r None = (k : ℕ) (p : ℕ × ℕ) → slice_get es k ≡ Some p → rank g p.0 ≡ r → ⊥
IsValueOf g es r (Some value) = (k : ℕ) × (p : ℕ × ℕ) × (slice_get es k ≡ Some p) × (rank g p.0 ≡ r) × (p.1 ≡ value.0)

-- the node of this number is a sequence of these items
pub record HasItems (g : Forests) (i : ℕ) (list : List NodeId) : Type 0 where
  pub tag : List ℕ
  pub is : slice_get g.nodes i ≡ Some (tag, view.items (numbers list))

-- the node of this number is a mapping of these entries, as they are written
pub record HasEntries (g : Forests) (i : ℕ) (list : List (NodeId × NodeId)) : Type 0 where
  pub tag : List ℕ
  pub is : slice_get g.nodes i ≡ Some (tag, view.entries (number_pairs list))

abbrev pub Within : Forests → Option NodeId → Type 0
Within g None = Unit {0}
Within g (Some i) = i.0 < count g

-- the item at a place, if there is a place
abbrev pub item_of : List NodeId → Option ℕ → Option NodeId
item_of items None = None
item_of items (Some k) = slice_get items k

-- one more than its number, or 0 for none
abbrev pub size : Option NodeId → ℕ
size None = 0
size (Some i) = i.0 + 1

abbrev pub greater : ℕ → ℕ → ℕ
greater zero b = b
greater (suc a) zero = suc a
greater (suc a) (suc b) = suc (greater a b)

-- one more than the greatest number, or 0 for none
abbrev pub top : List NodeId → ℕ
top [] = 0
top (i ∷ items) = greater (i.0 + 1) (top items)

-- both are of one kind, and scalars of one content
abbrev pub kinds_alike : view.Inside → view.Inside → Bool
kinds_alike (view.content x) (view.content y) = bytes_eq x y
kinds_alike (view.items x) (view.items y) = true
kinds_alike (view.entries x) (view.entries y) = true
kinds_alike _ _ = false
