-- Numbers of paths, and what is at or below them.
use Rattle.std.specs.Prelude.{◌≡◌, ◌≤◌, ℕ, List, [], ◌∷◌, ◌++◌, length, Option, Some, None}
use Rattle.std.specs.declared.cmp.Ordering.{Ordering}
use Rattle.std.specs.List.{slice_get}
use Rattle.std.specs.BTreeMap.{BTreeMap, get}
use Rattle.yaml_path.specs.declared.places.Places.TheVariants.{Both, Left, Right}
use Rattle.yaml_diff.specs.declared.difference.Step.{Step}
use Rattle.yaml_diff.specs.declared.difference.Step.TheVariants.{Item, Value}
use Rattle.review_folds.specs.declared.lists.Key.{Key}
use Rattle.review_folds.specs.declared.lists.Span.{Span}
use Rattle.review_folds.specs.declared.lists.Lists.{Lists}
use Rattle.yaml_diff.specs.declared.difference.Difference.{Difference}
use Rattle.yaml_diff.specs.declared.difference.Move.{Move}
use Rattle.yaml_diff.specs.declared.difference.Found.{Found}

-- a step from the path of a number
abbrev pub key_of : ℕ → Step → Key
key_of n (Item (Both j k)) = record { above = n; kind = 0; left = j; right = k }
key_of n (Item (Left j)) = record { above = n; kind = 1; left = j; right = 0 }
key_of n (Item (Right k)) = record { above = n; kind = 2; left = 0; right = k }
key_of n (Value key) = record { above = n; kind = 3; left = key.0; right = 0 }

abbrev pub below_of : (Key → Key → Ordering) → BTreeMap Key ℕ → ℕ → Step → Option ℕ
below_of cmp m n s = get cmp m (key_of n s)

-- the number a step further, if there is one so far
abbrev pub step_from : (ℕ → Step → Option ℕ) → Step → Option ℕ → Option ℕ
step_from below s None = None
step_from below s (Some n) = below n s

-- The number of a path, the last step first, where the next number is found step by step.
abbrev pub number_of : (ℕ → Step → Option ℕ) → List Step → Option ℕ
number_of below [] = Some 0
number_of below (s ∷ w) = step_from below s (number_of below w)

-- the path leads to the end of this one or below it: both have their last step first
abbrev pub IsBelow : List Step → List Step → Type 0
IsBelow path list = (front : List Step) × (path ≡ front ++ list)

-- each span is as wide as it was or wider
abbrev pub IsWider : List Span → List Span → Type 0
IsWider old new = (n : ℕ) (t : Span) → slice_get new n ≡ Some t → (s : Span) × (slice_get old n ≡ Some s) × (t.first ≤ s.first) × (s.last ≤ t.last)

-- the span of this list has the number, if there is such a span
abbrev pub HasNumber : List Span → ℕ → ℕ → Type 0
HasNumber spans n k = (t : Span) → slice_get spans n ≡ Some t → (t.first ≤ k) × (k ≤ t.last)

-- the spans of all lists at or above the end of a path have the number
pub record Notes (below : ℕ → Step → Option ℕ) (path : List Step) (k : ℕ) (spans : List Span) : Type 0 where
  pub all : (list : List Step) (n : ℕ) → IsBelow path list → number_of below list ≡ Some n → HasNumber spans n k

-- the same of moves, each with its own number
abbrev pub NotesMoves : (ℕ → Step → Option ℕ) → List Move → List Span → Type 0
NotesMoves below moves spans = (k : ℕ) (m : Move) → slice_get moves k ≡ Some m → Notes below m.path.items k spans

-- and of differences, all with this number
abbrev pub NotesDifferences : (ℕ → Step → Option ℕ) → List Difference → ℕ → List Span → Type 0
NotesDifferences below list n spans = (k : ℕ) (d : Difference) → slice_get list k ≡ Some d → Notes below d.path.items n spans

-- the spans of all lists have the moves and differences that are at or below them
abbrev pub Covers : (Key → Key → Ordering) → Found → Lists → Type 0
Covers cmp f l = NotesMoves (below_of cmp l.numbers.below) f.moves.items l.spans.items × NotesDifferences (below_of cmp l.numbers.below) f.list.items (length f.moves.items) l.spans.items

-- All moves at or below a list have numbers within the span, and no difference is there unless the span ends behind all moves.
pub record IsSpan (f : Found) (list : List Step) (s : Span) : Type 0 where
  pub moves : (k : ℕ) (m : Move) → slice_get f.moves.items k ≡ Some m → IsBelow m.path.items list → (s.first ≤ k) × (k ≤ s.last)
  pub differences : (k : ℕ) (d : Difference) → slice_get f.list.items k ≡ Some d → IsBelow d.path.items list → length f.moves.items ≤ s.last
