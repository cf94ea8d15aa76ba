-- Which items of two lists are pairs because they are equal, and which because they have the same name.
use Rattle.std.specs.Prelude.{◌≡◌, ◌⊎◌, ℕ, Bool, true, false, cond, ◌&&◌, ◌==◌, bytes_eq, nat_lt, List, [], ◌∷◌, ◌++◌, map, length, take, count_by, Option, Some, None, option_and_then, codes}
use Rattle.std.specs.List.{slice_get, slice_split, position_or_len, before_first}
use Rattle.std.specs.Option.{option_map}
use Rattle.yaml_definitions.specs.model.Tag.{str_tag}
use Rattle.yaml_definitions.specs.model.Tree.{Tree, scalar}
use Rattle.yaml_definitions.specs.model.Same.{same}
use Rattle.yaml_path.specs.Path.{Step, Path, at_key, reach}

-- ---- where keys lead

-- the step to the value of the key that is this text
abbrev pub to_key : List ℕ → Step
to_key key = at_key (scalar str_tag key)

-- the steps along keys that `.` parts
abbrev pub way : List ℕ → Path
way path = map to_key (slice_split (λ b. b == 46) path)

abbrev pub scalar_of : Tree → Option Tree
scalar_of (scalar a x) = Some (scalar a x)
scalar_of _ = None

abbrev pub content_of : Tree → Option (List ℕ)
content_of (scalar a x) = Some x
content_of _ = None

-- what the keys lead to from a tree
abbrev pub found_at : Tree → List ℕ → Option Tree
found_at t path = reach (Some t) (way path)

-- the scalar to which the keys lead from a tree
abbrev pub scalar_at : Tree → List ℕ → Option Tree
scalar_at t path = option_and_then scalar_of (found_at t path)

-- ---- names

-- what stands before the first `/`; nothing where there is none
abbrev pub before_slash : List ℕ → List ℕ
before_slash xs = cond (nat_lt (position_or_len (λ b. b == 47) xs) (length xs)) (before_first (λ b. b == 47) xs) []

-- the group of an object: its `apiVersion` without the version
abbrev pub group_of : Tree → Option (List ℕ)
group_of t = option_map before_slash (option_and_then content_of (found_at t (codes "apiVersion")))

-- both are there, and the same
abbrev pub both_same : Option Tree → Option Tree → Bool
both_same (Some t) (Some u) = same t u
both_same _ _ = false

-- both are there, and the same; or neither is there
abbrev pub same_if_any : Option Tree → Option Tree → Bool
same_if_any (Some t) (Some u) = same t u
same_if_any None None = true
same_if_any _ _ = false

abbrev pub both_equal : Option (List ℕ) → Option (List ℕ) → Bool
both_equal (Some xs) (Some ys) = bytes_eq xs ys
both_equal _ _ = false

-- both are objects of one group, kind, namespace and name
abbrev pub same_object : Tree → Tree → Bool
same_object t u =
    both_equal (group_of t) (group_of u)
    && (both_same (scalar_at t (codes "kind")) (scalar_at u (codes "kind"))
    && (same_if_any (scalar_at t (codes "metadata.namespace")) (scalar_at u (codes "metadata.namespace"))
    && both_same (scalar_at t (codes "metadata.name")) (scalar_at u (codes "metadata.name"))))

-- what names an item: the name of an object, or the scalar to which keys lead
pub data Naming : Type 0 where
  by_object : Naming
  by_path : List ℕ → Naming

-- the keys that name an item, in the order in which they are tried
abbrev pub table : List (List ℕ)
table = codes "name" ∷ (codes "id" ∷ (codes "key" ∷ (codes "alert" ∷ (codes "uid" ∷ (codes "containerPort" ∷ (codes "path" ∷ []))))))

-- what names the items of a list: the paths that are asked for, the name of an object and, but for documents, the keys of the table
abbrev pub namings : List (List ℕ) → Bool → List Naming
namings paths documents = map by_path paths ++ (by_object ∷ cond documents [] (map by_path table))

-- both have a name, and it is the same
abbrev pub same_name : Naming → Tree → Tree → Bool
same_name by_object t u = same_object t u
same_name (by_path path) t u = both_same (scalar_at t path) (scalar_at u path)

-- ---- pairs of places, of a left and a right item

-- The items are equal, either list has as many of them, and as many of these stand before the one as before the other.
pub record EqualPair (lefts rights : List Tree) (j k : ℕ) : Type 0 where
  pub left : Tree
  pub right : Tree
  pub left_is : slice_get lefts j ≡ Some left
  pub right_is : slice_get rights k ≡ Some right
  pub equal : same right left ≡ true
  pub often : count_by (λ t. same t left) rights ≡ count_by (λ t. same t left) lefts
  pub before : count_by (λ t. same t left) (take k rights) ≡ count_by (λ t. same t left) (take j lefts)

-- the left item is in none of these pairs
abbrev pub LeftFree : (ℕ → ℕ → Type 0) → ℕ → Type 0
LeftFree Pairs j = (k : ℕ) → Pairs j k → ⊥

-- the right item is in none of these pairs
abbrev pub RightFree : (ℕ → ℕ → Type 0) → ℕ → Type 0
RightFree Pairs k = (j : ℕ) → Pairs j k → ⊥

-- Of the items that are in none of these pairs, the two are the same, and no other of either list is the same.
pub record LonePair (agree : Tree → Tree → Bool) (lefts rights : List Tree) (Pairs : ℕ → ℕ → Type 0) (j k : ℕ) : Type 0 where
  pub left : Tree
  pub right : Tree
  pub left_is : slice_get lefts j ≡ Some left
  pub right_is : slice_get rights k ≡ Some right
  pub left_free : LeftFree Pairs j
  pub right_free : RightFree Pairs k
  pub alike : agree right left ≡ true
  pub left_lone : (i : ℕ) (t : Tree) → slice_get lefts i ≡ Some t → LeftFree Pairs i → agree t left ≡ true → i ≡ j
  pub right_lone : (i : ℕ) (u : Tree) → slice_get rights i ≡ Some u → RightFree Pairs i → agree u left ≡ true → i ≡ k

-- these pairs, and those that the names make of the other items, one naming after the other
abbrev pub NamedPairs : List Tree → List Tree → (ℕ → ℕ → Type 0) → List Naming → ℕ → ℕ → Type 0
NamedPairs lefts rights Pairs [] j k = Pairs j k
NamedPairs lefts rights Pairs (c ∷ cs) j k = NamedPairs lefts rights (λ a b. Pairs a b ⊎ LonePair (same_name c) lefts rights Pairs a b) cs j k

-- the pairs that equality makes, and those that these names make of the other items
abbrev pub ByNames : List Tree → List Tree → List Naming → ℕ → ℕ → Type 0
ByNames lefts rights namings = NamedPairs lefts rights (EqualPair lefts rights) namings
