-- What a tree shows at each path, and the first paths at which two trees show different things.
use Rattle.std.specs.Prelude.{◌≡◌, ◌≢◌, ℕ, zero, suc, cond, List, [], ◌∷◌, ◌++◌, Option, Some, None}
use Rattle.std.specs.Option.{option_map}
use Rattle.yaml_definitions.specs.model.Tree.{Tree, Trees, Pairs, scalar, sequence, mapping, end, item, done, entry}
use Rattle.yaml_definitions.specs.model.Same.{Same, same}

-- one step down: to the item at this place, or to the value of this key
pub data Step : Type 0 where
  at_item : ℕ → Step
  at_key : Tree → Step

abbrev pub Path : Type 0
Path = List Step

-- what a tree is but for its parts: its kind and tag, and a scalar's content
pub data Head : Type 0 where
  scalar_head : (tag content : List ℕ) → Head
  sequence_head : (tag : List ℕ) → Head
  mapping_head : (tag : List ℕ) → Head

abbrev pub head : Tree → Head
head (scalar a x) = scalar_head a x
head (sequence a ts) = sequence_head a
head (mapping a ps) = mapping_head a

abbrev pub item_in : Trees → ℕ → Option Tree
item_in end k = None
item_in (item t ts) zero = Some t
item_in (item t ts) (suc k) = item_in ts k

abbrev pub value_in : Pairs → Tree → Option Tree
value_in done x = None
value_in (entry k v ps) x = cond (same x k) (Some v) (value_in ps x)

abbrev pub part : Tree → Step → Option Tree
part (sequence a ts) (at_item k) = item_in ts k
part (mapping a ps) (at_key x) = value_in ps x
part _ _ = None

-- the same of a tree that may be missing
abbrev pub part_of : Option Tree → Step → Option Tree
part_of None s = None
part_of (Some t) s = part t s

-- the tree to which the path leads
abbrev pub reach : Option Tree → Path → Option Tree
reach t [] = t
reach t (s ∷ p) = reach (part_of t s) p

abbrev pub head_of : Option Tree → Option Head
head_of t = option_map head t

-- what stands at the end of the path
abbrev pub see : Option Tree → Path → Option Head
see t p = head_of (reach t p)

-- They show different things at this path, and the same at each path above it.
pub record DiffersFirst (t u : Option Tree) (q : Path) : Type 0 where
  pub differs : see t q ≢ see u q
  pub above : (p : Path) (s : Step) (r : Path) → q ≡ p ++ (s ∷ r) → see t p ≡ see u p

-- the same, step by step
abbrev pub Differs : Path → Option Tree → Option Tree → Type 0
Differs [] t u = head_of t ≢ head_of u
Differs (s ∷ q) t u = (head_of t ≡ head_of u) × Differs q (part_of t s) (part_of u s)

-- steps of one kind to one place, or to keys that are the same
abbrev pub AlikeStep : Step → Step → Type 0
AlikeStep (at_item j) (at_item k) = j ≡ k
AlikeStep (at_key x) (at_key y) = Same x y
AlikeStep _ _ = ⊥

abbrev pub AlikePath : Path → Path → Type 0
AlikePath [] [] = Unit {0}
AlikePath (s ∷ p) (r ∷ q) = AlikeStep s r × AlikePath p q
AlikePath _ _ = ⊥
