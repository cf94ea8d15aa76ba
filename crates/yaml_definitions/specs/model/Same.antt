-- When two trees are one value.
use Rattle.std.specs.Prelude.{◌≡◌, Bool, true, false, not, ◌&&◌, ◌||◌, IsTrue, bytes_eq, List}
use Rattle.std.specs.Cmp.Lexicographic.{pointwise}
use Rattle.yaml_definitions.specs.model.Tree.{Tree, Trees, Pairs, scalar, sequence, mapping, end, item, done, entry}

abbrev pub all_pairs : (Tree → Tree → Bool) → Pairs → Bool
all_pairs f done = true
all_pairs f (entry k v ps) = f k v && all_pairs f ps

abbrev pub any_pair : (Tree → Tree → Bool) → Pairs → Bool
any_pair f done = false
any_pair f (entry k v ps) = f k v || any_pair f ps

unfoldable mutual
  pub same : Tree → Tree → Bool
  same (scalar a x) (scalar b y) = bytes_eq a b && bytes_eq x y
  same (sequence a ts) (sequence b us) = bytes_eq a b && same_trees ts us
  same (mapping a ps) (mapping b qs) = bytes_eq a b && (each_in ps qs && all_pairs (λ j w. one_is ps j w) qs)
  same _ _ = false

  pub same_trees : Trees → Trees → Bool
  same_trees end end = true
  same_trees (item t ts) (item u us) = same t u && same_trees ts us
  same_trees _ _ = false

  -- each pair of the first has its like in the second
  pub each_in : Pairs → Pairs → Bool
  each_in done qs = true
  each_in (entry k v ps) qs = any_pair (λ j w. same k j && same v w) qs && each_in ps qs

  -- one of the pairs is like this key and value
  pub one_is : Pairs → Tree → Tree → Bool
  one_is done j w = false
  one_is (entry k v ps) j w = (same k j && same v w) || one_is ps j w

abbrev pub Same : Tree → Tree → Type 0
Same t u = IsTrue (same t u)

-- equally many trees, pairwise the same
abbrev pub Alike : List Tree → List Tree → Type 0
Alike f g = pointwise same f g ≡ true

-- no mapping has two entries with the same key
abbrev mutual
  pub keyed : Tree → Bool
  keyed (scalar a x) = true
  keyed (sequence a ts) = keyed_trees ts
  keyed (mapping a ps) = keyed_pairs ps

  pub keyed_trees : Trees → Bool
  keyed_trees end = true
  keyed_trees (item t ts) = keyed t && keyed_trees ts

  pub keyed_pairs : Pairs → Bool
  keyed_pairs done = true
  keyed_pairs (entry k v ps) = keyed k && (keyed v && (all_pairs (λ j w. not (same k j)) ps && keyed_pairs ps))

abbrev pub Keyed : Tree → Type 0
Keyed t = IsTrue (keyed t)
