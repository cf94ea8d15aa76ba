-- The order of trees.
use Rattle.std.specs.Prelude.{◌≡◌, ℕ, cond, List}
use Rattle.std.specs.declared.cmp.Ordering.{Ordering}
use Rattle.std.specs.declared.cmp.Ordering.TheVariants.{Less, Equal, Greater}
use Rattle.std.specs.Ordering.{ordering_then, nat_cmp, is_gt}
use Rattle.std.specs.Cmp.Lexicographic.{slice_cmp}
use Rattle.yaml_definitions.specs.model.Tree.{Tree, Trees, Pairs, scalar, sequence, mapping, end, item, done, entry, tag_of, kind_of, height}

abbrev pub bytes_cmp : List ℕ → List ℕ → Ordering
bytes_cmp = slice_cmp nat_cmp

-- height, then kind, then tag, then what is inside
abbrev pub by_head_then : Ordering → Tree → Tree → Ordering
by_head_then inside t u =
    ordering_then (nat_cmp (height t) (height u)) (ordering_then (nat_cmp (kind_of t) (kind_of u)) (ordering_then (bytes_cmp (tag_of t) (tag_of u)) inside))

-- two trees' contents, items, or pairs as they stand
abbrev mutual
  pub inside_cmp : Tree → Tree → Ordering
  inside_cmp (scalar a x) (scalar b y) = bytes_cmp x y
  inside_cmp (sequence a ts) (sequence b us) = trees_cmp ts us
  inside_cmp (mapping a ps) (mapping b qs) = pairs_cmp ps qs
  inside_cmp _ _ = Equal

  pub trees_cmp : Trees → Trees → Ordering
  trees_cmp end end = Equal
  trees_cmp end (item u us) = Less
  trees_cmp (item t ts) end = Greater
  trees_cmp (item t ts) (item u us) = ordering_then (by_head_then (inside_cmp t u) t u) (trees_cmp ts us)

  pub pairs_cmp : Pairs → Pairs → Ordering
  pairs_cmp done done = Equal
  pairs_cmp done (entry j w qs) = Less
  pairs_cmp (entry k v ps) done = Greater
  pairs_cmp (entry k v ps) (entry j w qs) =
      ordering_then (by_head_then (inside_cmp k j) k j) (ordering_then (by_head_then (inside_cmp v w) v w) (pairs_cmp ps qs))

-- two trees whose pairs stand in order
unfoldable pub tree_cmp : Tree → Tree → Ordering
tree_cmp t u = by_head_then (inside_cmp t u) t u

-- a pair put before the first whose key is not below its own
abbrev pub enter : Tree → Tree → Pairs → Pairs
enter k v done = entry k v done
enter k v (entry j w ps) = cond (is_gt (tree_cmp k j)) (entry j w (enter k v ps)) (entry k v (entry j w ps))

-- the same tree, the pairs of each mapping in order of their keys
unfoldable mutual
  pub arranged : Tree → Tree
  arranged (scalar a x) = scalar a x
  arranged (sequence a ts) = sequence a (arranged_trees ts)
  arranged (mapping a ps) = mapping a (arranged_pairs ps)

  pub arranged_trees : Trees → Trees
  arranged_trees end = end
  arranged_trees (item t ts) = item (arranged t) (arranged_trees ts)

  pub arranged_pairs : Pairs → Pairs
  arranged_pairs done = done
  arranged_pairs (entry k v ps) = enter (arranged k) (arranged v) (arranged_pairs ps)

abbrev pub Before : Tree → Tree → Type 0
Before t u = tree_cmp (arranged t) (arranged u) ≡ Less
