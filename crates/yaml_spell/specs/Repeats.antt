-- The walk of an arranged tree, from the nodes before it that are written out and not short.
use Rattle.std.specs.Prelude.{Bool, not, cond, ◌&&◌, ◌++◌, List, [], ◌∷◌}
use Rattle.yaml_definitions.specs.model.Tree.{Tree, Trees, Pairs, scalar, sequence, mapping, end, item, done, entry}
use Rattle.yaml_definitions.specs.canonical.Spell.{short}
use Rattle.yaml_spell.specs.Anchored.{has}

-- the node repeats one of those
abbrev pub repeats_one : Tree → List Tree → Bool
repeats_one t seen = not (short t) && has seen t

-- they and this node, unless it is short
abbrev pub noticed : Tree → List Tree → List Tree
noticed t seen = cond (short t) seen (seen ++ (t ∷ []))

unfoldable mutual
  pub kept : Tree → List Tree → List Tree
  kept (scalar a x) seen = cond (repeats_one (scalar a x) seen) seen (noticed (scalar a x) seen)
  kept (sequence a ts) seen = cond (repeats_one (sequence a ts) seen) seen (kept_all ts (noticed (sequence a ts) seen))
  kept (mapping a ps) seen = cond (repeats_one (mapping a ps) seen) seen (kept_pairs ps (noticed (mapping a ps) seen))

  pub kept_all : Trees → List Tree → List Tree
  kept_all end seen = seen
  kept_all (item t ts) seen = kept_all ts (kept t seen)

  pub kept_pairs : Pairs → List Tree → List Tree
  kept_pairs done seen = seen
  kept_pairs (entry k v ps) seen = kept_pairs ps (kept v (kept k seen))

-- the nodes that repeat
unfoldable mutual
  pub repeats : Tree → List Tree → List Tree
  repeats (scalar a x) seen = cond (repeats_one (scalar a x) seen) (scalar a x ∷ []) []
  repeats (sequence a ts) seen = cond (repeats_one (sequence a ts) seen) (sequence a ts ∷ []) (repeats_all ts (noticed (sequence a ts) seen))
  repeats (mapping a ps) seen = cond (repeats_one (mapping a ps) seen) (mapping a ps ∷ []) (repeats_pairs ps (noticed (mapping a ps) seen))

  pub repeats_all : Trees → List Tree → List Tree
  repeats_all end seen = []
  repeats_all (item t ts) seen = repeats t seen ++ repeats_all ts (kept t seen)

  pub repeats_pairs : Pairs → List Tree → List Tree
  repeats_pairs done seen = []
  repeats_pairs (entry k v ps) seen = repeats k seen ++ (repeats v (kept k seen) ++ repeats_pairs ps (kept v (kept k seen)))
