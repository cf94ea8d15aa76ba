-- A document's nodes in writing order.
use Rattle.std.specs.Prelude.{Bool, not, cond, ◌&&◌, ◌++◌, List, [], ◌∷◌}
use Rattle.std.specs.List.{list_any}
use Rattle.yaml_definitions.specs.model.Tree.{Tree, Trees, Pairs, scalar, sequence, mapping, end, item, done, entry}
use Rattle.yaml_definitions.specs.model.Same.{same}

-- a node of the walk: written out, or a repetition of one that was
pub data Place : Type 0 where
  first : Tree → Place
  again : Tree → Place

abbrev pub firsts : List Place → List Tree
firsts [] = []
firsts (first t ∷ w) = t ∷ firsts w
firsts (again t ∷ w) = firsts w

abbrev pub agains : List Place → List Tree
agains [] = []
agains (first t ∷ w) = agains w
agains (again t ∷ w) = t ∷ agains w

module _ (short : Tree → Bool) where
  -- the node is the same as one of those written out before, and not short
  abbrev pub is_again : Tree → List Tree → Bool
  is_again t before = not (short t) && list_any (same t) before

  -- the walk of a tree whose pairs stand in order, with the nodes written out before it
  unfoldable mutual
    pub walk : Tree → List Tree → List Place
    walk (scalar a x) before = cond (is_again (scalar a x) before) (again (scalar a x) ∷ []) (first (scalar a x) ∷ [])
    walk (sequence a ts) before =
        cond (is_again (sequence a ts) before) (again (sequence a ts) ∷ []) (first (sequence a ts) ∷ walk_trees ts (before ++ (sequence a ts ∷ [])))
    walk (mapping a ps) before =
        cond (is_again (mapping a ps) before) (again (mapping a ps) ∷ []) (first (mapping a ps) ∷ walk_pairs ps (before ++ (mapping a ps ∷ [])))

    pub walk_trees : Trees → List Tree → List Place
    walk_trees end before = []
    walk_trees (item t ts) before = walk t before ++ walk_trees ts (before ++ firsts (walk t before))

    pub walk_pairs : Pairs → List Tree → List Place
    walk_pairs done before = []
    walk_pairs (entry k v ps) before =
        let after_key = before ++ firsts (walk k before) in
        walk k before ++ (walk v after_key ++ walk_pairs ps (after_key ++ firsts (walk v after_key)))
