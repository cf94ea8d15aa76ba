-- Nodes: their shapes, and their values.
use Rattle.std.proofs.Common.{◌≡◌, ℕ, ◌<◌, Bool, true, false, ◌&&◌, List, refl, sym, ◌∙◌, ap, arith}
use Rattle.std.specs.Prelude.{Option, Some, None, bytes_eq}
use Rattle.std.specs.List.{slice_get}
use Rattle.yaml_definitions.specs.model.Tree.{Tree}
use Rattle.yaml_tree.specs.View.{Inside, content, items, entries, inside_tree}
use Rattle.yaml_tree.specs.Insides.{Held}
use Rattle.yaml_tree.specs.declared.node.NodeId.{NodeId}
use Rattle.yaml_store_rank.specs.Forests.{Forests, count, tree, entries_at, IsRanked}
use Rattle.yaml_store_rank.proofs.ForestTrees.{tree-held}
use Rattle.yaml_diff.specs.Found.{IsValueOf}
use Rattle.yaml_diff.proofs.Shapes.{entry-below}
use Rattle.yaml_conflicts.specs.Merge.{one_shape}
use Rattle.yaml_conflicts.specs.Found.{IsBelow, is_mapping}

-- ---- shapes

none-left : (a : Bool) → false ≡ (a && false)
none-left true = refl
none-left false = refl

all-left : (a : Bool) → a ≡ (a && true)
all-left true = refl
all-left false = refl

abbrev both-mappings : Inside → Inside → Bool
both-mappings x y = is_mapping x && is_mapping y

inside-shape : (t : ℕ → Tree) (a b : List ℕ) (x y : Inside) → one_shape (Some (inside_tree t a x)) (Some (inside_tree t b y)) ≡ (bytes_eq a b && both-mappings x y)
inside-shape t a b (entries es) (entries fs) = all-left (bytes_eq a b)
inside-shape t a b (entries es) (content y) = none-left (bytes_eq a b)
inside-shape t a b (entries es) (items js) = none-left (bytes_eq a b)
inside-shape t a b (content x) y = none-left (bytes_eq a b)
inside-shape t a b (items is) y = none-left (bytes_eq a b)

-- nothing is of no shape
pub shape_none : (t : Option Tree) → false ≡ one_shape t None
shape_none None = refl
shape_none (Some (Rattle.yaml_definitions.specs.model.Tree.scalar a x)) = refl
shape_none (Some (Rattle.yaml_definitions.specs.model.Tree.sequence a ts)) = refl
shape_none (Some (Rattle.yaml_definitions.specs.model.Tree.mapping a ps)) = refl

module _ (g : Forests) (are : IsRanked g) where
  pub node-shape : (i j : ℕ) (n m : Held) (b : Bool) → slice_get g.nodes i ≡ Some n → slice_get g.nodes j ≡ Some m → bytes_eq n.0 m.0 ≡ b → (b && both-mappings n.1 m.1) ≡ one_shape (Some (tree g i)) (Some (tree g j))
  node-shape i j n m b e f h = sym ((λ z. one_shape (Some (tree-held g are i n e z)) (Some (tree-held g are j m f z))) ∙ inside-shape (tree g) n.0 m.0 n.1 m.1 ∙ ap (λ z. z && both-mappings n.1 m.1) h)

  -- a value stands before its mapping
  pub value-below : (i : NodeId) → i.0 < count g → (r : ℕ) (result : Option NodeId) → IsValueOf g (entries_at g i.0) r result → IsBelow result (Some i)
  value-below i l r None w = tt
  value-below i l r (Some v) w = let b = entry-below g are i.0 l w.0 w.1 w.2 in omega (arith, b.1, w.4)
