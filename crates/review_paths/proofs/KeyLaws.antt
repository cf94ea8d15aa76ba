-- The content of a key that is a string.
use Rattle.std.proofs.Common.{◌≡◌, ◌≤◌, ℕ, false, cond, List, [], Bor, refl, sym, ◌∙◌, ap}
use Rattle.std.specs.Prelude.{Some, None, bytes_eq}
use Rattle.std.specs.List.{slice_get}
use Rattle.yaml_definitions.specs.model.Tag.{str_tag, core_tag}
use Rattle.yaml_tree.specs.declared.node.NodeId.{NodeId}
use Rattle.yaml_tree.specs.declared.shown.Shown.{Shown}
use Rattle.yaml_tree.specs.declared.shown.Inside.{Inside}
use Rattle.yaml_tree.specs.declared.shown.Inside.TheVariants as shown
use Rattle.yaml_store_rank.specs.Forests.{Forests, count, tree, held_shown, IsRanked}
use Rattle.yaml_store_rank.proofs.ForestTrees.{tree-shown, scalar-shown}
use Rattle.review_text.proofs.ForestShapes.{none-there}
use Rattle.review_paths.specs.Pasted.{str_content}

empty_tag : bytes_eq [] str_tag ≡ false
unfolding core_tag
empty_tag = refl

module _ (f : Forests) (i : ℕ) where
  -- a number that no node has
  pub none_content : count f ≤ i → None ≡ str_content (tree f i)
  none_content l = ap (λ b. cond b (Some []) None) (sym empty_tag) ∙ ap str_content (sym (none-there f i l))

  module _ (are : IsRanked f) (s : Shown NodeId) (there : slice_get f.nodes i ≡ Some (held_shown s)) where
    pub scalar_content : (x : Bor (List ℕ)) → s.inside ≡ shown.Scalar x → cond (bytes_eq s.tag.now str_tag) (Some x.now) None ≡ str_content (tree f i)
    scalar_content x e = sym (ap str_content (scalar-shown f are i s there x e))

    pub other_content : ((x : Bor (List ℕ)) → s.inside ≡ shown.Scalar x → ⊥) → None ≡ str_content (tree f i)
    other_content other = by s.inside refl
      where
        by : (x : Inside NodeId) → s.inside ≡ x → None ≡ str_content (tree f i)
        by (shown.Scalar x) e = absurd (other x e)
        by (shown.Sequence xs) e = ap str_content (sym (tree-shown f are i s there (shown.Sequence xs) e))
        by (shown.Mapping xs) e = ap str_content (sym (tree-shown f are i s there (shown.Mapping xs) e))
