-- The text of a step to the value of a key.
use Rattle.std.proofs.Common.{◌≡◌, ◌&&◌, ◌≤◌, ℕ, true, false, cond, List, [], Bor, ◌++◌, refl, sym, ◌∙◌, ap, subst}
use Rattle.std.specs.Prelude.{Some, bytes_eq, codes}
use Rattle.std.specs.List.{slice_get}
use Rattle.yaml_definitions.specs.model.Tree.{Tree, Trees, Pairs, scalar, sequence, mapping}
use Rattle.yaml_definitions.specs.model.Tag.{str_tag, core_tag}
use Rattle.yaml_tree.specs.declared.node.NodeId.{NodeId}
use Rattle.yaml_tree.specs.declared.shown.Shown.{Shown}
use Rattle.yaml_tree.specs.declared.shown.Inside.{Inside}
use Rattle.yaml_tree.specs.declared.shown.Inside.TheVariants as shown
use Rattle.yaml_store_rank.specs.Forests.{Forests, count, tree, held_shown, IsRanked}
use Rattle.yaml_store_rank.proofs.ForestTrees.{tree-shown}
use Rattle.review_text.specs.Shown as cut
use Rattle.review_text.specs.NodeText.{text_of}
use Rattle.review_text.specs.PathText.{is_name, key_text, bracketed, whole_limit}
use Rattle.std.proofs.lemmas.List.{append-nil}
use Rattle.review_text.proofs.ForestShapes.{none-there}

abbrev pub in_brackets : Tree → List ℕ
in_brackets t = bracketed (cut.shown whole_limit (text_of t))

named : (g x : List ℕ) → (bytes_eq g str_tag && is_name x) ≡ true → key_text (scalar g x) ≡ codes "." ++ x
unfolding key_text
named g x h = ap (λ b. cond b (codes "." ++ x) (in_brackets (scalar g x))) h

pub unnamed : (g x : List ℕ) → (bytes_eq g str_tag && is_name x) ≡ false → key_text (scalar g x) ≡ in_brackets (scalar g x)
unfolding key_text
unnamed g x h = ap (λ b. cond b (codes "." ++ x) (in_brackets (scalar g x))) h

pub named_put : (g x : List ℕ) → (bytes_eq g str_tag && is_name x) ≡ true → codes "." ++ (x ++ []) ≡ key_text (scalar g x)
named_put g x h = ap (λ z. codes "." ++ z) (append-nil x) ∙ sym (named g x h)

empty_unnamed : (bytes_eq [] str_tag && is_name []) ≡ false
unfolding core_tag
empty_unnamed = refl

module _ (f : Forests) (i : ℕ) where
  -- a number that no node has
  pub none_bracketed : count f ≤ i → key_text (tree f i) ≡ in_brackets (tree f i)
  none_bracketed l = subst (λ t. key_text t ≡ in_brackets t) (sym (none-there f i l)) (unnamed [] [] empty_unnamed)

  module _ (are : IsRanked f) (s : Shown NodeId) (there : slice_get f.nodes i ≡ Some (held_shown s)) where
    pub scalar_named : (x : Bor (List ℕ)) → s.inside ≡ shown.Scalar x → (bytes_eq s.tag.now str_tag && is_name x.now) ≡ true → key_text (tree f i) ≡ codes "." ++ x.now
    scalar_named x e h = ap key_text (tree-shown f are i s there (shown.Scalar x) e) ∙ named s.tag.now x.now h

    pub scalar_bracketed : (x : Bor (List ℕ)) → s.inside ≡ shown.Scalar x → (bytes_eq s.tag.now str_tag && is_name x.now) ≡ false → key_text (tree f i) ≡ in_brackets (tree f i)
    scalar_bracketed x e h = subst (λ t. key_text t ≡ in_brackets t) (sym (tree-shown f are i s there (shown.Scalar x) e)) (unnamed s.tag.now x.now h)

    pub other_bracketed : ((x : Bor (List ℕ)) → s.inside ≡ shown.Scalar x → ⊥) → key_text (tree f i) ≡ in_brackets (tree f i)
    unfolding key_text
    other_bracketed other = by s.inside refl
      where
        sequence-bracketed : (g : List ℕ) (ts : Trees) → key_text (sequence g ts) ≡ in_brackets (sequence g ts)
        sequence-bracketed g ts = refl

        mapping-bracketed : (g : List ℕ) (ps : Pairs) → key_text (mapping g ps) ≡ in_brackets (mapping g ps)
        mapping-bracketed g ps = refl

        by : (x : Inside NodeId) → s.inside ≡ x → key_text (tree f i) ≡ in_brackets (tree f i)
        by (shown.Scalar x) e = absurd (other x e)
        by (shown.Sequence xs) e = subst (λ t. key_text t ≡ in_brackets t) (sym (tree-shown f are i s there (shown.Sequence xs) e)) (sequence-bracketed s.tag.now _)
        by (shown.Mapping xs) e = subst (λ t. key_text t ≡ in_brackets t) (sym (tree-shown f are i s there (shown.Mapping xs) e)) (mapping-bracketed s.tag.now _)
