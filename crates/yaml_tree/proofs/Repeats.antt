-- Equal keys of nodes, by their trees.
use Rattle.std.proofs.Common.{◌≡◌, ◌<◌, ℕ, List, [], ◌∷◌, map, refl, sym, ◌∙◌, ap, subst}
use Rattle.std.specs.Prelude.{Some}
use Rattle.std.specs.List.{slice_get}
use Rattle.yaml_definitions.specs.model.Tree.{Tree}
use Rattle.yaml_definitions.specs.model.Same.{Same}
use Rattle.yaml_tree.specs.TreeLists.{pairs}
use Rattle.yaml_tree.specs.View.{View, Inside, content, items, entries, entries_in, inside_tree, Repeats}
use Rattle.yaml_tree.specs.Keys.{pairs_listed, pairs_of, TreeRepeats}
use Rattle.yaml_tree.proofs.Lists.{get-map, get-unmap}

pub listed-pairs : (ps : List (Tree × Tree)) → pairs_listed (pairs ps) ≡ ps
listed-pairs [] = refl
listed-pairs (p ∷ ps) = ap (λ qs. p ∷ qs) (listed-pairs ps)

-- ---- entries that stand for a tree's pairs

-- entries whose keys' trees are equal
pub record Equals {X : Type 0} (f : X → Tree × Tree) (es : List X) (first second : ℕ) : Type 0 where
  pub in_order : first < second
  pub earlier : X
  pub later : X
  pub earlier_is : slice_get es first ≡ Some earlier
  pub later_is : slice_get es second ≡ Some later
  pub equal : Same (f earlier).0 (f later).0

module _ {X : Type 0} (f : X → Tree × Tree) (es : List X) (t : Tree) (are : pairs_of t ≡ map f es) where
  pub to-tree : (first second : ℕ) → Equals f es first second → TreeRepeats t first second
  to-tree first second e = record {
    in_order = e.in_order;
    earlier = f e.earlier;
    later = f e.later;
    earlier_is = ap (λ ps. slice_get ps first) are ∙ get-map f es first e.earlier e.earlier_is;
    later_is = ap (λ ps. slice_get ps second) are ∙ get-map f es second e.later e.later_is;
    equal = e.equal;
  }

  pub from-tree : (first second : ℕ) → TreeRepeats t first second → Equals f es first second
  from-tree first second r =
      let x = get-unmap f es first r.earlier (ap (λ ps. slice_get ps first) (sym are) ∙ r.earlier_is) in
      let y = get-unmap f es second r.later (ap (λ ps. slice_get ps second) (sym are) ∙ r.later_is) in
      record { in_order = r.in_order; earlier = x.0; later = y.0; earlier_is = x.1; later_is = y.1; equal = subst (λ p. Same p.0 (f y.0).0) (sym x.2) (subst (λ p. Same r.earlier.0 p.0) (sym y.2) r.equal) }

-- ---- nodes of a view

abbrev entry_trees : (ℕ → Tree) → ℕ × ℕ → Tree × Tree
entry_trees t p = (t p.0, t p.1)

inside-pairs : (t : ℕ → Tree) (g : List ℕ) (inside : Inside) → pairs_of (inside_tree t g inside) ≡ map (entry_trees t) (entries_in inside)
inside-pairs t g (content x) = refl
inside-pairs t g (items is) = refl
inside-pairs t g (entries es) = listed-pairs (map (entry_trees t) es)

module _ (v : View) (n : ℕ) (within : n < v.count) where
  view-pairs : pairs_of (v.tree n) ≡ map (entry_trees v.tree) (entries_in (v.inside n))
  view-pairs = ap pairs_of (v.made n within) ∙ inside-pairs v.tree (v.tag n) (v.inside n)

  pub view-to : (first second : ℕ) → Repeats v n first second → TreeRepeats (v.tree n) first second
  view-to first second r =
      to-tree (entry_trees v.tree) (entries_in (v.inside n)) (v.tree n) view-pairs first second
      (record { in_order = r.in_order; earlier = r.earlier; later = r.later; earlier_is = r.earlier_is; later_is = r.later_is; equal = r.equal })

  pub view-from : (first second : ℕ) → TreeRepeats (v.tree n) first second → Repeats v n first second
  view-from first second r =
      let e = from-tree (entry_trees v.tree) (entries_in (v.inside n)) (v.tree n) view-pairs first second r in
      record { within = within; in_order = e.in_order; earlier = e.earlier; later = e.later; earlier_is = e.earlier_is; later_is = e.later_is; equal = e.equal }
