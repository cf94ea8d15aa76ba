-- What stands once every event is taken.
use Rattle.std.proofs.Common.{◌≡◌, ◌<◌, ◌≤◌, ℕ, zero, suc, min, List, [], ◌∷◌, map, get_or, refl, sym, ◌∙◌, ap, subst, arith}
use Rattle.std.specs.Prelude.{Some}
use Rattle.std.specs.List.{All, slice_get}
use Rattle.yaml_definitions.specs.model.Limits.{height_limit}
use Rattle.yaml_definitions.specs.model.Tree.{Tree, height}
use Rattle.yaml_tree.specs.ComposerSteps.{State}
use Rattle.yaml_tree.specs.TreeLists.{AreLow, cut, IsFirstTooHigh}
use Rattle.yaml_graph.specs.GraphModel.{trees_in}
use Rattle.yaml_graph.specs.ComposerModel.{AllStand, Holds, IsBelow, AllBelow, IsFirstAbove}
use Rattle.yaml_graph.specs.declared.composer.Composer.{Composer}
use Rattle.yaml_tree.specs.declared.node.NodeId.{NodeId}
use Rattle.yaml_tree.proofs.LowLaws.{Low, uncut, all-low, heights-low, low-each}

cut-of : (ts : List Tree) (i : ℕ) (t : Tree) → slice_get ts i ≡ Some t → get_or (map cut ts) i 0 ≡ cut t
cut-of [] i t e = absurd (cc)
cut-of (u ∷ ts) zero t e = let q : u ≡ t = cc in ap cut q
cut-of (u ∷ ts) (suc i) t e = cut-of ts i t e

-- the root at this place, and its tree
record Root (ts : List Tree) (roots : List NodeId) (vs : List Tree) (k : ℕ) : Type 0 where
  root : NodeId
  tree : Tree
  is : slice_get roots k ≡ Some root
  there : slice_get vs k ≡ Some tree
  stands : slice_get ts root.0 ≡ Some tree

root-of : (ts : List Tree) (roots : List NodeId) (vs : List Tree) (k : ℕ) (i : NodeId) → AllStand ts roots vs → slice_get roots k ≡ Some i → Root ts roots vs k
root-of ts (j ∷ roots) (v ∷ vs) zero i h e = record { root = j; tree = v; is = refl; there = refl; stands = h.0 }
root-of ts (j ∷ roots) (v ∷ vs) (suc k) i h e = let r = root-of ts roots vs k i h.1 e in record { root = r.root; tree = r.tree; is = r.is; there = r.there; stands = r.stands }
root-of ts [] vs k i h e = absurd (cc)
root-of ts (j ∷ roots) [] k i h e = absurd h

root-at : (ts : List Tree) (roots : List NodeId) (vs : List Tree) (k : ℕ) (t : Tree) → AllStand ts roots vs → slice_get vs k ≡ Some t → Root ts roots vs k
root-at ts (j ∷ roots) (v ∷ vs) zero t h e = record { root = j; tree = v; is = refl; there = refl; stands = h.0 }
root-at ts (j ∷ roots) (v ∷ vs) (suc k) t h e = let r = root-at ts roots vs k t h.1 e in record { root = r.root; tree = r.tree; is = r.is; there = r.there; stands = r.stands }
root-at ts [] [] k t h e = absurd (cc)
root-at ts [] (v ∷ vs) k t h e = absurd h
root-at ts (j ∷ roots) [] k t h e = absurd h

module _ (ts : List Tree) (hs : List ℕ) (m : hs ≡ map cut ts) where
  cut-here : (i : NodeId) (t : Tree) → slice_get ts i.0 ≡ Some t → get_or hs i.0 0 ≡ cut t
  cut-here i t e = ap (λ z. get_or z i.0 0) m ∙ cut-of ts i.0 t e

  low-here : (i : NodeId) (t : Tree) → slice_get ts i.0 ≡ Some t → IsBelow hs i → height t ≤ height_limit
  low-here i t e b = let q : get_or hs i.0 0 ≡ min (height t) (suc height_limit) = cut-here i t e in omega arith

  high-here : (i : NodeId) (t : Tree) → slice_get ts i.0 ≡ Some t → height_limit < get_or hs i.0 0 → height_limit < height t
  high-here i t e b = let q : get_or hs i.0 0 ≡ min (height t) (suc height_limit) = cut-here i t e in omega arith

  low-roots : (roots : List NodeId) (vs : List Tree) → AllStand ts roots vs → AllBelow hs roots → Low height_limit vs
  low-roots [] [] h b = tt
  low-roots (i ∷ roots) (v ∷ vs) h b = (low-here i v h.0 (b 0 i refl), low-roots roots vs h.1 (λ k j e. b (suc k) j e))
  low-roots [] (v ∷ vs) h b = absurd h
  low-roots (i ∷ roots) [] h b = absurd h

  pub roots-low : (roots : List NodeId) (vs : List Tree) → AllStand ts roots vs → AllBelow hs roots → AreLow vs
  roots-low roots vs h b = all-low height_limit vs (low-roots roots vs h b)

  pub first-high : (roots : List NodeId) (vs : List Tree) → AllStand ts roots vs → (k : ℕ) → IsFirstAbove hs roots k → IsFirstTooHigh vs k
  first-high roots vs h k f =
      let r : Root ts roots vs k = root-of ts roots vs k f.root h f.is in
      let same : r.root ≡ f.root = let q : Some r.root ≡ Some f.root = sym r.is ∙ f.is in cc in
      record {
        tree = r.tree;
        is = r.there;
        high = high-here r.root r.tree r.stands (subst (λ i. height_limit < get_or hs i.0 0) (sym same) f.above);
        before = λ j t l e. let w : Root ts roots vs j = root-at ts roots vs j t h e in
            let q : Some w.tree ≡ Some t = sym w.there ∙ e in
            let x : w.tree ≡ t = cc in
            subst (λ z. height z ≤ height_limit) x (low-here w.root w.tree w.stands (f.before j w.root l w.is));
      }

-- no node is too high where none of the composed is
module _ (c : Composer) (s : State) (h : Holds c s) (low : AreLow s.done) where
  nodes-low : Low height_limit (trees_in c.nodes.items)
  nodes-low = subst (Low height_limit) (sym h.done) (low-each height_limit s.done low)

  pub heights-are : c.heights.items ≡ map height (trees_in c.nodes.items)
  heights-are = h.measured ∙ uncut (trees_in c.nodes.items) nodes-low

  pub heights-fit : All (λ n. n ≤ height_limit) c.heights.items
  heights-fit = subst (All (λ n. n ≤ height_limit)) (sym heights-are) (heights-low height_limit (trees_in c.nodes.items) nodes-low)
