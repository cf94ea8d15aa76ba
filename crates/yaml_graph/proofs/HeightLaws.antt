-- Heights of trees, part by part, cut just above the limit.
use Rattle.std.proofs.Common.{◌≡◌, ℕ, zero, suc, ◌+◌, ◌<◌, ◌≤◌, min, max, List, [], ◌∷◌, ◌++◌, length, map, take, get_or, refl, sym, ◌∙◌, ap, subst, arith, add-one}
use Rattle.std.proofs.Math.Seq.{take-suc}
use Rattle.std.proofs.lemmas.List.{take_all, map-append, length-map}
use Rattle.yaml_definitions.specs.model.Limits.{height_limit}
use Rattle.yaml_definitions.specs.model.Tree.{Tree, sequence, mapping, height, heights, heights_of_pairs}
use Rattle.yaml_tree.specs.TreeLists.{trees, pairs, tree_at, cut}
use Rattle.yaml_graph.specs.GraphModel.{Entries, trees_at, entries_at}
use Rattle.yaml_tree.specs.declared.node.NodeId.{NodeId}

heights-push : (us : List Tree) (u : Tree) → heights (trees (us ++ (u ∷ []))) ≡ max (heights (trees us)) (suc (height u))
heights-push [] u = omega arith
heights-push (t ∷ us) u = omega (arith, heights-push us u)

heights-entry : (ps : List (Tree × Tree)) (p : Tree × Tree) → heights_of_pairs (pairs (ps ++ (p ∷ []))) ≡ max (max (heights_of_pairs (pairs ps)) (suc (height p.0))) (suc (height p.1))
heights-entry [] p = omega arith
heights-entry (q ∷ ps) p = omega (arith, heights-entry ps p)

-- a collection's height with one more part
abbrev pub IsWith : ℕ → ℕ → ℕ → Type 0
IsWith h part new = new ≡ min (max h (suc part)) (suc height_limit)

cut-with : (a b h k new : ℕ) → a ≡ min h (suc height_limit) → b ≡ min k (suc height_limit) → IsWith a b new → new ≡ min (max h (suc k)) (suc height_limit)
cut-with a b h k new e q w = omega arith

with-item : (g : List ℕ) (us : List Tree) (u : Tree) (h part new : ℕ) → h ≡ cut (sequence g (trees us)) → part ≡ cut u → IsWith h part new → new ≡ cut (sequence g (trees (us ++ (u ∷ []))))
with-item g us u h part new e q w = cut-with h part (heights (trees us)) (height u) new e q w ∙ ap (λ n. min n (suc height_limit)) (sym (heights-push us u))

with-entry : (g : List ℕ) (ps : List (Tree × Tree)) (p : Tree × Tree) (h key value mid new : ℕ) → h ≡ cut (mapping g (pairs ps)) → key ≡ cut p.0 → value ≡ cut p.1 → IsWith h key mid → IsWith mid value new
    → new ≡ cut (mapping g (pairs (ps ++ (p ∷ []))))
with-entry g ps p h key value mid new e q r v w =
    let n = heights_of_pairs (pairs ps) in
    cut-with mid value (max n (suc (height p.0))) (height p.1) new (cut-with h key n (height p.0) mid e q v) r w ∙ ap (λ z. min z (suc height_limit)) (sym (heights-entry ps p))

-- ---- the code's loops

cut-there : (ts : List Tree) (i d : ℕ) → i < length ts → get_or (map cut ts) i d ≡ cut (tree_at ts i)
cut-there [] i d h = absurd (omega arith)
cut-there (t ∷ ts) zero d h = refl
cut-there (t ∷ ts) (suc i) d h = cut-there ts i d (omega arith)

module _ (ts : List Tree) (hs : List ℕ) (e : hs ≡ map cut ts) (g : List ℕ) where
  cut-at : (i d : ℕ) → i < length hs → get_or hs i d ≡ cut (tree_at ts i)
  cut-at i d h =
      let l : i < length ts = subst (λ n. i < n) (ap length e ∙ length-map ts cut) h in
      ap (λ z. get_or z i d) e ∙ cut-there ts i d l

  trees-more : (items : List NodeId) (i : ℕ) (d : NodeId) → i < length items → trees_at ts (take (i + 1) items) ≡ trees_at ts (take i items) ++ (tree_at ts (get_or items i d).0 ∷ [])
  trees-more items i d h = ap (λ n. trees_at ts (take n items)) (add-one i) ∙ (ap (trees_at ts) (take-suc items i d h) ∙ map-append (λ k. tree_at ts k.0) (take i items) (get_or items i d ∷ []))

  entries-more : (entries : Entries) (i : ℕ) (d : NodeId × NodeId) → i < length entries
      → entries_at ts (take (i + 1) entries) ≡ entries_at ts (take i entries) ++ ((tree_at ts (get_or entries i d).0.0, tree_at ts (get_or entries i d).1.0) ∷ [])
  entries-more entries i d h =
      ap (λ n. entries_at ts (take n entries)) (add-one i) ∙ (ap (entries_at ts) (take-suc entries i d h) ∙ map-append (λ p. (tree_at ts p.0.0, tree_at ts p.1.0)) (take i entries) (get_or entries i d ∷ []))

  pub items-step : (items : List NodeId) (i : ℕ) (d : NodeId) (c h new : ℕ) → i < length items → (get_or items i d).0 < length hs → h ≡ cut (sequence g (trees (trees_at ts (take i items)))) → IsWith h (get_or hs (get_or items i d).0 c) new
      → new ≡ cut (sequence g (trees (trees_at ts (take (i + 1) items))))
  items-step items i d c h new l k q w =
      let j = (get_or items i d).0 in
      with-item g (trees_at ts (take i items)) (tree_at ts j) h (get_or hs j c) new q (cut-at j c k) w ∙ ap (λ us. cut (sequence g (trees us))) (sym (trees-more items i d l))

  pub items-all : (items : List NodeId) (i h : ℕ) → length items ≤ i → h ≡ cut (sequence g (trees (trees_at ts (take i items)))) → h ≡ cut (sequence g (trees (trees_at ts items)))
  items-all items i h l q = q ∙ ap (λ z. cut (sequence g (trees (trees_at ts z)))) (take_all i items l)

  pub entries-step : (entries : Entries) (i : ℕ) (d : NodeId × NodeId) (a b h mid new : ℕ) → i < length entries → (get_or entries i d).0.0 < length hs → (get_or entries i d).1.0 < length hs
      → h ≡ cut (mapping g (pairs (entries_at ts (take i entries)))) → IsWith h (get_or hs (get_or entries i d).0.0 a) mid → IsWith mid (get_or hs (get_or entries i d).1.0 b) new
      → new ≡ cut (mapping g (pairs (entries_at ts (take (i + 1) entries))))
  entries-step entries i d a b h mid new l k m q v w =
      let p = get_or entries i d in
      with-entry g (entries_at ts (take i entries)) (tree_at ts p.0.0, tree_at ts p.1.0) h (get_or hs p.0.0 a) (get_or hs p.1.0 b) mid new q (cut-at p.0.0 a k) (cut-at p.1.0 b m) v w
      ∙ ap (λ ps. cut (mapping g (pairs ps))) (sym (entries-more entries i d l))

  pub entries-all : (entries : Entries) (i h : ℕ) → length entries ≤ i → h ≡ cut (mapping g (pairs (entries_at ts (take i entries)))) → h ≡ cut (mapping g (pairs (entries_at ts entries)))
  entries-all entries i h l q = q ∙ ap (λ z. cut (mapping g (pairs (entries_at ts z)))) (take_all i entries l)
