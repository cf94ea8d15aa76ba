-- A node's tree, of the trees of all nodes.
use Rattle.std.proofs.Common.{◌≡◌, ℕ, zero, suc, ◌+◌, ◌<◌, List, [], ◌∷◌, ◌++◌, length, map, take, refl, sym, ◌∙◌, ap, subst, arith, append_assoc, append-nil, length-append, get_or-take}
use Rattle.std.specs.Prelude.{Some}
use Rattle.std.specs.List.{slice_get, All}
use Rattle.std.proofs.lemmas.Option.{get_or_from_slice_get}
use Rattle.yaml_definitions.specs.model.Tree.{Tree, scalar, sequence, mapping}
use Rattle.yaml_tree.specs.TreeLists.{trees, pairs, tree_at}
use Rattle.yaml_tree.proofs.Lists.{get-more, get-end}
use Rattle.yaml_tree.specs.View.{Inside, content, items, entries, InsideBelow, inside_tree}
use Rattle.yaml_tree.specs.Insides.{Held, held_tree, more_held, trees_held, HeldBelow}

more-length : (ts : List Tree) (ns : List Held) → length (more_held ts ns) ≡ length ts + length ns
more-length ts [] = omega arith
more-length ts (n ∷ ns) = omega (arith, more-length (ts ++ (held_tree ts n ∷ [])) ns, length-append ts (held_tree ts n ∷ []))

pub held-length : (ns : List Held) → length (trees_held ns) ≡ length ns
held-length ns = omega (arith, more-length [] ns)

-- the list goes on from the trees that it begins with
more-front : (ts : List Tree) (ns : List Held) → (us : List Tree) × (more_held ts ns ≡ ts ++ us)
more-front ts [] = ([], sym (append-nil ts))
more-front ts (n ∷ ns) = let h = more-front (ts ++ (held_tree ts n ∷ [])) ns in (held_tree ts n ∷ h.0, h.1 ∙ append_assoc ts (held_tree ts n ∷ []) h.0)

take-front : (ts us : List Tree) → take (length ts) (ts ++ us) ≡ ts
take-front [] us = refl
take-front (t ∷ ts) us = ap (λ vs. t ∷ vs) (take-front ts us)

-- a node's tree, of the trees before it
tree-there : (ts : List Tree) (ns : List Held) (k m : ℕ) (n : Held) → slice_get ns k ≡ Some n → length ts + k ≡ m → slice_get (more_held ts ns) m ≡ Some (held_tree (take m (more_held ts ns)) n)
tree-there ts [] k m n h e = absurd (cc)
tree-there ts (x ∷ ns) zero m n h e =
    let f = more-front (ts ++ (held_tree ts x ∷ [])) ns in
    let q : more_held (ts ++ (held_tree ts x ∷ [])) ns ≡ ts ++ (held_tree ts x ∷ f.0) = f.1 ∙ append_assoc ts (held_tree ts x ∷ []) f.0 in
    let l : length ts ≡ m = omega arith in
    let g : slice_get (ts ++ (held_tree ts x ∷ f.0)) (length ts) ≡ Some (held_tree ts x) = subst (λ z. slice_get z (length ts) ≡ Some (held_tree ts x)) (append_assoc ts (held_tree ts x ∷ []) f.0) (get-more (ts ++ (held_tree ts x ∷ [])) f.0 (length ts) (held_tree ts x) (get-end ts (held_tree ts x))) in
    let w : x ≡ n = cc in
    let t : held_tree ts x ≡ held_tree (take (length ts) (ts ++ (held_tree ts x ∷ f.0))) n = ap (λ z. held_tree z x) (sym (take-front ts (held_tree ts x ∷ f.0))) ∙ ap (held_tree (take (length ts) (ts ++ (held_tree ts x ∷ f.0)))) w in
    subst (λ z. slice_get z m ≡ Some (held_tree (take m z) n)) (sym q) (subst (λ z. slice_get (ts ++ (held_tree ts x ∷ f.0)) z ≡ Some (held_tree (take z (ts ++ (held_tree ts x ∷ f.0))) n)) l (g ∙ ap Some t))
tree-there ts (x ∷ ns) (suc k) m n h e = tree-there (ts ++ (held_tree ts x ∷ [])) ns k m n h (omega (arith, length-append ts (held_tree ts x ∷ [])))

at-front : (ts : List Tree) (m i : ℕ) → i < m → tree_at (take m ts) i ≡ tree_at ts i
at-front ts m i h = rw get_or-take refl

-- ---- trees that agree on the parts make one tree

items-same : (f h : ℕ → Tree) (m : ℕ) (is : List ℕ) → ((i : ℕ) → i < m → f i ≡ h i) → All (λ i. i < m) is → map f is ≡ map h is
items-same f h m [] e a = refl
items-same f h m (i ∷ is) e a = λ z. e i (a 0 i (omega arith)) z ∷ items-same f h m is e (λ k d l. a (suc k) d (omega arith)) z

entries-same : (f h : ℕ → Tree) (m : ℕ) (es : List (ℕ × ℕ)) → ((i : ℕ) → i < m → f i ≡ h i) → All (λ p. (p.0 < m) × (p.1 < m)) es → map {B = Tree × Tree} (λ p. (f p.0, f p.1)) es ≡ map (λ p. (h p.0, h p.1)) es
entries-same f h m [] e a = refl
entries-same f h m (p ∷ es) e a = let b = a 0 p (omega arith) in λ z. (e p.0 b.0 z, e p.1 b.1 z) ∷ entries-same f h m es e (λ k d l. a (suc k) d (omega arith)) z

pub inside-same : (f h : ℕ → Tree) (m : ℕ) (g : List ℕ) (inside : Inside) → ((i : ℕ) → i < m → f i ≡ h i) → InsideBelow m inside → inside_tree f g inside ≡ inside_tree h g inside
inside-same f h m g (content x) e b = refl
inside-same f h m g (items is) e b = ap (λ us. sequence g (trees us)) (items-same f h m is e b.0)
inside-same f h m g (entries es) e b = ap (λ ps. mapping g (pairs ps)) (entries-same f h m es e b.1)

-- a node's tree, of all the trees
pub held-tree : (ns : List Held) (k : ℕ) (n : Held) → HeldBelow ns → slice_get ns k ≡ Some n → tree_at (trees_held ns) k ≡ held_tree (trees_held ns) n
held-tree ns k n g h =
    let ts = trees_held ns in
    get_or_from_slice_get ts k (held_tree (take k ts) n) (scalar [] []) (tree-there [] ns k k n h (omega arith)) ∙ inside-same (λ i. tree_at (take k ts) i) (λ i. tree_at ts i) k n.0 n.1 (at-front ts k) (g k n h)
