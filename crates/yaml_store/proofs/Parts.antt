-- Keys and values in turn, as pairs, and the heights of collections.
use Rattle.std.proofs.Common.{◌≡◌, ℕ, zero, suc, ◌+◌, ◌*◌, ◌/◌, ◌%◌, ◌<◌, ◌≤◌, min, max, List, [], ◌∷◌, ◌++◌, length, map, take, drop, get_or, refl, sym, ◌∙◌, ap, subst, arith, Some}
use Rattle.std.specs.List.{slice_get, All}
use Rattle.std.proofs.lemmas.List.{at_drop_more, at_drop_all}
use Rattle.yaml_definitions.specs.model.Limits.{height_limit}
use Rattle.yaml_definitions.specs.model.Tree.{Tree, height, heights, heights_of_pairs}
use Rattle.yaml_tree.specs.TreeLists.{tree_at, trees, pairs}
use Rattle.yaml_tree.specs.ComposerSteps.{paired}
use Rattle.yaml_store.specs.declared.nodes.Node.{Node}
use Rattle.yaml_store.specs.StoreModel.{parts_at, AllMeasured}

-- ---- pairs

pub paired-map : {X Y : Type 0} (f : X → Y) (xs : List X) → map {B = Y × Y} (λ p. (f p.0, f p.1)) (paired xs) ≡ paired (map f xs)
paired-map f [] = refl
paired-map f (k ∷ []) = refl
paired-map f (k ∷ (v ∷ xs)) = ap (λ ps. (f k, f v) ∷ ps) (paired-map f xs)

pub paired-below : (n : ℕ) (parts : List ℕ) → All (λ i. i < n) parts → All (λ (p : ℕ × ℕ). (p.0 < n) × (p.1 < n)) (paired parts)
paired-below n [] a k d l = absurd (omega arith)
paired-below n (i ∷ []) a k d l = absurd (omega arith)
paired-below n (i ∷ (j ∷ parts)) a zero d l = (a 0 i (omega arith), a 1 i (omega arith))
paired-below n (i ∷ (j ∷ parts)) a (suc k) d l = paired-below n parts (λ m e o. a (suc (suc m)) e (omega arith)) k d (omega arith)

-- so many pairs, and one more
pub paired-more : (parts : List ℕ) (k d : ℕ) → 2 * k + 1 < length parts → paired (take (2 * (k + 1)) parts) ≡ paired (take (2 * k) parts) ++ ((get_or parts (2 * k) d, get_or parts (2 * k + 1) d) ∷ [])
paired-more [] k d l = absurd (omega arith)
paired-more (i ∷ []) k d l = absurd (omega arith)
paired-more (i ∷ (j ∷ parts)) zero d l = refl
paired-more (i ∷ (j ∷ parts)) (suc k) d l =
    let r = paired-more parts k d (omega arith) in
    let a : 2 * (suc k + 1) ≡ suc (suc (2 * (k + 1))) = omega arith in
    let b : 2 * suc k ≡ suc (suc (2 * k)) = omega arith in
    let e : 2 * suc k + 1 ≡ suc (suc (2 * k + 1)) = omega arith in
    ap (λ n. paired (take n (i ∷ (j ∷ parts)))) a
    ∙ (ap (λ ps. (i, j) ∷ ps) r
    ∙ (λ z. paired (take (sym b z) (i ∷ (j ∷ parts))) ++ ((get_or (i ∷ (j ∷ parts)) (sym b z) d, get_or (i ∷ (j ∷ parts)) (sym e z) d) ∷ [])))

pub paired-all : (parts : List ℕ) (k : ℕ) → length parts ≤ 2 * k + 1 → paired (take (2 * k) parts) ≡ paired parts
paired-all [] zero l = refl
paired-all [] (suc k) l = let b : 2 * suc k ≡ suc (suc (2 * k)) = omega arith in let none : List ℕ = [] in ap (λ n. paired (take n none)) b
paired-all (i ∷ []) zero l = refl
paired-all (i ∷ []) (suc k) l = let b : 2 * suc k ≡ suc (suc (2 * k)) = omega arith in ap (λ n. paired (take n (i ∷ []))) b
paired-all (i ∷ (j ∷ parts)) zero l = absurd (omega arith)
paired-all (i ∷ (j ∷ parts)) (suc k) l =
    let b : 2 * suc k ≡ suc (suc (2 * k)) = omega arith in
    ap (λ n. paired (take n (i ∷ (j ∷ parts)))) b ∙ ap (λ ps. (i, j) ∷ ps) (paired-all parts k (omega arith))

-- pairs that agree with keys and values in turn
pub paired-same : (es : List (ℕ × ℕ)) (parts : List ℕ) → length es ≡ length parts / 2 → ((k : ℕ) → k < length es → (c : ℕ × ℕ) (d : ℕ) → ((get_or es k c).0 ≡ get_or parts (2 * k) d) × ((get_or es k c).1 ≡ get_or parts (2 * k + 1) d)) → es ≡ paired parts
paired-same [] [] n same = refl
paired-same [] (i ∷ []) n same = refl
paired-same [] (i ∷ (j ∷ parts)) n same = absurd (omega arith)
paired-same (e ∷ es) [] n same = absurd (omega arith)
paired-same (e ∷ es) (i ∷ []) n same = absurd (omega arith)
paired-same (e ∷ es) (i ∷ (j ∷ parts)) n same =
    let h = same 0 (omega arith) e i in
    let r = paired-same es parts (omega arith) (λ k l c d.
    let b : 2 * suc k ≡ suc (suc (2 * k)) = omega arith in
    let f : 2 * suc k + 1 ≡ suc (suc (2 * k + 1)) = omega arith in
    let s = same (suc k) (omega arith) c d in
    (subst (λ z. (get_or es k c).0 ≡ get_or (i ∷ (j ∷ parts)) z d) b s.0, subst (λ z. (get_or es k c).1 ≡ get_or (i ∷ (j ∷ parts)) z d) f s.1)) in
    λ z. (h.0 z, h.1 z) ∷ r z

-- ---- heights

pub even-pairs : (us : List Tree) → length us % 2 ≡ 0 → heights_of_pairs (pairs (paired us)) ≡ heights (trees us)
even-pairs [] h = refl
even-pairs (k ∷ []) h = absurd (omega arith)
even-pairs (k ∷ (v ∷ us)) h = omega (arith, even-pairs us (omega arith))

-- the loop over the parts: what stands so far, and what is left
pub over-step : (nodes : List Node) (ts : List Tree) (parts : List ℕ) (i d : ℕ) (n : Node) (h new all : ℕ) → AllMeasured nodes ts → slice_get nodes (get_or parts i d) ≡ Some n → i < length parts
    → min (max h (heights (trees (parts_at ts (drop i parts))))) (suc height_limit) ≡ all → new ≡ max h (n.height + 1) → min (max new (heights (trees (parts_at ts (drop (i + 1) parts))))) (suc height_limit) ≡ all
over-step nodes ts parts i d n h new all e there l q w =
    let f = at_drop_more (λ ps. heights (trees (parts_at ts ps))) parts i d l in
    let t : n.height ≡ min (height (tree_at ts (get_or parts i d))) (suc height_limit) = e (get_or parts i d) n there in
    omega arith

pub over-all : (ts : List Tree) (parts : List ℕ) (i h all : ℕ) → length parts ≤ i → min (max h (heights (trees (parts_at ts (drop i parts))))) (suc height_limit) ≡ all → min h (suc height_limit) ≡ all
over-all ts parts i h all l q = let f = at_drop_all (λ ps. heights (trees (parts_at ts ps))) parts i l in omega arith
