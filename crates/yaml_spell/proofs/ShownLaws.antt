-- What nodes show, and the trees that they stand for.
use Rattle.std.proofs.Common.{◌≡◌, ℕ, zero, suc, ◌<◌, ◌≤◌, true, false, cond, ◌==◌, List, [], ◌∷◌, length, map, get_or, refl, sym, ◌∙◌, ap, subst, arith}
use Rattle.std.specs.Prelude.{nat_le}
use Rattle.std.specs.Borrow.{Bor}
use Rattle.std.specs.List.{All}
use Rattle.std.proofs.lemmas.Bool.Decides.{nat_tests}
use Rattle.std.proofs.lemmas.Bool.{cond_both}
use Rattle.yaml_definitions.specs.model.Tree.{Tree, scalar, sequence, mapping, height, heights, heights_of_pairs}
use Rattle.yaml_definitions.specs.canonical.NodeText.{node_text}
use Rattle.yaml_definitions.specs.canonical.Spell.{short, text_len}
use Rattle.yaml_tree.specs.TreeLists.{trees, pairs}
use Rattle.yaml_tree.specs.View.{InsideBelow, inside_tree, items_in, entries_in}
use Rattle.yaml_tree.specs.declared.shown.Inside.{Inside}
use Rattle.yaml_tree.specs.declared.shown.Inside.TheVariants.{Scalar, Sequence, Mapping}
use Rattle.yaml_tree.specs.Shown.{inside_shown}
use Rattle.yaml_spell.specs.ShortNodes.{short_len, if_short, scalar_len, brackets_len, shown_len}
use Rattle.yaml_spell.proofs.WalkLaws.{brackets, two_square, two_curly}

pub map-twice : {X Y Z : Type 0} (f : X → Y) (h : Y → Z) (xs : List X) → map h (map f xs) ≡ map (λ x. h (f x)) xs
map-twice f h [] = refl
map-twice f h (x ∷ xs) = ap (λ zs. h (f x) ∷ zs) (map-twice f h xs)

pub all-map : {X Y : Type 0} (f : X → Y) (P : Y → Type 0) (xs : List X) → All (λ x. P (f x)) xs → All P (map f xs)
all-map f P [] a k d l = absurd (omega arith)
all-map f P (x ∷ xs) a zero d l = a 0 x (omega arith)
all-map f P (x ∷ xs) a (suc k) d l = all-map f P xs (λ j e m. a (suc j) e (omega arith)) k d (omega arith)

pub all-unmap : {X Y : Type 0} (f : X → Y) (P : Y → Type 0) (xs : List X) → All P (map f xs) → All (λ x. P (f x)) xs
all-unmap f P [] a k d l = absurd (omega arith)
all-unmap f P (x ∷ xs) a zero d l = a 0 (f x) (omega arith)
all-unmap f P (x ∷ xs) a (suc k) d l = all-unmap f P xs (λ j e m. a (suc j) e (omega arith)) k d (omega arith)

no_items : (n len : ℕ) → cond (suc n == 0) len 0 ≡ 0
no_items n len = ap (λ z. cond z len 0) (by n)
  where
    by : (m : ℕ) → (suc m == 0) ≡ false
    by m = grind (arith, nat_tests)

module _ {I : Type 0} (number : I → ℕ) (t : ℕ → Tree) where
  abbrev of : I → Tree
  of i = t (number i)

  abbrev two : I × I → Tree × Tree
  two p = (t (number p.0), t (number p.1))

  -- ---- what a tree is, by what its node shows

  pub scalar-shown : (u : Tree) (g : List ℕ) (s : Inside I) (x : Bor (List ℕ)) → u ≡ inside_tree t g (inside_shown number s) → s ≡ Scalar x → u ≡ scalar g x.now
  scalar-shown u g s x e h = e ∙ ap (λ z. inside_tree t g (inside_shown number z)) h

  pub sequence-shown : (u : Tree) (g : List ℕ) (s : Inside I) (is : Bor (List I)) → u ≡ inside_tree t g (inside_shown number s) → s ≡ Sequence is → u ≡ sequence g (trees (map of is.now))
  sequence-shown u g s is e h = e ∙ ap (λ z. inside_tree t g (inside_shown number z)) h ∙ ap (λ z. sequence g (trees z)) (map-twice number t is.now)

  pub mapping-shown : (u : Tree) (g : List ℕ) (s : Inside I) (es : Bor (List (I × I))) → u ≡ inside_tree t g (inside_shown number s) → s ≡ Mapping es → u ≡ mapping g (pairs (map two es.now))
  mapping-shown u g s es e h = e ∙ ap (λ z. inside_tree t g (inside_shown number z)) h ∙ ap (λ z. mapping g (pairs z)) (map-twice (λ p. (number p.0, number p.1)) (λ p. (t p.0, t p.1)) es.now)

  -- ---- how many bytes it has, if it is short

  short-items : (g : List ℕ) (is : List I) → short_len (sequence g (trees (map of is))) ≡ cond (length is == 0) (if_short (brackets_len 1 g)) 0
  unfolding short text_len node_text
  short-items g [] = ap if_short (brackets 1 g (91 ∷ 93 ∷ []) two_square)
  short-items g (i ∷ is) = sym (no_items (length is) (if_short (brackets_len 1 g)))

  short-entries : (g : List ℕ) (es : List (I × I)) → short_len (mapping g (pairs (map two es))) ≡ cond (length es == 0) (if_short (brackets_len 2 g)) 0
  unfolding short text_len node_text
  short-entries g [] = ap if_short (brackets 2 g (123 ∷ 125 ∷ []) two_curly)
  short-entries g (p ∷ es) = sym (no_items (length es) (if_short (brackets_len 2 g)))

  pub short-is : (u : Tree) (g : List ℕ) (s : Inside I) → u ≡ inside_tree t g (inside_shown number s) → short_len u ≡ shown_len g s
  unfolding short
  short-is u g (Scalar x) e = ap short_len e
  short-is u g (Sequence is) e = ap short_len (sequence-shown u g (Sequence is) is e refl) ∙ short-items g is.now
  short-is u g (Mapping es) e = ap short_len (mapping-shown u g (Mapping es) es e refl) ∙ short-entries g es.now

  -- ---- the parts are nodes, and lower

  pub items-within : (k : ℕ) (s : Inside I) (is : Bor (List I)) → InsideBelow k (inside_shown number s) → s ≡ Sequence is → All (λ i. number i < k) is.now
  items-within k s is b h = all-unmap number (λ i. i < k) is.now (subst (λ z. All (λ i. i < k) (items_in (inside_shown number z))) h b.0)

  pub entries-within : (k : ℕ) (s : Inside I) (es : Bor (List (I × I))) → InsideBelow k (inside_shown number s) → s ≡ Mapping es → All (λ p. (number p.0 < k) × (number p.1 < k)) es.now
  entries-within k s es b h = all-unmap (λ p. (number p.0, number p.1)) (λ p. (p.0 < k) × (p.1 < k)) es.now (subst (λ z. All (λ p. (p.0 < k) × (p.1 < k)) (entries_in (inside_shown number z))) h b.1)

  pub sequence-high : (u : Tree) (g : List ℕ) (s : Inside I) (is : Bor (List I)) → u ≡ inside_tree t g (inside_shown number s) → s ≡ Sequence is → height u ≡ heights (trees (map of is.now))
  sequence-high u g s is e h = ap height (sequence-shown u g s is e h)

  pub mapping-high : (u : Tree) (g : List ℕ) (s : Inside I) (es : Bor (List (I × I))) → u ≡ inside_tree t g (inside_shown number s) → s ≡ Mapping es → height u ≡ heights_of_pairs (pairs (map two es.now))
  mapping-high u g s es e h = ap height (mapping-shown u g s es e h)

  item-low : (is : List I) (k : ℕ) (d : I) → k < length is → height (of (get_or is k d)) < heights (trees (map of is))
  item-low [] k d l = absurd (omega arith)
  item-low (i ∷ is) zero d l = omega arith
  item-low (i ∷ is) (suc k) d l = let h = item-low is k d (omega arith) in omega (arith, h)

  key-low : (es : List (I × I)) (k : ℕ) (d : I × I) → k < length es → height (t (number (get_or es k d).0)) < heights_of_pairs (pairs (map two es))
  key-low [] k d l = absurd (omega arith)
  key-low (p ∷ es) zero d l = omega arith
  key-low (p ∷ es) (suc k) d l = let h = key-low es k d (omega arith) in omega (arith, h)

  value-low : (es : List (I × I)) (k : ℕ) (d : I × I) → k < length es → height (t (number (get_or es k d).1)) < heights_of_pairs (pairs (map two es))
  value-low [] k d l = absurd (omega arith)
  value-low (p ∷ es) zero d l = omega arith
  value-low (p ∷ es) (suc k) d l = let h = value-low es k d (omega arith) in omega (arith, h)

  pub item-lower : (is : List I) (k : ℕ) (x : I) → k < length is → x ≡ get_or is k x → height (t (number x)) < heights (trees (map of is))
  item-lower is k x l e = subst (λ z. height (of z) < heights (trees (map of is))) (sym e) (item-low is k x l)

  pub key-lower : (es : List (I × I)) (k : ℕ) (x : I × I) → k < length es → x ≡ get_or es k x → height (t (number x.0)) < heights_of_pairs (pairs (map two es))
  key-lower es k x l e = subst (λ z. height (t (number z.0)) < heights_of_pairs (pairs (map two es))) (sym e) (key-low es k x l)

  pub value-lower : (es : List (I × I)) (k : ℕ) (x : I × I) → k < length es → x ≡ get_or es k x → height (t (number x.1)) < heights_of_pairs (pairs (map two es))
  value-lower es k x l e = subst (λ z. height (t (number z.1)) < heights_of_pairs (pairs (map two es))) (sym e) (value-low es k x l)

-- ---- what is short has few bytes

few : (n : ℕ) → if_short n ≤ 64
few n = cond_both (nat_le n 64) n 0 (λ z. z ≤ 64) (λ e. under n e) (λ _. omega arith)
  where
    under : (m : ℕ) → nat_le m 64 ≡ true → m ≤ 64
    under m e = grind (arith, nat_tests)

pub shown_few : {I : Type 0} (tag : List ℕ) (s : Inside I) → shown_len tag s ≤ 64
shown_few tag (Scalar x) = few (scalar_len tag x.now)
shown_few tag (Sequence is) = cond_both (length is.now == 0) (if_short (brackets_len 1 tag)) 0 (λ z. z ≤ 64) (λ _. few (brackets_len 1 tag)) (λ _. omega arith)
shown_few tag (Mapping es) = cond_both (length es.now == 0) (if_short (brackets_len 2 tag)) 0 (λ z. z ≤ 64) (λ _. few (brackets_len 2 tag)) (λ _. omega arith)

-- what holds of all of a list holds of one of it
pub item-in : {X : Type 0} (P : X → Type 0) (xs : List X) (k : ℕ) (x : X) → All P xs → k < length xs → x ≡ get_or xs k x → P x
item-in P xs k x a l e = subst P (sym e) (a k x l)
