-- The trees of sequences and mappings, step by step.
use Rattle.std.proofs.Common.{◌≡◌, ℕ, zero, suc, ◌<◌, true, not, List, [], ◌∷◌, map, length, inl, inr, refl, sym, ◌∙◌, ap, subst, arith}
use Rattle.std.specs.Prelude.{◌↔◌, Option, Some, None}
use Rattle.std.specs.Borrow.{Bor}
use Rattle.std.specs.Option.{option_map}
use Rattle.std.specs.List.{slice_get, All}
use Rattle.std.proofs.lemmas.List.{length-map}
use Rattle.std.proofs.lemmas.Option.{slice_get_within, get_or_from_slice_get}
use lib.Pointwise.{bytes_decides}
use Rattle.yaml_definitions.specs.model.Tree.{Tree, scalar, sequence, mapping}
use Rattle.yaml_definitions.specs.model.Same.{same, keyed, keyed_pairs}
use Rattle.yaml_definitions.proofs.Members.{In, all_in}
use Rattle.yaml_definitions.proofs.SameLaws.{keyed_parts}
use Rattle.yaml_tree.specs.TreeLists.{trees, pairs}
use Rattle.yaml_tree.specs.View.{Inside, entries_in, inside_tree}
use Rattle.yaml_tree.specs.View as view
use Rattle.yaml_tree.specs.Insides.{Held}
use Rattle.yaml_tree.specs.Shown.{inside_shown}
use Rattle.yaml_tree.specs.declared.node.NodeId.{NodeId}
use Rattle.yaml_tree.specs.declared.shown.Inside as declared
use Rattle.yaml_tree.specs.declared.shown.Inside.TheVariants.{Scalar, Sequence, Mapping}
use Rattle.yaml_tree.specs.declared.shown.Shown.{Shown}
use Rattle.yaml_tree.proofs.Lists.{get-some, get-map}
use Rattle.yaml_store_rank.specs.Forests.{Forests, count, tree, rank, entries_held, entries_at, held_shown, IsRanked}
use Rattle.yaml_store_rank.specs.KeyOrder.{numbers, number_pairs}
use Rattle.yaml_store_rank.proofs.ForestTrees.{tree-held}
use Rattle.yaml_path.specs.Path.{at_item, at_key, Head, scalar_head, sequence_head, mapping_head, head, part, item_in, value_in}
use Rattle.yaml_path.specs.Ways.{pairs_in}
use Rattle.yaml_path.proofs.PathLaws.{found_in, in_found}
use Rattle.yaml_diff.specs.Lines.{tree_of, trees_of}
use Rattle.yaml_diff.specs.Found.{HasItems, HasEntries, IsValueOf, kinds_alike}

pub all-at : {X : Type 0} (P : X → Type 0) (xs : List X) → All P xs → (k : ℕ) (x : X) → slice_get xs k ≡ Some x → P x
all-at P xs a k x e = subst P (get_or_from_slice_get xs k x x e) (a k x (slice_get_within xs k x e))

-- ---- items

pub item-there : (f : NodeId → Tree) (items : List NodeId) (k : ℕ) → item_in (trees (map f items)) k ≡ option_map f (slice_get items k)
item-there f [] k = refl
item-there f (i ∷ items) zero = refl
item-there f (i ∷ items) (suc k) = item-there f items k

by-number : (t : ℕ → Tree) (list : List NodeId) → map t (numbers list) ≡ map (λ i. t i.0) list
by-number t [] = refl
by-number t (i ∷ list) = ap (λ ts. t i.0 ∷ ts) (by-number t list)

-- ---- pairs of keys and values

-- the trees of the keys and values of entries
abbrev pub pairs-at : Forests → List (ℕ × ℕ) → List (Tree × Tree)
pairs-at g es = map (λ p. (tree g p.0, tree g p.1)) es

in-pairs : (g : Forests) (es : List (ℕ × ℕ)) (k : ℕ) (p : ℕ × ℕ) → slice_get es k ≡ Some p → In (tree g p.0) (tree g p.1) (pairs (pairs-at g es))
in-pairs g [] k p e = absurd (cc)
in-pairs g (q ∷ es) zero p e = let f : p ≡ q = cc in inl (ap (λ z. tree g z.0) f, ap (λ z. tree g z.1) f)
in-pairs g (q ∷ es) (suc k) p e = inr (in-pairs g es k p e)

pairs-in : (g : Forests) (es : List (ℕ × ℕ)) (x v : Tree) → In x v (pairs (pairs-at g es)) → (k : ℕ) × (p : ℕ × ℕ) × (slice_get es k ≡ Some p) × (x ≡ tree g p.0) × (v ≡ tree g p.1)
pairs-in g [] x v i = absurd i
pairs-in g (p ∷ es) x v (inl e) = (0, p, refl, e.0, e.1)
pairs-in g (p ∷ es) x v (inr i) = let r = pairs-in g es x v i in (suc r.0, r.1, r.2, r.3, r.4)

part-in : (t : Tree) (x : Tree) → part t (at_key x) ≡ value_in (pairs_in (Some t)) x
part-in (scalar a y) x = refl
part-in (sequence a ts) x = refl
part-in (mapping a ps) x = refl

keyed-in : (t : Tree) → keyed t ≡ true → keyed_pairs (pairs_in (Some t)) ≡ true
keyed-in (scalar a y) h = refl
keyed-in (sequence a ts) h = refl
keyed-in (mapping a ps) h = h

-- ---- heads

abbrev pub IsMapping : Tree → Type 0
IsMapping t = (a : List ℕ) × (head t ≡ mapping_head a)

abbrev tag-in : Head → List ℕ
tag-in (scalar_head a x) = a
tag-in (sequence_head a) = a
tag-in (mapping_head a) = a

tag-there : (t : ℕ → Tree) (a : List ℕ) (x : Inside) → tag-in (head (inside_tree t a x)) ≡ a
tag-there t a (view.content x) = refl
tag-there t a (view.items is) = refl
tag-there t a (view.entries es) = refl

heads-by-kind : (t : ℕ → Tree) (a : List ℕ) (x y : Inside) → (kinds_alike x y ≡ true) ↔ (head (inside_tree t a x) ≡ head (inside_tree t a y))
heads-by-kind t a (view.content x) (view.content y) = (λ h. ap (scalar_head a) ((bytes_decides x y).0 h), λ h. (bytes_decides x y).1 (cc))
heads-by-kind t a (view.items x) (view.items y) = (λ h. refl, λ h. refl)
heads-by-kind t a (view.entries x) (view.entries y) = (λ h. refl, λ h. refl)
heads-by-kind t a (view.content x) (view.items y) = (λ h. absurd (cc), λ h. absurd (cc))
heads-by-kind t a (view.content x) (view.entries y) = (λ h. absurd (cc), λ h. absurd (cc))
heads-by-kind t a (view.items x) (view.content y) = (λ h. absurd (cc), λ h. absurd (cc))
heads-by-kind t a (view.items x) (view.entries y) = (λ h. absurd (cc), λ h. absurd (cc))
heads-by-kind t a (view.entries x) (view.content y) = (λ h. absurd (cc), λ h. absurd (cc))
heads-by-kind t a (view.entries x) (view.items y) = (λ h. absurd (cc), λ h. absurd (cc))

module _ (g : Forests) (are : IsRanked g) where
  -- ---- nodes of two shapes

  pub items-tree : (i : ℕ) (list : List NodeId) (h : HasItems g i list) → tree g i ≡ sequence h.tag (trees (map (tree_of g) list))
  items-tree i list h = tree-held g are i (h.tag, view.items (numbers list)) h.is ∙ ap (λ ts. sequence h.tag (trees ts)) (by-number (tree g) list)

  pub item-part : (i : ℕ) (list : List NodeId) → HasItems g i list → (k : ℕ) → part (tree g i) (at_item k) ≡ trees_of g (slice_get list k)
  item-part i list h k = ap (λ z. part z (at_item k)) (items-tree i list h) ∙ item-there (tree_of g) list k

  -- items stand before their node
  pub items-below : (i : ℕ) (list : List NodeId) → HasItems g i list → (k : ℕ) (x : NodeId) → slice_get list k ≡ Some x → x.0 < i
  items-below i list h k x e = all-at (λ j. j < i) (numbers list) (are.below i (h.tag, view.items (numbers list)) h.is).0 k x.0 (get-map (λ j. j.0) list k x e)

  -- heads are equal exactly for one tag and one kind
  pub tags-apart : (i j : ℕ) (n m : Held) → slice_get g.nodes i ≡ Some n → slice_get g.nodes j ≡ Some m → head (tree g i) ≡ head (tree g j) → n.0 ≡ m.0
  tags-apart i j n m e f h = sym (tag-there (tree g) n.0 n.1) ∙ ap tag-in (sym (ap head (tree-held g are i n e)) ∙ h ∙ ap head (tree-held g are j m f)) ∙ tag-there (tree g) m.0 m.1

  pub heads-alike : (i j : ℕ) (n m : Held) → slice_get g.nodes i ≡ Some n → slice_get g.nodes j ≡ Some m → n.0 ≡ m.0 → (kinds_alike n.1 m.1 ≡ true) ↔ (head (tree g i) ≡ head (tree g j))
  heads-alike i j n m e f q =
      let x = ap head (tree-held g are i n e) ∙ ap (λ a. head (inside_tree (tree g) a n.1)) q in
      let y = ap head (tree-held g are j m f) in
      let b = heads-by-kind (tree g) m.0 n.1 m.1 in
      (λ h. x ∙ b.0 h ∙ sym y, λ h. b.1 (sym x ∙ h ∙ y))

  pub kinds-alike : (i j : ℕ) (n m : Held) → slice_get g.nodes i ≡ Some n → slice_get g.nodes j ≡ Some m → head (tree g i) ≡ head (tree g j) → kinds_alike n.1 m.1 ≡ true
  kinds-alike i j n m e f h = (heads-alike i j n m e f (tags-apart i j n m e f h)).1 h

  -- ---- the entries of a node, none where it is no mapping

  pub pairs-there : (i : ℕ) (n : Held) → slice_get g.nodes i ≡ Some n → pairs_in (Some (tree g i)) ≡ pairs (pairs-at g (entries_at g i))
  pairs-there i n e = ap (λ t. pairs_in (Some t)) (tree-held g are i n e) ∙ by n.1 ∙ ap (λ o. pairs (pairs-at g (entries_held o))) (sym e)
    where
      by : (x : Inside) → pairs_in (Some (inside_tree (tree g) n.0 x)) ≡ pairs (pairs-at g (entries_in x))
      by (view.content y) = refl
      by (view.items is) = refl
      by (view.entries es) = refl

  module _ (i : ℕ) (l : i < count g) where
    node : (n : Held) × (slice_get g.nodes i ≡ Some n)
    node = get-some g.nodes i l

    pub all-pairs : pairs_in (Some (tree g i)) ≡ pairs (pairs-at g (entries_at g i))
    all-pairs = pairs-there i node.0 node.1

    keyed-pairs : keyed_pairs (pairs (pairs-at g (entries_at g i))) ≡ true
    keyed-pairs = sym (ap keyed_pairs all-pairs) ∙ keyed-in (tree g i) (are.keyed i l)

    part-at : (x : Tree) → part (tree g i) (at_key x) ≡ value_in (pairs (pairs-at g (entries_at g i))) x
    part-at x = part-in (tree g i) x ∙ ap (λ ps. value_in ps x) all-pairs

    -- keys and values stand before it
    pub entry-below : (k : ℕ) (p : ℕ × ℕ) → slice_get (entries_at g i) k ≡ Some p → (p.0 < i) × (p.1 < i)
    entry-below k p e = all-at (λ p. (p.0 < i) × (p.1 < i)) (entries_in node.0.1) (are.below i node.0 node.1).1 k p (subst (λ z. slice_get (entries_held z) k ≡ Some p) node.1 e)

    -- a value is found by each key that is the same
    pub value-there : (x : Tree) (k : ℕ) (p : ℕ × ℕ) → slice_get (entries_at g i) k ≡ Some p → same x (tree g p.0) ≡ true → part (tree g i) (at_key x) ≡ Some (tree g p.1)
    value-there x k p e s = part-at x ∙ in_found (pairs (pairs-at g (entries_at g i))) x (tree g p.0) (tree g p.1) keyed-pairs (in-pairs g (entries_at g i) k p e) s

    -- and each value is that of an entry
    pub value-some : (x v : Tree) → part (tree g i) (at_key x) ≡ Some v → (k : ℕ) × (p : ℕ × ℕ) × (slice_get (entries_at g i) k ≡ Some p) × (same x (tree g p.0) ≡ true) × (v ≡ tree g p.1)
    value-some x v e =
        let f = found_in (pairs (pairs-at g (entries_at g i))) x v (sym (part-at x) ∙ e) in
        let q = pairs-in g (entries_at g i) f.0 v f.1 in
        (q.0, q.1, q.2, subst (λ z. same x z ≡ true) q.3 f.2, q.4)

    -- no two keys are the same
    pub keys-apart : (j k : ℕ) (p q : ℕ × ℕ) → j < k → slice_get (entries_at g i) j ≡ Some p → slice_get (entries_at g i) k ≡ Some q → same (tree g p.0) (tree g q.0) ≡ true → ⊥
    keys-apart j k p q l a b s = by (entries_at g i) j k l keyed-pairs a b
      where
        by : (es : List (ℕ × ℕ)) (j k : ℕ) → j < k → keyed_pairs (pairs (pairs-at g es)) ≡ true → slice_get es j ≡ Some p → slice_get es k ≡ Some q → ⊥
        by [] j k l m a b = absurd (cc)
        by (x ∷ es) j zero l m a b = absurd (omega arith)
        by (x ∷ es) zero (suc k) l m a b =
            let e : x ≡ p = cc in
            let n = all_in (λ y z. not (same (tree g x.0) y)) (tree g q.0) (tree g q.1) (pairs (pairs-at g es)) (keyed_parts (tree g x.0) (tree g x.1) (pairs (pairs-at g es)) m).2 (in-pairs g es k q b) in
            let t : not true ≡ true = ap not (sym s ∙ ap (λ z. same (tree g z.0) (tree g q.0)) (sym e)) ∙ n in
            absurd (cc)
        by (x ∷ es) (suc j) (suc k) l m a b = by es j k (omega arith) (keyed_parts (tree g x.0) (tree g x.1) (pairs (pairs-at g es)) m).3 a b

    -- the value of the key of a rank is that of the key's tree
    pub value-ranked : (key : ℕ) → key < count g → (result : Option NodeId) → IsValueOf g (entries_at g i) (rank g key) result → part (tree g i) (at_key (tree g key)) ≡ trees_of g result
    value-ranked key m (Some v) w =
        let b = entry-below w.0 w.1 w.2 in
        let s = (are.ranked key w.1.0 m (omega (arith, b.0, l))).0.0 (sym w.3) in
        value-there (tree g key) w.0 w.1 w.2 s ∙ ap (λ z. Some (tree g z)) w.4
    value-ranked key m None w = by (part (tree g i) (at_key (tree g key))) refl
      where
        by : (o : Option Tree) → part (tree g i) (at_key (tree g key)) ≡ o → o ≡ None
        by None e = refl
        by (Some v) e =
            let q = value-some (tree g key) v e in
            let b = entry-below q.0 q.1 q.2 in
            absurd (w q.0 q.1 q.2 (sym ((are.ranked key q.1.0 m (omega (arith, b.0, l))).0.1 q.3)))

  -- the entries that are shown
  pub entries-shown : (i : ℕ) (list : List (NodeId × NodeId)) → HasEntries g i list → entries_at g i ≡ number_pairs list
  entries-shown i list h = ap entries_held h.is

  pub entries-long : (i : ℕ) (list : List (NodeId × NodeId)) → HasEntries g i list → length (entries_at g i) ≡ length list
  entries-long i list h = ap length (entries-shown i list h) ∙ length-map list (λ p. (p.0.0, p.1.0))

  pub mapping-shown : (i : ℕ) (list : List (NodeId × NodeId)) → HasEntries g i list → IsMapping (tree g i)
  mapping-shown i list h = (h.tag, ap head (tree-held g are i (h.tag, view.entries (number_pairs list)) h.is))

  pub entry-shown : (i : ℕ) (list : List (NodeId × NodeId)) → HasEntries g i list → (k : ℕ) (p : NodeId × NodeId) → slice_get list k ≡ Some p → slice_get (entries_at g i) k ≡ Some (p.0.0, p.1.0)
  entry-shown i list h k p e = ap (λ z. slice_get z k) (entries-shown i list h) ∙ get-map (λ p. (p.0.0, p.1.0)) list k p e

-- ---- what is shown

pub has-items : (g : Forests) (i : ℕ) (s : Shown NodeId) (list : Bor (List NodeId)) → slice_get g.nodes i ≡ Some (held_shown s) → s.inside ≡ Sequence list → HasItems g i list.now
has-items g i s list e h = record { tag = s.tag.now; is = e ∙ ap (λ z. Some (s.tag.now, inside_shown (λ j. j.0) z)) h }

pub has-entries : (g : Forests) (i : ℕ) (s : Shown NodeId) (list : Bor (List (NodeId × NodeId))) → slice_get g.nodes i ≡ Some (held_shown s) → s.inside ≡ Mapping list → HasEntries g i list.now
has-entries g i s list e h = record { tag = s.tag.now; is = e ∙ ap (λ z. Some (s.tag.now, inside_shown (λ j. j.0) z)) h }

-- two nodes of one head are sequences together, and mappings together
pub both-sequences : (x y : declared.Inside NodeId) (xs : Bor (List NodeId)) → kinds_alike (inside_shown (λ j. j.0) x) (inside_shown (λ j. j.0) y) ≡ true → x ≡ Sequence xs → (ys : Bor (List NodeId)) × (y ≡ Sequence ys)
both-sequences x (Sequence ys) xs h e = (ys, refl)
both-sequences x (Scalar y) xs h e = let z = sym (ap (λ z. kinds_alike (inside_shown (λ j. j.0) z) (view.content y.now)) e) ∙ h in absurd (cc)
both-sequences x (Mapping ys) xs h e = let z = sym (ap (λ z. kinds_alike (inside_shown (λ j. j.0) z) (inside_shown (λ j. j.0) (Mapping ys))) e) ∙ h in absurd (cc)

pub both-mappings : (x y : declared.Inside NodeId) (xs : Bor (List (NodeId × NodeId))) → kinds_alike (inside_shown (λ j. j.0) x) (inside_shown (λ j. j.0) y) ≡ true → x ≡ Mapping xs → (ys : Bor (List (NodeId × NodeId))) × (y ≡ Mapping ys)
both-mappings x (Mapping ys) xs h e = (ys, refl)
both-mappings x (Scalar y) xs h e = let z = sym (ap (λ z. kinds_alike (inside_shown (λ j. j.0) z) (view.content y.now)) e) ∙ h in absurd (cc)
both-mappings x (Sequence ys) xs h e = let z = sym (ap (λ z. kinds_alike (inside_shown (λ j. j.0) z) (inside_shown (λ j. j.0) (Sequence ys))) e) ∙ h in absurd (cc)

pub items-there : (g : Forests) (i : ℕ) (list : List NodeId) → HasItems g i list → i < count g
items-there g i list h = slice_get_within g.nodes i (h.tag, view.items (numbers list)) h.is

pub entries-there : (g : Forests) (i : ℕ) (list : List (NodeId × NodeId)) → HasEntries g i list → i < count g
entries-there g i list h = slice_get_within g.nodes i (h.tag, view.entries (number_pairs list)) h.is
