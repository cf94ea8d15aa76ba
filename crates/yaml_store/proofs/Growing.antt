-- Lists of nodes with one more at their end.
use Rattle.std.proofs.Common.{◌≡◌, ◌⊎◌, inl, inr, ℕ, suc, min, ◌+◌, ◌-◌, ◌<◌, ◌≤◌, true, List, [], ◌∷◌, ◌++◌, length, map, take, drop, get_or, refl, sym, ◌∙◌, ap, subst, arith, length-append, length-drop}
use Rattle.std.specs.Prelude.{Some}
use Rattle.std.specs.List.{slice_get, slice_range}
use Rattle.std.proofs.lemmas.List.{take_all, take-append-le, drop-append-le, drop_at, map-append, length-map, get_or_append_left}
use Rattle.std.proofs.lemmas.Option.{get_or_from_slice_get}
use Rattle.yaml_definitions.specs.model.Limits.{height_limit}
use Rattle.yaml_definitions.specs.model.Tree.{Tree, scalar, height}
use Rattle.yaml_tree.specs.TreeLists.{tree_at, cut}
use Rattle.yaml_tree.proofs.Lists.{get-end, push-get, get-some}
use Rattle.yaml_tree.specs.View.{Inside, content, items, entries, InsideBelow, inside_tree}
use Rattle.yaml_tree.specs.Insides.{Held, held_tree, more_held, trees_held}
use Rattle.yaml_tree.proofs.InsideLaws.{held-length}
use Rattle.yaml_tree.proofs.Numbers.{below_or}
use Rattle.yaml_tree.proofs.Numbering.{get-there, get-within}
use Rattle.yaml_store.specs.declared.nodes.Node.{Node}
use Rattle.yaml_store.specs.declared.nodes.Place.{Place}
use Rattle.yaml_store.specs.declared.nodes.Place.TheVariants.{Scalar, Sequence, Mapping}
use Rattle.yaml_store.specs.declared.store.Store.{Store}
use Rattle.yaml_store.specs.TextModel.{text_of}
use Rattle.yaml_store.specs.StoreModel.{place_of, inside_of, Within, tag_at, node_held, trees_stored, start_of, end_of, room_of, share, AllPlaced, PartsInOrder, AllBelow, AllMeasured}
use Rattle.yaml_store.specs.StoreGrows.{IsText, Sound, Good, IsLow, tags_of, trees_of}
use Rattle.yaml_store.specs.StoreView.{tag_in, inside_at, stored-made}

-- ---- lists that grow at their end

pub range-grown : {X : Type 0} (xs more : List X) (a b : ℕ) → a ≤ b → b ≤ length xs → slice_range (xs ++ more) a b ≡ slice_range xs a b
range-grown xs more a b l m =
    let n : a ≤ length xs = omega arith in
    ap (take (b - a)) (drop-append-le a xs more n) ∙ take-append-le (b - a) (drop a xs) more (omega (arith, length-drop a xs))

pub range-new : {X : Type 0} (xs more : List X) (a b : ℕ) → a ≡ length xs → b ≡ length (xs ++ more) → slice_range (xs ++ more) a b ≡ more
range-new xs more a b e q = ap (take (b - a)) (drop_at xs more a (sym e)) ∙ take_all (b - a) more (omega (arith, length-append xs more))

pub trees-count : (nodes : List Node) (text is : List ℕ) (es : List (ℕ × ℕ)) (tags : List (List ℕ)) → length (trees_stored nodes text is es tags) ≡ length nodes
trees-count nodes text is es tags = held-length (map (node_held text is es tags) nodes) ∙ length-map nodes (node_held text is es tags)

held-push : (ts : List Tree) (ns : List Held) (n : Held) → more_held ts (ns ++ (n ∷ [])) ≡ more_held ts ns ++ (held_tree (more_held ts ns) n ∷ [])
held-push ts [] n = refl
held-push ts (m ∷ ns) n = held-push (ts ++ (held_tree ts m ∷ [])) ns n

-- the node of this number stands for a tree of its parts' trees
pub stands-at : (tags : List (List ℕ)) (text is : List ℕ) (es : List (ℕ × ℕ)) (nodes : List Node) → Sound tags text is es nodes → (i : ℕ) (n : Node) → slice_get nodes i ≡ Some n
    → slice_get (trees_stored nodes text is es tags) i ≡ Some (inside_tree (tree_at (trees_stored nodes text is es tags)) (tag_at tags n.tag) (inside_of text is es (place_of n)))
stands-at tags text is es nodes s i n e =
    let ts = trees_stored nodes text is es tags in
    let l = get-within nodes i n e in
    get-there ts i (scalar [] []) (omega (arith, trees-count nodes text is es tags)) ∙ ap Some (stored-made nodes text is es tags s.below i l ∙ (λ z. inside_tree (tree_at ts) (tag_in tags (e z)) (inside_at text is es (e z))))

module _ (text mt is mi : List ℕ) (es me : List (ℕ × ℕ)) where
  inside-grown : (p : Place) → start_of p ≤ end_of p → end_of p ≤ room_of (length text) (length is) (length es) p → inside_of (text ++ mt) (is ++ mi) (es ++ me) p ≡ inside_of text is es p
  inside-grown (Scalar s) a b = ap content (range-grown text mt s.start s.end a b)
  inside-grown (Sequence s) a b = ap items (range-grown is mi s.start s.end a b)
  inside-grown (Mapping s) a b = ap entries (range-grown es me s.start s.end a b)

  textless : (p : Place) → start_of p ≤ end_of p → end_of p ≤ room_of (length text) (length is) (length es) p → inside_of [] (is ++ mi) (es ++ me) p ≡ inside_of [] is es p
  textless (Scalar s) a b = refl
  textless (Sequence s) a b = ap items (range-grown is mi s.start s.end a b)
  textless (Mapping s) a b = ap entries (range-grown es me s.start s.end a b)

  room-grown : (p : Place) → room_of (length text) (length is) (length es) p ≤ room_of (length (text ++ mt)) (length (is ++ mi)) (length (es ++ me)) p
  room-grown (Scalar s) = omega (arith, length-append text mt)
  room-grown (Sequence s) = omega (arith, length-append is mi)
  room-grown (Mapping s) = omega (arith, length-append es me)

  held-grown : (tags : List (List ℕ)) (k : ℕ) (nodes : List Node) → AllPlaced (length text) (length is) (length es) k nodes → map (node_held (text ++ mt) (is ++ mi) (es ++ me) tags) nodes ≡ map (node_held text is es tags) nodes
  held-grown tags k [] placed = refl
  held-grown tags k (n ∷ nodes) placed =
      let p = placed 0 n refl in
      let e = inside-grown (place_of n) p.0 p.1 in
      let r = held-grown tags k nodes (λ i m h. placed (suc i) m h) in
      λ z. (tag_at tags n.tag, e z) ∷ r z

-- What the lists are with one more node, that stands for this tree.
pub record Grown (tags : List (List ℕ)) (text is : List ℕ) (es : List (ℕ × ℕ)) (nodes : List Node) (old : List Tree) (t : Tree) : Type 0 where
  pub sound : Sound tags text is es nodes
  pub trees : trees_stored nodes text is es tags ≡ old ++ (t ∷ [])

module _ (tags : List (List ℕ)) (text mt is mi : List ℕ) (es me : List (ℕ × ℕ)) (nodes : List Node) (old : Sound tags text is es nodes) (n : Node) where
  abbrev ts : List Tree
  ts = trees_stored nodes text is es tags

  abbrev p : Place
  p = place_of n

  module _ (tagged : n.tag < length tags) (start : start_of p ≤ end_of p) (room : end_of p ≤ room_of (length (text ++ mt)) (length (is ++ mi)) (length (es ++ me)) p) (behind : (t : Place) → share t p ≡ true → room_of (length text) (length is) (length es) t ≤ start_of p)
      (low : InsideBelow (length nodes) (inside_of [] (is ++ mi) (es ++ me) p)) (inside : Inside) (is-inside : inside_of (text ++ mt) (is ++ mi) (es ++ me) p ≡ inside) (utf8 : IsText inside) (high : n.height ≡ cut (inside_tree (tree_at ts) (tag_at tags n.tag) inside)) (few : length (nodes ++ (n ∷ [])) < 4294967296) where
    abbrev new_tree : Tree
    new_tree = inside_tree (tree_at ts) (tag_at tags n.tag) inside

    placed-more : AllPlaced (length (text ++ mt)) (length (is ++ mi)) (length (es ++ me)) (length tags) (nodes ++ (n ∷ []))
    placed-more i m e = elim (push-get nodes n m i e) [
      | inl a ↦ (let q = old.placed i m a in let r = room-grown text mt is mi es me (place_of m) in let q1 = q.1 in (q.0, omega arith, q.2))
      | inr a ↦ subst (λ z. (start_of (place_of z) ≤ end_of (place_of z)) × (end_of (place_of z) ≤ room_of (length (text ++ mt)) (length (is ++ mi)) (length (es ++ me)) (place_of z)) × (z.tag < length tags)) (sym a.1) (start, room, tagged)
    ]

    apart-more : PartsInOrder (nodes ++ (n ∷ []))
    apart-more i j m o l a b h = by (push-get nodes n m i a) (push-get nodes n o j b)
      where
        by : (slice_get nodes i ≡ Some m) ⊎ ((i ≡ length nodes) × (m ≡ n)) → (slice_get nodes j ≡ Some o) ⊎ ((j ≡ length nodes) × (o ≡ n)) → end_of (place_of m) ≤ start_of (place_of o)
        by (inl q) (inl r) = old.apart i j m o l q r h
        by (inl q) (inr r) =
            let e : o ≡ n = r.1 in
            let w = behind (place_of m) (subst (λ z. share (place_of m) (place_of z) ≡ true) e h) in
            let v = (old.placed i m q).1 in
            subst (λ z. end_of (place_of m) ≤ start_of (place_of z)) (sym e) (omega arith)
        by (inr q) (inl r) = let w = get-within nodes j o r in let e = q.0 in absurd (omega arith)
        by (inr q) (inr r) = let e = q.0 in let f = r.0 in absurd (omega arith)

    below-more : AllBelow (nodes ++ (n ∷ [])) (is ++ mi) (es ++ me)
    below-more i m e = elim (push-get nodes n m i e) [
      | inl a ↦ (let q = old.placed i m a in subst (InsideBelow i) (sym (textless text mt is mi es me (place_of m) q.0 q.1)) (old.below i m a))
      | inr a ↦ subst (λ z. InsideBelow i (inside_of [] (is ++ mi) (es ++ me) (place_of z))) (sym a.1) (subst (λ z. InsideBelow z (inside_of [] (is ++ mi) (es ++ me) p)) (sym a.0) low)
    ]

    texts-more : (i : ℕ) (m : Node) → slice_get (nodes ++ (n ∷ [])) i ≡ Some m → IsText (inside_of (text ++ mt) (is ++ mi) (es ++ me) (place_of m))
    texts-more i m e = elim (push-get nodes n m i e) [
      | inl a ↦ (let q = old.placed i m a in subst IsText (sym (inside-grown text mt is mi es me (place_of m) q.0 q.1)) (old.texts i m a))
      | inr a ↦ subst (λ z. IsText (inside_of (text ++ mt) (is ++ mi) (es ++ me) (place_of z))) (sym a.1) (subst IsText (sym is-inside) utf8)
    ]

    trees-more : trees_stored (nodes ++ (n ∷ [])) (text ++ mt) (is ++ mi) (es ++ me) tags ≡ ts ++ (new_tree ∷ [])
    trees-more =
        ap trees_held (map-append (node_held (text ++ mt) (is ++ mi) (es ++ me) tags) nodes (n ∷ []))
        ∙ (ap (λ ns. trees_held (ns ++ (node_held (text ++ mt) (is ++ mi) (es ++ me) tags n ∷ []))) (held-grown text mt is mi es me tags (length tags) nodes old.placed)
        ∙ (held-push [] (map (node_held text is es tags) nodes) (node_held (text ++ mt) (is ++ mi) (es ++ me) tags n) ∙ ap (λ z. ts ++ (inside_tree (tree_at ts) (tag_at tags n.tag) z ∷ [])) is-inside))

    measured-more : AllMeasured (nodes ++ (n ∷ [])) (trees_stored (nodes ++ (n ∷ [])) (text ++ mt) (is ++ mi) (es ++ me) tags)
    measured-more i m e = subst (λ us. m.height ≡ cut (tree_at us i)) (sym trees-more) (elim (push-get nodes n m i e) [
      | inl a ↦ old.measured i m a ∙ ap cut (sym (get_or_append_left ts (new_tree ∷ []) (scalar [] []) i (omega (arith, get-within nodes i m a, trees-count nodes text is es tags))))
      | inr a ↦ (let q : slice_get (ts ++ (new_tree ∷ [])) i ≡ Some new_tree = subst (λ k. slice_get (ts ++ (new_tree ∷ [])) k ≡ Some new_tree) (trees-count nodes text is es tags ∙ sym a.0) (get-end ts new_tree) in
          ap (λ z. z.height) a.1 ∙ (high ∙ ap cut (sym (get_or_from_slice_get (ts ++ (new_tree ∷ [])) i new_tree (scalar [] []) q))))
    ])

    pub one-more : (text2 is2 : List ℕ) (es2 : List (ℕ × ℕ)) (nodes2 : List Node) → text2 ≡ text ++ mt → is2 ≡ is ++ mi → es2 ≡ es ++ me → nodes2 ≡ nodes ++ (n ∷ []) → Grown tags text2 is2 es2 nodes2 ts new_tree
    one-more text2 is2 es2 nodes2 a b c d =
        let made : Grown tags (text ++ mt) (is ++ mi) (es ++ me) (nodes ++ (n ∷ [])) ts new_tree =
        record { sound = record { few = few; placed = placed-more; apart = apart-more; below = below-more; texts = texts-more; measured = measured-more }; trees = trees-more } in
        subst (λ z. Grown tags z is2 es2 nodes2 ts new_tree) (sym a) (subst (λ z. Grown tags (text ++ mt) z es2 nodes2 ts new_tree) (sym b) (subst (λ z. Grown tags (text ++ mt) (is ++ mi) z nodes2 ts new_tree) (sym c) (subst (λ z. Grown tags (text ++ mt) (is ++ mi) (es ++ me) z ts new_tree) (sym d) made)))

-- ---- heights

-- the node that stands for a tree has its height, cut just above the limit
pub high-at : (s : Store) → Good s → (i : ℕ) (n : Node) → slice_get s.nodes.items i ≡ Some n → (t : Tree) → slice_get (trees_of s) i ≡ Some t → n.height ≡ min (height t) (suc height_limit)
high-at s good i n a t e = good.measured i n a ∙ ap cut (get_or_from_slice_get (trees_of s) i t (scalar [] []) e)

-- where no tree is higher than the limit, none is cut
pub uncut-at : (s : Store) → Good s → IsLow s → (i : ℕ) (n : Node) → slice_get s.nodes.items i ≡ Some n → (n.height ≡ height (tree_at (trees_of s) i)) × (n.height ≤ height_limit)
uncut-at s good low i n a =
    let ts = trees_of s in
    let there = get-there ts i (scalar [] []) (omega (arith, get-within s.nodes.items i n a, trees-count s.nodes.items (text_of s.text) s.items.items s.entries.items (tags_of s))) in
    let l = low i (tree_at ts i) there in
    let q = high-at s good i n a (tree_at ts i) there in
    (omega arith, omega arith)

-- nodes of which none is too high
pub low-from : (s : Store) → Good s → ((i : ℕ) (n : Node) → slice_get s.nodes.items i ≡ Some n → n.height ≤ height_limit) → IsLow s
low-from s good low i t e =
    let count = trees-count s.nodes.items (text_of s.text) s.items.items s.entries.items (tags_of s) in
    let n = get-some s.nodes.items i (omega (arith, get-within (trees_of s) i t e, count)) in
    let l = low i n.0 n.1 in
    let q = high-at s good i n.0 n.1 t e in
    omega arith

module _ (ns : List Node) (at : ℕ) (d : Node) (limit : ℕ) (is : limit ≡ height_limit) where
  -- the first nodes are told not to be too high, and now one more
  pub low-more : (nodes : List Node) → ns ≡ nodes → ((k : ℕ) (n : Node) → k < at → slice_get nodes k ≡ Some n → n.height ≤ height_limit) → (get_or ns at d).height ≤ limit → (k : ℕ) (n : Node) → k < at + 1 → slice_get nodes k ≡ Some n → n.height ≤ height_limit
  low-more nodes e low here k n l a = elim (below_or k at) [
    | inl b ↦ low k n b a
    | inr b ↦ (
        let q : at ≡ k = omega arith in
        let f : get_or ns at d ≡ n = (λ z. get_or (e z) (q z) d) ∙ get_or_from_slice_get nodes k n d a in
        let g : (get_or ns at d).height ≡ n.height = ap (λ m. m.height) f in
        omega arith)
  ]

  -- one is told to be too high
  pub high-there : (s : Store) → Good s → IsLow s → ns ≡ s.nodes.items → at < length ns → limit < (get_or ns at d).height → ⊥
  high-there s good low e l h =
      let there : slice_get s.nodes.items at ≡ Some (get_or ns at d) = subst (λ z. slice_get z at ≡ Some (get_or ns at d)) e (get-there ns at d l) in
      let q = (uncut-at s good low at (get_or ns at d) there).1 in
      omega arith

pub within-from : (text is es : ℕ) (place : Place) → start_of place ≤ end_of place → end_of place ≤ room_of text is es place → Within text is es place
within-from text is es (Scalar s) a b = (a, b)
within-from text is es (Sequence s) a b = (a, b)
within-from text is es (Mapping s) a b = (a, b)
