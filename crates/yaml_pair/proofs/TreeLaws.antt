-- Nodes as they are shown, and what keys lead to from their trees.
use Rattle.std.proofs.Common.{◌≡◌, ℕ, suc, ◌+◌, ◌-◌, ◌^◌, ◌<◌, ◌≤◌, min, true, false, cond, ◌&&◌, List, [], ◌∷◌, length, map, take, drop, get_or, refl, sym, ◌∙◌, ap, subst, arith}
use Rattle.std.specs.Prelude.{Option, Some, None, bytes_eq, sum_by, option_and_then, codes}
use Rattle.std.proofs.lemmas.List.Sums.{sum_by_more}
use Rattle.std.specs.List.{slice_get}
use Rattle.std.specs.Option.{option_map}
use Rattle.std.specs.Borrow.{Bor}
use Rattle.std.proofs.lemmas.Option.{slice_get_within, slice_get-get_or, get_or_from_slice_get}
use Rattle.std.proofs.lemmas.List.{at_drop_more, at_drop_all, length-map}
use Rattle.yaml_definitions.specs.model.Tag.{str_tag}
use Rattle.yaml_definitions.specs.model.Tree.{Tree, Trees, Pairs, scalar, sequence, mapping}
use Rattle.yaml_definitions.specs.model.Same.{same}
use Rattle.yaml_tree.specs.TreeLists.{trees, pairs}
use Rattle.yaml_tree.specs.declared.node.NodeId.{NodeId}
use Rattle.yaml_tree.specs.declared.shown.Inside.{Inside}
use Rattle.yaml_tree.specs.declared.shown.Inside.TheVariants.{Scalar, Sequence, Mapping}
use Rattle.yaml_tree.specs.declared.shown.Shown.{Shown}
use Rattle.yaml_store_rank.specs.Forests.{Forests, count, tree, rank, item_trees, entry_trees, held_shown, IsRanked}
use Rattle.yaml_store_rank.proofs.ForestTrees.{scalar-shown, sequence-shown, mapping-shown, entries-within}
use Rattle.yaml_path.specs.Path.{Path, part, reach, value_in}
use Rattle.yaml_pair.specs.Names.{to_key, scalar_of, content_of, found_at, scalar_at, before_slash, group_of}
use Rattle.yaml_pair.specs.Named.{AllWithin, EntriesWithin, IsFound, IsScalarRank, width, how_many, how_many_pairs}

how-many : (xs : List Tree) → how_many (trees xs) ≡ length xs
how-many [] = refl
how-many (x ∷ xs) = ap suc (how-many xs)

how-many-pairs : (xs : List (Tree × Tree)) → how_many_pairs (pairs xs) ≡ length xs
how-many-pairs [] = refl
how-many-pairs (x ∷ xs) = ap suc (how-many-pairs xs)

module _ (g : Forests) (are : IsRanked g) (i : ℕ) (s : Shown NodeId) (e : slice_get g.nodes i ≡ Some (held_shown s)) where
  -- ---- scalars

  pub text-some : (x : Bor (List ℕ)) → s.inside ≡ Scalar x → Some x.now ≡ content_of (tree g i)
  text-some x h = sym (ap content_of (scalar-shown g are i s e x h))

  pub rank-some : (x : Bor (List ℕ)) (n : ℕ) → i < count g → s.inside ≡ Scalar x → n ≡ rank g i → IsScalarRank g (scalar_of (tree g i)) (Some n)
  rank-some x n l h q = let t = scalar-shown g are i s e x h in (i, l, ap scalar_of t ∙ ap Some (sym t), q)

  pub is-text : (x : Bor (List ℕ)) (b text : List ℕ) → s.inside ≡ Scalar x → (bytes_eq b s.tag.now && bytes_eq text x.now) ≡ same (scalar b text) (tree g i)
  unfolding same
  is-text x b text h = sym (ap (same (scalar b text)) (scalar-shown g are i s e x h))

  module _ (never : (x : Bor (List ℕ)) → s.inside ≡ Scalar x → ⊥) where
    -- what is no scalar shows parts
    no-scalar : (P : Tree → Type 0) → ((a : List ℕ) (ts : Trees) → P (sequence a ts)) → ((a : List ℕ) (ps : Pairs) → P (mapping a ps)) → P (tree g i)
    no-scalar P f h = by s.inside refl
      where
        by : (x : Inside NodeId) → s.inside ≡ x → P (tree g i)
        by (Scalar x) q = absurd (never x q)
        by (Sequence is) q = subst P (sym (sequence-shown g are i s e is q)) (f s.tag.now (trees (item_trees g is.now)))
        by (Mapping es) q = subst P (sym (mapping-shown g are i s e es q)) (h s.tag.now (pairs (entry_trees g es.now)))

    pub text-none : None ≡ content_of (tree g i)
    text-none = no-scalar (λ t. None ≡ content_of t) (λ a ts. refl) (λ a ps. refl)

    pub rank-none : IsScalarRank g (scalar_of (tree g i)) None
    rank-none = no-scalar (λ t. scalar_of t ≡ None) (λ a ts. refl) (λ a ps. refl)

    pub no-text : (b text : List ℕ) → false ≡ same (scalar b text) (tree g i)
    unfolding same
    no-text b text = no-scalar (λ t. false ≡ same (scalar b text) t) (λ a ts. refl) (λ a ps. refl)

  -- ---- the value of a key

  -- the node is a mapping
  pub value-some : (key : List ℕ) (es : Bor (List (NodeId × NodeId))) (o : Option NodeId) → s.inside ≡ Mapping es → IsFound g (value_in (pairs (entry_trees g es.now)) (scalar str_tag key)) o → IsFound g (part (tree g i) (to_key key)) o
  value-some key es o h f = record {
    is = f.is ∙ sym (ap (λ t. part t (to_key key)) (mapping-shown g are i s e es h));
    within = f.within;
  }

  -- the node is no mapping
  pub value-none : (key : List ℕ) → ((es : Bor (List (NodeId × NodeId))) → s.inside ≡ Mapping es → ⊥) → IsFound g (part (tree g i) (to_key key)) None
  value-none key never = record { is = by s.inside refl; within = tt }
    where
      by : (x : Inside NodeId) → s.inside ≡ x → None ≡ part (tree g i) (to_key key)
      by (Scalar x) q = sym (ap (λ t. part t (to_key key)) (scalar-shown g are i s e x q))
      by (Sequence is) q = sym (ap (λ t. part t (to_key key)) (sequence-shown g are i s e is q))
      by (Mapping es) q = absurd (never es q)

  -- the entries of a mapping are nodes
  pub entries-there : (es : Bor (List (NodeId × NodeId))) → s.inside ≡ Mapping es → i < count g → EntriesWithin g es.now
  entries-there es h l k p q =
      let w = slice_get_within es.now k p q in
      subst (λ z. (z.0.0 < count g) × (z.1.0 < count g)) (get_or_from_slice_get es.now k p p q) (entries-within g are i s e l es h k p w)

  -- ---- widths

  pub width-scalar : (x : Bor (List ℕ)) → s.inside ≡ Scalar x → 0 ≡ width (tree g i)
  width-scalar x h = sym (ap width (scalar-shown g are i s e x h))

  pub width-sequence : (is : Bor (List NodeId)) → s.inside ≡ Sequence is → length is.now ≡ width (tree g i)
  width-sequence is h = sym (ap width (sequence-shown g are i s e is h) ∙ how-many (item_trees g is.now) ∙ length-map is.now (λ (j : NodeId). tree g j.0))

  pub width-mapping : (es : Bor (List (NodeId × NodeId))) → s.inside ≡ Mapping es → length es.now ≡ width (tree g i)
  width-mapping es h = sym (ap width (mapping-shown g are i s e es h) ∙ how-many-pairs (entry_trees g es.now) ∙ length-map es.now (λ (p : NodeId × NodeId). (tree g p.0.0, tree g p.1.0)))

-- ---- values of keys, one entry after the other

module _ (g : Forests) (x : Tree) where
  abbrev rest : List (NodeId × NodeId) → Option Tree
  rest es = value_in (pairs (entry_trees g es)) x

  pub value-next : (es : List (NodeId × NodeId)) (i : ℕ) (d : NodeId × NodeId) (p : Option Tree) → i < length es → false ≡ same x (tree g (get_or es i d).0.0) → rest (drop i es) ≡ p → rest (drop (i + 1) es) ≡ p
  value-next es i d p l s e = ap (λ b. cond b (Some (tree g (get_or es i d).1.0)) (rest (drop (i + 1) es))) s ∙ sym (at_drop_more rest es i d l) ∙ e

  pub value-here : (es : List (NodeId × NodeId)) (i : ℕ) (d : NodeId × NodeId) (p : Option Tree) → i < length es → true ≡ same x (tree g (get_or es i d).0.0) → rest (drop i es) ≡ p → Some (tree g (get_or es i d).1.0) ≡ p
  value-here es i d p l s e = ap (λ b. cond b (Some (tree g (get_or es i d).1.0)) (rest (drop (i + 1) es))) s ∙ sym (at_drop_more rest es i d l) ∙ e

  pub value-end : (es : List (NodeId × NodeId)) (i : ℕ) (p : Option Tree) → length es ≤ i → rest (drop i es) ≡ p → None ≡ p
  value-end es i p l e = sym (at_drop_all rest es i l) ∙ e

-- ---- ways

pub lead-none : (p : Path) → reach None p ≡ None
lead-none [] = refl
lead-none (s ∷ p) = lead-none p

module _ (t : Tree) (keys : List (List ℕ)) (n : ℕ) where
  pub lead-step : (u : Tree) (key : List ℕ) → (n < length keys) × (key ≡ get_or keys n key) → Some u ≡ part t (to_key key) → reach (Some u) (map to_key (drop (n + 1) keys)) ≡ reach (Some t) (map to_key (drop n keys))
  lead-step u key w e =
      sym (at_drop_more (λ ks. reach (Some t) (map to_key ks)) keys n key w.0
      ∙ ap (λ z. reach (part t (to_key z)) (map to_key (drop (n + 1) keys))) (sym w.1)
      ∙ ap (λ z. reach z (map to_key (drop (n + 1) keys))) (sym e))

  pub lead-stop : (key : List ℕ) → (n < length keys) × (key ≡ get_or keys n key) → None ≡ part t (to_key key) → reach (Some t) (map to_key (drop n keys)) ≡ None
  lead-stop key w e =
      at_drop_more (λ ks. reach (Some t) (map to_key ks)) keys n key w.0
      ∙ ap (λ z. reach (part t (to_key z)) (map to_key (drop (n + 1) keys))) (sym w.1)
      ∙ ap (λ z. reach z (map to_key (drop (n + 1) keys))) (sym e)
      ∙ lead-none (map to_key (drop (n + 1) keys))

  pub lead-end : length keys ≤ n → reach (Some t) (map to_key (drop n keys)) ≡ Some t
  lead-end l = at_drop_all (λ ks. reach (Some t) (map to_key ks)) keys n l

-- ---- widths

-- the widths of one item more, as they are summed
pub weight-more : (g : Forests) (items : List NodeId) (i : ℕ) (d : NodeId) (other sum more new : ℕ) → AllWithin g items → i < length items → sum ≤ other + sum_by (λ x. width (tree g x.0)) (take i items)
    → ((get_or items i d).0 < count g → more ≡ width (tree g (get_or items i d).0)) → new ≡ min (sum + more) (2 ^ 64 - 1) → new ≤ other + sum_by (λ x. width (tree g x.0)) (take (i + 1) items)
weight-more g items i d other sum more new w l le is e =
    let c = is (w i (get_or items i d) (slice_get-get_or items i d l)) in
    omega (arith, e, le, c, sum_by_more (λ (x : NodeId). width (tree g x.0)) items i d l)

-- ---- the group of an object

abbrev group_in : Option Tree → Option (List ℕ)
group_in t = option_map before_slash (option_and_then content_of t)

pub group-lost : (g : Forests) (t : Tree) → IsFound g (found_at t (codes "apiVersion")) None → None ≡ group_of t
group-lost g t h = ap group_in h.is

pub group-none : (g : Forests) (t : Tree) (i : NodeId) → IsFound g (found_at t (codes "apiVersion")) (Some i) → None ≡ content_of (tree g i.0) → None ≡ group_of t
group-none g t i h e = ap (option_map before_slash) e ∙ ap group_in h.is

pub group-some : (g : Forests) (t : Tree) (i : NodeId) (x y : List ℕ) → IsFound g (found_at t (codes "apiVersion")) (Some i) → Some x ≡ content_of (tree g i.0) → y ≡ before_slash x → Some y ≡ group_of t
group-some g t i x y h e f = ap Some f ∙ ap (option_map before_slash) e ∙ ap group_in h.is

-- ---- the scalar where keys lead

pub scalar-lost : (g : Forests) (t : Tree) (path : List ℕ) → IsFound g (found_at t path) None → IsScalarRank g (scalar_at t path) None
scalar-lost g t path h = sym (ap (option_and_then scalar_of) h.is)

pub scalar-found : (g : Forests) (t : Tree) (path : List ℕ) (i : NodeId) (o : Option ℕ) → IsFound g (found_at t path) (Some i) → IsScalarRank g (scalar_of (tree g i.0)) o → IsScalarRank g (scalar_at t path) o
scalar-found g t path i o h s = subst (λ z. IsScalarRank g z o) (ap (option_and_then scalar_of) h.is) s
