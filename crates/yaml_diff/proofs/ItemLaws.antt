-- Sequences: their items, and which are taken for each other.
use Rattle.std.proofs.Common.{◌≡◌, ℕ, zero, suc, true, List, [], ◌∷◌, length, refl, sym, ◌∙◌, ap, subst}
use Rattle.std.specs.Prelude.{Option, Some, None, bytes_eq}
use Rattle.std.specs.Option.{option_map}
use Rattle.std.specs.List.{slice_get}
use Rattle.yaml_definitions.specs.model.Tree.{Tree, Trees, scalar, sequence, mapping, end, item}
use Rattle.yaml_definitions.specs.model.Same.{same, same_trees}
use Rattle.yaml_definitions.proofs.Members.{and_both}
use Rattle.yaml_store_rank.specs.Forests.{Forests, tree, IsRanked}
use Rattle.yaml_tree.specs.declared.node.NodeId.{NodeId}
use Rattle.yaml_path.specs.Path.{head, head_of, part_of, scalar_head}
use Rattle.yaml_path.specs.Path as plain
use Rattle.yaml_path.specs.Ways.{Each, Step, at_places, at_key, Way, Pairing, Takes, Differs, EndsPaired, SameItems, left_part, right_part, placed, left_place, right_place, count, count_in, turns, below}
use Rattle.yaml_path.specs.declared.places.Places.{Places}
use Rattle.yaml_path.specs.declared.places.Places.TheVariants.{Both}
use Rattle.yaml_path.proofs.PathLaws.{Match, match-head, match-part}
use Rattle.yaml_diff.specs.Lines.{tree_of, trees_of, sequence_of}
use Rattle.yaml_diff.specs.Found.{AllWithin, item_of, SameRanks, Aligns}
use Rattle.yaml_diff.proofs.Shapes.{item-there}
use Rattle.yaml_diff.proofs.WayLaws.{turn, none-part}

-- ---- items

pub item-here : (g : Forests) (tag : List ℕ) (items : List NodeId) (o : Option ℕ) → placed (sequence_of g tag items) o ≡ trees_of g (item_of items o)
item-here g tag items None = refl
item-here g tag items (Some k) = item-there (tree_of g) items k

pub item-count : (g : Forests) (tag : List ℕ) (items : List NodeId) → count (sequence_of g tag items) ≡ length items
item-count g tag [] = refl
item-count g tag (i ∷ items) = ap suc (item-count g tag items)

pub aligned-takes : (g : Forests) (tag : List ℕ) (lefts rights : List NodeId) (ps moved : List Places) → Aligns g lefts rights ps moved → Takes ps (sequence_of g tag lefts) (sequence_of g tag rights)
aligned-takes g tag lefts rights ps moved a = record {
  lefts = subst (Each left_place ps) (sym (item-count g tag lefts)) a.left;
  rights = subst (Each right_place ps) (sym (item-count g tag rights)) a.right;
}

map-some : (f : NodeId → Tree) (o : Option NodeId) (x : Tree) → option_map f o ≡ Some x → (i : NodeId) × (o ≡ Some i) × (f i ≡ x)
map-some f None x e = absurd (cc)
map-some f (Some i) x e = (i, refl, cc)

module _ (g : Forests) (are : IsRanked g) (tag : List ℕ) (lefts rights : List NodeId) (wl : AllWithin g lefts) (wr : AllWithin g rights) where
  same-items : (j k : ℕ) → SameRanks g lefts rights j k → SameItems (sequence_of g tag lefts) (sequence_of g tag rights) j k
  same-items j k s =
      (tree_of g s.0, tree_of g s.1, item-here g tag lefts (Some j) ∙ ap (trees_of g) s.2, item-here g tag rights (Some k) ∙ ap (trees_of g) s.3, (are.ranked s.0.0 s.1.0 (wl j s.0 s.2) (wr k s.1 s.3)).0.0 s.4)

  same-ranks : (j k : ℕ) → SameItems (sequence_of g tag lefts) (sequence_of g tag rights) j k → SameRanks g lefts rights j k
  same-ranks j k s =
      let x = map-some (tree_of g) (slice_get lefts j) s.0 (sym (item-here g tag lefts (Some j)) ∙ s.2) in
      let y = map-some (tree_of g) (slice_get rights k) s.1 (sym (item-here g tag rights (Some k)) ∙ s.3) in
      let e : same (tree g x.0.0) (tree g y.0.0) ≡ true = subst (λ z. same z (tree g y.0.0) ≡ true) (sym x.2) (subst (λ z. same s.0 z ≡ true) (sym y.2) s.4) in
      (x.0, y.0, x.1, y.1, (are.ranked x.0.0 y.0.0 (wl j x.0 x.1) (wr k y.0 y.1)).0.1 e)

  pub aligned-ends : (ps moved : List Places) → Aligns g lefts rights ps moved → EndsPaired ps (sequence_of g tag lefts) (sequence_of g tag rights)
  aligned-ends ps moved a = record {
    front = a.front;
    fronts = λ i l. let s = a.fronts i l in (same-items i i s.0, s.1);
    front_end = λ s. a.front_end (same-ranks a.front a.front s);
    back = a.back;
    backs = λ i j k l e f. let s = a.backs i j k l (e ∙ item-count g tag lefts) (f ∙ item-count g tag rights) in (same-items j k s.0, s.1);
    back_end = λ j k e f m n s. a.back_end j k (e ∙ item-count g tag lefts) (f ∙ item-count g tag rights) m n (same-ranks j k s);
  }

-- ---- trees that are the same, in turn

items-same : (ts us : Trees) → same_trees ts us ≡ true → count_in ts ≡ count_in us
unfolding same
items-same end end h = refl
items-same end (item u us) h = absurd (cc)
items-same (item t ts) end h = absurd (cc)
items-same (item t ts) (item u us) h = ap suc (items-same ts us (and_both (same t u) (same_trees ts us) h).1)

pub count-same : (t u : Option Tree) → Match t u → count t ≡ count u
unfolding same
count-same None None m = refl
count-same None (Some u) m = absurd m
count-same (Some t) None m = absurd m
count-same (Some t) (Some u) m = by t u m.0
  where
    by : (t u : Tree) → same t u ≡ true → count (Some t) ≡ count (Some u)
    by (scalar a x) (scalar b y) h = refl
    by (sequence a ts) (sequence b us) h = items-same ts us (and_both (bytes_eq a b) (same_trees ts us) h).1
    by (mapping a ps) (mapping b qs) h = refl
    by (scalar a x) (sequence b us) h = absurd (cc)
    by (scalar a x) (mapping b qs) h = absurd (cc)
    by (sequence a ts) (scalar b y) h = absurd (cc)
    by (sequence a ts) (mapping b qs) h = absurd (cc)
    by (mapping a ps) (scalar b y) h = absurd (cc)
    by (mapping a ps) (sequence b us) h = absurd (cc)

turns-same : (at n k : ℕ) (p : Places) → slice_get (turns at at n n) k ≡ Some p → (i : ℕ) × (p ≡ Both i i)
turns-same at zero k p e = absurd (cc)
turns-same at (suc n) zero p e = (at, cc)
turns-same at (suc n) (suc k) p e = turns-same (suc at) n k p e

pub match-turn : (q : Way) (t u : Option Tree) → Match t u → Differs (turn t u) q t u → ⊥
match-turn [] t u m d = d (match-head t u m)
match-turn (at_key x ∷ q) t u m d = match-turn q (part_of t (plain.at_key x)) (part_of u (plain.at_key x)) (match-part t u (plain.at_key x) m) d.2
match-turn (at_places p ∷ q) t u m d =
    let n = count-same t u m in
    let e : slice_get (turns 0 0 (count t) (count t)) d.1.0 ≡ Some p = subst (λ z. slice_get (turns 0 0 (count t) z) d.1.0 ≡ Some p) (sym n) d.1.1 in
    let i = turns-same 0 (count t) d.1.0 p e in
    let x = subst (λ z. Differs (turn (left_part t (at_places z)) (right_part u (at_places z))) q (left_part t (at_places z)) (right_part u (at_places z))) i.1 d.2 in
    match-turn q (part_of t (plain.at_item i.0)) (part_of u (plain.at_item i.0)) (match-part t u (plain.at_item i.0) m) x

-- ---- scalars

bare-placed : (a x : List ℕ) (o : Option ℕ) → placed (Some (scalar a x)) o ≡ None
bare-placed a x None = refl
bare-placed a x (Some k) = refl

bare-left : (a x : List ℕ) (s : Step) → left_part (Some (scalar a x)) s ≡ None
bare-left a x (at_places p) = bare-placed a x (left_place p)
bare-left a x (at_key y) = refl

bare-right : (a x : List ℕ) (s : Step) → right_part (Some (scalar a x)) s ≡ None
bare-right a x (at_places p) = bare-placed a x (right_place p)
bare-right a x (at_key y) = refl

-- scalars of one head differ nowhere
pub bare-nowhere : (t u : Tree) (a x : List ℕ) (P : Pairing) → head t ≡ scalar_head a x → head t ≡ head u → (q : Way) → Differs P q (Some t) (Some u) → ⊥
bare-nowhere t u a x P e h [] d = d (ap Some h)
bare-nowhere (scalar b y) (scalar c z) a x P e h (s ∷ q) d = none-part (below P s) q (left_part (Some (scalar b y)) s) (right_part (Some (scalar c z)) s) (bare-left b y s) (bare-right c z s) d.2
bare-nowhere (scalar b y) (sequence c us) a x P e h (s ∷ q) d = absurd (cc)
bare-nowhere (scalar b y) (mapping c qs) a x P e h (s ∷ q) d = absurd (cc)
bare-nowhere (sequence b ts) u a x P e h (s ∷ q) d = absurd (cc)
bare-nowhere (mapping b ps) u a x P e h (s ∷ q) d = absurd (cc)
