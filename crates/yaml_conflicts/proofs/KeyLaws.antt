-- Keys, and the lists of them.
use Rattle.std.proofs.Common.{◌≡◌, ℕ, zero, suc, ◌+◌, ◌<◌, true, ◌||◌, ◌⊎◌, List, [], ◌∷◌, ◌++◌, length, inl, inr, refl, sym, ◌∙◌, ap, subst, arith}
use Rattle.std.specs.Prelude.{Option, Some, None}
use Rattle.std.specs.Option.{is_some, option_map}
use Rattle.std.specs.List.{slice_get}
use Rattle.std.proofs.lemmas.Option.{slice_get_within}
use Rattle.yaml_definitions.specs.model.Tree.{Tree}
use Rattle.yaml_definitions.specs.model.Same.{Same}
use Rattle.yaml_definitions.proofs.Members.{or_either}
use Rattle.yaml_definitions.proofs.Equivalence.{same_refl, same_sym, same_trans}
use Rattle.yaml_tree.proofs.Lists.{get-more}
use Rattle.yaml_tree.specs.declared.node.NodeId.{NodeId}
use Rattle.yaml_store_rank.specs.Forests.{Forests, count, tree, entries_at, IsRanked}
use Rattle.yaml_store_rank.specs.KeyOrder.{number_pairs}
use Rattle.yaml_path.specs.Path.{at_key, part, part_of}
use Rattle.yaml_diff.specs.Lines.{tree_of, trees_of}
use Rattle.yaml_diff.specs.Found.{AllWithin}
use Rattle.yaml_diff.proofs.Shapes.{entry-below, value-some}
use Rattle.yaml_diff.proofs.ListParts.{get-side, get-nth, get-map, map-get}
use Rattle.yaml_conflicts.specs.declared.sides.Sides.{Sides}
use Rattle.yaml_conflicts.specs.Keys.{side_has, Stands, Covers, HasSide, HasKeysBelow, HasKeys, KeysWithin, Adds}

-- ---- lists of keys

some-map : {X Y : Type 0} (f : X → Y) (o : Option X) → is_some (option_map f o) ≡ is_some o
some-map f None = refl
some-map f (Some x) = refl

pub adds-none : (g : Forests) (keys : List NodeId) → AllWithin g keys → Adds g keys keys
adds-none g keys w = record { kept = λ x i. i; within = w }

-- a key is added
stands-more : (g : Forests) (keys : List NodeId) (key : NodeId) (x : Tree) → Stands g keys x → Stands g (keys ++ (key ∷ [])) x
stands-more g keys key x i = (i.0, i.1, get-more keys (key ∷ []) i.0 i.1 i.2, i.3)

pub stands-last : (g : Forests) (keys : List NodeId) (key : NodeId) → Stands g (keys ++ (key ∷ [])) (tree_of g key)
stands-last g keys key = (length keys + 0, key, get-nth keys (key ∷ []) 0, same_refl (tree_of g key))

none-there : {X : Type 0} {y : X} (j : ℕ) → slice_get [] j ≡ Some y → ⊥
none-there j e = absurd (cc)

pub adds-more : (g : Forests) (old keys : List NodeId) (key : NodeId) → key.0 < count g → Adds g old keys → Adds g old (keys ++ (key ∷ []))
adds-more g old keys key w a = record {
  kept = λ x i. stands-more g keys key x (a.kept x i);
  within = λ k y e. elim (get-side keys (key ∷ []) k y e) [
    | inl f ↦ a.within k y f
    | inr f ↦ by y f.0 f.2
  ];
}
  where
    by : (y : NodeId) (j : ℕ) → slice_get (key ∷ []) j ≡ Some y → y.0 < count g
    by y zero e = let q : key ≡ y = cc in subst (λ z. z.0 < count g) q w
    by y (suc j) e = absurd (none-there j e)

-- ---- what the keys of one side are

some-none : (o : Option Tree) → o ≡ None → is_some o ≡ true → ⊥
some-none None n e = absurd (cc)
some-none (Some v) n e = absurd (cc)

option-some : (o : Option Tree) → is_some o ≡ true → (v : Tree) × (o ≡ Some v)
option-some None e = absurd (cc)
option-some (Some v) e = (v, refl)

module _ (g : Forests) (are : IsRanked g) (i : NodeId) (l : i.0 < count g) (entries : List (NodeId × NodeId)) (is : number_pairs entries ≡ entries_at g i.0) where
  pub keys-within : KeysWithin g entries
  keys-within k p e =
      let b = entry-below g are i.0 l k (p.0.0, p.1.0) (subst (λ z. slice_get z k ≡ Some (p.0.0, p.1.0)) is (map-get (λ p. (p.0.0, p.1.0)) entries k p e)) in
      omega (arith, b.0, l)

  pub keys-side : (keys : List NodeId) → HasKeys g entries keys → HasSide g (Some i) keys
  keys-side keys p x e =
      let v = option-some (part (tree g i.0) (at_key x)) e in
      let f = value-some g are i.0 l x v.0 v.1 in
      let q = get-map (λ p. (p.0.0, p.1.0)) entries f.0 f.1 (subst (λ z. slice_get z f.0 ≡ Some f.1) (sym is) f.2) in
      let s = p f.0 q.0 (slice_get_within entries f.0 q.0 q.1) q.1 in
      let h : q.0.0.0 ≡ f.1.0 = ap (λ z. z.0) q.2 in
      (s.0, s.1, s.2, same_trans (tree_of g s.1) (tree g q.0.0.0) x s.3 (same_sym x (tree g q.0.0.0) (subst (λ z. Same x (tree g z)) (sym h) f.3)))

pub none-side : (g : Forests) (side : Option NodeId) (keys : List NodeId) → ((x : Tree) → part_of (trees_of g side) (at_key x) ≡ None) → HasSide g side keys
none-side g side keys n x e = absurd (some-none (part_of (trees_of g side) (at_key x)) (n x) e)

-- ---- what the keys of all sides are

pub covers-all : (g : Forests) (sides : Sides) (keys : List NodeId) → HasSide g sides.base keys → HasSide g sides.ours keys → HasSide g sides.theirs keys → HasSide g sides.merge keys → Covers g sides keys
covers-all g sides keys b o t m x e = elim (or_either (side_has g sides.base x) (side_has g sides.ours x || (side_has g sides.theirs x || side_has g sides.merge x)) e) [
  | inl h ↦ b x h
  | inr f ↦ elim (or_either (side_has g sides.ours x) (side_has g sides.theirs x || side_has g sides.merge x) f) [
    | inl h ↦ o x h
    | inr k ↦ elim (or_either (side_has g sides.theirs x) (side_has g sides.merge x) k) [ inl h ↦ t x h | inr h ↦ m x h ]
  ]
]

pub side-kept : (g : Forests) (side : Option NodeId) (old new : List NodeId) → Adds g old new → HasSide g side old → HasSide g side new
side-kept g side old new a h x e = a.kept x (h x e)

adds-both : (g : Forests) (old keys new : List NodeId) → Adds g old keys → Adds g keys new → Adds g old new
adds-both g old keys new a b = record { kept = λ x i. b.kept x (a.kept x i); within = b.within }

pub covers-kept : (g : Forests) (sides : Sides) (old new : List NodeId) → Adds g old new → Covers g sides old → Covers g sides new
covers-kept g sides old new a c x e = a.kept x (c x e)

-- ---- the loop over entries

pub split : (k n : ℕ) → k < n + 1 → (k < n) ⊎ (k ≡ n)
split zero zero l = inr refl
split zero (suc n) l = inl (omega arith)
split (suc k) zero l = absurd (omega arith)
split (suc k) (suc n) l = elim (split k n (omega arith)) [ inl a ↦ inl (omega arith) | inr e ↦ inr (ap suc e) ]

-- the keys of the entries before a place were added
pub record KeysAdded (g : Forests) (entries : List (NodeId × NodeId)) (old new : List NodeId) (n : ℕ) : Type 0 where
  pub adds : Adds g old new
  pub keys : HasKeysBelow g n entries new

pub keys-first : (g : Forests) (entries : List (NodeId × NodeId)) (keys : List NodeId) → AllWithin g keys → KeysAdded g entries keys keys 0
keys-first g entries keys w = record { adds = adds-none g keys w; keys = λ k p l e. absurd (omega (arith, l)) }

pub keys-next : (g : Forests) (entries : List (NodeId × NodeId)) (old keys new : List NodeId) (n : ℕ) (q : NodeId × NodeId) → slice_get entries n ≡ Some q → KeysAdded g entries old keys n → Adds g keys new → Stands g new (tree_of g q.0) → KeysAdded g entries old new (n + 1)
keys-next g entries old keys new n q is p a s = record {
  adds = adds-both g old keys new p.adds a;
  keys = λ k x l e. elim (split k n l) [
    | inl m ↦ a.kept (tree_of g x.0) (p.keys k x m e)
    | inr m ↦ let f : Some q ≡ Some x = sym is ∙ ap (slice_get entries) (sym m) ∙ e in let h : q ≡ x = cc in subst (λ z. Stands g new (tree_of g z.0)) h s
  ];
}

-- ---- one side

pub side_found : (g : Forests) (x : Option NodeId) (t : Option Tree) → trees_of g x ≡ t → is_some x ≡ is_some t
side_found g x t e = sym (some-map (tree_of g) x) ∙ ap is_some e

-- ---- all sides

abbrev pub of_four : (b o t m : Option NodeId) → Sides
of_four b o t m = record { base = b; ours = o; theirs = t; merge = m }

pub covers-of : (g : Forests) (b o t m : Option NodeId) (keys : List NodeId) → HasSide g b keys → HasSide g o keys → HasSide g t keys → HasSide g m keys → Covers g (of_four b o t m) keys
covers-of g b o t m keys hb ho ht hm = covers-all g (of_four b o t m) keys hb ho ht hm

pub none-has : (g : Forests) (keys : List NodeId) → HasSide g None keys
none-has g keys = none-side g None keys (λ x. refl)

pub no-keys : (g : Forests) (keys : List NodeId) → keys ≡ [] → AllWithin g keys
no-keys g keys e k x h = absurd (none-there k (sym (ap (λ z. slice_get z k) e) ∙ h))
