-- The walk of four trees, key by key.
use Rattle.std.proofs.Common.{◌≡◌, ℕ, zero, suc, ◌+◌, ◌<◌, ◌≤◌, Bool, true, false, ◌&&◌, ◌||◌, ◌⊎◌, List, [], ◌∷◌, ◌++◌, map, reverse, length, inl, inr, refl, sym, ◌∙◌, ap, subst, arith}
use Rattle.std.specs.Prelude.{Option, Some, None, Result, Ok, Err, IfOk}
use Rattle.std.specs.declared.alloc.AllocError.{AllocError}
use Rattle.std.specs.Option.{is_some}
use Rattle.std.specs.List.{slice_get}
use Rattle.std.proofs.lemmas.List.{reverse-append}
use Rattle.std.proofs.lemmas.Option.{slice_get_within}
use Rattle.yaml_definitions.specs.model.Tree.{Tree, scalar, sequence, mapping}
use Rattle.yaml_definitions.specs.model.Same.{same}
use Rattle.yaml_definitions.proofs.Members.{and_both}
use Rattle.yaml_definitions.proofs.Equivalence.{same_refl, same_sym, same_trans}
use Rattle.yaml_tree.proofs.Lists.{get-more}
use Rattle.yaml_tree.specs.declared.node.NodeId.{NodeId}
use Rattle.yaml_store_rank.specs.Forests.{Forests}
use Rattle.yaml_path.specs.Path.{Step, Path, AlikeStep, AlikePath, at_item, at_key, reach, part_of}
use Rattle.yaml_diff.specs.Lines.{tree_of, trees_of}
use Rattle.yaml_diff.specs.Found.{Within, size}
use Rattle.yaml_diff.proofs.ListParts.{get-side, get-nth, get-map, map-get, map-end}
use Rattle.yaml_diff.proofs.WayLaws.{part-like}
use Rattle.yaml_conflicts.specs.Merge.{settled, opens, one_shape, Breaks}
use Rattle.yaml_conflicts.proofs.RuleLaws.{true-false, opens-three}
use Rattle.yaml_conflicts.specs.declared.sides.Step as code
use Rattle.yaml_conflicts.specs.declared.sides.Step.TheVariants.{Value}
use Rattle.yaml_conflicts.specs.declared.sides.Sides.{Sides}
use Rattle.yaml_conflicts.specs.declared.sides.Room.{Room}
use Rattle.yaml_conflicts.specs.declared.sides.Found.{Found}
use Rattle.yaml_conflicts.specs.Rooms.{is_spent}
use Rattle.yaml_conflicts.specs.Found.{plain_of, path_of, Finds, Spends, lines_of, Line, under, IsTold, Listed, Lists, ValuesAre, IsBelow, SidesBelow, SidesWithin}
use Rattle.yaml_conflicts.specs.Keys.{side_has, has_value, Covers}
use Rattle.yaml_conflicts.proofs.KeyLaws.{split}

no-line : {X : Type 0} {x : X} (k : ℕ) → slice_get [] k ≡ Some x → ⊥
no-line k e = absurd (cc)

-- ---- paths

step-self : (s : Step) → AlikeStep s s
step-self (at_item k) = refl
step-self (at_key x) = same_refl x

path-under : (g : Forests) (s : code.Step) (d : Line) → path_of g (under s d).0 ≡ plain_of g s ∷ path_of g d.0
path-under g s d = ap reverse (map-end (plain_of g) d.0 s) ∙ reverse-append (map (plain_of g) d.0) (plain_of g s ∷ [])

alike-key : (p q : Path) (x y : Tree) → same x y ≡ true → AlikePath p (at_key x ∷ q) → AlikePath p (at_key y ∷ q)
alike-key (at_key z ∷ p) q x y e a = (same_trans z x y a.0 e, a.1)
alike-key (at_item k ∷ p) q x y e a = absurd a.0
alike-key [] q x y e a = absurd a

listed-key : (g : Forests) (lines : List Line) (q : Path) (x y : Tree) → same x y ≡ true → Listed g (at_key x ∷ q) lines → Listed g (at_key y ∷ q) lines
listed-key g lines q x y e l = (l.0, l.1, l.2, alike-key (path_of g l.1.0) q x y e l.3)

-- ---- lists

module _ (g : Forests) (IsOne : Path → Type 0) (b o t m : Option Tree) where
  pub none-lists : (lines : List Line) (w : Bool) → lines ≡ [] → (w ≡ true → (p : Path) → IsOne p → ⊥) → Lists g IsOne b o t m lines w
  none-lists lines w e n = record {
    each = λ k d h. absurd (no-line k (sym (ap (λ z. slice_get z k) e) ∙ h));
    whole = λ p q x. absurd (n p q x);
  }

  -- the same as far as some steps go
  pub record ListsSome (Taken : Step → Type 0) (lines : List Line) (is_whole : Bool) : Type 0 where
    pub each : (k : ℕ) (d : Line) → slice_get lines k ≡ Some d → IsTold g IsOne b o t m d
    pub whole : is_whole ≡ true → (s : Step) (q : Path) → Taken s → IsOne (s ∷ q) → Listed g (s ∷ q) lines

  pub some-first : (Taken : Step → Type 0) (lines : List Line) (w : Bool) → lines ≡ [] → ((s : Step) → Taken s → ⊥) → ListsSome Taken lines w
  some-first Taken lines w e n = record {
    each = λ k d h. absurd (no-line k (sym (ap (λ z. slice_get z k) e) ∙ h));
    whole = λ p s q i x. absurd (n s i);
  }

  -- what is found behind one more step is added
  pub some-next : (IsPart : Path → Type 0) (Old New : Step → Type 0) (x : code.Step) → ((q : Path) → IsPart q → IsOne (plain_of g x ∷ q)) → ((s : Step) (q : Path) → New s → IsOne (s ∷ q) → Old s ⊎ ((s ≡ plain_of g x) × IsPart q))
      → (lines more all : List Line) (w v u : Bool) → ListsSome Old lines w → Lists g IsPart (part_of b (plain_of g x)) (part_of o (plain_of g x)) (part_of t (plain_of g x)) (part_of m (plain_of g x)) more v → all ≡ lines ++ map (under x) more → u ≡ (w && v) → ListsSome New all u
  some-next IsPart Old New x up down lines more all w v u l k ea eu = subst (λ z. ListsSome New z u) (sym ea) (subst (ListsSome New (lines ++ map (under x) more)) (sym eu) (record {
    each = λ i d h. elim (get-side lines (map (under x) more) i d h) [
      | inl a ↦ l.each i d a
      | inr a ↦ let y = get-map (under x) more a.0 d a.2 in subst (IsTold g IsOne b o t m) y.2 (told y.0 (k.each a.0 y.0 y.1))
    ];
    whole = λ p s q i y. let c = and_both w v p in elim (down s q i y) [
      | inl j ↦ let r = l.whole c.0 s q j y in (r.0, r.1, get-more lines (map (under x) more) r.0 r.1 r.2, r.3)
      | inr j ↦ subst (λ z. Listed g (z ∷ q) (lines ++ map (under x) more)) (sym j.0) (last q (k.whole c.1 q j.1))
    ];
  }))
    where
      told : (d : Line) → IsTold g IsPart (part_of b (plain_of g x)) (part_of o (plain_of g x)) (part_of t (plain_of g x)) (part_of m (plain_of g x)) d → IsTold g IsOne b o t m (under x d)
      told d y = record {
        is = subst IsOne (sym (path-under g x d)) (up (path_of g d.0) y.is);
        base = ap (reach b) (path-under g x d) ∙ y.base;
        ours = ap (reach o) (path-under g x d) ∙ y.ours;
        theirs = ap (reach t) (path-under g x d) ∙ y.theirs;
        merge = ap (reach m) (path-under g x d) ∙ y.merge;
      }

      last : (q : Path) → Listed g q more → Listed g (plain_of g x ∷ q) (lines ++ map (under x) more)
      last q r = (length lines + r.0, under x r.1, get-nth lines (map (under x) more) r.0 ∙ map-get (under x) more r.0 r.1 r.2, subst (λ s. AlikePath s (plain_of g x ∷ q)) (sym (path-under g x r.1)) (step-self (plain_of g x), r.3))

pub one-lists : (g : Forests) (IsOne : Path → Type 0) (s : Sides) (lines : List Line) (w : Bool) → lines ≡ ([], s) ∷ [] → IsOne [] → ((p : Path) → IsOne p → p ≡ []) → Lists g IsOne (trees_of g s.base) (trees_of g s.ours) (trees_of g s.theirs) (trees_of g s.merge) lines w
one-lists g IsOne s lines w e i n = subst (λ z. Lists g IsOne (trees_of g s.base) (trees_of g s.ours) (trees_of g s.theirs) (trees_of g s.merge) z w) (sym e) (record {
  each = λ k d h. by k d h;
  whole = λ p q x. at q (n q x);
})
  where
    told : IsTold g IsOne (trees_of g s.base) (trees_of g s.ours) (trees_of g s.theirs) (trees_of g s.merge) ([], s)
    told = record { is = i; base = refl; ours = refl; theirs = refl; merge = refl }

    by : (k : ℕ) (d : Line) → slice_get (([], s) ∷ []) k ≡ Some d → IsTold g IsOne (trees_of g s.base) (trees_of g s.ours) (trees_of g s.theirs) (trees_of g s.merge) d
    by zero d h = let q : ([], s) ≡ d = cc in subst (IsTold g IsOne (trees_of g s.base) (trees_of g s.ours) (trees_of g s.theirs) (trees_of g s.merge)) q told
    by (suc k) d h = absurd (no-line k h)

    at : (q : Path) → q ≡ [] → Listed g q (([], s) ∷ [])
    at q e = (0, ([], s), refl, subst (λ z. AlikePath [] z) (sym e) tt)

-- ---- what is not there

pub nothing-breaks : (given : Bool) (q : Path) → Breaks given q None None None None → ⊥
nothing-breaks true [] x = true-false refl x.0
nothing-breaks false [] x = true-false refl x.0
nothing-breaks true (s ∷ q) x = true-false refl x.0
nothing-breaks false (s ∷ q) x = true-false refl x.0

breaks-like : (given : Bool) (q : Path) (b o t m c p u n : Option Tree) → b ≡ c → o ≡ p → t ≡ u → m ≡ n → Breaks given q b o t m → Breaks given q c p u n
breaks-like given q b o t m c p u n e f h i x = subst (λ z. Breaks given q z p u n) e (subst (λ z. Breaks given q b z u n) f (subst (λ z. Breaks given q b o z n) h (subst (λ z. Breaks given q b o t z) i x)))

pub none-breaks : (given : Bool) (q : Path) (b o t m : Option Tree) → b ≡ None → o ≡ None → t ≡ None → m ≡ None → Breaks given q b o t m → ⊥
none-breaks given q b o t m e f h i x = nothing-breaks given q (breaks-like given q b o t m None None None None e f h i x)

none-of : (o : Option Tree) → is_some o ≡ false → o ≡ None
none-of None e = refl
none-of (Some v) e = absurd (cc)

or-none : (a b : Bool) → (a || b) ≡ false → (a ≡ false) × (b ≡ false)
or-none true b e = absurd (cc)
or-none false b e = (refl, e)

-- mappings have no items
shape-items : (t u : Option Tree) → one_shape t u ≡ true → (k : ℕ) → (part_of t (at_item k) ≡ None) × (part_of u (at_item k) ≡ None)
shape-items (Some (mapping a ps)) (Some (mapping c qs)) e k = (refl, refl)
shape-items None u e k = absurd (cc)
shape-items (Some (scalar a x)) u e k = absurd (cc)
shape-items (Some (sequence a ts)) u e k = absurd (cc)
shape-items (Some (mapping a ps)) None e k = absurd (cc)
shape-items (Some (mapping a ps)) (Some (scalar c x)) e k = absurd (cc)
shape-items (Some (mapping a ps)) (Some (sequence c us)) e k = absurd (cc)

key-like : (t : Option Tree) (x y : Tree) → same x y ≡ true → part_of t (at_key x) ≡ part_of t (at_key y)
key-like None x y e = refl
key-like (Some t) x y e = part-like t x y e

pub and-either : (a b : Bool) → (a && b) ≡ false → (a ≡ false) ⊎ (b ≡ false)
and-either true b e = inr e
and-either false b e = inl refl

-- ---- keys one after another

-- the step leads to one of the first so many keys
abbrev pub TakenKey : Forests → List NodeId → ℕ → Step → Type 0
TakenKey g keys n s = (k : ℕ) × (key : NodeId) × (k < n) × (slice_get keys k ≡ Some key) × (s ≡ at_key (tree_of g key))

some-is : {X : Type 0} {x y : X} → Some x ≡ Some y → x ≡ y
some-is e = cc

-- the paths of `Breaks` in the trees of these nodes
abbrev pub BreaksIn : Forests → Bool → Sides → Path → Type 0
BreaksIn g given s p = Breaks given p (trees_of g s.base) (trees_of g s.ours) (trees_of g s.theirs) (trees_of g s.merge)

module _ (g : Forests) (given : Bool) (s : Sides) where
  abbrev pub base-tree : Option Tree
  base-tree = trees_of g s.base

  abbrev pub our-tree : Option Tree
  our-tree = trees_of g s.ours

  abbrev pub their-tree : Option Tree
  their-tree = trees_of g s.theirs

  abbrev pub merge-tree : Option Tree
  merge-tree = trees_of g s.merge

  abbrev pub IsHere : Path → Type 0
  IsHere p = BreaksIn g given s p

  -- what is found behind the first so many keys, and where not all is, the room is spent
  pub record Walked (keys : List NodeId) (n : ℕ) (f : Found) : Type 0 where
    pub lists : ListsSome g IsHere base-tree our-tree their-tree merge-tree (TakenKey g keys n) (lines_of f) f.whole
    pub cut : f.whole ≡ false → is_spent f.room ≡ true

  pub walked-first : (keys : List NodeId) (f : Found) → lines_of f ≡ [] → f.whole ≡ true → Walked keys 0 f
  walked-first keys f e w = record {
    lists = some-first g IsHere base-tree our-tree their-tree merge-tree (TakenKey g keys 0) (lines_of f) f.whole e (λ s i. absurd (omega (arith, i.2)));
    cut = λ x. absurd (true-false w x);
  }

  pub walked-next : (values : Sides) (keys : List NodeId) (n : ℕ) (key : NodeId) (old more new : Found) → settled given base-tree our-tree their-tree merge-tree ≡ false → opens base-tree our-tree their-tree merge-tree ≡ true → slice_get keys n ≡ Some key → Walked keys n old → ValuesAre g (tree_of g key) s values → Finds g given values more
      → Spends old.room more → lines_of new ≡ lines_of old ++ map (under (Value key)) (lines_of more) → new.room ≡ more.room → new.whole ≡ (old.whole && more.whole) → Walked keys (n + 1) new
  walked-next values keys n key old more new f e is w p l u el er ew = record {
    lists = some-next g IsHere base-tree our-tree their-tree merge-tree (BreaksIn g given values) (TakenKey g keys n) (TakenKey g keys (n + 1)) (Value key) (λ q x. (f, e, up q x)) down (lines_of old) (lines_of more) (lines_of new) old.whole more.whole new.whole w.lists parts el ew;
    cut = λ y. ap is_spent er ∙ elim (and-either old.whole more.whole (sym ew ∙ y)) [ inl a ↦ u.stays (w.cut a) | inr a ↦ u.cut a ];
  }
    where
      x : Step
      x = at_key (tree_of g key)

      up : (q : Path) → BreaksIn g given values q → Breaks given q (part_of base-tree x) (part_of our-tree x) (part_of their-tree x) (part_of merge-tree x)
      up q y = breaks-like given q (trees_of g values.base) (trees_of g values.ours) (trees_of g values.theirs) (trees_of g values.merge) (part_of base-tree x) (part_of our-tree x) (part_of their-tree x) (part_of merge-tree x) p.base p.ours p.theirs p.merge y

      back : (q : Path) → Breaks given q (part_of base-tree x) (part_of our-tree x) (part_of their-tree x) (part_of merge-tree x) → BreaksIn g given values q
      back q y = breaks-like given q (part_of base-tree x) (part_of our-tree x) (part_of their-tree x) (part_of merge-tree x) (trees_of g values.base) (trees_of g values.ours) (trees_of g values.theirs) (trees_of g values.merge) (sym p.base) (sym p.ours) (sym p.theirs) (sym p.merge) y

      same-step : (k : ℕ) (y : NodeId) → slice_get keys k ≡ Some y → k ≡ n → y ≡ key
      same-step k y h j = some-is (sym h ∙ ap (slice_get keys) j ∙ is)

      down : (r : Step) (q : Path) → TakenKey g keys (n + 1) r → IsHere (r ∷ q) → TakenKey g keys n r ⊎ ((r ≡ x) × BreaksIn g given values q)
      down r q i y = elim (split i.0 n i.2) [
        | inl j ↦ inl (i.0, i.1, j, i.3, i.4)
        | inr j ↦
            let h : r ≡ x = i.4 ∙ ap (λ z. at_key (tree_of g z)) (same-step i.0 i.1 i.3 j) in
            inr (h, back q (subst (λ z. Breaks given q (part_of base-tree z) (part_of our-tree z) (part_of their-tree z) (part_of merge-tree z)) h y.2))
      ]

      parts : Lists g (BreaksIn g given values) (part_of base-tree x) (part_of our-tree x) (part_of their-tree x) (part_of merge-tree x) (lines_of more) more.whole
      parts =
          subst (λ z. Lists g (BreaksIn g given values) z (part_of our-tree x) (part_of their-tree x) (part_of merge-tree x) (lines_of more) more.whole) p.base
          (subst (λ z. Lists g (BreaksIn g given values) (trees_of g values.base) z (part_of their-tree x) (part_of merge-tree x) (lines_of more) more.whole) p.ours
          (subst (λ z. Lists g (BreaksIn g given values) (trees_of g values.base) (trees_of g values.ours) z (part_of merge-tree x) (lines_of more) more.whole) p.theirs
          (subst (λ z. Lists g (BreaksIn g given values) (trees_of g values.base) (trees_of g values.ours) (trees_of g values.theirs) z (lines_of more) more.whole) p.merge l)))

  pub walked-done : (keys : List NodeId) (n : ℕ) (f : Found) → opens base-tree our-tree their-tree merge-tree ≡ true → length keys ≤ n → Covers g s keys → Walked keys n f → Finds g given s f
  walked-done keys n f e a c w = record {
    each = w.lists.each;
    whole = λ p q x. by p q x;
  }
    where
      three : (one_shape base-tree our-tree ≡ true) × (one_shape base-tree their-tree ≡ true) × (one_shape base-tree merge-tree ≡ true)
      three = opens-three base-tree our-tree their-tree merge-tree e

      at : f.whole ≡ true → (x : Tree) (q : Path) → IsHere (at_key x ∷ q) → (h : Bool) → has_value g s x ≡ h → Listed g (at_key x ∷ q) (lines_of f)
      at p x q y true h =
          let i = c x h in
          let z = tree_of g i.1 in
          let j = same_sym z x i.3 in
          let l = slice_get_within keys i.0 i.1 i.2 in
          let k = breaks-like given q (part_of base-tree (at_key x)) (part_of our-tree (at_key x)) (part_of their-tree (at_key x)) (part_of merge-tree (at_key x)) (part_of base-tree (at_key z)) (part_of our-tree (at_key z)) (part_of their-tree (at_key z)) (part_of merge-tree (at_key z)) (key-like base-tree x z j) (key-like our-tree x z j) (key-like their-tree x z j) (key-like merge-tree x z j) y.2 in
          listed-key g (lines_of f) q z x i.3 (w.lists.whole p (at_key z) q (i.0, i.1, omega (arith, a, l), i.2, refl) (y.0, y.1, k))
      at p x q y false h =
          let i = or-none (side_has g s.base x) (side_has g s.ours x || (side_has g s.theirs x || side_has g s.merge x)) h in
          let j = or-none (side_has g s.ours x) (side_has g s.theirs x || side_has g s.merge x) i.1 in
          let k = or-none (side_has g s.theirs x) (side_has g s.merge x) j.1 in
          absurd (none-breaks given q (part_of base-tree (at_key x)) (part_of our-tree (at_key x)) (part_of their-tree (at_key x)) (part_of merge-tree (at_key x)) (none-of (part_of base-tree (at_key x)) i.0) (none-of (part_of our-tree (at_key x)) j.0) (none-of (part_of their-tree (at_key x)) k.0) (none-of (part_of merge-tree (at_key x)) k.1) y.2)

      by : f.whole ≡ true → (q : Path) → IsHere q → Listed g q (lines_of f)
      by p [] x = absurd (true-false e x.1)
      by p (at_key y ∷ q) x = at p y q x (has_value g s y) refl
      by p (at_item k ∷ q) x =
          let i = shape-items base-tree our-tree three.0 k in
          absurd (none-breaks given q (part_of base-tree (at_item k)) (part_of our-tree (at_item k)) (part_of their-tree (at_item k)) (part_of merge-tree (at_item k)) i.0 i.1 (shape-items base-tree their-tree three.1 k).1 (shape-items base-tree merge-tree three.2 k).1 x.2)

  -- ---- where nothing is opened

  pub settled-found : (f : Found) → lines_of f ≡ [] → settled given base-tree our-tree their-tree merge-tree ≡ true → Finds g given s f
  settled-found f e h = none-lists g IsHere base-tree our-tree their-tree merge-tree (lines_of f) f.whole e (λ w p x. no p x)
    where
      no : (p : Path) → IsHere p → ⊥
      no [] x = true-false h x.0
      no (r ∷ q) x = true-false h x.0

  pub cut-found : (f : Found) → lines_of f ≡ [] → f.whole ≡ false → Finds g given s f
  cut-found f e h = none-lists g IsHere base-tree our-tree their-tree merge-tree (lines_of f) f.whole e (λ w p x. true-false w h)

  pub one-found : (answer : Result Found AllocError) → IfOk answer (λ f. lines_of f ≡ ([], s) ∷ []) → settled given base-tree our-tree their-tree merge-tree ≡ false → opens base-tree our-tree their-tree merge-tree ≡ false → IfOk answer (Finds g given s)
  one-found (Ok f) e h n = one-lists g IsHere s (lines_of f) f.whole e (h, n) no
    where
      no : (p : Path) → IsHere p → p ≡ []
      no [] x = refl
      no (r ∷ q) x = absurd (true-false x.1 n)
  one-found (Err x) e h n = tt

-- ---- room

pub spends-some : (room : Room) (f : Found) → is_spent room ≡ false → (f.whole ≡ false → is_spent f.room ≡ true) → Spends room f
spends-some room f n c = record { cut = c; stays = λ e. absurd (true-false e n) }

pub none-spends : (room : Room) (f : Found) → f.room ≡ room → f.whole ≡ true → Spends room f
none-spends room f e w = record { cut = λ x. absurd (true-false w x); stays = λ x. ap is_spent e ∙ x }

pub cut-spends : (room : Room) (f : Found) → f.room ≡ room → is_spent room ≡ true → Spends room f
cut-spends room f e h = record { cut = λ x. ap is_spent e ∙ h; stays = λ x. ap is_spent e ∙ h }

pub one-spends : (room : Room) (answer : Result Found AllocError) → IfOk answer (λ f. f.whole ≡ true) → is_spent room ≡ false → IfOk answer (Spends room)
one-spends room (Ok f) w n = spends-some room f n (λ x. absurd (true-false w x))
one-spends room (Err x) w n = tt

-- ---- the walk goes down

pub below-within : (g : Forests) (p n : Option NodeId) → IsBelow p n → Within g n → Within g p
below-within g None n b w = tt
below-within g (Some i) None b w = absurd b
below-within g (Some i) (Some j) b w = omega (arith, b, w)

pub parts-within : (g : Forests) (s parts : Sides) → SidesBelow parts s → SidesWithin g s → SidesWithin g parts
parts-within g s parts b w = record {
  base = below-within g parts.base s.base b.base w.base;
  ours = below-within g parts.ours s.ours b.ours w.ours;
  theirs = below-within g parts.theirs s.theirs b.theirs w.theirs;
  merge = below-within g parts.merge s.merge b.merge w.merge;
}

abbrev pub total : Sides → ℕ
total s = size s.base + (size s.ours + (size s.theirs + size s.merge))

below-size : (p n : Option NodeId) → IsBelow p n → size p ≤ size n
below-size None n b = omega arith
below-size (Some i) None b = absurd b
below-size (Some i) (Some j) b = omega (arith, b)

below-less : (p : Option NodeId) (j : NodeId) → IsBelow p (Some j) → size p < size (Some j)
below-less None j b = omega arith
below-less (Some i) j b = omega (arith, b)

shape-there : (g : Forests) (n : Option NodeId) (t : Option Tree) → one_shape (trees_of g n) t ≡ true → (p : Option NodeId) → IsBelow p n → size p < size n
shape-there g None t e p b = absurd (none-shape t e)
  where
    none-shape : (t : Option Tree) → one_shape None t ≡ true → ⊥
    none-shape None e = absurd (cc)
    none-shape (Some u) e = absurd (cc)
shape-there g (Some j) t e p b = below-less p j b

pub total-less : (g : Forests) (s parts : Sides) → opens (trees_of g s.base) (trees_of g s.ours) (trees_of g s.theirs) (trees_of g s.merge) ≡ true → SidesBelow parts s → total parts < total s
total-less g s parts e b =
    let x = shape-there g s.base (trees_of g s.ours) (opens-three (trees_of g s.base) (trees_of g s.ours) (trees_of g s.theirs) (trees_of g s.merge) e).0 parts.base b.base in
    let y = below-size parts.ours s.ours b.ours in
    let z = below-size parts.theirs s.theirs b.theirs in
    let w = below-size parts.merge s.merge b.merge in
    omega (arith, x, y, z, w)
