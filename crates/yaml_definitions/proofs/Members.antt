-- Pairs as sets, and the one list in strict order of keys that has given members.
use Rattle.std.proofs.Common.{◌≡◌, Bool, true, false, ◌&&◌, ◌||◌, cond, ◌⊎◌, inl, inr, refl, sym, ◌∙◌, ap, subst}
use Rattle.std.specs.declared.cmp.Ordering.{Ordering}
use Rattle.std.specs.declared.cmp.Ordering.TheVariants.{Less, Equal, Greater}
use Rattle.std.specs.Ordering.{ordering_reverse, is_gt}
use Rattle.yaml_definitions.specs.model.Tree.{Tree, Pairs, done, entry}
use Rattle.yaml_definitions.specs.model.Order.{tree_cmp, enter}
use Rattle.yaml_definitions.specs.model.Same.{all_pairs, any_pair}
use Rattle.yaml_definitions.proofs.OrderLaws.{tree_cmp-total, tree_same}

pub and_both : (a b : Bool) → (a && b) ≡ true → (a ≡ true) × (b ≡ true)
and_both true b h = (refl, h)
and_both false b h = (h, cc)

pub both_and : (a b : Bool) → a ≡ true → b ≡ true → (a && b) ≡ true
both_and a b h k = rw h k

pub or_either : (a b : Bool) → (a || b) ≡ true → (a ≡ true) ⊎ (b ≡ true)
or_either true b h = inl refl
or_either false b h = inr h

pub or_left : (a b : Bool) → a ≡ true → (a || b) ≡ true
or_left a b h = rw h

pub or_right : (a b : Bool) → b ≡ true → (a || b) ≡ true
or_right true b h = refl
or_right false b h = h

abbrev pub In : Tree → Tree → Pairs → Type 0
In k v done = ⊥
In k v (entry j w ps) = ((k ≡ j) × (v ≡ w)) ⊎ In k v ps

-- some pair of ps passes f
abbrev pub Some_In : (Tree → Tree → Type 0) → Pairs → Type 0
Some_In P ps = (k : Tree) × (v : Tree) × In k v ps × P k v

pub any_in : (f : Tree → Tree → Bool) (ps : Pairs) → any_pair f ps ≡ true → Some_In (λ k v. f k v ≡ true) ps
any_in f done h = absurd (cc)
any_in f (entry k v ps) h = elim (or_either (f k v) (any_pair f ps) h) [ inl e ↦ (k, v, inl (refl, refl), e) | inr e ↦ let r = any_in f ps e in (r.0, r.1, inr r.2, r.3) ]

pub in_any : (f : Tree → Tree → Bool) (k v : Tree) (ps : Pairs) → In k v ps → f k v ≡ true → any_pair f ps ≡ true
in_any f k v done i h = absurd i
in_any f k v (entry j w ps) (inl e) h = or_left (f j w) (any_pair f ps) (subst (λ x. f x w ≡ true) e.0 (subst (λ y. f k y ≡ true) e.1 h))
in_any f k v (entry j w ps) (inr i) h = or_right (f j w) (any_pair f ps) (in_any f k v ps i h)

pub all_in : (f : Tree → Tree → Bool) (k v : Tree) (ps : Pairs) → all_pairs f ps ≡ true → In k v ps → f k v ≡ true
all_in f k v done h i = absurd i
all_in f k v (entry j w ps) h (inl e) = let a = and_both (f j w) (all_pairs f ps) h in rw (e.0, e.1) a.0
all_in f k v (entry j w ps) h (inr i) = all_in f k v ps (and_both (f j w) (all_pairs f ps) h).1 i

pub in_all : (f : Tree → Tree → Bool) (ps : Pairs) → ((k v : Tree) → In k v ps → f k v ≡ true) → all_pairs f ps ≡ true
in_all f done h = refl
in_all f (entry j w ps) h = both_and (f j w) (all_pairs f ps) (h j w (inl (refl, refl))) (in_all f ps (λ k v i. h k v (inr i)))

-- ---- what `enter` adds

pub in_enter : (k v x y : Tree) (ps : Pairs) → In x y (enter k v ps) → In x y (entry k v ps)
in_enter k v x y done i = i
in_enter k v x y (entry j w ps) i = by (is_gt (tree_cmp k j)) (λ h. in_enter k v x y ps h) i
  where
    by : (b : Bool) → (In x y (enter k v ps) → In x y (entry k v ps)) → In x y (cond b (entry j w (enter k v ps)) (entry k v (entry j w ps))) → In x y (entry k v (entry j w ps))
    by true f (inl e) = inr (inl e)
    by true f (inr h) = elim (f h) [ inl e ↦ inl e | inr h ↦ inr (inr h) ]
    by false f h = h

pub enter_in : (k v x y : Tree) (ps : Pairs) → In x y (entry k v ps) → In x y (enter k v ps)
enter_in k v x y done i = i
enter_in k v x y (entry j w ps) i = by (is_gt (tree_cmp k j)) (λ h. enter_in k v x y ps h) i
  where
    by : (b : Bool) → (In x y (entry k v ps) → In x y (enter k v ps)) → In x y (entry k v (entry j w ps)) → In x y (cond b (entry j w (enter k v ps)) (entry k v (entry j w ps)))
    by true f (inl e) = inr (f (inl e))
    by true f (inr (inl e)) = inl e
    by true f (inr (inr h)) = inr (f (inr h))
    by false f h = h

-- ---- strict order of keys

abbrev pub Above : Tree → Pairs → Type 0
Above k ps = (j w : Tree) → In j w ps → tree_cmp k j ≡ Less

abbrev pub Sorted : Pairs → Type 0
Sorted done = Unit {0}
Sorted (entry k v ps) = Above k ps × Sorted ps

turned : (r : Ordering) → is_gt r ≡ true → ordering_reverse r ≡ Less
turned Less h = cc
turned Equal h = cc
turned Greater h = refl

less : (r : Ordering) → is_gt r ≡ false → (r ≡ Equal → ⊥) → r ≡ Less
less Less h n = refl
less Equal h n = absurd (n refl)
less Greater h n = cc

pub not_below_itself : (k : Tree) → tree_cmp k k ≡ Less → ⊥
not_below_itself k h = let e : Less ≡ Greater = sym h ∙ (tree_cmp-total.antisymm k k ∙ ap ordering_reverse h) in cc

pub not_both_ways : (k j : Tree) → tree_cmp k j ≡ Less → tree_cmp j k ≡ Less → ⊥
not_both_ways k j h g = not_below_itself k (tree_cmp-total.trans k j k h g)

pub enter_sorted : (k v : Tree) (ps : Pairs) → Sorted ps → ((j w : Tree) → In j w ps → k ≡ j → ⊥) → Sorted (enter k v ps)
enter_sorted k v done s n = (λ j w i. absurd i, tt)
enter_sorted k v (entry j w ps) s n = by (is_gt (tree_cmp k j)) refl (enter_sorted k v ps s.1 (λ x y i. n x y (inr i)))
  where
    by : (b : Bool) → is_gt (tree_cmp k j) ≡ b → Sorted (enter k v ps) → Sorted (cond b (entry j w (enter k v ps)) (entry k v (entry j w ps)))
    by true e r =
        let l : tree_cmp j k ≡ Less = tree_cmp-total.antisymm j k ∙ turned (tree_cmp k j) e in
        let a : Above j (enter k v ps) = λ x y i. elim (in_enter k v x y ps i) [ inl q ↦ subst (λ z. tree_cmp j z ≡ Less) (sym q.0) l | inr h ↦ s.0 x y h ] in
        (a, r)
    by false e r =
        let l : tree_cmp k j ≡ Less = less (tree_cmp k j) e (λ q. n j w (inl (refl, refl)) (tree_same k j q)) in
        let a : Above k (entry j w ps) = λ x y i. elim i [ inl q ↦ subst (λ z. tree_cmp k z ≡ Less) (sym q.0) l | inr h ↦ tree_cmp-total.trans k j x l (s.0 x y h) ] in
        (a, s)

pub sorted_one : (ps qs : Pairs) → Sorted ps → Sorted qs → ((k v : Tree) → In k v ps → In k v qs) → ((k v : Tree) → In k v qs → In k v ps) → ps ≡ qs
sorted_one done done s r f g = refl
sorted_one done (entry j w qs) s r f g = absurd (g j w (inl (refl, refl)))
sorted_one (entry k v ps) done s r f g = absurd (f k v (inl (refl, refl)))
sorted_one (entry k v ps) (entry j w qs) s r f g = by (λ a b. sorted_one ps qs s.1 r.1 a b) (f k v (inl (refl, refl))) (g j w (inl (refl, refl)))
  where
    rest : (k ≡ j) × (v ≡ w) → ps ≡ qs → entry k v ps ≡ entry j w qs
    rest e h = let a = e.0 in let b = e.1 in cc

    tail : k ≡ j → (x y : Tree) → In x y ps → In x y (entry j w qs) → In x y qs
    tail e x y i (inr h) = h
    tail e x y i (inl q) = absurd (not_below_itself k (subst (λ z. tree_cmp k z ≡ Less) (q.0 ∙ sym e) (s.0 x y i)))

    back : k ≡ j → (x y : Tree) → In x y qs → In x y (entry k v ps) → In x y ps
    back e x y i (inr h) = h
    back e x y i (inl q) = absurd (not_below_itself j (subst (λ z. tree_cmp j z ≡ Less) (q.0 ∙ e) (r.0 x y i)))

    by : (((x y : Tree) → In x y ps → In x y qs) → ((x y : Tree) → In x y qs → In x y ps) → ps ≡ qs) → In k v (entry j w qs) → In j w (entry k v ps) → entry k v ps ≡ entry j w qs
    by m (inl e) h = rest e (m (λ x y i. tail e.0 x y i (f x y (inr i))) (λ x y i. back e.0 x y i (g x y (inr i))))
    by m (inr h) (inl e) = absurd (not_below_itself j (subst (λ z. tree_cmp j z ≡ Less) (sym e.0) (r.0 k v h)))
    by m (inr h) (inr i) = absurd (not_both_ways k j (s.0 j w i) (r.0 k v h))
