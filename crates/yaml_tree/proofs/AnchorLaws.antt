-- Names of anchors and the places where they stand.
use Rattle.std.proofs.Common.{Global, Ordering, inl, inr, ◌≡◌, ℕ, zero, suc, Bool, true, false, cond, bytes_eq, List, [], ◌∷◌, ◌++◌, length, set, refl, sym, ◌∙◌, ap, subst}
use Rattle.std.specs.Prelude.{Option, None, Some}
use Rattle.std.specs.List.{slice_get}
use Rattle.std.specs.Option.{option_map}
use Rattle.std.specs.Cow.{cow_str_bytes}
use Rattle.std.specs.BTreeMap.{UpdatesBy}
use Rattle.std.specs.Map.{KeepsOthers, AreApart, lookup}
use Rattle.std.specs.Cmp.{eq_by_cmp_equiv}
use Rattle.std.specs.Cmp.Lexicographic.{slice_cmp, bytes_decides, nat_list_cmp_total, nat_list_eq_equiv}
use Rattle.std.specs.declared.borrow.CowStr.{CowStr}
use Rattle.std.specs.Ordering.{nat_cmp, is_eq, eq_by_cmp}
use Rattle.std.proofs.lemmas.List.{map-append, length-map}
use Rattle.std.proofs.lemmas.Map.Text.{is_eq-slice_cmp}
use Rattle.std.proofs.lemmas.Bool.{cases_Bool, cond-true, cond-false}
use Rattle.yaml_definitions.specs.model.Tree.{Tree}
use Rattle.yaml_definitions.specs.model.Event.{Anchor}
use Rattle.yaml_definitions.specs.model.Unfold.{Table, or_else, closed, last_named}
use Rattle.yaml_tree.proofs.Lists.{get-more, get-end}
use Rattle.yaml_tree.specs.Anchors.{Names, place_named, last_place, names_of, Placed}

-- ---- the last place of a name

push-cases : (b : Bool) (n : ℕ) (p z : Option ℕ) → or_else (option_map suc (cond b (Some n) p)) z ≡ cond b (Some (suc n)) (or_else (option_map suc p) z)
push-cases true n p z = refl
push-cases false n p z = refl

place-push : (name : List ℕ) (xs : List (List ℕ)) (y : List ℕ) → last_place name (xs ++ (y ∷ [])) ≡ cond (bytes_eq y name) (Some (length xs)) (last_place name xs)
unfolding last_place
place-push name [] y = refl
place-push name (x ∷ xs) y =
    ap (λ p. or_else (option_map suc p) (cond (bytes_eq x name) (Some 0) None)) (place-push name xs y) ∙ push-cases (bytes_eq y name) (length xs) (last_place name xs) (cond (bytes_eq x name) (Some 0) None)

names-push : (table : Table) (name : List ℕ) (o : Option Tree) → names_of (table ++ ((name, o) ∷ [])) ≡ names_of table ++ (name ∷ [])
names-push table name o = map-append (λ o. o.0) table ((name, o) ∷ [])

pub names-length : (table : Table) → length (names_of table) ≡ length table
names-length table = length-map table (λ o. o.0)

-- ---- the map of names

abbrev pub order : CowStr Global → CowStr Global → Ordering
order x y = slice_cmp nat_cmp (cow_str_bytes x) (cow_str_bytes y)

abbrev pub at_name : List ℕ → CowStr Global → Bool
at_name name k = is_eq (slice_cmp nat_cmp name (cow_str_bytes k))

apart : (name x : List ℕ) → bytes_eq name x ≡ false → AreApart (at_name name) (at_name x)
apart name x n k y =
    is_eq-slice_cmp x (cow_str_bytes k)
    ∙ (nat_list_eq_equiv.symm x (cow_str_bytes k)
    ∙ (sym (nat_list_eq_equiv.congr name (cow_str_bytes k) x (sym (is_eq-slice_cmp name (cow_str_bytes k)) ∙ y)) ∙ n))

others : (old new : List (CowStr Global × ℕ)) (name x : List ℕ) → KeepsOthers (eq_by_cmp order) (at_name name) old new → bytes_eq name x ≡ false → lookup (at_name x) new ≡ lookup (at_name x) old
unfolding KeepsOthers
others old new name x h n = h (at_name x) (λ a b. (eq_by_cmp_equiv nat_list_cmp_total).congr x (cow_str_bytes a) (cow_str_bytes b)) (apart name x n)

-- what the map has at any name once it has a new place at this one
updated : (old new : Names) (name : List ℕ) (place : ℕ) → UpdatesBy order (λ k. slice_cmp nat_cmp name (cow_str_bytes k)) old new (Some place) → (x : List ℕ) → place_named new x ≡ cond (bytes_eq name x) (Some place) (place_named old x)
updated old new name place u x =
    elim (cases_Bool (bytes_eq name x)) [
      | inl y ↦ subst (λ l. place_named new l ≡ Some place) ((bytes_decides name x).0 y) u.1 ∙ sym (cond-true (bytes_eq name x) (Some place) (place_named old x) y)
      | inr n ↦ others old.entries new.entries name x u.3 n ∙ sym (cond-false (bytes_eq name x) (Some place) (place_named old x) n)
    ]

-- the map, once it has the new name
pub named-push : (table : Table) (old new : Names) (name : List ℕ) (place : ℕ) → ((x : List ℕ) → place_named old x ≡ last_place x (names_of table)) → place ≡ length table
    → UpdatesBy order (λ k. slice_cmp nat_cmp name (cow_str_bytes k)) old new (Some place) → (x : List ℕ) → place_named new x ≡ last_place x (names_of (table ++ ((name, None) ∷ [])))
named-push table old new name place h e u x =
    let n : place ≡ length (names_of table) = e ∙ sym (names-length table) in
    updated old new name place u x
    ∙ ((λ z. cond (bytes_eq name x) (Some (n z)) (h x z))
    ∙ (sym (place-push x (names_of table) name) ∙ ap (last_place x) (sym (names-push table name None))))

-- a new anchor's place
pub placed-push : (table : Table) (name : List ℕ) (place : ℕ) → place ≡ length table → Placed (names_of (table ++ ((name, None) ∷ []))) (Some place) (Some name) (length table)
placed-push table name place e =
    (e, subst (λ xs. slice_get xs (length table) ≡ Some name) (sym (names-push table name None)) (subst (λ n. slice_get (names_of table ++ (name ∷ [])) n ≡ Some name) (names-length table) (get-end (names_of table) name)))

-- a place goes on standing
placed-more : (xs ys : List (List ℕ)) (place : Option ℕ) (a : Anchor) (slot : ℕ) → Placed xs place a slot → Placed (xs ++ ys) place a slot
placed-more xs ys None None slot h = tt
placed-more xs ys (Some i) (Some name) slot h = (h.0, get-more xs ys slot name h.1)
placed-more xs ys None (Some name) slot h = absurd h
placed-more xs ys (Some i) None slot h = absurd h

pub placed-opened : (table : Table) (name : List ℕ) (place : Option ℕ) (a : Anchor) (slot : ℕ) → Placed (names_of table) place a slot → Placed (names_of (table ++ ((name, None) ∷ []))) place a slot
placed-opened table name place a slot h = subst (λ xs. Placed xs place a slot) (sym (names-push table name None)) (placed-more (names_of table) (name ∷ []) place a slot h)

set-same : (table : Table) (i : ℕ) (name : List ℕ) (o : Option Tree) → slice_get (names_of table) i ≡ Some name → names_of (set table i (name, o)) ≡ names_of table
set-same [] i name o h = refl
set-same (q ∷ table) zero name o h = let e : q.0 ≡ name = cc in ap (λ z. z ∷ names_of table) (sym e)
set-same (q ∷ table) (suc i) name o h = ap (λ zs. q.0 ∷ zs) (set-same table i name o h)

-- a node that closes leaves the names as they are
pub names-closed : (table : Table) (place : Option ℕ) (a : Anchor) (slot : ℕ) (t : Tree) → Placed (names_of table) place a slot → names_of (closed a slot t table) ≡ names_of table
names-closed table None None slot t h = refl
names-closed table (Some i) (Some name) slot t h = set-same table slot name (Some t) h.1
names-closed table None (Some name) slot t h = absurd h
names-closed table (Some i) None slot t h = absurd h

-- ---- looking up

-- what stands at this place, if there is one
abbrev pub Found : Option ℕ → Option (Option Tree) → Table → Type 0
Found None None e = Unit {0}
Found (Some i) (Some o) e = (x : List ℕ) × (slice_get e i ≡ Some (x, o))
Found _ _ e = ⊥

found-next : (p : Option ℕ) (o : Option (Option Tree)) (q : List ℕ × Option Tree) (e : Table) (b : Bool) → Found p o e → Found (or_else (option_map suc p) (cond b (Some 0) None)) (or_else o (cond b (Some q.1) None)) (q ∷ e)
found-next None None q e true h = (q.0, refl)
found-next None None q e false h = tt
found-next (Some i) (Some o) q e b h = h
found-next None (Some o) q e b h = absurd h
found-next (Some i) None q e b h = absurd h

pub found : (name : List ℕ) (e : Table) → Found (last_place name (names_of e)) (last_named name e) e
unfolding last_place last_named
found name [] = tt
found name (q ∷ e) = found-next (last_place name (names_of e)) (last_named name e) q e (bytes_eq q.0 name) (found name e)
