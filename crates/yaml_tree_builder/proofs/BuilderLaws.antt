-- What the builder's lists stand for, as they grow.
use Rattle.std.proofs.Common.{◌≡◌, ℕ, zero, suc, ◌<◌, ◌≤◌, Bool, List, [], ◌∷◌, ◌++◌, length, set, take, drop, reverse, get_or, refl, sym, ◌∙◌, ap, subst, arith, append_assoc, length-append}
use Rattle.std.specs.Prelude.{Option, None, Some, Ok}
use Rattle.std.specs.List.{slice_get, All}
use Rattle.std.proofs.lemmas.Option.{slice_get_within, get_or_from_slice_get, slice_get-get_or}
use Rattle.std.proofs.lemmas.List.{reverse-append, map-append}
use Rattle.std.proofs.lemmas.List.Elements.{All-nil, All-cons}
use Rattle.yaml_definitions.specs.model.Limits.{height_limit}
use Rattle.yaml_definitions.specs.model.Tree.{Tree, scalar}
use Rattle.yaml_definitions.specs.model.Event.{Anchor, WrittenTag}
use Rattle.yaml_definitions.specs.model.Core.{collection_tag}
use Rattle.yaml_definitions.specs.model.Unfold.{Table, closed, last_named, and_then, placed}
use Rattle.yaml_tree.specs.Anchors.{last_place, names_of, Placed}
use Rattle.yaml_tree.specs.ComposerSteps as machine
use Rattle.yaml_tree.specs.TreeLists.{AreLow}
use Rattle.yaml_tree.proofs.Lists.{get-more}
use Rattle.yaml_tree.proofs.LowLaws.{Low, all-low}
use Rattle.yaml_tree.proofs.AnchorLaws.{names-length, names-closed, placed-push, placed-opened, Found, found}
use Rattle.yaml_store.specs.StoreModel.{parts_at, is_mapping}
use Rattle.yaml_store.specs.StoreGrows.{Keeps, IsLow, tags_of, trees_of}
use Rattle.yaml_tree_builder.specs.TagModel.{collection_number}
use Rattle.yaml_tree_builder.specs.BuilderModel.{AllAt, SlotAt, TableAt, below, OpenHolds, OpensHold, Keeping, Ready, Holds, with_store, start_of, end_of}
use Rattle.yaml_tree_builder.specs.FirstsModel.{Counted}
use Rattle.yaml_tree_builder.proofs.FirstsLaws.{same-trees}
use Rattle.yaml_tree_builder.proofs.TagLaws.{core-kept}
use Rattle.yaml_tree_builder.specs.declared.builder.Open.{Open}
use Rattle.yaml_store.specs.declared.nodes.Collection.{Collection}
use Rattle.yaml_store.specs.declared.nodes.Collection.TheVariants as kinds
use Rattle.yaml_tree_builder.specs.declared.builder.TreeBuilder.{TreeBuilder}
use Rattle.yaml_store.specs.declared.store.Store.{Store}

-- ---- the whole nodes

all-more : (ts more : List Tree) (stack : List ℕ) (us : List Tree) → AllAt ts stack us → AllAt (ts ++ more) stack us
all-more ts more [] [] h = tt
all-more ts more (i ∷ stack) (u ∷ us) h = (get-more ts more i u h.0, all-more ts more stack us h.1)
all-more ts more [] (u ∷ us) h = absurd h
all-more ts more (i ∷ stack) [] h = absurd h

all-push : (ts : List Tree) (stack : List ℕ) (us : List Tree) (i : ℕ) (t : Tree) → AllAt ts stack us → slice_get ts i ≡ Some t → AllAt ts (stack ++ (i ∷ [])) (us ++ (t ∷ []))
all-push ts [] [] i t h e = (e, tt)
all-push ts (j ∷ stack) (u ∷ us) i t h e = (h.0, all-push ts stack us i t h.1 e)
all-push ts [] (u ∷ us) i t h e = absurd h
all-push ts (j ∷ stack) [] i t h e = absurd h

all-length : (ts : List Tree) (stack : List ℕ) (us : List Tree) → AllAt ts stack us → length stack ≡ length us
all-length ts [] [] h = refl
all-length ts (i ∷ stack) (u ∷ us) h = ap suc (all-length ts stack us h.1)
all-length ts [] (u ∷ us) h = absurd h
all-length ts (i ∷ stack) [] h = absurd h

all-split : (ts : List Tree) (stack : List ℕ) (us vs : List Tree) → AllAt ts stack (us ++ vs) → AllAt ts (take (length us) stack) us × AllAt ts (drop (length us) stack) vs
all-split ts stack [] vs h = (tt, h)
all-split ts (i ∷ stack) (u ∷ us) vs h = let r = all-split ts stack us vs h.1 in ((h.0, r.0), r.1)
all-split ts [] (u ∷ us) vs h = absurd h

all-below : (ts : List Tree) (stack : List ℕ) (us : List Tree) → AllAt ts stack us → All (λ i. i < length ts) stack
all-below ts [] [] h = All-nil (λ i. i < length ts)
all-below ts (i ∷ stack) (u ∷ us) h = All-cons (λ j. j < length ts) i stack (slice_get_within ts i u h.0) (all-below ts stack us h.1)
all-below ts [] (u ∷ us) h = absurd h
all-below ts (i ∷ stack) [] h = absurd h

parts-are : (ts : List Tree) (stack : List ℕ) (us : List Tree) → AllAt ts stack us → parts_at ts stack ≡ us
parts-are ts [] [] h = refl
parts-are ts (i ∷ stack) (u ∷ us) h = λ z. get_or_from_slice_get ts i u (scalar [] []) h.0 z ∷ parts-are ts stack us h.1 z
parts-are ts [] (u ∷ us) h = absurd h
parts-are ts (i ∷ stack) [] h = absurd h

pushed-all : (ts : List Tree) (stack : List ℕ) (under inner : List Tree) (i : ℕ) (t : Tree) → AllAt ts stack (under ++ inner) → slice_get ts i ≡ Some t → AllAt ts (stack ++ (i ∷ [])) (under ++ (inner ++ (t ∷ [])))
pushed-all ts stack under inner i t h e = subst (AllAt ts (stack ++ (i ∷ []))) (append_assoc under inner (t ∷ [])) (all-push ts stack (under ++ inner) i t h e)

reverse-push : {X : Type 0} (xs : List X) (x : X) → reverse (xs ++ (x ∷ [])) ≡ x ∷ reverse xs
reverse-push xs x = reverse-append xs (x ∷ [])

-- ---- the nodes with anchors

slot-more : (ts us : List Tree) (a : Option ℕ) (o : Option Tree) → SlotAt ts a o → SlotAt (ts ++ us) a o
slot-more ts us None None h = tt
slot-more ts us (Some i) (Some v) h = get-more ts us i v h
slot-more ts us None (Some v) h = absurd h
slot-more ts us (Some i) None h = absurd h

table-more : (ts us : List Tree) (anchored : List (Option ℕ)) (table : Table) → TableAt ts anchored table → TableAt (ts ++ us) anchored table
table-more ts us [] [] h = tt
table-more ts us (a ∷ anchored) (o ∷ table) h = (slot-more ts us a o.1 h.0, table-more ts us anchored table h.1)
table-more ts us [] (o ∷ table) h = absurd h
table-more ts us (a ∷ anchored) [] h = absurd h

table-push : (ts : List Tree) (anchored : List (Option ℕ)) (table : Table) (name : List ℕ) → TableAt ts anchored table → TableAt ts (anchored ++ (None ∷ [])) (table ++ ((name, None) ∷ []))
table-push ts [] [] name h = (tt, tt)
table-push ts (a ∷ anchored) (o ∷ table) name h = (h.0, table-push ts anchored table name h.1)
table-push ts [] (o ∷ table) name h = absurd h
table-push ts (a ∷ anchored) [] name h = absurd h

table-set : (ts : List Tree) (anchored : List (Option ℕ)) (table : Table) (slot i : ℕ) (t : Tree) (name : List ℕ) → TableAt ts anchored table → slice_get ts i ≡ Some t → TableAt ts (set anchored slot (Some i)) (set table slot (name, Some t))
table-set ts [] [] slot i t name h e = tt
table-set ts (a ∷ anchored) (o ∷ table) zero i t name h e = (e, h.1)
table-set ts (a ∷ anchored) (o ∷ table) (suc slot) i t name h e = (h.0, table-set ts anchored table slot i t name h.1 e)
table-set ts [] (o ∷ table) slot i t name h e = absurd h
table-set ts (a ∷ anchored) [] slot i t name h e = absurd h

table-length : (ts : List Tree) (anchored : List (Option ℕ)) (table : Table) → TableAt ts anchored table → length anchored ≡ length table
table-length ts [] [] h = refl
table-length ts (a ∷ anchored) (o ∷ table) h = ap suc (table-length ts anchored table h.1)
table-length ts [] (o ∷ table) h = absurd h
table-length ts (a ∷ anchored) [] h = absurd h

slot-at : (ts : List Tree) (anchored : List (Option ℕ)) (table : Table) (i : ℕ) (a : Option ℕ) (x : List ℕ) (o : Option Tree) → TableAt ts anchored table → slice_get anchored i ≡ Some a → slice_get table i ≡ Some (x, o) → SlotAt ts a o
slot-at ts (b ∷ anchored) (p ∷ table) zero a x o h e q =
    let f : b ≡ a = cc in
    let was : List ℕ × Option Tree = p in
    let made : List ℕ × Option Tree = (x, o) in
    let g : was ≡ made = cc in
    subst (λ z. SlotAt ts z o) f (subst (λ z. SlotAt ts b z) (ap (λ r. r.1) g) h.0)
slot-at ts (b ∷ anchored) (p ∷ table) (suc i) a x o h e q = slot-at ts anchored table i a x o h.1 e q
slot-at ts [] table i a x o h e q = absurd (cc)
slot-at ts (b ∷ anchored) [] i a x o h e q = absurd h

-- the list once the node at this place is whole
abbrev pub filled : Option ℕ → ℕ → List (Option ℕ) → List (Option ℕ)
filled None i anchored = anchored
filled (Some place) i anchored = set anchored place (Some i)

table-closed : (ts : List Tree) (names : List (List ℕ)) (anchored : List (Option ℕ)) (table : Table) (place : Option ℕ) (a : Anchor) (slot i : ℕ) (t : Tree) → TableAt ts anchored table → slice_get ts i ≡ Some t → Placed names place a slot
    → TableAt ts (filled place i anchored) (closed a slot t table)
table-closed ts names anchored table None None slot i t h e w = h
table-closed ts names anchored table (Some place) (Some name) slot i t h e w = subst (λ n. TableAt ts (set anchored n (Some i)) (set table slot (name, Some t))) (sym w.0) (table-set ts anchored table slot i t name h e)
table-closed ts names anchored table None (Some name) slot i t h e w = absurd w
table-closed ts names anchored table (Some place) None slot i t h e w = absurd w

pub names-push : (table : Table) (name : List ℕ) → names_of (table ++ ((name, None) ∷ [])) ≡ names_of table ++ (name ∷ [])
names-push table name = map-append (λ o. o.0) table ((name, None) ∷ [])

-- the tree of an alias
pub record AliasAt (ts : List Tree) (i : ℕ) (o : Option (Option Tree)) : Type 0 where
  pub tree : Tree
  pub is : o ≡ Some (Some tree)
  pub stands : slice_get ts i ≡ Some tree

whole-slot : (ts : List Tree) (i : ℕ) (o : Option Tree) → SlotAt ts (Some i) o → AliasAt ts i (Some o)
whole-slot ts i (Some t) h = record { tree = t; is = refl; stands = h }
whole-slot ts i None h = absurd h

alias-found : (ts : List Tree) (anchored : List (Option ℕ)) (table : Table) (place i : ℕ) (o : Option (Option Tree)) → TableAt ts anchored table → Found (Some place) o table → slice_get anchored place ≡ Some (Some i) → AliasAt ts i o
alias-found ts anchored table place i (Some p) h f e = whole-slot ts i p (slot-at ts anchored table place (Some i) f.0 p h e f.1)
alias-found ts anchored table place i None h f e = absurd f

-- the name of no anchor, and that of a node which is open
found-none : (o : Option (Option Tree)) (table : Table) → Found None o table → o ≡ None
found-none None table f = refl
found-none (Some p) table f = absurd f

open-slot : (ts : List Tree) (o : Option Tree) → SlotAt ts None o → o ≡ None
open-slot ts None h = refl
open-slot ts (Some t) h = absurd h

open-found : (ts : List Tree) (anchored : List (Option ℕ)) (table : Table) (place : ℕ) (o : Option (Option Tree)) → TableAt ts anchored table → Found (Some place) o table → slice_get anchored place ≡ Some None → o ≡ Some None
open-found ts anchored table place (Some p) h f e = ap Some (open-slot ts p (slot-at ts anchored table place None f.0 p h e f.1))
open-found ts anchored table place None h f e = absurd f

found-within : (place : ℕ) (o : Option (Option Tree)) (table : Table) → Found (Some place) o table → place < length table
found-within place (Some p) table f = slice_get_within table place (f.0, p) f.1
found-within place None table f = absurd f

-- ---- the open collections

opens-more : (tags us : List (List ℕ)) (names : List (List ℕ)) (os : List Open) (ps : List machine.Open) → OpensHold tags names os ps → OpensHold (tags ++ us) names os ps
opens-more tags us names [] [] h = tt
opens-more tags us names (o ∷ os) (p ∷ ps) h = (record { place = h.0.place; mark = h.0.mark; tag = get-more tags us o.tag p.tag h.0.tag }, opens-more tags us names os ps h.1)
opens-more tags us names [] (p ∷ ps) h = absurd h
opens-more tags us names (o ∷ os) [] h = absurd h

opens-opened : (tags : List (List ℕ)) (table : Table) (name : List ℕ) (os : List Open) (ps : List machine.Open) → OpensHold tags (names_of table) os ps → OpensHold tags (names_of (table ++ ((name, None) ∷ []))) os ps
opens-opened tags table name [] [] h = tt
opens-opened tags table name (o ∷ os) (p ∷ ps) h = (record { place = placed-opened table name o.place p.anchor p.slot h.0.place; mark = h.0.mark; tag = h.0.tag }, opens-opened tags table name os ps h.1)
opens-opened tags table name [] (p ∷ ps) h = absurd h
opens-opened tags table name (o ∷ os) [] h = absurd h

opens-none : (tags : List (List ℕ)) (xs ys : List (List ℕ)) (os : List Open) → OpensHold tags xs os [] → OpensHold tags ys os []
opens-none tags xs ys [] h = tt
opens-none tags xs ys (o ∷ os) h = absurd h

-- no collection is open
no-items : {X : Type 0} (xs : List X) → length xs ≤ 0 → xs ≡ []
no-items [] h = refl
no-items (x ∷ xs) h = absurd (omega arith)

none-held : (tags : List (List ℕ)) (names : List (List ℕ)) (ps : List machine.Open) → OpensHold tags names [] ps → ps ≡ []
none-held tags names [] h = refl
none-held tags names (p ∷ ps) h = absurd h

none-open : (tags : List (List ℕ)) (names : List (List ℕ)) (os : List Open) (ps : List machine.Open) → length os ≤ 0 → OpensHold tags names (reverse os) ps → ps ≡ []
none-open tags names os ps l h = none-held tags names ps (subst (λ z. OpensHold tags names (reverse z) ps) (no-items os l) h)

-- ---- the lists after each call

abbrev pub frame : Anchor → ℕ → List ℕ → List Tree → machine.Open
frame a slot g before = record { anchor = a; slot = slot; tag = g; before = before }

pub keeping-none : (tags : List (List ℕ)) (ts : List Tree) (anchored : List (Option ℕ)) (stack : List ℕ) (opens : List Open) → anchored ≡ [] → stack ≡ [] → opens ≡ []
    → Keeping tags ts anchored stack opens [] [] []
keeping-none tags ts anchored stack opens ea es eo = rw (ea, es, eo) (record { stacked = tt; opened = tt; anchors = tt })

module _ (tags : List (List ℕ)) (ts : List Tree) (anchored : List (Option ℕ)) (stack : List ℕ) (opens : List Open) (inner : List Tree) (outer : List machine.Open) (table : Table) (h : Keeping tags ts anchored stack opens inner outer table) where
  -- tags and nodes are added
  pub keeping-more : (us : List (List ℕ)) (vs : List Tree) → Keeping (tags ++ us) (ts ++ vs) anchored stack opens inner outer table
  keeping-more us vs = record { stacked = all-more ts vs stack (below outer ++ inner) h.stacked; opened = opens-more tags us (names_of table) (reverse opens) outer h.opened; anchors = table-more ts vs anchored table h.anchors }

  -- a node with an anchor begins
  pub keeping-begun : (name : List ℕ) (place : ℕ) (more : List (Option ℕ)) → place ≡ length (names_of table) → more ≡ anchored ++ (None ∷ [])
      → Placed (names_of (table ++ ((name, None) ∷ []))) (Some place) (Some name) (length table) × Keeping tags ts more stack opens inner outer (table ++ ((name, None) ∷ []))
  keeping-begun name place more e q = (
    placed-push table name place (e ∙ names-length table),
    record { stacked = h.stacked; opened = opens-opened tags table name (reverse opens) outer h.opened; anchors = subst (λ z. TableAt ts z (table ++ ((name, None) ∷ []))) (sym q) (table-push ts anchored table name h.anchors) },
  )

  -- a node is whole
  pub keeping-whole : (place : Option ℕ) (a : Anchor) (slot i : ℕ) (t : Tree) → Placed (names_of table) place a slot → slice_get ts i ≡ Some t → (filling : List (Option ℕ)) (more : List ℕ) → filling ≡ filled place i anchored → more ≡ stack ++ (i ∷ [])
      → Keeping tags ts filling more opens (inner ++ (t ∷ [])) outer (closed a slot t table)
  keeping-whole place a slot i t w e filling more ef em =
      let names : names_of table ≡ names_of (closed a slot t table) = sym (names-closed table place a slot t w) in
      record {
        stacked = subst (λ z. AllAt ts z (below outer ++ (inner ++ (t ∷ [])))) (sym em) (pushed-all ts stack (below outer) inner i t h.stacked e);
        opened = subst (λ xs. OpensHold tags xs (reverse opens) outer) names h.opened;
        anchors = subst (λ z. TableAt ts z (closed a slot t table)) (sym ef) (table-closed ts (names_of table) anchored table place a slot i t h.anchors e w);
      }

  -- an alias
  place-found : (name : List ℕ) (place : ℕ) → last_place name (names_of table) ≡ Some place → Found (Some place) (last_named name table) table
  place-found name place e = subst (λ p. Found p (last_named name table) table) e (found name table)

  alias-within : (name : List ℕ) (place : ℕ) → last_place name (names_of table) ≡ Some place → place < length anchored
  alias-within name place e = omega (arith, found-within place (last_named name table) table (place-found name place e), table-length ts anchored table h.anchors)

  pub alias-at : (name : List ℕ) (place i : ℕ) → last_place name (names_of table) ≡ Some place → get_or anchored place None ≡ Some i → AliasAt ts i (last_named name table)
  alias-at name place i e q = alias-found ts anchored table place i (last_named name table) h.anchors (place-found name place e) (slice_get-get_or anchored place None (alias-within name place e) ∙ ap Some q)

  pub alias-unnamed : (name : List ℕ) → last_place name (names_of table) ≡ None → last_named name table ≡ None
  alias-unnamed name e = found-none (last_named name table) table (subst (λ p. Found p (last_named name table) table) e (found name table))

  pub alias-open : (name : List ℕ) (place : ℕ) → last_place name (names_of table) ≡ Some place → get_or anchored place None ≡ None → last_named name table ≡ Some None
  alias-open name place e q = open-found ts anchored table place (last_named name table) h.anchors (place-found name place e) (slice_get-get_or anchored place None (alias-within name place e) ∙ ap Some q)

  -- a collection begins, with the nodes behind `before` as its first
  pub keeping-entered : (o : Open) (a : Anchor) (slot : ℕ) (g : List ℕ) (before rest : List Tree) (new : List Open) → new ≡ opens ++ (o ∷ []) → before ++ rest ≡ inner → Placed (names_of table) o.place a slot → o.mark ≡ length (below outer ++ before)
      → slice_get tags o.tag ≡ Some g → Keeping tags ts anchored stack new rest (frame a slot g before ∷ outer) table
  keeping-entered o a slot g before rest new q e w m l =
      let f = frame a slot g before in
      let one : OpenHolds tags (names_of table) o f (below (f ∷ outer)) = record { place = w; mark = m; tag = l } in
      record {
        stacked = subst (AllAt ts stack) (ap (λ z. below outer ++ z) (sym e) ∙ sym (append_assoc (below outer) before rest)) h.stacked;
        opened = subst (λ z. OpensHold tags (names_of table) z (f ∷ outer)) (sym (ap reverse q ∙ reverse-push opens o)) (one, h.opened);
        anchors = h.anchors;
      }

  -- how many whole nodes there are
  pub stack-length : length stack ≡ length (below outer ++ inner)
  stack-length = all-length ts stack (below outer ++ inner) h.stacked

  -- no collection is open
  pub outer-none : length opens ≤ 0 → outer ≡ []
  outer-none l = none-open tags (names_of table) opens outer l h.opened

  -- a document begins
  pub keeping-cleared : (none : List (Option ℕ)) → none ≡ [] → outer ≡ [] → Keeping tags ts none stack opens inner [] []
  keeping-cleared none q e = record {
    stacked = subst (λ z. AllAt ts stack (below z ++ inner)) e h.stacked;
    opened = opens-none tags (names_of table) [] (reverse opens) (subst (OpensHold tags (names_of table) (reverse opens)) e h.opened);
    anchors = subst (λ z. TableAt ts z []) (sym q) tt;
  }

  pub roots-only : outer ≡ [] → AllAt ts stack inner
  roots-only e = subst (λ z. AllAt ts stack (below z ++ inner)) e h.stacked

-- ---- more nodes and tags in the store

module _ (c : TreeBuilder) (s : machine.State) (new : Store) (k : Keeps c.store new) (h : Holds c s) where
  pub ready-kept : Ready new c.core
  ready-kept = record { store = k.good; core = core-kept c.store new c.core k h.good.core }

  pub keeping-kept : Keeping (tags_of new) (trees_of new) c.anchored.items c.stack.items c.opens.items s.inner s.outer s.table
  keeping-kept = subst (λ tags. Keeping tags (trees_of new) c.anchored.items c.stack.items c.opens.items s.inner s.outer s.table) (sym k.tags)
      (subst (λ ts. Keeping (tags_of c.store ++ k.more_tags) ts c.anchored.items c.stack.items c.opens.items s.inner s.outer s.table) (sym k.trees)
      (keeping-more (tags_of c.store) (trees_of c.store) c.anchored.items c.stack.items c.opens.items s.inner s.outer s.table h.keeping k.more_tags k.more))

  -- tags alone
  pub holds-tagged : new.nodes ≡ c.store.nodes → Holds (with_store c new) s
  holds-tagged e = record { good = ready-kept; names = h.names; keeping = keeping-kept; counted = subst (λ ts. Counted ts c.firsts s.done) (sym (same-trees c.store new k e)) h.counted }

-- the innermost collection, and what stands without it
pub record Left (tags : List (List ℕ)) (ts : List Tree) (anchored : List (Option ℕ)) (stack : List ℕ) (os : List Open) (o : Open) (inner : List Tree) (outer : List machine.Open) (table : Table) : Type 0 where
  pub last : machine.Open
  pub others : List machine.Open
  pub is : outer ≡ last ∷ others
  pub fits : o.mark ≤ length stack
  pub within : All (λ i. i < length ts) (drop o.mark stack)
  pub parts : parts_at ts (drop o.mark stack) ≡ inner
  pub place : Placed (names_of table) o.place last.anchor last.slot
  pub tag : slice_get tags o.tag ≡ Some last.tag
  pub keeping : Keeping tags ts anchored (take o.mark stack) os last.before others table

pub keeping-left : (tags : List (List ℕ)) (ts : List Tree) (anchored : List (Option ℕ)) (stack : List ℕ) (opens os : List Open) (o : Open) (inner : List Tree) (outer : List machine.Open) (table : Table) → opens ≡ os ++ (o ∷ [])
    → Keeping tags ts anchored stack opens inner outer table → Left tags ts anchored stack os o inner outer table
keeping-left tags ts anchored stack opens os o inner [] table e h = absurd (subst (λ z. OpensHold tags (names_of table) z []) (ap reverse e ∙ reverse-push os o) h.opened)
keeping-left tags ts anchored stack opens os o inner (p ∷ ps) table e h =
    let k : OpensHold tags (names_of table) (o ∷ reverse os) (p ∷ ps) = subst (λ z. OpensHold tags (names_of table) z (p ∷ ps)) (ap reverse e ∙ reverse-push os o) h.opened in
    let under = below ps ++ p.before in
    let r = all-split ts stack under inner h.stacked in
    let l = all-length ts stack (under ++ inner) h.stacked in
    record {
      last = p;
      others = ps;
      is = refl;
      fits = omega (arith, k.0.mark, l, length-append under inner);
      within = subst (λ m. All (λ i. i < length ts) (drop m stack)) (sym k.0.mark) (all-below ts (drop (length under) stack) inner r.1);
      parts = ap (λ n. parts_at ts (drop n stack)) k.0.mark ∙ parts-are ts (drop (length under) stack) inner r.1;
      place = k.0.place;
      tag = k.0.tag;
      keeping = record { stacked = subst (λ n. AllAt ts (take n stack) under) (sym k.0.mark) r.0; opened = k.1; anchors = h.anchors };
    }

-- ---- heights

low-all : (s : Store) → IsLow s → (stack : List ℕ) (us : List Tree) → AllAt (trees_of s) stack us → Low height_limit us
low-all s low [] [] h = tt
low-all s low (i ∷ stack) (u ∷ us) h = (low i u h.0, low-all s low stack us h.1)
low-all s low [] (u ∷ us) h = absurd h
low-all s low (i ∷ stack) [] h = absurd h

-- no tree that stands in a low store is higher than the limit
pub are-low : (s : Store) → IsLow s → (stack : List ℕ) (us : List Tree) → AllAt (trees_of s) stack us → AreLow us
are-low s low stack us a = all-low height_limit us (low-all s low stack us a)

-- ---- the same of a builder

pub left-in : (c : TreeBuilder) (s : machine.State) (os : List Open) (o : Open) → c.opens.items ≡ os ++ (o ∷ []) → Holds c s → Left (tags_of c.store) (trees_of c.store) c.anchored.items c.stack.items os o s.inner s.outer s.table
left-in c s os o e h = keeping-left (tags_of c.store) (trees_of c.store) c.anchored.items c.stack.items c.opens.items os o s.inner s.outer s.table e h.keeping

-- the roots where the state has no open collection
pub record Roots (c : TreeBuilder) (s : machine.State) : Type 0 where
  pub at : AllAt (trees_of c.store) c.stack.items s.inner
  pub count : length c.stack.items ≡ length s.inner

pub roots-of : (c : TreeBuilder) (s : machine.State) → Holds c s → s.outer ≡ [] → Roots c s
roots-of c s h n =
    let k = c.store in
    let a = roots-only (tags_of k) (trees_of k) c.anchored.items c.stack.items c.opens.items s.inner s.outer s.table h.keeping n in
    record {
      at = a;
      count = all-length (trees_of k) c.stack.items s.inner a;
    }

-- ---- kinds of collections

pub begun-step : (k : Collection) (flow : Bool) (a : Anchor) (g : WrittenTag) (t : List ℕ) (s : machine.State) → collection_tag (collection_number k) g ≡ Ok t → machine.step 0 (start_of k flow a g) s ≡ Some (Ok (machine.collection_begun a s t))
unfolding machine.step
begun-step kinds.Sequence flow a g t s e = ap (λ r. Some (and_then (placed 0 r) (λ u. Ok (machine.collection_begun a s u)))) e
begun-step kinds.Mapping flow a g t s e = ap (λ r. Some (and_then (placed 0 r) (λ u. Ok (machine.collection_begun a s u)))) e

pub ended-step : (k : Collection) (s : machine.State) → machine.step 0 (end_of k) s ≡ machine.collection_ended (is_mapping k) s s.outer
unfolding machine.step
ended-step kinds.Sequence s = refl
ended-step kinds.Mapping s = refl
