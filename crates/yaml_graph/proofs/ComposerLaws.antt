-- What the composer's lists stand for, as they grow.
use Rattle.std.proofs.Common.{◌≡◌, ℕ, zero, suc, ◌<◌, List, [], ◌∷◌, ◌++◌, length, set, map, reverse, refl, sym, ◌∙◌, ap, subst, arith, get_or, Err}
use Rattle.std.specs.Prelude.{Option, None, Some}
use Rattle.std.specs.List.{slice_get, All}
use Rattle.std.specs.BTreeMap.{UpdatesBy}
use Rattle.std.specs.Map.{lookup}
use Rattle.std.specs.Cow.{cow_str_bytes}
use Rattle.std.specs.Cmp.Lexicographic.{slice_cmp}
use Rattle.std.specs.Ordering.{nat_cmp, is_eq}
use Rattle.std.proofs.lemmas.Option.{slice_get_within, get_or_from_slice_get, slice_get_read}
use Rattle.std.proofs.lemmas.List.Elements.{All-nil, All-cons}
use Rattle.std.proofs.lemmas.List.{reverse-append, map-append, length-map}
use Rattle.yaml_definitions.specs.model.Tree.{Tree, scalar}
use Rattle.yaml_definitions.specs.model.Event.{Anchor}
use Rattle.yaml_definitions.specs.model.Unfold.{Table, closed, last_named, tree_named, and_then, placed}
use Rattle.yaml_definitions.specs.model.Core.{undefined_alias, cyclic_alias}
use Rattle.yaml_tree.specs.ComposerSteps.{State, initial_state, node_begun, whole, added}
use Rattle.yaml_tree.specs.ComposerSteps as machine
use Rattle.yaml_graph.specs.GraphModel.{trees_at, node_tree, trees_in, PartsBelow}
use Rattle.yaml_tree.specs.Anchors.{Names, place_named, last_place, names_of, Placed}
use Rattle.yaml_tree.specs.TreeLists.{cut}
use Rattle.yaml_graph.specs.ComposerModel.{TreeStands, AllStand, SlotStands, TableStands, OpenStands, OpensStand, Held, Holds, Reached}
use Rattle.std.specs.Option.{IfSome}
use Rattle.yaml_graph.specs.declared.composer.Composer.{Composer}
use Rattle.yaml_graph.specs.declared.composer.Open.{Open}
use Rattle.yaml_graph.specs.declared.node.Node.{Node}
use Rattle.yaml_tree.specs.declared.node.NodeId.{NodeId}
use Rattle.yaml_tree.proofs.Lists.{get-more, get-end, get-push}
use Rattle.yaml_graph.proofs.GraphLaws.{trees-push, trees-length}
use Rattle.yaml_tree.proofs.AnchorLaws.{named-push, placed-push, placed-opened, names-closed, names-length, Found, found}

-- ---- what stands goes on standing

all-more : (ts us : List Tree) (places : List NodeId) (vs : List Tree) → AllStand ts places vs → AllStand (ts ++ us) places vs
all-more ts us [] [] h = tt
all-more ts us (i ∷ places) (v ∷ vs) h = (get-more ts us i.0 v h.0, all-more ts us places vs h.1)
all-more ts us [] (v ∷ vs) h = h
all-more ts us (i ∷ places) [] h = h

slot-more : (ts us : List Tree) (a : Option NodeId) (o : Option Tree) → SlotStands ts a o → SlotStands (ts ++ us) a o
slot-more ts us None None h = tt
slot-more ts us (Some i) (Some v) h = get-more ts us i.0 v h
slot-more ts us None (Some v) h = h
slot-more ts us (Some i) None h = h

table-more : (ts us : List Tree) (anchored : List (Option NodeId)) (table : Table) → TableStands ts anchored table → TableStands (ts ++ us) anchored table
table-more ts us [] [] h = tt
table-more ts us (a ∷ anchored) (o ∷ table) h = (slot-more ts us a o.1 h.0, table-more ts us anchored table h.1)
table-more ts us [] (o ∷ table) h = h
table-more ts us (a ∷ anchored) [] h = h

opens-more : (ts us : List Tree) (names : List (List ℕ)) (os : List Open) (ps : List machine.Open) → OpensStand ts names os ps → OpensStand (ts ++ us) names os ps
opens-more ts us names [] [] h = tt
opens-more ts us names (o ∷ os) (p ∷ ps) h = (record { place = h.0.place; tag = h.0.tag; before = all-more ts us o.before.items p.before h.0.before }, opens-more ts us names os ps h.1)
opens-more ts us names [] (p ∷ ps) h = h
opens-more ts us names (o ∷ os) [] h = h

opens-opened : (ts : List Tree) (table : Table) (name : List ℕ) (os : List Open) (ps : List machine.Open) → OpensStand ts (names_of table) os ps → OpensStand ts (names_of (table ++ ((name, None) ∷ []))) os ps
opens-opened ts table name [] [] h = tt
opens-opened ts table name (o ∷ os) (p ∷ ps) h = (record { place = placed-opened table name o.place p.anchor p.slot h.0.place; tag = h.0.tag; before = h.0.before }, opens-opened ts table name os ps h.1)
opens-opened ts table name [] (p ∷ ps) h = absurd h
opens-opened ts table name (o ∷ os) [] h = absurd h

opens-none : (ts : List Tree) (xs ys : List (List ℕ)) (os : List Open) → OpensStand ts xs os [] → OpensStand ts ys os []
opens-none ts xs ys [] h = tt
opens-none ts xs ys (o ∷ os) h = absurd h

-- ---- one more

all-push : (ts : List Tree) (places : List NodeId) (vs : List Tree) (i : NodeId) (v : Tree) → AllStand ts places vs → TreeStands ts i v → AllStand ts (places ++ (i ∷ [])) (vs ++ (v ∷ []))
all-push ts [] [] i v h e = (e, tt)
all-push ts (j ∷ places) (u ∷ vs) i v h e = (h.0, all-push ts places vs i v h.1 e)
all-push ts [] (u ∷ vs) i v h e = absurd h
all-push ts (j ∷ places) [] i v h e = absurd h

table-push : (ts : List Tree) (anchored : List (Option NodeId)) (table : Table) (name : List ℕ) → TableStands ts anchored table → TableStands ts (anchored ++ (None ∷ [])) (table ++ ((name, None) ∷ []))
table-push ts [] [] name h = (tt, tt)
table-push ts (a ∷ anchored) (o ∷ table) name h = (h.0, table-push ts anchored table name h.1)
table-push ts [] (o ∷ table) name h = absurd h
table-push ts (a ∷ anchored) [] name h = absurd h

table-set : (ts : List Tree) (anchored : List (Option NodeId)) (table : Table) (slot : ℕ) (i : NodeId) (t : Tree) (name : List ℕ) → TableStands ts anchored table → TreeStands ts i t
    → TableStands ts (set anchored slot (Some i)) (set table slot (name, Some t))
table-set ts [] [] slot i t name h e = tt
table-set ts (a ∷ anchored) (o ∷ table) zero i t name h e = (e, h.1)
table-set ts (a ∷ anchored) (o ∷ table) (suc slot) i t name h e = (h.0, table-set ts anchored table slot i t name h.1 e)
table-set ts [] (o ∷ table) slot i t name h e = absurd h
table-set ts (a ∷ anchored) [] slot i t name h e = absurd h

pub table-length : (ts : List Tree) (anchored : List (Option NodeId)) (table : Table) → TableStands ts anchored table → length anchored ≡ length table
table-length ts [] [] h = refl
table-length ts (a ∷ anchored) (o ∷ table) h = ap suc (table-length ts anchored table h.1)
table-length ts [] (o ∷ table) h = absurd h
table-length ts (a ∷ anchored) [] h = absurd h

-- ---- looking up

pub trees-at : (ts : List Tree) (places : List NodeId) (vs : List Tree) → AllStand ts places vs → trees_at ts places ≡ vs
trees-at ts [] [] h = refl
trees-at ts (i ∷ places) (v ∷ vs) h = λ z. get_or_from_slice_get ts i.0 v (scalar [] []) h.0 z ∷ trees-at ts places vs h.1 z
trees-at ts [] (v ∷ vs) h = absurd h
trees-at ts (i ∷ places) [] h = absurd h

all-below : (ts : List Tree) (places : List NodeId) (vs : List Tree) → AllStand ts places vs → All (λ i. i.0 < length ts) places
all-below ts [] [] h = All-nil (λ i. i.0 < length ts)
all-below ts (i ∷ places) (v ∷ vs) h = All-cons (λ j. j.0 < length ts) i places (slice_get_within ts i.0 v h.0) (all-below ts places vs h.1)
all-below ts [] (v ∷ vs) h = absurd h
all-below ts (i ∷ places) [] h = absurd h

pub places-below : (ns : List Node) (places : List NodeId) (us : List Tree) → AllStand (trees_in ns) places us → All (λ i. i.0 < length ns) places
places-below ns places us h = subst (λ m. All (λ i. i.0 < m) places) (trees-length ns) (all-below (trees_in ns) places us h)

pub slot-at : (ts : List Tree) (anchored : List (Option NodeId)) (table : Table) (i : ℕ) (a : Option NodeId) (x : List ℕ) (o : Option Tree) → TableStands ts anchored table → slice_get anchored i ≡ Some a → slice_get table i ≡ Some (x, o) → SlotStands ts a o
slot-at ts (b ∷ anchored) (p ∷ table) zero a x o h e q =
    let f : b ≡ a = cc in
    let was : List ℕ × Option Tree = p in
    let made : List ℕ × Option Tree = (x, o) in
    let g : was ≡ made = cc in
    subst (λ z. SlotStands ts z o) f (subst (λ z. SlotStands ts b z) (ap (λ r. r.1) g) h.0)
slot-at ts (b ∷ anchored) (p ∷ table) (suc i) a x o h e q = slot-at ts anchored table i a x o h.1 e q
slot-at ts [] table i a x o h e q = absurd (cc)
slot-at ts (b ∷ anchored) [] i a x o h e q = absurd h

-- ---- the composer's lists after each of its calls

module _ (ns : List Node) (hs : List ℕ) (m : Names) (anchored : List (Option NodeId)) (os : List Open) (places : List NodeId) (s : State) (h : Held ns hs m anchored os places s) where
  -- an anchor
  pub held-begun : (a : Anchor) (name : List ℕ) (new : Names) (place : ℕ) → a ≡ Some name → place ≡ length anchored
      → UpdatesBy (λ x y. slice_cmp nat_cmp (cow_str_bytes x) (cow_str_bytes y)) (λ k. slice_cmp nat_cmp name (cow_str_bytes k)) m new (Some place) → Held ns hs new (anchored ++ (None ∷ [])) os places (node_begun a s)
  held-begun a name new place e l u =
      let n : place ≡ length s.table = l ∙ table-length (trees_in ns) anchored s.table h.anchors in
      let made : Held ns hs new (anchored ++ (None ∷ [])) os places (node_begun (Some name) s) = record {
        grounded = h.grounded;
        measured = h.measured;
        inside = h.inside;
        outside = opens-opened (trees_in ns) s.table name (reverse os) s.outer h.outside;
        anchors = table-push (trees_in ns) anchored s.table name h.anchors;
        named = named-push s.table m new name place h.named n u;
        done = h.done;
      } in
      subst (λ z. Held ns hs new (anchored ++ (None ∷ [])) os places (node_begun z s)) (sym e) made

  pub placed-begun : (a : Anchor) (name : List ℕ) (place : ℕ) → a ≡ Some name → place ≡ length anchored → Placed (names_of (node_begun a s).table) (Some place) a (length s.table)
  placed-begun a name place e l =
      let n : place ≡ length s.table = l ∙ table-length (trees_in ns) anchored s.table h.anchors in
      subst (λ z. Placed (names_of (node_begun z s).table) (Some place) z (length s.table)) (sym e) (placed-push s.table name place n)

  -- the map has places that there are
  pub place-within : (name : List ℕ) (i : ℕ) → place_named m name ≡ Some i → Found (Some i) (last_named name s.table) s.table
  place-within name i e = subst (λ p. Found p (last_named name s.table) s.table) (sym (h.named name) ∙ e) (found name s.table)

  pub no-place : (name : List ℕ) → place_named m name ≡ None → Found None (last_named name s.table) s.table
  no-place name e = subst (λ p. Found p (last_named name s.table) s.table) (sym (h.named name) ∙ e) (found name s.table)

  -- another node stands in the innermost collection
  pub held-alias : (i : NodeId) (t : Tree) → TreeStands (trees_in ns) i t → Held ns hs m anchored os (places ++ (i ∷ [])) (record { inner = s.inner ++ (t ∷ []); outer = s.outer; table = s.table; done = s.done })
  held-alias i t e =
      record { grounded = h.grounded; measured = h.measured; inside = all-push (trees_in ns) places s.inner i t h.inside e; outside = h.outside; anchors = h.anchors; named = h.named; done = h.done }

  -- a document begins
  pub held-clear : (none : Names) → none.entries ≡ [] → s.outer ≡ [] → Held ns hs none [] os places (record { inner = s.inner; outer = []; table = []; done = s.done })
  unfolding last_place
  held-clear none e q = record {
    grounded = h.grounded;
    measured = h.measured;
    inside = h.inside;
    outside = opens-none (trees_in ns) (names_of s.table) [] (reverse os) (subst (OpensStand (trees_in ns) (names_of s.table) (reverse os)) q h.outside);
    anchors = tt;
    named = λ name. ap (λ es. lookup (λ k. is_eq (slice_cmp nat_cmp name (cow_str_bytes k))) es) e;
    done = h.done;
  }

-- the list once the node at this place is whole
abbrev pub filled : Option ℕ → NodeId → List (Option NodeId) → List (Option NodeId)
filled None i anchored = anchored
filled (Some place) i anchored = set anchored place (Some i)

table-closed : (ts : List Tree) (names : List (List ℕ)) (anchored : List (Option NodeId)) (table : Table) (place : Option ℕ) (a : Anchor) (slot : ℕ) (i : NodeId) (t : Tree) → TableStands ts anchored table → TreeStands ts i t → Placed names place a slot
    → TableStands ts (filled place i anchored) (closed a slot t table)
table-closed ts names anchored table None None slot i t h e w = h
table-closed ts names anchored table (Some place) (Some name) slot i t h e w = subst (λ n. TableStands ts (set anchored n (Some i)) (set table slot (name, Some t))) (sym w.0) (table-set ts anchored table slot i t name h e)
table-closed ts names anchored table None (Some name) slot i t h e w = absurd w
table-closed ts names anchored table (Some place) None slot i t h e w = absurd w

-- a node is whole
pub held-whole : (ns : List Node) (hs : List ℕ) (m : Names) (anchored : List (Option NodeId)) (os : List Open) (places : List NodeId) (s : State) → Held ns hs m anchored os places s
    → (n : Node) (high : ℕ) (i : NodeId) → PartsBelow (length ns) n.kind → high ≡ cut (node_tree (trees_in ns) n) → i.0 ≡ length ns → (place : Option ℕ) (a : Anchor) (slot : ℕ) → Placed (names_of s.table) place a slot
    → Held (ns ++ (n ∷ [])) (hs ++ (high ∷ [])) m (filled place i anchored) os (places ++ (i ∷ [])) (whole a slot (node_tree (trees_in ns) n) s)
held-whole ns hs m anchored os places s h n high i below is number place a slot w =
    let t = node_tree (trees_in ns) n in
    let us = t ∷ [] in
    let q : trees_in ns ++ us ≡ trees_in (ns ++ (n ∷ [])) = sym (trees-push ns n) in
    let here : TreeStands (trees_in ns ++ us) i t = subst (λ k. slice_get (trees_in ns ++ us) k ≡ Some t) (trees-length ns ∙ sym number) (get-end (trees_in ns) t) in
    let names : names_of s.table ≡ names_of (closed a slot t s.table) = sym (names-closed s.table place a slot t w) in
    record {
      grounded = get-push (λ k x. PartsBelow k x.kind) ns n h.grounded below;
      measured = (λ z. h.measured z ++ (is z ∷ [])) ∙ (sym (map-append cut (trees_in ns) us) ∙ ap (map cut) q);
      inside = subst (λ ts. AllStand ts (places ++ (i ∷ [])) (s.inner ++ us)) q (all-push (trees_in ns ++ us) places s.inner i t (all-more (trees_in ns) us places s.inner h.inside) here);
      outside = subst (λ ts. OpensStand ts (names_of (closed a slot t s.table)) (reverse os) s.outer) q (subst (λ xs. OpensStand (trees_in ns ++ us) xs (reverse os) s.outer) names (opens-more (trees_in ns) us (names_of s.table) (reverse os) s.outer h.outside));
      anchors = subst (λ ts. TableStands ts (filled place i anchored) (closed a slot t s.table)) q (table-closed (trees_in ns ++ us) (names_of s.table) anchored s.table place a slot i t (table-more (trees_in ns) us anchored s.table h.anchors) here w);
      named = λ x. h.named x ∙ ap (last_place x) names;
      done = trees-push ns n ∙ ap (λ ts. ts ++ us) h.done;
    }

-- what the innermost collection leaves
pub record Leaves (ns : List Node) (hs : List ℕ) (m : Names) (anchored : List (Option NodeId)) (os : List Open) (o : Open) (s : State) : Type 0 where
  pub frame : machine.Open
  pub frames : List machine.Open
  pub outer : s.outer ≡ frame ∷ frames
  pub stands : OpenStands (trees_in ns) (names_of s.table) o frame
  pub held : Held ns hs m anchored os o.before.items (record { inner = frame.before; outer = frames; table = s.table; done = s.done })

leaves-by : (ns : List Node) (hs : List ℕ) (m : Names) (anchored : List (Option NodeId)) (os : List Open) (o : Open) (places : List NodeId) (s : State) (ps : List machine.Open) → s.outer ≡ ps
    → Held ns hs m anchored (os ++ (o ∷ [])) places s → OpensStand (trees_in ns) (names_of s.table) (o ∷ reverse os) ps → Leaves ns hs m anchored os o s
leaves-by ns hs m anchored os o places s [] e h f = absurd f
leaves-by ns hs m anchored os o places s (p ∷ ps) e h f = record {
  frame = p;
  frames = ps;
  outer = e;
  stands = f.0;
  held = record { grounded = h.grounded; measured = h.measured; inside = f.0.before; outside = f.1; anchors = h.anchors; named = h.named; done = h.done };
}

pub held-leave : (ns : List Node) (hs : List ℕ) (m : Names) (anchored : List (Option NodeId)) (os : List Open) (o : Open) (places : List NodeId) (s : State) → Held ns hs m anchored (os ++ (o ∷ [])) places s → Leaves ns hs m anchored os o s
held-leave ns hs m anchored os o places s h =
    leaves-by ns hs m anchored os o places s s.outer refl h (subst (λ z. OpensStand (trees_in ns) (names_of s.table) z s.outer) (reverse-append os (o ∷ [])) h.outside)

pub held-start : (ns : List Node) (hs : List ℕ) (m : Names) (anchored : List (Option NodeId)) (os : List Open) (places : List NodeId) → ns ≡ [] → hs ≡ [] → m.entries ≡ [] → anchored ≡ [] → os ≡ [] → places ≡ []
    → Held ns hs m anchored os places initial_state
unfolding last_place
held-start ns hs m anchored os places en eh em ea eo ep = rw (en, eh, ea, eo, ep) (record {
  grounded = λ k n e. absurd (cc);
  measured = refl;
  inside = tt;
  outside = tt;
  anchors = tt;
  named = λ name. ap (λ es. lookup (λ k. is_eq (slice_cmp nat_cmp name (cow_str_bytes k))) es) em;
  done = refl;
})

-- ---- the same, as the code's calls give it

module _ (ns : List Node) (hs : List ℕ) (m : Names) (anchored : List (Option NodeId)) (os : List Open) (places : List NodeId) (s : State) (h : Held ns hs m anchored os places s) where
  pub heights-length : length hs ≡ length ns
  heights-length = omega (arith, ap length h.measured, length-map (trees_in ns) cut, trees-length ns)

  pub held-added : (n : Node) (high : ℕ) (i : NodeId) → PartsBelow (length ns) n.kind → high ≡ cut (node_tree (trees_in ns) n) → i.0 ≡ length ns → (place : Option ℕ) (a : Anchor) (slot : ℕ) → Placed (names_of s.table) place a slot
      → (ms : List Node) (gs : List ℕ) (filling : List (Option NodeId)) (more : List NodeId) → ms ≡ ns ++ (n ∷ []) → gs ≡ hs ++ (high ∷ []) → filling ≡ filled place i anchored → more ≡ places ++ (i ∷ [])
      → Held ms gs m filling os more (whole a slot (node_tree (trees_in ns) n) s)
  held-added n high i below is number place a slot w ms gs filling more en eh ea ep = rw (en, eh, ea, ep) (held-whole ns hs m anchored os places s h n high i below is number place a slot w)

  -- a node's place is one of those that there are
  pub placed-within : (place : Option ℕ) (a : Anchor) (slot : ℕ) → Placed (names_of s.table) place a slot → IfSome place (λ i. i < length anchored)
  placed-within None a slot w = tt
  placed-within (Some i) (Some name) slot w =
      omega (arith, w.0, slice_get_within (names_of s.table) slot name w.1, names-length s.table, table-length (trees_in ns) anchored s.table h.anchors)
  placed-within (Some i) None slot w = absurd w

-- ---- an alias

-- what stands at a place that was found
record FoundAt (i : ℕ) (o : Option (Option Tree)) (e : Table) : Type 0 where
  entry : Option Tree
  is : o ≡ Some entry
  name : List ℕ
  there : slice_get e i ≡ Some (name, entry)

found-at : (i : ℕ) (o : Option (Option Tree)) (e : Table) → Found (Some i) o e → FoundAt i o e
found-at i (Some p) e h = record { entry = p; is = refl; name = h.0; there = h.1 }
found-at i None e h = absurd h

found-none : (o : Option (Option Tree)) (e : Table) → Found None o e → o ≡ None
found-none None e h = refl
found-none (Some p) e h = absurd h

open-slot : (ts : List Tree) (o : Option Tree) → SlotStands ts None o → o ≡ None
open-slot ts None h = refl
open-slot ts (Some t) h = absurd h

record WholeSlot (ts : List Tree) (i : NodeId) (o : Option Tree) : Type 0 where
  tree : Tree
  is : o ≡ Some tree
  stands : TreeStands ts i tree

whole-slot : (ts : List Tree) (i : NodeId) (o : Option Tree) → SlotStands ts (Some i) o → WholeSlot ts i o
whole-slot ts i (Some t) h = record { tree = t; is = refl; stands = h }
whole-slot ts i None h = absurd h

module _ (at : ℕ) (name : List ℕ) (c : Composer) (s : State) (h : Holds c s) where
  pub alias-undefined : place_named c.names name ≡ None → and_then (placed at (tree_named (last_named name s.table))) (added s) ≡ Err (undefined_alias, at)
  alias-undefined e =
      let q : last_named name s.table ≡ None = found-none (last_named name s.table) s.table (no-place c.nodes.items c.heights.items c.names c.anchored.items c.outer.items c.inner.items s h name e) in
      ap (λ o. and_then (placed at (tree_named o)) (added s)) q

  module _ (i : ℕ) (e : place_named c.names name ≡ Some i) where
    at-place : FoundAt i (last_named name s.table) s.table
    at-place = found-at i (last_named name s.table) s.table (place-within c.nodes.items c.heights.items c.names c.anchored.items c.outer.items c.inner.items s h name i e)

    pub alias-within : i < length c.anchored.items
    alias-within = let f = at-place in omega (arith, slice_get_within s.table i (f.name, f.entry) f.there, table-length (trees_in c.nodes.items) c.anchored.items s.table h.anchors)

    slot : (a : Option NodeId) → a ≡ get_or c.anchored.items i a → SlotStands (trees_in c.nodes.items) a at-place.entry
    slot a q = let f = at-place in slot-at (trees_in c.nodes.items) c.anchored.items s.table i a f.name f.entry h.anchors (slice_get_read c.anchored.items (length c.anchored.items) i a refl alias-within q) f.there

    pub alias-cyclic : (a : Option NodeId) → a ≡ get_or c.anchored.items i a → a ≡ None → and_then (placed at (tree_named (last_named name s.table))) (added s) ≡ Err (cyclic_alias, at)
    alias-cyclic a q r =
        let f = at-place in
        let o : f.entry ≡ None = open-slot (trees_in c.nodes.items) f.entry (subst (λ z. SlotStands (trees_in c.nodes.items) z f.entry) r (slot a q)) in
        ap (λ z. and_then (placed at (tree_named z)) (added s)) (f.is ∙ ap Some o)

    pub alias-added : (a : Option NodeId) → a ≡ get_or c.anchored.items i a → (n : NodeId) → a ≡ Some n → (d : Composer) → d.nodes.items ≡ c.nodes.items → d.heights.items ≡ c.heights.items → d.names ≡ c.names → d.anchored.items ≡ c.anchored.items → d.outer.items ≡ c.outer.items → d.inner.items ≡ c.inner.items ++ (n ∷ [])
        → Reached (and_then (placed at (tree_named (last_named name s.table))) (added s)) d
    alias-added a q n r d en eh em ea eo ep =
        let f = at-place in
        let w : WholeSlot (trees_in c.nodes.items) n f.entry = whole-slot (trees_in c.nodes.items) n f.entry (subst (λ z. SlotStands (trees_in c.nodes.items) z f.entry) r (slot a q)) in
        let t : State = record { inner = s.inner ++ (w.tree ∷ []); outer = s.outer; table = s.table; done = s.done } in
        let k : Held c.nodes.items c.heights.items c.names c.anchored.items c.outer.items (c.inner.items ++ (n ∷ [])) t = held-alias c.nodes.items c.heights.items c.names c.anchored.items c.outer.items c.inner.items s h n w.tree w.stands in
        record { state = t; is = ap (λ z. and_then (placed at (tree_named z)) (added s)) (f.is ∙ ap Some w.is); holds = rw (en, eh, em, ea, eo, ep) k }
