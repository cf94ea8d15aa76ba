-- A collection in a mapping of which it may be the first key, once it is known whether it is.
use Rattle.std.proofs.Common.{◌≡◌, inl, inr, ℕ, ◌+◌, ◌≤◌, Bool, false, List, [], ◌∷◌, ◌++◌, length, reverse, ◌-◌, refl, sym, ◌∙◌, ap, subst, arith, append-nil, Ok, Err}
use Rattle.std.specs.Prelude.{Option, None, Some}
use Rattle.std.specs.List.{slice_get}
use Rattle.std.proofs.lemmas.List.{reverse-append}
use Rattle.yaml_definitions.specs.model.Tree.{Tree}
use Rattle.yaml_definitions.specs.model.Tag.{default_tag}
use Rattle.yaml_definitions.specs.model.Event.{Event, Anchor, WrittenTag, untagged, mapping_start}
use Rattle.yaml_definitions.specs.model.Core.{Cause, collection_tag}
use Rattle.yaml_definitions.specs.model.Unfold.{Table, opened}
use Rattle.yaml_definitions.specs.grammar.Events.{Props}
use Rattle.yaml_tree.specs.Anchors.{names_of, Placed}
use Rattle.yaml_tree.specs.ComposerSteps as machine
use Rattle.yaml_tree.specs.ComposerSteps.{State, initial_state, collection_begun, steps}
use Rattle.yaml_store.specs.declared.nodes.Collection.{Collection}
use Rattle.yaml_store.specs.declared.nodes.Collection.TheVariants as kinds
use Rattle.yaml_tree_builder.specs.Reached.{Reaches}
use Rattle.yaml_tree_builder.specs.Nodes.{with_nodes, Adding, Alike, AreNodes}
use Rattle.yaml_tree_builder.specs.TagModel.{collection_number}
use Rattle.yaml_tree_builder.specs.BuilderModel.{AllAt, below, OpensHold, Keeping, start_of}
use Rattle.yaml_tree_builder.specs.BuilderLog.{IsOneAnchor, HasOwnTag, keyed}
use Rattle.yaml_tree_builder.specs.declared.builder.Open.{Open}
use Rattle.yaml_tree_builder.proofs.ReachedLaws.{reaches-both, reaches-parts, reaches-one, one-reached, reaches-same, steps-any}
use Rattle.yaml_tree_builder.proofs.RefusalLaws.{steps-at, steps-behind}
use Rattle.yaml_tree_builder.proofs.BuilderLaws.{frame, begun-step}
use Rattle.yaml_tree_builder.proofs.NodeLaws.{begins, opened-alike}
use Rattle.yaml_tree_builder.proofs.AlikeLaws.{refused-behind}

-- ---- what such a log comes to

-- The mapping and the collection are open, behind what stands before them.
pub record Keyed (front : List Event) (outer : Anchor) (k : Collection) (own : Props) (es : List Event) (n : ℕ) (t : State) : Type 0 where
  pub state : State
  pub is : Reaches front initial_state state
  pub mapping : List ℕ
  pub tag : List ℕ
  pub tagged : collection_tag (collection_number k) own.tag ≡ Ok tag
  pub anchors : Table
  pub anchors_is : opened own.anchor (opened outer state.table) ≡ anchors
  pub adding : Adding n es anchors
  pub at : t ≡ with_nodes (collection_begun own.anchor (collection_begun outer state mapping) tag) adding.nodes adding.inside adding.after

pub keyed-parts : (front : List Event) (outer : Anchor) (g : WrittenTag) (k : Collection) (flow : Bool) (own : Props) (es : List Event) (n : ℕ) (t : State) → AreNodes n es → Reaches (keyed front outer g k flow own es) initial_state t → Keyed front outer k own es n t
keyed-parts front outer g k flow own es n t p h =
    let m = mapping_start false outer g in
    let c = start_of k flow own.anchor own.tag in
    let one = reaches-parts front (m ∷ (c ∷ es)) initial_state t h in
    let two = reaches-parts (m ∷ []) (c ∷ es) one.middle t one.back in
    let b = begins kinds.Mapping false outer g one.middle two.middle (one-reached m one.middle two.middle two.front) in
    let three = reaches-parts (c ∷ []) es two.middle t two.back in
    let d = begins k flow own.anchor own.tag two.middle three.middle (one-reached c two.middle three.middle three.front) in
    let a = p.is three.middle t three.back in
    let at = reaches-same es three.middle t (with_nodes three.middle a.nodes a.inside a.after) three.back (a.is three.middle refl) in
    let middle : three.middle ≡ collection_begun own.anchor (collection_begun outer one.middle b.tag) d.tag = d.at ∙ ap (λ z. collection_begun own.anchor z d.tag) b.at in
    record {
      state = one.middle;
      is = one.front;
      mapping = b.tag;
      tag = d.tag;
      tagged = d.is;
      anchors = three.middle.table;
      anchors_is = sym (ap (λ z. z.table) middle);
      adding = a;
      at = at ∙ ap (λ z. with_nodes z a.nodes a.inside a.after) middle;
    }

-- a collection's start, and whole nodes behind it
pub started : (s : State) (k : Collection) (flow : Bool) (a : Anchor) (g : WrittenTag) (tag : List ℕ) (n : ℕ) (es : List Event) (anchors : Table) (w : Adding n es anchors) → collection_tag (collection_number k) g ≡ Ok tag → opened a s.table ≡ anchors
    → Reaches (start_of k flow a g ∷ es) s (with_nodes (collection_begun a s tag) w.nodes w.inside w.after)
started s k flow a g tag n es anchors w e q =
    let start = start_of k flow a g in
    let u = collection_begun a s tag in
    reaches-both (start ∷ []) es s u (with_nodes u w.nodes w.inside w.after) (reaches-one start s u (begun-step k flow a g tag s e)) (w.is u q)

-- the anchors are the same with the mapping and without
pub same-anchors : (outer own both : Anchor) (table : Table) → IsOneAnchor outer own both → opened both table ≡ opened own (opened outer table)
same-anchors outer own both table (inl (e, q)) = λ z. opened (q z) (opened (sym e z) table)
same-anchors outer own both table (inr (e, q)) = λ z. opened (sym e z) (opened (q z) table)

-- ---- the lists

placed-none : (names : List (List ℕ)) (place : Option ℕ) (slot : ℕ) → Placed names place None slot → place ≡ None
placed-none names None slot h = refl
placed-none names (Some i) slot h = absurd h

pub placed-one : (names : List (List ℕ)) (op kp place : Option ℕ) (outer own both : Anchor) (table : Table) → (op ≡ None → place ≡ kp) → (kp ≡ None → place ≡ op) → IsOneAnchor outer own both → Placed names op outer (length table) → Placed names kp own (length (opened outer table)) → Placed names place both (length table)
placed-one names op kp place outer own both table w v (inl (e, q)) hm hk =
    let none = placed-none names op (length table) (subst (λ a. Placed names op a (length table)) e hm) in
    let here : Placed names kp own (length table) = subst (λ a. Placed names kp own (length (opened a table))) e hk in
    subst (λ z. Placed names z both (length table)) (sym (w none)) (subst (λ a. Placed names kp a (length table)) (sym q) here)
placed-one names op kp place outer own both table w v (inr (e, q)) hm hk =
    let none = placed-none names kp (length (opened outer table)) (subst (λ a. Placed names kp a (length (opened outer table))) e hk) in
    subst (λ z. Placed names z both (length table)) (sym (v none)) (subst (λ a. Placed names op a (length table)) (sym q) hm)

reverse-push : {X : Type 0} (xs : List X) (x : X) → reverse (xs ++ (x ∷ [])) ≡ x ∷ reverse xs
reverse-push xs x = reverse-append xs (x ∷ [])

reverse-two : {X : Type 0} (os ms opens : List X) (m k : X) → opens ≡ ms ++ (k ∷ []) → ms ≡ os ++ (m ∷ []) → reverse opens ≡ k ∷ (m ∷ reverse os)
reverse-two os ms opens m k e q = ap reverse e ∙ (reverse-push ms k ∙ ap (λ z. k ∷ z) (ap reverse q ∙ reverse-push os m))

-- fewer than two are open
no-open : (os : List Open) → length os ≤ 0 → os ≡ []
no-open [] l = refl
no-open (o ∷ os) l = absurd (omega arith)

pub two-none : {X : Type 0} (tags names : List (List ℕ)) (opens : List Open) (p q : machine.Open) (ps : List machine.Open) → length opens ≤ 0 → OpensHold tags names (reverse opens) (p ∷ (q ∷ ps)) → X
two-none tags names opens p q ps l h = absurd (subst (λ z. OpensHold tags names (reverse z) (p ∷ (q ∷ ps))) (no-open opens l) h)

pub two-one : {X : Type 0} (tags names : List (List ℕ)) (opens ms : List Open) (k : Open) (p q : machine.Open) (ps : List machine.Open) → opens ≡ ms ++ (k ∷ []) → length ms ≤ 0 → OpensHold tags names (reverse opens) (p ∷ (q ∷ ps)) → X
two-one tags names opens ms k p q ps e l h =
    let one : reverse opens ≡ k ∷ [] = ap reverse (e ∙ ap (λ z. z ++ (k ∷ [])) (no-open ms l)) in
    absurd (subst (λ z. OpensHold tags names z (p ∷ (q ∷ ps))) one h).1

module _ (tags : List (List ℕ)) (ts : List Tree) (anchored : List (Option ℕ)) (stack : List ℕ) (opens ms os : List Open) (k m o : Open) (inner : List Tree) (kf mf : machine.Open) (ps : List machine.Open) (table : Table) (ek : opens ≡ ms ++ (k ∷ [])) (em : ms ≡ os ++ (m ∷ []))
    (h : Keeping tags ts anchored stack opens inner (kf ∷ (mf ∷ ps)) table) where
  pub both-open : OpensHold tags (names_of table) (k ∷ (m ∷ reverse os)) (kf ∷ (mf ∷ ps))
  both-open = subst (λ z. OpensHold tags (names_of table) z (kf ∷ (mf ∷ ps))) (reverse-two os ms opens m k ek em) h.opened

  -- the collection stands in the mapping's place
  pub keeping-alone : (a : Anchor) (g : List ℕ) (more : List Open) → more ≡ os ++ (o ∷ []) → kf.before ≡ [] → o.mark ≡ m.mark → Placed (names_of table) o.place a mf.slot → slice_get tags o.tag ≡ Some g
      → Keeping tags ts anchored stack more inner (frame a mf.slot g mf.before ∷ ps) table
  keeping-alone a g more e n l w t =
      let b = both-open in
      let same : below (kf ∷ (mf ∷ ps)) ≡ below (mf ∷ ps) = ap (λ z. below (mf ∷ ps) ++ z) n ∙ append-nil (below (mf ∷ ps)) in
      record {
        stacked = subst (λ z. AllAt ts stack (z ++ inner)) same h.stacked;
        opened = subst (λ z. OpensHold tags (names_of table) z (frame a mf.slot g mf.before ∷ ps)) (sym (ap reverse e ∙ reverse-push os o)) (record { place = w; mark = l ∙ b.1.0.mark; tag = t }, b.1.1);
        anchors = h.anchors;
      }

  -- the mapping has this tag
  pub keeping-key : (g : List ℕ) (mid more : List Open) → mid ≡ os ++ (o ∷ []) → more ≡ mid ++ (k ∷ []) → o.mark ≡ m.mark → o.place ≡ m.place → slice_get tags o.tag ≡ Some g
      → Keeping tags ts anchored stack more inner (kf ∷ (frame mf.anchor mf.slot g mf.before ∷ ps)) table
  keeping-key g mid more e q l w t =
      let b = both-open in
      record {
        stacked = h.stacked;
        opened =
            subst (λ z. OpensHold tags (names_of table) z (kf ∷ (frame mf.anchor mf.slot g mf.before ∷ ps))) (sym (reverse-two os mid more o k q e))
            (record { place = b.0.place; mark = b.0.mark; tag = b.0.tag }, (record { place = subst (λ z. Placed (names_of table) z mf.anchor mf.slot) (sym w) b.1.0.place; mark = l ∙ b.1.0.mark; tag = t }, b.1.1));
        anchors = h.anchors;
      }

-- ---- events that are refused

-- the steps behind a collection's start
pub step-behind : (at : ℕ) (k : Collection) (flow : Bool) (a : Anchor) (g : WrittenTag) (tag : List ℕ) (es : List Event) (s : State) → collection_tag (collection_number k) g ≡ Ok tag → steps at (start_of k flow a g ∷ es) s ≡ steps (at + 1) es (collection_begun a s tag)
step-behind at k flow a g tag es s e =
    let start = start_of k flow a g in
    let u = collection_begun a s tag in
    steps-behind (start ∷ []) es at s u (steps-any (start ∷ []) 0 at s u (reaches-one start s u (begun-step k flow a g tag s e)))

-- and behind those of a log
pub front-behind : (front es : List Event) (s : State) → Reaches front initial_state s → steps 0 (front ++ es) initial_state ≡ steps (length front) es s
front-behind front es s r =
    let size : 0 + length front ≡ length front = omega arith in
    steps-behind front es 0 initial_state s r ∙ ap (λ i. steps i es s) size

-- the same event is refused by another number
pub alike-at : (es : List Event) (s t : State) (at to n m : ℕ) (cause : Cause) → Alike es s t → n + to ≡ m + at → steps at es s ≡ Some (Err (cause, n)) → steps to es t ≡ Some (Err (cause, m))
alike-at es s t at to n m cause f e h =
    let l : at ≤ n = steps-at es at s (cause, n) h in
    let here : n ≡ at + (n - at) = omega (arith, l) in
    let there : to + (n - at) ≡ m = omega (arith, l, e) in
    f at to (n - at) cause (h ∙ (λ z. Some (Err (cause, here z)))) ∙ (λ z. Some (Err (cause, there z)))

pub untagged-is : (k : Collection) → collection_tag (collection_number k) untagged ≡ Ok (default_tag (collection_number k))
unfolding collection_tag
untagged-is k = refl

record Tagged (k : Collection) (g : WrittenTag) : Type 0 where
  tag : List ℕ
  is : collection_tag (collection_number k) g ≡ Ok tag

own-tagged : (k : Collection) (own both : WrittenTag) (tag : List ℕ) → HasOwnTag own both → collection_tag (collection_number k) both ≡ Ok tag → Tagged k own
own-tagged k own both tag (inl e) q = record { tag = default_tag (collection_number k); is = ap (collection_tag (collection_number k)) e ∙ untagged-is k }
own-tagged k own both tag (inr e) q = record { tag = tag; is = ap (collection_tag (collection_number k)) (sym e) ∙ q }

-- there is no mapping
pub alone-refused : (front es : List Event) (n : ℕ) (k : Collection) (flow : Bool) (outer : Anchor) (own p : Props) (tag : List ℕ) (cause : Cause) (at to : ℕ) → AreNodes n es → IsOneAnchor outer own.anchor p.anchor → HasOwnTag own.tag p.tag → collection_tag (collection_number k) p.tag ≡ Ok tag
    → length front ≤ at → to ≡ at - 1 → steps 0 (keyed front outer untagged k flow own es) initial_state ≡ Some (Err (cause, at)) → steps 0 (front ++ (start_of k flow p.anchor p.tag ∷ es)) initial_state ≡ Some (Err (cause, to))
alone-refused front es n k flow outer own p tag cause at to w o g t l e h =
    let m = mapping_start false outer untagged in
    let c = start_of k flow own.anchor own.tag in
    let size = length front in
    let b = refused-behind front (m ∷ (c ∷ es)) (cause, at) l h in
    let map = default_tag 2 in
    let u = collection_begun outer b.state map in
    let d = own-tagged k own.tag p.tag tag g t in
    let v = collection_begun own.anchor u d.tag in
    let x = collection_begun p.anchor b.state tag in
    let one : steps (size + 1) (c ∷ es) u ≡ Some (Err (cause, at)) = sym (step-behind size kinds.Mapping false outer untagged map (c ∷ es) b.state (untagged-is kinds.Mapping)) ∙ b.refused in
    let two : steps (size + 1 + 1) es v ≡ Some (Err (cause, at)) = sym (step-behind (size + 1) k flow own.anchor own.tag d.tag es u d.is) ∙ one in
    let same : v.table ≡ x.table = sym (same-anchors outer own.anchor p.anchor b.state.table o) in
    let number : at + (size + 1) ≡ to + (size + 1 + 1) = omega (arith, e, steps-at (c ∷ es) (size + 1) u (cause, at) one) in
    front-behind front (start_of k flow p.anchor p.tag ∷ es) b.state b.is ∙ (step-behind size k flow p.anchor p.tag tag es b.state t ∙ alike-at es v x (size + 1 + 1) (size + 1) at to cause (w.alike v x same) number two)

-- there is one
pub key-refused : (front es : List Event) (n : ℕ) (k : Collection) (flow : Bool) (outer : Anchor) (own : Props) (g : WrittenTag) (tag : List ℕ) (cause : Cause) (at : ℕ) → AreNodes n es → collection_tag 2 g ≡ Ok tag
    → length front ≤ at → steps 0 (keyed front outer untagged k flow own es) initial_state ≡ Some (Err (cause, at)) → steps 0 (keyed front outer g k flow own es) initial_state ≡ Some (Err (cause, at))
key-refused front es n k flow outer own g tag cause at w t l h =
    let m = mapping_start false outer untagged in
    let c = start_of k flow own.anchor own.tag in
    let size = length front in
    let b = refused-behind front (m ∷ (c ∷ es)) (cause, at) l h in
    let map = default_tag 2 in
    let u = collection_begun outer b.state map in
    let v = collection_begun outer b.state tag in
    let one : steps (size + 1) (c ∷ es) u ≡ Some (Err (cause, at)) = sym (step-behind size kinds.Mapping false outer untagged map (c ∷ es) b.state (untagged-is kinds.Mapping)) ∙ b.refused in
    front-behind front (mapping_start false outer g ∷ (c ∷ es)) b.state b.is
    ∙ (step-behind size kinds.Mapping false outer g tag (c ∷ es) b.state t ∙ alike-at (c ∷ es) u v (size + 1) (size + 1) at at cause (opened-alike k flow own.anchor own.tag es w.alike u v refl) refl one)

-- a mapping's start comes before a node
pub before-node : (front es : List Event) (flow : Bool) (cause : Cause) (at : ℕ) → AreNodes 1 es → length front ≤ at → steps 0 (front ++ es) initial_state ≡ Some (Err (cause, at)) → steps 0 (front ++ (mapping_start flow None untagged ∷ es)) initial_state ≡ Some (Err (cause, at + 1))
before-node front es flow cause at w l h =
    let size = length front in
    let b = refused-behind front es (cause, at) l h in
    let map = default_tag 2 in
    let u = collection_begun None b.state map in
    let number : at + (size + 1) ≡ (at + 1) + size = omega arith in
    front-behind front (mapping_start flow None untagged ∷ es) b.state b.is ∙ (step-behind size kinds.Mapping flow None untagged map es b.state (untagged-is kinds.Mapping) ∙ alike-at es b.state u size (size + 1) at (at + 1) cause (w.alike b.state u refl) number b.refused)
