-- Events of whole nodes, which come to the same wherever they stand.
use Rattle.std.proofs.Common.{◌≡◌, ℕ, ◌+◌, List, [], ◌∷◌, ◌++◌, length, refl, sym, ◌∙◌, ap, subst, append_assoc, append-nil, length-append, Result, Ok, Err}
use Rattle.std.specs.Prelude.{Bool, None, Some}
use Rattle.yaml_definitions.specs.model.Tree.{Tree, scalar}
use Rattle.yaml_definitions.specs.model.Event.{Event, Anchor, WrittenTag, Style, untagged, stream_start, stream_end, document_end, mapping_start, scalar_event, alias_event}
use Rattle.yaml_definitions.specs.model.Core.{Resolved, Cause, resolve, collection_tag}
use Rattle.yaml_definitions.specs.model.Unfold.{Table, and_then, placed, opened, closed, last_named, tree_named}
use Rattle.yaml_tree.specs.ComposerSteps.{State, initial_state, scalar_added, added, collection_begun, collection_from, step, steps}
use Rattle.yaml_store.specs.StoreModel.{is_mapping}
use Rattle.yaml_store.specs.declared.nodes.Collection.{Collection}
use Rattle.yaml_store.specs.declared.nodes.Collection.TheVariants as kinds
use Rattle.yaml_tree_builder.specs.Reached.{Reaches}
use Rattle.yaml_tree_builder.specs.Nodes.{with_nodes, Adding, Alike, AreNodes}
use Rattle.yaml_tree_builder.specs.TagModel.{collection_number}
use Rattle.yaml_tree_builder.specs.BuilderModel.{Holds, start_of, end_of}
use Rattle.yaml_tree_builder.specs.BuilderLog.{Follows}
use Rattle.yaml_tree_builder.specs.declared.builder.TreeBuilder.{TreeBuilder}
use Rattle.yaml_tree_builder.proofs.ReachedLaws.{reaches-both, reaches-parts, reaches-one, one-reached, reaches-same}
use Rattle.yaml_tree_builder.proofs.BuilderLaws.{begun-step, ended-step}
use Rattle.yaml_tree_builder.proofs.AlikeLaws.{Meets, none-alike, aside-alike, scalar-alike, alias-alike, start-alike, end-alike, both-alike}

-- ---- no node

same-state : (s : State) (anchors : Table) → s.table ≡ anchors → s ≡ with_nodes s [] [] anchors
same-state s anchors e = λ z. record { inner = sym (append-nil s.inner) z; outer = s.outer; table = e z; done = sym (append-nil s.done) z }

pub no-nodes : AreNodes 0 []
unfolding steps
no-nodes = record { is = λ s t h. record { nodes = []; inside = []; after = s.table; count = refl; is = λ u e. ap (λ v. Some (Ok v)) (same-state u s.table e) }; alike = λ s t e. none-alike s t }

-- an event that changes nothing
aside : (e : Event) → ((at : ℕ) (s : State) → step at e s ≡ Some (Ok s)) → AreNodes 0 (e ∷ [])
aside e k = record {
  is = λ s t h. record { nodes = []; inside = []; after = s.table; count = refl; is = λ u q. reaches-one e u (with_nodes u [] [] s.table) (k 0 u ∙ ap (λ v. Some (Ok v)) (same-state u s.table q)) };
  alike = λ s t q. aside-alike e s t (λ at. k at s);
}

pub aside-start : AreNodes 0 (stream_start ∷ [])
unfolding step
aside-start = aside stream_start (λ at s. refl)

pub aside-end : AreNodes 0 (stream_end ∷ [])
unfolding step
aside-end = aside stream_end (λ at s. refl)

pub aside-document : (explicit : Bool) → AreNodes 0 (document_end explicit ∷ [])
unfolding step
aside-document explicit = aside (document_end explicit) (λ at s. refl)

-- ---- a scalar, an alias

scalar-from : (a : Anchor) (g : WrittenTag) (y : Style) (x : List ℕ) (s t : State) (r : Resolved) → resolve g y x ≡ r → Some (and_then (placed 0 r) (scalar_added a s)) ≡ Some (Ok t) → Adding 1 (scalar_event a g y x ∷ []) s.table
unfolding step
scalar-from a g y x s t (Err e) q h = absurd (cc)
scalar-from a g y x s t (Ok r) q h =
    let tree = scalar r.0 r.1 in
    let to : Table → Table = λ b. closed a (length b) tree (opened a b) in
    record {
      nodes = tree ∷ [];
      inside = tree ∷ [];
      after = to s.table;
      count = refl;
      is = λ u e. reaches-one (scalar_event a g y x) u (with_nodes u (tree ∷ []) (tree ∷ []) (to s.table)) (ap (λ o. Some (and_then (placed 0 o) (scalar_added a u))) q ∙ ap (λ b. Some (Ok (with_nodes u (tree ∷ []) (tree ∷ []) (to b)))) e);
    }

pub scalar-node : (a : Anchor) (g : WrittenTag) (y : Style) (x : List ℕ) → AreNodes 1 (scalar_event a g y x ∷ [])
unfolding step
scalar-node a g y x = record { is = λ s t h. scalar-from a g y x s t (resolve g y x) refl (one-reached (scalar_event a g y x) s t h); alike = λ s t e. scalar-alike a g y x s t }

alias-from : (name : List ℕ) (s t : State) (r : Result Tree Cause) → tree_named (last_named name s.table) ≡ r → Some (and_then (placed 0 r) (added s)) ≡ Some (Ok t) → Adding 1 (alias_event name ∷ []) s.table
unfolding step
alias-from name s t (Err e) q h = absurd (cc)
alias-from name s t (Ok tree) q h =
    record {
      nodes = tree ∷ [];
      inside = [];
      after = s.table;
      count = refl;
      is = λ u e. reaches-one (alias_event name) u (with_nodes u (tree ∷ []) [] s.table)
          (ap (λ b. Some (and_then (placed 0 (tree_named (last_named name b))) (added u))) e
          ∙ (ap (λ o. Some (and_then (placed 0 o) (added u))) q
          ∙ (λ z. Some (Ok (record { inner = u.inner ++ (tree ∷ []); outer = u.outer; table = e z; done = sym (append-nil u.done) z })))));
    }

pub alias-node : (name : List ℕ) → AreNodes 1 (alias_event name ∷ [])
unfolding step
alias-node name = record { is = λ s t h. alias-from name s t (tree_named (last_named name s.table)) refl (one-reached (alias_event name) s t h); alike = λ s t e. alias-alike name s t e }

-- ---- nodes behind nodes

joined : (s : State) (ts vs us ws : List Tree) (b c : Table) → with_nodes (with_nodes s ts us b) vs ws c ≡ with_nodes s (ts ++ vs) (us ++ ws) c
joined s ts vs us ws b c = λ z. record { inner = append_assoc s.inner ts vs z; outer = s.outer; table = c; done = append_assoc s.done us ws z }

-- whole nodes come to the same from another state
nodes-meet : (n : ℕ) (xs : List Event) (s t m : State) → AreNodes n xs → s.table ≡ t.table → Reaches xs s m → Meets xs m t
nodes-meet n xs s t m p e r =
    let a = p.is s m r in
    record { state = with_nodes t a.nodes a.inside a.after; is = a.is t (sym e); same = ap (λ z. z.table) (reaches-same xs s m (with_nodes s a.nodes a.inside a.after) r (a.is s refl)) }

pub nodes-both : (n m : ℕ) (xs ys : List Event) → AreNodes n xs → AreNodes m ys → AreNodes (n + m) (xs ++ ys)
nodes-both n m xs ys p q = record {
  is = λ s t h.
      let r = reaches-parts xs ys s t h in
      let a = p.is s r.middle r.front in
      let at : r.middle ≡ with_nodes s a.nodes a.inside a.after = reaches-same xs s r.middle (with_nodes s a.nodes a.inside a.after) r.front (a.is s refl) in
      let b = q.is r.middle t r.back in
      record {
        nodes = a.nodes ++ b.nodes;
        inside = a.inside ++ b.inside;
        after = b.after;
        count = length-append a.nodes b.nodes ∙ (λ z. a.count z + b.count z);
        is = λ u e.
            let v = with_nodes u a.nodes a.inside a.after in
            let w = with_nodes v b.nodes b.inside b.after in
            subst (Reaches (xs ++ ys) u) (joined u a.nodes b.nodes a.inside b.inside a.after b.after) (reaches-both xs ys u v w (a.is u e) (b.is v (sym (ap (λ k. k.table) at))));
      };
  alike = λ s t e. both-alike xs ys s t (p.alike s t e) (λ k r. nodes-meet n xs s t k p e r) q.alike;
}

-- ---- a collection

-- what a collection's start comes to
pub record Begins (k : Collection) (a : Anchor) (g : WrittenTag) (s t : State) : Type 0 where
  pub tag : List ℕ
  pub is : collection_tag (collection_number k) g ≡ Ok tag
  pub at : t ≡ collection_begun a s tag

begins-from : (k : Collection) (a : Anchor) (g : WrittenTag) (s t : State) (r : Result (List ℕ) Cause) → collection_tag (collection_number k) g ≡ r → Some (and_then (placed 0 r) (λ h. Ok (collection_begun a s h))) ≡ Some (Ok t) → Begins k a g s t
begins-from k a g s t (Err e) q h = absurd (cc)
begins-from k a g s t (Ok tag) q h = let e : t ≡ collection_begun a s tag = cc in record { tag = tag; is = q; at = e }

pub begins : (k : Collection) (flow : Bool) (a : Anchor) (g : WrittenTag) (s t : State) → step 0 (start_of k flow a g) s ≡ Some (Ok t) → Begins k a g s t
unfolding step
begins kinds.Sequence flow a g s t h = begins-from kinds.Sequence a g s t (collection_tag 1 g) refl h
begins kinds.Mapping flow a g s t h = begins-from kinds.Mapping a g s t (collection_tag 2 g) refl h

-- what its end comes to
closing : (j : Collection) (a : Anchor) (u : State) (tag : List ℕ) (ts us : List Tree) (slot : ℕ) (b : Table) → slot ≡ length u.table →
    let tree = collection_from (is_mapping j) tag ts in
    Reaches (end_of j ∷ []) (with_nodes (collection_begun a u tag) ts us b) (with_nodes u (tree ∷ []) (us ++ (tree ∷ [])) (closed a slot tree b))
closing j a u tag ts us slot b e =
    let tree = collection_from (is_mapping j) tag ts in
    let v = with_nodes (collection_begun a u tag) ts us b in
    reaches-one (end_of j) v (with_nodes u (tree ∷ []) (us ++ (tree ∷ [])) (closed a slot tree b))
    (ended-step j v ∙ (λ z. Some (Ok (record { inner = u.inner ++ (tree ∷ []); outer = u.outer; table = closed a (sym e z) tree b; done = append_assoc u.done us (tree ∷ []) z }))))

start-meets : (k : Collection) (flow : Bool) (a : Anchor) (g : WrittenTag) (s t m : State) → s.table ≡ t.table → Reaches (start_of k flow a g ∷ []) s m → Meets (start_of k flow a g ∷ []) m t
start-meets k flow a g s t m e r =
    let start = start_of k flow a g in
    let b = begins k flow a g s m (one-reached start s m r) in
    let u = collection_begun a t b.tag in
    record { state = u; is = reaches-one start t u (begun-step k flow a g b.tag t b.is); same = ap (λ z. z.table) b.at ∙ ap (opened a) e }

-- events behind a collection's start
pub opened-alike : (k : Collection) (flow : Bool) (a : Anchor) (g : WrittenTag) (es : List Event) → ((m n : State) → m.table ≡ n.table → Alike es m n) → (s t : State) → s.table ≡ t.table → Alike (start_of k flow a g ∷ es) s t
opened-alike k flow a g es f s t e = both-alike (start_of k flow a g ∷ []) es s t (start-alike k flow a g s t) (λ m r. start-meets k flow a g s t m e r) f

pub collection-node : (k j : Collection) (flow : Bool) (a : Anchor) (g : WrittenTag) (n : ℕ) (es : List Event) → AreNodes n es → AreNodes 1 (start_of k flow a g ∷ (es ++ (end_of j ∷ [])))
collection-node k j flow a g n es p = record {
  is = λ s t h.
      let start = start_of k flow a g in
      let last = end_of j ∷ [] in
      let f = reaches-parts (start ∷ []) (es ++ last) s t h in
      let b = begins k flow a g s f.middle (one-reached start s f.middle f.front) in
      let m = reaches-parts es last f.middle t f.back in
      let c = p.is f.middle m.middle m.front in
      let tree = collection_from (is_mapping j) b.tag c.nodes in
      let after = closed a (length s.table) tree c.after in
      record {
        nodes = tree ∷ [];
        inside = c.inside ++ (tree ∷ []);
        after = after;
        count = refl;
        is = λ u e.
            let v = collection_begun a u b.tag in
            let w = with_nodes v c.nodes c.inside c.after in
            let x = with_nodes u (tree ∷ []) (c.inside ++ (tree ∷ [])) after in
            let same : v.table ≡ f.middle.table = ap (opened a) e ∙ sym (ap (λ y. y.table) b.at) in
            reaches-both (start ∷ []) (es ++ last) u v x (reaches-one start u v (begun-step k flow a g b.tag u b.is)) (reaches-both es last v w x (c.is v same) (closing j a u b.tag c.nodes c.inside (length s.table) c.after (ap length (sym e))));
      };
  alike = opened-alike k flow a g (es ++ (end_of j ∷ [])) (λ m l q. both-alike es (end_of j ∷ []) m l (p.alike m l q) (λ r h. nodes-meet n es m l r p q h) (λ r h u. end-alike j r h));
}

-- ---- a mapping that begins before a node

-- the last node of a log, and what stands before it
pub record Last (front es : List Event) (c : TreeBuilder) : Type 0 where
  pub state : State
  pub is : Reaches front initial_state state
  pub adding : Adding 1 es state.table
  pub holds : Holds c (with_nodes state adding.nodes adding.inside adding.after)

pub last-node : (c : TreeBuilder) (front es : List Event) → AreNodes 1 es → Follows c (front ++ es) → Last front es c
last-node c front es p f =
    let r = reaches-parts front es initial_state f.state f.is in
    let a = p.is r.middle f.state r.back in
    let at = reaches-same es r.middle f.state (with_nodes r.middle a.nodes a.inside a.after) r.back (a.is r.middle refl) in
    record { state = r.middle; is = r.front; adding = a; holds = subst (Holds c) at f.holds }

pub follows-before : (c new : TreeBuilder) (front es : List Event) (tag : List ℕ) (l : Last front es c) → collection_tag 2 untagged ≡ Ok tag → Holds new (with_nodes (collection_begun None l.state tag) l.adding.nodes l.adding.inside l.adding.after)
    → (flow : Bool) → Follows new (front ++ (mapping_start flow None untagged ∷ es))
follows-before c new front es tag l e h flow =
    let m = mapping_start flow None untagged in
    let u = collection_begun None l.state tag in
    let w = with_nodes u l.adding.nodes l.adding.inside l.adding.after in
    let both = reaches-both (m ∷ []) es l.state u w (reaches-one m l.state u (begun-step kinds.Mapping flow None untagged tag l.state e)) (l.adding.is u refl) in
    record { state = w; is = reaches-both front (m ∷ es) initial_state l.state w l.is both; holds = h }
