-- Where a path leads, step by step.
use Rattle.std.proofs.Common.{◌≡◌, ℕ, ◌+◌, ◌*◌, ◌&&◌, Bool, not, List, [], ◌∷◌, length, map, refl, sym, ◌∙◌, ap, subst, arith}
use Rattle.std.specs.Prelude.{Option, Some, None, IfNone}
use Rattle.std.specs.List.{slice_get}
use Rattle.std.specs.Borrow.{Bor}
use Rattle.yaml_tree.specs.Shown.{inside_shown}
use Rattle.yaml_tree.specs.declared.node.NodeId.{NodeId}
use Rattle.yaml_tree.specs.declared.shown.Inside.TheVariants.{Sequence}
use Rattle.yaml_tree.specs.declared.shown.Shown.{Shown}
use Rattle.yaml_tree.proofs.Lists.{get-unmap}
use Rattle.yaml_store_rank.specs.Forests.{Forests, entries_at, held_shown, IsRanked}
use Rattle.yaml_path.specs.declared.places.Places.{Places}
use Rattle.yaml_diff.specs.declared.difference.Step.{Step}
use Rattle.yaml_diff.specs.declared.difference.Step.TheVariants.{Item, Value}
use Rattle.review_places.specs.Layout.{event_below, is_alias_event, IsLayout, root_events}
use Rattle.review_places.specs.Seats.{items_held, items_at, place_on, LeadsDown, IsRoot, IsPart, Leads, document, further, IsEnd, EndsNowhere}
use Rattle.review_places.specs.declared.finder.Side.{Side}
use Rattle.review_places.specs.declared.finder.Stream.{Stream}
use Rattle.review_places.specs.declared.layout.Layout.{Layout}
use Rattle.review_places.specs.declared.trace.Shape.{Shape}
use Rattle.review_places.proofs.RankLaws.{some-is, one-place}

-- nodes of one number are one
same-id : (a b : NodeId) → a.0 ≡ b.0 → a ≡ b
same-id a b e = λ z. record { 0 = e z }

-- ---- the parts of a node

pub if_none : {X : Type 0} {P Q : Type 0} (o : Option X) → IfNone o P → (P → Q) → IfNone o Q
if_none None h f = f h
if_none (Some x) h f = h

abbrev numbered : NodeId × NodeId → ℕ × ℕ
numbered p = (p.0.0, p.1.0)

-- the value at a place, with its number among the parts
abbrev told : ℕ → NodeId × NodeId → NodeId × ℕ
told place p = (p.1, place * 2 + 1)

-- no item stands at a place at which a sequence shows none
pub item-none : (f : Forests) (side : Side) (places : Places) (node : NodeId) (s : Shown NodeId) (items : Bor (List NodeId)) (place : Option ℕ) (result : Option (NodeId × ℕ)) → slice_get f.nodes node.0 ≡ Some (held_shown s) → s.inside ≡ Sequence items → place ≡ place_on side places
    → IfNone result ((number : ℕ) → place ≡ Some number → slice_get items.now number ≡ None) → IfNone result ((part : NodeId) (number : ℕ) → LeadsDown f side (Item places) node part number → ⊥)
item-none f side places node s items place result there kind at h =
    if_none result h
    (λ none part number d.
    let is : items_at f node.0 ≡ map (λ i. i.0) items.now = ap items_held (there ∙ ap (λ z. Some (s.tag.now, inside_shown (λ i. i.0) z)) kind) in
    let own = get-unmap (λ i. i.0) items.now number part.0 (ap (λ z. slice_get z number) (sym is) ∙ d.1) in
    (let q : Some own.0 ≡ None = sym own.1 ∙ none number (at ∙ d.0) in absurd (cc)))

-- a step leads to one part at most
pub down-one : (f : Forests) → IsRanked f → (side : Side) (step : Step) (node a b : NodeId) (m n : ℕ) → LeadsDown f side step node a m → LeadsDown f side step node b n → (a ≡ b) × (m ≡ n)
down-one f are side (Item places) node a b m n h k =
    let e : m ≡ n = some-is (sym h.0 ∙ k.0) in
    (same-id a b (some-is (sym h.1 ∙ ap (slice_get (items_at f node.0)) e ∙ k.1)), e)
down-one f are side (Value key) node a b m n h k =
    let e : h.place ≡ k.place = one-place f are node.0 h.place k.place (h.own, a.0) (k.own, b.0) h.entry k.entry (h.equal ∙ sym k.equal) in
    (same-id a b (ap (λ z. z.1) (some-is (sym h.entry ∙ ap (slice_get (entries_at f node.0)) e ∙ k.entry))), h.is ∙ ap (λ z. z * 2 + 1) e ∙ sym k.is)

module _ (f : Forests) (stream : Stream) (layout : Layout) where
  root-one : (step : Step) (a b : NodeId) (m n : ℕ) → IsRoot f stream layout step a m → IsRoot f stream layout step b n → (a ≡ b) × (m ≡ n)
  root-one (Item places) a b m n h k =
      let e : h.0 ≡ k.0 = some-is (sym h.1 ∙ k.1) in
      (some-is (sym h.2 ∙ ap (slice_get stream.roots.now) e ∙ k.2), some-is (sym h.3 ∙ ap (slice_get (root_events layout)) e ∙ k.3))
  root-one (Value key) a b m n h k = absurd h

  part-one : IsRanked f → (step : Step) (node a b : NodeId) (event m n : ℕ) → IsPart f stream layout step node event a m → IsPart f stream layout step node event b n → (a ≡ b) × (m ≡ n)
  part-one are step node a b event m n h k =
      let d = down-one f are stream.side step node a b h.0 k.0 h.1 k.1 in
      (d.0, some-is (sym h.2 ∙ ap (event_below layout event) d.1 ∙ k.2))

  nowhere : (path : List Step) (node : NodeId) (event : ℕ) (own : Bool) → path ≡ [] → Leads f stream layout path node event own → ⊥
  nowhere _ _ _ _ e (document r) = absurd (cc)
  nowhere _ _ _ _ e (further l p) = absurd (cc)

  -- A path leads to one node and event at most.
  pub leads-one : IsRanked f → (p q : List Step) (a b : NodeId) (m n : ℕ) (v w : Bool) → p ≡ q → Leads f stream layout p a m v → Leads f stream layout q b n w → (a ≡ b) × (m ≡ n)
  leads-one are _ _ _ _ _ _ _ _ e (document {step} {node = a} {event = m} r) (document {step = other} {node = b} {event = n} s) =
      let v : step ≡ other = cc in
      root-one other a b m n (subst (λ z. IsRoot f stream layout z a m) v r) s
  leads-one are _ _ _ _ _ _ _ _ e (document r) (further {path} {node} {event} {own} l p) = absurd (nowhere path node event own (cc) l)
  leads-one are _ _ _ _ _ _ _ _ e (further {path} {node} {event} {own} l p) (document r) = absurd (nowhere path node event own (cc) l)
  leads-one are _ _ _ _ _ _ _ _ e (further {path} {step} {node} {part = a} {event} {below = m} {own} l p) (further {path = there} {step = other} {node = from} {part = b} {event = at} {below = n} {own = so} k q) =
      let v : step ≡ other = cc in
      let g : path ≡ there = cc in
      let i = leads-one are path there node from event at own so g l k in
      let h : IsPart f stream layout other from at a m = subst (λ z. IsPart f stream layout z from at a m) v (subst (λ z. IsPart f stream layout step z at a m) i.0 (subst (λ z. IsPart f stream layout step node z a m) i.1 p)) in
      part-one are other from a b at m n h q

  -- ---- one more step

  pub end-first : (step : Step) (node : NodeId) (event : ℕ) (alias : Bool) → IsRoot f stream layout step node event → ((s : List Shape) → IsLayout s layout → alias ≡ is_alias_event layout event) → IsEnd f stream layout (step ∷ []) node event (not alias)
  end-first step node event alias r t = record { own = not (is_alias_event layout event); leads = document r; tells = λ s h. ap not (t s h) }

  pub end-further : (path : List Step) (step : Step) (node part : NodeId) (event below : ℕ) (told alias : Bool) → IsEnd f stream layout path node event told → IsPart f stream layout step node event part below
      → ((s : List Shape) → IsLayout s layout → alias ≡ is_alias_event layout below) → IsEnd f stream layout (step ∷ path) part below (told && not alias)
  end-further path step node part event below told alias i p t = record {
    own = i.own && not (is_alias_event layout below);
    leads = further i.leads p;
    tells = λ s h. ap (λ z. z && not alias) (i.tells s h) ∙ ap (λ z. i.own && not z) (t s h);
  }

  -- the path without its last step
  before : (p path : List Step) (step : Step) (part : NodeId) (below : ℕ) (own : Bool) → p ≡ step ∷ path → Leads f stream layout p part below own → (path ≡ [] → ⊥) → (node : NodeId) × (event : ℕ) × (so : Bool) × Leads f stream layout path node event so × IsPart f stream layout step node event part below
  before _ path step _ _ _ e (document r) d = absurd (d (cc))
  before _ path step _ _ _ e (further {path = above} {step = other} {node} {part} {event} {below} {own} l p) d =
      let v : other ≡ step = cc in
      let g : above ≡ path = cc in
      (node, event, own, subst (λ z. Leads f stream layout z node event own) g l, subst (λ z. IsPart f stream layout z node event part below) v p)

  pub ends-first : (path : List Step) (step : Step) → length path ≡ 0 → ((node : NodeId) (event : ℕ) → IsRoot f stream layout step node event → ⊥) → EndsNowhere f stream layout (step ∷ path)
  ends-first path step e none = λ node event own l. by (step ∷ path) node event own refl l
    where
      empty : (path : List Step) → length path ≡ 0 → path ≡ []
      empty [] e = refl
      empty (s ∷ path) e = absurd (omega (arith, e))

      by : (p : List Step) (node : NodeId) (event : ℕ) (own : Bool) → p ≡ step ∷ path → Leads f stream layout p node event own → ⊥
      by _ _ _ _ q (document {step = other} {node} {event} r) = none node event (let g : other ≡ step = cc in subst (λ z. IsRoot f stream layout z node event) g r)
      by _ _ _ _ q (further {path = above} {node} {event} {own} l p) = let g : above ≡ path = cc in nowhere above node event own (g ∙ empty path e) l

  pub ends-here : IsRanked f → (path : List Step) (step : Step) (node : NodeId) (event : ℕ) (told : Bool) → (path ≡ [] → ⊥) → IsEnd f stream layout path node event told
      → ((part : NodeId) (below : ℕ) → IsPart f stream layout step node event part below → ⊥) → EndsNowhere f stream layout (step ∷ path)
  ends-here are path step node event told d i none = λ part below own l.
      let b = before (step ∷ path) path step part below own refl l d in
      let o = leads-one are path path b.0 node b.1 event b.2 i.own refl b.3 i.leads in
      none part below (subst (λ z. IsPart f stream layout step z event part below) o.0 (subst (λ z. IsPart f stream layout step b.0 z part below) o.1 b.4))

  -- no part: a step leads to none, or no event is below for the only one
  pub no-event : IsRanked f → (step : Step) (node part : NodeId) (event number : ℕ) → LeadsDown f stream.side step node part number → event_below layout event number ≡ None → (other : NodeId) (below : ℕ) → IsPart f stream layout step node event other below → ⊥
  no-event are step node part event number d e other below p =
      let o = down-one f are stream.side step node other part p.0 number p.1 d in
      (let q : None ≡ Some below = sym e ∙ ap (event_below layout event) (sym o.1) ∙ p.2 in cc)
