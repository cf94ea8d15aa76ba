-- Where the nodes of paths stand.
use Rattle.std.proofs.Common.{inl, inr, ◌≡◌, ℕ, zero, suc, ◌+◌, ◌<◌, ◌≤◌, List, [], ◌∷◌, ◌++◌, map, length, get_or, refl, sym, ◌∙◌, ap, subst, arith}
use Rattle.std.specs.Prelude.{Option, Some, None, Result, Ok, Err, IfOk}
use Rattle.std.specs.Str.{chars}
use Rattle.yaml_definitions.specs.model.Event.{Event}
use Rattle.yaml_definitions.specs.model.Limits.{open_limit}
use Rattle.yaml_definitions.specs.grammar.Nodes.{wide}
use Rattle.yaml_definitions.specs.grammar.Streams.{ReadsText}
use Rattle.yaml_text.specs.Source.{bytes_of, text_of}
use Rattle.yaml_text.specs.declared.chars.Chars.{Chars}
use Rattle.yaml_text.specs.declared.fault.Fault.{Fault}
use Rattle.review_places.specs.Trace.{TraceHolds, shapes_in, offsets_in}
use Rattle.review_places.specs.declared.layout.Layout.{Layout}
use Rattle.review_places.specs.declared.trace.Trace.{Trace}
use Rattle.std.specs.List.{All, Contains, slice_get}
use Rattle.std.specs.List.Sorted.{IsPermutation}
use Rattle.std.proofs.lemmas.Bool.{cases_lt}
use Rattle.std.proofs.lemmas.List.Elements.{All-contains, Contains-push, Contains-append_left, Contains-push_cases}
use Rattle.std.proofs.lemmas.List.Sorted.{Contains-permutation}
use Rattle.std.proofs.lemmas.Option.{slice_get_within}
use Rattle.yaml_tree.specs.declared.node.NodeId.{NodeId}
use Rattle.yaml_path.specs.declared.place.Place.{Place}
use Rattle.yaml_diff.specs.declared.difference.Step.{Step}
use Rattle.yaml_store_rank.specs.Forests.{Forests}
use Rattle.review_places.specs.Layout.{offsets_of, IsLayout}
use Rattle.review_places.specs.Seats.{IsSeat, HasNoSeat}
use Rattle.review_places.specs.Told.{IsTold as IsGiven}
use Rattle.review_places.specs.declared.finder.Finder.{Finder}
use Rattle.review_places.specs.declared.finder.Seat.{Seat}
use Rattle.review_merge.specs.Placed.{unmarked, IsLaid, View, Views, IsPlaceOf, IsTold, AddsOffset, HasOffsets, HasPlaces}

-- ---- offsets

-- those of the first so many paths
pub record OffsetsTo (finder : Finder) (paths : List (List Step)) (count : ℕ) (offsets : List (ℕ × ℕ)) : Type 0 where
  pub each : (number : ℕ) (path : List Step) (offset : ℕ) → number < count → slice_get paths number ≡ Some path → Contains offsets (offset, number) → (seat : Seat) × IsSeat finder path seat × (seat.offset ≡ offset)
  pub none : (number : ℕ) (path : List Step) → number < count → slice_get paths number ≡ Some path → ((offset : ℕ) → Contains offsets (offset, number) → ⊥) → HasNoSeat finder path
  pub below : (offset number : ℕ) → Contains offsets (offset, number) → number < count

pub offsets_start : (finder : Finder) (paths : List (List Step)) → OffsetsTo finder paths 0 []
offsets_start finder paths = record { each = λ number path offset l e c. absurd (omega (arith, l)); none = λ number path l e n. absurd (omega (arith, l)); below = λ offset number c. absurd (omega (arith, c.1)) }

same_path : (paths : List (List Step)) (k n : ℕ) (path other : List Step) → k ≡ n → slice_get paths k ≡ Some path → slice_get paths n ≡ Some other → path ≡ other
same_path paths k n path other e a b = let q : slice_get paths k ≡ slice_get paths n = ap (slice_get paths) e in cc

pub offsets_seat : (finder : Finder) (paths : List (List Step)) (count : ℕ) (offsets more : List (ℕ × ℕ)) (path : List Step) (seat : Seat) → slice_get paths count ≡ Some path → IsSeat finder path seat → more ≡ offsets ++ (seat.offset, count) ∷ []
    → OffsetsTo finder paths count offsets → OffsetsTo finder paths (count + 1) more
offsets_seat finder paths count offsets more path seat here is e h = subst (OffsetsTo finder paths (count + 1)) (sym e) (record {
  each = λ number other offset l at c. elim (Contains-push_cases offsets (seat.offset, count) (offset, number) c) [
    | inl d ↦ h.each number other offset (h.below offset number d) at d
    | inr q ↦ (seat, subst (λ z. IsSeat finder z seat) (same_path paths count number path other (ap (λ z. z.1) q) here at) is, ap (λ z. z.0) q)
  ];
  none = λ number other l at n. elim (cases_lt number count) [
    | inl m ↦ h.none number other m at (λ offset c. n offset (Contains-append_left offsets ((seat.offset, count) ∷ []) (offset, number) c))
    | inr m ↦ let r : count ≡ number = omega (arith, l, m) in absurd (n seat.offset (subst (λ z. Contains (offsets ++ (seat.offset, count) ∷ []) (seat.offset, z)) r (Contains-push offsets (seat.offset, count))))
  ];
  below = λ offset number c. elim (Contains-push_cases offsets (seat.offset, count) (offset, number) c) [
    | inl d ↦ let l = h.below offset number d in omega (arith, l)
    | inr q ↦ let r : count ≡ number = ap (λ z. z.1) q in omega (arith, r)
  ];
})

pub offsets_none : (finder : Finder) (paths : List (List Step)) (count : ℕ) (offsets : List (ℕ × ℕ)) (path : List Step) → slice_get paths count ≡ Some path → HasNoSeat finder path → OffsetsTo finder paths count offsets → OffsetsTo finder paths (count + 1) offsets
offsets_none finder paths count offsets path here none h = record {
  each = λ number other offset l at c. h.each number other offset (h.below offset number c) at c;
  none = λ number other l at n. elim (cases_lt number count) [
    | inl m ↦ h.none number other m at n
    | inr m ↦ let r : count ≡ number = omega (arith, l, m) in subst (HasNoSeat finder) (same_path paths count number path other r here at) none
  ];
  below = λ offset number c. let l = h.below offset number c in omega (arith, l);
}

pub offsets_all : (finder : Finder) (paths : List (List Step)) (count : ℕ) (offsets : List (ℕ × ℕ)) → length paths ≤ count → OffsetsTo finder paths count offsets → HasOffsets finder paths offsets
offsets_all finder paths count offsets l h = record {
  each = λ number path offset at c. h.each number path offset (h.below offset number c) at c;
  none = λ number path at n. h.none number path (let m = slice_get_within paths number path at in omega (arith, l, m)) at n;
}

pub offsets_added : (finder : Finder) (paths : List (List Step)) (count : ℕ) (offsets more : List (ℕ × ℕ)) (path : List Step) → slice_get paths count ≡ Some path → AddsOffset finder path count offsets more → OffsetsTo finder paths count offsets
    → OffsetsTo finder paths (count + 1) more
offsets_added finder paths count offsets more path here (inl w) h = offsets_seat finder paths count offsets more path w.0 here w.1 w.2 h
offsets_added finder paths count offsets more path here (inr w) h = subst (OffsetsTo finder paths (count + 1)) (sym w.1) (offsets_none finder paths count offsets path here w.0 h)

-- ---- the layout of a stream

pub laid : (bytes : List ℕ) (source : Chars) (trace : Trace) (r : Result Layout Fault) → bytes_of source ≡ unmarked bytes → (events : List Event) × ReadsText (text_of source) wide open_limit events × TraceHolds trace events
    → IfOk r (λ layout. offsets_of layout ≡ offsets_in trace.events.items) → IfOk r (IsLayout (shapes_in trace.events.items)) → IfOk r (IsLaid bytes)
laid bytes source trace (Ok layout) t h o n = record { events = h.0; trace = trace; reads = subst (λ z. ReadsText (chars z) wide open_limit h.0) t h.1; traced = h.2; offsets = o; nodes = n }
laid bytes source trace (Err e) t h o n = tt

-- ---- places of offsets

contains_map : {X Y : Type 0} (f : X → Y) (xs : List X) (x : X) → Contains xs x → Contains (map f xs) (f x)
contains_map {X} {Y} f xs x c = let w = by xs c.0 c.1 c.2 in (c.0, w.0, w.1)
  where
    by : (xs : List X) (k : ℕ) → k < length xs → get_or xs k x ≡ x → (k < length (map f xs)) × (get_or (map f xs) k (f x) ≡ f x)
    by [] k l e = absurd (omega (arith, l))
    by (y ∷ xs) zero l e = (omega arith, ap f e)
    by (y ∷ xs) (suc k) l e = let w = by xs k (omega (arith, l)) e in (omega (arith, w.0), w.1)

from_map : {X Y : Type 0} (f : X → Y) (xs : List X) (y : Y) → Contains (map f xs) y → (x : X) × Contains xs x × (f x ≡ y)
from_map {X} {Y} f xs y c = by xs c.0 c.1 c.2
  where
    by : (xs : List X) (k : ℕ) → k < length (map f xs) → get_or (map f xs) k y ≡ y → (x : X) × Contains xs x × (f x ≡ y)
    by [] k l e = absurd (omega (arith, l))
    by (x ∷ xs) zero l e = (x, (0, omega arith, refl), e)
    by (x ∷ xs) (suc k) l e = let w = by xs k (omega (arith, l)) e in (w.0, (suc w.1.0, let m = w.1.1 in omega (arith, m), w.1.2), w.2)

pub seats_are : (g : Forests) (paths : List (List Step)) (roots : List NodeId) (bytes : List ℕ) (finder : Finder) (offsets : List (ℕ × ℕ)) (places : List (ℕ × Place)) → Views g (roots, bytes) (finder, bytes) → HasOffsets finder paths offsets
    → All (IsGiven (unmarked bytes) offsets) places → IsPermutation (map (λ given. given.1) offsets) (map (λ told. told.0) places) → (view : View) × Views g (roots, bytes) view × HasPlaces paths view places
seats_are g paths roots bytes finder offsets places views h given numbers = ((finder, bytes), views, by)
  where
    by : (number : ℕ) (path : List Step) (place : Option Place) → slice_get paths number ≡ Some path → IsTold places number place → IsPlaceOf path (finder, bytes) place
    by number path None at told = h.none number path at (λ offset c.
        let there = Contains-permutation (map (λ o. o.1) offsets) (map (λ t. t.0) places) number numbers (contains_map (λ (o : ℕ × ℕ). o.1) offsets (offset, number) c) in
        let w = from_map (λ (t : ℕ × Place). t.0) places number there in
        let q : w.0 ≡ (number, w.0.1) = (λ i. (w.2 i, w.0.1)) in
        told w.0.1 (subst (Contains places) q w.1))
    by number path (Some place) at told =
        let g = All-contains (IsGiven (unmarked bytes) offsets) places (number, place) given told in
        let w = h.each number path g.offset at g.given in
        (w.0, w.1, record { at = g.at; is = λ l. g.is (subst (λ z. z ≤ length (unmarked bytes)) w.2 l) ∙ sym w.2; placed = g.placed })
