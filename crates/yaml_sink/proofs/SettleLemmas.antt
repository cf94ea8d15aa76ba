-- A list's starts, put among its events in their places.
use Rattle.std.proofs.Common.{◌≡◌, ◌≤◌, ◌<◌, ℕ, ◌+◌, ◌-◌, suc, List, [], ◌∷◌, ◌++◌, length, map, take, drop, get_or, set, min, refl, sym, ◌∙◌, ap, subst, append_assoc, arith}
use Rattle.std.specs.Prelude.{insert}
use Rattle.std.specs.List.{swap}
use Rattle.std.proofs.lemmas.List.{map-append, append-nil, length-append, length-map, length-set, length-take-le, take-append-drop, take-take, take-set-le, drop-set, drop-set-lt, drop_all, get_or-take}
use Rattle.std.proofs.lemmas.List.Edits.{swap_is, length-swap}
use Rattle.std.proofs.Math.Seq.{take-append_seam, drop-append_seam, take-add, drop-cons}
use Rattle.yaml_definitions.specs.model.Event.{Event}
use Rattle.yaml_text.specs.EventModel.{event_of}
use Rattle.yaml_text.specs.declared.event.Event as code
use Rattle.yaml_sink.specs.ListModel.{HeldList, IsPut, Lifted, opening, woven, Rises}
use Rattle.yaml_sink.specs.declared.list.Start.{Start}
use Rattle.yaml_sink.specs.declared.list.EventList.{EventList}
use Rattle.yaml_sink.proofs.WeaveLemmas.{woven_on, woven_joined, rises_front, rises_back}

-- ---- events that move towards the end

swap_front : {A : Type 0} (d : A) (xs : List A) (i j : ℕ) → i ≤ j → j < length xs → take i (swap xs i j) ≡ take i xs
swap_front d xs i j l m =
    ap (take i) (sym (swap_is xs i j d (omega (arith, l, m)) m)) ∙ take-set-le i (set xs i (get_or xs j d)) j (get_or xs i d) l ∙ take-set-le i xs i (get_or xs j d) (omega arith)

swap_back : {A : Type 0} (d : A) (xs : List A) (i j : ℕ) → i ≤ j → j < length xs → drop j (swap xs i j) ≡ get_or xs i d ∷ drop (j + 1) xs
swap_back d xs i j l m =
    let n : j < length (set xs i (get_or xs j d)) = omega (arith, m, length-set xs i (get_or xs j d)) in
    ap (drop j) (sym (swap_is xs i j d (omega (arith, l, m)) m))
    ∙ drop-set (set xs i (get_or xs j d)) j (get_or xs i d) n
    ∙ ap (λ v. get_or xs i d ∷ v) (drop-set-lt (j + 1) xs i (get_or xs j d) (omega (arith, l)))

pub lifts_none : {A : Type 0} (old : List A) (to by : ℕ) → Lifted old to to by old
lifts_none old to by = record {
  front = refl;
  back = (let e : to - to ≡ 0 = omega arith in ap (λ k. take k (drop to old) ++ drop (to + by) old) (sym e));
  count = refl;
}

lifted_more : {A : Type 0} (d : A) (old now : List A) (i to by : ℕ) → i + 1 ≤ to → to + by ≤ length old → Lifted old (i + 1) to by now → Lifted old i to by (swap now i (i + by))
lifted_more d old now i to by l m h =
    let n : i + by < length now = (let c = h.count in omega (arith, c, l, m)) in
    let k : i < length old = omega (arith, l, m) in
    let low : i ≤ i + by = omega arith in
    let same : get_or now i d ≡ get_or old i d =
    sym (get_or-take (i + 1) now i d (omega arith)) ∙ ap (λ v. get_or v i d) h.front ∙ get_or-take (i + 1) old i d (omega arith) in
    let place : i + by + 1 ≡ i + 1 + by = omega arith in
    let many : to - i ≡ suc (to - (i + 1)) = omega (arith, l) in
    let one : suc i ≡ i + 1 = omega arith in
    record {
      front =
          swap_front d now i (i + by) low n
          ∙ sym (take-take i (i + 1) now (omega arith)) ∙ ap (take i) h.front ∙ take-take i (i + 1) old (omega arith);
      back =
          swap_back d now i (i + by) low n
          ∙ ap (λ v. v ∷ drop (i + by + 1) now) same
          ∙ ap (λ v. get_or old i d ∷ drop v now) place
          ∙ ap (λ v. get_or old i d ∷ v) h.back
          ∙ ap (λ v. (get_or old i d ∷ take (to - (i + 1)) (drop v old)) ++ drop (to + by) old) (sym one)
          ∙ ap (λ v. take (suc (to - (i + 1))) v ++ drop (to + by) old) (sym (drop-cons old i d k))
          ∙ ap (λ v. take v (drop i old) ++ drop (to + by) old) (sym many);
      count = length-swap now i (i + by) ∙ h.count;
    }

pub lifts_more : {A : Type 0} (old now : List A) (i to by : ℕ) → i + 1 ≤ to → to + by ≤ length old → Lifted old (i + 1) to by now → Lifted old i to by (swap now i (i + by))
lifts_more [] now i to by l m h = absurd (omega (arith, l, m))
lifts_more (x ∷ xs) now i to by l m h = lifted_more x (x ∷ xs) now i to by l m h

-- ---- starts that are put among them

-- the events before a place are still as they were, and those behind it stand so far behind as there are starts left
pub record Settled (log : List Event) (evs : List code.Event) (ss : List Start) (to : ℕ) : Type 0 where
  pub rises : Rises ss to
  pub is : woven (map event_of (take to evs)) ss ++ map event_of (drop (to + length ss) evs) ≡ log

pub settles_none : (a : EventList) (log : List Event) (evs : List code.Event) → HeldList a log → take (length a.events.items) evs ≡ a.events.items → length evs ≡ length a.events.items + length a.starts.items → Settled log evs a.starts.items (length a.events.items)
settles_none a log evs h f n = record {
  rises = h.rises;
  is =
      ap (λ v. woven (map event_of v) a.starts.items ++ map event_of (drop (length a.events.items + length a.starts.items) evs)) f
      ∙ ap (λ v. woven (map event_of a.events.items) a.starts.items ++ map event_of v) (drop_all (length a.events.items + length a.starts.items) evs (omega (arith, n)))
      ∙ append-nil (woven (map event_of a.events.items) a.starts.items)
      ∙ h.is;
}

insert_seam : (xs ys : List Event) (k : ℕ) (v : Event) → k ≡ length xs → insert (xs ++ ys) k v ≡ xs ++ v ∷ ys
insert_seam xs ys k v e =
    ap (λ n. insert (xs ++ ys) n v) e
    ∙ ap (λ u. u ++ v ∷ drop (length xs) (xs ++ ys)) (take-append_seam xs ys) ∙ ap (λ u. xs ++ v ∷ u) (drop-append_seam xs ys)

-- what a start that is put leaves: it stands at its place, and the events behind it too
pub is_put : (old mid now : List code.Event) (e : code.Event) (v : Event) (from to left : ℕ) → from ≤ to → to + (left + 1) ≤ length old → Lifted old from to (left + 1) mid → now ≡ set mid (from + left) e → event_of e ≡ v → IsPut old v from to left now
is_put old mid now e v from to left l m h g o =
    let room : from + left < length mid = (let c = h.count in omega (arith, c, l, m)) in
    let place : from + left + 1 ≡ from + (left + 1) = omega arith in
    record {
      front = ap (take from) g ∙ take-set-le from mid (from + left) e (omega arith) ∙ h.front;
      back =
          ap (λ u. map event_of (drop (from + left) u)) g
          ∙ ap (map event_of) (drop-set mid (from + left) e room)
          ∙ ap (λ u. event_of e ∷ map event_of (drop u mid)) place
          ∙ ap (λ u. event_of e ∷ map event_of u) h.back
          ∙ ap (λ u. u ∷ map event_of (take (to - from) (drop from old) ++ drop (to + (left + 1)) old)) o;
      count = ap length g ∙ length-set mid (from + left) e ∙ h.count;
    }

pub settles_more : (log : List Event) (evs new : List code.Event) (ss rest : List Start) (s : Start) (from to : ℕ) → ss ≡ rest ++ s ∷ [] → from ≡ min s.place to → to + length ss ≤ length evs → IsPut evs (opening s) from to (length rest) new → Settled log evs ss to → Settled log new rest from
settles_more log evs new ss rest s from to split f m put h =
    let rises : Rises (rest ++ s ∷ []) to = subst (λ v. Rises v to) split h.rises in
    let last = (rises_back rest (s ∷ []) to rises).0 in
    let here : from ≡ s.place = omega (arith, f, last) in
    let count : length ss ≡ length rest + 1 = ap length split ∙ length-append rest (s ∷ []) in
    let front = take from evs in
    let moved = take (to - from) (drop from evs) in
    let fits : from ≤ length evs = omega (arith, here, last, m) in
    let n : length (map event_of front) ≡ from = length-map front event_of ∙ length-take-le from evs fits in
    let whole : take to evs ≡ front ++ moved = (let t : to ≡ from + (to - from) = omega (arith, here, last) in ap (λ v. take v evs) t ∙ take-add from (to - from) evs) in
    let W = woven (map event_of front) rest in
    let among : woven (map event_of (take to evs)) ss ≡ W ++ opening s ∷ map event_of moved =
    ap (λ v. woven (map event_of v) ss) whole
    ∙ ap (λ v. woven v ss) (map-append event_of front moved)
    ∙ ap (woven (map event_of front ++ map event_of moved)) split
    ∙ woven_joined (map event_of front ++ map event_of moved) rest (s ∷ [])
    ∙ ap (λ v. woven v rest) (insert_seam (map event_of front) (map event_of moved) s.place (opening s) (sym here ∙ sym n))
    ∙ woven_on (map event_of front) (opening s ∷ map event_of moved) rest (subst (Rises rest) (sym here ∙ sym n) (rises_front rest (s ∷ []) to rises)) in
    record {
      rises = subst (Rises rest) (sym here) (rises_front rest (s ∷ []) to rises);
      is =
          ap (λ v. woven (map event_of v) rest ++ map event_of (drop (from + length rest) new)) put.front
          ∙ ap (λ v. W ++ v) put.back
          ∙ ap (λ v. W ++ opening s ∷ map event_of (moved ++ drop (to + v) evs)) (sym count)
          ∙ ap (λ v. W ++ opening s ∷ v) (map-append event_of moved (drop (to + length ss) evs))
          ∙ sym (append_assoc W (opening s ∷ map event_of moved) (map event_of (drop (to + length ss) evs)))
          ∙ ap (λ v. v ++ map event_of (drop (to + length ss) evs)) (sym among)
          ∙ h.is;
    }

pub settles_all : (log : List Event) (evs : List code.Event) (ss : List Start) (to : ℕ) → ss ≡ [] → Settled log evs ss to → map event_of evs ≡ log
settles_all log evs ss to e h =
    let zero_more : to + 0 ≡ to = omega arith in
    sym (ap (map event_of) (take-append-drop to evs))
    ∙ map-append event_of (take to evs) (drop to evs)
    ∙ ap (λ v. map event_of (take to evs) ++ map event_of (drop v evs)) (sym zero_more)
    ∙ ap (λ v. woven (map event_of (take to evs)) v ++ map event_of (drop (to + length v) evs)) (sym e)
    ∙ h.is
