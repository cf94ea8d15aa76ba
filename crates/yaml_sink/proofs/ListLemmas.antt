-- A list that holds a reader's events.
use Rattle.std.proofs.Common.{◌≡◌, ◌≤◌, ◌<◌, ℕ, ◌+◌, ◌-◌, zero, suc, List, [], ◌∷◌, ◌++◌, length, map, take, drop, get_or, set, min, refl, sym, ◌∙◌, ap, subst, arith}
use Rattle.std.specs.Prelude.{insert, slice_index_or}
use Rattle.std.proofs.lemmas.List.{map-append, length-append, length-map, length-take-le, append-nil, take-append-drop, take-map, set_split, get_or_default}
use Rattle.std.proofs.Math.Seq.{take-append_seam, drop-append_seam, drop-cons}
use Rattle.yaml_definitions.specs.model.Event.{Event}
use Rattle.yaml_definitions.specs.grammar.Events.{Props}
use Rattle.yaml_text.specs.EventModel.{event_of}
use Rattle.yaml_text.specs.declared.event.Event as code
use Rattle.yaml_sink.specs.PropertyRules.{Dresses, dressed, with_props}
use Rattle.yaml_sink.specs.Held.{Counts, Puts, Alters}
use Rattle.yaml_sink.specs.ListModel.{HeldList, IsAt, IsBefore, IsBehind, Splits, opening, woven, Rises}
use Rattle.yaml_sink.specs.declared.list.Start.{Start}
use Rattle.yaml_sink.specs.declared.list.EventList.{EventList}
use Rattle.yaml_sink.proofs.WeaveLemmas.{parted, length_woven, length_insert, woven_on, rises_on, put_event, put_start, rises_put, cut_short, dress_event, dress_start, rises_dressed, dressed_at, length_dressed_at}

-- ---- how many starts are before a mark

read_before : (ss : List Start) (k mark : ℕ) (s : Start) → s ≡ slice_index_or ss k s → k < length ss → s.place < mark - k → IsBefore ss k mark
read_before ss k mark s r l m = λ d.
    let e : (get_or ss k d).place ≡ s.place = ap (λ (v : Start). v.place) (get_or_default ss k d s l ∙ sym r) in
    omega (arith, e, m)

read_behind : (ss : List Start) (k mark : ℕ) (s : Start) → s ≡ slice_index_or ss k s → k < length ss → mark - k ≤ s.place → IsBehind ss k mark
read_behind ss k mark s r l m = λ d.
    let e : (get_or ss k d).place ≡ s.place = ap (λ (v : Start). v.place) (get_or_default ss k d s l ∙ sym r) in
    omega (arith, e, m)

read_at : (ss : List Start) (k place : ℕ) (s : Start) → s ≡ slice_index_or ss k s → k < length ss → s.place ≡ place → IsAt ss k place
read_at ss k place s r l e = (l, λ d. ap (λ (v : Start). v.place) (get_or_default ss k d s l ∙ sym r) ∙ e)

-- a start that is before a mark has a number below it
pub below_mark : (ss : List Start) (k mark : ℕ) → k < length ss → IsBefore ss k mark → k < mark
below_mark [] k mark l h = absurd (omega (arith, l))
below_mark (s ∷ ss) k mark l h = let b = h s in omega (arith, b)

pub before_here : (ss : List Start) (j mark : ℕ) → IsBefore ss j mark → (k : ℕ) → k ≡ j → IsBefore ss k mark
before_here ss j mark h k e = subst (λ i. IsBefore ss i mark) (sym e) h

pub splits_none : (ss : List Start) (mark count : ℕ) → count ≡ length ss → count ≡ 0 → Splits ss mark count
splits_none ss mark count e z = record {
  within = omega (arith, e);
  counted = omega (arith, z);
  before = λ k f. absurd (omega (arith, z, f));
  behind = λ l. absurd (omega (arith, e, l));
}

pub splits_all : (ss : List Start) (mark count k : ℕ) → count ≡ length ss → k + 1 ≡ count → IsBefore ss k mark → Splits ss mark count
splits_all ss mark count k e f h = record {
  within = omega (arith, e);
  counted = (let b = below_mark ss k mark (omega (arith, e, f)) h in omega (arith, b, f));
  before = λ j g. before_here ss k mark h j (omega (arith, f, g));
  behind = λ l. absurd (omega (arith, e, l));
}

-- ---- what is put at the end

plain_fits : (evs : List code.Event) → length evs ≤ length (map event_of evs)
plain_fits evs = let e = length-map evs event_of in omega (arith, e)

pub list_new : (a : EventList) → a.events.items ≡ [] → a.starts.items ≡ [] → HeldList a []
list_new a e s = record {
  rises = subst (λ v. Rises v (length a.events.items)) (sym s) tt;
  is = ap (woven (map event_of a.events.items)) s ∙ ap (map event_of) e;
}

pub list_counts : (a : EventList) (n : ℕ) → n ≡ length a.events.items + length a.starts.items → Counts HeldList a n
list_counts a n e = record {
  is = λ log h.
      let w = length_woven (map event_of a.events.items) a.starts.items in
      let m = length-map a.events.items event_of in
      let k = ap length h.is in
      omega (arith, e, w, m, k);
}

pub list_puts : (a b : EventList) (e : code.Event) (v : Event) → b.events.items ≡ a.events.items ++ e ∷ [] → b.starts.items ≡ a.starts.items → event_of e ≡ v → Puts HeldList a (v ∷ []) b
list_puts a b e v g s o = record {
  is = λ log h.
      let ss = a.starts.items in
      let more : length b.events.items ≡ length a.events.items + 1 = ap length g ∙ length-append a.events.items (e ∷ []) in
      let fits = plain_fits a.events.items in
      record {
        rises = subst (λ u. Rises u (length b.events.items)) (sym s) (rises_on ss (length a.events.items) (length b.events.items) (omega (arith, more)) h.rises);
        is =
            ap (woven (map event_of b.events.items)) s
            ∙ ap (λ u. woven (map event_of u) ss) g
            ∙ ap (λ u. woven u ss) (map-append event_of a.events.items (e ∷ []))
            ∙ woven_on (map event_of a.events.items) (event_of e ∷ []) ss (rises_on ss (length a.events.items) (length (map event_of a.events.items)) fits h.rises)
            ∙ ap (λ u. u ++ event_of e ∷ []) h.is
            ∙ ap (λ u. log ++ u ∷ []) o;
      };
}

-- ---- what is done behind a mark

abbrev weave : EventList → List Event
weave a = woven (map event_of a.events.items) a.starts.items

altered : (a b : EventList) (mark : ℕ) (f : List Event → List Event) → (mark ≤ length a.events.items + length a.starts.items → Rises a.starts.items (length a.events.items) → HeldList b (take mark (weave a) ++ f (drop mark (weave a)))) → Alters HeldList mark f a b
altered a b mark f h = record {
  is = λ log es e g.
      let w = length_woven (map event_of a.events.items) a.starts.items in
      let m = length-map a.events.items event_of in
      let k : length (weave a) ≡ length log + length es = ap length g.is ∙ length-append log es in
      let seam : take mark (weave a) ++ f (drop mark (weave a)) ≡ log ++ f es =
      ap (λ u. take mark u ++ f (drop mark u)) g.is
      ∙ ap (λ i. take i (log ++ es) ++ f (drop i (log ++ es))) e
      ∙ ap (λ u. u ++ f (drop (length log) (log ++ es))) (take-append_seam log es)
      ∙ ap (λ u. log ++ f u) (drop-append_seam log es) in
      subst (HeldList b) seam (h (omega (arith, e, w, m, k)) g.rises);
}

map_insert : (xs : List code.Event) (k : ℕ) (e : code.Event) → map event_of (insert xs k e) ≡ insert (map event_of xs) k (event_of e)
map_insert xs zero e = refl
map_insert [] (suc k) e = refl
map_insert (x ∷ xs) (suc k) e = ap (λ v. event_of x ∷ v) (map_insert xs k e)

module _ (a b : EventList) (mark count : ℕ) (splits : Splits a.starts.items mark count) where
  pub event_inserted : (place : ℕ) (e : code.Event) (v : Event) → length a.starts.items ≤ count → place ≡ min (mark - count) (length a.events.items) → b.events.items ≡ insert a.events.items place e → b.starts.items ≡ a.starts.items → event_of e ≡ v
      → Alters HeldList mark (λ es. v ∷ es) a b
  event_inserted place e v all p g s o = altered a b mark (λ es. v ∷ es) (λ l r.
      let evs = a.events.items in
      let ss = a.starts.items in
      let d = parted ss (length evs) mark count splits l r in
      let here : place ≡ mark - count = (let w = d.within in omega (arith, p, w)) in
      let more : length b.events.items ≡ suc (length evs) = ap length g ∙ length_insert evs place e in
      record {
        rises = subst (λ u. Rises u (length b.events.items)) (sym s) (rises_on ss (length evs) (length b.events.items) (omega (arith, more)) r);
        is =
            ap (woven (map event_of b.events.items)) s
            ∙ ap (λ u. woven (map event_of u) ss) g
            ∙ ap (λ u. woven u ss) (map_insert evs place e)
            ∙ ap (λ k. woven (insert (map event_of evs) k (event_of e)) ss) here
            ∙ put_event (map event_of evs) ss (length evs) mark count d (plain_fits evs) splits.counted (event_of e) all
            ∙ ap (insert (weave a) mark) o;
      })

  pub start_inserted : (place : ℕ) (s : Start) (v : Event) → place ≡ min (mark - count) (length a.events.items) → s.place ≡ place → b.starts.items ≡ insert a.starts.items count s → b.events.items ≡ a.events.items → opening s ≡ v
      → Alters HeldList mark (λ es. v ∷ es) a b
  start_inserted place s v p q t g o = altered a b mark (λ es. v ∷ es) (λ l r.
      let evs = a.events.items in
      let ss = a.starts.items in
      let d = parted ss (length evs) mark count splits l r in
      let here : s.place ≡ mark - count = (let w = d.within in omega (arith, p, q, w)) in
      record {
        rises = subst (λ u. Rises b.starts.items (length u)) (sym g) (subst (λ u. Rises u (length evs)) (sym t) (rises_put (map event_of evs) ss (length evs) mark count d (plain_fits evs) splits.counted s here));
        is =
            ap (λ u. woven (map event_of u) b.starts.items) g
            ∙ ap (woven (map event_of evs)) t
            ∙ put_start (map event_of evs) ss (length evs) mark count d (plain_fits evs) splits.counted s here
            ∙ ap (insert (weave a) mark) o;
      })

  pub list_cut : b.starts.items ≡ take count a.starts.items → b.events.items ≡ take (mark - count) a.events.items → Alters HeldList mark (λ _. []) a b
  list_cut t g = altered a b mark (λ _. []) (λ l r.
      let evs = a.events.items in
      let ss = a.starts.items in
      let d = parted ss (length evs) mark count splits l r in
      let n : length b.events.items ≡ mark - count = ap length g ∙ length-take-le (mark - count) evs d.within in
      record {
        rises = subst (λ u. Rises u (length b.events.items)) (sym t) (subst (Rises (take count ss)) (sym n) d.front);
        is =
            ap (woven (map event_of b.events.items)) t
            ∙ ap (λ u. woven (map event_of u) (take count ss)) g
            ∙ ap (λ u. woven u (take count ss)) (sym (take-map event_of (mark - count) evs))
            ∙ cut_short (map event_of evs) ss (length evs) mark count d (plain_fits evs) splits.counted
            ∙ sym (append-nil (take mark (weave a)));
      })

  pub event_dressed : (p : Props) → (IsAt a.starts.items count (mark - count) → ⊥) → Dresses p (mark - count) a.events.items b.events.items → b.starts.items ≡ a.starts.items → Alters HeldList mark (dressed p) a b
  event_dressed p away dresses s = altered a b mark (dressed p) (λ l r.
      let evs = a.events.items in
      let ss = a.starts.items in
      let i = mark - count in
      let d = parted ss (length evs) mark count splits l r in
      let front = take-map event_of i evs in
      let adds : map event_of evs ≡ map event_of (take i evs) ++ drop i (map event_of evs) =
      sym (take-append-drop i (map event_of evs)) ∙ ap (λ u. u ++ drop i (map event_of evs)) front in
      let new : map event_of b.events.items ≡ dressed_at p i (map event_of evs) =
      dresses (take i evs) (drop i (map event_of evs)) (sym (length-take-le i evs d.within)) adds
      ∙ ap (λ u. u ++ dressed p (drop i (map event_of evs))) (sym front) in
      let n : length b.events.items ≡ length evs =
      sym (length-map b.events.items event_of) ∙ ap length new ∙ length_dressed_at p (map event_of evs) i ∙ length-map evs event_of in
      record {
        rises = subst (λ u. Rises u (length b.events.items)) (sym s) (subst (Rises ss) (sym n) r);
        is =
            ap (woven (map event_of b.events.items)) s
            ∙ ap (λ u. woven u ss) new
            ∙ dress_event (map event_of evs) ss (length evs) mark count d (plain_fits evs) splits.counted p away;
      })

  pub start_dressed : (p : Props) (s t : Start) → IsAt a.starts.items count (mark - count) → s ≡ slice_index_or a.starts.items count s → b.starts.items ≡ set a.starts.items count t → t.place ≡ s.place → opening t ≡ with_props p (opening s) → b.events.items ≡ a.events.items
      → Alters HeldList mark (dressed p) a b
  start_dressed p s t here read u f o g = altered a b mark (dressed p) (λ l r.
      let evs = a.events.items in
      let ss = a.starts.items in
      let ts = drop (suc count) ss in
      let d = parted ss (length evs) mark count splits l r in
      let is : drop count ss ≡ s ∷ ts = drop-cons ss count s here.0 ∙ ap (λ v. v ∷ ts) (sym read) in
      let e : s.place ≡ mark - count = ap (λ (v : Start). v.place) read ∙ here.1 s in
      let new : b.starts.items ≡ take count ss ++ t ∷ ts = u ∙ set_split ss count t here.0 in
      record {
        rises = subst (λ v. Rises b.starts.items (length v)) (sym g) (subst (λ v. Rises v (length evs)) (sym new) (rises_dressed (map event_of evs) ss (length evs) mark count d (plain_fits evs) splits.counted s t ts is e f));
        is =
            ap (λ v. woven (map event_of v) b.starts.items) g
            ∙ ap (woven (map event_of evs)) new
            ∙ dress_start (map event_of evs) ss (length evs) mark count d (plain_fits evs) splits.counted s t ts is e f p o;
      })
