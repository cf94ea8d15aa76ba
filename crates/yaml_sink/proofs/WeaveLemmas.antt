-- Starts of mappings among events.
use Rattle.std.proofs.Common.{◌≡◌, ◌≢◌, ◌≤◌, ◌<◌, ℕ, ◌+◌, ◌-◌, zero, suc, List, [], ◌∷◌, ◌++◌, length, take, drop, get_or, refl, sym, ◌∙◌, ap, subst, arith}
use Rattle.std.specs.Prelude.{insert}
use Rattle.std.proofs.lemmas.List.{take-append-drop, take_all}
use Rattle.std.proofs.lemmas.List.Edits.{insert-append_left}
use Rattle.yaml_definitions.specs.model.Event.{Event}
use Rattle.yaml_definitions.specs.grammar.Events.{Props}
use Rattle.yaml_sink.specs.PropertyRules.{with_props, dressed}
use Rattle.yaml_sink.specs.ListModel.{opening, woven, first_place, Rises, IsAt, Splits}
use Rattle.yaml_sink.specs.declared.list.Start.{Start}

-- ---- one item put into a list

pub length_insert : {A : Type 0} (xs : List A) (i : ℕ) (v : A) → length (insert xs i v) ≡ suc (length xs)
length_insert xs zero v = refl
length_insert [] (suc i) v = refl
length_insert (x ∷ xs) (suc i) v = ap suc (length_insert xs i v)

insert_twice : {A : Type 0} (xs : List A) (i j : ℕ) (u v : A) → i ≤ j → j ≤ length xs → insert (insert xs j v) i u ≡ insert (insert xs i u) (suc j) v
insert_twice xs zero j u v l m = refl
insert_twice [] (suc i) j u v l m = absurd (omega (arith, l, m))
insert_twice (x ∷ xs) (suc i) zero u v l m = absurd (omega (arith, l))
insert_twice (x ∷ xs) (suc i) (suc j) u v l m = ap (λ ys. x ∷ ys) (insert_twice xs i j u v (omega (arith, l)) (omega (arith, m)))

take_behind : {A : Type 0} (xs : List A) (i j : ℕ) (v : A) → i ≤ j → take (suc j) (insert xs i v) ≡ insert (take j xs) i v
take_behind xs zero j v l = refl
take_behind [] (suc i) zero v l = absurd (omega (arith, l))
take_behind [] (suc i) (suc j) v l = refl
take_behind (x ∷ xs) (suc i) zero v l = absurd (omega (arith, l))
take_behind (x ∷ xs) (suc i) (suc j) v l = ap (λ ys. x ∷ ys) (take_behind xs i j v (omega (arith, l)))

take_before : {A : Type 0} (xs : List A) (i j : ℕ) (v : A) → j ≤ i → i ≤ length xs → take j (insert xs i v) ≡ take j xs
take_before xs i zero v l m = refl
take_before xs zero (suc j) v l m = absurd (omega (arith, l))
take_before [] (suc i) (suc j) v l m = absurd (omega (arith, m))
take_before (x ∷ xs) (suc i) (suc j) v l m = ap (λ ys. x ∷ ys) (take_before xs i j v (omega (arith, l)) (omega (arith, m)))

-- ---- properties on the event at a place

abbrev pub dressed_at : Props → ℕ → List Event → List Event
dressed_at p i es = take i es ++ dressed p (drop i es)

dress_behind : (p : Props) (xs : List Event) (i j : ℕ) (v : Event) → i ≤ j → dressed_at p (suc j) (insert xs i v) ≡ insert (dressed_at p j xs) i v
dress_behind p xs zero j v l = refl
dress_behind p [] (suc i) zero v l = absurd (omega (arith, l))
dress_behind p [] (suc i) (suc j) v l = refl
dress_behind p (x ∷ xs) (suc i) zero v l = absurd (omega (arith, l))
dress_behind p (x ∷ xs) (suc i) (suc j) v l = ap (λ ys. x ∷ ys) (dress_behind p xs i j v (omega (arith, l)))

dress_before : (p : Props) (xs : List Event) (i j : ℕ) (v : Event) → j < i → i ≤ length xs → dressed_at p j (insert xs i v) ≡ insert (dressed_at p j xs) i v
dress_before p xs zero j v l m = absurd (omega (arith, l))
dress_before p [] (suc i) j v l m = absurd (omega (arith, m))
dress_before p (x ∷ xs) (suc i) zero v l m = refl
dress_before p (x ∷ xs) (suc i) (suc j) v l m = ap (λ ys. x ∷ ys) (dress_before p xs i j v (omega (arith, l)) (omega (arith, m)))

dress_here : (p : Props) (xs : List Event) (i : ℕ) (v : Event) → i ≤ length xs → dressed_at p i (insert xs i v) ≡ insert xs i (with_props p v)
dress_here p xs zero v m = refl
dress_here p [] (suc i) v m = absurd (omega (arith, m))
dress_here p (x ∷ xs) (suc i) v m = ap (λ ys. x ∷ ys) (dress_here p xs i v (omega (arith, m)))

pub length_dressed_at : (p : Props) (xs : List Event) (i : ℕ) → length (dressed_at p i xs) ≡ length xs
length_dressed_at p [] zero = refl
length_dressed_at p [] (suc i) = refl
length_dressed_at p (x ∷ xs) zero = refl
length_dressed_at p (x ∷ xs) (suc i) = ap suc (length_dressed_at p xs i)

-- ---- the order of the starts

pub first_within : (ss : List Start) (n : ℕ) → Rises ss n → first_place ss n ≤ n
first_within [] n r = omega arith
first_within (s ∷ ss) n r = omega (arith, r.0, first_within ss n r.1)

first_on : (ss : List Start) (n m : ℕ) → n ≤ m → first_place ss n ≤ first_place ss m
first_on [] n m l = l
first_on (s ∷ ss) n m l = omega arith

pub rises_on : (ss : List Start) (n m : ℕ) → n ≤ m → Rises ss n → Rises ss m
rises_on [] n m l r = tt
rises_on (s ∷ ss) n m l r = (omega (arith, r.0, first_on ss n m l), rises_on ss n m l r.1)

first_joined : (ps ss : List Start) (n : ℕ) → first_place (ps ++ ss) n ≡ first_place ps (first_place ss n)
first_joined [] ss n = refl
first_joined (p ∷ ps) ss n = refl

pub rises_joined : (ps ss : List Start) (n : ℕ) → Rises ps (first_place ss n) → Rises ss n → Rises (ps ++ ss) n
rises_joined [] ss n r q = q
rises_joined (p ∷ ps) ss n r q = (subst (λ k. p.place ≤ k) (sym (first_joined ps ss n)) r.0, rises_joined ps ss n r.1 q)

pub rises_front : (ps ss : List Start) (n : ℕ) → Rises (ps ++ ss) n → Rises ps (first_place ss n)
rises_front [] ss n r = tt
rises_front (p ∷ ps) ss n r = (subst (λ k. p.place ≤ k) (first_joined ps ss n) r.0, rises_front ps ss n r.1)

pub rises_back : (ps ss : List Start) (n : ℕ) → Rises (ps ++ ss) n → Rises ss n
rises_back [] ss n r = r
rises_back (p ∷ ps) ss n r = rises_back ps ss n r.1

-- the starts before a place, the last of which says so
rises_taken : (ss : List Start) (n c i : ℕ) → Rises ss n → c ≤ length ss → ((k : ℕ) (d : Start) → suc k ≡ c → (get_or ss k d).place ≤ i) → Rises (take c ss) i
rises_taken ss n zero i r l h = tt
rises_taken [] n (suc c) i r l h = absurd (omega (arith, l))
rises_taken (s ∷ ss) n (suc zero) i r l h = (h zero s refl, tt)
rises_taken (s ∷ []) n (suc (suc c)) i r l h = absurd (omega (arith, l))
rises_taken (s ∷ (t ∷ ts)) n (suc (suc c)) i r l h = (r.0, rises_taken (t ∷ ts) n (suc c) i r.1 (omega (arith, l)) (λ k d e. h (suc k) d (ap suc e)))

-- the first start behind a place
first_dropped : (ss : List Start) (n c i : ℕ) → (length ss ≤ c → i ≤ n) → (c < length ss → (d : Start) → i ≤ (get_or ss c d).place) → i ≤ first_place (drop c ss) n
first_dropped [] n zero i l h = l (omega arith)
first_dropped [] n (suc c) i l h = l (omega arith)
first_dropped (s ∷ ss) n zero i l h = h (omega arith) s
first_dropped (s ∷ ss) n (suc c) i l h = first_dropped ss n c i (λ m. l (omega (arith, m))) (λ m d. h (omega (arith, m)) d)

-- what a mark is between: so many starts and so many events are before it
pub record Parted (ss : List Start) (n mark count : ℕ) : Type 0 where
  pub front : Rises (take count ss) (mark - count)
  pub back : Rises (drop count ss) n
  pub first : mark - count ≤ first_place (drop count ss) n
  pub within : mark - count ≤ n
  pub whole : take count ss ++ drop count ss ≡ ss
  pub counted : length (take count ss) ≡ count

length_taken : (ss : List Start) (c : ℕ) → c ≤ length ss → length (take c ss) ≡ c
length_taken ss zero l = refl
length_taken [] (suc c) l = absurd (omega (arith, l))
length_taken (s ∷ ss) (suc c) l = ap suc (length_taken ss c (omega (arith, l)))

pub parted : (ss : List Start) (n mark count : ℕ) → Splits ss mark count → mark ≤ n + length ss → Rises ss n → Parted ss n mark count
parted ss n mark count s l r =
    let whole : take count ss ++ drop count ss ≡ ss = take-append-drop count ss in
    let back : Rises (drop count ss) n = rises_back (take count ss) (drop count ss) n (subst (λ v. Rises v n) (sym whole) r) in
    let first : mark - count ≤ first_place (drop count ss) n =
    first_dropped ss n count (mark - count) (λ m. omega (arith, m, l)) (λ m d. (let b = s.behind m d in omega (arith, b))) in
    record {
      front = rises_taken ss n count (mark - count) r s.within (λ k d e. (let b : (get_or ss k d).place + k < mark = s.before k (omega (arith, e)) d in omega (arith, b, e)));
      back = back;
      first = first;
      within = omega (arith, first, first_within (drop count ss) n back);
      whole = whole;
      counted = length_taken ss count s.within;
    }

-- ---- events and starts as one list

pub length_woven : (es : List Event) (ss : List Start) → length (woven es ss) ≡ length es + length ss
length_woven es [] = omega arith
length_woven es (s ∷ ss) = let e = length_insert (woven es ss) s.place (opening s) in let f = length_woven es ss in omega (arith, e, f)

pub woven_joined : (es : List Event) (ps ss : List Start) → woven es (ps ++ ss) ≡ woven (woven es ss) ps
woven_joined es [] ss = refl
woven_joined es (p ∷ ps) ss = ap (λ v. insert v p.place (opening p)) (woven_joined es ps ss)

pub woven_on : (es fs : List Event) (ss : List Start) → Rises ss (length es) → woven (es ++ fs) ss ≡ woven es ss ++ fs
woven_on es fs [] r = refl
woven_on es fs (s ∷ ss) r =
    let w = length_woven es ss in
    let f = first_within ss (length es) r.1 in
    ap (λ v. insert v s.place (opening s)) (woven_on es fs ss r.1) ∙ insert-append_left (woven es ss) fs s.place (opening s) (omega (arith, r.0, f, w))

pub woven_insert : (es : List Event) (i : ℕ) (v : Event) (ss : List Start) → Rises ss i → i ≤ length es → woven (insert es i v) ss ≡ insert (woven es ss) (i + length ss) v
woven_insert es i v [] r l = let e : i ≡ i + 0 = omega arith in ap (λ k. insert es k v) e
woven_insert es i v (s ∷ ss) r l =
    let w = length_woven es ss in
    let f = first_within ss i r.1 in
    let e : suc (i + length ss) ≡ i + suc (length ss) = omega arith in
    ap (λ u. insert u s.place (opening s)) (woven_insert es i v ss r.1 l)
    ∙ insert_twice (woven es ss) s.place (i + length ss) (opening s) v (omega (arith, r.0, f)) (omega (arith, l, w))
    ∙ ap (λ k. insert (insert (woven es ss) s.place (opening s)) k v) e

woven_taken : (es : List Event) (i : ℕ) (ss : List Start) → Rises ss i → take (i + length ss) (woven es ss) ≡ woven (take i es) ss
woven_taken es i [] r = let e : i + 0 ≡ i = omega arith in ap (λ k. take k es) e
woven_taken es i (s ∷ ss) r =
    let f = first_within ss i r.1 in
    let e : i + suc (length ss) ≡ suc (i + length ss) = omega arith in
    ap (λ k. take k (insert (woven es ss) s.place (opening s))) e
    ∙ take_behind (woven es ss) s.place (i + length ss) (opening s) (omega (arith, r.0, f))
    ∙ ap (λ u. insert u s.place (opening s)) (woven_taken es i ss r.1)

woven_behind : (es : List Event) (i n : ℕ) (ss : List Start) → Rises ss n → n ≤ length es → i ≤ first_place ss n → take i (woven es ss) ≡ take i es
woven_behind es i n [] r l m = refl
woven_behind es i n (s ∷ ss) r l m =
    let w = length_woven es ss in
    let f = first_within ss n r.1 in
    take_before (woven es ss) s.place i (opening s) m (omega (arith, l, r.0, f, w)) ∙ woven_behind es i n ss r.1 l (omega (arith, m, r.0))

woven_dressed : (p : Props) (es : List Event) (i : ℕ) (ss : List Start) → Rises ss i → dressed_at p (i + length ss) (woven es ss) ≡ woven (dressed_at p i es) ss
woven_dressed p es i [] r = let e : i + 0 ≡ i = omega arith in ap (λ k. dressed_at p k es) e
woven_dressed p es i (s ∷ ss) r =
    let f = first_within ss i r.1 in
    let e : i + suc (length ss) ≡ suc (i + length ss) = omega arith in
    ap (λ k. dressed_at p k (insert (woven es ss) s.place (opening s))) e
    ∙ dress_behind p (woven es ss) s.place (i + length ss) (opening s) (omega (arith, r.0, f))
    ∙ ap (λ u. insert u s.place (opening s)) (woven_dressed p es i ss r.1)

-- a place before the first start
abbrev pub Ahead : List Start → ℕ → Type 0
Ahead [] i = Unit {0}
Ahead (s ∷ ss) i = i < s.place

ahead_on : (s : Start) (ss : List Start) (n i : ℕ) → s.place ≤ first_place ss n → i < s.place → Ahead ss i
ahead_on s [] n i l m = tt
ahead_on s (t ∷ ts) n i l m = omega (arith, l, m)

woven_ahead : (p : Props) (es : List Event) (i n : ℕ) (ss : List Start) → Rises ss n → n ≤ length es → Ahead ss i → dressed_at p i (woven es ss) ≡ woven (dressed_at p i es) ss
woven_ahead p es i n [] r l m = refl
woven_ahead p es i n (s ∷ ss) r l m =
    let w = length_woven es ss in
    let f = first_within ss n r.1 in
    dress_before p (woven es ss) s.place i (opening s) m (omega (arith, l, r.0, f, w))
    ∙ ap (λ u. insert u s.place (opening s)) (woven_ahead p es i n ss r.1 l (ahead_on s ss n i r.0 m))

-- ---- what is done at a mark, by the parts before it and behind it

parts : (es : List Event) (ss : List Start) (c : ℕ) → woven (woven es (drop c ss)) (take c ss) ≡ woven es ss
parts es ss c = sym (woven_joined es (take c ss) (drop c ss)) ∙ ap (woven es) (take-append-drop c ss)

-- at a place that is not the first start's
ahead : (ss : List Start) (n c i : ℕ) → i ≤ first_place (drop c ss) n → (IsAt ss c i → ⊥) → Ahead (drop c ss) i
ahead [] n zero i l h = tt
ahead [] n (suc c) i l h = tt
ahead (s ∷ ss) n zero i l h = let ne : s.place ≢ i = λ e. h (omega arith, λ d. e) in omega (arith, l, ne)
ahead (s ∷ ss) n (suc c) i l h = ahead ss n c i l (λ q. h (omega (arith, q.0), q.1))

module _ (es : List Event) (ss : List Start) (n mark count : ℕ) (d : Parted ss n mark count) (l : n ≤ length es) (c : count ≤ mark) where
  at_mark : mark - count + length (take count ss) ≡ mark
  at_mark = omega (arith, d.counted, c)

  -- an event, where no start is behind the mark
  pub put_event : (v : Event) → length ss ≤ count → woven (insert es (mark - count) v) ss ≡ insert (woven es ss) mark v
  put_event v m =
      let all : take count ss ≡ ss = take_all count ss m in
      let e : mark - count + length ss ≡ mark = omega (arith, at_mark, ap length all) in
      woven_insert es (mark - count) v ss (subst (λ u. Rises u (mark - count)) all d.front) (omega (arith, d.within, l)) ∙ ap (λ k. insert (woven es ss) k v) e

  -- a start
  pub put_start : (s : Start) → s.place ≡ mark - count → woven es (insert ss count s) ≡ insert (woven es ss) mark (opening s)
  put_start s e =
      let behind = drop count ss in
      let front : Rises (take count ss) s.place = subst (Rises (take count ss)) (sym e) d.front in
      let w : length (woven es behind) ≡ length es + length behind = length_woven es behind in
      let k : s.place + length (take count ss) ≡ mark = omega (arith, at_mark, e) in
      woven_joined es (take count ss) (s ∷ behind)
      ∙ woven_insert (woven es behind) s.place (opening s) (take count ss) front (omega (arith, d.within, l, w, e))
      ∙ ap (λ u. insert u (s.place + length (take count ss)) (opening s)) (parts es ss count)
      ∙ ap (λ i. insert (woven es ss) i (opening s)) k

  pub rises_put : (s : Start) → s.place ≡ mark - count → Rises (insert ss count s) n
  rises_put s e = rises_joined (take count ss) (s ∷ drop count ss) n (subst (Rises (take count ss)) (sym e) d.front) (omega (arith, e, d.first), d.back)

  -- what is before it
  pub cut_short : woven (take (mark - count) es) (take count ss) ≡ take mark (woven es ss)
  cut_short =
      ap (λ u. woven u (take count ss)) (sym (woven_behind es (mark - count) n (drop count ss) d.back l d.first))
      ∙ sym (woven_taken (woven es (drop count ss)) (mark - count) (take count ss) d.front)
      ∙ ap (λ k. take k (woven (woven es (drop count ss)) (take count ss))) at_mark
      ∙ ap (take mark) (parts es ss count)

  dressed_mark : (p : Props) → woven (dressed_at p (mark - count) (woven es (drop count ss))) (take count ss) ≡ dressed_at p mark (woven es ss)
  dressed_mark p =
      sym (woven_dressed p (woven es (drop count ss)) (mark - count) (take count ss) d.front)
      ∙ ap (λ k. dressed_at p k (woven (woven es (drop count ss)) (take count ss))) at_mark
      ∙ ap (dressed_at p mark) (parts es ss count)

  -- properties on an event
  pub dress_event : (p : Props) → (IsAt ss count (mark - count) → ⊥) → woven (dressed_at p (mark - count) es) ss ≡ dressed_at p mark (woven es ss)
  dress_event p h =
      sym (parts (dressed_at p (mark - count) es) ss count)
      ∙ ap (λ u. woven u (take count ss)) (sym (woven_ahead p es (mark - count) n (drop count ss) d.back l (ahead ss n count (mark - count) d.first h)))
      ∙ dressed_mark p

  -- properties on a start
  module _ (s t : Start) (ts : List Start) (is : drop count ss ≡ s ∷ ts) (e : s.place ≡ mark - count) (f : t.place ≡ s.place) where
    pub dress_start : (p : Props) → opening t ≡ with_props p (opening s) → woven es (take count ss ++ t ∷ ts) ≡ dressed_at p mark (woven es ss)
    dress_start p o =
        let w : length (woven es ts) ≡ length es + length ts = length_woven es ts in
        let here : dressed_at p (mark - count) (woven es (s ∷ ts)) ≡ woven es (t ∷ ts) =
        ap (λ k. dressed_at p k (insert (woven es ts) s.place (opening s))) (sym e)
        ∙ dress_here p (woven es ts) s.place (opening s) (omega (arith, e, d.within, l, w))
        ∙ ap (λ k. insert (woven es ts) k (with_props p (opening s))) (sym f)
        ∙ ap (insert (woven es ts) t.place) (sym o) in
        woven_joined es (take count ss) (t ∷ ts)
        ∙ ap (λ u. woven u (take count ss)) (sym here)
        ∙ ap (λ v. woven (dressed_at p (mark - count) (woven es v)) (take count ss)) (sym is)
        ∙ dressed_mark p

    pub rises_dressed : Rises (take count ss ++ t ∷ ts) n
    rises_dressed =
        let back : Rises (s ∷ ts) n = subst (λ v. Rises v n) is d.back in
        rises_joined (take count ss) (t ∷ ts) n (subst (Rises (take count ss)) (sym (f ∙ e)) d.front) (omega (arith, f, back.0), back.1)
