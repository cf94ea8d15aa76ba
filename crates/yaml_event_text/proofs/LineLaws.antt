-- The lines of a reader's events, as these are put down, dressed and taken back.
use Rattle.std.proofs.Common.{◌≡◌, ◌<◌, ◌≤◌, ℕ, suc, ◌+◌, true, false, Result, Ok, Err, IfOk, List, [], ◌∷◌, ◌++◌, length, map, take, drop, get_or, refl, sym, ◌∙◌, ap, subst, arith, append_assoc, length-append, take-append-drop}
use Rattle.std.specs.Prelude.{Option, Some, None, IfSome, IfErr, IsOk}
use Rattle.std.specs.List.{insert_slice}
use Rattle.std.specs.String.{string_bytes}
use Rattle.std.proofs.lemmas.List.{append-nil, get_or-append-add, length-map}
use Rattle.std.proofs.Math.Seq.{take-append_seam, drop-append_seam, take-append-add, drop-append-add, get_or-append_seam}
use Rattle.yaml_definitions.specs.model.Event.{Event}
use Rattle.yaml_definitions.specs.model.EventText.{event_line, events_text}
use Rattle.yaml_definitions.specs.grammar.Events.{Props, no_props}
use Rattle.yaml_events.proofs.LineText.{events_append, events_line_more}
use Rattle.yaml_sink.specs.PropertyRules.{with_props, dressed}
use Rattle.yaml_sink.specs.Held.{Puts, Alters}
use Rattle.yaml_event_text.specs.Slots.{props_text, IsClosed, HasRoom, HasRoomIn}
use Rattle.yaml_event_text.specs.LinesHeld.{starts_from, Written, LinesHold, Begins, Grows, Inserts, Gives, IsBeside, DressesLine}
use Rattle.yaml_event_text.specs.declared.lines.Lines.{Lines}
use Rattle.yaml_event_text.proofs.StartLaws.{front_length}

abbrev line_of : Event → List ℕ
line_of e = event_line e ++ (10 ∷ [])

-- ---- offsets

starts_append : (at : ℕ) (xs ys : List Event) → starts_from at (xs ++ ys) ≡ starts_from at xs ++ starts_from (at + length (events_text xs)) ys
unfolding starts_from events_text
starts_append at [] ys = ap (λ n. starts_from n ys) (omega arith)
starts_append at (x ∷ xs) ys =
    let n : (at + length (line_of x)) + length (events_text xs) ≡ at + length (events_text (x ∷ xs)) =
    omega (arith, length-append (event_line x) (10 ∷ []), length-append (event_line x) (10 ∷ events_text xs)) in
    ap (λ v. at ∷ v) (starts_append (at + length (line_of x)) xs ys ∙ ap (λ k. starts_from (at + length (line_of x)) xs ++ starts_from k ys) n)

starts_length : (at : ℕ) (xs : List Event) → length (starts_from at xs) ≡ length xs
unfolding starts_from
starts_length at [] = refl
starts_length at (x ∷ xs) = ap suc (starts_length (at + length (line_of x)) xs)

starts_moved : (at by : ℕ) (xs : List Event) → map (λ n. n + by) (starts_from at xs) ≡ starts_from (at + by) xs
unfolding starts_from
starts_moved at by [] = refl
starts_moved at by (x ∷ xs) =
    let n : (at + length (line_of x)) + by ≡ (at + by) + length (line_of x) = omega arith in
    ap (λ v. (at + by) ∷ v) (starts_moved (at + length (line_of x)) by xs ∙ ap (λ k. starts_from k xs) n)

starts_more : (n : ℕ) (e : Event) (es : List Event) → starts_from n (e ∷ es) ≡ n ∷ starts_from (n + length (line_of e)) es
unfolding starts_from
starts_more n e es = refl

starts_none : (n : ℕ) → starts_from n [] ≡ []
unfolding starts_from
starts_none n = refl

text_more : (e : Event) (es : List Event) → events_text (e ∷ es) ≡ event_line e ++ (10 ∷ events_text es)
unfolding events_text
text_more e es = refl

text_none : events_text [] ≡ []
unfolding events_text
text_none = refl

-- where the events are parted, so are their text and its offsets
starts_parted : (log es : List Event) → starts_from 0 (log ++ es) ≡ starts_from 0 log ++ starts_from (length (events_text log)) es
starts_parted log es = let n : 0 + length (events_text log) ≡ length (events_text log) = omega arith in starts_append 0 log es ∙ ap (λ k. starts_from 0 log ++ starts_from k es) n

-- the offset of the first event since a mark, or that of the end
offset_is : (log es : List Event) → get_or (starts_from 0 (log ++ es)) (length log) (length (events_text (log ++ es))) ≡ length (events_text log)
offset_is log [] =
    let a = starts_from 0 log in
    let k : length log ≡ length a + 0 = omega (arith, starts_length 0 log) in
    let whole : log ++ [] ≡ log = append-nil log in
    ap (λ v. get_or (starts_from 0 v) (length log) (length (events_text v))) whole
    ∙ ap (λ v. get_or v (length log) (length (events_text log))) (sym (append-nil a))
    ∙ ap (λ n. get_or (a ++ []) n (length (events_text log))) k
    ∙ get_or-append-add a [] 0 (length (events_text log))
offset_is log (e ∷ es) =
    let a = starts_from 0 log in
    let n = length (events_text log) in
    let d = length (events_text (log ++ e ∷ es)) in
    ap (λ v. get_or v (length log) d) (starts_parted log (e ∷ es) ∙ ap (λ v. a ++ v) (starts_more n e es))
    ∙ ap (λ k. get_or (a ++ n ∷ starts_from (n + length (line_of e)) es) k d) (sym (starts_length 0 log))
    ∙ get_or-append_seam a n (starts_from (n + length (line_of e)) es) d

pub lines_none : (l : Lines) → string_bytes l.text ≡ [] → l.starts.items ≡ [] → LinesHold l []
lines_none l t s = record {
  count = ap length s;
  is = λ f. record { text = t ∙ sym text_none; starts = s ∙ sym (starts_none 0) };
}

-- ---- what is answered

pub if_held : {A E : Type 0} {P Q : A → Type 0} (r : Result (Option A) E) → IfOk r (λ o. IfSome o Q) → ((t : A) → Q t → P t) → IfOk r (λ o. IfSome o P)
if_held (Ok (Some t)) h f = f t h
if_held (Ok None) h f = tt
if_held (Err e) h f = tt

pub was_read : {T E P : Type 0} (r : Result T E) → IsOk r → IfOk r (λ _. P) → P
was_read (Ok x) h p = p
was_read (Err e) h p = absurd (let q : false ≡ true = h in cc)

pub was_refused : {T A E : Type 0} (P : E → Type 0) (r : Result T E) (result : Result A E) → IfErr result (λ e. r ≡ Err e) → IfErr r P → IfErr result P
was_refused P r (Ok x) h p = tt
was_refused P r (Err e) h p = subst (λ v. IfErr v P) h p

-- ---- a line more

pub grown : (a m b : Lines) (line : List ℕ) → Begins a m → string_bytes b.text ≡ string_bytes m.text ++ line → b.starts ≡ m.starts → b.failed ≡ m.failed → Grows a line b
grown a m b line h t s f = record {
  text = t ∙ ap (λ v. string_bytes v ++ line) h.text;
  starts = ap (λ v. v.items) s ∙ h.starts;
  failed = f ∙ h.failed;
}

one_more : (log es : List Event) (e : Event) → length (log ++ e ∷ es) ≡ length (log ++ es) + 1
one_more log es e = omega (arith, length-append log (e ∷ es), length-append log es)

pub lines_put : (a b : Lines) (e : Event) → Grows a (line_of e) b → Puts LinesHold a (e ∷ []) b
lines_put a b e g = record {
  is = λ log h. record {
    count = omega (arith, ap length g.starts, length-append a.starts.items (length (string_bytes a.text) ∷ []), h.count, length-append log (e ∷ []));
    is = λ f.
        let w = h.is (sym g.failed ∙ f) in
        record {
          text = g.text ∙ ap (λ t. t ++ line_of e) w.text ∙ sym (events_line_more log e);
          starts = g.starts ∙ ap (λ v. v ++ (length (string_bytes a.text) ∷ [])) w.starts ∙ ap (λ t. starts_from 0 log ++ (length t ∷ [])) w.text
              ∙ ap (λ v. starts_from 0 log ++ (length (events_text log) ∷ v)) (sym (starts_none _))
              ∙ ap (λ v. starts_from 0 log ++ v) (sym (starts_more (length (events_text log)) e [])) ∙ sym (starts_parted log (e ∷ []));
        };
  };
}

-- ---- a line more before others

seam : (xs ys zs : List ℕ) → insert_slice (xs ++ ys) (length xs) zs ≡ xs ++ (zs ++ ys)
seam xs ys zs = ap (λ v. (v ++ zs) ++ drop (length xs) (xs ++ ys)) (take-append_seam xs ys) ∙ ap (λ v. (xs ++ zs) ++ v) (drop-append_seam xs ys) ∙ append_assoc xs zs ys

text_inserted : (log es : List Event) (e : Event) → insert_slice (events_text (log ++ es)) (length (events_text log)) (line_of e) ≡ events_text (log ++ e ∷ es)
text_inserted log es e =
    let t = events_text log in
    ap (λ v. insert_slice v (length t) (line_of e)) (events_append log es) ∙ seam t (events_text es) (line_of e)
    ∙ ap (λ v. t ++ v) (append_assoc (event_line e) (10 ∷ []) (events_text es) ∙ sym (text_more e es)) ∙ sym (events_append log (e ∷ es))

starts_inserted : (log es : List Event) (e : Event) → take (length log) (starts_from 0 (log ++ es)) ++ length (events_text log) ∷ map (λ n. n + length (line_of e)) (drop (length log) (starts_from 0 (log ++ es))) ≡ starts_from 0 (log ++ e ∷ es)
starts_inserted log es e =
    let a = starts_from 0 log in
    let n = length (events_text log) in
    let b = starts_from n es in
    let f : ℕ → ℕ = λ k. k + length (line_of e) in
    ap (λ v. take (length log) v ++ n ∷ map f (drop (length log) v)) (starts_parted log es)
    ∙ ap (λ k. take k (a ++ b) ++ n ∷ map f (drop k (a ++ b))) (sym (starts_length 0 log))
    ∙ ap (λ v. v ++ n ∷ map f (drop (length a) (a ++ b))) (take-append_seam a b)
    ∙ ap (λ v. a ++ n ∷ map f v) (drop-append_seam a b)
    ∙ ap (λ v. a ++ n ∷ v) (starts_moved n (length (line_of e)) es)
    ∙ ap (λ v. a ++ v) (sym (starts_more n e es)) ∙ sym (starts_parted log (e ∷ es))

inserted_count : (xs : List ℕ) (k at : ℕ) (f : ℕ → ℕ) → length (take k xs ++ at ∷ map f (drop k xs)) ≡ length xs + 1
inserted_count xs k at f =
    omega (arith, length-append (take k xs) (at ∷ map f (drop k xs)), length-map (drop k xs) f, ap length (take-append-drop k xs), length-append (take k xs) (drop k xs))

-- the offset that was read is that of the text so far
at_is : (a : Lines) (log es : List Event) (start at : ℕ) → start ≡ length log → Written a (log ++ es) → at ≡ get_or a.starts.items start (length (string_bytes a.text)) → at ≡ length (events_text log)
at_is a log es start at s w e =
    e ∙ ap (λ k. get_or a.starts.items k (length (string_bytes a.text))) s ∙ ap (λ v. get_or v (length log) (length (string_bytes a.text))) w.starts
    ∙ ap (λ v. get_or (starts_from 0 (log ++ es)) (length log) (length v)) w.text ∙ offset_is log es

pub lines_inserted : (a b : Lines) (start : ℕ) (e : Event) → Inserts a start (line_of e) b → Alters LinesHold start (λ es. e ∷ es) a b
lines_inserted a b start e g = record {
  is = λ log es s h. record {
    count = ap length g.starts ∙ inserted_count a.starts.items start g.at (λ n. n + length (line_of e)) ∙ ap (λ n. n + 1) h.count ∙ sym (one_more log es e);
    is = λ f.
        let w = h.is (sym g.failed ∙ f) in
        let at : g.at ≡ length (events_text log) = at_is a log es start g.at s w g.is_at in
        record {
          text = g.text ∙ ap (λ v. insert_slice v g.at (line_of e)) w.text ∙ ap (λ k. insert_slice (events_text (log ++ es)) k (line_of e)) at ∙ text_inserted log es e;
          starts = g.starts ∙ ap (λ v. take start v ++ g.at ∷ map (λ n. n + length (line_of e)) (drop start v)) w.starts
              ∙ ap (λ k. take k (starts_from 0 (log ++ es)) ++ g.at ∷ map (λ n. n + length (line_of e)) (drop k (starts_from 0 (log ++ es)))) s
              ∙ ap (λ k. take (length log) (starts_from 0 (log ++ es)) ++ k ∷ map (λ n. n + length (line_of e)) (drop (length log) (starts_from 0 (log ++ es)))) at
              ∙ starts_inserted log es e;
        };
  };
}

-- ---- properties

dressed_length : (p : Props) (log es : List Event) → length (log ++ dressed p es) ≡ length (log ++ es)
dressed_length p log [] = refl
dressed_length p log (e ∷ es) = one_more log es (with_props p e) ∙ sym (one_more log es e)

-- the line of the first event since a mark
line_at : (a : Lines) (log es : List Event) (e : Event) (at : ℕ) → Written a (log ++ e ∷ es) → at ≡ length (events_text log) → drop at (string_bytes a.text) ≡ event_line e ++ (10 ∷ events_text es)
line_at a log es e at w h =
    let t = events_text log in
    ap (λ k. drop k (string_bytes a.text)) h ∙ ap (λ v. drop (length t) v) (w.text ∙ events_append log (e ∷ es)) ∙ drop-append_seam t (events_text (e ∷ es)) ∙ text_more e es

pub beyond : (a : Lines) (event : ℕ) (p : Props) → length a.starts.items ≤ event → DressesLine a event p a
beyond a event p l = record { is = by; failed = refl }
  where
    by : (log es : List Event) → event ≡ length log → Written a (log ++ es) → Written a (log ++ dressed p es)
    by log [] s w = w
    by log (e ∷ es) s w =
        let n : length a.starts.items ≡ length (log ++ e ∷ es) = ap length w.starts ∙ starts_length 0 (log ++ e ∷ es) in
        absurd (omega (arith, n, length-append log (e ∷ es), s, l))

pub unaltered : (a : Lines) (event at : ℕ) (p : Props) → at ≡ get_or a.starts.items event (length (string_bytes a.text))
    → ((e : Event) (more : List ℕ) → drop at (string_bytes a.text) ≡ event_line e ++ (10 ∷ more) → with_props p e ≡ e) → DressesLine a event p a
unaltered a event at p h c = record { is = by; failed = refl }
  where
    by : (log es : List Event) → event ≡ length log → Written a (log ++ es) → Written a (log ++ dressed p es)
    by log [] s w = w
    by log (e ∷ es) s w =
        let l = line_at a log es e at w (at_is a log (e ∷ es) event at s w h) in
        subst (λ z. Written a (log ++ z ∷ es)) (sym (c e (events_text es) l)) w

-- in a text behind another
behind : (xs ys zs : List ℕ) (n : ℕ) → insert_slice (xs ++ ys) (length xs + n) zs ≡ xs ++ insert_slice ys n zs
behind xs ys zs n =
    ap (λ v. (v ++ zs) ++ drop (length xs + n) (xs ++ ys)) (take-append-add xs ys n) ∙ ap (λ v. ((xs ++ take n ys) ++ zs) ++ v) (drop-append-add xs ys n)
    ∙ ap (λ v. v ++ drop n ys) (append_assoc xs (take n ys) zs) ∙ append_assoc xs (take n ys ++ zs) (drop n ys)

length_inserted : (xs zs : List ℕ) (n : ℕ) → length (insert_slice xs n zs) ≡ length xs + length zs
length_inserted xs zs n =
    omega (arith, length-append (take n xs ++ zs) (drop n xs), length-append (take n xs) zs, ap length (take-append-drop n xs), length-append (take n xs) (drop n xs))

-- the line with its properties is longer by these
longer : (e : Event) (p : Props) (len : ℕ) (more : List ℕ) → HasRoom (event_line e ++ (10 ∷ more)) len → length (line_of (with_props p e)) ≡ length (line_of e) + length (props_text p)
longer e p len more h =
    let was = event_line e ++ (10 ∷ more) in
    let n = ap length (h.dressed e more refl p) in
    let m = length_inserted was (props_text p) len in
    omega (arith, n, m, length-append (event_line e) (10 ∷ more), length-append (event_line (with_props p e)) (10 ∷ more), length-append (event_line e) (10 ∷ []), length-append (event_line (with_props p e)) (10 ∷ []))

text_given : (log es : List Event) (e : Event) (p : Props) (len : ℕ) → HasRoom (event_line e ++ (10 ∷ events_text es)) len
    → insert_slice (events_text (log ++ e ∷ es)) (length (events_text log) + len) (props_text p) ≡ events_text (log ++ with_props p e ∷ es)
text_given log es e p len h =
    let t = events_text log in
    let line = event_line e ++ (10 ∷ events_text es) in
    ap (λ v. insert_slice v (length t + len) (props_text p)) (events_append log (e ∷ es) ∙ ap (λ v. t ++ v) (text_more e es)) ∙ behind t line (props_text p) len
    ∙ ap (λ v. t ++ v) (h.dressed e (events_text es) refl p ∙ sym (text_more (with_props p e) es)) ∙ sym (events_append log (with_props p e ∷ es))

starts_given : (log es : List Event) (e : Event) (p : Props) (len : ℕ) → HasRoom (event_line e ++ (10 ∷ events_text es)) len
    → take (length log + 1) (starts_from 0 (log ++ e ∷ es)) ++ map (λ n. n + length (props_text p)) (drop (length log + 1) (starts_from 0 (log ++ e ∷ es))) ≡ starts_from 0 (log ++ with_props p e ∷ es)
starts_given log es e p len h =
    let a = starts_from 0 log in
    let n = length (events_text log) in
    let b = starts_from (n + length (line_of e)) es in
    let f : ℕ → ℕ = λ k. k + length (props_text p) in
    let m : (n + length (line_of e)) + length (props_text p) ≡ n + length (line_of (with_props p e)) = omega (arith, longer e p len (events_text es) h) in
    ap (λ v. take (length log + 1) v ++ map f (drop (length log + 1) v)) (starts_parted log (e ∷ es) ∙ ap (λ v. a ++ v) (starts_more n e es))
    ∙ ap (λ k. take (k + 1) (a ++ n ∷ b) ++ map f (drop (k + 1) (a ++ n ∷ b))) (sym (starts_length 0 log))
    ∙ ap (λ v. v ++ map f (drop (length a + 1) (a ++ n ∷ b))) (take-append-add a (n ∷ b) 1)
    ∙ ap (λ v. (a ++ n ∷ []) ++ map f v) (drop-append-add a (n ∷ b) 1)
    ∙ append_assoc a (n ∷ []) (map f b)
    ∙ ap (λ v. a ++ n ∷ v) (starts_moved (n + length (line_of e)) (length (props_text p)) es ∙ ap (λ k. starts_from k es) m)
    ∙ ap (λ v. a ++ v) (sym (starts_more n (with_props p e) es)) ∙ sym (starts_parted log (with_props p e ∷ es))

pub lines_given : (a s b : Lines) (event at place len : ℕ) (p : Props) → event < length a.starts.items → at ≡ get_or a.starts.items event (length (string_bytes a.text)) → place ≡ at + len → HasRoom (drop at (string_bytes a.text)) len
    → IsBeside a s → string_bytes s.given ≡ props_text p → Gives s event place b → DressesLine a event p b
lines_given a s b event at place len p within h k r beside given g = record { is = by; failed = g.failed ∙ beside.failed }
  where
    by : (log es : List Event) → event ≡ length log → Written a (log ++ es) → Written b (log ++ dressed p es)
    by log [] e w = absurd (omega (arith, ap length w.starts, starts_length 0 (log ++ []), length-append log [], e, within))
    by log (x ∷ es) e w =
        let n : at ≡ length (events_text log) = at_is a log (x ∷ es) event at e w h in
        let room : HasRoom (event_line x ++ (10 ∷ events_text es)) len = subst (λ v. HasRoom v len) (line_at a log es x at w n) r in
        record {
          text = g.text ∙ ap (λ v. insert_slice (string_bytes v) place (string_bytes s.given)) beside.text ∙ ap (λ v. insert_slice (string_bytes a.text) place v) given
              ∙ ap (λ v. insert_slice v place (props_text p)) w.text ∙ ap (λ v. insert_slice (events_text (log ++ x ∷ es)) v (props_text p)) (k ∙ ap (λ v. v + len) n)
              ∙ text_given log es x p len room;
          starts = g.starts ∙ ap (λ v. take (event + 1) v.items ++ map (λ n. n + length (string_bytes s.given)) (drop (event + 1) v.items)) beside.starts
              ∙ ap (λ v. take (event + 1) a.starts.items ++ map (λ n. n + length v) (drop (event + 1) a.starts.items)) given
              ∙ ap (λ v. take (event + 1) v ++ map (λ n. n + length (props_text p)) (drop (event + 1) v)) w.starts
              ∙ ap (λ v. take (v + 1) (starts_from 0 (log ++ x ∷ es)) ++ map (λ n. n + length (props_text p)) (drop (v + 1) (starts_from 0 (log ++ x ∷ es)))) e
              ∙ starts_given log es x p len room;
        }

-- ---- what is found in the code's text

module _ (a : Lines) (event at : ℕ) (text : List ℕ) (p : Props) (is_at : at ≡ get_or a.starts.items event (length (string_bytes a.text))) (is_text : text ≡ string_bytes a.text) where
  pub dress_closed : IsClosed (drop at text) → DressesLine a event p a
  dress_closed c = unaltered a event at p is_at (λ e more k. (subst (λ t. IsClosed (drop at t)) is_text c).is e more k p)

  pub dress_bare : (place : ℕ) → p ≡ no_props → HasRoomIn text at place → DressesLine a event p a
  dress_bare place none r =
      let room : HasRoom (drop at (string_bytes a.text)) r.len = subst (λ t. HasRoom (drop at t) r.len) is_text r.room in
      unaltered a event at p is_at (λ e more k. subst (λ q. with_props q e ≡ e) (sym none) (room.bare e more k))

  pub dress_given : (s b : Lines) (place : ℕ) → event < length a.starts.items → HasRoomIn text at place → IsBeside a s → string_bytes s.given ≡ props_text p → Gives s event place b → DressesLine a event p b
  dress_given s b place within r beside given g =
      lines_given a s b event at place r.len p within is_at r.is (subst (λ t. HasRoom (drop at t) r.len) is_text r.room) beside given g

-- ---- what is taken back

cut_count : (xs : List ℕ) (log es : List Event) (start : ℕ) → start ≡ length log → length xs ≡ length (log ++ es) → length (take start xs) ≡ length (log ++ [])
cut_count xs log es start s h =
    let l : start ≤ length xs = omega (arith, s, h, length-append log es) in
    omega (arith, s, front_length xs start l, length-append log [])

pub lines_cut : (a m b : Lines) (start at : ℕ) → at ≡ get_or a.starts.items start (length (string_bytes a.text)) → string_bytes m.text ≡ take at (string_bytes a.text) → m.starts ≡ a.starts → m.failed ≡ a.failed
    → b.text ≡ m.text → b.starts.items ≡ take start m.starts.items → b.failed ≡ m.failed → Alters LinesHold start (λ _. []) a b
lines_cut a m b start at h mt ms mf bt bs bf = record {
  is = λ log es s held.
      let starts : b.starts.items ≡ take start a.starts.items = bs ∙ ap (λ v. take start v.items) ms in
      record {
        count = ap length starts ∙ cut_count a.starts.items log es start s held.count;
        is = λ f.
            let w = held.is (sym (bf ∙ mf) ∙ f) in
            let n : at ≡ length (events_text log) = at_is a log es start at s w h in
            record {
              text = ap string_bytes bt ∙ mt ∙ ap (λ k. take k (string_bytes a.text)) n ∙ ap (λ v. take (length (events_text log)) v) (w.text ∙ events_append log es)
                  ∙ take-append_seam (events_text log) (events_text es) ∙ ap events_text (sym (append-nil log));
              starts = starts ∙ ap (λ v. take start v) (w.starts ∙ starts_parted log es) ∙ ap (λ k. take k (starts_from 0 log ++ starts_from (length (events_text log)) es)) (s ∙ sym (starts_length 0 log))
                  ∙ take-append_seam (starts_from 0 log) (starts_from (length (events_text log)) es) ∙ ap (starts_from 0) (sym (append-nil log));
            };
      };
}

pub lines_lost : (a m b : Lines) (start : ℕ) → m.starts ≡ a.starts → m.failed ≡ true → b.starts.items ≡ take start m.starts.items → b.failed ≡ m.failed → Alters LinesHold start (λ _. []) a b
lines_lost a m b start ms mf bs bf = record {
  is = λ log es s held. record {
    count = ap length (bs ∙ ap (λ v. take start v.items) ms) ∙ cut_count a.starts.items log es start s held.count;
    is = λ f. let no : true ≡ false = sym (bf ∙ mf) ∙ f in absurd (cc);
  };
}
