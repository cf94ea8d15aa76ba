-- What a builder was told, as the log grows.
use Rattle.std.proofs.Common.{◌≡◌, ℕ, ◌+◌, ◌-◌, ◌≤◌, ◌<◌, List, [], ◌∷◌, ◌++◌, length, reverse, refl, sym, ◌∙◌, ap, subst, arith, append_assoc, length-append}
use Rattle.std.specs.Prelude.{Option, Some, None, Bool, false}
use Rattle.std.proofs.lemmas.List.{reverse-append}
use Rattle.yaml_definitions.specs.model.Event.{Event, Anchor, WrittenTag, untagged, mapping_start, stream_start, stream_end, document_end}
use Rattle.yaml_definitions.specs.grammar.Events.{Props}
use Rattle.yaml_sink.specs.Held.{Puts}
use Rattle.yaml_sink.specs.PropertyRules.{props_of, with_props, dressed}
use Rattle.yaml_sink.specs.declared.properties.Properties.{Properties}
use Rattle.yaml_store.specs.declared.nodes.Collection.{Collection}
use Rattle.yaml_store.specs.declared.nodes.Collection.TheVariants as kinds
use Rattle.yaml_tree_builder.specs.Nodes.{AreNodes}
use Rattle.yaml_tree_builder.specs.BuilderModel.{start_of, end_of}
use Rattle.yaml_tree_builder.specs.JudgedModel.{Judges, Takes}
use Rattle.yaml_tree_builder.specs.BuilderLog.{SettlesAlone, SettlesKey, IsOneAnchor, HasOwnTag, keyed}
use Rattle.yaml_store_composer.specs.PendingModel.{settled, start_above, IsStart, IsStartIn, IsOpen, IsWhole, Since, OpensTold, Held, OverTold, EndedTold, TellsOf, Tells, IsPaid, GoesOn}
use Rattle.yaml_store_composer.specs.declared.pending.Above.{Above}
use Rattle.yaml_tree_builder.specs.declared.judged.Judged.{Judged}
use Rattle.yaml_store_composer.specs.declared.pending.Begun.{Begun}
use Rattle.yaml_store_composer.specs.declared.pending.PendingProperties.{PendingProperties}
use Rattle.yaml_store_composer.proofs.PendingLaws.{start-with, start-in-with}
use Rattle.yaml_tree_builder.proofs.JudgedLaws.{judges-rest}
use Rattle.yaml_tree_builder.proofs.NodeLaws.{no-nodes, aside-start, aside-end, aside-document, nodes-both, collection-node}
use Rattle.yaml_store_composer.proofs.BufferLaws.{split-ends}

-- ---- whole nodes behind the others

opened-more : (e : Event) (es fs : List Event) (n : ℕ) → IsOpen e es → AreNodes n fs → IsOpen e (es ++ fs)
opened-more e es fs n o p = record { kind = o.kind; flow = o.flow; anchor = o.anchor; tag = o.tag; is = o.is; count = o.count + n; nodes = nodes-both o.count n es fs o.nodes p }

-- more events behind those of a collection
since-more : (I : Event → List Event → Type 0) (O : List Event → List Event → Type 0) (b : Begun) (log told fs : List Event) → (s : Since I O b log told) → I (settled b.due s.first) (s.rest ++ fs) → Since I O b (log ++ fs) (told ++ fs)
since-more I O b log told fs s i =
    let es = settled b.due s.first ∷ s.rest in
    record {
      front = s.front;
      before = s.before;
      first = s.first;
      rest = s.rest ++ fs;
      log_is = ap (λ z. z ++ fs) s.log_is ∙ append_assoc s.front (s.first ∷ s.rest) fs;
      told_is = ap (λ z. z ++ fs) s.told_is ∙ (append_assoc s.before (start_above b.above ++ es) fs ∙ ap (λ z. s.before ++ z) (append_assoc (start_above b.above) es fs));
      at = s.at;
      start = s.start;
      inside_is = i;
      outside_is = s.outside_is;
    }

pub opens-more : (bs : List Begun) (log told fs : List Event) (n : ℕ) → OpensTold bs log told → AreNodes n fs → OpensTold bs (log ++ fs) (told ++ fs)
opens-more [] log told fs n o p = ap (λ z. z ++ fs) o
opens-more (b ∷ bs) log told fs n o p = since-more IsOpen (OpensTold bs) b log told fs o (opened-more (settled b.due o.first) o.rest fs n o.inside_is p)

-- a collection that ended is a whole node like others
folded : (b : Begun) (bs : List Begun) (log told : List Event) → b.due ≡ None → b.above ≡ None → Since IsWhole (OpensTold bs) b log told → OpensTold bs log told
folded b bs log told n v s =
    let es = s.first ∷ s.rest in
    let same : settled b.due s.first ≡ s.first = ap (λ d. settled d s.first) n in
    let whole : AreNodes 1 es = subst (λ e. AreNodes 1 (e ∷ s.rest)) same s.inside_is in
    let more = opens-more bs s.front s.before es 1 s.outside_is whole in
    let is : told ≡ s.before ++ es = s.told_is ∙ (λ z. s.before ++ (start_above (v z) ++ (same z ∷ s.rest))) in
    subst (λ z. OpensTold bs z told) (sym s.log_is) (subst (OpensTold bs (s.front ++ es)) (sym is) more)

-- ---- what begins and what ends

begun : (b : Begun) (bs : List Begun) (log told : List Event) (e : Event) (kind : Collection) (flow : Bool) (a : Anchor) (g : WrittenTag) → b.at ≡ length log → settled b.due e ≡ start_of kind flow a g → IsStartIn b.above e → OpensTold bs log told
    → Since IsOpen (OpensTold bs) b (log ++ (e ∷ [])) (told ++ (start_above b.above ++ (settled b.due e ∷ [])))
begun b bs log told e kind flow a g at q w o = record {
  front = log;
  before = told;
  first = e;
  rest = [];
  log_is = refl;
  told_is = refl;
  at = at;
  start = w;
  inside_is = record { kind = kind; flow = flow; anchor = a; tag = g; is = q; count = 0; nodes = no-nodes };
  outside_is = o;
}

whole-node : (e : Event) (es : List Event) (k : Collection) → IsOpen e es → IsWhole e (es ++ (end_of k ∷ []))
whole-node e es k o = subst (λ f. AreNodes 1 (f ∷ (es ++ (end_of k ∷ [])))) (sym o.is) (collection-node o.kind k o.flow o.anchor o.tag o.count es o.nodes)

over : (b : Begun) (bs : List Begun) (log told : List Event) (k : Collection) → Since IsOpen (OpensTold bs) b log told → Since IsWhole (OpensTold bs) b (log ++ (end_of k ∷ [])) (told ++ (end_of k ∷ []))
over b bs log told k s =
    let fs = end_of k ∷ [] in
    let es = settled b.due s.first ∷ s.rest in
    record {
      front = s.front;
      before = s.before;
      first = s.first;
      rest = s.rest ++ fs;
      log_is = ap (λ z. z ++ fs) s.log_is ∙ append_assoc s.front (s.first ∷ s.rest) fs;
      told_is = ap (λ z. z ++ fs) s.told_is ∙ (append_assoc s.before (start_above b.above ++ es) fs ∙ ap (λ z. s.before ++ z) (append_assoc (start_above b.above) es fs));
      at = s.at;
      start = s.start;
      inside_is = whole-node (settled b.due s.first) s.rest k s.inside_is;
      outside_is = s.outside_is;
    }

-- ---- properties that are due

-- a mark behind as many events as stand before a collection
record AtMark (front rest log es : List Event) : Type 0 where
  before : log ≡ front
  since : es ≡ rest

at-mark : (front rest log es : List Event) (start : ℕ) → start ≡ length front → start ≡ length log → log ++ es ≡ front ++ rest → AtMark front rest log es
at-mark front rest log es start f l e =
    let r = split-ends log es front rest e (omega (arith, f, l, ap length e, length-append log es, length-append front rest)) in
    record { before = r.0; since = r.1 }

-- the event gets what was due
since-paid : (I : Event → List Event → Type 0) (O : List Event → List Event → Type 0) (b c : Begun) (start : ℕ) (p : Props) (log es told : List Event) → IsPaid b start p c → start ≡ length log → Since I O b (log ++ es) told → Since I O c (log ++ dressed p es) told
since-paid I O b c start p log es told w l s =
    let m = at-mark s.front (s.first ∷ s.rest) log es start (sym w.mark ∙ s.at) l s.log_is in
    let first = with_props p s.first in
    let was : settled b.due s.first ≡ first = (λ z. settled (w.due z) s.first) ∙ (λ z. with_props (w.same z) s.first) in
    let now : settled c.due first ≡ first = λ z. settled (w.none z) first in
    let same : settled b.due s.first ≡ settled c.due first = was ∙ sym now in
    record {
      front = s.front;
      before = s.before;
      first = first;
      rest = s.rest;
      log_is = λ z. m.before z ++ dressed p (m.since z);
      told_is = s.told_is ∙ (λ z. s.before ++ (start_above (sym w.above z) ++ (same z ∷ s.rest)));
      at = w.at ∙ (sym w.mark ∙ s.at);
      start = start-in-with c.above s.first p (subst (λ v. IsStartIn v s.first) (sym w.above) s.start);
      inside_is = subst (λ e. I e s.rest) same s.inside_is;
      outside_is = s.outside_is;
    }

-- the mark at the first event of a collection that ended, of whose end the builder was not told
held-at : (O : List Event → List Event → Type 0) (b : Begun) (above : Above) (start : ℕ) (log es told : List Event) → b.at ≡ start → start ≡ length log → (h : Held O b above (log ++ es) told) → AtMark h.since.front (h.since.first ∷ (h.since.rest ++ (end_of above.kind ∷ []))) log es
held-at O b above start log es told at l h =
    let s = h.since in
    let last = end_of above.kind ∷ [] in
    at-mark s.front (s.first ∷ (s.rest ++ last)) log es start (sym at ∙ s.at) l (h.log_is ∙ (ap (λ z. z ++ last) s.log_is ∙ append_assoc s.front (s.first ∷ s.rest) last))

held-paid : (O : List Event → List Event → Type 0) (b c : Begun) (above : Above) (start : ℕ) (p : Props) (log es told : List Event) → IsPaid b start p c → start ≡ length log → Held O b above (log ++ es) told → Held O c above (log ++ dressed p es) told
held-paid O b c above start p log es told w l h =
    let s = h.since in
    let last = end_of above.kind ∷ [] in
    let m = held-at O b above start log es told w.mark l h in
    let inner = s.first ∷ s.rest in
    let here : Since IsOpen O b (log ++ inner) told = subst (λ z. Since IsOpen O b z told) (s.log_is ∙ ap (λ z. z ++ inner) (sym m.before)) s in
    record {
      inner = log ++ dressed p inner;
      log_is = ap (λ z. log ++ dressed p z) m.since ∙ sym (append_assoc log (with_props p s.first ∷ s.rest) last);
      since = since-paid IsOpen O b c start p log inner told w l here;
    }

over-paid : (v : Option Above) (O : List Event → List Event → Type 0) (b c : Begun) (start : ℕ) (p : Props) (log es told : List Event) → IsPaid b start p c → start ≡ length log → OverTold v O b (log ++ es) told → OverTold v O c (log ++ dressed p es) told
over-paid None O b c start p log es told w l s = since-paid IsWhole O b c start p log es told w l s
over-paid (Some above) O b c start p log es told w l h = held-paid O b c above start p log es told w l h

dressed-length : (p : Props) (es : List Event) → length (dressed p es) ≡ length es
dressed-length p [] = refl
dressed-length p (e ∷ es) = refl

-- ---- what the builder is told

-- nothing is put down yet
pub tells-none : (j : Judged) (ended : Option Begun) (opens : List Begun) → ended ≡ None → opens ≡ [] → Judges j [] → TellsOf j ended (reverse opens) 0 []
tells-none j ended opens n e f = rw (n, e) (record { told = []; is = refl; judges = f; size = refl })

-- nothing is due to a collection that ended
pub goes-on : (a : PendingProperties) (b : Begun) → a.ended ≡ Some b → b.due ≡ None → b.above ≡ None → GoesOn a (record a { ended = None })
goes-on a b e n v = record {
  none = refl;
  tells = λ log t.
      let bs = reverse a.opens.items in
      let o : OverTold b.above (OpensTold bs) b log t.told = subst (λ z. EndedTold z bs log t.told) e t.is in
      let s : Since IsWhole (OpensTold bs) b log t.told = subst (λ z. OverTold z (OpensTold bs) b log t.told) v o in
      record { told = t.told; is = folded b bs log t.told n v s; judges = t.judges; size = t.size };
}

pub goes-on-none : (a : PendingProperties) → a.ended ≡ None → GoesOn a a
goes-on-none a n = record { none = n; tells = λ log t. t }

opens-told : (j : Judged) (ended : Option Begun) (opens : List Begun) (early : ℕ) (log : List Event) → ended ≡ None → (t : TellsOf j ended opens early log) → OpensTold opens log t.told
opens-told j ended opens early log n t = subst (λ z. EndedTold z opens log t.told) n t.is

-- a whole node, by one event
pub tells-node : (old new : Judged) (ended : Option Begun) (opens : List Begun) (early at number : ℕ) (e : Event) → ended ≡ None → AreNodes 1 (e ∷ []) → number ≡ at + early → Takes number e old new → (log : List Event) → at ≡ length log → TellsOf old ended opens early log → TellsOf new ended opens early (log ++ (e ∷ []))
tells-node old new ended opens early at number e n p q k log l t =
    let o = opens-told old ended opens early log n t in
    record {
      told = t.told ++ (e ∷ []);
      is = subst (λ z. EndedTold z opens (log ++ (e ∷ [])) (t.told ++ (e ∷ []))) (sym n) (opens-more opens log t.told (e ∷ []) 1 o p);
      judges = k.is t.told (omega (arith, q, l, t.size)) t.judges;
      size = omega (arith, t.size, length-append log (e ∷ []), length-append t.told (e ∷ []));
    }

-- events of which the builder is not told
pub tells-rest : (a : PendingProperties) (log : List Event) → a.ended ≡ None → Tells a log → Tells a (log ++ (stream_start ∷ [])) × Tells a (log ++ (stream_end ∷ [])) × ((explicit : Bool) → Tells a (log ++ (document_end explicit ∷ [])))
tells-rest a log n t =
    let bs = reverse a.opens.items in
    let f = judges-rest a.judged t.told t.judges in
    let o = opens-told a.judged a.ended bs a.early log n t in
    let more : (e : Event) → AreNodes 0 (e ∷ []) → Judges a.judged (t.told ++ (e ∷ [])) → Tells a (log ++ (e ∷ [])) = λ e p g. record {
      told = t.told ++ (e ∷ []);
      is = subst (λ z. EndedTold z bs (log ++ (e ∷ [])) (t.told ++ (e ∷ []))) (sym n) (opens-more bs log t.told (e ∷ []) 0 o p);
      judges = g;
      size = omega (arith, t.size, length-append log (e ∷ []), length-append t.told (e ∷ []));
    } in
    (more stream_start aside-start f.0, more stream_end aside-end f.1, λ explicit. more (document_end explicit) (aside-document explicit) (f.2 explicit))

-- an event where no collection is open
no-items : {X : Type 0} (xs : List X) → length xs ≤ 0 → xs ≡ []
no-items [] l = refl
no-items (x ∷ xs) l = absurd (omega arith)

same-told : (j : Judged) (ended : Option Begun) (opens : List Begun) (early : ℕ) (log : List Event) → ended ≡ None → length opens ≤ 0 → (t : TellsOf j ended (reverse opens) early log) → t.told ≡ log
same-told j ended opens early log n l t = subst (λ z. OpensTold (reverse z) log t.told) (no-items opens l) (opens-told j ended (reverse opens) early log n t)

pub tells-all : (j : Judged) (ended : Option Begun) (opens : List Begun) (early : ℕ) (log : List Event) → ended ≡ None → length opens ≤ 0 → TellsOf j ended (reverse opens) early log → Judges j log
tells-all j ended opens early log n l t = subst (Judges j) (same-told j ended opens early log n l t) t.judges

pub tells-outside : (old new : Judged) (ended : Option Begun) (opens : List Begun) (early : ℕ) (e : Event) → ended ≡ None → length opens ≤ 0 → Puts Judges old (e ∷ []) new → (log : List Event) → TellsOf old ended (reverse opens) early log → TellsOf new ended (reverse opens) early (log ++ (e ∷ []))
tells-outside old new ended opens early e n l k log t =
    let f = tells-all old ended opens early log n l t in
    let none = no-items opens l in
    let size : length (log ++ (e ∷ [])) ≡ length (log ++ (e ∷ [])) + early = omega (arith, t.size, ap length (same-told old ended opens early log n l t)) in
    rw (n, none) (record { told = log ++ (e ∷ []); is = refl; judges = k.is log f; size = size })

-- ---- collections

reverse-push : (opens more : List Begun) (b : Begun) → more ≡ opens ++ (b ∷ []) → reverse more ≡ b ∷ reverse opens
reverse-push opens more b e = ap reverse e ∙ reverse-append opens (b ∷ [])

-- the log where this collection is the innermost
innermost : (j : Judged) (ended : Option Begun) (opens more : List Begun) (b : Begun) (early : ℕ) (log told : List Event) → ended ≡ None → more ≡ opens ++ (b ∷ []) → Judges j told → length told ≡ length log + early → Since IsOpen (OpensTold (reverse opens)) b log told → TellsOf j ended (reverse more) early log
innermost j ended opens more b early log told n m f l s =
    record { told = told; is = subst (λ z. EndedTold z (reverse more) log told) (sym n) (subst (λ z. OpensTold z log told) (sym (reverse-push opens more b m)) s); judges = f; size = l }

inner-told : (j : Judged) (ended : Option Begun) (opens left : List Begun) (b : Begun) (early : ℕ) (log : List Event) → ended ≡ None → opens ≡ left ++ (b ∷ []) → (t : TellsOf j ended (reverse opens) early log) → Since IsOpen (OpensTold (reverse left)) b log t.told
inner-told j ended opens left b early log n m t = subst (λ z. OpensTold z log t.told) (reverse-push left opens b m) (opens-told j ended (reverse opens) early log n t)

-- a collection begins, perhaps in a mapping
pub tells-opened : (old new : Judged) (ended : Option Begun) (opens more : List Begun) (b : Begun) (e : Event) (kind : Collection) (flow : Bool) (a : Anchor) (g : WrittenTag) (early now : ℕ) → ended ≡ None → more ≡ opens ++ (b ∷ []) → settled b.due e ≡ start_of kind flow a g → IsStartIn b.above e → length (start_above b.above) + early ≡ now
    → (log : List Event) → b.at ≡ length log → (t : TellsOf old ended (reverse opens) early log) → Judges new (t.told ++ (start_above b.above ++ (settled b.due e ∷ []))) → TellsOf new ended (reverse more) now (log ++ (e ∷ []))
tells-opened old new ended opens more b e kind flow a g early now n m q w c log at t k =
    let o = opens-told old ended (reverse opens) early log n t in
    let fs = settled b.due e ∷ [] in
    let told = t.told ++ (start_above b.above ++ fs) in
    innermost new ended opens more b now (log ++ (e ∷ [])) told n m k
    (omega (arith, t.size, c, length-append log (e ∷ []), length-append t.told (start_above b.above ++ fs), length-append (start_above b.above) fs))
    (begun b (reverse opens) log t.told e kind flow a g at q w o)

-- one that ended
pub tells-ended : (old new : Judged) (ended after : Option Begun) (opens left : List Begun) (b : Begun) (k : Collection) (early : ℕ) → ended ≡ None → opens ≡ left ++ (b ∷ []) → after ≡ Some b → b.above ≡ None → Puts Judges old (end_of k ∷ []) new
    → (log : List Event) → TellsOf old ended (reverse opens) early log → TellsOf new after (reverse left) early (log ++ (end_of k ∷ []))
tells-ended old new ended after opens left b k early n m q v step log t =
    let fs = end_of k ∷ [] in
    let bs = reverse left in
    let s = over b bs log t.told k (inner-told old ended opens left b early log n m t) in
    record {
      told = t.told ++ fs;
      is = subst (λ z. EndedTold z bs (log ++ fs) (t.told ++ fs)) (sym q) (subst (λ z. OverTold z (OpensTold bs) b (log ++ fs) (t.told ++ fs)) (sym v) s);
      judges = step.is t.told t.judges;
      size = omega (arith, t.size, length-append log fs, length-append t.told fs);
    }

-- what the builder was told is no shorter than the log
opens-longer : (bs : List Begun) (log told : List Event) → OpensTold bs log told → length log ≤ length told
opens-longer [] log told o = omega (arith, ap length o)
opens-longer (b ∷ bs) log told s =
    let es = settled b.due s.first ∷ s.rest in
    omega (arith, opens-longer bs s.front s.before s.outside_is, ap length s.log_is, ap length s.told_is, length-append s.front (s.first ∷ s.rest), length-append s.before (start_above b.above ++ es), length-append (start_above b.above) es)

-- and longer where the innermost collection may be a key
above-longer : (bs : List Begun) (b : Begun) (above : Above) (log told : List Event) → b.above ≡ Some above → Since IsOpen (OpensTold bs) b log told → length log < length told
above-longer bs b above log told v s =
    let es = settled b.due s.first ∷ s.rest in
    let one : length (start_above b.above) ≡ 1 = ap (λ z. length (start_above z)) v in
    omega (arith, one, opens-longer bs s.front s.before s.outside_is, ap length s.log_is, ap length s.told_is, length-append s.front (s.first ∷ s.rest), length-append s.before (start_above b.above ++ es), length-append (start_above b.above) es)

-- one of which it is not known whether it is a key
pub tells-held : (j : Judged) (ended after : Option Begun) (opens left : List Begun) (b : Begun) (above : Above) (early less : ℕ) → ended ≡ None → opens ≡ left ++ (b ∷ []) → after ≡ Some b → b.above ≡ Some above → less ≡ early - 1
    → (log : List Event) → TellsOf j ended (reverse opens) early log → TellsOf j after (reverse left) less (log ++ (end_of above.kind ∷ []))
tells-held j ended after opens left b above early less n m q v l log t =
    let fs = end_of above.kind ∷ [] in
    let bs = reverse left in
    let s = inner-told j ended opens left b early log n m t in
    let h : Held (OpensTold bs) b above (log ++ fs) t.told = record { inner = log; log_is = refl; since = s } in
    let more = above-longer bs b above log t.told v s in
    record {
      told = t.told;
      is = subst (λ z. EndedTold z bs (log ++ fs) t.told) (sym q) (subst (λ z. OverTold z (OpensTold bs) b (log ++ fs) t.told) (sym v) h);
      judges = t.judges;
      size = omega (arith, t.size, l, more, length-append log fs);
    }

-- the collection that ended gets what was due
pub tells-paid : (j : Judged) (opens : List Begun) (b d : Begun) (early start : ℕ) (p : Props) (log es : List Event) → IsPaid b start p d → start ≡ length log → TellsOf j (Some b) opens early (log ++ es) → TellsOf j (Some d) opens early (log ++ dressed p es)
tells-paid j opens b d early start p log es w l t =
    let O = OpensTold opens in
    record {
      told = t.told;
      is = subst (λ z. OverTold z O d (log ++ dressed p es) t.told) (sym w.above) (over-paid b.above O b d start p log es t.told w l t.is);
      judges = t.judges;
      size = omega (arith, t.size, length-append log es, length-append log (dressed p es), dressed-length p es);
    }

-- and the one that is open
pub tells-paid-open : (j : Judged) (ended after : Option Begun) (opens left more : List Begun) (b d : Begun) (early start : ℕ) (p : Props) (log es : List Event) → ended ≡ None → after ≡ None → opens ≡ left ++ (b ∷ []) → more ≡ left ++ (d ∷ []) → IsPaid b start p d → start ≡ length log
    → TellsOf j ended (reverse opens) early (log ++ es) → TellsOf j after (reverse more) early (log ++ dressed p es)
tells-paid-open j ended after opens left more b d early start p log es n v m q w l t =
    let s = inner-told j ended opens left b early (log ++ es) n m t in
    innermost j after left more d early (log ++ dressed p es) t.told v q t.judges (omega (arith, t.size, length-append log es, length-append log (dressed p es), dressed-length p es)) (since-paid IsOpen (OpensTold (reverse left)) b d start p log es t.told w l s)

-- ---- mappings that begin before a collection

-- a mapping begins before the collection that ended
since-before : (b d : Begun) (bs : List Begun) (log es told : List Event) (start : ℕ) (m : Event) (kind : Collection) (flow : Bool) (a : Anchor) (g : WrittenTag) → b.at ≡ start → b.due ≡ None → d.at ≡ start → d.above ≡ None → settled d.due m ≡ m → m ≡ start_of kind flow a g → start ≡ length log
    → (s : Since IsWhole (OpensTold bs) b (log ++ es) told) → Since IsOpen (OpensTold bs) d (log ++ (m ∷ es)) (s.before ++ (m ∷ (s.first ∷ s.rest)))
since-before b d bs log es told start m kind flow a g at none same v due is l s =
    let k = at-mark s.front (s.first ∷ s.rest) log es start (sym at ∙ s.at) l s.log_is in
    let first : settled b.due s.first ≡ s.first = λ z. settled (none z) s.first in
    let whole : AreNodes 1 (s.first ∷ s.rest) = subst (λ e. AreNodes 1 (e ∷ s.rest)) first s.inside_is in
    record {
      front = s.front;
      before = s.before;
      first = m;
      rest = s.first ∷ s.rest;
      log_is = λ z. k.before z ++ (m ∷ k.since z);
      told_is = λ z. s.before ++ (start_above (sym v z) ++ (sym due z ∷ (s.first ∷ s.rest)));
      at = same ∙ (sym at ∙ s.at);
      start = subst (λ z. IsStartIn z m) (sym v) tt;
      inside_is = record { kind = kind; flow = flow; anchor = a; tag = g; is = due ∙ is; count = 1; nodes = whole };
      outside_is = s.outside_is;
    }

pub tells-before : (old new : Judged) (after : Option Begun) (opens more : List Begun) (b d : Begun) (early start number : ℕ) (m : Event) (kind : Collection) (flow : Bool) (a : Anchor) (g : WrittenTag) (log es : List Event) → after ≡ None → more ≡ opens ++ (d ∷ []) → number ≡ start + early
    → b.at ≡ start → b.due ≡ None → b.above ≡ None → d.at ≡ start → d.above ≡ None → settled d.due m ≡ m → m ≡ start_of kind flow a g → ((front fs : List Event) → number ≡ length front → AreNodes 1 fs → Judges old (front ++ fs) → Judges new (front ++ (m ∷ fs))) → start ≡ length log
    → TellsOf old (Some b) (reverse opens) early (log ++ es) → TellsOf new after (reverse more) early (log ++ (m ∷ es))
tells-before old new after opens more b d early start number m kind flow a g log es v q c at none w same x due is k l t =
    let O = OpensTold (reverse opens) in
    let s : Since IsWhole O b (log ++ es) t.told = subst (λ z. OverTold z O b (log ++ es) t.told) w t.is in
    let first : settled b.due s.first ≡ s.first = λ z. settled (none z) s.first in
    let fs = s.first ∷ s.rest in
    let whole : AreNodes 1 fs = subst (λ x. AreNodes 1 (x ∷ s.rest)) first s.inside_is in
    let told : t.told ≡ s.before ++ fs = s.told_is ∙ (λ z. s.before ++ (start_above (w z) ++ (first z ∷ s.rest))) in
    let size : number ≡ length s.before = omega (arith, c, at, s.at, t.size, ap length told, ap length s.log_is, length-append s.before fs, length-append s.front fs) in
    let grown : length (s.before ++ (m ∷ fs)) ≡ length (log ++ (m ∷ es)) + early = omega (arith, t.size, ap length told, length-append s.before fs, length-append s.before (m ∷ fs), length-append log es, length-append log (m ∷ es)) in
    innermost new after opens more d early (log ++ (m ∷ es)) (s.before ++ (m ∷ fs)) v q (k s.before fs size whole (subst (Judges old) told t.judges)) grown (since-before b d (reverse opens) log es t.told start m kind flow a g at none same x due is l s)

-- ---- a collection of which it was not known whether it is a key

-- with what properties the builder was told of it
record Own (d : Option Properties) (k : Collection) (e : Event) (flow : Bool) : Type 0 where
  own : Props
  is : settled d e ≡ start_of k flow own.anchor own.tag
  given : (g : Properties) → d ≡ Some g → own ≡ props_of g

own-of : (d : Option Properties) (k : Collection) (e : Event) (w : IsStart k e) → Own d k e w.flow
own-of None k e w = record { own = record { anchor = w.anchor; tag = w.tag }; is = w.is; given = λ g q. absurd (cc) }
own-of (Some f) k e w = record {
  own = props_of f;
  is = ap (with_props (props_of f)) w.is ∙ start-with k w.flow w.anchor w.tag (props_of f);
  given = λ g q. let same : f ≡ g = cc in ap props_of same;
}

-- What the builder was told, where the mark stands at the collection's first event.
record HeldSo (O : List Event → List Event → Type 0) (b : Begun) (above : Above) (start early : ℕ) (log es told : List Event) : Type 0 where
  front : List Event
  before : List Event
  first : Event
  rest : List Event
  flow : Bool
  own : Props
  count : ℕ
  log_is : log ≡ front
  es_is : es ≡ first ∷ (rest ++ (end_of above.kind ∷ []))
  told_is : told ≡ keyed before (props_of above.outer).anchor untagged above.kind flow own rest
  first_is : settled b.due first ≡ start_of above.kind flow own.anchor own.tag
  given : (g : Properties) → b.due ≡ Some g → own ≡ props_of g
  with_others : (p : Props) → with_props p first ≡ start_of above.kind flow p.anchor p.tag
  nodes : AreNodes count rest
  at : start ≡ length front
  size : start + early ≡ length before
  outside_is : O front before

held-so : (O : List Event → List Event → Type 0) (b : Begun) (above : Above) (start early : ℕ) (log es told : List Event) → b.above ≡ Some above → b.at ≡ start → start ≡ length log → length told ≡ length (log ++ es) + early → Held O b above (log ++ es) told → HeldSo O b above start early log es told
held-so O b above start early log es told v at l n h =
    let s = h.since in
    let last = end_of above.kind ∷ [] in
    let m = held-at O b above start log es told at l h in
    let w : IsStart above.kind s.first = subst (λ z. IsStartIn z s.first) v s.start in
    let o = own-of b.due above.kind s.first w in
    let outer = (props_of above.outer).anchor in
    let is : told ≡ keyed s.before outer untagged above.kind w.flow o.own s.rest = s.told_is ∙ (λ z. s.before ++ (start_above (v z) ++ (o.is z ∷ s.rest))) in
    let map = mapping_start false outer untagged in
    let begins = start_of above.kind w.flow o.own.anchor o.own.tag in
    record {
      front = s.front;
      before = s.before;
      first = s.first;
      rest = s.rest;
      flow = w.flow;
      own = o.own;
      count = s.inside_is.count;
      log_is = m.before;
      es_is = m.since;
      told_is = is;
      first_is = o.is;
      given = o.given;
      with_others = λ p. ap (with_props p) w.is ∙ start-with above.kind w.flow w.anchor w.tag p;
      nodes = s.inside_is.nodes;
      at = sym at ∙ s.at;
      size = omega (arith, n, l, ap length is, ap length m.since, length-append log es, length-append s.before (map ∷ (begins ∷ s.rest)), length-append s.rest last, at, s.at);
      outside_is = s.outside_is;
    }

-- it gets all properties: it is no key
pub tells-alone : (old mid new : Judged) (opens : List Begun) (b : Begun) (above : Above) (own : Properties) (early start number : ℕ) (p : Props) (log es : List Event) → b.above ≡ Some above → b.due ≡ Some own → b.at ≡ start → number ≡ start + early
    → IsOneAnchor (props_of above.outer).anchor (props_of own).anchor p.anchor → HasOwnTag (props_of own).tag p.tag → SettlesAlone Judges number above.kind p old mid → Puts Judges mid (end_of above.kind ∷ []) new → start ≡ length log
    → TellsOf old (Some b) opens early (log ++ es) → TellsOf new (Some (record { at = b.at; due = None; above = None })) opens early (log ++ dressed p es)
tells-alone old mid new opens b above own early start number p log es v d at c one tag k q l t =
    let O = OpensTold opens in
    let h : Held O b above (log ++ es) t.told = subst (λ z. OverTold z O b (log ++ es) t.told) v t.is in
    let s = held-so O b above start early log es t.told v at l t.size h in
    let last = end_of above.kind ∷ [] in
    let first = start_of above.kind s.flow p.anchor p.tag in
    let g = s.given own d in
    let told : Judges old (keyed s.before (props_of above.outer).anchor untagged above.kind s.flow s.own s.rest) = subst (Judges old) s.told_is t.judges in
    let alone = k.is s.before s.rest s.count s.flow (props_of above.outer).anchor s.own (c ∙ s.size) s.nodes (subst (λ z. IsOneAnchor (props_of above.outer).anchor z.anchor p.anchor) (sym g) one) (subst (λ z. HasOwnTag z.tag p.tag) (sym g) tag) told in
    let ended = q.is (s.before ++ (first ∷ s.rest)) alone in
    let now = s.before ++ (first ∷ (s.rest ++ last)) in
    let dressed_is : dressed p es ≡ first ∷ (s.rest ++ last) = ap (dressed p) s.es_is ∙ (λ z. s.with_others p z ∷ (s.rest ++ last)) in
    record {
      told = now;
      is = record {
        front = s.front;
        before = s.before;
        first = first;
        rest = s.rest ++ last;
        log_is = λ z. s.log_is z ++ dressed_is z;
        told_is = refl;
        at = at ∙ s.at;
        start = tt;
        inside_is = collection-node above.kind above.kind s.flow p.anchor p.tag s.count s.rest s.nodes;
        outside_is = s.outside_is;
      };
      judges = subst (Judges new) (append_assoc s.before (first ∷ s.rest) last) ended;
      size = omega (arith, c, s.size, l, ap length dressed_is, length-append log (dressed p es), length-append s.before (first ∷ (s.rest ++ last)));
    }

-- a mapping begins before it: it is a key
pub tells-key : (old mid new : Judged) (after : Option Begun) (opens more : List Begun) (b : Begun) (above : Above) (early start number : ℕ) (log es : List Event) → after ≡ None → b.above ≡ Some above → b.due ≡ None → b.at ≡ start → number ≡ start + early
    → SettlesKey Judges number (props_of above.outer) old mid → Puts Judges mid (end_of above.kind ∷ []) new → more ≡ opens ++ (record { at = start; due = Some above.outer; above = None } ∷ []) → start ≡ length log
    → TellsOf old (Some b) (reverse opens) early (log ++ es) → TellsOf new after (reverse more) early (log ++ (mapping_start false None untagged ∷ es))
tells-key old mid new after opens more b above early start number log es n v d at c k q m l t =
    let O = OpensTold (reverse opens) in
    let h : Held O b above (log ++ es) t.told = subst (λ z. OverTold z O b (log ++ es) t.told) v t.is in
    let s = held-so O b above start early log es t.told v at l t.size h in
    let last = end_of above.kind ∷ [] in
    let outer = props_of above.outer in
    let map = mapping_start false None untagged in
    let known = mapping_start false outer.anchor outer.tag in
    let first = start_of above.kind s.flow s.own.anchor s.own.tag in
    let same : s.first ≡ first = (λ z. settled (sym d z) s.first) ∙ s.first_is in
    let told = subst (Judges old) s.told_is t.judges in
    let key = k.is s.before s.rest s.count above.kind s.flow s.own (c ∙ s.size) s.nodes told in
    let ended = q.is (keyed s.before outer.anchor outer.tag above.kind s.flow s.own s.rest) key in
    let es_is : es ≡ first ∷ (s.rest ++ last) = s.es_is ∙ (λ z. same z ∷ (s.rest ++ last)) in
    let now = s.before ++ (known ∷ (first ∷ (s.rest ++ last))) in
    innermost new after opens more (record { at = start; due = Some above.outer; above = None }) early (log ++ (map ∷ es)) now n m (subst (Judges new) (append_assoc s.before (known ∷ (first ∷ s.rest)) last) ended)
    (omega (arith, c, s.size, l, ap length es_is, length-append log (map ∷ es), length-append s.before (known ∷ (first ∷ (s.rest ++ last)))))
    (record {
      front = s.front;
      before = s.before;
      first = map;
      rest = first ∷ (s.rest ++ last);
      log_is = λ z. s.log_is z ++ (map ∷ es_is z);
      told_is = refl;
      at = s.at;
      start = tt;
      inside_is = record { kind = kinds.Mapping; flow = false; anchor = outer.anchor; tag = outer.tag; is = refl; count = 1; nodes = collection-node above.kind above.kind s.flow s.own.anchor s.own.tag s.count s.rest s.nodes };
      outside_is = s.outside_is;
    })
