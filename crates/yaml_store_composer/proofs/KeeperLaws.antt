-- What a keeper that composes holds, after its calls.
use Rattle.std.proofs.Common.{◌≡◌, ◌≤◌, ℕ, ◌+◌, ◌-◌, min, true, false, List, [], ◌∷◌, ◌++◌, length, refl, sym, ◌∙◌, ap, subst, arith, append-nil, length-append}
use Rattle.std.specs.Prelude.{None, Bool}
use Rattle.yaml_definitions.specs.model.Event.{Event, stream_start, stream_end, document_end, mapping_start, untagged}
use Rattle.yaml_definitions.specs.grammar.Events.{Props}
use Rattle.yaml_sink.specs.Held.{Keeps, Puts, Alters}
use Rattle.yaml_sink.specs.PropertyRules.{dressed}
use Rattle.yaml_store_composer.specs.PendingModel.{Tells, GoesOn}
use Rattle.yaml_store_composer.specs.BufferModel.{waits, Precedes, DressesWaits, ComposesWaits}
use Rattle.yaml_store_composer.specs.KeeperModel.{ComposesBut, Composes, MakesRoom, CountsOn, DressesOne}
use Rattle.yaml_store_composer.specs.declared.pending.PendingProperties.{PendingProperties}
use Rattle.yaml_store_composer.specs.declared.keeper.Composing.{Composing}
use Rattle.yaml_store_composer.proofs.BufferLaws.{split-ends}
use Rattle.yaml_store_composer.proofs.DueLaws.{tells-rest}

-- nothing was put down
pub composes-start : (k : Composing) → k.count ≡ 0 → waits k.buffer ≡ [] → Tells k.pending [] → Composes k []
composes-start k n w t = record { count = n; is = λ g. record { front = []; split = sym w; tells = t } }

-- what waited is composed
pub all-composed : (k : Composing) (log : List Event) (pending : PendingProperties) → Composes k log → k.is_void ≡ false → ComposesWaits k.count (waits k.buffer) k.pending pending → Tells pending log
all-composed k log pending h g c =
    let b = h.is g in
    subst (Tells pending) (sym b.split) (c.is b.front (h.count ∙ ap length b.split) b.tells)

pub makes-room : (k new : Composing) → new.is_void ≡ k.is_void → ComposesWaits k.count (waits k.buffer) k.pending new.pending → waits new.buffer ≡ [] → new.count ≡ k.count + 1 → MakesRoom k new
makes-room k new f c w n = record { count = n; is_void = f; none = w; tells = λ log h g. all-composed k log new.pending h (sym f ∙ g) c }

-- what waited is composed, and nothing is known of what ended then
pub goes-on : (n : ℕ) (es : List Event) (a b d : PendingProperties) → ComposesWaits n es a b → GoesOn b d → ComposesWaits n es a d
goes-on n es a b d c g = record { is = λ log l t. g.tells (log ++ es) (c.is log l t) }

-- what waited is composed, and the log is the same
pub settles : (k new : Composing) → k.is_void ≡ false → ComposesWaits k.count (waits k.buffer) k.pending new.pending → waits new.buffer ≡ [] → new.count ≡ k.count → Keeps Composes k new
settles k new g c w n = record {
  is = λ log h. record {
    count = n ∙ h.count;
    is = λ f. record { front = log; split = sym (append-nil log) ∙ ap (λ z. log ++ z) (sym w); tells = all-composed k log new.pending h g c };
  };
}

-- an event waits
pub puts-waiting : (old room new : Composing) (e : Event) → MakesRoom old room → new.is_void ≡ room.is_void → new.pending ≡ room.pending → new.count ≡ room.count → waits new.buffer ≡ e ∷ [] → Puts Composes old (e ∷ []) new
puts-waiting old room new e r v a n w = record {
  is = λ log h. record {
    count = omega (arith, n, r.count, h.count, length-append log (e ∷ []));
    is = λ g. record { front = log; split = ap (λ z. log ++ z) (sym w); tells = subst (λ z. Tells z log) (sym a) (r.tells log h (sym v ∙ g)) };
  };
}

-- an event is composed at once
pub puts-told : (old room new : Composing) (e : Event) → MakesRoom old room → new.is_void ≡ room.is_void → Puts Tells room.pending (e ∷ []) new.pending → new.count ≡ room.count → waits new.buffer ≡ [] → Puts Composes old (e ∷ []) new
puts-told old room new e r v p n w = record {
  is = λ log h. record {
    count = omega (arith, n, r.count, h.count, length-append log (e ∷ []));
    is = λ g. record { front = log ++ (e ∷ []); split = sym (append-nil (log ++ (e ∷ []))) ∙ ap (λ z. (log ++ (e ∷ [])) ++ z) (sym w); tells = p.is log (r.tells log h (sym v ∙ g)) };
  };
}

-- and it is the one of this number
pub puts-numbered : (old room new : Composing) (e : Event) → MakesRoom old room → new.is_void ≡ room.is_void → ((log : List Event) → old.count ≡ length log → Tells room.pending log → Tells new.pending (log ++ (e ∷ []))) → new.count ≡ room.count → waits new.buffer ≡ [] → Puts Composes old (e ∷ []) new
puts-numbered old room new e r v p n w = record {
  is = λ log h. record {
    count = omega (arith, n, r.count, h.count, length-append log (e ∷ []));
    is = λ g. record { front = log ++ (e ∷ []); split = sym (append-nil (log ++ (e ∷ []))) ∙ ap (λ z. (log ++ (e ∷ [])) ++ z) (sym w); tells = p log h.count (r.tells log h (sym v ∙ g)) };
  };
}

-- nothing is known of what ended
pub passes : (old mid new : Composing) → MakesRoom old mid → GoesOn mid.pending new.pending → new.count ≡ mid.count → new.is_void ≡ mid.is_void → waits new.buffer ≡ [] → MakesRoom old new
passes old mid new r g n f w = record { count = n ∙ r.count; is_void = f ∙ r.is_void; none = w; tells = λ log h v. g.tells log (r.tells log h (sym f ∙ v)) }

-- an event of which the builder is not told
puts-rest : (old room : Composing) (e : Event) → MakesRoom old room → ((log : List Event) → Tells room.pending log → Tells room.pending (log ++ (e ∷ []))) → Puts Composes old (e ∷ []) room
puts-rest old room e r t = puts-told old room room e r refl (record { is = t }) refl r.none

pub puts-stream-start : (old room : Composing) → MakesRoom old room → room.pending.ended ≡ None → Puts Composes old (stream_start ∷ []) room
puts-stream-start old room r n = puts-rest old room stream_start r (λ log t. (tells-rest room.pending log n t).0)

pub puts-stream-end : (old room : Composing) → MakesRoom old room → room.pending.ended ≡ None → Puts Composes old (stream_end ∷ []) room
puts-stream-end old room r n = puts-rest old room stream_end r (λ log t. (tells-rest room.pending log n t).1)

pub puts-document-end : (old room : Composing) (explicit : Bool) → MakesRoom old room → room.pending.ended ≡ None → Puts Composes old (document_end explicit ∷ []) room
puts-document-end old room explicit r n = puts-rest old room (document_end explicit) r (λ log t. (tells-rest room.pending log n t).2 explicit)

-- a mapping's start waits, too
pub inserts : (old new : Composing) (start : ℕ) (flow : Bool) → new.is_void ≡ old.is_void → old.count - start ≡ 1 → new.count ≡ old.count + 1 → new.pending ≡ old.pending → Precedes flow (waits old.buffer) (waits new.buffer)
    → Alters Composes start (λ es. mapping_start flow None untagged ∷ es) old new
inserts old new start flow v d n a p = record {
  is = λ log es s h.
      let size : length es ≡ length (waits old.buffer) = omega (arith, h.count, length-append log es, s, d, p.one) in
      let m = mapping_start flow None untagged in
      record {
        count = omega (arith, n, h.count, length-append log es, length-append log (m ∷ es));
        is = λ f.
            let b = h.is (sym v ∙ f) in
            let r = split-ends log es b.front (waits old.buffer) b.split size in
            record { front = b.front; split = (λ z. r.0 z ++ (m ∷ r.1 z)) ∙ ap (λ z. b.front ++ z) (sym p.is); tells = subst (λ z. Tells z b.front) (sym a) b.tells };
      };
}

-- a mapping's start is put before a collection that ended
pub inserts-ended : (old new : Composing) (start : ℕ) (flow : Bool) → new.is_void ≡ old.is_void → waits old.buffer ≡ [] → new.buffer ≡ old.buffer → new.count ≡ old.count + 1 → Alters Tells start (λ es. mapping_start flow None untagged ∷ es) old.pending new.pending
    → Alters Composes start (λ es. mapping_start flow None untagged ∷ es) old new
inserts-ended old new start flow x w v n a = record {
  is = λ log es s h.
      let fs = mapping_start flow None untagged ∷ es in
      record {
        count = omega (arith, n, h.count, length-append log es, length-append log fs);
        is = λ f.
            let b = h.is (sym x ∙ f) in
            let whole : log ++ es ≡ b.front = b.split ∙ (ap (λ z. b.front ++ z) w ∙ append-nil b.front) in
            let told = a.is log es s (subst (Tells old.pending) (sym whole) b.tells) in
            record { front = log ++ fs; split = sym (append-nil (log ++ fs)) ∙ ap (λ z. (log ++ fs) ++ z) (sym (ap waits v ∙ w)); tells = told };
      };
}

-- ---- properties

no-more : (es : List Event) → length es ≤ 0 → es ≡ []
no-more [] l = refl
no-more (e ∷ es) l = absurd (omega arith)

-- there is no event since the mark
pub dresses-none : (k : Composing) (start : ℕ) (p : Props) → k.count ≤ start → DressesOne k start p k
dresses-none k start p l = record {
  is = λ log es s h g.
      let none : es ≡ [] = no-more es (omega (arith, l, s, h.count, length-append log es)) in
      subst (ComposesBut k.pending (waits k.buffer)) (ap (λ z. log ++ z) none ∙ ap (λ z. log ++ dressed p z) (sym none)) (h.is g);
}

-- a collection that ended gets what was due
pub dresses-ended : (old new : Composing) (start : ℕ) (p : Props) → new.is_void ≡ old.is_void → waits old.buffer ≡ [] → new.buffer ≡ old.buffer → Alters Tells start (dressed p) old.pending new.pending → DressesOne old start p new
dresses-ended old new start p f w v a = record {
  is = λ log es s h g.
      let b = h.is (sym f ∙ g) in
      let whole : log ++ es ≡ b.front = b.split ∙ (ap (λ z. b.front ++ z) w ∙ append-nil b.front) in
      let told = a.is log es s (subst (Tells old.pending) (sym whole) b.tells) in
      record { front = log ++ dressed p es; split = sym (append-nil (log ++ dressed p es)) ∙ ap (λ z. (log ++ dressed p es) ++ z) (sym (ap waits v ∙ w)); tells = told };
}

-- an event that waits does
pub dresses-waiting : (old new : Composing) (start count : ℕ) (p : Props) → new.is_void ≡ old.is_void → count ≡ old.count - start → new.pending ≡ old.pending → DressesWaits count p (waits old.buffer) (waits new.buffer) → DressesOne old start p new
dresses-waiting old new start count p f n a d = record {
  is = λ log es s h g.
      let b = h.is (sym f ∙ g) in
      record { front = b.front; split = d.is b.front log es b.split (omega (arith, n, s, h.count, length-append log es)); tells = subst (λ z. Tells z b.front) (sym a) b.tells };
}

dressed-length : (p : Props) (es : List Event) → length (dressed p es) ≡ length es
dressed-length p [] = refl
dressed-length p (e ∷ es) = refl

-- how many events there are stays
dressed-count : (k : Composing) (n : ℕ) (p : Props) (log es : List Event) → Composes k (log ++ es) → n ≡ k.count → n ≡ length (log ++ dressed p es)
dressed-count k n p log es h e = omega (arith, e, h.count, length-append log es, length-append log (dressed p es), dressed-length p es)

pub dresses : (old new : Composing) (start : ℕ) (p : Props) → new.count ≡ old.count → DressesOne old start p new → Alters Composes start (dressed p) old new
dresses old new start p n d = record { is = λ log es s h. record { count = dressed-count old new.count p log es h n; is = d.is log es s h } }

-- ---- giving up

true-false : {X : Type 0} (b : Bool) → b ≡ true → b ≡ false → X
true-false true e f = absurd (cc)
true-false false e f = absurd (cc)

pub void-dressed : (old new : Composing) (start : ℕ) (p : Props) → new.count ≡ old.count → new.is_void ≡ true → Alters Composes start (dressed p) old new
void-dressed old new start p n t = record { is = λ log es s h. record { count = dressed-count old new.count p log es h n; is = λ f. true-false new.is_void t f } }

pub void-cut : (old new : Composing) (start : ℕ) → new.count ≡ min old.count start → new.is_void ≡ true → Alters Composes start (λ _. []) old new
void-cut old new start n t = record { is = λ log es s h. record { count = omega (arith, n, s, h.count, length-append log es, ap length (append-nil log)); is = λ f. true-false new.is_void t f } }

-- an event is counted
pub puts_counted : (old new : Composing) (e : Event) → CountsOn old new → Puts Composes old (e ∷ []) new
puts_counted old new e c = record { is = λ log h. record { count = omega (arith, c.count, h.count, length-append log (e ∷ [])); is = λ f. true-false new.is_void c.is_void f } }

pub inserts_counted : (old new : Composing) (start : ℕ) (e : Event) → CountsOn old new → Alters Composes start (λ es. e ∷ es) old new
inserts_counted old new start e c = record { is = λ log es s h. record { count = omega (arith, c.count, h.count, length-append log es, length-append log (e ∷ es)); is = λ f. true-false new.is_void c.is_void f } }
