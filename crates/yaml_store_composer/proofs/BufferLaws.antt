-- Events that wait.
use Rattle.std.proofs.Common.{◌≡◌, ℕ, ◌-◌, List, [], ◌∷◌, ◌++◌, length, refl, sym, ◌∙◌, ap, subst, arith, append-nil, append_assoc, length-append}
use Rattle.std.specs.Prelude.{Option, Some, None, Bool}
use Rattle.yaml_definitions.specs.model.Event.{Event, mapping_start, untagged}
use Rattle.yaml_text.specs.declared.event.Style.{Style}
use Rattle.yaml_definitions.specs.grammar.Events.{Props, no_props}
use Rattle.yaml_sink.specs.Held.{Puts}
use Rattle.yaml_sink.specs.PropertyRules.{with_props, dressed}
use Rattle.yaml_store_composer.specs.PendingModel.{Tells}
use Rattle.yaml_store_composer.specs.BufferModel.{buffered_event, start_before, behind_start, IsOne, PutsBuffered, ComposesWaits, Precedes, DressesWaits}
use Rattle.yaml_store_composer.specs.declared.pending.PendingProperties.{PendingProperties}
use Rattle.yaml_store_composer.specs.declared.event_buffer.Buffered.{Buffered}
use Rattle.yaml_store_composer.specs.declared.event_buffer.Buffered.TheVariants.{Nothing, Scalar, Alias, Start}
use Rattle.yaml_store_composer.proofs.PendingLaws.{started-again}

-- ---- lists

pub split-ends : (xs ys cs ds : List Event) → xs ++ ys ≡ cs ++ ds → length ys ≡ length ds → (xs ≡ cs) × (ys ≡ ds)
split-ends [] ys [] ds e l = (refl, e)
split-ends [] ys (c ∷ cs) ds e l = let n = ap length e in absurd (omega (arith, n, l, length-append cs ds))
split-ends (a ∷ xs) ys [] ds e l = let n = ap length e in absurd (omega (arith, n, l, length-append xs ys))
split-ends (a ∷ xs) ys (c ∷ cs) ds e l =
    let h : a ≡ c = cc in
    let t : xs ++ ys ≡ cs ++ ds = cc in
    let r = split-ends xs ys cs ds t l in
    (λ z. h z ∷ r.0 z, r.1)

-- ---- the event that waits

pub none-buffered : (l : Buffered) (m : Option Bool) (o p : Props) (x : List ℕ) → l ≡ Nothing → behind_start m o (buffered_event l p x) ≡ []
none-buffered l m o p x e = ap (λ k. behind_start m o (buffered_event k p x)) e

pub one-buffered : (l : Buffered) (p : Props) (x : List ℕ) → (l ≡ Nothing → ⊥) → IsOne (buffered_event l p x)
one-buffered Nothing p x h = absurd (h refl)
one-buffered (Scalar style) p x h = record { event = _; is = refl }
one-buffered Alias p x h = record { event = _; is = refl }
one-buffered (Start k flow) p x h = record { event = _; is = refl }

-- one event waits where anything does
pub one-there : (l : Buffered) (m : Option Bool) (o p : Props) (x : List ℕ) → (behind_start m o (buffered_event l p x) ≡ [] → ⊥) → IsOne (buffered_event l p x)
one-there l m o p x h = one-buffered l p x (λ e. h (none-buffered l m o p x e))

there-one : (m : Option Bool) (o : Props) (e : Event) (es : List Event) → behind_start m o (e ∷ es) ≡ [] → ⊥
there-one None o e es q = absurd (cc)
there-one (Some flow) o e es q = absurd (cc)

pub there : (l : Buffered) (m : Option Bool) (o p : Props) (x : List ℕ) → (l ≡ Nothing → ⊥) → behind_start m o (buffered_event l p x) ≡ [] → ⊥
there l m o p x h q =
    let w = one-buffered l p x h in
    there-one m o w.event [] (sym (ap (behind_start m o) w.is) ∙ q)

buffered-dressed : (l : Buffered) (p q : Props) (x : List ℕ) → dressed p (buffered_event l q x) ≡ buffered_event l p x
buffered-dressed Nothing p q x = refl
buffered-dressed (Scalar style) p q x = refl
buffered-dressed Alias p q x = refl
buffered-dressed (Start k flow) p q x = ap (λ e. e ∷ []) (started-again k flow p q)

pub alone : (o : Props) (es : List Event) → behind_start None o es ≡ es
alone o [] = refl
alone o (e ∷ es) = refl

-- one event that waits, behind what may stand before it
behind-one : (m : Option Bool) (o : Props) (es : List Event) (w : IsOne es) → behind_start m o es ≡ start_before m o ++ (w.event ∷ [])
behind-one m o es w = ap (behind_start m o) w.is

-- ---- properties

dressed-one : (m : Option Bool) (o p : Props) (es : List Event) → IsOne es → (count : ℕ) → count ≡ 1 → DressesWaits count p (behind_start m o es) (behind_start m o (dressed p es))
dressed-one m o p es w count n = record {
  is = λ front log fs e l.
      let s = start_before m o in
      let a : log ++ fs ≡ (front ++ s) ++ (w.event ∷ []) = e ∙ (ap (λ z. front ++ z) (behind-one m o es w) ∙ sym (append_assoc front s (w.event ∷ []))) in
      let r = split-ends log fs (front ++ s) (w.event ∷ []) a (omega (arith, l, n)) in
      (λ z. r.0 z ++ dressed p (r.1 z)) ∙ (append_assoc front s (with_props p w.event ∷ []) ∙ ap (λ z. front ++ z) (sym (ap (λ z. behind_start m o (dressed p z)) w.is)));
}

pub dresses-buffered : (l : Buffered) (m : Option Bool) (o p q : Props) (x : List ℕ) → IsOne (buffered_event l q x) → (count : ℕ) → count ≡ 1 → DressesWaits count p (behind_start m o (buffered_event l q x)) (behind_start m o (buffered_event l p x))
dresses-buffered l m o p q x w count n =
    subst (λ z. DressesWaits count p (behind_start m o (buffered_event l q x)) (behind_start m o z)) (buffered-dressed l p q x) (dressed-one m o p (buffered_event l q x) w count n)

-- a scalar without properties gets none
pub bare-stays : (l : Buffered) (style : Style) (m : Option Bool) (o p q : Props) (x : List ℕ) → l ≡ Scalar style → p ≡ no_props → q ≡ no_props → (count : ℕ) → count ≡ 1 → DressesWaits count p (behind_start m o (buffered_event l q x)) (behind_start m o (buffered_event l q x))
bare-stays l style m o p q x e ep eq count n =
    let w : IsOne (buffered_event l q x) = subst (λ z. IsOne (buffered_event z q x)) (sym e) (record { event = _; is = refl }) in
    subst (λ z. DressesWaits count p (behind_start m o (buffered_event l q x)) (behind_start m o (buffered_event l z x))) (ep ∙ sym eq) (dresses-buffered l m o p q x w count n)

pub dresses-start : (m : Option Bool) (flow : Bool) (o p : Props) (es : List Event) → m ≡ Some flow → IsOne es → (count : ℕ) → count ≡ 2 → DressesWaits count p (behind_start m o es) (behind_start m p es)
dresses-start m flow o p es q w count n = record {
  is = λ front log fs e l.
      let before = mapping_start flow o.anchor o.tag in
      let after = mapping_start flow p.anchor p.tag in
      let is : behind_start m o es ≡ before ∷ (w.event ∷ []) = λ z. behind_start (q z) o (w.is z) in
      let new : behind_start m p es ≡ after ∷ (w.event ∷ []) = λ z. behind_start (q z) p (w.is z) in
      let r = split-ends log fs front (before ∷ (w.event ∷ [])) (e ∙ ap (λ z. front ++ z) is) (omega (arith, l, n)) in
      (λ z. r.0 z ++ dressed p (r.1 z)) ∙ ap (λ z. front ++ z) (sym new);
}

pub precedes : (m k : Option Bool) (flow : Bool) (o p : Props) (es : List Event) → m ≡ None → k ≡ Some flow → p ≡ no_props → IsOne es → Precedes flow (behind_start m o es) (behind_start k p es)
precedes m k flow o p es em ek ep w =
    let was : behind_start m o es ≡ w.event ∷ [] = λ z. behind_start (em z) o (w.is z) in
    let now : behind_start k p es ≡ mapping_start flow None untagged ∷ (w.event ∷ []) = λ z. behind_start (ek z) (ep z) (w.is z) in
    record { one = ap length was; is = now ∙ ap (λ z. mapping_start flow None untagged ∷ z) (sym was) }

-- ---- what is composed

pub puts-none : (number : ℕ) (es : List Event) (a : PendingProperties) → es ≡ [] → PutsBuffered number es a a
puts-none number es a e = record { is = λ log n t. subst (Tells a) (sym (append-nil log) ∙ ap (λ z. log ++ z) (sym e)) t }

pub puts-buffered : (number : ℕ) (es fs : List Event) (a b : PendingProperties) → es ≡ fs → Puts Tells a fs b → PutsBuffered number es a b
puts-buffered number es fs a b e p = record { is = λ log n t. subst (λ z. Tells b (log ++ z)) (sym e) (p.is log t) }

pub starts-none : (m : Option Bool) (o : Props) (number : ℕ) (a : PendingProperties) → m ≡ None → ComposesWaits number (start_before m o) a a
starts-none m o number a e = record { is = λ log l t. subst (Tells a) (sym (append-nil log) ∙ ap (λ z. log ++ start_before z o) (sym e)) t }

pub starts-some : (m : Option Bool) (flow : Bool) (o : Props) (number at : ℕ) (a b : PendingProperties) → m ≡ Some flow → at ≡ number - 1 → ((log : List Event) → at ≡ length log → Tells a log → Tells b (log ++ (mapping_start flow o.anchor o.tag ∷ [])))
    → ComposesWaits number (start_before m o) a b
starts-some m flow o number at a b e n k = record {
  is = λ log l t.
      let start = mapping_start flow o.anchor o.tag ∷ [] in
      let is : log ++ start_before m o ≡ log ++ start = ap (λ z. log ++ start_before z o) e in
      subst (Tells b) (sym is) (k log (omega (arith, n, l, ap length is, length-append log start)) t);
}

pub composes-both : (m : Option Bool) (o : Props) (es : List Event) (count number : ℕ) (a b c : PendingProperties) → IsOne es → number ≡ count - 1 → ComposesWaits number (start_before m o) a b → PutsBuffered number es b c → ComposesWaits count (behind_start m o es) a c
composes-both m o es count number a b c w n p q = record {
  is = λ log l t.
      let s = start_before m o in
      let is : log ++ behind_start m o es ≡ (log ++ s) ++ es = ap (λ z. log ++ z) (behind-one m o es w ∙ ap (λ z. s ++ z) (sym w.is)) ∙ sym (append_assoc log s es) in
      let size : number ≡ length (log ++ s) = omega (arith, n, l, ap length is, length-append (log ++ s) es, ap length w.is) in
      subst (Tells c) (sym is) (q.is (log ++ s) size (p.is log size t));
}

pub composes-none : (count : ℕ) (es : List Event) (a : PendingProperties) → es ≡ [] → ComposesWaits count es a a
composes-none count es a e = record { is = λ log l t. subst (Tells a) (sym (append-nil log) ∙ ap (λ z. log ++ z) (sym e)) t }
