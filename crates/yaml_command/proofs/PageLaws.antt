-- What a writer and a page have of a text, step by step.
use Rattle.std.proofs.Common.{◌≡◌, ℕ, ◌+◌, ◌-◌, ◌^◌, ◌<◌, ◌≤◌, min, List, [], ◌∷◌, ◌++◌, Option, String, string_bytes, length, take, get_or, map, All, refl, sym, ◌∙◌, ap, subst, arith, append_assoc}
use Rattle.std.proofs.lemmas.List.{append-nil, get_or-map, length-map}
use Rattle.std.proofs.lemmas.List.Elements.{All-get_or}
use Rattle.std.proofs.lemmas.Grind.{common_steps}
use Rattle.std.proofs.Math.Seq.{take-append-add, take-length}
use Rattle.yaml_definitions.specs.model.Event.{Event}
use Rattle.yaml_definitions.specs.model.EventText.{event_line}
use Rattle.yaml_text.specs.Count.{one_more}
use Rattle.yaml_text.specs.CountedModel.{inner_of, faults_of}
use Rattle.yaml_text.specs.declared.fault.Fault.{Fault}
use Rattle.yaml_text.specs.declared.fault.Fault.TheVariants.{WriteFault}
use Rattle.yaml_text.specs.declared.counted.Counted.{Counted}
use Rattle.std.specs.Io.KnownBytes.{Appends, Keeps}
use Rattle.yaml_spell.specs.Writers.{Sent, CutOff}
use Rattle.yaml_text.specs.Writers.{Printed, Broken}
use Rattle.yaml_spell.proofs.Streams.{appends_none, appends_more, appends_kept}
use Rattle.yaml_command.specs.Pages.{PageHas}
use Rattle.yaml_command.specs.Printing.{PrintFails}

pub take_within : (xs ys : List ℕ) (k : ℕ) → (n : ℕ) × (take n (xs ++ ys) ≡ take k xs)
take_within xs ys k = (min k (length xs), grind (arith, common_steps))

pub one_higher : (n m : ℕ) → n < 2 ^ 64 - 1 → m ≡ n → one_more m ≡ n + 1
one_higher n m h e = omega (arith, h, e)

module _ {W : Type 0} (contents : W → Option (List ℕ)) where
  -- a beginning of the page goes out, and the writer then has one of the text
  pub begins : (o u v : Counted W) (front xs more text : List ℕ) (count : ℕ) → Sent contents o u front → Appends (contents (inner_of u)) (contents (inner_of v)) (take count xs) → text ≡ front ++ (xs ++ more)
      → (n : ℕ) × Appends (contents (inner_of o)) (contents (inner_of v)) (take n text)
  begins o u v front xs more text count s a e =
      let w = take_within xs more count in
      let f : front ++ take count xs ≡ take (length front + w.0) text = ap (λ z. front ++ z) (sym w.1) ∙ sym (take-append-add front (xs ++ more) w.0) ∙ ap (take (length front + w.0)) (sym e) in
      (length front + w.0, subst (Appends (contents (inner_of o)) (contents (inner_of v))) f (appends_more _ _ _ front (take count xs) s.took a))

  -- a text that is whole is not flushed
  pub unflushed : (o u v : Counted W) (text : List ℕ) → faults_of o < 2 ^ 64 - 1 → Sent contents o u text → Keeps (contents (inner_of u)) (contents (inner_of v)) → faults_of v ≡ one_more (faults_of u) → Broken contents o v text
  unflushed o u v text few s k e = record {
    count = length text;
    took = subst (Appends (contents (inner_of o)) (contents (inner_of v))) (sym (take-length text)) (appends_kept _ _ _ text s.took k);
    counted = e ∙ one_higher (faults_of o) (faults_of u) few s.counted;
  }

  module _ {Z : Type 0} where
    pub has_none : (p : String Z) (o : Counted W) → PageHas contents p o o (string_bytes p)
    has_none p o = record { front = []; sent = record { took = appends_none (contents (inner_of o)); counted = refl }; is = refl }

    pub has_all : (p q : String Z) (o u : Counted W) → Sent contents o u (string_bytes p) → string_bytes q ≡ [] → PageHas contents q o u (string_bytes p)
    has_all p q o u s e = record { front = string_bytes p; sent = s; is = sym (append-nil (string_bytes p)) ∙ ap (λ z. string_bytes p ++ z) (sym e) }

    -- a line more
    pub has_more : (p q r : String Z) (o u v : Counted W) (text line : List ℕ) → PageHas contents p o u text → string_bytes q ≡ string_bytes p ++ line → PageHas contents r u v (string_bytes q) → PageHas contents r o v (text ++ line)
    has_more p q r o u v text line h e k = record {
      front = h.front ++ k.front;
      sent = record { took = appends_more _ _ _ h.front k.front h.sent.took k.sent.took; counted = k.sent.counted ∙ h.sent.counted };
      is = ap (λ z. z ++ line) h.is ∙ append_assoc h.front (string_bytes p) line ∙ ap (λ z. h.front ++ z) (sym e ∙ k.is) ∙ sym (append_assoc h.front k.front (string_bytes r));
    }

    pub printed_whole : (p : String Z) (o u v : Counted W) (text : List ℕ) → PageHas contents p o u text → Printed contents u v (string_bytes p) → Printed contents o v text
    printed_whole p o u v text h k = record {
      took = subst (Appends (contents (inner_of o)) (contents (inner_of v))) (sym h.is) (appends_more _ _ _ h.front (string_bytes p) h.sent.took k.took);
      flushed = k.flushed;
      counted = k.counted ∙ h.sent.counted;
    }

    pub broken_last : (p : String Z) (o u v : Counted W) (text : List ℕ) → PageHas contents p o u text → Broken contents u v (string_bytes p) → Broken contents o v text
    broken_last p o u v text h k =
        let b = begins o u v h.front (string_bytes p) [] text k.count h.sent k.took (h.is ∙ ap (λ z. h.front ++ z) (sym (append-nil (string_bytes p)))) in
        record { count = b.0; took = b.1; counted = k.counted ∙ ap (λ n. n + 1) h.sent.counted }

    pub fails_last : (p : String Z) (o u v : Counted W) (text : List ℕ) (fault : Fault) → PageHas contents p o u text → PrintFails contents u v (string_bytes p) fault → PrintFails contents o v text fault
    fails_last p o u v text WriteFault h k = broken_last p o u v text h k
    fails_last p o u v text _ h k = absurd k

    -- the writer fails at a page behind which more would follow
    pub fails_before : (p q : String Z) (o u v : Counted W) (text line more all : List ℕ) (fault : Fault) → faults_of o < 2 ^ 64 - 1 → PageHas contents p o u text → string_bytes q ≡ string_bytes p ++ line → CutOff contents u v (string_bytes q) fault
        → all ≡ (text ++ line) ++ more → PrintFails contents o v all fault
    fails_before p q o u v text line more all fault few h e k a =
        let f : all ≡ h.front ++ (string_bytes q ++ more) =
        a ∙ ap (λ z. (z ++ line) ++ more) h.is ∙ ap (λ z. z ++ more) (append_assoc h.front (string_bytes p) line ∙ ap (λ z. h.front ++ z) (sym e)) ∙ append_assoc h.front (string_bytes q) more in
        let b = begins o u v h.front (string_bytes q) more all k.count h.sent k.took f in
        subst (PrintFails contents o v all) (sym k.is) (record { count = b.0; took = b.1; counted = k.counted ∙ one_higher (faults_of o) (faults_of u) few h.sent.counted })
