-- How the first event of a node gets its properties.
use Rattle.std.proofs.Common.{◌≡◌, ℕ, zero, suc, ◌+◌, ◌<◌, List, [], ◌∷◌, ◌++◌, refl, sym, ◌∙◌, ap, arith, length, map, length-append}
use Rattle.std.specs.Prelude.{slice_index_or, slice_set}
use Rattle.yaml_definitions.specs.model.Event.{Event}
use Rattle.yaml_definitions.specs.grammar.Events.{Props}
use Rattle.yaml_text.specs.EventModel.{event_of, Adds}
use Rattle.yaml_text.specs.declared.event.Event as code
use Rattle.yaml_sink.specs.PropertyRules.{with_props, dressed}

map_set : (xs : List code.Event) (k : ℕ) (e : code.Event) → map event_of (slice_set xs k e) ≡ slice_set (map event_of xs) k (event_of e)
map_set [] zero e = refl
map_set [] (suc k) e = refl
map_set (x ∷ xs) zero e = refl
map_set (x ∷ xs) (suc k) e = ap (λ v. event_of x ∷ v) (map_set xs k e)

map_index : (xs : List code.Event) (k : ℕ) (d : code.Event) → event_of (slice_index_or xs k d) ≡ slice_index_or (map event_of xs) k (event_of d)
map_index [] zero d = refl
map_index [] (suc k) d = refl
map_index (x ∷ xs) zero d = refl
map_index (x ∷ xs) (suc k) d = map_index xs k d

set_seam : (xs ys : List Event) (y v : Event) → slice_set (xs ++ y ∷ ys) (length xs) v ≡ xs ++ v ∷ ys
set_seam [] ys y v = refl
set_seam (x ∷ xs) ys y v = ap (λ u. x ∷ u) (set_seam xs ys y v)

index_seam : (xs ys : List Event) (y d : Event) → slice_index_or (xs ++ y ∷ ys) (length xs) d ≡ y
index_seam [] ys y d = refl
index_seam (x ∷ xs) ys y d = index_seam xs ys y d

set_twice : (xs : List code.Event) (k : ℕ) (a b : code.Event) → slice_set (slice_set xs k a) k b ≡ slice_set xs k b
set_twice [] zero a b = refl
set_twice [] (suc k) a b = refl
set_twice (x ∷ xs) zero a b = refl
set_twice (x ∷ xs) (suc k) a b = ap (λ v. x ∷ v) (set_twice xs k a b)

map_length : (xs : List code.Event) → length (map event_of xs) ≡ length xs
map_length [] = refl
map_length (x ∷ xs) = ap suc (map_length xs)

lengths : (old mid : List code.Event) (es : List Event) → Adds old es mid → length mid ≡ length old + length es
lengths old mid es a = sym (map_length mid) ∙ ap length a ∙ length-append (map event_of old) es ∙ ap (λ k. k + length es) (map_length old)

none_added : (old mid : List code.Event) (start : ℕ) → start ≡ length old → start < length mid → Adds old [] mid → ⊥
none_added old mid start e l a = let x : length mid ≡ length old + 0 = lengths old mid [] a in omega (arith, x, e, l)

some_added : (old mid : List code.Event) (x : Event) (es : List Event) (start : ℕ) → start ≡ length old → Adds old (x ∷ es) mid → start < length mid
some_added old mid x es start e a = let h : length mid ≡ length old + suc (length es) = lengths old mid (x ∷ es) a in omega (arith, h, e)

-- the event at the place where the new ones begin
added_there : (old mid : List code.Event) (x : Event) (es : List Event) (start : ℕ) (bare : code.Event) → start ≡ length old → bare ≡ slice_index_or mid start bare → Adds old (x ∷ es) mid → event_of bare ≡ x
added_there old mid x es start bare e b a =
    ap event_of b ∙ map_index mid start bare ∙ ap (λ u. slice_index_or u start (event_of bare)) a ∙ ap (λ k. slice_index_or (map event_of old ++ x ∷ es) k (event_of bare)) (e ∙ sym (map_length old)) ∙ index_seam (map event_of old) es x (event_of bare)

-- it gets the properties
pub adds_dressed : (p : Props) (old mid new : List code.Event) (es : List Event) (start : ℕ) (bare blank event : code.Event) → start ≡ length old → start < length mid →
    bare ≡ slice_index_or mid start bare → event_of event ≡ with_props p (event_of bare) → new ≡ slice_set (slice_set mid start blank) start event →
    Adds old es mid → Adds old (dressed p es) new
adds_dressed p old mid new [] start bare blank event e l b w h a = absurd (none_added old mid start e l a)
adds_dressed p old mid new (x ∷ es) start bare blank event e l b w h a =
    let at : start ≡ length (map event_of old) = e ∙ sym (map_length old) in
    let is : event_of bare ≡ x = added_there old mid x es start bare e b a in
    ap (map event_of) (h ∙ set_twice mid start blank event) ∙ map_set mid start event ∙ ap (λ u. slice_set u start (event_of event)) a ∙ ap (λ k. slice_set (map event_of old ++ x ∷ es) k (event_of event)) at
    ∙ set_seam (map event_of old) es x (event_of event) ∙ ap (λ v. map event_of old ++ v ∷ es) (w ∙ ap (with_props p) is)

-- or stays, since it has these
pub adds_bare : (p : Props) (old mid : List code.Event) (es : List Event) (start : ℕ) (bare : code.Event) → start ≡ length old → bare ≡ slice_index_or mid start bare → with_props p (event_of bare) ≡ event_of bare → Adds old es mid → Adds old (dressed p es) mid
adds_bare p old mid [] start bare e b w a = a
adds_bare p old mid (x ∷ es) start bare e b w a =
    let is : event_of bare ≡ x = added_there old mid x es start bare e b a in
    a ∙ ap (λ v. map event_of old ++ v ∷ es) (sym (ap (with_props p) (sym is) ∙ w ∙ is))

-- there were no new ones
pub adds_nothing : (p : Props) (old mid : List code.Event) (es : List Event) (start : ℕ) → start ≡ length old → (start < length mid → ⊥) → Adds old es mid → Adds old (dressed p es) mid
adds_nothing p old mid [] start e l a = a
adds_nothing p old mid (x ∷ es) start e l a = absurd (l (some_added old mid x es start e a))
