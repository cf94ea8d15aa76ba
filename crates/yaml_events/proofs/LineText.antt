-- The lines of events, one event after the other.
use Rattle.std.proofs.Common.{◌≡◌, ◌<◌, ◌≤◌, ℕ, ◌+◌, List, [], ◌∷◌, ◌++◌, length, map, take, drop, get_or, refl, sym, ap, ◌∙◌, append_assoc, length-append, take-append-drop, arith}
use Rattle.std.proofs.lemmas.List.{map-append, map_more}
use Rattle.std.proofs.Math.Seq.{take-length}
use Rattle.yaml_definitions.specs.model.Event.{Event}
use Rattle.yaml_definitions.specs.model.EventText.{event_line, events_text}

pub events_append : (es fs : List Event) → events_text (es ++ fs) ≡ events_text es ++ events_text fs
unfolding events_text
events_append [] fs = refl
events_append (e ∷ es) fs = ap (λ z. event_line e ++ (10 ∷ z)) (events_append es fs) ∙ sym (append_assoc (event_line e) (10 ∷ events_text es) (events_text fs))

pub events_one_more : (es : List Event) (e : Event) → events_text (es ++ (e ∷ [])) ≡ (events_text es ++ event_line e) ++ (10 ∷ [])
unfolding events_text
events_one_more es e = events_append es (e ∷ []) ∙ sym (append_assoc (events_text es) (event_line e) (10 ∷ []))

pub events_line_more : (es : List Event) (e : Event) → events_text (es ++ (e ∷ [])) ≡ events_text es ++ (event_line e ++ (10 ∷ []))
unfolding events_text
events_line_more es e = events_append es (e ∷ [])

pub events_none : events_text [] ≡ []
unfolding events_text
events_none = refl

-- the text of events, cut behind some of them
pub events_cut : {X : Type 0} (f : X → Event) (xs : List X) (n : ℕ) → events_text (map f xs) ≡ events_text (map f (take n xs)) ++ events_text (map f (drop n xs))
events_cut f xs n = ap (λ z. events_text (map f z)) (sym (take-append-drop n xs)) ∙ ap events_text (map-append f (take n xs) (drop n xs)) ∙ events_append (map f (take n xs)) (map f (drop n xs))

module _ {X : Type 0} (f : X → Event) (xs : List X) (i : ℕ) (d : X) where
  -- a line more
  pub line_more : i < length xs → d ≡ get_or xs i d → events_text (map f (take (i + 1) xs)) ≡ events_text (map f (take i xs)) ++ (event_line (f d) ++ (10 ∷ []))
  line_more h e = ap events_text (map_more f xs i d h ∙ ap (λ z. map f (take i xs) ++ (f z ∷ [])) (sym e)) ∙ events_line_more (map f (take i xs)) (f d)

  -- the text has room for it
  pub line_within : i < length xs → d ≡ get_or xs i d → length (events_text (map f (take i xs))) + length (event_line (f d) ++ (10 ∷ [])) ≤ length (events_text (map f xs))
  line_within h e =
      let front = events_text (map f (take i xs)) in
      let line = event_line (f d) ++ (10 ∷ []) in
      let rest = events_text (map f (drop (i + 1) xs)) in
      let cut : events_text (map f xs) ≡ (front ++ line) ++ rest = events_cut f xs (i + 1) ∙ ap (λ z. z ++ rest) (line_more h e) in
      omega (arith, ap length cut, length-append (front ++ line) rest, length-append front line)

-- the text of all events, once the loop has been at each
pub all_lines : {X : Type 0} (f : X → Event) (xs : List X) (n : ℕ) → n ≡ length xs → events_text (map f (take n xs)) ≡ events_text (map f xs)
all_lines f xs n e = ap (λ z. events_text (map f z)) (ap (λ m. take m xs) e ∙ take-length xs)
