-- Warnings that are found, and told, one by one.
use Rattle.std.proofs.Common.{◌≡◌, ℕ, suc, ◌+◌, ◌<◌, ◌≤◌, ◌==◌, false, List, [], ◌∷◌, ◌++◌, length, map, take, get_or, min, refl, sym, ◌∙◌, ap, subst, arith}
use Rattle.std.specs.Prelude.{Some, option_map, slice_get, string_bytes}
use Rattle.std.specs.Borrow.{Bor}
use Rattle.std.proofs.lemmas.Bool.{ne_eqb, le-leb, lt-leb}
use Rattle.std.proofs.lemmas.List.{take_more, take_all, take-append-le, take-map, length-take, length-append}
use Rattle.std.proofs.lemmas.Option.{slice_get_within, get_or_from_slice_get}
use Rattle.yaml_definitions.specs.model.Event.{Event}
use Rattle.yaml_text.specs.EventModel.{event_of}
use Rattle.yaml_text.specs.declared.event.Event as code
use Rattle.yaml_path.specs.LineModel.{IsPlace}
use Rattle.yaml_path.specs.declared.place.Place.{Place}
use Rattle.review_places.specs.Trails.{frames_after, frames_of}
use Rattle.review_places.specs.declared.trail.Frame.{Frame}
use Rattle.review_places.proofs.TrailLaws.{frames_next}
use Rattle.review_faults.specs.Causes.{cause_rule}
use Rattle.review_faults.specs.Labels.{Label, whole}
use Rattle.review_faults.specs.Says.{Says}
use Rattle.review_faults.specs.Warned.{label_in, Keeps, IsWarning, AreWarnings, ListsFirst}
use Rattle.review_faults.specs.declared.cause.Cause.{Cause}
use Rattle.review_faults.specs.declared.find.Found.{Found}
use Rattle.review_faults.specs.declared.warn.Warning.{Warning}

-- ---- how many

as_many : (events : List Event) (text : List ℕ) (found : List (ℕ × Cause)) (list : List Warning) → AreWarnings events text found list → length list ≡ length found
as_many events text [] list h = ap length h
as_many events text (t ∷ found) list (one, rest, w, r, e) = ap length e ∙ ap (λ z. suc z) (as_many events text found rest r)

first_none : (all : List (ℕ × Cause)) (room : ℕ) → (length (take (suc room) all) == 0) ≡ (length all == 0)
first_none [] room = refl
first_none (x ∷ xs) room = ne_eqb (length (take (suc room) (x ∷ xs))) 0 (λ e. omega (arith, e)) ∙ sym (ne_eqb (length (x ∷ xs)) 0 (λ e. omega (arith, e)))

-- where there is room for one, no warning is listed exactly if there is none
pub none_told : (bytes : List ℕ) (allowed : List (Bor (List ℕ))) (all : List (ℕ × Cause)) (room : ℕ) (list : List Warning) → ListsFirst bytes allowed all (suc room) list → (length list == 0) ≡ (length all == 0)
none_told bytes allowed all room list h = ap (λ z. z == 0) (as_many _ _ _ list h.are) ∙ first_none all room

-- ---- found

-- the collections that are open behind one event more
pub frames_known : (events : List code.Event) (n : ℕ) (e : code.Event) (frames new : List Frame) → slice_get events n ≡ Some e → frames ≡ frames_of (take n (map event_of events)) → new ≡ frames_after n (event_of e) frames → new ≡ frames_of (take (n + 1) (map event_of events))
frames_known events n e frames new at f h =
    frames_next events n e frames new (slice_get_within events n e at) (sym (get_or_from_slice_get events n e e at)) (f ∙ ap frames_of (take-map event_of n events)) h ∙ ap frames_of (sym (take-map event_of (n + 1) events))

module _ (room : ℕ) (all : List (ℕ × Cause)) (w : ℕ × Cause) (old new : Found) (k : Keeps room all old) where
  kept : length old.list.items ≡ min room (length all)
  kept = ap length k.first ∙ length-take room all

  -- there is room for one more
  pub keeps_more : length old.list.items < room → new.list.items ≡ old.list.items ++ (w ∷ []) → new.whole ≡ old.whole → Keeps room (all ++ (w ∷ [])) new
  keeps_more l n b =
      let short : length all < room = omega (arith, kept, l) in
      let fits : length (all ++ (w ∷ [])) ≤ room = omega (arith, short, length-append all (w ∷ [])) in
      record {
        first = n ∙ ap (λ z. z ++ (w ∷ [])) (k.first ∙ take_all room all (omega (arith, short))) ∙ sym (take_all room (all ++ (w ∷ [])) fits);
        are_all = b ∙ k.are_all ∙ le-leb (length all) room (omega (arith, short)) ∙ sym (le-leb (length (all ++ (w ∷ []))) room fits);
      }

  -- there is none
  pub keeps_full : room ≤ length old.list.items → new.list.items ≡ old.list.items → new.whole ≡ false → Keeps room (all ++ (w ∷ [])) new
  keeps_full l n b =
      let long : room ≤ length all = omega (arith, kept, l) in
      record {
        first = n ∙ k.first ∙ sym (take-append-le room all (w ∷ []) long);
        are_all = b ∙ sym (lt-leb (length (all ++ (w ∷ []))) room (omega (arith, long, length-append all (w ∷ []))));
      }

-- ---- told

are_more : (events : List Event) (text : List ℕ) (found : List (ℕ × Cause)) (list : List Warning) (told : ℕ × Cause) (one : Warning) → AreWarnings events text found list → IsWarning events text told one → AreWarnings events text (found ++ (told ∷ [])) (list ++ (one ∷ []))
are_more events text [] list told one h w = (one, [], w, refl, ap (λ z. z ++ (one ∷ [])) h)
are_more events text (t ∷ found) list told one (first, rest, w1, r, e) w = (first, rest ++ (one ∷ []), w1, are_more events text found rest told one r w, ap (λ z. z ++ (one ∷ [])) e)

told_more : (events : List Event) (text : List ℕ) (found ys : List (ℕ × Cause)) (list new : List Warning) (told : ℕ × Cause) (one : Warning) → ys ≡ found ++ (told ∷ []) → new ≡ list ++ (one ∷ []) → AreWarnings events text found list → IsWarning events text told one → AreWarnings events text ys new
told_more events text found ys list new told one is l h w =
    subst (λ z. AreWarnings events text z new) (sym is) (subst (AreWarnings events text (found ++ (told ∷ []))) (sym l) (are_more events text found list told one h w))

-- the same of the warnings of a list, by the number of the next one
pub told_next : (events : List Event) (text : List ℕ) (found : List (ℕ × Cause)) (i : ℕ) (d : ℕ × Cause) (list new : List Warning) (one : Warning) (label : Label) (at : ℕ) (place : Place) → i < length found → one.rule.now ≡ cause_rule (get_or found i d).1 → label_in events (get_or found i d) ≡ Some label → string_bytes one.text ≡ whole label → Says events (get_or found i d).1 (whole label) (string_bytes one.words) → one.place ≡ place → at ≤ length text → IsPlace text at place.line place.column → new ≡ list ++ (one ∷ []) → AreWarnings events text (take i found) list → AreWarnings events text (take (i + 1) found) new
told_next events text found i d list new one label at place l r t s y p w h n v =
    told_more events text (take i found) (take (i + 1) found) list new (get_or found i d) one (take_more found i d l) n v
    (record {
      rule = r;
      shows = ap (option_map whole) t ∙ ap (λ z. Some z) (sym s);
      says = subst (λ z. Says events (get_or found i d).1 z (string_bytes one.words)) (sym s) y;
      at = at;
      within = w;
      placed = subst (λ (z : Place). IsPlace text at z.line z.column) (sym p) h;
    })
