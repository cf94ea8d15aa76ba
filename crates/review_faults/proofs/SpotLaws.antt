-- What is known of a fault, part by part.
use Rattle.std.proofs.Common.{◌≡◌, ℕ, ◌≤◌, ◌==◌, Bool, true, false, cond, List, length, sym, subst}
use Rattle.std.specs.Prelude.{Option, Some, None, Result, Ok, Err, IfSome, IfOk, MatchOption, String, option_map, unwrap_or, string_bytes}
use Rattle.std.specs.Str.{IsUtf8}
use Rattle.std.specs.declared.alloc.Global.{Global}
use Rattle.yaml_text.specs.declared.fault.Fault.{Fault}
use Rattle.yaml_path.specs.declared.place.Place.{Place}
use Rattle.review_hints.specs.Hinted.{is_line, limit_of, HoldsLimit, IsHint}
use Rattle.review_hints.specs.declared.words.Words.{Words}
use Rattle.review_places.specs.declared.trace.Shape.{Shape}
use Rattle.review_faults.specs.EventPlaces.{IsFirstOf, IsPlaceAt, IsPlaceOf}
use Rattle.review_faults.specs.Explained.{AreWords, first_of, shown_point}
use Rattle.review_faults.specs.FaultLines.{text_in, other_line, IsCause, IsTold}
use Rattle.review_faults.specs.declared.spots.Point.{Point}
use Rattle.review_faults.specs.declared.spots.Told.{Told}

matched_none : {A : Type 0} (o : Option A) (P : Type 0) (Q : A → Type 0) → o ≡ None → P → MatchOption o P Q
matched_none None P Q e h = h
matched_none (Some x) P Q e h = absurd (cc)

-- the words for a fault of which nothing else is said
pub told_cause : {E : Type 0} (text : List ℕ) (fault : Fault) (at : ℕ) (own : Option (String Global)) (r : Result Words E) → own ≡ None → IfOk r (λ words. is_line (string_bytes words.text) ≡ true) → IfOk r (λ words. HoldsLimit (limit_of fault) (string_bytes words.text))
    → IfOk r (λ words. IsUtf8 text → at ≤ length text → IsHint text at words.cause (string_bytes words.text)) → IfOk r (λ words. AreWords text fault at own words.cause (string_bytes words.text))
told_cause text fault at own (Ok words) none line limit hint = matched_none own _ _ none (record { line = line; limit = limit; hint = hint })
told_cause text fault at own (Err e) none line limit hint = tt

-- the first of two equal keys beside the second
pub first_beside : (shapes : List Shape) (fault : Fault) (told : Option (ℕ × Option ℕ)) (first : Option ℕ) → IfSome told (λ t. t.1 ≡ first) → IsFirstOf shapes fault first → IfSome told (λ t. IsFirstOf shapes fault t.1)
first_beside shapes fault None first e h = tt
first_beside shapes fault (Some t) first e h = subst (IsFirstOf shapes fault) (sym e) h

within : (text : List ℕ) (offset : Option ℕ) (at : ℕ) (place : Option Place) → at ≡ unwrap_or offset 0 → IsPlaceOf text offset place → IfSome place (λ _. at ≤ length text)
within text None at None e h = tt
within text None at (Some p) e h = absurd (cc)
within text (Some offset) at None e h = tt
within text (Some offset) at (Some p) e h = subst (λ z. z ≤ length text) (sym e) h.0

-- what is told has a place only at an offset of the text
pub told_within : (bytes : List ℕ) (fault : Fault) (told : Told) → IsTold bytes fault told → IfSome told.place (λ _. told.at ≤ length (text_in bytes))
told_within bytes fault told h = within (text_in bytes) h.spot.at told.at told.place h.at h.place

-- ---- the point that is printed first

-- a cause is at an offset of the text
cause_within : (text : List ℕ) (stop : Option Place) (offset : Option ℕ) (told : Option Point) → IsCause text stop offset told → IfSome told (λ p. p.at ≤ length text)
cause_within text stop None told h = subst (λ o. IfSome o (λ p. p.at ≤ length text)) (sym h) tt
cause_within text stop (Some at) told (place, is, e) = subst (λ o. IfSome o (λ p. p.at ≤ length text)) (sym e) (by stop place is)
  where
    pick : (b : Bool) (place : Place) → at ≤ length text → IfSome {T = Point} (cond b None (Some (record { at = at; place = place }))) (λ p. p.at ≤ length text)
    pick true place l = tt
    pick false place l = l

    by : (stop place : Option Place) → IsPlaceAt text at place → IfSome (other_line stop at place) (λ p. p.at ≤ length text)
    by None place l = tt
    by (Some s) None l = tt
    by (Some s) (Some q) l = pick (s.line == q.line) q l.0

pub shown_within : (bytes : List ℕ) (fault : Fault) (told : Told) → IsTold bytes fault told → IfSome (shown_point told) (λ p. p.at ≤ length (text_in bytes))
shown_within bytes fault told h = by told.cause (cause_within (text_in bytes) told.place h.cause_at told.cause h.cause) told.place (told_within bytes fault told h)
  where
    by : (cause : Option Point) → IfSome cause (λ p. p.at ≤ length (text_in bytes)) → (place : Option Place) → IfSome place (λ _. told.at ≤ length (text_in bytes))
        → IfSome (first_of cause (option_map (λ place. record { at = told.at; place = place }) place)) (λ p. p.at ≤ length (text_in bytes))
    by None h None k = tt
    by None h (Some p) k = k
    by (Some cause) h place k = h

-- ---- results

pub if_ok : {T E : Type 0} {P Q : T → Type 0} (r : Result T E) → IfOk r P → ((x : T) → P x → Q x) → IfOk r Q
if_ok (Ok x) h f = f x h
if_ok (Err e) h f = tt
