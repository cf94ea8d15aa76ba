-- Nodes that JSON cannot express, and what is told of them, one by one.
use Rattle.std.proofs.Common.{◌≡◌, ℕ, zero, suc, ◌≤◌, Bool, false, List, [], ◌∷◌, ◌++◌, length, refl, sym, ◌∙◌, ap, subst, arith}
use Rattle.std.specs.Prelude.{Option, Some, None, cond, not, codes, string_bytes}
use Rattle.std.specs.List.{All, flat_map}
use Rattle.std.proofs.lemmas.Grind.{flat_map-append}
use Rattle.std.proofs.lemmas.List.{append_assoc, append-nil}
use Rattle.std.proofs.lemmas.List.Concat.{flat_map-cons}
use Rattle.std.proofs.lemmas.List.Elements.{All-append}
use Rattle.yaml_definitions.specs.model.Event.{Event}
use Rattle.yaml_path.specs.LineModel.{IsPlace}
use Rattle.yaml_path.specs.declared.place.Place.{Place}
use Rattle.review_faults.specs.EventSpots.{path_at}
use Rattle.review_faults.specs.Heads.{head}
use Rattle.review_faults.specs.NoJson.{HasPath, IsOfText, BeginsSomewhere, AddsPieces, TellsLacks, unknown}
use Rattle.review_faults.specs.declared.no_json.Lacking.{Lacking}

pub all_none : {X : Type 0} (P : X → Type 0) → All P []
all_none P k d l = absurd (omega (arith, l))

all_one : {X : Type 0} (P : X → Type 0) (x : X) → P x → All P (x ∷ [])
all_one P x p zero d l = p
all_one P x p (suc k) d l = absurd (omega (arith, l))

-- ---- found

pub lacking_more : (events : List Event) (list new : List Lacking) (one : Lacking) → new ≡ list ++ (one ∷ []) → string_bytes one.path ≡ path_at events one.event → All (HasPath events) list → All (HasPath events) new
lacking_more events list new one e p h = subst (All (HasPath events)) (sym e) (All-append (HasPath events) list (one ∷ []) h (all_one (HasPath events) one (record { path = p })))

-- ---- told

module _ (name text : List ℕ) where
  joined : (pieces : List (List ℕ)) (piece : List ℕ) → flat_map (λ z. z) pieces ++ piece ≡ flat_map (λ z. z) (pieces ++ (piece ∷ []))
  joined pieces piece = sym (flat_map-append (λ z. z) pieces (piece ∷ []) ∙ ap (λ z. flat_map (λ y. y) pieces ++ z) (flat_map-cons (λ z. z) piece [] ∙ append-nil piece))

  pub begins_at : (place : Option Place) (more : List ℕ) → IsOfText text place → BeginsSomewhere name text (head name place ++ more)
  begins_at place more h = record { place = place; placed = h; more = more; is = refl }

  pub pieces_none : (old : List ℕ) → AddsPieces name text old old
  pieces_none old = record { pieces = []; each = all_none (BeginsSomewhere name text); are = sym (append-nil old) }

  pub pieces_more : (old middle new more : List ℕ) (place : Place) (at : ℕ) → AddsPieces name text old middle → at ≤ length text → IsPlace text at place.line place.column → new ≡ middle ++ (head name (Some place) ++ more) → AddsPieces name text old new
  pieces_more old middle new more place at h w p e =
      let piece : List ℕ = head name (Some place) ++ more in
      let begins : BeginsSomewhere name text piece = record { place = Some place; placed = (at, w, p); more = more; is = refl } in
      record {
        pieces = h.pieces ++ (piece ∷ []);
        each = All-append (BeginsSomewhere name text) h.pieces (piece ∷ []) h.each (all_one (BeginsSomewhere name text) piece begins);
        are = e ∙ ap (λ z. z ++ piece) h.are ∙ append_assoc old (flat_map (λ z. z) h.pieces) piece ∙ ap (λ z. old ++ z) (joined h.pieces piece);
      }

  pub tells_some : (old start middle new first : List ℕ) (whole : Bool) → start ≡ old ++ first → BeginsSomewhere name text first → AddsPieces name text start middle → new ≡ middle ++ cond (not whole) (codes "...\n") [] → TellsLacks name text old new
  tells_some old start middle new first whole s b h e = record { first = first; begins = b; middle = middle; others = subst (λ z. AddsPieces name text z middle) s h; more = not whole; are = e }

  pub tells_none : (old new : List ℕ) → new ≡ old ++ unknown name → TellsLacks name text old new
  tells_none old new e =
      record {
        first = unknown name;
        begins = record { place = None; placed = tt; more = codes "JSON cannot express this file\n"; is = refl };
        middle = old ++ unknown name;
        others = pieces_none (old ++ unknown name);
        more = false;
        are = e ∙ sym (append-nil (old ++ unknown name));
      }
