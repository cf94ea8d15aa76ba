-- A text that is put over a room page by page.
use Rattle.std.proofs.Common.{◌≡◌, ◌<◌, ◌≤◌, ◌+◌, ℕ, List, [], ◌∷◌, ◌++◌, length, take, drop, get_or, map, All, refl, sym, ap, ◌∙◌, subst, append_assoc, length-append, arith}
use Rattle.std.proofs.lemmas.List.{length-drop, length-map, get_or-map}
use Rattle.std.proofs.lemmas.List.Elements.{All-get_or}
use Rattle.std.proofs.lemmas.Slice.{drop-append-drop}
use Rattle.std.proofs.Math.Seq.{take-append_seam}
use Rattle.yaml_definitions.specs.model.Event.{Event}
use Rattle.yaml_definitions.specs.model.EventText.{event_line}
use Rattle.yaml_events.specs.Overwriting.{Overwrites, Turns, Fills}

-- The room has the front of the text, and the page the rest.
pub record Has (text page old new : List ℕ) (at : ℕ) : Type 0 where
  pub front : List ℕ
  pub text_is : text ≡ front ++ page
  pub at_is : at ≡ length front
  pub room_is : new ≡ front ++ drop (length front) old

pub has_none : (text page old : List ℕ) → text ≡ page → Has text page old old 0
has_none text page old e = record { front = []; text_is = e; at_is = refl; room_is = refl }

-- a piece behind the front
put_behind : (front piece old mid new : List ℕ) (at : ℕ) → at ≡ length front → mid ≡ front ++ drop (length front) old → Overwrites piece at mid new → new ≡ (front ++ piece) ++ drop (length (front ++ piece)) old
put_behind front piece old mid new at e r o =
    let t : take at mid ≡ front = ap (λ n. take n mid) e ∙ ap (λ z. take (length front) z) r ∙ take-append_seam front (drop (length front) old) in
    let d : drop (at + length piece) mid ≡ drop (length (front ++ piece)) old =
    ap (λ z. drop (at + length piece) z) r ∙ drop-append-drop (length front) old front (at + length piece) (omega (arith, e)) refl ∙ ap (λ n. drop n old) (ap (λ n. n + length piece) e ∙ sym (length-append front piece)) in
    o ∙ ap (λ z. z ++ (piece ++ drop (at + length piece) mid)) t ∙ ap (λ z. front ++ (piece ++ z)) d ∙ sym (append_assoc front piece (drop (length (front ++ piece)) old))

-- a line more
pub has_more : (text line page wide next old mid new : List ℕ) (at behind : ℕ) → Has text page old mid at → wide ≡ page ++ line → Turns wide next at behind mid new → Has (text ++ line) next old new behind
has_more text line page wide next old mid new at behind h e k = record {
  front = h.front ++ k.front;
  text_is = ap (λ z. z ++ line) h.text_is ∙ append_assoc h.front page line ∙ ap (λ z. h.front ++ z) (sym e ∙ k.page_is) ∙ sym (append_assoc h.front k.front next);
  at_is = k.behind_is ∙ ap (λ n. n + length k.front) h.at_is ∙ sym (length-append h.front k.front);
  room_is = put_behind h.front k.front old mid new at h.at_is h.room_is k.room_is;
}

-- where the text fits so does the page
pub page_fits : (text line page wide old mid : List ℕ) (at : ℕ) → Has text page old mid at → wide ≡ page ++ line → length text + length line ≤ length old → at + length wide ≤ length mid
page_fits text line page wide old mid at h e k =
    omega (arith, k, h.at_is, ap length e, length-append page line, ap length h.text_is, length-append h.front page, ap length h.room_is, length-append h.front (drop (length h.front) old), length-drop (length h.front) old)

pub fills_last : (text page old mid new : List ℕ) (at : ℕ) → Has text page old mid at → Overwrites page at mid new → Fills text old new (at + length page)
fills_last text page old mid new at h o = record {
  len_is = ap (λ n. n + length page) h.at_is ∙ sym (ap length h.text_is ∙ length-append h.front page);
  room_is = put_behind h.front page old mid new at h.at_is h.room_is o ∙ ap (λ z. z ++ drop (length z) old) (sym h.text_is);
}

-- the room that each line has
module _ {X : Type 0} (f : X → Event) (xs : List X) (i : ℕ) (d : X) where
  pub room_at : (room : ℕ) → i < length xs → d ≡ get_or xs i d → All (λ e. 4096 + length (event_line e ++ (10 ∷ [])) ≤ room) (map f xs) → 4096 + length (event_line (f d) ++ (10 ∷ [])) ≤ room
  room_at room h e a =
      let k : i < length (map f xs) = omega (arith, length-map xs f) in
      subst (λ z. 4096 + length (event_line z ++ (10 ∷ [])) ≤ room) (get_or-map f xs i d (f d) h ∙ ap f (sym e)) (All-get_or (λ z. 4096 + length (event_line z ++ (10 ∷ [])) ≤ room) (map f xs) i (f d) k a)
