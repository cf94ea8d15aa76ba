-- A room that begins with the canonical text.
use Rattle.std.proofs.Common.{◌≡◌, ◌≤◌, ◌++◌, ℕ, List, length, take, drop, sym, ◌∙◌, ap, subst, arith, length-append}
use Rattle.std.proofs.Math.Seq.{take-append_seam}
use Rattle.yaml_definitions.specs.canonical.Spell.{spell_bytes}
use Rattle.yaml_canon.specs.Claims.{IsCanonicalText}
use Rattle.yaml_canon.specs.Rooms.{PlacesCanonical}
use Rattle.yaml_sum.specs.Digests.{HoldsText}

-- some bytes have one canonical text
pub one_text : (bytes text other : List ℕ) → IsCanonicalText bytes text → IsCanonicalText bytes other → text ≡ other
one_text bytes text other p q = p.spelled ∙ ap spell_bytes (q.accepted.only p.forest p.accepted.means) ∙ sym q.spelled

-- a room that was long enough
pub placed_fits : (bytes old new : List ℕ) (len : ℕ) → PlacesCanonical bytes old new len → len ≤ length old → HoldsText bytes new len
placed_fits bytes old new len h le =
    let fits : length h.text ≤ length old = omega (arith, le, h.placed.long) in
    let e = h.placed.given fits in
    let l = ap length e ∙ length-append h.text (drop (length h.text) old) in
    record {
      text = h.text;
      canonical = h.canonical;
      held = ap (λ n. take n new) h.placed.long ∙ ap (take (length h.text)) e ∙ take-append_seam h.text (drop (length h.text) old);
      within = omega (arith, l, h.placed.long);
    }

-- and one that was made as long as the text
pub placed_again : (bytes old kept mid new : List ℕ) (len again : ℕ) → PlacesCanonical bytes old kept len → length mid ≡ len → PlacesCanonical bytes mid new again → HoldsText bytes new again
placed_again bytes old kept mid new len again h e k =
    let same = ap length (one_text bytes h.text k.text h.canonical k.canonical) in
    placed_fits bytes mid new again k (omega (arith, same, e, h.placed.long, k.placed.long))

-- the same of a longer list that begins with the room
pub holds_front : (bytes room rest : List ℕ) (n len : ℕ) → length room ≡ n → HoldsText bytes room len → HoldsText bytes (take n (room ++ rest)) len
holds_front bytes room rest n len e h = subst (λ z. HoldsText bytes z len) (sym (ap (λ m. take m (room ++ rest)) (sym e) ∙ take-append_seam room rest)) h
