-- What a room holds, step by step.
use Rattle.std.proofs.Common.{◌≡◌, ℕ, ◌+◌, ◌<◌, ◌≤◌, List, [], ◌++◌, length, take, drop, refl, sym, ◌∙◌, ap, arith}
use Rattle.std.specs.Prelude.{Option, Some}
use Rattle.std.proofs.lemmas.List.{append_assoc, append-nil, length-append}
use Rattle.std.proofs.Math.Seq.{take-append_seam, drop-append-add, drop-drop}
use Rattle.std.proofs.lemmas.Grind.{common_steps}
use Rattle.yaml_definitions.specs.model.Tree.{Tree}
use Rattle.yaml_text.specs.declared.fault.Fault.{Fault}
use Rattle.yaml_spell.specs.declared.room.Room.{Room}
use Rattle.yaml_spell.specs.Documents.{arranged_more, arranged_bytes}
use Rattle.yaml_spell.specs.Pieces.{Began, Puts, Fails}
use Rattle.yaml_spell.specs.Rooms.{room_len, room_bytes, room_name, RoomHolds, Holds, Stops, RoomTakes}

-- one more piece behind the text so far
behind : (xs piece old : List ℕ) → length xs + length piece ≤ length old → take (length xs) (xs ++ drop (length xs) old) ++ (piece ++ drop (length xs + length piece) (xs ++ drop (length xs) old)) ≡ (xs ++ piece) ++ drop (length (xs ++ piece)) old
behind xs piece old l =
    let past : drop (length xs + length piece) (xs ++ drop (length xs) old) ≡ drop (length (xs ++ piece)) old =
    drop-append-add xs (drop (length xs) old) (length piece) ∙ drop-drop (length piece) (length xs) old ∙ ap (λ n. drop n old) (sym (length-append xs piece)) in
    (λ i. take-append_seam xs (drop (length xs) old) i ++ (piece ++ past i)) ∙ sym (append_assoc xs piece (drop (length (xs ++ piece)) old))

same_length : (xs old : List ℕ) → length xs ≤ length old → length (xs ++ drop (length xs) old) ≡ length old
same_length xs old l = grind (arith, common_steps)

pub takes_filled : (r s : Room) (piece : List ℕ) → room_len r + length piece ≤ length (room_bytes r) → room_len s ≡ room_len r + length piece
    → room_bytes s ≡ take (room_len r) (room_bytes r) ++ (piece ++ drop (room_len r + length piece) (room_bytes r)) → room_name s ≡ room_name r → RoomTakes r s piece
takes_filled r s piece l e f n = record {
  is = λ b xs h.
      let same = ap length h.is ∙ same_length xs h.original h.fits in
      let len = h.len in
      let long : length (xs ++ piece) ≡ length xs + length piece = length-append xs piece in
      let fits : length xs + length piece ≤ length h.original = omega (arith, l, same, len) in
      record {
        original = h.original;
        held = h.held;
        name = n ∙ h.name;
        fits = omega (arith, fits, long);
        len = omega (arith, e, len, long);
        is = f ∙ (λ i. take (len i) (h.is i) ++ (piece ++ drop (len i + length piece) (h.is i))) ∙ behind xs piece h.original fits;
      };
}

-- ---- the whole text

abbrev started : Room → Began
started r = record { number = room_name r; held = Some (room_bytes r) }

empty : (r : Room) → room_len r ≡ 0 → RoomHolds r (started r) []
empty r e = record { original = room_bytes r; held = refl; name = refl; fits = omega arith; len = e; is = refl }

some_same : {X : Type 0} (x y : X) → ◌≡◌ {A = Option X} (Some x) (Some y) → x ≡ y
some_same x y e = cc

pub all_filled : (r s : Room) (o p : Unit {0}) (ts : List Tree) → room_len r ≡ 0 → Puts Holds r o s p (arranged_more ts)
    → (room_name r ≡ room_name s) × (room_bytes s ≡ arranged_bytes ts ++ drop (length (arranged_bytes ts)) (room_bytes r))
all_filled r s o p ts e h =
    let a = h.is (started r) [] (empty r e) in
    let whole : a.0 ≡ arranged_bytes ts = sym (append-nil a.0) ∙ a.2.is [] in
    (sym a.1.name, a.1.is ∙ (λ i. whole i ++ drop (length (whole i)) (some_same a.1.original (room_bytes r) (sym a.1.held) i)))

pub never_short : (r : Room) (o p : Unit {0}) (fault : Fault) (ts : List Tree) → room_len r ≡ 0 → length (arranged_bytes ts) ≤ length (room_bytes r) → Fails Holds Stops r o p fault (arranged_more ts) → ⊥
never_short r o p fault ts e l h =
    let z = h.is (started r) [] [] (empty r e) in
    let same = ap length (some_same z.original (room_bytes r) (sym z.held)) in
    let longer : length z.original < length (arranged_bytes ts) = z.longer in
    omega (arith, l, same, longer)
