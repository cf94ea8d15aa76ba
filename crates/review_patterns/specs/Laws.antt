-- The law of places in patterns.
use Rattle.std.specs.Prelude.{◌≡◌, ◌≤◌, ◌<◌, ◌^◌, ◌==◌, ◌&&◌, ℕ, true, nat_le, bytes_eq, cond, List, ◌++◌, codes}
use Rattle.std.specs.Fmt.{decimal}
use Rattle.review_patterns.specs.Places.{is_place}
use Rattle.review_patterns.specs.Patterns.{fits}

-- neighbours from one place to another, and a place alone, as `diff` prints them
abbrev pub span_text : ℕ → ℕ → List ℕ
span_text first last = cond (first == last) (decimal first) (decimal first ++ (codes "-" ++ decimal last))

-- on both sides
abbrev pub places_text : (first last right right_last : ℕ) → List ℕ
places_text first last right right_last = cond (bytes_eq (span_text first last) (span_text right right_last)) (span_text first last) (span_text first last ++ (codes ":" ++ span_text right right_last))

abbrev pub bracketed : List ℕ → List ℕ
bracketed text = codes "[" ++ (text ++ codes "]")

-- What is printed of neighbours is read as their places. It stands for an item exactly if the item is among them on both sides.
abbrev pub NeighboursFit : Type 0
NeighboursFit =
    (a b c d j k : ℕ) → a ≤ b → b < 2 ^ 64 → c ≤ d → d < 2 ^ 64 → j < 2 ^ 64 → k < 2 ^ 64
    → (is_place (places_text a b c d) ≡ true) × (fits (bracketed (places_text a b c d)) (bracketed (places_text j j k k)) ≡ ((nat_le a j && nat_le j b) && (nat_le c k && nat_le k d)))
