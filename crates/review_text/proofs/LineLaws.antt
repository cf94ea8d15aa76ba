-- Objects of JSON.
use Rattle.std.proofs.Common.{◌≡◌, ◌||◌, ℕ, ◌+◌, ◌<◌, ◌≤◌, Bool, true, false, List, [], ◌∷◌, ◌++◌, map, drop, length, get_or, Ordering, Less, Equal, Greater, nat_cmp, refl, sym, ◌∙◌, ap}
use Rattle.std.specs.Prelude.{Option, Some, None, option_map, codes}
use Rattle.std.specs.Cmp.Lexicographic.{slice_cmp}
use Rattle.std.specs.Ordering.{match_ordering}
use Rattle.std.proofs.Math.ListN.{drop_of_length-le}
use Rattle.serde_json.specs.Data.{Data, Members, member, no_members, put, object}
use Rattle.serde_json.specs.Written.{has_float, members_have_float, compact_text}
use Rattle.yaml_path.specs.declared.place.Place.{Place}
use Rattle.review_text.specs.Hidden.{json_visible}
use Rattle.review_text.specs.Objects.{text_data, place_data, said_data, with_members, object_line}
use Rattle.review_text.specs.declared.json.Said.{Said}
use Rattle.review_text.specs.declared.json.Said.TheVariants as said
use Rattle.review_text.proofs.Pieces.{drop_next}

-- ---- members one behind another

pub members_next : {X : Type 0} (f : X → List ℕ × Data) (xs : List X) (i : ℕ) (d : X) (v : Data) (m n whole : Members) → i < length xs → with_members (map f (drop i xs)) m ≡ whole → n ≡ put (f (get_or xs i d)).0 v m → v ≡ (f (get_or xs i d)).1 → with_members (map f (drop (i + 1) xs)) n ≡ whole
members_next f xs i d v m n whole l h e q = ap (with_members (map f (drop (i + 1) xs))) (e ∙ ap (λ z. put (f (get_or xs i d)).0 z m) q) ∙ ap (λ z. with_members (map f z) m) (sym (drop_next xs i d l)) ∙ h

pub members_all : {X : Type 0} (f : X → List ℕ × Data) (xs : List X) (i : ℕ) (m whole : Members) → length xs ≤ i → with_members (map f (drop i xs)) m ≡ whole → m ≡ whole
members_all f xs i m whole l h = ap (λ z. with_members (map f z) m) (sym (drop_of_length-le xs l)) ∙ h

-- ---- no number of an object is a float, so its text is known

text_float : (t : Option (List ℕ)) → has_float (text_data t) ≡ false
text_float None = refl
text_float (Some x) = refl

place_float : (p : Option Place) → has_float (place_data p) ≡ false
place_float None = refl
place_float (Some p) = refl

pub said_float : (s : Said) → has_float (said_data s) ≡ false
said_float (said.Number None) = refl
said_float (said.Number (Some n)) = refl
said_float (said.Text t) = text_float (option_map (λ told. told.now) t)
said_float (said.Place p) = place_float p

neither : (a b : Bool) → a ≡ false → b ≡ false → (a || b) ≡ false
neither a b h k = rw (h, k) refl

first_of : (a b : Bool) → (a || b) ≡ false → a ≡ false
first_of false b h = refl
first_of true b h = h

second_of : (a b : Bool) → (a || b) ≡ false → b ≡ false
second_of false b h = h
second_of true b h = absurd cc

by_order : (o : Ordering) (a b c : Members) → members_have_float a ≡ false → members_have_float b ≡ false → members_have_float c ≡ false → members_have_float (match_ordering o a b c) ≡ false
by_order Less a b c p q r = p
by_order Equal a b c p q r = q
by_order Greater a b c p q r = r

put_float : (k : List ℕ) (d : Data) (ms : Members) → has_float d ≡ false → members_have_float ms ≡ false → members_have_float (put k d ms) ≡ false
put_float k d no_members h m = neither (has_float d) false h refl
put_float k d (member l e ms) h m =
    let p = first_of (has_float e) (members_have_float ms) m in
    let q = second_of (has_float e) (members_have_float ms) m in
    by_order (slice_cmp nat_cmp k l) (member k d (member l e ms)) (member l d ms) (member l e (put k d ms)) (neither (has_float d) (members_have_float (member l e ms)) h m) (neither (has_float d) (members_have_float ms) h q)
    (neither (has_float e) (members_have_float (put k d ms)) p (put_float k d ms h q))

with_float : {X : Type 0} (f : X → List ℕ × Data) → ((x : X) → has_float (f x).1 ≡ false) → (xs : List X) (ms : Members) → members_have_float ms ≡ false → members_have_float (with_members (map f xs) ms) ≡ false
with_float f h [] ms m = m
with_float f h (x ∷ xs) ms m = with_float f h xs (put (f x).0 (f x).1 ms) (put_float (f x).0 (f x).1 ms (h x) m)

pub object_put : {X : Type 0} (f : X → List ℕ × Data) → ((x : X) → has_float (f x).1 ≡ false) → (xs : List X) (v : Data) (o y t : List ℕ) → v ≡ object (with_members (map f xs) no_members) → (has_float v ≡ false → t ≡ compact_text v) → y ≡ o ++ (json_visible t ++ codes "\n") → y ≡ o ++ object_line (map f xs)
object_put f h xs v o y t e g p = p ∙ ap (λ z. o ++ (json_visible z ++ codes "\n")) (g (ap has_float e ∙ with_float f h xs no_members refl) ∙ ap compact_text e)
