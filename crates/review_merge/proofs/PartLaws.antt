-- What is shown of the texts of one line.
use Rattle.std.proofs.Common.{◌≡◌, ◌<◌, ◌≤◌, ℕ, zero, suc, ◌+◌, ◌==◌, true, false, cond, List, [], ◌∷◌, ◌++◌, length, drop, take, get_or, max, refl, sym, ◌∙◌, ap, ap₂, arith, add-one, append_assoc, nat_lt, nat_le}
use Rattle.std.specs.Prelude.{Option, Some, None, Result, Ok, Err, IfOk, OnOk, String, string_bytes, codes}
use Rattle.std.specs.Option.{option_map}
use Rattle.std.specs.declared.alloc.Global.{Global}
use Rattle.std.specs.List.{slice_get}
use Rattle.std.proofs.lemmas.List.{append-nil, drop_all, drop_more, take_more}
use Rattle.std.proofs.lemmas.Bool.{cond_both}
use Rattle.std.proofs.lemmas.Bool.Decides.{nat_tests}
use Rattle.review_merge.specs.Parts.{Values, values_in, common, common_with, last_difference, own_place, looks_like, place_behind, part_behind, parts_behind, part_start, part_of}
use Rattle.review_text.specs.Shown.{front, shown}

-- ---- two texts

-- the byte at one place is the same in both, or not
pub common_same : (x y : List ℕ) (i b : ℕ) → i < length x → get_or x i b ≡ b → slice_get y i ≡ Some b → common (drop i x) (drop i y) ≡ 1 + common (drop (i + 1) x) (drop (i + 1) y)
common_same [] y i b l e h = absurd (omega (arith, l))
common_same (c ∷ x) [] i b l e h = absurd cc
common_same (c ∷ x) (d ∷ y) zero b l e h =
    let q : c ≡ d = cc in
    cond_both (c == d) (suc (common x y)) 0 (λ z. z ≡ 1 + common x y) (λ t. omega arith) (λ f. absurd (grind (arith, nat_tests)))
common_same (c ∷ x) (d ∷ y) (suc i) b l e h = rw (add-one) (rw (add-one) at (common_same x y i b (omega (arith, l)) e h))

pub common_differs : (x y : List ℕ) (i b : ℕ) → i < length x → get_or x i b ≡ b → (slice_get y i ≡ Some b → ⊥) → common (drop i x) (drop i y) ≡ 0
common_differs [] y i b l e h = absurd (omega (arith, l))
common_differs (c ∷ x) [] zero b l e h = refl
common_differs (c ∷ x) [] (suc i) b l e h = common_none (drop i x)
  where
    common_none : (x : List ℕ) → common x [] ≡ 0
    common_none [] = refl
    common_none (b ∷ x) = refl
common_differs (c ∷ x) (d ∷ y) zero b l e h =
    cond_both (c == d) (suc (common x y)) 0 (λ z. z ≡ 0) (λ t. absurd (h (let q : c ≡ d = grind (arith, nat_tests) in let r : d ≡ b = cc in ap Some r))) (λ f. refl)
common_differs (c ∷ x) (d ∷ y) (suc i) b l e h = common_differs x y i b (omega (arith, l)) e h

-- ---- the last of some places

last_more : (x : List ℕ) (values : Values) (value : Option (List ℕ)) → last_difference x (values ++ value ∷ []) ≡ max (last_difference x values) (common_with x value)
last_more x [] value = omega arith
last_more x (v ∷ values) value = let e = last_more x values value in omega (arith, e)

pub last_next : (x : List ℕ) (before after : Values) (value : Option (List ℕ)) (last new : ℕ) → after ≡ before ++ value ∷ [] → new ≡ max last (common_with x value) → last ≡ last_difference x before → new ≡ last_difference x after
last_next x before after value last new e n h = n ∙ ap (λ z. max z (common_with x value)) h ∙ sym (last_more x before value) ∙ ap (last_difference x) (sym e)

-- ---- texts behind others

pub values_end : (xs : List (Option (String Global))) (x : Option (String Global)) → values_in (xs ++ x ∷ []) ≡ values_in xs ++ option_map string_bytes x ∷ []
values_end [] x = refl
values_end (y ∷ xs) x = ap (λ z. option_map string_bytes y ∷ z) (values_end xs x)

-- a list of texts from one place on, and up to it
pub values_from : (texts : List (Option (String Global))) (i : ℕ) (d text : Option (String Global)) → i < length texts → text ≡ get_or texts i d → values_in (drop i texts) ≡ option_map string_bytes text ∷ values_in (drop (i + 1) texts)
values_from texts i d text l e = ap values_in (drop_more texts i d l) ∙ ap (λ z. option_map string_bytes z ∷ values_in (drop (i + 1) texts)) (sym e)

pub values_to : (texts : List (Option (String Global))) (i : ℕ) (d text : Option (String Global)) → i < length texts → text ≡ get_or texts i d → values_in (take (i + 1) texts) ≡ values_in (take i texts) ++ option_map string_bytes text ∷ []
values_to texts i d text l e = ap values_in (take_more texts i d l) ∙ values_end (take i texts) (get_or texts i d) ∙ ap (λ z. values_in (take i texts) ++ option_map string_bytes z ∷ []) (sym e)

pub some_from : (texts : List (Option (String Global))) (i : ℕ) (d text : Option (String Global)) (y : String Global) → i < length texts → text ≡ get_or texts i d → text ≡ Some y → values_in (drop i texts) ≡ Some (string_bytes y) ∷ values_in (drop (i + 1) texts)
some_from texts i d text y l e s = values_from texts i d text l e ∙ ap (λ z. option_map string_bytes z ∷ values_in (drop (i + 1) texts)) s

pub none_from : (texts : List (Option (String Global))) (i : ℕ) (d text : Option (String Global)) → i < length texts → text ≡ get_or texts i d → ((y : String Global) → text ≡ Some y → ⊥) → values_in (drop i texts) ≡ None ∷ values_in (drop (i + 1) texts)
none_from texts i d text l e n = values_from texts i d text l e ∙ ap (λ z. option_map string_bytes z ∷ values_in (drop (i + 1) texts)) (none text n)
  where
    none : (o : Option (String Global)) → ((y : String Global) → o ≡ Some y → ⊥) → o ≡ None
    none None n = refl
    none (Some y) n = absurd (n y refl)

pub behind_like : (wholes rest more before : Values) (x y : List ℕ) (place : ℕ) → rest ≡ Some y ∷ more → looks_like wholes x y ≡ true → place ≡ common x y → place_behind wholes rest x ≡ place_behind wholes before x → place ≡ place_behind wholes before x
behind_like wholes rest more before x y place e t p h = p ∙ sym (ap (λ z. cond z (common x y) (place_behind wholes more x)) t) ∙ ap (λ z. place_behind wholes z x) (sym e) ∙ h

pub behind_unlike : (wholes rest more before : Values) (x y : List ℕ) → rest ≡ Some y ∷ more → looks_like wholes x y ≡ false → place_behind wholes rest x ≡ place_behind wholes before x → place_behind wholes more x ≡ place_behind wholes before x
behind_unlike wholes rest more before x y e f h = sym (ap (λ z. cond z (common x y) (place_behind wholes more x)) f) ∙ ap (λ z. place_behind wholes z x) (sym e) ∙ h

pub behind_none : (wholes rest more before : Values) (x : List ℕ) → rest ≡ None ∷ more → place_behind wholes rest x ≡ place_behind wholes before x → place_behind wholes more x ≡ place_behind wholes before x
behind_none wholes rest more before x e h = ap (λ z. place_behind wholes z x) (sym e) ∙ h

pub behind_end : (wholes : Values) (texts : List (Option (String Global))) (i : ℕ) (x : List ℕ) (place : ℕ) → length texts ≤ i → place ≡ own_place wholes x → place_behind wholes (values_in (drop i texts)) x ≡ place_behind wholes (values_in texts) x → place ≡ place_behind wholes (values_in texts) x
behind_end wholes texts i x place l p h = p ∙ ap (λ z. place_behind wholes (values_in z) x) (sym (drop_all i texts l)) ∙ h

pub parts_end : (wholes before parts all : Values) (texts : List (Option (String Global))) (i : ℕ) → length texts ≤ i → parts ++ parts_behind wholes before (values_in (drop i texts)) ≡ all → parts ≡ all
parts_end wholes before parts all texts i l h = sym (append-nil parts) ∙ ap (λ z. parts ++ parts_behind wholes before (values_in z)) (sym (drop_all i texts l)) ∙ h

pub parts_next : (wholes before rest after more parts new : Values) (value part : Option (List ℕ)) → rest ≡ value ∷ more → after ≡ before ++ value ∷ [] → part ≡ option_map (part_behind wholes before) value → new ≡ parts ++ part ∷ [] → parts ++ parts_behind wholes before rest ≡ parts_behind wholes [] wholes → new ++ parts_behind wholes after more ≡ parts_behind wholes [] wholes
parts_next wholes before rest after more parts new value part e a p n h =
    ap₂ (λ y z. y ++ parts_behind wholes z more) n a ∙ append_assoc parts (part ∷ []) (parts_behind wholes (before ++ value ∷ []) more) ∙ ap (λ z. parts ++ z ∷ parts_behind wholes (before ++ value ∷ []) more) p ∙ ap (λ z. parts ++ parts_behind wholes before z) (sym e) ∙ h

-- ---- a part of a text

shown_cut : (room : ℕ) (t : List ℕ) → room < length t → front room t ++ codes "..." ≡ shown room t
shown_cut room t l = cond_both (nat_le (length t) room) t (front room t ++ codes "...") (λ z. front room t ++ codes "..." ≡ z) (λ e. absurd (grind (arith, nat_tests))) (λ e. refl)

shown_all : (room : ℕ) (t : List ℕ) → length t ≤ room → t ≡ shown room t
shown_all room t l = cond_both (nat_le (length t) room) t (front room t ++ codes "...") (λ z. t ≡ z) (λ e. refl) (λ e. absurd (grind (arith, nat_tests)))

pub front_put : (text f o n : List ℕ) → 60 < length text → f ≡ front 60 text → n ≡ o ++ (f ++ codes "...") → n ≡ o ++ shown 60 text
front_put text f o n l h e = e ∙ ap (λ z. o ++ (z ++ codes "...")) h ∙ ap (λ z. o ++ z) (shown_cut 60 text l)

pub all_put : (text o n : List ℕ) → length text ≤ 60 → n ≡ o ++ text → n ≡ o ++ shown 60 text
all_put text o n l e = e ∙ ap (λ z. o ++ z) (shown_all 60 text l)

pub part_put : (text : List ℕ) (place start : ℕ) (rest o a b d : List ℕ) → start ≡ part_start place text → o ≡ [] → d ≡ cond (nat_lt 0 start) (codes "...") [] → a ≡ o ++ d → rest ≡ drop start text → b ≡ a ++ shown 60 rest → b ≡ part_of place text
part_put text place start rest o a b d s e1 e2 e3 e4 e5 =
    e5 ∙ ap₂ (λ y z. y ++ shown 60 z) (e3 ∙ ap₂ ◌++◌ e1 e2) e4 ∙ ap (λ z. cond (nat_lt 0 z) (codes "...") [] ++ shown 60 (drop z text)) s

-- ---- what a line has

pub if_ok : {T E : Type 0} {P Q : T → Type 0} (r : Result T E) → ((x : T) → P x → Q x) → IfOk r P → IfOk r Q
if_ok (Ok x) f h = f x h
if_ok (Err e) f h = tt

pub on_ok : {T E P Q : Type 0} (r : Result T E) → (P → Q) → OnOk r P → OnOk r Q
on_ok (Ok x) f a = f a
on_ok (Err e) f a = tt
