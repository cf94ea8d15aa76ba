-- The names of two folders, one after another.
use Rattle.std.proofs.Common.{◌≡◌, ℕ, ◌+◌, ◌≤◌, List, [], ◌∷◌, ◌++◌, length, drop, refl, sym, ◌∙◌, ap, arith}
use Rattle.std.specs.Prelude.{Some, None, Bool, true, false, cond, flat_map, String, string_bytes}
use Rattle.std.specs.declared.alloc.Global.{Global}
use Rattle.std.specs.declared.cmp.Ordering.TheVariants.{Equal}
use Rattle.std.specs.Cmp.Lexicographic.{slice_cmp}
use Rattle.std.specs.List.{slice_get}
use Rattle.std.specs.Ordering.{nat_cmp, is_eq}
use Rattle.std.proofs.lemmas.List.{append_assoc, append-nil}
use Rattle.std.proofs.lemmas.Grind.{flat_map-append}
use Rattle.std.proofs.lemmas.Map.Text.{is_eq-slice_cmp}
use Rattle.std.proofs.lemmas.Slice.Eq.{bytes_eq-Decides}
use Rattle.review_reports.specs.declared.entry.Entry.{Entry}
use Rattle.review_reports.specs.declared.entry.Has.{Has}
use Rattle.review_reports.specs.declared.entry.Has.TheVariants.{Left, Both, Right}
use Rattle.review_reports.specs.Names.{is_left, is_right, names_in, Begins, IsNearer, IsNext}

pub equal_texts : (xs ys : List ℕ) → slice_cmp nat_cmp xs ys ≡ Equal → xs ≡ ys
equal_texts xs ys e = (bytes_eq-Decides xs ys).0 (sym (is_eq-slice_cmp xs ys) ∙ ap is_eq e)

some-is : {X : Type 0} {x y : X} → Some x ≡ Some y → x ≡ y
some-is e = cc

none-some : {X : Type 0} {x : X} → None ≡ Some x → ⊥
none-some e = absurd (cc)

pub begun : (list : List (String Global)) (x : String Global) (name : List ℕ) → slice_get list 0 ≡ Some x → name ≡ string_bytes x → Begins list name
begun [] x name e n = absurd (none-some e)
begun (y ∷ ys) x name e n = (names_in ys, ap (λ z. z ∷ names_in ys) (ap string_bytes (some-is e) ∙ sym n))

pub next_both : (left right : List (String Global)) (one other : String Global) (l r : List ℕ) (has : Has) (name : List ℕ) → slice_get left 0 ≡ Some one → slice_get right 0 ≡ Some other → l ≡ string_bytes one → r ≡ string_bytes other → IsNearer l r has name → IsNext left right has name
next_both left right one other l r Left name e f p q n = begun left one name e (n ∙ p)
next_both left right one other l r Both name e f p q n = (begun left one name e (n.0 ∙ p), begun right other name f (n.1 ∙ q))
next_both left right one other l r Right name e f p q n = begun right other name f (n ∙ q)

-- ---- what is told so far, and what is left

-- a name of a list, if that is its first
first_taken : (list : List (String Global)) (name : List ℕ) → Begins list name → names_in list ≡ (name ∷ []) ++ names_in (drop 1 list)
first_taken [] name (rest, e) = absurd (cc)
first_taken (x ∷ xs) name (rest, e) = ap (λ z. z ∷ names_in xs) (let h : string_bytes x ≡ name = cc in h)

-- the names of one folder, where an entry takes its first name or none
module _ (one : Entry → List (List ℕ)) where
  pub names_more : (entries new : List Entry) (e : Entry) (list after : List (String Global)) (all : List (List ℕ)) (taken : Bool) → new ≡ entries ++ (e ∷ []) → one e ≡ cond taken (e.name.now ∷ []) [] → after ≡ cond taken (drop 1 list) list → (taken ≡ true → Begins list e.name.now) → flat_map one entries ++ names_in list ≡ all → flat_map one new ++ names_in after ≡ all
  names_more entries new e list after all true n o a b h =
      ap (λ z. flat_map one z ++ names_in after) n ∙ ap (λ z. z ++ names_in after) (flat_map-append one entries (e ∷ [])) ∙ append_assoc (flat_map one entries) (one e ++ []) (names_in after)
      ∙ ap (λ z. flat_map one entries ++ (z ++ names_in after)) (append-nil (one e) ∙ o) ∙ ap (λ z. flat_map one entries ++ ((e.name.now ∷ []) ++ names_in z)) a
      ∙ ap (λ z. flat_map one entries ++ z) (sym (first_taken list e.name.now (b refl))) ∙ h
  names_more entries new e list after all false n o a b h =
      ap (λ z. flat_map one z ++ names_in after) n ∙ ap (λ z. z ++ names_in after) (flat_map-append one entries (e ∷ [])) ∙ append_assoc (flat_map one entries) (one e ++ []) (names_in after)
      ∙ ap (λ z. flat_map one entries ++ (z ++ names_in after)) (append-nil (one e) ∙ o) ∙ ap (λ z. flat_map one entries ++ names_in z) a ∙ h

  -- no name is left
  pub names_all : (entries : List Entry) (list : List (String Global)) (all : List (List ℕ)) → list ≡ [] → flat_map one entries ++ names_in list ≡ all → flat_map one entries ≡ all
  names_all entries list all n h = sym (append-nil (flat_map one entries)) ∙ ap (λ z. flat_map one entries ++ names_in z) (sym n) ∙ h

pub left_begins : (left right : List (String Global)) (has : Has) (name : List ℕ) → IsNext left right has name → is_left has ≡ true → Begins left name
left_begins left right Left name n t = n
left_begins left right Both name n t = n.0
left_begins left right Right name n t = absurd (cc)

pub right_begins : (left right : List (String Global)) (has : Has) (name : List ℕ) → IsNext left right has name → is_right has ≡ true → Begins right name
right_begins left right Left name n t = absurd (cc)
right_begins left right Both name n t = n.1
right_begins left right Right name n t = n

-- fewer names are left
behind-len : (list : List (String Global)) (name : List ℕ) → Begins list name → length (drop 1 list) + 1 ≤ length list
behind-len [] name (rest, e) = absurd (cc)
behind-len (x ∷ xs) name b = omega arith

pub fewer : (left right left' right' : List (String Global)) (has : Has) (name : List ℕ) → IsNext left right has name → left' ≡ cond (is_left has) (drop 1 left) left → right' ≡ cond (is_right has) (drop 1 right) right → length left' + length right' + 1 ≤ length left + length right
fewer left right left' right' Left name n p q = let b = behind-len left name n in omega (arith, b, ap length p, ap length q)
fewer left right left' right' Both name n p q = let a = behind-len left name n.0 in let b = behind-len right name n.1 in omega (arith, a, b, ap length p, ap length q)
fewer left right left' right' Right name n p q = let b = behind-len right name n in omega (arith, b, ap length p, ap length q)
