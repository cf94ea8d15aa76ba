-- What the words of a hint are made of, piece by piece.
use Rattle.std.proofs.Common.{◌≡◌, ℕ, zero, suc, inl, inr, ◌<◌, ◌/◌, ◌%◌, ◌==◌, Bool, true, false, ◌&&◌, List, [], ◌∷◌, ◌++◌, cond, codes, refl, ◌∙◌, ap, arith, if◌then◌else◌}
use Rattle.std.specs.List.{list_all}
use Rattle.std.specs.Fmt.{decimal, digits, digits_onto, digit_glyph}
use Rattle.std.proofs.lemmas.List.Folds.{list_all-append}
use Rattle.review_hints.specs.Hinted.{is_printed, is_line, is_plain, name_of}
use Rattle.review_hints.specs.Hints.{IsIndented}

both_left : (a b : Bool) → (a && b) ≡ true → a ≡ true
both_left true b h = refl
both_left false b h = h

pub line_of_plain : (w : List ℕ) → is_plain w ≡ true → is_line w ≡ true
line_of_plain w h = both_left (is_line w) _ h

printed : (w : List ℕ) → is_line w ≡ true → list_all is_printed w ≡ true
printed [] h = refl
printed (x ∷ w) h = h

joined : (x y : List ℕ) → list_all is_printed x ≡ true → list_all is_printed y ≡ true → list_all is_printed (x ++ y) ≡ true
joined x y h k = list_all-append is_printed x y ∙ (ap (λ z. z && list_all is_printed y) h ∙ k)

-- ---- numbers

glyph : (d : ℕ) → d < 10 → is_printed (digit_glyph false d) ≡ true
glyph d h = grind arith

chosen : (b : Bool) (x y : List ℕ) → list_all is_printed x ≡ true → list_all is_printed y ≡ true → list_all is_printed (if b then x else y) ≡ true
chosen true x y h k = h
chosen false x y h k = k

digit_pieces : (k n : ℕ) (w : List ℕ) → list_all is_printed w ≡ true → list_all is_printed (digits_onto k 10 false n w) ≡ true
digit_pieces zero n w h = h
digit_pieces (suc k) n w h =
    let more : list_all is_printed (digit_glyph false (n % 10) ∷ w) ≡ true = ap (λ z. z && list_all is_printed w) (glyph (n % 10) (omega arith)) ∙ h in
    chosen (n / 10 == 0) _ _ more (digit_pieces k (n / 10) (digit_glyph false (n % 10) ∷ w) more)

number : (n : ℕ) → list_all is_printed (decimal n) ≡ true
unfolding digits
number n = digit_pieces 64 n [] refl

picked : (b : Bool) (x y : List ℕ) → list_all is_printed x ≡ true → list_all is_printed y ≡ true → list_all is_printed (cond b x y) ≡ true
picked true x y h k = h
picked false x y h k = k

-- ---- hints

pub line_line : (x w : List ℕ) (n : ℕ) → x ≡ codes "line " ++ (decimal n ++ (codes " " ++ w)) → is_line w ≡ true → is_line x ≡ true
line_line x w n e h = ap is_line e ∙ joined (decimal n) (codes " " ++ w) (number n) (printed w h)

pub opened_line : (x name w : List ℕ) (n m : ℕ) → x ≡ codes "the " ++ (name ++ (codes " opened at line " ++ (decimal n ++ (codes ", column " ++ (decimal m ++ (codes " " ++ w)))))) → list_all is_printed name ≡ true → is_line w ≡ true → is_line x ≡ true
opened_line x name w n m e k h =
    let last = joined (decimal m) (codes " " ++ w) (number m) (printed w h) in
    let next = joined (decimal n) (codes ", column " ++ (decimal m ++ (codes " " ++ w))) (number n) last in
    ap is_line e ∙ joined name (codes " opened at line " ++ (decimal n ++ (codes ", column " ++ (decimal m ++ (codes " " ++ w))))) k next

begun : (x what w : List ℕ) → IsIndented what → list_all is_printed w ≡ true → x ≡ what ++ w → is_plain x ≡ true
begun x what w (inl e) h k = ap is_plain (k ∙ ap (λ z. z ++ w) e) ∙ ap (λ z. z && true) h
begun x what w (inr (inl e)) h k = ap is_plain (k ∙ ap (λ z. z ++ w) e) ∙ ap (λ z. z && true) h
begun x what w (inr (inr e)) h k = ap is_plain (k ∙ ap (λ z. z ++ w) e) ∙ ap (λ z. z && true) h

pub indent_plain : (x what : List ℕ) (n : ℕ) → IsIndented what → x ≡ what ++ (codes " must be indented more than its key: put " ++ (decimal n ++ codes " spaces before it")) → is_plain x ≡ true
indent_plain x what n w e = begun x what _ w (joined (decimal n) (codes " spaces before it") (number n) refl) e

pub name_printed : (mark : ℕ) → list_all is_printed (name_of mark) ≡ true
name_printed mark = picked (mark == 91) _ _ refl (picked (mark == 123) _ _ refl refl)
