-- Canonical content is the only text of its form that denotes its value.
use Rattle.std.proofs.Common.{◌≡◌, ℕ, Bool, true, false, if◌then◌else◌, Option, Some, None, List, Ok, Err, ℤ, refl, sym, ◌∙◌, ap, subst, arith}
use Rattle.std.specs.Prelude.{◌↔◌, bytes_eq}
use Rattle.yaml_definitions.specs.model.Tag.{null_tag, bool_tag, int_tag, float_tag}
use Rattle.yaml_definitions.specs.model.Event.{double, full}
use Rattle.yaml_definitions.specs.model.Core.{bad_content, Value, null_value, bool_value, int_value, decimal_value, infinity, not_a_number, null_of, bool_of, int_of, float_of, as_bool, as_int, split_at, decimal_of, int_text, decimal_text, content_of, refused, Resolved, by_range, by_pattern, by_tag, resolve, value_of}
use Rattle.yaml_definitions.specs.model.Number.{AreEqual}
use Rattle.yaml_definitions.specs.Laws.{ContentsTell, OneCanonicalText}
use Rattle.yaml_definitions.proofs.CharLaws.{heads, tails}
use Rattle.yaml_definitions.proofs.CoreLaws.{taken_parts, null_is, bool_is, int_is, int_back}
use Rattle.yaml_definitions.proofs.ResolveLaws.{IsFloat, OnFloat, float_kind}
use Rattle.yaml_definitions.proofs.NumberLaws.{is_decimal, content_from_equal, equal_from_content}

takes : (g : List ℕ) (v : Value) (b0 b1 b2 b3 : Bool) (o0 o1 o2 o3 : Option Value) (r0 r1 r2 r3 r : Resolved)
    → (if b0 then o0 else if b1 then o1 else if b2 then o2 else if b3 then o3 else None) ≡ Some v
    → (if b0 then by_pattern g o0 r0 else if b1 then by_pattern g o1 r1 else if b2 then by_pattern g o2 r2 else if b3 then by_pattern g o3 r3 else r) ≡ by_range g v
takes g v true b1 b2 b3 o0 o1 o2 o3 r0 r1 r2 r3 r e = ap (λ o. by_pattern g o r0) e
takes g v false true b2 b3 o0 o1 o2 o3 r0 r1 r2 r3 r e = ap (λ o. by_pattern g o r1) e
takes g v false false true b3 o0 o1 o2 o3 r0 r1 r2 r3 r e = ap (λ o. by_pattern g o r2) e
takes g v false false false true o0 o1 o2 o3 r0 r1 r2 r3 r e = ap (λ o. by_pattern g o r3) e
takes g v false false false false o0 o1 o2 o3 r0 r1 r2 r3 r e = absurd (cc)

-- a tag takes what the text denotes under it
pub tag_takes : (g x : List ℕ) (v : Value) → value_of g x ≡ Some v → by_tag g x ≡ by_range g v
unfolding value_of by_tag
tag_takes g x v =
    takes g v (bytes_eq g null_tag) (bytes_eq g bool_tag) (bytes_eq g int_tag) (bytes_eq g float_tag) (null_of x) (as_bool (bool_of x)) (as_int (int_of x)) (float_of x)
    (Err bad_content) (Err bad_content) (Err bad_content) (Err bad_content) _

-- what is its own canonical content is that of the value that it denotes
pub own_content : (g x : List ℕ) (v : Value) → value_of g x ≡ Some v → resolve (full g) double x ≡ Ok (g, x) → x ≡ content_of v
unfolding resolve
own_content g x v e h = (taken_parts g v g x (refused v) refl (sym (tag_takes g x v e) ∙ h)).1

-- ---- values of one tag

-- what is said of the values of two texts
abbrev Tell : Option Value → Option Value → Type 0
Tell o p = (v w : Value) → o ≡ Some v → p ≡ Some w → AreEqual v w ↔ (content_of v ≡ content_of w)

-- it is said of the values themselves
abbrev Told : Value → Value → Type 0
Told v w = AreEqual v w ↔ (content_of v ≡ content_of w)

moved : (v w r s : Value) → v ≡ r → w ≡ s → Told r s → Told v w
moved v w r s p q t = subst (λ z. Told z w) (sym p) (subst (λ z. Told r z) (sym q) t)

null_tell : (x y : List ℕ) → Tell (null_of x) (null_of y)
null_tell x y v w e f = moved v w null_value null_value (null_is x v e) (null_is y w f) (λ h. refl, λ h. refl)

bool_told : (b c : Bool) → Told (bool_value b) (bool_value c)
unfolding content_of
bool_told true true = (λ h. refl, λ h. refl)
bool_told true false = (λ h. absurd (cc), λ h. absurd (omega (arith, heads h)))
bool_told false true = (λ h. absurd (cc), λ h. absurd (omega (arith, heads h)))
bool_told false false = (λ h. refl, λ h. refl)

bool_tell : (o p : Option Bool) → Tell (as_bool o) (as_bool p)
bool_tell o p v w e f = let b = bool_is o v e in let c = bool_is p w f in moved v w (bool_value b.0) (bool_value c.0) b.1 c.1 (bool_told b.0 c.0)

int_once : (n m : ℤ) → int_text n ≡ int_text m → n ≡ m
int_once n m h = let q : Some n ≡ Some m = sym (int_back n) ∙ (ap int_of h ∙ int_back m) in cc

int_told : (n m : ℤ) → Told (int_value n) (int_value m)
unfolding content_of
int_told n m = (λ h. ap content_of h, λ h. ap int_value (int_once n m h))

int_tell : (o p : Option ℤ) → Tell (as_int o) (as_int p)
int_tell o p v w e f = let b = int_is o v e in let c = int_is p w f in moved v w (int_value b.0) (int_value c.0) b.1 c.1 (int_told b.0 c.0)

-- the words of a float are no decimals
no_decimal : (a : Bool) (m : ℕ) (k : ℤ) (x : List ℕ) → decimal_of x ≡ None → decimal_text a m k ≡ x → ⊥
no_decimal a m k x n e = let d = is_decimal a m k in let q : Some d.0 ≡ None = sym d.1 ∙ (ap decimal_of e ∙ n) in cc

no_infinity : (b : Bool) → decimal_of (content_of (infinity b)) ≡ None
unfolding content_of decimal_of split_at
no_infinity true = refl
no_infinity false = refl

no_nan : decimal_of (content_of not_a_number) ≡ None
unfolding content_of decimal_of split_at
no_nan = refl

float_told : (v w : Value) → IsFloat v → IsFloat w → Told v w
unfolding content_of
float_told (decimal_value a m k) (decimal_value b n l) i j = (λ h. content_from_equal a b m n k l h, λ h. equal_from_content a b m n k l h)
float_told (decimal_value a m k) (infinity b) i j = (λ h. absurd (cc), λ h. absurd (no_decimal a m k (content_of (infinity b)) (no_infinity b) h))
float_told (decimal_value a m k) not_a_number i j = (λ h. absurd (cc), λ h. absurd (no_decimal a m k (content_of not_a_number) no_nan h))
float_told (infinity a) (decimal_value b n l) i j = (λ h. absurd (cc), λ h. absurd (no_decimal b n l (content_of (infinity a)) (no_infinity a) (sym h)))
float_told not_a_number (decimal_value b n l) i j = (λ h. absurd (cc), λ h. absurd (no_decimal b n l (content_of not_a_number) no_nan (sym h)))
float_told (infinity true) (infinity true) i j = (λ h. refl, λ h. refl)
float_told (infinity true) (infinity false) i j = (λ h. absurd (cc), λ h. absurd (omega (arith, heads h)))
float_told (infinity false) (infinity true) i j = (λ h. absurd (cc), λ h. absurd (omega (arith, heads h)))
float_told (infinity false) (infinity false) i j = (λ h. refl, λ h. refl)
float_told (infinity true) not_a_number i j = (λ h. absurd (cc), λ h. absurd (omega (arith, heads h)))
float_told (infinity false) not_a_number i j = (λ h. absurd (cc), λ h. absurd (omega (arith, heads (tails h))))
float_told not_a_number (infinity true) i j = (λ h. absurd (cc), λ h. absurd (omega (arith, heads h)))
float_told not_a_number (infinity false) i j = (λ h. absurd (cc), λ h. absurd (omega (arith, heads (tails h))))
float_told not_a_number not_a_number i j = (λ h. refl, λ h. refl)
float_told null_value w i j = absurd i
float_told (bool_value b) w i j = absurd i
float_told (int_value n) w i j = absurd i
float_told v null_value i j = absurd j
float_told v (bool_value b) i j = absurd j
float_told v (int_value n) i j = absurd j

float_tell : (x y : List ℕ) → Tell (float_of x) (float_of y)
float_tell x y v w e f = float_told v w (subst OnFloat e (float_kind x)) (subst OnFloat f (float_kind y))

none_tell : Tell None None
none_tell v w e f = absurd (cc)

choose : (b0 b1 b2 b3 : Bool) (o0 o1 o2 o3 p0 p1 p2 p3 : Option Value) → Tell o0 p0 → Tell o1 p1 → Tell o2 p2 → Tell o3 p3
    → Tell (if b0 then o0 else if b1 then o1 else if b2 then o2 else if b3 then o3 else None) (if b0 then p0 else if b1 then p1 else if b2 then p2 else if b3 then p3 else None)
choose true b1 b2 b3 o0 o1 o2 o3 p0 p1 p2 p3 t0 t1 t2 t3 = t0
choose false true b2 b3 o0 o1 o2 o3 p0 p1 p2 p3 t0 t1 t2 t3 = t1
choose false false true b3 o0 o1 o2 o3 p0 p1 p2 p3 t0 t1 t2 t3 = t2
choose false false false true o0 o1 o2 o3 p0 p1 p2 p3 t0 t1 t2 t3 = t3
choose false false false false o0 o1 o2 o3 p0 p1 p2 p3 t0 t1 t2 t3 = none_tell

pub contents_tell : ContentsTell
unfolding value_of
contents_tell g x y =
    choose (bytes_eq g null_tag) (bytes_eq g bool_tag) (bytes_eq g int_tag) (bytes_eq g float_tag)
    (null_of x) (as_bool (bool_of x)) (as_int (int_of x)) (float_of x) (null_of y) (as_bool (bool_of y)) (as_int (int_of y)) (float_of y)
    (null_tell x y) (bool_tell (bool_of x) (bool_of y)) (int_tell (int_of x) (int_of y)) (float_tell x y)

pub one_canonical_text : OneCanonicalText
one_canonical_text g x y v w a b e h k = own_content g x v a h ∙ ((contents_tell g x y v w a b).0 e ∙ sym (own_content g y w b k))
