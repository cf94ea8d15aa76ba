-- What a text resolves to under the tag of a kind, by its form.
use Rattle.std.proofs.Common.{◌≡◌, ℕ, true, ◌⊎◌, inl, inr, Option, Some, None, Result, Ok, Err, List, pos, drop, codes, refl, sym, ◌∙◌, ap, subst}
use Rattle.std.specs.Prelude.{MatchResult, is_some}
use Rattle.yaml_definitions.specs.model.Tag.{null_tag, bool_tag, int_tag, float_tag}
use Rattle.yaml_definitions.specs.model.Core.{bad_content, Value, int_value, infinity, number_in, is_negative, decimal_of, null_of, content_of, refused, Resolved, accepted, by_range, by_pattern}
use Rattle.yaml_core.specs.CoreAnswer.{RefusesScalar, RefusesValue, IsContent, IsDecimalContent, RefusesDecimal}
use Rattle.yaml_core.specs.Form.{form_of}
use Rattle.yaml_core.specs.Kind.{of_kind, word_of}
use Rattle.yaml_core.specs.Values.{HasValues, decimal_int}
use Rattle.yaml_core.specs.declared.kind.PlainKind.TheVariants as kinds
use Rattle.yaml_core.specs.declared.form.Form.{Form}
use Rattle.yaml_core.specs.declared.form.Form.TheVariants as forms
use Rattle.yaml_core.specs.declared.fault.CoreFault.{CoreFault}
use Rattle.yaml_core.specs.declared.fault.CoreFault.TheVariants as faults
use Rattle.yaml_core.proofs.FormLemmas.{values}

pub has : (f : Form) (x : List ℕ) → f ≡ form_of x → HasValues f x
has f x e = subst (λ g. HasValues g x) (sym e) (values x)

abbrev pub IsResolved : {A : Type 0} → (A → List ℕ) → List ℕ → Resolved → Result A CoreFault → Type 0
IsResolved bytes g found r = MatchResult r (λ c. found ≡ Ok (g, bytes c)) (RefusesScalar found)

-- ---- words

null_word : (f : Form) (x y : List ℕ) → HasValues f x → word_of kinds.Null f ≡ Some y → of_kind kinds.Null x ≡ Ok (null_tag, y)
unfolding of_kind null_of content_of
null_word forms.Null x y v e = let q : codes "null" ≡ y = cc in rw v.null (ap (λ z. Ok (null_tag, z)) q)
null_word _ x y v e = absurd (cc)

null_none : (f : Form) (x : List ℕ) → HasValues f x → word_of kinds.Null f ≡ None → of_kind kinds.Null x ≡ Err bad_content
unfolding of_kind null_of
null_none forms.Null x v e = absurd (cc)
null_none forms.True x v e = rw v.null refl
null_none forms.False x v e = rw v.null refl
null_none forms.Decimal x v e = rw v.0.null refl
null_none forms.Octal x v e = rw v.0.null refl
null_none forms.Hexadecimal x v e = rw v.0.null refl
null_none forms.Float x v e = rw v.0.null refl
null_none forms.Infinity x v e = rw v.null refl
null_none forms.NotANumber x v e = rw v.null refl
null_none forms.Other x v e = rw v.null refl

bool_word : (f : Form) (x y : List ℕ) → HasValues f x → word_of kinds.Bool f ≡ Some y → of_kind kinds.Bool x ≡ Ok (bool_tag, y)
unfolding of_kind content_of
bool_word forms.True x y v e = let q : codes "true" ≡ y = cc in rw v.bool (ap (λ z. Ok (bool_tag, z)) q)
bool_word forms.False x y v e = let q : codes "false" ≡ y = cc in rw v.bool (ap (λ z. Ok (bool_tag, z)) q)
bool_word _ x y v e = absurd (cc)

bool_none : (f : Form) (x : List ℕ) → HasValues f x → word_of kinds.Bool f ≡ None → of_kind kinds.Bool x ≡ Err bad_content
unfolding of_kind
bool_none forms.Null x v e = rw v.bool refl
bool_none forms.True x v e = absurd (cc)
bool_none forms.False x v e = absurd (cc)
bool_none forms.Decimal x v e = rw v.0.bool refl
bool_none forms.Octal x v e = rw v.0.bool refl
bool_none forms.Hexadecimal x v e = rw v.0.bool refl
bool_none forms.Float x v e = rw v.0.bool refl
bool_none forms.Infinity x v e = rw v.bool refl
bool_none forms.NotANumber x v e = rw v.bool refl
bool_none forms.Other x v e = rw v.bool refl

pub null_resolved : {A : Type 0} (bytes : A → List ℕ) (f : Form) (x : List ℕ) (r : Result A CoreFault) → f ≡ form_of x
    → MatchResult r (λ c. word_of kinds.Null f ≡ Some (bytes c)) (λ fault. (fault ≡ faults.BadContent) × (word_of kinds.Null f ≡ None)) → IsResolved bytes null_tag (of_kind kinds.Null x) r
null_resolved bytes f x (Ok c) e h = null_word f x (bytes c) (has f x e) h
null_resolved bytes f x (Err fault) e h = subst (RefusesScalar (of_kind kinds.Null x)) (sym h.0) (null_none f x (has f x e) h.1)

pub bool_resolved : {A : Type 0} (bytes : A → List ℕ) (f : Form) (x : List ℕ) (r : Result A CoreFault) → f ≡ form_of x
    → MatchResult r (λ c. word_of kinds.Bool f ≡ Some (bytes c)) (λ fault. (fault ≡ faults.BadContent) × (word_of kinds.Bool f ≡ None)) → IsResolved bytes bool_tag (of_kind kinds.Bool x) r
bool_resolved bytes f x (Ok c) e h = bool_word f x (bytes c) (has f x e) h
bool_resolved bytes f x (Err fault) e h = subst (RefusesScalar (of_kind kinds.Bool x)) (sym h.0) (bool_none f x (has f x e) h.1)

-- ---- values

taken_content : (g : List ℕ) (v : Value) (x : List ℕ) → IsContent v x → by_range g v ≡ Ok (g, x)
taken_content g v x h = ap (accepted g v) h.0 ∙ ap (λ z. Ok (g, z)) (sym h.1)

taken_refused : (g : List ℕ) (v : Value) (fault : CoreFault) → RefusesValue (refused v) fault → RefusesScalar (by_range g v) fault
taken_refused g v faults.WrongKind h = absurd h
taken_refused g v faults.BadContent h = absurd h
taken_refused g v faults.IntRange h = ap (accepted g v) h
taken_refused g v faults.FloatRange h = ap (accepted g v) h
taken_refused g v faults.OutOfMemory h = tt

pub taken_resolved : {A : Type 0} (bytes : A → List ℕ) (g : List ℕ) (found : Resolved) (v : Value) (r : Result A CoreFault) → found ≡ by_range g v
    → MatchResult r (λ c. IsContent v (bytes c)) (RefusesValue (refused v)) → IsResolved bytes g found r
taken_resolved bytes g found v (Ok c) e h = e ∙ taken_content g v (bytes c) h
taken_resolved bytes g found v (Err fault) e h = subst (λ t. RefusesScalar t fault) (sym e) (taken_refused g v fault h)

pub decimal_resolved : {A : Type 0} (bytes : A → List ℕ) (g : List ℕ) (found : Resolved) (o : Option Value) (r : Result A CoreFault) → found ≡ by_pattern g o (Err bad_content)
    → MatchResult r (λ c. IsDecimalContent o (bytes c)) (RefusesDecimal o) → IsResolved bytes g found r
decimal_resolved bytes g found (Some v) r e h = taken_resolved bytes g found v r e h
decimal_resolved bytes g found None (Ok c) e h = absurd h
decimal_resolved bytes g found None (Err fault) e h = absurd h

-- ---- ints

pub int_decimal : (f : Form) (x : List ℕ) → f ≡ form_of x → f ≡ forms.Decimal → of_kind kinds.Int x ≡ by_range int_tag (int_value (decimal_int x))
unfolding of_kind
int_decimal f x e k = let v = has forms.Decimal x (sym k ∙ e) in rw v.0.int refl

pub int_octal : (f : Form) (x : List ℕ) → f ≡ form_of x → f ≡ forms.Octal → of_kind kinds.Int x ≡ by_range int_tag (int_value (pos (number_in 8 (drop 2 x))))
unfolding of_kind
int_octal f x e k = let v = has forms.Octal x (sym k ∙ e) in rw v.0.int refl

pub int_hexadecimal : (f : Form) (x : List ℕ) → f ≡ form_of x → f ≡ forms.Hexadecimal → of_kind kinds.Int x ≡ by_range int_tag (int_value (pos (number_in 16 (drop 2 x))))
unfolding of_kind
int_hexadecimal f x e k = let v = has forms.Hexadecimal x (sym k ∙ e) in rw v.0.int refl

int_none_by : (f : Form) (x : List ℕ) → HasValues f x → (f ≡ forms.Decimal → ⊥) → (f ≡ forms.Octal → ⊥) → (f ≡ forms.Hexadecimal → ⊥) → of_kind kinds.Int x ≡ Err bad_content
unfolding of_kind
int_none_by forms.Null x v d o h = rw v.int refl
int_none_by forms.True x v d o h = rw v.int refl
int_none_by forms.False x v d o h = rw v.int refl
int_none_by forms.Decimal x v d o h = absurd (d refl)
int_none_by forms.Octal x v d o h = absurd (o refl)
int_none_by forms.Hexadecimal x v d o h = absurd (h refl)
int_none_by forms.Float x v d o h = rw v.0.int refl
int_none_by forms.Infinity x v d o h = rw v.int refl
int_none_by forms.NotANumber x v d o h = rw v.int refl
int_none_by forms.Other x v d o h = rw v.int refl

pub int_none : (f : Form) (x : List ℕ) → f ≡ form_of x → (f ≡ forms.Decimal → ⊥) → (f ≡ forms.Octal → ⊥) → (f ≡ forms.Hexadecimal → ⊥) → of_kind kinds.Int x ≡ Err bad_content
int_none f x e = int_none_by f x (has f x e)

-- ---- floats

pub float_decimal : (f : Form) (x : List ℕ) → f ≡ form_of x → (f ≡ forms.Decimal) ⊎ (f ≡ forms.Float) → of_kind kinds.Float x ≡ by_pattern float_tag (decimal_of x) (Err bad_content)
unfolding of_kind
float_decimal f x e (inl k) = let v = has forms.Decimal x (sym k ∙ e) in ap (λ o. by_pattern float_tag o (Err bad_content)) v.0.float
float_decimal f x e (inr k) = let v = has forms.Float x (sym k ∙ e) in ap (λ o. by_pattern float_tag o (Err bad_content)) v.0.float

pub float_some : (f : Form) (x : List ℕ) → f ≡ form_of x → (f ≡ forms.Decimal) ⊎ (f ≡ forms.Float) → is_some (decimal_of x) ≡ true
float_some f x e (inl k) = (has forms.Decimal x (sym k ∙ e)).2
float_some f x e (inr k) = (has forms.Float x (sym k ∙ e)).1

pub float_infinity : (f : Form) (x y : List ℕ) → f ≡ form_of x → f ≡ forms.Infinity → y ≡ content_of (infinity (is_negative x)) → of_kind kinds.Float x ≡ Ok (float_tag, y)
unfolding of_kind
float_infinity f x y e k h = let v = has forms.Infinity x (sym k ∙ e) in rw v.float (ap (λ z. Ok (float_tag, z)) (sym h))

pub float_nan : (f : Form) (x : List ℕ) → f ≡ form_of x → f ≡ forms.NotANumber → of_kind kinds.Float x ≡ Ok (float_tag, codes ".nan")
unfolding of_kind content_of
float_nan f x e k = let v = has forms.NotANumber x (sym k ∙ e) in rw v.float refl

float_none_by : (f : Form) (x : List ℕ) → HasValues f x → (f ≡ forms.Decimal → ⊥) → (f ≡ forms.Float → ⊥) → (f ≡ forms.Infinity → ⊥) → (f ≡ forms.NotANumber → ⊥) → of_kind kinds.Float x ≡ Err bad_content
unfolding of_kind
float_none_by forms.Null x v d t i n = rw v.float refl
float_none_by forms.True x v d t i n = rw v.float refl
float_none_by forms.False x v d t i n = rw v.float refl
float_none_by forms.Decimal x v d t i n = absurd (d refl)
float_none_by forms.Octal x v d t i n = rw v.0.float refl
float_none_by forms.Hexadecimal x v d t i n = rw v.0.float refl
float_none_by forms.Float x v d t i n = absurd (t refl)
float_none_by forms.Infinity x v d t i n = absurd (i refl)
float_none_by forms.NotANumber x v d t i n = absurd (n refl)
float_none_by forms.Other x v d t i n = rw v.float refl

pub float_none : (f : Form) (x : List ℕ) → f ≡ form_of x → (f ≡ forms.Decimal → ⊥) → (f ≡ forms.Float → ⊥) → (f ≡ forms.Infinity → ⊥) → (f ≡ forms.NotANumber → ⊥) → of_kind kinds.Float x ≡ Err bad_content
float_none f x e = float_none_by f x (has f x e)
