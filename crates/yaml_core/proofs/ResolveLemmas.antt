-- A scalar resolves as one of the kind that its tag or its text tells.
use Rattle.std.proofs.Common.{◌≡◌, ℕ, true, false, ◌||◌, inl, inr, Option, Some, None, Ok, Err, List, refl, sym, ◌∙◌, ap}
use Rattle.std.specs.Prelude.{bytes_eq, is_some}
use Rattle.std.proofs.lemmas.Bool.{cond_both}
use lib.Pointwise.{bytes_decides}
use Rattle.yaml_definitions.specs.model.Tag.{core_tag, null_tag, bool_tag, int_tag, float_tag, seq_tag, map_tag}
use Rattle.yaml_definitions.specs.model.Core.{wrong_kind, bad_content, Value, null_of, bool_of, int_of, float_of, as_bool, as_int, Resolved, by_pattern, by_table, by_tag}
use Rattle.yaml_definitions.proofs.CoreLaws.{pattern_parts, wrong}
use Rattle.yaml_core.specs.Form.{form_kind, form_of}
use Rattle.yaml_core.specs.Kind.{kind_tag, of_kind, use_of, has_value}
use Rattle.yaml_core.specs.Values.{HasValues}
use Rattle.yaml_core.specs.declared.kind.PlainKind.{PlainKind}
use Rattle.yaml_core.specs.declared.kind.PlainKind.TheVariants as kinds
use Rattle.yaml_core.specs.declared.form.Form.{Form}
use Rattle.yaml_core.specs.declared.form.Form.TheVariants as forms
use Rattle.yaml_core.specs.declared.tag.TagUse.{TagUse}
use Rattle.yaml_core.specs.declared.tag.TagUse.TheVariants as uses
use Rattle.yaml_core.proofs.FormLemmas.{values}

-- ---- by the table

found : (g : List ℕ) (o : Option Value) (r s : Resolved) → is_some o ≡ true → by_pattern g o r ≡ by_pattern g o s
found g (Some v) r s h = refl
found g None r s h = absurd (cc)

table_by : (f : Form) (x : List ℕ) → HasValues f x → by_table x ≡ of_kind (form_kind f) x
unfolding by_table of_kind null_of
table_by forms.Null x v = rw v.null refl
table_by forms.True x v = rw (v.null, v.bool) refl
table_by forms.False x v = rw (v.null, v.bool) refl
table_by forms.Decimal x v = rw (v.0.null, v.0.bool, v.0.int) refl
table_by forms.Octal x v = rw (v.0.null, v.0.bool, v.0.int) refl
table_by forms.Hexadecimal x v = rw (v.0.null, v.0.bool, v.0.int) refl
table_by forms.Float x v = rw (v.0.null, v.0.bool, v.0.int) (found float_tag (float_of x) _ _ (ap is_some v.0.float ∙ v.1))
table_by forms.Infinity x v = rw (v.null, v.bool, v.int, v.float) refl
table_by forms.NotANumber x v = rw (v.null, v.bool, v.int, v.float) refl
table_by forms.Other x v = rw (v.null, v.bool, v.int, v.float) refl

pub table_is : (x : List ℕ) → by_table x ≡ of_kind (form_kind (form_of x)) x
table_is x = table_by (form_of x) x (values x)

-- ---- by a tag

abbrev pub UsedBy : TagUse → List ℕ → List ℕ → Type 0
UsedBy (uses.Judged k) g x = (by_tag g x ≡ of_kind k x) × (g ≡ kind_tag k)
UsedBy uses.Collection g x = by_tag g x ≡ Err wrong_kind
UsedBy uses.Kept g x = by_tag g x ≡ Ok (g, x)

pub tag_is : (g x : List ℕ) → UsedBy (use_of g) g x
unfolding by_tag of_kind
tag_is g x =
    let P : TagUse → Type 0 = λ u. UsedBy u g x in
    let at : (t : List ℕ) → bytes_eq g t ≡ true → g ≡ t = λ t b. (bytes_decides g t).0 b in
    cond_both (bytes_eq g null_tag) _ _ P (λ b. (rw b (ap (λ t. by_pattern t (null_of x) (Err bad_content)) (at null_tag b)), at null_tag b)) (λ n0.
    cond_both (bytes_eq g bool_tag) _ _ P (λ b. (rw (n0, b) (ap (λ t. by_pattern t (as_bool (bool_of x)) (Err bad_content)) (at bool_tag b)), at bool_tag b)) (λ n1.
    cond_both (bytes_eq g int_tag) _ _ P (λ b. (rw (n0, n1, b) (ap (λ t. by_pattern t (as_int (int_of x)) (Err bad_content)) (at int_tag b)), at int_tag b)) (λ n2.
    cond_both (bytes_eq g float_tag) _ _ P (λ b. (rw (n0, n1, n2, b) (ap (λ t. by_pattern t (float_of x) (Err bad_content)) (at float_tag b)), at float_tag b)) (λ n3.
    cond_both (bytes_eq g seq_tag || bytes_eq g map_tag) _ _ P (λ b. rw (n0, n1, n2, n3, b) refl) (λ n4. rw (n0, n1, n2, n3, n4) refl)))))

-- ---- a text that stands for itself is not refused

value_tag : (t : List ℕ) (o : Option Value) (g y : List ℕ) → has_value t ≡ true → has_value g ≡ false → by_pattern t o (Err bad_content) ≡ Ok (g, y) → ⊥
value_tag t o g y h n e =
    elim (pattern_parts t o (Err bad_content) g y e) [ inl p ↦ (let f : true ≡ false = sym h ∙ (ap has_value (sym p.2) ∙ n) in cc) | inr f ↦ wrong g y bad_content f ]

pub kept_kind : (k : PlainKind) (g x y : List ℕ) → has_value g ≡ false → of_kind k x ≡ Ok (g, y) → k ≡ kinds.Str
unfolding of_kind core_tag
kept_kind kinds.Null g x y n e = absurd (value_tag null_tag (null_of x) g y refl n e)
kept_kind kinds.Bool g x y n e = absurd (value_tag bool_tag (as_bool (bool_of x)) g y refl n e)
kept_kind kinds.Int g x y n e = absurd (value_tag int_tag (as_int (int_of x)) g y refl n e)
kept_kind kinds.Float g x y n e = absurd (value_tag float_tag (float_of x) g y refl n e)
kept_kind kinds.Str g x y n e = refl
