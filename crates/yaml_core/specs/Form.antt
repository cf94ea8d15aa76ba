-- What a text is by the patterns of the core schema.
use Rattle.std.specs.Prelude.{ℕ, Bool, true, false, if◌then◌else◌, List, [], ◌∷◌, codes, Option, Some, None, is_some}
use Rattle.yaml_definitions.specs.model.Core.{one_of, are_digits, unsigned, after_prefix, digits_after, decimal_of, bool_of, int_of, float_of, is_null}
use Rattle.yaml_core.specs.declared.kind.PlainKind.{PlainKind}
use Rattle.yaml_core.specs.declared.kind.PlainKind.TheVariants as kinds
use Rattle.yaml_core.specs.declared.form.Form.{Form}
use Rattle.yaml_core.specs.declared.form.Form.TheVariants as forms

-- the first kind of the table whose patterns match, else str
unfoldable pub table_kind : List ℕ → PlainKind
table_kind x =
    if is_null x then kinds.Null
    else if is_some (bool_of x) then kinds.Bool
    else if is_some (int_of x) then kinds.Int
    else if is_some (float_of x) then kinds.Float
    else kinds.Str

abbrev pub nan_words : List (List ℕ)
nan_words = codes ".nan" ∷ codes ".NaN" ∷ codes ".NAN" ∷ []

abbrev pub infinity_words : List (List ℕ)
infinity_words = codes ".inf" ∷ codes ".Inf" ∷ codes ".INF" ∷ []

abbrev pub by_bool : Option Bool → Form → Form
by_bool (Some true) or = forms.True
by_bool (Some false) or = forms.False
by_bool None or = or

-- the patterns of the table, each by itself
unfoldable pub form_of : List ℕ → Form
form_of x =
    if is_null x then forms.Null
    else by_bool (bool_of x) (
    if are_digits 10 (unsigned x) then forms.Decimal
    else if is_some (digits_after 8 (after_prefix 48 111 x)) then forms.Octal
    else if is_some (digits_after 16 (after_prefix 48 120 x)) then forms.Hexadecimal
    else if one_of nan_words x then forms.NotANumber
    else if one_of infinity_words (unsigned x) then forms.Infinity
    else if is_some (decimal_of x) then forms.Float
    else forms.Other)

-- the kind that a form belongs to
abbrev pub form_kind : Form → PlainKind
form_kind forms.Null = kinds.Null
form_kind forms.True = kinds.Bool
form_kind forms.False = kinds.Bool
form_kind forms.Decimal = kinds.Int
form_kind forms.Octal = kinds.Int
form_kind forms.Hexadecimal = kinds.Int
form_kind forms.Float = kinds.Float
form_kind forms.Infinity = kinds.Float
form_kind forms.NotANumber = kinds.Float
form_kind forms.Other = kinds.Str
