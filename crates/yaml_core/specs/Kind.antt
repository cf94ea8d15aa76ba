-- What a scalar of a kind resolves to.
use Rattle.std.specs.Prelude.{◌≡◌, Bool, List, ℕ, ◌||◌, if◌then◌else◌, Option, Some, None, Ok, Err, bytes_eq, codes}
use Rattle.yaml_definitions.specs.model.Tag.{null_tag, bool_tag, int_tag, float_tag, str_tag, seq_tag, map_tag}
use Rattle.yaml_definitions.specs.model.Core.{bad_content, null_of, bool_of, int_of, float_of, as_bool, as_int, Resolved, by_pattern}
use Rattle.yaml_core.specs.declared.kind.PlainKind.{PlainKind}
use Rattle.yaml_core.specs.declared.kind.PlainKind.TheVariants as kinds
use Rattle.yaml_core.specs.declared.form.Form.{Form}
use Rattle.yaml_core.specs.declared.form.Form.TheVariants as forms
use Rattle.yaml_core.specs.declared.tag.TagUse.{TagUse}
use Rattle.yaml_core.specs.declared.tag.TagUse.TheVariants as uses

abbrev pub kind_tag : PlainKind → List ℕ
kind_tag kinds.Null = null_tag
kind_tag kinds.Bool = bool_tag
kind_tag kinds.Int = int_tag
kind_tag kinds.Float = float_tag
kind_tag kinds.Str = str_tag

-- by the patterns of one kind; str takes every text
unfoldable pub of_kind : PlainKind → List ℕ → Resolved
of_kind kinds.Null x = by_pattern null_tag (null_of x) (Err bad_content)
of_kind kinds.Bool x = by_pattern bool_tag (as_bool (bool_of x)) (Err bad_content)
of_kind kinds.Int x = by_pattern int_tag (as_int (int_of x)) (Err bad_content)
of_kind kinds.Float x = by_pattern float_tag (float_of x) (Err bad_content)
of_kind kinds.Str x = Ok (str_tag, x)

abbrev pub use_of : List ℕ → TagUse
use_of g =
    if bytes_eq g null_tag then uses.Judged kinds.Null
    else if bytes_eq g bool_tag then uses.Judged kinds.Bool
    else if bytes_eq g int_tag then uses.Judged kinds.Int
    else if bytes_eq g float_tag then uses.Judged kinds.Float
    else if bytes_eq g seq_tag || bytes_eq g map_tag then uses.Collection
    else uses.Kept

-- the word that stands for a null or a bool of this form
abbrev pub word_of : PlainKind → Form → Option (List ℕ)
word_of kinds.Null forms.Null = Some (codes "null")
word_of kinds.Bool forms.True = Some (codes "true")
word_of kinds.Bool forms.False = Some (codes "false")
word_of _ _ = None

abbrev pub IsWord : PlainKind → Form → List ℕ → Type 0
IsWord k f x = word_of k f ≡ Some x

abbrev pub HasNoWord : PlainKind → Form → Type 0
HasNoWord k f = word_of k f ≡ None

-- whether this is the tag of null, bool, int or float; under all others a scalar's text stands for itself
abbrev pub has_value : List ℕ → Bool
has_value g = bytes_eq g null_tag || (bytes_eq g bool_tag || (bytes_eq g int_tag || bytes_eq g float_tag))
