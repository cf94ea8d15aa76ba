-- What scalars denote (YAML 1.2.2, 10.3.2): worked examples, computed.
use Rattle.std.proofs.Common.{◌≡◌, [], refl, Ok, Err}
use Rattle.std.specs.Prelude.{codes}
use Rattle.yaml_definitions.specs.model.Event.{Style, plain, single, double, literal, folded, WrittenTag, untagged, non_specific, full}
use Rattle.yaml_definitions.specs.model.Tag.{core_tag, null_tag, bool_tag, int_tag, float_tag, str_tag, seq_tag, map_tag}
use Rattle.yaml_definitions.specs.model.Core.{Resolved, resolve, collection_tag, wrong_kind, bad_content, int_range, float_range, by_table, by_tag, null_of, bool_of, int_of, float_of, decimal_of, split_at, is_null, content_of, natural_text, int_text, decimal_text, trimmed, exponent}
use Rattle.yaml_definitions.proofs.examples.Build.{Text}

-- what a scalar with this tag, style and text denotes
taken : WrittenTag → Style → Text → Resolved
unfolding resolve by_table by_tag null_of bool_of int_of float_of decimal_of split_at is_null content_of natural_text int_text decimal_text trimmed exponent core_tag
taken g y x = resolve g y (codes x)

-- what an untagged plain scalar denotes
denoted : Text → Resolved
unfolding taken
denoted x = taken untagged plain x

-- ---- null

-- The empty text and four words are null.
empty_is_null : denoted "" ≡ Ok (null_tag, codes "null")
unfolding denoted
empty_is_null = refl

tilde_is_null : denoted "~" ≡ Ok (null_tag, codes "null")
unfolding denoted
tilde_is_null = refl

null_is_null : denoted "null" ≡ Ok (null_tag, codes "null")
unfolding denoted
null_is_null = refl

capital_null_is_null : denoted "Null" ≡ Ok (null_tag, codes "null")
unfolding denoted
capital_null_is_null = refl

upper_null_is_null : denoted "NULL" ≡ Ok (null_tag, codes "null")
unfolding denoted
upper_null_is_null = refl

-- Another mixture of cases is a text.
mixed_null_is_text : denoted "nULL" ≡ Ok (str_tag, codes "nULL")
unfolding denoted
mixed_null_is_text = refl

-- ---- bool

-- Three words each are true and false.
true_is_bool : denoted "true" ≡ Ok (bool_tag, codes "true")
unfolding denoted
true_is_bool = refl

capital_true_is_bool : denoted "True" ≡ Ok (bool_tag, codes "true")
unfolding denoted
capital_true_is_bool = refl

upper_true_is_bool : denoted "TRUE" ≡ Ok (bool_tag, codes "true")
unfolding denoted
upper_true_is_bool = refl

false_is_bool : denoted "false" ≡ Ok (bool_tag, codes "false")
unfolding denoted
false_is_bool = refl

capital_false_is_bool : denoted "False" ≡ Ok (bool_tag, codes "false")
unfolding denoted
capital_false_is_bool = refl

upper_false_is_bool : denoted "FALSE" ≡ Ok (bool_tag, codes "false")
unfolding denoted
upper_false_is_bool = refl

-- `yes`, a bool of YAML 1.1, is a text.
yes_is_text : denoted "yes" ≡ Ok (str_tag, codes "yes")
unfolding denoted
yes_is_text = refl

-- ---- int

-- Hexadecimal and octal ints have the content of their decimal.
hexadecimal : denoted "0x1F" ≡ Ok (int_tag, codes "31")
unfolding denoted
hexadecimal = refl

hexadecimal_in_either_case : denoted "0xaF" ≡ Ok (int_tag, codes "175")
unfolding denoted
hexadecimal_in_either_case = refl

octal : denoted "0o17" ≡ Ok (int_tag, codes "15")
unfolding denoted
octal = refl

-- A plus sign, leading zeros and the sign of zero are not kept.
plus_is_dropped : denoted "+12" ≡ Ok (int_tag, codes "12")
unfolding denoted
plus_is_dropped = refl

minus_is_kept : denoted "-12" ≡ Ok (int_tag, codes "-12")
unfolding denoted
minus_is_kept = refl

minus_zero_is_zero : denoted "-0" ≡ Ok (int_tag, codes "0")
unfolding denoted
minus_zero_is_zero = refl

leading_zeros_are_dropped : denoted "-007" ≡ Ok (int_tag, codes "-7")
unfolding denoted
leading_zeros_are_dropped = refl

leading_zero_is_no_octal : denoted "012" ≡ Ok (int_tag, codes "12")
unfolding denoted
leading_zero_is_no_octal = refl

eight_after_zero : denoted "08" ≡ Ok (int_tag, codes "8")
unfolding denoted
eight_after_zero = refl

-- No sign stands before `0x` and `0o`, which are in lower case and followed by digits of the base.
no_sign_before_hexadecimal : denoted "+0x1" ≡ Ok (str_tag, codes "+0x1")
unfolding denoted
no_sign_before_hexadecimal = refl

no_sign_before_octal : denoted "-0o7" ≡ Ok (str_tag, codes "-0o7")
unfolding denoted
no_sign_before_octal = refl

no_upper_hexadecimal : denoted "0X1F" ≡ Ok (str_tag, codes "0X1F")
unfolding denoted
no_upper_hexadecimal = refl

no_digits_after_hexadecimal : denoted "0x" ≡ Ok (str_tag, codes "0x")
unfolding denoted
no_digits_after_hexadecimal = refl

no_digits_after_octal : denoted "0o" ≡ Ok (str_tag, codes "0o")
unfolding denoted
no_digits_after_octal = refl

no_octal_eight : denoted "0o8" ≡ Ok (str_tag, codes "0o8")
unfolding denoted
no_octal_eight = refl

no_hexadecimal_g : denoted "0x1G" ≡ Ok (str_tag, codes "0x1G")
unfolding denoted
no_hexadecimal_g = refl

-- Neither `_` nor two signs nor a sign alone.
no_underscores : denoted "1_000" ≡ Ok (str_tag, codes "1_000")
unfolding denoted
no_underscores = refl

no_two_signs : denoted "+-1" ≡ Ok (str_tag, codes "+-1")
unfolding denoted
no_two_signs = refl

no_sign_alone : denoted "-" ≡ Ok (str_tag, codes "-")
unfolding denoted
no_sign_alone = refl

-- ---- float

-- `1` is an int and `1.0` is a float, of the same content.
int_is_no_float : denoted "1" ≡ Ok (int_tag, codes "1")
unfolding denoted
int_is_no_float = refl

float_of_one : denoted "1.0" ≡ Ok (float_tag, codes "1")
unfolding denoted
float_of_one = refl

-- One digit stands before the point, and no zeros at the end.
fraction : denoted "12.50" ≡ Ok (float_tag, codes "1.25e+1")
unfolding denoted
fraction = refl

point_first : denoted ".5e1" ≡ Ok (float_tag, codes "5")
unfolding denoted
point_first = refl

point_last : denoted "5." ≡ Ok (float_tag, codes "5")
unfolding denoted
point_last = refl

half : denoted "0.50" ≡ Ok (float_tag, codes "5e-1")
unfolding denoted
half = refl

tenth_is_exact : denoted "0.1" ≡ Ok (float_tag, codes "1e-1")
unfolding denoted
tenth_is_exact = refl

thousand : denoted "1e3" ≡ Ok (float_tag, codes "1e+3")
unfolding denoted
thousand = refl

upper_exponent : denoted "1E3" ≡ Ok (float_tag, codes "1e+3")
unfolding denoted
upper_exponent = refl

exponent_with_plus : denoted "1e+03" ≡ Ok (float_tag, codes "1e+3")
unfolding denoted
exponent_with_plus = refl

exponent_is_added : denoted "1.5e-3" ≡ Ok (float_tag, codes "1.5e-3")
unfolding denoted
exponent_is_added = refl

leading_zeros_of_a_float : denoted "-0012.0" ≡ Ok (float_tag, codes "-1.2e+1")
unfolding denoted
leading_zeros_of_a_float = refl

zero_inside : denoted "1.050" ≡ Ok (float_tag, codes "1.05")
unfolding denoted
zero_inside = refl

-- Every zero is `0`, whatever its exponent.
minus_zero_float : denoted "-0.0" ≡ Ok (float_tag, codes "0")
unfolding denoted
minus_zero_float = refl

far_zero : denoted "0e99999999" ≡ Ok (float_tag, codes "0")
unfolding denoted
far_zero = refl

near_zero : denoted ".0e-99999999" ≡ Ok (float_tag, codes "0")
unfolding denoted
near_zero = refl

-- A digit stands before the point or after it, and after `e` and its sign.
no_point_alone : denoted "." ≡ Ok (str_tag, codes ".")
unfolding denoted
no_point_alone = refl

no_sign_and_point : denoted "-." ≡ Ok (str_tag, codes "-.")
unfolding denoted
no_sign_and_point = refl

no_exponent_alone : denoted "e1" ≡ Ok (str_tag, codes "e1")
unfolding denoted
no_exponent_alone = refl

no_point_and_exponent : denoted ".e1" ≡ Ok (str_tag, codes ".e1")
unfolding denoted
no_point_and_exponent = refl

no_exponent_digits : denoted "1e" ≡ Ok (str_tag, codes "1e")
unfolding denoted
no_exponent_digits = refl

no_exponent_digits_after_sign : denoted "1e+" ≡ Ok (str_tag, codes "1e+")
unfolding denoted
no_exponent_digits_after_sign = refl

no_fraction_in_an_exponent : denoted "1e1.5" ≡ Ok (str_tag, codes "1e1.5")
unfolding denoted
no_fraction_in_an_exponent = refl

no_two_exponents : denoted "1e1e1" ≡ Ok (str_tag, codes "1e1e1")
unfolding denoted
no_two_exponents = refl

no_two_points : denoted "1.2.3" ≡ Ok (str_tag, codes "1.2.3")
unfolding denoted
no_two_points = refl

no_hexadecimal_float : denoted "0x1.8" ≡ Ok (str_tag, codes "0x1.8")
unfolding denoted
no_hexadecimal_float = refl

-- `.inf` takes a sign, and `.nan` none.
infinity_with_plus : denoted "+.inf" ≡ Ok (float_tag, codes ".inf")
unfolding denoted
infinity_with_plus = refl

infinity_with_minus : denoted "-.INF" ≡ Ok (float_tag, codes "-.inf")
unfolding denoted
infinity_with_minus = refl

infinity : denoted ".Inf" ≡ Ok (float_tag, codes ".inf")
unfolding denoted
infinity = refl

mixed_infinity_is_text : denoted ".iNF" ≡ Ok (str_tag, codes ".iNF")
unfolding denoted
mixed_infinity_is_text = refl

not_a_number : denoted ".nan" ≡ Ok (float_tag, codes ".nan")
unfolding denoted
not_a_number = refl

capital_not_a_number : denoted ".NaN" ≡ Ok (float_tag, codes ".nan")
unfolding denoted
capital_not_a_number = refl

upper_not_a_number : denoted ".NAN" ≡ Ok (float_tag, codes ".nan")
unfolding denoted
upper_not_a_number = refl

no_sign_before_nan : denoted "-.nan" ≡ Ok (str_tag, codes "-.nan")
unfolding denoted
no_sign_before_nan = refl

no_plus_before_nan : denoted "+.nan" ≡ Ok (str_tag, codes "+.nan")
unfolding denoted
no_plus_before_nan = refl

-- ---- styles and tags

-- An untagged scalar in quotes or a block, and one tagged `!`, is a text.
quoted_is_text : taken untagged double "12" ≡ Ok (str_tag, codes "12")
unfolding taken
quoted_is_text = refl

single_quoted_is_text : taken untagged single "" ≡ Ok (str_tag, [])
unfolding taken
single_quoted_is_text = refl

literal_is_text : taken untagged literal "true" ≡ Ok (str_tag, codes "true")
unfolding taken
literal_is_text = refl

folded_is_text : taken untagged folded "~" ≡ Ok (str_tag, codes "~")
unfolding taken
folded_is_text = refl

non_specific_is_text : taken non_specific plain "12" ≡ Ok (str_tag, codes "12")
unfolding taken
non_specific_is_text = refl

-- A core tag that is written out takes its patterns in whatever style, and no other text.
null_in_quotes : taken (full null_tag) double "" ≡ Ok (null_tag, codes "null")
unfolding taken
null_in_quotes = refl

float_in_quotes : taken (full float_tag) double "1" ≡ Ok (float_tag, codes "1")
unfolding taken
float_in_quotes = refl

int_in_literal : taken (full int_tag) literal "0x10" ≡ Ok (int_tag, codes "16")
unfolding taken
int_in_literal = refl

yes_is_no_bool : taken (full bool_tag) plain "yes" ≡ Err bad_content
unfolding taken
yes_is_no_bool = refl

eight_is_no_octal : taken (full int_tag) plain "0o8" ≡ Err bad_content
unfolding taken
eight_is_no_octal = refl

float_is_no_int : taken (full int_tag) plain "1.0" ≡ Err bad_content
unfolding taken
float_is_no_int = refl

word_is_no_null : taken (full null_tag) plain "none" ≡ Err bad_content
unfolding taken
word_is_no_null = refl

text_takes_all : taken (full str_tag) plain "12" ≡ Ok (str_tag, codes "12")
unfolding taken
text_takes_all = refl

no_scalar_sequence : taken (full seq_tag) plain "x" ≡ Err wrong_kind
unfolding taken
no_scalar_sequence = refl

no_scalar_mapping : taken (full map_tag) double "" ≡ Err wrong_kind
unfolding taken
no_scalar_mapping = refl

-- Under another tag a text stands for itself.
other_tag_keeps_text : taken (full (codes "!x")) plain "0x1" ≡ Ok (codes "!x", codes "0x1")
unfolding taken
other_tag_keeps_text = refl

-- ---- ranges

-- The exponent of a nonzero float in canonical form is from -1,000,000 to 1,000,000.
too_small : taken untagged plain "1e-1000001" ≡ Err float_range
unfolding taken
too_small = refl

too_great : taken untagged plain "1e1000001" ≡ Err float_range
unfolding taken
too_great = refl

too_great_by_a_digit : taken untagged plain "-10e1000000" ≡ Err float_range
unfolding taken
too_great_by_a_digit = refl

too_small_by_the_point : taken untagged plain "0.1e-1000000" ≡ Err float_range
unfolding taken
too_small_by_the_point = refl

-- An int is from - 2 ^ 127 to 2 ^ 127 - 1.
above_the_greatest_int : taken untagged plain "170141183460469231731687303715884105728" ≡ Err int_range
unfolding taken
above_the_greatest_int = refl

below_the_least_int : taken untagged plain "-170141183460469231731687303715884105729" ≡ Err int_range
unfolding taken
below_the_least_int = refl

hexadecimal_above_the_greatest : taken untagged plain "0x80000000000000000000000000000000" ≡ Err int_range
unfolding taken
hexadecimal_above_the_greatest = refl

number_in_quotes_has_no_range : taken untagged double "170141183460469231731687303715884105728" ≡ Ok (str_tag, codes "170141183460469231731687303715884105728")
unfolding taken
number_in_quotes_has_no_range = refl

-- ---- collections

-- A collection without a tag, or tagged `!`, is seq or map; a core tag needs its kind, and another tag takes any.
plain_sequence : collection_tag 1 untagged ≡ Ok seq_tag
unfolding collection_tag
plain_sequence = refl

non_specific_mapping : collection_tag 2 non_specific ≡ Ok map_tag
unfolding collection_tag
non_specific_mapping = refl

mapping_is_no_sequence : collection_tag 1 (full map_tag) ≡ Err wrong_kind
unfolding collection_tag core_tag
mapping_is_no_sequence = refl

text_is_no_sequence : collection_tag 1 (full str_tag) ≡ Err wrong_kind
unfolding collection_tag core_tag
text_is_no_sequence = refl

null_is_no_mapping : collection_tag 2 (full null_tag) ≡ Err wrong_kind
unfolding collection_tag core_tag
null_is_no_mapping = refl

other_tag_on_a_mapping : collection_tag 2 (full (codes "!x")) ≡ Ok (codes "!x")
unfolding collection_tag core_tag
other_tag_on_a_mapping = refl
