-- What a text denotes under each tag of the core schema, by its form.
use Rattle.std.specs.Prelude.{◌≡◌, ℕ, Bool, true, false, List, drop, ℤ, pos, Option, Some, None, is_some}
use Rattle.yaml_definitions.specs.model.Core.{Value, infinity, not_a_number, signed, are_digits, number_in, unsigned, is_negative, decimal_of, bool_of, int_of, float_of, is_null}
use Rattle.yaml_core.specs.declared.form.Form.{Form}
use Rattle.yaml_core.specs.declared.form.Form.TheVariants as forms

pub record Values (x : List ℕ) (n : Bool) (b : Option Bool) (i : Option ℤ) (f : Option Value) : Type 0 where
  pub null : is_null x ≡ n
  pub bool : bool_of x ≡ b
  pub int : int_of x ≡ i
  pub float : float_of x ≡ f

abbrev pub decimal_int : List ℕ → ℤ
decimal_int x = signed (is_negative x) (number_in 10 (unsigned x))

abbrev pub HasValues : Form → List ℕ → Type 0
HasValues forms.Null x = Values x true None None None
HasValues forms.True x = Values x false (Some true) None None
HasValues forms.False x = Values x false (Some false) None None
HasValues forms.Decimal x = Values x false None (Some (decimal_int x)) (decimal_of x) × (are_digits 10 (unsigned x) ≡ true) × (is_some (decimal_of x) ≡ true)
HasValues forms.Octal x = Values x false None (Some (pos (number_in 8 (drop 2 x)))) None × (are_digits 8 (drop 2 x) ≡ true)
HasValues forms.Hexadecimal x = Values x false None (Some (pos (number_in 16 (drop 2 x)))) None × (are_digits 16 (drop 2 x) ≡ true)
HasValues forms.Float x = Values x false None None (decimal_of x) × (is_some (decimal_of x) ≡ true)
HasValues forms.Infinity x = Values x false None None (Some (infinity (is_negative x)))
HasValues forms.NotANumber x = Values x false None None (Some not_a_number)
HasValues forms.Other x = Values x false None None None
