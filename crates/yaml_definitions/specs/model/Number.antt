-- When two values of the core schema are equal: decimals as numbers.
use Rattle.std.specs.Prelude.{◌≡◌, ℕ, ◌*◌, ◌^◌, Bool, ℤ, pos, negsuc, ◌-ℤ◌}
use Rattle.yaml_definitions.specs.model.Core.{Value, decimal_value, signed}

-- a difference, or 0 where it is negative
abbrev pub or_zero : ℤ → ℕ
or_zero (pos n) = n
or_zero (negsuc n) = 0

-- what stands before the power of ten once the exponent k is lowered to l, where l is lower
abbrev pub lowered : Bool → ℕ → ℤ → ℤ → ℤ
lowered negative m k l = signed negative (m * 10 ^ or_zero (k -ℤ l))

-- Two decimals are equal if they are once both have the lesser exponent.
abbrev pub AreEqual : Value → Value → Type 0
AreEqual (decimal_value a m k) (decimal_value b n l) = lowered a m k l ≡ lowered b n l k
AreEqual v w = v ≡ w
