-- Variables of the environment.
use Rattle.std.specs.Prelude.{ℕ, Bool, true, false, nat_lt, Result, Ok, Err}
use Rattle.std.specs.declared.env.FillError.{FillError}
use Rattle.std.specs.declared.env.FillError.TheVariants.{NotPresent, TooLong}

-- a value that is not empty, by its length, or that it is longer than the room for it
abbrev pub is_set : Result ℕ FillError → Bool
is_set (Ok len) = nat_lt 0 len
is_set (Err TooLong) = true
is_set (Err NotPresent) = false
